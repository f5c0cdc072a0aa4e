-- What holds while a play goes on.
-- Assumes nothing.
use Rattle.std.specs.Prelude.{◌≡◌, ℕ, ◌+◌, ◌*◌, ◌<◌, false, []}
use Rattle.moving.specs.declared.Node.{Node}
use Rattle.moving.specs.Hosts.{World, seated}
use Rattle.moving.specs.Model.{Rested}
use Rattle.moving.specs.Invariant.{Whole}
use Rattle.hosts.specs.declared.Hosts.{Hosts}
use Rattle.rounds.specs.declared.Play.{Play}

-- Between rounds: nobody has fallen, and the two nodes and the world are whole, with numbers that have grown by 128 a round at most.
pub record Playing (p : Play) (w : World) : Type 0 where
  pub up : w.fell ≡ false
  pub zero : Rested p.zero
  pub one : Rested p.one
  pub few : p.rounds < 281474976710656
  pub whole : Whole 0 (128 * p.rounds) [] p.zero p.one (seated 0 w)

-- What a simulation is to its callers: hosts, and a play on them.
pub record Simulated : Type 0 where
  pub hosts : Hosts
  pub play : Play

-- A turn of host i begins: there is another node with which all is whole, and room for numbers to grow.
pub record Begins (i : ℕ) (n : Node) (w : World) : Type 0 where
  pub up : w.fell ≡ false
  pub rested : Rested n
  pub m : ℕ
  pub o : Node
  pub room : m + 64 < 18446744073709551616
  pub whole : Whole i m [] n o (seated i w)

-- It has ended: whatever the other node is, all that was whole is so.
pub record Ends (i : ℕ) (n : Node) (w : World) (l : Node) (v : World) : Type 0 where
  pub up : v.fell ≡ false
  pub rested : Rested l
  pub whole : (m : ℕ) (o : Node) → Whole i m [] n o (seated i w) → Whole i (m + 64) [] l o v
