-- What a host's own act and a whole turn make of its node and of the world, if nothing falls: what `Acted` says of the node, and beside that what
-- became of the line and of the pages that were written.
-- pages: how many there are; most: how often it may ask at most; from the node n and the world w to m and v.
-- Assumes nothing.
use Rattle.std.specs.Prelude.{◌≡◌, ℕ, ◌+◌, ◌-◌, ◌*◌, ◌<◌, ◌≤◌, Bool, true, false, ◌||◌, [], length}
use Rattle.letter.specs.declared.Kind.TheVariants.{Commit}
use Rattle.letter.specs.Words.{head}
use Rattle.moving.specs.declared.state.Transfer.{Transfer}
use Rattle.moving.specs.declared.state.Running.{Running as Run}
use Rattle.moving.specs.declared.state.Paused.{Paused as Pause}
use Rattle.moving.specs.declared.state.State.{State}
use Rattle.moving.specs.declared.state.State.TheVariants.{Away, Receiving, Running, Copying, Paused, Committed}
use Rattle.moving.specs.declared.Node.{Node}
use Rattle.moving.specs.Hosts.{World, me}
use Rattle.moving.specs.Invariant.{Whole}
use Rattle.moving.specs.Model.{on_state, on_top, ticked, anew, afresh, over, woken, silent}
use Rattle.moving.specs.Scan.{GoneOn}
use Rattle.moving.specs.Acted.{New, Heard, commits, said_again, took_for}
use Rattle.moving.specs.Calm.{row_here, Rests, Still, Added, Within, Went, HeardAll, reply_of, SentIf}

-- The guest is copied on: the transfer has gone on from x.
pub record CopiesOver (pages most : ℕ) (x : Transfer) (n : Node) (w : World) (m : Node) (v : World) : Type 0 where
  pub after : Transfer
  pub goes : GoneOn pages most x after
  pub within : Within pages x after
  pub went : Went x w after v
  pub node : m ≡ on_state (Copying after) n

-- It stands, since so many turns: the transfer has gone on from x.
pub record PausesOver (pages most : ℕ) (x : Transfer) (attempt turns : ℕ) (n : Node) (w : World) (m : Node) (v : World) : Type 0 where
  pub after : Transfer
  pub goes : GoneOn pages most x after
  pub within : Within pages x after
  pub went : Went x w after v
  pub node : m ≡ on_state (Paused (record { transfer = after; right = record { attempt = attempt }; turns = turns })) n

-- The guest runs here and nobody wants it elsewhere (told: what was answered to that), or an attempt begins.
pub data RunOver (pages most : ℕ) (told : Bool) (x : Run) (n : Node) (w : World) (m : Node) (v : World) : Type 0 where
  stays : (x.wanted || told) ≡ false → m ≡ on_state (Running (record { wanted = false })) n → Still w v → RunOver pages most told x n w m v
  begins : (c : Transfer) → (x.wanted || told) ≡ true → New pages n c → CopiesOver pages (most - 2) (ticked c) (on_top c.attempt n.state n) w m v → RunOver pages most told x n w m v

-- A pass goes on; or is over, and another begins; or that one begins with a stop.
pub data CopyOver (pages most : ℕ) (x : Transfer) (n : Node) (w : World) (m : Node) (v : World) : Type 0 where
  on : over pages x ≡ false → CopiesOver pages most (ticked x) n w m v → CopyOver pages most x n w m v
  again : over pages x ≡ true → 37 < x.turns → CopiesOver pages most (ticked (anew x)) n w m v → CopyOver pages most x n w m v
  stops : over pages x ≡ true → x.turns ≤ 37 → PausesOver pages (most - 1) (ticked (anew x)) x.attempt 1 n w m v → CopyOver pages most x n w m v

-- All is there, and the attempt is committed; or it stands for too long and is resumed; or the rest goes on.
pub data PauseOver (pages most : ℕ) (x : Pause) (n : Node) (w : World) (m : Node) (v : World) : Type 0 where
  settles : over pages x.transfer ≡ true → m ≡ commits x.transfer.attempt n → Added (head Commit x.transfer.attempt 0 0) w v → PauseOver pages most x n w m v
  resumes : over pages x.transfer ≡ false → 27 ≤ x.turns → CopiesOver pages (most - 1) (ticked (afresh x.transfer)) (took_for x.transfer.attempt n) w m v → PauseOver pages most x n w m v
  goes : over pages x.transfer ≡ false → x.turns < 27 → PausesOver pages most (ticked x.transfer) x.right.attempt (x.turns + 1) n w m v → Rests w v → PauseOver pages most x n w m v

-- What it does by itself, by its state, which is given beside the rest of the node, n.
abbrev pub ActedOver : (pages most : ℕ) (told : Bool) → State → (n : Node) (w : World) (m : Node) (v : World) → Type 0
ActedOver pages most told Away n w m v = (m ≡ on_state Away n) × Still w v
ActedOver pages most told (Receiving x) n w m v = (m ≡ on_state (Receiving x) n) × Still w v
ActedOver pages most told (Running x) n w m v = RunOver pages most told x n w m v
ActedOver pages most told (Copying x) n w m v = CopyOver pages most x n w m v
ActedOver pages most told (Paused x) n w m v = PauseOver pages most x n w m v
ActedOver pages most told (Committed x) n w m v = (m ≡ said_again x n) × Added (head Commit x.attempt 0 0) w v

-- A whole turn in which nothing falls: it wakes, hears letters, acts with 124 asks or more, and answers who asked.
-- heard, quiet: the node and the world when all letters were heard; acted, done: when it has acted.
-- cost: a node that was awake has used two asks for each letter, one to know that there is no more, and one is kept for the answer.
pub record TurnedOver (w : World) (n m : Node) (v : World) : Type 0 where
  pub heard : Node
  pub acted : Node
  pub quiet : World
  pub done : World
  pub most : ℕ
  pub enough : 124 ≤ most
  pub letters : Heard w.pages (woken ((me w).cell 0) ((me w).cell 1) ((me w).cell 2) n) heard
  pub hears : HeardAll w.pages (woken ((me w).cell 0) ((me w).cell 1) ((me w).cell 2) n) w heard quiet
  pub cost : n.awake ≡ true → quiet.rough ≡ false → 254 ≤ most + 2 * length (row_here w)
  pub acts : ActedOver w.pages most (me quiet).told heard.state (on_state Away heard) quiet acted done
  pub replies : SentIf (reply_of acted) done v
  pub node : m ≡ silent acted
  pub awake : m.awake ≡ true
  pub mid : (i k : ℕ) (o : Node) → Whole i k [] n o w → Whole i k [] heard o quiet
