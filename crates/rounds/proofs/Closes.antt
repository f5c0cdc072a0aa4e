-- The end of a round, also of a late one, keeps all whole.
-- Assumes nothing.
use Rattle.std.proofs.Common.{◌≡◌, ℕ, ◌<◌, ◌≤◌, [], refl, arith}
use mathlib.Core.Path.{subst⁻¹}
use Rattle.who.specs.declared.Who.{Who}
use Rattle.who.specs.declared.Who.TheVariants.{Zero, One}
use Rattle.who.specs.Numbers.{numb}
use Rattle.moving.specs.declared.Node.{Node}
use Rattle.moving.specs.Hosts.{World, seated}
use Rattle.moving.specs.Invariant.{Whole}
use Rattle.moving.proofs.Steps.{swap_whole, more_whole}
use Rattle.pair.specs.Worlds.{closed}

-- there are two hosts
pub two : (v : Who) → numb v < 2
two Zero = omega arith
two One = omega arith

pub closes : {m : ℕ} {n o : Node} {w v : World} (k : ℕ) → m ≤ k → v ≡ closed w → Whole 1 m [] n o w → Whole 0 k [] o n (seated 0 v)
closes {n = n} {o = o} k p e h =
    let x = swap_whole 0 (omega arith) refl (more_whole p h) in
    subst⁻¹ (λ v. Whole 0 k [] o n (seated 0 v)) e (record { turn = x.turn; small = x.small; last = x.last; both = x.both })
