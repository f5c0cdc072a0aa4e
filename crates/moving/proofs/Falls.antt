-- What an ask, and a step between rounds, does to the flag `fell`.
use Rattle.std.proofs.Common.{◌≡◌, Bool, false, not, T, ap, ◌∙◌, subst}
use Rattle.moving.specs.Hosts.{World, Does, stands, falls_before, falls_after, down, Between, asked}
use Rattle.moving.proofs.Steps.{goes_fell}

-- After an ask of a host that stood, it has fallen just if the ask failed.
pub does_fell : {w d v : World} {b : Bool} → Does w d b v → w.fell ≡ false → d.fell ≡ false → v.fell ≡ not b
does_fell (stands v e g) up keeps = goes_fell g ∙ keeps
does_fell (falls_before v e f) up keeps = ap (λ w. w.fell) f.is
does_fell (falls_after v e f) up keeps = ap (λ w. w.fell) f.is
does_fell (down t) up keeps = absurd (subst T up t)

-- Nobody falls between rounds.
pub between_fell : {w v : World} → Between w v → v.fell ≡ w.fell
between_fell (Between.nothing v g) = goes_fell g
between_fell (asked v a b g) = goes_fell g
