use Rattle.std.proofs.Common.{◌≡◌, ℕ, ltb}
use Rattle.pageset.specs.Member.{member}
use Rattle.pageset.proofs.PageSet.below.Given as goal

abbrev pub invariant-loop-p : goal.invariant-loop-p
invariant-loop-p l = (q : ℕ) → member l.s q ≡ ltb q l.p
