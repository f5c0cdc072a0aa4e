use Rattle.std.proofs.Common.{refl, rules}
use Rattle.pair.proofs.Pair.at.Goals as goal

pub returns-in-Zero : goal.returns-in-Zero
returns-in-Zero g c = rw c.in-Zero.is (c.f.new.arg2, search rules, refl)

pub returns-in-One : goal.returns-in-One
returns-in-One g c = rw c.in-One.is (c.f-in-One.new.arg2, search rules, refl)
