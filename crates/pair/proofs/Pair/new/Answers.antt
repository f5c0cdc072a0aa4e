use Rattle.std.proofs.Common.{refl, arith}
use Rattle.pair.proofs.Memory.{fresh_both}
use Rattle.pair.proofs.Pair.new.Goals as goal

pub returns-clause-start : goal.returns-clause-start
returns-clause-start c =
    (omega arith, omega arith, tt, refl, refl, refl, refl, refl, refl, refl, refl, refl, fresh_both _ c.args.zero c.args.one c.requires.zero c.requires.one (omega arith) (omega arith))
