use Rattle.std.proofs.Common.{false, refl, rules}
use Rattle.std.proofs.lemmas.List.Elements.{same_from_all_zip}
use Rattle.side.specs.Sides.{blank}
use Rattle.side.proofs.Puts.{zeros, filled}
use Rattle.side.proofs.Side.new.Goals as goal

pub returns-clause-fresh : goal.returns-clause-fresh
returns-clause-fresh c =
    record {
      told = refl;
      row = c.new.ensures.letters;
      kept = c.new-2.ensures.letters;
      cell = zeros 64;
      page = filled c.fill.new.self _ _ blank (c.fill.ensures.after (λ y z. search (rules, same_from_all_zip, z.whole)));
      touched = filled c.fill-2.new.self _ _ false (c.fill-2.ensures.after (λ y z. search rules));
    }
