use Rattle.std.proofs.Common.{false, refl, ◌∙◌, arith, rules}
use Rattle.std.proofs.lemmas.List.{get_or-take}
use Rattle.std.proofs.lemmas.List.Elements.{same_from_all_zip}
use Rattle.side.specs.Sides.{size_of, blank}
use Rattle.side.proofs.Puts.{filled}
use Rattle.side.proofs.Side.fall.Goals as goal

pub returns : goal.returns
unfolding size_of
returns c =
    let pages = c.fill.ensures.after (λ y z. search (rules, same_from_all_zip, z.whole)) in
    let flags = c.fill-2.ensures.after (λ y z. search rules) in
    record {
      size = search rules;
      is = λ n. refl;
      page = λ n p lt le. get_or-take n c.fill.new.self p blank lt ∙ filled c.fill.new.self _ _ blank pages p (omega arith);
      touched = λ n p lt le. get_or-take n c.fill-2.new.self p false lt ∙ filled c.fill-2.new.self _ _ false flags p (omega arith);
    }
