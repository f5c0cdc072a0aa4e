use Rattle.std.proofs.Common.{rules, ◌≡◌, ◌*◌, ◌∙◌, ap, arith, length}
use Rattle.std.proofs.lemmas.Iterator.{YieldsList-from_slice, YieldsList-from_map}
use Rattle.std.proofs.lemmas.Iterator.Consumers.{sum_by_from_yields_List, fits_by_from_yields_list}
use Rattle.pageset.specs.Count.{count}
use Rattle.pageset.specs.Member.{bit_at}
use Rattle.pageset.proofs.Bits.{held_in, words_count}
use Rattle.pageset.proofs.Counts.{count_most}
use Rattle.pageset.proofs.PageSet.len.Goals as goal

pub sum-requires-clause-fits : goal.sum-requires-clause-fits
sum-requires-clause-fits c =
    let ws = c.args.self.now.words in
    fits_by_from_yields_list held_in ws c.map.result _ (YieldsList-from_map _ held_in (YieldsList-from_slice ws cc) c.map.ensures.closure (λ x r q k. search rules))
    (omega (arith, words_count ws, count_most (bit_at ws) (64 * length ws)))

pub returns : goal.returns
returns c =
    let ws = c.args.self.now.words in
    let e : 64 * length ws ≡ 4096 = omega arith in
    let n =
    sum_by_from_yields_List held_in ws c.map.result c.sum.result c.sum.ensures.ran (YieldsList-from_map _ held_in (YieldsList-from_slice ws cc) c.map.ensures.closure (λ x r q k. search rules))
    ∙ words_count ws ∙ ap (count (bit_at ws)) e in
    omega (arith, n, count_most (bit_at ws) 4096)
