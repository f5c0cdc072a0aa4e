use Rattle.std.proofs.Common.{◌≡◌, false, ap, ◌∙◌, arith, rules}
use Rattle.side.specs.Sides.{told_by, Turns}
use Rattle.pair.specs.Worlds.{side_of, world_of}
use Rattle.pair.proofs.Sides.{turns, host_is}
use Rattle.pair.proofs.Pair.hear.Goals as goal

pub returns-clause-after : goal.returns-clause-after
returns-clause-after c =
    let h = c.args.self.now in
    let e = c.at.ensures in
    let t : Turns 0 (side_of h.turn h) (told_by false) e.0 = search rules in
    ap world_of e.2 ∙ turns 0 h h.turn (told_by false) e.0 t (omega arith)

pub returns-clause-value : goal.returns-clause-value
returns-clause-value c =
    let h = c.args.self.now in
    let t : c.at.result ≡ (side_of h.turn h).told = search rules in
    t ∙ ap (λ x. x.told) (host_is h h.turn)
