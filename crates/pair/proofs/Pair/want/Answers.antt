use Rattle.std.proofs.Common.{true, ap, ◌∙◌, arith, rules}
use Rattle.side.specs.Sides.{told_by, Turns}
use Rattle.pair.specs.declared.Pair.{Pair}
use Rattle.pair.specs.Worlds.{side_of, world_of}
use Rattle.pair.proofs.Sides.{turns}
use Rattle.pair.proofs.Pair.want.Goals as goal

pub returns : goal.returns
returns c =
    let h : Pair = record c.args.self.now { wish = true } in
    let e = c.at.ensures in
    let t : Turns 0 (side_of h.last h) (told_by true) e.0 = search rules in
    ap world_of e.2 ∙ turns 0 h h.last (told_by true) e.0 t (omega arith)
