use Rattle.std.proofs.Common.{ap, ◌∙◌, arith, rules}
use Rattle.side.specs.Sides.{kept_by, Turns}
use Rattle.pair.specs.Worlds.{side_of, world_of}
use Rattle.pair.proofs.Sides.{turns}
use Rattle.pair.proofs.Pair.keep.Goals as goal

pub returns : goal.returns
returns c =
    let h = c.args.self.now in
    let e = c.at.ensures in
    let t : Turns 0 (side_of h.turn h) (kept_by c.args.c c.args.x) e.0 = search rules in
    ap world_of e.2 ∙ turns 0 h h.turn (kept_by c.args.c c.args.x) e.0 t (omega arith)
