use Rattle.std.proofs.Common.{◌+◌, ap, ◌∙◌, arith, rules}
use Rattle.side.specs.Sides.{put_by, Turns}
use Rattle.pair.specs.Worlds.{side_of, world_of}
use Rattle.pair.proofs.Sides.{turns}
use Rattle.pair.proofs.Pair.put.Goals as goal

pub returns : goal.returns
returns c =
    let h = c.args.self.now in
    let e = c.at.ensures in
    let f = put_by c.args.p c.args.words.now in
    let t : Turns (c.args.p + 1) (side_of h.turn h) f e.0 = search rules in
    ap world_of e.2 ∙ turns (c.args.p + 1) h h.turn f e.0 t (omega arith)
