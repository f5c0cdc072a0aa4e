use Rattle.std.proofs.Common.{refl, rules}
use Rattle.side.specs.Sides.{Fell}
use Rattle.pair.specs.Worlds.{side_of}
use Rattle.pair.proofs.Sides.{dropped}
use Rattle.pair.proofs.Pair.drop_pages.Goals as goal

pub returns : goal.returns
returns c =
    let h = c.args.self.now in
    let e = c.at.ensures in
    let x = c.args.wreck in
    let t : Fell x.word x.touched (side_of h.turn h) e.0 = search rules in
    rw e.2 (dropped h h.turn x.word x.touched e.0 refl t)
