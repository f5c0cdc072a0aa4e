use Rattle.std.proofs.Common.{rules}
use Rattle.side.specs.Sides.{Nexts}
use Rattle.pair.specs.Worlds.{side_of}
use Rattle.pair.proofs.Sides.{nexts}
use Rattle.pair.proofs.Pair.next.Goals as goal

pub returns : goal.returns
returns c =
    let h = c.args.self.now in
    let e = c.at.ensures in
    let t : Nexts (side_of h.turn h) c.at.result e.0 = search rules in
    rw e.2 (nexts h h.turn c.at.result e.0 t)
