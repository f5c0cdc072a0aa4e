use Rattle.std.proofs.Common.{rules}
use Rattle.side.specs.Sides.{Posted}
use Rattle.pair.specs.Worlds.{side_of}
use Rattle.pair.proofs.Sides.{posted}
use Rattle.pair.proofs.Pair.post.Goals as goal

pub returns : goal.returns
returns c =
    let h = c.args.self.now in
    let e = c.at.ensures in
    let v = c.other-to.result in
    let a = c.args.post in
    let t : Posted a.lost a.kept (side_of v h) c.args.letter.now c.at.result e.0 = search rules in
    rw (e.2, ← c.other-to.ensures) (posted h v a.lost a.kept c.args.letter.now c.at.result e.0 t)
