use Rattle.std.proofs.Common.{ap, ◌∙◌, rules}
use Rattle.queue.specs.Queues.{letters_of}
use Rattle.side.specs.Sides.{roughened, Linked}
use Rattle.pair.specs.Worlds.{side_of, world_of}
use Rattle.pair.proofs.Sides.{mixed}
use Rattle.pair.proofs.Pair.mix.Goals as goal

pub returns : goal.returns
returns c =
    let h = c.args.self.now in
    let e = c.at.ensures in
    let s = side_of h.turn h in
    let t : Linked s (roughened c.args.how c.args.i (letters_of s.row)) (letters_of s.kept) e.0 = search rules in
    ap world_of e.2 ∙ mixed h h.turn c.args.how c.args.i e.0 t
