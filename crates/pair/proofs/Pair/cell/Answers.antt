use Rattle.std.proofs.Common.{ap, ◌∙◌}
use Rattle.side.specs.Sides.{host}
use Rattle.pair.specs.Worlds.{room}
use Rattle.pair.proofs.Sides.{host_is}
use Rattle.pair.proofs.Pair.cell.Goals as goal

pub returns : goal.returns
returns c =
    let h = c.args.self.now in
    c.cell.ensures (room h) ∙ ap (λ s. (host (room h) s).cell c.args.c) c.side.ensures ∙ ap (λ x. x.cell c.args.c) (host_is h h.turn)
