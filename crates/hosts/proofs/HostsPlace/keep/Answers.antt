use Rattle.std.proofs.Common.{refl, ap, ◌∙◌}
use Rattle.moving.specs.Hosts.{kept}
use Rattle.hosts.proofs.Plans.{follows_does, falls_with, ended_as}
use Rattle.hosts.proofs.HostsPlace.keep.Goals as goal

pub returns-in_err-due : goal.returns-in_err-due
returns-in_err-due c = let k = falls_with _ c.from_residual.ensures.0 (c.in_err-due.ensures _ _ _) in record { does = follows_does k; planned = k }

pub returns : goal.returns
returns c =
    let begun = c.in_ok-due.ensures in
    let f = ended_as begun c.end.ensures (c.keep.ensures ∙ ap (kept c.args.c c.args.x) begun.world) refl begun.story in
    record { does = follows_does f; planned = f }
