use Rattle.std.proofs.Common.{refl, ap, ◌∙◌}
use Rattle.moving.specs.Hosts.{me}
use Rattle.hosts.proofs.Plans.{follows_does, falls_with, no_value, ended_as}
use Rattle.hosts.proofs.HostsPlace.page.Goals as goal

pub returns-in_err-due : goal.returns-in_err-due
returns-in_err-due c = let k = falls_with _ c.from_residual.ensures.0 (c.in_err-due.ensures _ _ _) in record { does = (follows_does k, no_value _ c.from_residual.ensures.0); planned = k }

pub returns : goal.returns
returns c =
    let begun = c.in_ok-due.ensures in
    let f = ended_as begun c.end.ensures begun.world refl begun.story in
    record { does = (follows_does f, λ _. c.copy_from_slice.ensures.after ∙ c.page.ensures ∙ ap (λ u. (me u).page c.args.p) begun.world); planned = f }
