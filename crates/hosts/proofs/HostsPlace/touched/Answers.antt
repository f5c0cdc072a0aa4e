use Rattle.std.proofs.Common.{Ok, refl, ap, ◌∙◌}
use Rattle.moving.specs.Hosts.{me, untouched}
use Rattle.hosts.proofs.Plans.{follows_does, falls_with, no_value, ended_as}
use Rattle.hosts.proofs.HostsPlace.touched.Goals as goal

pub returns-in_err-due : goal.returns-in_err-due
returns-in_err-due c = let k = falls_with _ c.from_residual.ensures.0 (c.in_err-due.ensures _ _ _) in record { does = (follows_does k, no_value _ c.from_residual.ensures.0); planned = k }

pub returns-in_err-end : goal.returns-in_err-end
returns-in_err-end c =
    let begun = c.in_ok-due.ensures in
    let f = ended_as begun c.in_err-end.ensures (c.untouch-value.ensures.after ∙ ap (untouched c.args.p) begun.world) refl begun.story in
    let k = falls_with _ c.from_residual-in_err-end.ensures.0 f in
    record { does = (follows_does k, no_value _ c.from_residual-in_err-end.ensures.0); planned = k }

pub returns : goal.returns
returns c =
    let begun = c.in_ok-due.ensures in
    let f = ended_as begun c.in_ok-end.ensures (c.untouch-value.ensures.after ∙ ap (untouched c.args.p) begun.world) refl begun.story in
    record { does = (follows_does f, λ _. ap Ok (c.untouch-value.ensures.value ∙ ap (λ u. (me u).touched c.args.p) begun.world)); planned = f }
