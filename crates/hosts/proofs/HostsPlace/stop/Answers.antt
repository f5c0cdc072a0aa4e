use Rattle.std.proofs.Common.{ap, ◌∙◌}
use Rattle.moving.specs.Hosts.{stopped, counted}
use Rattle.hosts.specs.declared.log.What.TheVariants.{Stop}
use Rattle.hosts.specs.Follows.{world_of}
use Rattle.hosts.proofs.Plans.{follows_does, falls_with, ended_as, told_through}
use Rattle.hosts.proofs.HostsPlace.stop.Goals as goal

pub returns-in_err-due : goal.returns-in_err-due
returns-in_err-due c = let k = falls_with _ c.from_residual.ensures.0 (c.in_err-due.ensures _ _ _) in record { does = follows_does k; planned = k }

pub returns : goal.returns
returns c =
    let begun = c.in_ok-due.ensures in
    let world = c.stop.ensures ∙ ap stopped begun.world in
    let story = told_through Stop _ (counted (stopped (world_of c.args.self.now))) c.tell.ensures.story world begun.story in
    let f = ended_as begun c.end.ensures (c.tell.ensures.same.0 ∙ world) c.tell.ensures.same.1 story in
    record { does = follows_does f; planned = f }
