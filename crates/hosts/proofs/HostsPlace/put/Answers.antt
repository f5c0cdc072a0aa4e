use Rattle.std.proofs.Common.{refl, ap, ◌∙◌}
use Rattle.moving.specs.Hosts.{put_page}
use Rattle.hosts.specs.Follows.{world_of}
use Rattle.hosts.proofs.Plans.{follows_does, falls_with, ended_as}
use Rattle.hosts.proofs.HostsPlace.put.Goals as goal

pub returns-in_err-due : goal.returns-in_err-due
returns-in_err-due c = let k = falls_with _ c.from_residual.ensures.0 (c.in_err-due.ensures _ _ _) in record { does = follows_does k; planned = k }

pub returns : goal.returns
returns c =
    let begun = c.in_ok-due.ensures in
    let f = ended_as begun c.end.ensures (c.put.ensures ∙ ap (λ ws. put_page c.args.p ws (world_of c.begin.new.self)) c.whole-words.ensures ∙ ap (put_page c.args.p c.args.words.now) begun.world) refl begun.story in
    record { does = follows_does f; planned = f }
