use Rattle.std.proofs.Common.{is_ok, subst}
use Rattle.moving.specs.Hosts.{Posts}
use Rattle.moving.proofs.Calms.{added_posts}
use Rattle.moving.proofs.Uses.{sent}
use Rattle.moving.proofs.asks.send.Goals as goal

pub returns-clause-used : goal.returns-clause-used
returns-clause-used g c = sent c.send.ensures c.requires.soon

pub returns-clause-line : goal.returns-clause-line
returns-clause-line g c =
    let sends = subst (λ l. Posts (g.P.Place.world c.args.w.now) l (is_ok c.send.result) (g.P.Place.world c.send.new.self)) c.write.ensures c.send.ensures in
    added_posts c.send.result _ c.args.l.now sends
