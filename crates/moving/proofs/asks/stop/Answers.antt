use Rattle.std.proofs.Common.{refl}
use Rattle.moving.proofs.Calms.{offline_does, stopped_plain}
use Rattle.moving.proofs.Uses.{does}
use Rattle.moving.proofs.asks.stop.Goals as goal

pub returns : goal.returns
returns g c = record { used = does c.stop.ensures c.requires.soon (record { left = refl; fell = refl; pages = refl; calm = refl; still = refl }); does = c.stop.ensures; line = offline_does c.stop.result _ c.stop.ensures (stopped_plain (g.P.Place.world c.args.w.now)) }
