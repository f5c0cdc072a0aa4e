use Rattle.std.proofs.Common.{refl}
use Rattle.moving.proofs.Calms.{still_does, resumed_plain, resumed_rests}
use Rattle.moving.proofs.Uses.{does}
use Rattle.moving.proofs.asks.resume.Goals as goal

pub returns : goal.returns
returns g c = record { used = does c.resume.ensures c.requires.soon (record { left = refl; fell = refl; pages = refl; calm = refl; still = refl }); does = c.resume.ensures; line = still_does c.resume.result _ c.resume.ensures (resumed_plain (g.P.Place.world c.args.w.now) c.args.x) (resumed_rests (g.P.Place.world c.args.w.now) c.args.x) }
