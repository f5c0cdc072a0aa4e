use Rattle.std.proofs.Common.{refl}
use Rattle.moving.proofs.Calms.{still_does, heard_plain}
use Rattle.moving.proofs.Uses.{does, answered}
use Rattle.moving.proofs.asks.told.Goals as goal

pub returns : goal.returns
returns g c = record { used = does c.told.ensures.0 c.requires.soon (record { left = refl; fell = refl; pages = refl; calm = refl; still = refl }); does = c.told.ensures.0; value = answered c.told.result _ c.told.ensures.1; line = still_does c.told.result _ c.told.ensures.0 (heard_plain (g.P.Place.world c.args.w.now)) (λ e. (e, refl)) }
