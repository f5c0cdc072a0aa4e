use Rattle.std.proofs.Common.{refl}
use Rattle.moving.proofs.Calms.{still_does, untouched_plain}
use Rattle.moving.proofs.Uses.{does, answered}
use Rattle.moving.proofs.asks.touched.Goals as goal

pub returns : goal.returns
returns g c = record { used = does c.touched.ensures.0 c.requires.soon (record { left = refl; fell = refl; pages = refl; calm = refl; still = refl }); does = c.touched.ensures.0; value = answered c.touched.result _ c.touched.ensures.1; line = still_does c.touched.result _ c.touched.ensures.0 (untouched_plain (g.P.Place.world c.args.w.now) c.args.p) (λ e. (e, refl)) }
