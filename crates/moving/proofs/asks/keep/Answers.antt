use Rattle.std.proofs.Common.{refl}
use Rattle.moving.proofs.Calms.{still_does, kept_plain}
use Rattle.moving.proofs.Uses.{does}
use Rattle.moving.proofs.asks.keep.Goals as goal

pub returns : goal.returns
returns g c = record { used = does c.keep.ensures c.requires.soon (record { left = refl; fell = refl; pages = refl; calm = refl; still = refl }); does = c.keep.ensures; line = still_does c.keep.result _ c.keep.ensures (kept_plain (g.P.Place.world c.args.w.now) c.args.c c.args.x) (λ e. (e, refl)) }
