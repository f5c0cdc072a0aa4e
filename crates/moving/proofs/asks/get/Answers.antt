use Rattle.std.proofs.Common.{refl}
use Rattle.moving.proofs.Calms.{still_does, same_plain}
use Rattle.moving.proofs.Uses.{does, itself, answered}
use Rattle.moving.proofs.asks.get.Goals as goal

pub returns : goal.returns
returns g c = record { used = does c.get.ensures.0 c.requires.soon itself; does = c.get.ensures.0; value = answered c.get.result _ c.get.ensures.1; line = still_does c.get.result _ c.get.ensures.0 (same_plain (g.P.Place.world c.args.w.now)) (λ e. (e, refl)) }
