use Rattle.std.proofs.Common.{refl}
use Rattle.moving.proofs.Calms.{still_does, put_plain}
use Rattle.moving.proofs.Uses.{does}
use Rattle.moving.proofs.asks.put.Goals as goal

pub returns-clause-used : goal.returns-clause-used
returns-clause-used g c = does c.put.ensures c.requires.soon (record { left = refl; fell = refl; pages = refl; calm = refl; still = refl })

pub returns-clause-line : goal.returns-clause-line
returns-clause-line g c = still_does c.put.result _ c.put.ensures (put_plain (g.P.Place.world c.args.w.now) c.args.p c.args.words.now) (λ e. (e, refl))
