use Rattle.std.proofs.Common.{false, refl, Ok, rules}
use Rattle.moving.specs.Used.{Used}
use Rattle.moving.proofs.Calms.{still_does, same_plain}
use Rattle.moving.proofs.Uses.{does, itself}
use Rattle.moving.proofs.asks.page.Goals as goal

pub returns-in_err-page-clause-used : goal.returns-in_err-page-clause-used
returns-in_err-page-clause-used g c =
    let fell : Used 1 (g.P.Place.world c.args.w.now) false (g.P.Place.world c.page.new.self) = does c.in_err-page.ensures.0 c.requires.soon itself in
    search rules

pub returns-clause-used : goal.returns-clause-used
returns-clause-used g c = does c.in_ok-page.ensures.0 c.requires.soon itself

pub returns-clause-line : goal.returns-clause-line
returns-clause-line g c = still_does {X = Unit {0}} (Ok tt) _ c.in_ok-page.ensures.0 (same_plain (g.P.Place.world c.args.w.now)) (λ e. (e, refl))
