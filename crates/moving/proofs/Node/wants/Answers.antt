use Rattle.std.proofs.Common.{[], refl, arith}
use Rattle.moving.specs.declared.state.State.TheVariants.{Running}
use Rattle.moving.specs.Hosts.{me}
use Rattle.moving.specs.Model.{on_state}
use Rattle.moving.proofs.Ways.{begin, fine, then_ok, ends_ok, ends_err}
use Rattle.moving.proofs.Acts.{told_any}
use Rattle.moving.proofs.Node.wants.Goals as goal

pub returns-in_err-told-clause-keeps : goal.returns-in_err-told-clause-keeps
returns-in_err-told-clause-keeps g c =
    let e = c.from_residual.ensures.0 in
    let w = g.P.Place.world c.args.w.now in
    ends_err 0 0 _ c.from_residual.result e (omega arith) (begin [] (on_state (Running c.args.x) c.args.self.now) w c.requires.soon.up) c.in_err-told.ensures.does (fine (λ i z o h. told_any c.args.self.now c.args.x (me w).told c.if-x.false refl h))

pub returns-clause-keeps : goal.returns-clause-keeps
returns-clause-keeps g c = ends_ok 0 (omega arith) (then_ok 0 (begin [] (on_state (Running c.args.x) c.args.self.now) (g.P.Place.world c.args.w.now) c.requires.soon.up) c.in_ok-told.ensures.does refl (fine (λ i z o h. told_any c.args.self.now c.args.x c.in_ok-told.told c.if-x.false c.in_ok-told.ensures.value h)))
