use Rattle.std.proofs.Common.{◌≡◌, ◌-◌, [], sym, refl, ap, ◌∙◌, subst, arith}
use Rattle.moving.specs.declared.Node.{Node}
use Rattle.moving.specs.declared.state.State.TheVariants.{Running, Copying}
use Rattle.moving.specs.Model.{on_state, on_top, ticked}
use Rattle.moving.specs.Scan.{GoneOn}
use Rattle.moving.specs.Acted.{New, begins}
use Rattle.moving.specs.Over
use Rattle.moving.specs.Calm.{Within, Went}
use Rattle.moving.proofs.Calms.{still_then}
use Rattle.moving.proofs.Passes.{went_after}
use Rattle.moving.proofs.Ways as ways
use Rattle.moving.proofs.Ways.{unmade, begin, then_call, ends_ok, ends_call}
use Rattle.moving.proofs.Acts.{then_ticks, ran_tidy, run_tidy}
use Rattle.moving.proofs.Node.run.Goals as goal

pub returns-in_err-wants-clause-keeps : goal.returns-in_err-wants-clause-keeps
returns-in_err-wants-clause-keeps g c =
    let e = c.from_residual.ensures.0 in
    ends_call 64 _ c.from_residual.result e (begin [] (on_state (Running c.args.x) c.args.self.now) (g.P.Place.world c.args.w.now) c.requires.soon.up) c.in_err-wants.ensures.keeps (omega arith)

pub returns-then-not-branch-clause-keeps : goal.returns-then-not-branch-clause-keeps
returns-then-not-branch-clause-keeps g c =
    let q = c.in_ok-wants.ensures in
    ends_ok 64 (omega arith) (then_call (begin [] (on_state (Running c.args.x) c.args.self.now) (g.P.Place.world c.args.w.now) c.requires.soon.up) q.used.fell q.keeps)

pub attempt-requires-clause-tidy : goal.attempt-requires-clause-tidy
attempt-requires-clause-tidy g c =
    let q = c.in_ok-wants.ensures in
    ran_tidy c.args.self.now c.wants.new.self c.args.x c.in_ok-wants.field-0 q.is c.requires.tidy

pub attempt-requires-clause-ready : goal.attempt-requires-clause-ready
attempt-requires-clause-ready g c =
    let q = c.in_ok-wants.ensures in
    ways.ready c.requires.ready (omega arith) (then_call (begin [] (on_state (Running c.args.x) c.args.self.now) (g.P.Place.world c.args.w.now) c.requires.soon.up) q.used.fell q.keeps)

pub returns-in_err-attempt-clause-keeps : goal.returns-in_err-attempt-clause-keeps
returns-in_err-attempt-clause-keeps g c =
    let q = c.in_ok-wants.ensures in
    let e = c.from_residual-in_err-attempt.ensures.0 in
    ends_call 64 _ c.from_residual-in_err-attempt.result e (then_call (begin [] (on_state (Running c.args.x) c.args.self.now) (g.P.Place.world c.args.w.now) c.requires.soon.up) q.used.fell q.keeps) c.in_err-attempt.ensures.keeps (omega arith)

pub go_on-requires-clause-ready : goal.go_on-requires-clause-ready
go_on-requires-clause-ready g c =
    let q = c.in_ok-wants.ensures in
    let r = c.in_ok-attempt.ensures in
    let y = c.tick-transfer.result in
    let e : y ≡ ticked c.in_ok-attempt.field-0 = c.tick-transfer.ensures in
    record {
      n = on_state (Copying y) c.attempt.new.self;
      has = refl;
      ready = ways.ready c.requires.ready (omega arith)
          (then_ticks c.attempt.new.self c.in_ok-attempt.field-0 y e (then_call (then_call (begin [] (on_state (Running c.args.x) c.args.self.now) (g.P.Place.world c.args.w.now) c.requires.soon.up) q.used.fell q.keeps) r.used.fell r.keeps));
    }

pub returns-in_err-go_on-clause-keeps : goal.returns-in_err-go_on-clause-keeps
returns-in_err-go_on-clause-keeps g c =
    let q = c.in_ok-wants.ensures in
    let r = c.in_ok-attempt.ensures in
    let y = c.tick-transfer.result in
    let e = c.from_residual-in_err-go_on.ensures.0 in
    ends_call 64 _ c.from_residual-in_err-go_on.result e
    (then_ticks c.attempt.new.self c.in_ok-attempt.field-0 y c.tick-transfer.ensures (then_call (then_call (begin [] (on_state (Running c.args.x) c.args.self.now) (g.P.Place.world c.args.w.now) c.requires.soon.up) q.used.fell q.keeps) r.used.fell r.keeps))
    (c.in_err-go_on.ensures.keeps (on_state (Copying y) c.attempt.new.self) refl) (omega arith)

pub returns-clause-tidy : goal.returns-clause-tidy
returns-clause-tidy g c =
    let q = c.in_ok-wants.ensures in
    let r = c.in_ok-attempt.ensures in
    run_tidy c.args.self.now c.wants.new.self c.attempt.new.self c.args.x c.in_ok-wants.field-0 c.in_ok-attempt.field-0.attempt c.go_on.new.self q.is r.is r.new.2 c.in_ok-go_on.ensures.sound c.requires.tidy

pub returns-clause-is : goal.returns-clause-is
returns-clause-is g c =
    let q = c.in_ok-wants.ensures in
    let r = c.in_ok-attempt.ensures in
    let y = c.tick-transfer.result in
    let p = subst (λ z. New z (on_state (Running (record { wanted = c.in_ok-wants.field-0 })) c.args.self.now) c.in_ok-attempt.field-0) q.used.pages (subst (λ (k : Node). New (g.P.Place.world c.wants.new.w).pages k c.in_ok-attempt.field-0) q.is r.pass) in
    let k = still_then q.line r.line in
    begins c.in_ok-attempt.field-0 (sym q.value ∙ c.if-not-branch.false) (record { above = p.above; least = p.least; own = p.own; empty = p.empty; base = p.base; all = p.all; cursor = p.cursor; sent = p.sent; turns = p.turns; prev = p.prev })
    (record { after = c.go_on.new.self; goes = subst (λ d. GoneOn (g.P.Place.world c.args.w.now).pages (c.args.most - 2) d c.go_on.new.self) c.tick-transfer.ensures (subst (λ p. GoneOn p (c.args.most - 2) y c.go_on.new.self) (r.used.pages ∙ q.used.pages) c.in_ok-go_on.ensures.is); node = ap (on_state (Copying c.go_on.new.self)) (r.is ∙ ap (λ (k : Node). on_top c.in_ok-attempt.field-0.attempt k.state k) q.is) })

pub returns-clause-makes : goal.returns-clause-makes
returns-clause-makes g c =
    let q = c.in_ok-wants.ensures in
    let r = c.in_ok-attempt.ensures in
    let y = c.tick-transfer.result in
    let p = subst (λ z. New z (on_state (Running (record { wanted = c.in_ok-wants.field-0 })) c.args.self.now) c.in_ok-attempt.field-0) q.used.pages (subst (λ (k : Node). New (g.P.Place.world c.wants.new.w).pages k c.in_ok-attempt.field-0) q.is r.pass) in
    let k = still_then q.line r.line in
    Over.RunOver.begins c.in_ok-attempt.field-0 (sym q.value ∙ c.if-not-branch.false) (record { above = p.above; least = p.least; own = p.own; empty = p.empty; base = p.base; all = p.all; cursor = p.cursor; sent = p.sent; turns = p.turns; prev = p.prev })
    (record { after = c.go_on.new.self; goes = subst (λ d. GoneOn (g.P.Place.world c.args.w.now).pages (c.args.most - 2) d c.go_on.new.self) c.tick-transfer.ensures (subst (λ p. GoneOn p (c.args.most - 2) y c.go_on.new.self) (r.used.pages ∙ q.used.pages) c.in_ok-go_on.ensures.is); within = subst (λ d. Within (g.P.Place.world c.args.w.now).pages d c.go_on.new.self) c.tick-transfer.ensures (subst (λ p. Within p y c.go_on.new.self) (r.used.pages ∙ q.used.pages) c.in_ok-go_on.ensures.within); went = subst (λ d. Went d (g.P.Place.world c.args.w.now) c.go_on.new.self (g.P.Place.world c.go_on.new.w)) c.tick-transfer.ensures (went_after k.calmly (r.used.pages ∙ q.used.pages) k.own k.far c.in_ok-go_on.ensures.line.0); node = ap (on_state (Copying c.go_on.new.self)) (r.is ∙ ap (λ (k : Node). on_top c.in_ok-attempt.field-0.attempt k.state k) q.is) })

pub returns-clause-keeps : goal.returns-clause-keeps
returns-clause-keeps g c =
    let q = c.in_ok-wants.ensures in
    let r = c.in_ok-attempt.ensures in
    let y = c.tick-transfer.result in
    ends_ok 64 (omega arith)
    (then_call (then_ticks c.attempt.new.self c.in_ok-attempt.field-0 y c.tick-transfer.ensures (then_call (then_call (begin [] (on_state (Running c.args.x) c.args.self.now) (g.P.Place.world c.args.w.now) c.requires.soon.up) q.used.fell q.keeps) r.used.fell r.keeps))
    c.in_ok-go_on.ensures.used.fell (c.in_ok-go_on.ensures.keeps (on_state (Copying y) c.attempt.new.self) refl))
