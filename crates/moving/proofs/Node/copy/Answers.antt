use Rattle.std.proofs.Common.{◌≡◌, ◌-◌, [], sym, refl, ap, ◌∙◌, subst, arith, rules}
use Rattle.moving.specs.declared.state.Paused.{Paused as Pause}
use Rattle.moving.specs.declared.state.State.TheVariants.{Copying, Paused}
use Rattle.moving.specs.Model.{on_state, ticked, anew}
use Rattle.moving.specs.Scan.{GoneOn}
use Rattle.moving.specs.Over
use Rattle.moving.specs.Calm.{Within, Went}
use Rattle.moving.proofs.Passes.{went_after}
use Rattle.moving.proofs.Ways as ways
use Rattle.moving.proofs.Ways.{unmade, begin, fine, then_ok, then_call, ends_ok, ends_err, ends_call}
use Rattle.moving.proofs.Acts.{ticks, ticks_anew, gone_attempt, stop_anew}
use Rattle.moving.proofs.Node.copy.Goals as goal

pub go_on-requires-clause-ready : goal.go_on-requires-clause-ready
go_on-requires-clause-ready g c =
    let n = c.args.self.now in
    let y = c.tick-y.result in
    let e : y ≡ ticked c.args.x = c.tick-y.ensures in
    record { n = on_state (Copying y) n; has = refl; ready = ways.ready c.requires.ready (omega arith) (ticks n c.args.x y e c.requires.soon.up) }

pub returns-in_err-go_on-clause-keeps : goal.returns-in_err-go_on-clause-keeps
returns-in_err-go_on-clause-keeps g c =
    let n = c.args.self.now in
    let y = c.tick-y.result in
    let e = c.from_residual.ensures.0 in
    ends_call 62 _ c.from_residual.result e (ticks n c.args.x y c.tick-y.ensures c.requires.soon.up) (c.in_err-go_on.ensures.keeps (on_state (Copying y) n) refl) (omega arith)

pub returns-then-not-is_over-clause-keeps : goal.returns-then-not-is_over-clause-keeps
returns-then-not-is_over-clause-keeps g c =
    let n = c.args.self.now in
    let y = c.tick-y.result in
    ends_ok 62 (omega arith) (then_call (ticks n c.args.x y c.tick-y.ensures c.requires.soon.up) c.in_ok-go_on.ensures.used.fell (c.in_ok-go_on.ensures.keeps (on_state (Copying y) n) refl))

pub returns-in_err-go_on-2-clause-keeps : goal.returns-in_err-go_on-2-clause-keeps
returns-in_err-go_on-2-clause-keeps g c =
    let n = c.args.self.now in
    let y = c.tick-y-2.result in
    let e = c.from_residual-in_err-go_on-2.ensures.0 in
    ends_call 62 _ c.from_residual-in_err-go_on-2.result e (ticks_anew n c.args.x y (c.tick-y-2.ensures ∙ ap ticked c.new_pass.ensures) c.requires.soon.up) (c.in_err-go_on-2.ensures.keeps (on_state (Copying y) n) refl) (omega arith)

pub returns-in_err-right-clause-keeps : goal.returns-in_err-right-clause-keeps
returns-in_err-right-clause-keeps g c =
    let n = c.args.self.now in
    let y = c.tick-y-2.result in
    let z : Pause = record { transfer = y; right = record { attempt = y.attempt }; turns = 1 } in
    let e = c.from_residual-in_err-right.ensures.0 in
    ends_err 62 0 _ c.from_residual-in_err-right.result e (omega arith) (begin [] (on_state (Copying c.args.x) n) (g.P.Place.world c.args.w.now) c.requires.soon.up) c.in_err-right.ensures.does (fine (λ i m o h. stop_anew n c.args.x z (c.tick-y-2.ensures ∙ ap ticked c.new_pass.ensures) h))

pub go_on-requires-2-clause-ready : goal.go_on-requires-2-clause-ready
go_on-requires-2-clause-ready g c =
    let n = c.args.self.now in
    let y = c.tick-y-2.result in
    let z : Pause = record { transfer = y; right = c.in_ok-right.right; turns = 1 } in
    let e : y ≡ ticked (anew c.args.x) = c.tick-y-2.ensures ∙ ap ticked c.new_pass.ensures in
    record { n = on_state (Paused z) n; has = refl; ready = ways.ready c.requires.ready (omega arith) (then_ok 0 (begin [] (on_state (Copying c.args.x) n) (g.P.Place.world c.args.w.now) c.requires.soon.up) c.in_ok-right.ensures.does refl (fine (λ i m o h. stop_anew n c.args.x z e h))) }

pub returns-in_err-go_on-3-clause-keeps : goal.returns-in_err-go_on-3-clause-keeps
returns-in_err-go_on-3-clause-keeps g c =
    let n = c.args.self.now in
    let y = c.tick-y-2.result in
    let z : Pause = record { transfer = y; right = c.in_ok-right.right; turns = 1 } in
    let e = c.from_residual-in_err-go_on-3.ensures.0 in
    ends_call 62 _ c.from_residual-in_err-go_on-3.result e (then_ok 0 (begin [] (on_state (Copying c.args.x) n) (g.P.Place.world c.args.w.now) c.requires.soon.up) c.in_ok-right.ensures.does refl (fine (λ i m o h. stop_anew n c.args.x z (c.tick-y-2.ensures ∙ ap ticked c.new_pass.ensures) h))) (c.in_err-go_on-3.ensures.keeps (on_state (Paused z) n) refl) (omega arith)

pub returns-clause-tidy : goal.returns-clause-tidy
returns-clause-tidy g c = record { awake = c.requires.tidy.awake; windowed = (c.in_ok-go_on-3.ensures.sound, c.in_ok-right.ensures.right ∙ sym (gone_attempt c.in_ok-go_on-3.ensures.is)); asked = c.requires.tidy.asked }

pub returns-clause-makes : goal.returns-clause-makes
returns-clause-makes g c =
    let y = c.tick-y-2.result in
    let k = c.in_ok-right.ensures in
    Over.CopyOver.stops (search rules) (search rules) (record { after = c.go_on-2.new.self; goes = subst (λ d. GoneOn (g.P.Place.world c.args.w.now).pages (c.args.most - 1) d c.go_on-2.new.self) (c.tick-y-2.ensures ∙ ap ticked c.new_pass.ensures) (subst (λ p. GoneOn p (c.args.most - 1) y c.go_on-2.new.self) c.in_ok-right.ensures.used.pages c.in_ok-go_on-3.ensures.is); within = subst (λ d. Within (g.P.Place.world c.args.w.now).pages d c.go_on-2.new.self) (c.tick-y-2.ensures ∙ ap ticked c.new_pass.ensures) (subst (λ p. Within p y c.go_on-2.new.self) c.in_ok-right.ensures.used.pages c.in_ok-go_on-3.ensures.within); went = subst (λ d. Went d (g.P.Place.world c.args.w.now) c.go_on-2.new.self (g.P.Place.world c.go_on-2.new.w)) (c.tick-y-2.ensures ∙ ap ticked c.new_pass.ensures) (went_after k.line.calmly k.used.pages k.line.own k.line.far c.in_ok-go_on-3.ensures.line.0); node = search rules })

pub returns-clause-keeps : goal.returns-clause-keeps
returns-clause-keeps g c =
    let n = c.args.self.now in
    let y = c.tick-y-2.result in
    let z : Pause = record { transfer = y; right = c.in_ok-right.right; turns = 1 } in
    ends_ok 62 (omega arith) (then_call (then_ok 0 (begin [] (on_state (Copying c.args.x) n) (g.P.Place.world c.args.w.now) c.requires.soon.up) c.in_ok-right.ensures.does refl (fine (λ i m o h. stop_anew n c.args.x z (c.tick-y-2.ensures ∙ ap ticked c.new_pass.ensures) h))) c.in_ok-go_on-3.ensures.used.fell (c.in_ok-go_on-3.ensures.keeps (on_state (Paused z) n) refl))

pub go_on-requires-then-not-follows_short_pass-clause-ready : goal.go_on-requires-then-not-follows_short_pass-clause-ready
go_on-requires-then-not-follows_short_pass-clause-ready g c =
    let n = c.args.self.now in
    let y = c.tick-y-2.result in
    let e : y ≡ ticked (anew c.args.x) = c.tick-y-2.ensures ∙ ap ticked c.new_pass.ensures in
    record { n = on_state (Copying y) n; has = refl; ready = ways.ready c.requires.ready (omega arith) (ticks_anew n c.args.x y e c.requires.soon.up) }

pub returns-then-not-follows_short_pass-clause-keeps : goal.returns-then-not-follows_short_pass-clause-keeps
returns-then-not-follows_short_pass-clause-keeps g c =
    let n = c.args.self.now in
    let y = c.tick-y-2.result in
    ends_ok 62 (omega arith) (then_call (ticks_anew n c.args.x y (c.tick-y-2.ensures ∙ ap ticked c.new_pass.ensures) c.requires.soon.up) c.in_ok-go_on-2.ensures.used.fell (c.in_ok-go_on-2.ensures.keeps (on_state (Copying y) n) refl))
