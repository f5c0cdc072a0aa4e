use Rattle.std.proofs.Common.{◌≡◌, ◌+◌, [], sym, refl, ap, ◌∙◌, arith}
use Rattle.moving.specs.declared.state.Transfer.{Transfer}
use Rattle.moving.specs.declared.state.Paused.{Paused as Pause}
use Rattle.moving.specs.declared.state.State.TheVariants.{Paused}
use Rattle.moving.specs.Model.{on_state, ticked}
use Rattle.moving.proofs.Ways as ways
use Rattle.moving.proofs.Ways.{unmade, begin, then_call, ends_ok, ends_call, ends_tail}
use Rattle.moving.proofs.Acts.{ticks_paused, gone_attempt}
use Rattle.moving.proofs.Node.pause.Goals as goal

pub returns-then-is_over-clause-keeps : goal.returns-then-is_over-clause-keeps
returns-then-is_over-clause-keeps g c = ends_tail 62 (begin [] (on_state (Paused c.args.x) c.args.self.now) (g.P.Place.world c.args.w.now) c.requires.soon.up) c.commit.ensures.keeps (omega arith)

pub go_on-requires-clause-ready : goal.go_on-requires-clause-ready
go_on-requires-clause-ready g c =
    let n = c.args.self.now in
    let x = c.args.x in
    let y = c.tick-y.result in
    let z : Pause = record { transfer = y; right = x.right; turns = x.turns + 1 } in
    let e : y ≡ ticked x.transfer = c.tick-y.ensures in
    record { n = on_state (Paused z) n; has = refl; ready = ways.ready c.requires.ready (omega arith) (ticks_paused n x y (x.turns + 1) e c.requires.soon.up) }

pub returns-in_err-go_on-clause-keeps : goal.returns-in_err-go_on-clause-keeps
returns-in_err-go_on-clause-keeps g c =
    let n = c.args.self.now in
    let x = c.args.x in
    let y = c.tick-y.result in
    let z : Pause = record { transfer = y; right = x.right; turns = x.turns + 1 } in
    let e = c.from_residual.ensures.0 in
    ends_call 62 _ c.from_residual.result e (ticks_paused n x y (x.turns + 1) c.tick-y.ensures c.requires.soon.up) (c.in_err-go_on.ensures.keeps (on_state (Paused z) n) refl) (omega arith)

pub returns-clause-tidy : goal.returns-clause-tidy
returns-clause-tidy g c = record { awake = c.requires.tidy.awake; windowed = (c.in_ok-go_on.ensures.sound, c.requires.tidy.windowed.1 ∙ ap (λ (d : Transfer). d.attempt) (sym c.tick-y.ensures) ∙ sym (gone_attempt c.in_ok-go_on.ensures.is)); asked = c.requires.tidy.asked }

pub returns-clause-keeps : goal.returns-clause-keeps
returns-clause-keeps g c =
    let n = c.args.self.now in
    let x = c.args.x in
    let y = c.tick-y.result in
    let z : Pause = record { transfer = y; right = x.right; turns = x.turns + 1 } in
    ends_ok 62 (omega arith) (then_call (ticks_paused n x y (x.turns + 1) c.tick-y.ensures c.requires.soon.up) c.in_ok-go_on.ensures.used.fell (c.in_ok-go_on.ensures.keeps (on_state (Paused z) n) refl))
