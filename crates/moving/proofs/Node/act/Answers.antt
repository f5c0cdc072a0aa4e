use Rattle.std.proofs.Common.{[], sym, ◌∙◌, arith}
use mathlib.Core.Path.{subst⁻¹}
use Rattle.moving.specs.declared.state.State.TheVariants.{Receiving, Copying, Paused, Committed}
use Rattle.moving.proofs.Ways.{SoFar, begin, ends_ok}
use Rattle.moving.proofs.Heard.{put_back}
use Rattle.moving.proofs.Acts.{acts}
use Rattle.moving.proofs.Node.act.Goals as goal

pub returns-in-Copying-clause-keeps : goal.returns-in-Copying-clause-keeps
returns-in-Copying-clause-keeps g c = acts c.args.self.now (Copying c.in-Copying.x) (sym c.in-Copying.ensures.value) c.requires.soon.up c.copy.ensures.keeps (omega arith)

pub returns-in-Paused-clause-keeps : goal.returns-in-Paused-clause-keeps
returns-in-Paused-clause-keeps g c = acts c.args.self.now (Paused c.in-Paused.x) (sym c.in-Paused.ensures.value) c.requires.soon.up c.pause.ensures.keeps (omega arith)

pub returns-in-Committed-clause-keeps : goal.returns-in-Committed-clause-keeps
returns-in-Committed-clause-keeps g c = acts c.args.self.now (Committed c.in-Committed.x) (sym c.in-Committed.ensures.value) c.requires.soon.up c.say_again.ensures.keeps (omega arith)

pub returns-in-Receiving-clause-keeps : goal.returns-in-Receiving-clause-keeps
returns-in-Receiving-clause-keeps g c =
    let v = c.in-Receiving.ensures.value in
    let q = put_back c.args.self.now (Receiving c.in-Receiving.x) (sym v) in
    ends_ok 64 (omega arith) (subst⁻¹ (λ k. SoFar [] c.args.self.now (g.P.Place.world c.args.w.now) 0 [] k (g.P.Place.world c.args.w.now)) q (begin [] c.args.self.now (g.P.Place.world c.args.w.now) c.requires.soon.up))

pub returns-in-Away-clause-keeps : goal.returns-in-Away-clause-keeps
returns-in-Away-clause-keeps g c =
    let v = c.in-Away.ensures.value in
    let q = put_back c.args.self.now c.replace-state.new.dest (sym v ∙ sym c.replace-state.ensures.after) in
    ends_ok 64 (omega arith) (subst⁻¹ (λ k. SoFar [] c.args.self.now (g.P.Place.world c.args.w.now) 0 [] k (g.P.Place.world c.args.w.now)) q (begin [] c.args.self.now (g.P.Place.world c.args.w.now) c.requires.soon.up))
