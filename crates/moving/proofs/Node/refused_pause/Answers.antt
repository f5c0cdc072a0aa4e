use Rattle.std.proofs.Common.{[], ◌∷◌, refl, arith}
use Rattle.letter.specs.Words.{spelt}
use Rattle.moving.specs.declared.state.State.TheVariants.{Paused}
use Rattle.moving.specs.Model.{on_state}
use Rattle.moving.proofs.Heard.{refuse_pause_whole}
use Rattle.moving.proofs.Ways.{begin, read, then_ok, ends_ok, ends_err, fine}
use Rattle.moving.proofs.Node.refused_pause.Goals as goal

pub returns-then-x-t-clause-keeps : goal.returns-then-x-t-clause-keeps
returns-then-x-t-clause-keeps g c = ends_ok 0 (omega arith) (read (begin (spelt c.args.l.now ∷ []) (on_state (Paused c.args.x) c.args.self.now) (g.P.Place.world c.args.w.now) c.requires.soon.up))

pub returns-in_err-resume-clause-keeps : goal.returns-in_err-resume-clause-keeps
returns-in_err-resume-clause-keeps g c = ends_err 0 0 _ c.from_residual.result c.from_residual.ensures.0 (omega arith) (begin (spelt c.args.l.now ∷ []) (on_state (Paused c.args.x) c.args.self.now) (g.P.Place.world c.args.w.now) c.requires.soon.up) c.in_err-resume.ensures.does (fine (λ i z o h. (refuse_pause_whole c.args.self.now c.args.l.now c.args.x c.requires.tidy.windowed.1 c.if-x-t.false c.requires.tidy.awake h).1))

pub returns-clause-keeps : goal.returns-clause-keeps
returns-clause-keeps g c = ends_ok 0 (omega arith) (read (then_ok 0 (begin (spelt c.args.l.now ∷ []) (on_state (Paused c.args.x) c.args.self.now) (g.P.Place.world c.args.w.now) c.requires.soon.up) c.in_ok-resume.ensures.does refl (fine (λ i z o h. (refuse_pause_whole c.args.self.now c.args.l.now c.args.x c.requires.tidy.windowed.1 c.if-x-t.false c.requires.tidy.awake h).1))))
