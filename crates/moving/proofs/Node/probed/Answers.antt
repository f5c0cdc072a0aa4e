use Rattle.std.proofs.Common.{◌≡◌, ◌≤◌, true, [], ◌∷◌, sym, refl, ◌∙◌, arith}
use borrow.Author.Tests.{both_ways}
use Rattle.letter.specs.Words.{spelt}
use Rattle.moving.specs.Model.{begins}
use Rattle.moving.proofs.Heard.{reask_whole, probe_none_tidy, probe_tidy, probe_whole}
use Rattle.moving.proofs.Ways.{begin, read, then_so, then_ok, ends_ok, ends_err, fine}
use Rattle.moving.proofs.Node.probed.Goals as goal
use Rattle.moving.proofs.Node.probed.Goals.{else-t-self-via-then-t-self+else-may_begin, else-t-self-via-else-t-self}

pub returns-in_err-keep-clause-keeps : goal.returns-in_err-keep-clause-keeps
returns-in_err-keep-clause-keeps g c = ends_err 0 0 _ c.from_residual.result c.from_residual.ensures.0 (omega arith) (begin (spelt c.args.l.now ∷ []) c.args.self.now (g.P.Place.world c.args.w.now) c.requires.soon.up) c.in_err-keep.ensures.does (fine (λ i z o h. probe_whole c.args.l.now c.if-t-self.true c.requires.kind c.requires.tidy.awake h))

pub returns-in_ok-keep-clause-tidy : goal.returns-in_ok-keep-clause-tidy
returns-in_ok-keep-clause-tidy g c = probe_tidy c.args.l.now c.requires.kind c.requires.tidy.awake c.requires.ready.whole

pub returns-in_ok-keep-clause-keeps : goal.returns-in_ok-keep-clause-keeps
returns-in_ok-keep-clause-keeps g c = ends_ok 0 (omega arith) (read (then_ok 0 (begin (spelt c.args.l.now ∷ []) c.args.self.now (g.P.Place.world c.args.w.now) c.requires.soon.up) c.in_ok-keep.ensures.does refl (fine (λ i z o h. probe_whole c.args.l.now c.if-t-self.true c.requires.kind c.requires.tidy.awake h))))

pub returns-else-t-self-clause-tidy : goal.returns-else-t-self-clause-tidy
returns-else-t-self-clause-tidy g c =
    let old : begins c.args.self.now.state ≡ true → c.args.l.now.attempt ≤ c.args.self.now.top = elim c.else-t-self.branch [
      | else-t-self-via-then-t-self+else-may_begin w ↦ λ b. absurd (both_ways _ (sym w.may_begin.ensures ∙ w.if-may_begin.false) b)
      | else-t-self-via-else-t-self w ↦ λ b. w.if-t-self.false
    ] in
    probe_none_tidy c.args.l.now old c.requires.kind c.requires.ready.whole c.requires.tidy

pub returns-else-t-self-clause-keeps : goal.returns-else-t-self-clause-keeps
returns-else-t-self-clause-keeps g c = ends_ok 0 (omega arith) (then_so 0 (read (begin (spelt c.args.l.now ∷ []) c.args.self.now (g.P.Place.world c.args.w.now) c.requires.soon.up)) (fine (λ i z o h. reask_whole c.args.l.now.attempt h)))
