use Rattle.std.proofs.Common.{◌≡◌, ◌%◌, false, ◌&&◌, eqb, ltb, [], sym, refl, ◌∙◌, arith}
use Rattle.std.proofs.lemmas.Bool.{cond-true, cond-false}
use Rattle.moving.specs.declared.state.State.TheVariants.{Away}
use Rattle.moving.proofs.Ways.{begin, fine, then_ok, ends_ok, ends_err}
use Rattle.moving.proofs.Turned.{step_cell, wake_whole, wake_committed_whole, own_commit, not_alike, not_some, not_own, woken_is}
use Rattle.moving.proofs.Node.wake.Goals as goal
use Rattle.moving.proofs.Node.wake.Goals.{else-committed-top-via-then-committed-top+then-top-gt0+else-top-self, else-committed-top-via-then-committed-top+else-top-gt0, else-committed-top-via-else-committed-top}

pub returns-in_err-took-clause-keeps : goal.returns-in_err-took-clause-keeps
returns-in_err-took-clause-keeps g c = ends_err 0 0 _ c.from_residual.result c.from_residual.ensures.0 (omega arith) (begin [] c.args.self.now (g.P.Place.world c.args.w.now) c.requires.soon.up) c.in_err-took.ensures.does (fine (λ i z o h. h))

pub returns-in_err-top-clause-keeps : goal.returns-in_err-top-clause-keeps
returns-in_err-top-clause-keeps g c =
    let e = c.from_residual-in_err-top.ensures.0 in
    ends_err 0 0 _ c.from_residual-in_err-top.result e (omega arith) (then_ok 0 (begin [] c.args.self.now (g.P.Place.world c.args.w.now) c.requires.soon.up) c.in_ok-took.ensures.does refl (fine (λ i z o h. h))) c.in_err-top.ensures.does (fine (λ i z o h. h))

pub returns-in_err-committed-clause-keeps : goal.returns-in_err-committed-clause-keeps
returns-in_err-committed-clause-keeps g c =
    let e = c.from_residual-in_err-committed.ensures.0 in
    ends_err 0 0 _ c.from_residual-in_err-committed.result e (omega arith) (then_ok 0 (then_ok 0 (begin [] c.args.self.now (g.P.Place.world c.args.w.now) c.requires.soon.up) c.in_ok-took.ensures.does refl (fine (λ i z o h. h))) c.in_ok-top.ensures.does refl (fine (λ i z o h. h))) c.in_err-committed.ensures.does (fine (λ i z o h. h))

pub returns-then-top-self-clause-is : goal.returns-then-top-self-clause-is
returns-then-top-self-clause-is g c =
    let n = c.args.self.now in
    let d0 = c.in_ok-took.ensures.does in
    let d1 = c.in_ok-top.ensures.does in
    let took = c.in_ok-took.ensures.value in
    let top = c.in_ok-top.ensures.value in
    let gone = c.in_ok-committed.ensures.value in
    woken_is n c.if-self.false took (top ∙ step_cell d0 1) (gone ∙ step_cell d1 2 ∙ step_cell d0 2) _ (sym (cond-true _ _ _ (own_commit c.if-committed-top.true c.if-top-gt0.true c.if-top-self.true)))

pub returns-then-top-self-clause-keeps : goal.returns-then-top-self-clause-keeps
returns-then-top-self-clause-keeps g c =
    let w = g.P.Place.world c.args.w.now in
    let n = c.args.self.now in
    let d0 = c.in_ok-took.ensures.does in
    let d1 = c.in_ok-top.ensures.does in
    let took = c.in_ok-took.ensures.value in
    let top = c.in_ok-top.ensures.value in
    let gone = c.in_ok-committed.ensures.value in
    let asleep : n.state ≡ Away = c.requires.ready.whole.both.ours.cells.asleep c.if-self.false in
    ends_ok 0 (omega arith) (then_ok 0 (then_ok 0 (then_ok 0 (begin [] n w c.requires.soon.up) d0 refl (fine (λ i z o h. h))) d1 refl (fine (λ i z o h. h))) c.in_ok-committed.ensures.does refl (fine (λ i z o h. wake_committed_whole c.in_ok-took.took c.in_ok-top.top c.in_ok-committed.committed asleep (took ∙ sym (step_cell d1 0 ∙ step_cell d0 0)) (top ∙ sym (step_cell d1 1)) gone c.if-committed-top.true c.if-top-gt0.true h)))

pub returns-else-committed-top-clause-is : goal.returns-else-committed-top-clause-is
returns-else-committed-top-clause-is g c =
    let n = c.args.self.now in
    let d0 = c.in_ok-took.ensures.does in
    let d1 = c.in_ok-top.ensures.does in
    let took = c.in_ok-took.ensures.value in
    let top = c.in_ok-top.ensures.value in
    let gone = c.in_ok-committed.ensures.value in
    let other : ((eqb c.in_ok-committed.committed c.in_ok-top.top && ltb 0 c.in_ok-top.top) && eqb (c.in_ok-top.top % 2) n.me) ≡ false = elim c.else-committed-top.branch [
      | else-committed-top-via-then-committed-top+then-top-gt0+else-top-self w ↦ not_own _ w.if-top-self.false
      | else-committed-top-via-then-committed-top+else-top-gt0 w ↦ not_some _ _ w.if-top-gt0.false
      | else-committed-top-via-else-committed-top w ↦ not_alike _ _ w.if-committed-top.false
    ] in
    woken_is n c.if-self.false took (top ∙ step_cell d0 1) (gone ∙ step_cell d1 2 ∙ step_cell d0 2) _ (sym (cond-false _ _ _ other))

pub returns-else-committed-top-clause-keeps : goal.returns-else-committed-top-clause-keeps
returns-else-committed-top-clause-keeps g c =
    let w = g.P.Place.world c.args.w.now in
    let n = c.args.self.now in
    let d0 = c.in_ok-took.ensures.does in
    let d1 = c.in_ok-top.ensures.does in
    let took = c.in_ok-took.ensures.value in
    let top = c.in_ok-top.ensures.value in
    let gone = c.in_ok-committed.ensures.value in
    ends_ok 0 (omega arith) (then_ok 0 (then_ok 0 (then_ok 0 (begin [] n w c.requires.soon.up) d0 refl (fine (λ i z o h. h))) d1 refl (fine (λ i z o h. h))) c.in_ok-committed.ensures.does refl (fine (λ i z o h. wake_whole c.in_ok-took.took c.in_ok-top.top c.in_ok-committed.committed (took ∙ sym (step_cell d1 0 ∙ step_cell d0 0)) (top ∙ sym (step_cell d1 1)) gone h)))
