use Rattle.std.proofs.Common.{◌≡◌, ◌<◌, [], ◌∷◌, refl, arith, rules}
use mathlib.Core.Path.{subst⁻¹}
use Rattle.letter.specs.Words.{spelt}
use Rattle.moving.specs.declared.Node.{Node}
use Rattle.moving.specs.Model.{Tidy}
use Rattle.moving.specs.Hosts.{me}
use Rattle.moving.proofs.Moves.{put_at}
use Rattle.moving.proofs.Heard.{page_whole, page_none_is, page_room}
use Rattle.moving.proofs.Calms.{still_self}
use Rattle.moving.proofs.Ways.{SoFar, begin, read, then_ok, ends_ok, ends_err_own, fine}
use Rattle.moving.proofs.Node.page_came.Given.{Over}
use Rattle.moving.proofs.Node.page_came.Goals as goal
use Rattle.moving.proofs.Node.page_came.Goals.{else-x-l-via-then-x-l+then-x-l-2+else-l-pages, else-x-l-via-then-x-l+else-x-l-2, else-x-l-via-else-x-l}

pub returns-in_default : goal.returns-in_default
returns-in_default g c =
    record {
      used = search rules;
      is = page_none_is c.args.self.now (g.P.Place.world c.args.w.now).pages c.args.l.now c.in_default.not-Receiving;
      line = still_self _;
      tidy = c.requires.tidy;
      keeps = ends_ok 0 (omega arith) (read (begin (spelt c.args.l.now ∷ []) c.args.self.now (g.P.Place.world c.args.w.now) c.requires.soon.up));
    }

pub returns-in_err-put-clause-keeps : goal.returns-in_err-put-clause-keeps
returns-in_err-put-clause-keeps g c = ends_err_own 0 _ c.from_residual.result c.from_residual.ensures.0 (put_at c.args.l.now.page _ (me (g.P.Place.world c.args.w.now))) (λ _ _. refl) (omega arith) (begin (spelt c.args.l.now ∷ []) c.args.self.now (g.P.Place.world c.args.w.now) c.requires.soon.up) c.in_err-put.ensures.does

pub overflow_add-self : goal.overflow_add-self
overflow_add-self g c =
    let k : c.args.l.now.place < c.requires.ready.m = page_room c.args.l.now c.requires.kind c.requires.ready.whole in
    let r = c.requires.ready.room in
    omega arith

pub returns-in_ok-put-clause-keeps : goal.returns-in_ok-put-clause-keeps
returns-in_ok-put-clause-keeps g c = ends_ok 0 (omega arith) (read (then_ok 0 (begin (spelt c.args.l.now ∷ []) c.args.self.now (g.P.Place.world c.args.w.now) c.requires.soon.up) c.in_ok-put.ensures.does refl (fine (λ i z o h. page_whole c.args.l.now _ c.in-Receiving.is c.if-x-l.true c.if-x-l-2.true c.requires.kind h))))

-- where it isn't the next page, nothing has changed
unchanged : (g : Over) (c : goal.Joined-else-x-l g) → c.else-x-l.self ≡ c.args.self.now
unchanged g c =
    elim c.else-x-l.branch [
      | else-x-l-via-then-x-l+then-x-l-2+else-l-pages w ↦ w.self-is
      | else-x-l-via-then-x-l+else-x-l-2 w ↦ w.self-is
      | else-x-l-via-else-x-l w ↦ w.self-is
    ]

pub returns-else-x-l-clause-tidy : goal.returns-else-x-l-clause-tidy
returns-else-x-l-clause-tidy g c = subst⁻¹ Tidy (unchanged g c) c.requires.tidy

pub returns-else-x-l-clause-keeps : goal.returns-else-x-l-clause-keeps
returns-else-x-l-clause-keeps g c =
    let w = g.P.Place.world c.args.w.now in
    ends_ok 0 (omega arith) (subst⁻¹ (λ (n : Node). SoFar (spelt c.args.l.now ∷ []) c.args.self.now w 0 [] n w) (unchanged g c) (read (begin (spelt c.args.l.now ∷ []) c.args.self.now w c.requires.soon.up)))
