use Rattle.std.proofs.Common.{◌≡◌, ◌+◌, ◌-◌, true, false, ◌||◌, [], sym, refl, ap, ◌∙◌, subst, subst₂, arith, rules, length}
use Rattle.std.proofs.lemmas.Bool.{cond-true, cond-false, or_left, or_right}
use Rattle.pageset.specs.Member.{member}
use Rattle.moving.specs.declared.state.Transfer.{Transfer}
use Rattle.moving.specs.Hosts.{me}
use Rattle.moving.specs.Model.{carrying}
use Rattle.moving.specs.Invariant.{Pushed, slot}
use Rattle.moving.specs.Scan.{Looked, due}
use Rattle.letter.specs.declared.Kind.TheVariants.{Page}
use Rattle.letter.specs.Words.{head}
use Rattle.moving.specs.Calm.{Added}
use Rattle.moving.proofs.Calms.{calm_self}
use Rattle.moving.proofs.Passes.{passed_look, asked_still, asked_sent}
use Rattle.moving.proofs.Scans.{clear}
use Rattle.moving.proofs.Ways.{SoFar, begin, fine, then_ok, then_call, ends_ok, ends_err_own, ends_call, unmade}
use Rattle.moving.proofs.Carries.{pushed_by, push_carrying, skip_carrying, pushed_below, carries_has, carry_twice, skip_unsent, below_more, or_true, grown}
use Rattle.moving.proofs.state.Transfer.look.Goals as goal
use Rattle.moving.proofs.state.Transfer.look.Goals.{else-not-touched-via-then-not-touched+else-not-unsent, else-not-touched-via-else-not-touched}

pub returns-in_err-touched : goal.returns-in_err-touched
returns-in_err-touched g c =
    let w = g.P.Place.world c.args.w.now in
    let e = c.from_residual.ensures.0 in
    record {
      used = search rules;
      line = unmade _ _ e;
      asked = unmade _ _ e;
      one = unmade _ _ e;
      is = unmade _ _ e;
      sound = unmade _ _ e;
      keeps = grown _ e (λ n has. ends_err_own 1 _ c.from_residual.result e (clear c.args.self.now.cursor (me w)) (λ _ _. refl) (omega arith) (begin [] n w c.requires.soon.up) c.in_err-touched.ensures.does);
    }

pub returns-then-not-unsent : goal.returns-then-not-unsent
returns-then-not-unsent g c =
    let w = g.P.Place.world c.args.w.now in
    let x = c.args.self.now in
    let t : (me w).touched x.cursor ≡ false = sym c.in_ok-touched.ensures.value ∙ c.if-not-touched.true in
    let u : member x.unsent x.cursor ≡ false = sym c.has-unsent.ensures.is ∙ c.if-not-unsent.true in
    let d : due ((me w).touched x.cursor) x ≡ false = ap (λ b. b || member x.unsent x.cursor) t ∙ u in
    let y : Transfer = record { attempt = x.attempt; window = x.window; unsent = x.unsent; cursor = x.cursor + 1; sent = x.sent; turns = x.turns; prev = x.prev } in
    let l : Looked ((me w).touched x.cursor) x y = record {
      attempt = refl;
      window = sym (cond-false _ _ _ d);
      unsent = skip_unsent x.unsent x.cursor u;
      cursor = refl;
      sent = sym (cond-false _ _ _ d);
      turns = refl;
      prev = refl;
    } in
    let k = c.in_ok-touched.ensures in
    let r = c.requires.ready in
    let most = (r.ready.whole.both.ours.copy.carries x r.has).most in
    let room = r.ready.room in
    let few = c.requires.room in
    record {
      used = search rules;
      one = search rules;
      is = l;
      line = passed_look c.requires.more k.used.pages refl k.does k.line.calmly k.line.rests k.line.own (calm_self _) (λ e. (e, refl)) refl l;
      asked = λ a. asked_still _ _ x k.line.calmly k.line.far a;
      sound = (record { room = omega arith; places = omega arith }, below_more x x.sent x.turns x.prev c.requires.below);
      keeps = λ n has. ends_ok 0 (omega arith) (then_ok 0 (begin [] n w c.requires.soon.up) c.in_ok-touched.ensures.does refl (fine (λ i z o h. skip_carrying x x.sent x.turns x.prev has t u h)));
    }

pub push-place-requires : goal.push-place-requires
push-place-requires g c =
    let r = c.requires.ready in
    let k = (r.ready.whole.both.ours.copy.carries c.args.self.now r.has).most in
    let q = r.ready.room in
    record { room = c.requires.room; fits = omega arith }

pub send_page-requires : goal.send_page-requires
send_page-requires g c =
    let w = g.P.Place.world c.args.w.now in
    let x = c.args.self.now in
    let d : Transfer = record { attempt = x.attempt; window = c.push-place.new.self; unsent = c.remove.new.self; cursor = x.cursor + 1; sent = c.saturating_add-self.result; turns = x.turns; prev = x.prev } in
    let p : Pushed x d x.cursor = pushed_by x d c.requires.below refl c.push-place.ensures.is c.remove.ensures in
    let place = c.push-place.ensures.place in
    let base = p.base in
    let len = p.len in
    let k : c.push-place.result - d.window.base ≡ length x.window.pages = omega arith in
    let at : slot d (c.push-place.result - d.window.base) ≡ x.cursor = ap (slot d) k ∙ p.last in
    let used = c.in_ok-touched.ensures.used in
    let more = c.requires.more in
    record { soon = search rules; low = omega arith; high = omega arith; inside = omega arith }

pub returns-in_err-send_page : goal.returns-in_err-send_page
returns-in_err-send_page g c =
    let w = g.P.Place.world c.args.w.now in
    let x = c.args.self.now in
    let d : Transfer = record { attempt = x.attempt; window = c.push-place.new.self; unsent = c.remove.new.self; cursor = x.cursor + 1; sent = c.saturating_add-self.result; turns = x.turns; prev = x.prev } in
    let p : Pushed x d x.cursor = pushed_by x d c.requires.below refl c.push-place.ensures.is c.remove.ensures in
    let e = c.from_residual-in_err-send_page.ensures.0 in
    record {
      used = search rules;
      line = unmade _ _ e;
      asked = unmade _ _ e;
      one = unmade _ _ e;
      is = unmade _ _ e;
      sound = unmade _ _ e;
      keeps = grown _ e (λ n has.
          ends_call 1 _ c.from_residual-in_err-send_page.result e (then_ok 1 (begin [] n w c.requires.soon.up) c.in_ok-touched.ensures.does refl (λ i z o h. push_carrying x d has p refl c.requires.more h))
          (c.in_err-send_page.ensures.keeps (carrying d n) (carries_has n.state x d has)) (omega arith));
    }

pub returns : goal.returns
returns g c =
    let w = g.P.Place.world c.args.w.now in
    let x = c.args.self.now in
    let d : Transfer = record { attempt = x.attempt; window = c.push-place.new.self; unsent = c.remove.new.self; cursor = x.cursor + 1; sent = c.saturating_add-self.result; turns = x.turns; prev = x.prev } in
    let p : Pushed x d x.cursor = pushed_by x d c.requires.below refl c.push-place.ensures.is c.remove.ensures in
    let some : (c.in_ok-touched.touched || c.has-unsent.result) ≡ true = elim c.else-not-touched.branch [ else-not-touched-via-then-not-touched+else-not-unsent w ↦ or_right _ _ w.if-not-unsent.false | else-not-touched-via-else-not-touched w ↦ or_left _ _ w.if-not-touched.false ] in
    let u : due ((me w).touched x.cursor) x ≡ true = or_true _ _ _ _ c.in_ok-touched.ensures.value c.has-unsent.ensures.is some in
    let l : Looked ((me w).touched x.cursor) x d = record {
      attempt = refl;
      window = c.push-place.ensures.is ∙ sym (cond-true _ _ _ u);
      unsent = c.remove.ensures;
      cursor = refl;
      sent = c.saturating_add-self.ensures ∙ sym (cond-true _ _ _ u);
      turns = refl;
      prev = refl;
    } in
    let k = c.in_ok-touched.ensures in
    let s = c.in_ok-send_page.ensures in
    let base = p.base in
    let place : c.push-place.result ≡ x.window.base + length x.window.pages = c.push-place.ensures.place in
    let at : slot d (c.push-place.result - d.window.base) ≡ x.cursor = ap (slot d) (omega arith) ∙ p.last in
    let sent : Added (head Page x.attempt (x.window.base + length x.window.pages) x.cursor) (g.P.Place.world c.touched.new.w) (g.P.Place.world c.send_page.new.w) = subst₂ (λ a b. Added (head Page x.attempt a b) (g.P.Place.world c.touched.new.w) (g.P.Place.world c.send_page.new.w)) place at s.line in
    record {
      used = search rules;
      one = search rules;
      is = l;
      line = passed_look c.requires.more k.used.pages s.used.pages k.does k.line.calmly k.line.rests k.line.own sent.calmly sent.rests sent.own l;
      asked = λ a. asked_sent x d _ _ _ x.cursor c.requires.room refl c.push-place.ensures.is k.line.calmly k.line.far sent a;
      sound = (c.push-place.ensures.sound, pushed_below x d c.requires.below p refl);
      keeps = λ n has.
          ends_ok 1 (omega arith)
          (subst (λ m. SoFar [] n w ((0 + 1) + 0) [] m (g.P.Place.world c.send_page.new.w)) (carry_twice n d d)
          (then_call (then_ok 1 (begin [] n w c.requires.soon.up) c.in_ok-touched.ensures.does refl (λ i z o h. push_carrying x d has p refl c.requires.more h)) c.in_ok-send_page.ensures.used.fell
          (c.in_ok-send_page.ensures.keeps (carrying d n) (carries_has n.state x d has))));
    }
