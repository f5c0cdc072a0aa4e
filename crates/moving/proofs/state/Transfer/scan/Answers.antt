use Rattle.std.proofs.Common.{◌≡◌, ◌+◌, ◌≤◌, Bool, true, false, [], refl, sym, ◌∙◌, subst, arith, rules, length}
use mir.Val.{bool_byte}
use borrow.Author.Tests.{eqb-false}
use Rattle.pageset.specs.Count.{bit}
use Rattle.moving.specs.Model.{carrying}
use Rattle.moving.specs.Scan.{none, more}
use Rattle.moving.proofs.Ways as ways
use Rattle.moving.proofs.Ways.{SoFar, begin, then_call, ends_ok, ends_call}
use Rattle.moving.proofs.Passes.{passed_self, passed_then}
use Rattle.moving.proofs.Carries.{carry_self, carry_twice, carries_has}
use Rattle.moving.proofs.state.Transfer.scan.Goals as goal

pub loop-left-init : goal.loop-left-init
loop-left-init g c =
    let x = c.args.self.now in
    let w = g.P.Place.world c.args.w.now in
    let len = c.requires.none in
    let r = c.requires.ready in
    let most = (r.ready.whole.both.ours.copy.carries x r.has).most in
    let room = r.ready.room in
    record {
      pages = c.pages-pages.ensures;
      few = omega arith;
      used = search rules;
      sound = record { room = omega arith; places = omega arith };
      below = λ k lt. absurd (omega arith);
      looks = record { answers = []; looks = none };
      within = λ h. h;
      line = passed_self x w;
      asked = λ a. a;
      cost = omega arith;
      so = λ n has. ways.more (length x.window.pages) (omega arith) (subst (λ m. SoFar [] n w 0 [] m w) (sym (carry_self n x has)) (begin [] n w c.requires.soon.up));
    }

pub look-requires-clause-ready : goal.look-requires-clause-ready
look-requires-clause-ready g c =
    let r = c.requires.ready in
    let x = c.loop-left.self in
    let i = c.loop-left.invariant in
    let ne : length x.window.pages ≡ 62 → ⊥ = eqb-false (length x.window.pages) 62 (sym c.is_full.ensures ∙ c.if-not-is_full.true) in
    let s = i.sound.room in
    record { n = carrying x r.n; has = carries_has r.n.state c.args.self.now x r.has; ready = ways.ready r.ready (omega arith) (i.so r.n r.has) }

pub returns-in_err-sent-clause-keeps : goal.returns-in_err-sent-clause-keeps
returns-in_err-sent-clause-keeps g c =
    let x = c.loop-left.self in
    let i = c.loop-left.invariant in
    let ne : length x.window.pages ≡ 62 → ⊥ = eqb-false (length x.window.pages) 62 (sym c.is_full.ensures ∙ c.if-not-is_full.true) in
    let s = i.sound.room in
    λ n has. ends_call 62 _ c.from_residual.result c.from_residual.ensures.0 (i.so n has) (c.in_err-sent.ensures.keeps (carrying x n) (carries_has n.state c.args.self.now x has)) (omega arith)

-- the number of a flag
byte : (b : Bool) → (bool_byte b ≡ bit b) × (bit b ≤ 1)
byte true = (refl, omega arith)
byte false = (refl, omega arith)

pub loop-left-preserved : goal.loop-left-preserved
loop-left-preserved g c =
    let x = c.loop-left.self in
    let y = c.look.new.self in
    let w = g.P.Place.world c.args.w.now in
    let i = c.loop-left.invariant in
    let l = c.in_ok-sent.ensures in
    let one = l.one.1 in
    let step = l.is.cursor in
    let was = i.cost in
    let k = byte c.in_ok-sent.sent in
    let f : c.from.result ≡ bit c.in_ok-sent.sent = c.from.ensures ∙ k.0 in
    record {
      pages = i.pages ∙ sym l.used.pages;
      few = search rules;
      used = search rules;
      sound = l.sound.0;
      below = l.sound.1;
      looks = record { answers = _; looks = more _ _ _ _ i.looks.looks l.is };
      within = λ h. search rules;
      line = passed_then i.line l.line;
      asked = λ a. l.asked (i.asked a);
      cost = omega arith;
      so = λ n has.
          ways.more (length y.window.pages) (omega arith)
          (subst (λ m. SoFar [] n w (length x.window.pages + bit c.in_ok-sent.sent) [] m (g.P.Place.world c.look.new.w)) (carry_twice n x y)
          (then_call (i.so n has) l.used.fell (l.keeps (carrying x n) (carries_has n.state c.args.self.now x has))));
    }

pub returns-else-self-pages-clause-keeps : goal.returns-else-self-pages-clause-keeps
returns-else-self-pages-clause-keeps g c = let s = c.loop-left.invariant.sound.room in λ n has. ends_ok 62 (omega arith) (c.loop-left.invariant.so n has)

pub returns-else-not-is_full-clause-keeps : goal.returns-else-not-is_full-clause-keeps
returns-else-not-is_full-clause-keeps g c = let s = c.loop-left.invariant.sound.room in λ n has. ends_ok 62 (omega arith) (c.loop-left.invariant.so n has)

pub returns-after-loop-left-clause-keeps : goal.returns-after-loop-left-clause-keeps
returns-after-loop-left-clause-keeps g c = let s = c.loop-left.invariant.sound.room in λ n has. ends_ok 62 (omega arith) (c.loop-left.invariant.so n has)
