use Rattle.std.proofs.Common.{◌≡◌, ◌+◌, ◌-◌, [], sym, subst, arith, rules}
use Rattle.moving.specs.Invariant.{slot}
use Rattle.letter.specs.declared.Kind.TheVariants.{Page}
use Rattle.letter.specs.Words.{head}
use Rattle.moving.specs.Calm.{Added, AskedTo}
use Rattle.moving.proofs.Passes.{passed_same, passed_then, asked_next}
use Rattle.moving.proofs.Ways.{SoFar, then_call, more, ends_ok, ends_call}
use Rattle.moving.proofs.Carries.{carry_self}
use Rattle.moving.proofs.state.Transfer.resend.Goals as goal

pub send_page-requires-clause-inside : goal.send_page-requires-clause-inside
send_page-requires-clause-inside g c =
    let x = c.args.self.now in
    let r = c.requires.ready in
    let base = c.base-base.ensures in
    let way = (r.ready.whole.both.ours.copy.carries x r.has).ways (c.loop-place.place - x.window.base) (omega arith) in
    let used = c.loop-place.invariant.used in
    omega arith

pub returns-in_err-send_page-clause-keeps : goal.returns-in_err-send_page-clause-keeps
returns-in_err-send_page-clause-keeps g c = λ n has. ends_call 0 _ c.from_residual.result c.from_residual.ensures.0 (c.loop-place.invariant.so n has) (c.in_err-send_page.ensures.keeps n has) (omega arith)

pub loop-place-preserved : goal.loop-place-preserved
loop-place-preserved g c =
    let x = c.args.self.now in
    let i = c.loop-place.invariant in
    let base = c.base-base.ensures in
    let k = c.loop-place.place - x.window.base in
    let place : c.loop-place.place ≡ x.window.base + k = omega arith in
    let next : k + 1 ≡ c.loop-place.place + 1 - x.window.base = omega arith in
    let s = c.in_ok-send_page.ensures in
    let a : Added (head Page x.attempt (x.window.base + k) (slot x k)) (g.P.Place.world c.loop-place.w) (g.P.Place.world c.send_page.new.w) = subst (λ a. Added (head Page x.attempt a (slot x k)) (g.P.Place.world c.loop-place.w) (g.P.Place.world c.send_page.new.w)) place s.line in
    record {
      used = search rules;
      line = passed_then i.line (passed_same x a.calmly a.rests s.used.pages a.own);
      asked = λ d. subst (λ j. AskedTo j x (g.P.Place.world c.send_page.new.w)) next (asked_next x k c.len.ensures.sound.room (omega arith) a (i.asked d));
      so = λ n has.
          more 0 (omega arith)
          (subst (λ m. SoFar [] n (g.P.Place.world c.args.w.now) (0 + 0) [] m (g.P.Place.world c.send_page.new.w)) (carry_self n x has)
          (then_call (i.so n has) s.used.fell (s.keeps n has)));
    }

pub returns-clause-keeps : goal.returns-clause-keeps
returns-clause-keeps g c =
    let x = c.args.self.now in
    λ n has. ends_ok 0 (omega arith) (subst (λ m. SoFar [] n (g.P.Place.world c.args.w.now) 0 [] m (g.P.Place.world c.loop-place.w)) (sym (carry_self n x has)) (c.loop-place.invariant.so n has))
