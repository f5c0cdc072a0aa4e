use Rattle.std.proofs.Common.{◌+◌, [], subst, arith, rules}
use Rattle.pageset.specs.Count.{bit}
use Rattle.moving.specs.Calm.{Hearing}
use Rattle.moving.specs.Acted.{none}
use Rattle.moving.proofs.Hearings.{hearing_self, hearing_next, heard_out, heard_full}
use Rattle.moving.proofs.Heard.{hear_more}
use Rattle.moving.proofs.Ways.{begin, then_call, ends_ok, ends_call, ready}
use Rattle.moving.proofs.Node.hear.Goals as goal

pub loop-heard-init : goal.loop-heard-init
loop-heard-init g c =
    record {
      used = search rules;
      tidy = c.requires.tidy;
      idle = λ e. e;
      is = record { letters = []; hears = none };
      line = hearing_self _ _ _;
      so = begin [] c.args.self.now (g.P.Place.world c.args.w.now) c.requires.soon.up;
    }

pub hear_one-requires-clause-ready : goal.hear_one-requires-clause-ready
hear_one-requires-clause-ready g c = ready c.requires.ready (omega arith) c.loop-heard.invariant.so

pub returns-in_err-hear_one-clause-keeps : goal.returns-in_err-hear_one-clause-keeps
returns-in_err-hear_one-clause-keeps g c = ends_call 0 _ c.from_residual.result c.from_residual.ensures.0 c.loop-heard.invariant.so c.in_err-hear_one.ensures.keeps (omega arith)

pub returns-then-not-branch-clause-line : goal.returns-then-not-branch-clause-line
returns-then-not-branch-clause-line g c =
    let i = c.loop-heard.invariant in
    let l = c.in_ok-hear_one.ensures in
    heard_out (hearing_next i.line i.used.pages l.line) (l.none c.if-not-branch.true)

pub returns-then-not-branch-clause-keeps : goal.returns-then-not-branch-clause-keeps
returns-then-not-branch-clause-keeps g c = ends_ok 0 (omega arith) (then_call c.loop-heard.invariant.so c.in_ok-hear_one.ensures.used.fell c.in_ok-hear_one.ensures.keeps)

pub loop-heard-preserved : goal.loop-heard-preserved
loop-heard-preserved g c =
    let i = c.loop-heard.invariant in
    let l = c.in_ok-hear_one.ensures in
    record {
      used = search rules;
      tidy = l.tidy;
      idle = λ e. l.idle (i.idle e);
      is = hear_more i.used.pages i.is l.is;
      line = subst (λ b. Hearing (g.P.Place.world c.args.w.now).pages c.args.self.now (g.P.Place.world c.args.w.now) (c.loop-heard.heard + bit b) c.hear_one.new.self (g.P.Place.world c.hear_one.new.w)) c.if-not-branch.false (hearing_next i.line i.used.pages l.line);
      so = then_call i.so l.used.fell l.keeps;
    }

pub returns-clause-line : goal.returns-clause-line
returns-clause-line g c = heard_full c.loop-heard.heard (omega arith) c.loop-heard.invariant.line
