use Rattle.std.proofs.Common.{◌-◌, [], length, ap, ◌∙◌, subst, arith}
use Rattle.moving.specs.declared.state.State.TheVariants.{Away}
use Rattle.moving.specs.Hosts.{me}
use Rattle.moving.specs.Model.{on_state, woken}
use Rattle.moving.specs.Acted.{Heard}
use Rattle.moving.specs.Over.{ActedOver}
use Rattle.moving.specs.Calm.{HeardAll}
use Rattle.moving.proofs.Steps.{more_whole}
use Rattle.moving.proofs.Hearings.{heard_after}
use Rattle.moving.proofs.Ways.{begin, then_call, ready, on_both, ends_tail, ends_call}
use Rattle.moving.proofs.Node.turn.Goals as goal

pub returns-in_err-left-clause-keeps : goal.returns-in_err-left-clause-keeps
returns-in_err-left-clause-keeps g c =
    let e = c.from_residual.ensures.0 in
    ends_call 64 _ c.from_residual.result e (begin [] c.args.self.now (g.P.Place.world c.args.w.now) c.requires.up) c.in_err-left.ensures.keeps (omega arith)

pub hear-requires-clause-ready : goal.hear-requires-clause-ready
hear-requires-clause-ready g c =
    let k = c.in_ok-left.ensures in
    let s = then_call (begin [] c.args.self.now (g.P.Place.world c.args.w.now) c.requires.up) k.used.fell k.keeps in
    ready c.requires.ready (omega arith) s

pub returns-in_err-left-2-clause-keeps : goal.returns-in_err-left-2-clause-keeps
returns-in_err-left-2-clause-keeps g c =
    let n = c.args.self.now in
    let w = g.P.Place.world c.args.w.now in
    let k = c.in_ok-left.ensures in
    let s = then_call (begin [] n w c.requires.up) k.used.fell k.keeps in
    let e = c.from_residual-in_err-left-2.ensures.0 in
    ends_call 64 _ c.from_residual-in_err-left-2.result e s c.in_err-left-2.ensures.keeps (omega arith)

pub act-requires-clause-ready : goal.act-requires-clause-ready
act-requires-clause-ready g c =
    let n = c.args.self.now in
    let w = g.P.Place.world c.args.w.now in
    let k = c.in_ok-left.ensures in
    let s = then_call (begin [] n w c.requires.up) k.used.fell k.keeps in
    let l = c.in_ok-left-2.ensures in
    let t = then_call s l.used.fell l.keeps in
    ready c.requires.ready (omega arith) t

pub returns-in_err-act-clause-keeps : goal.returns-in_err-act-clause-keeps
returns-in_err-act-clause-keeps g c =
    let n = c.args.self.now in
    let w = g.P.Place.world c.args.w.now in
    let k = c.in_ok-left.ensures in
    let s = then_call (begin [] n w c.requires.up) k.used.fell k.keeps in
    let l = c.in_ok-left-2.ensures in
    let t = then_call s l.used.fell l.keeps in
    let e = c.from_residual-in_err-act.ensures.0 in
    ends_call 64 _ c.from_residual-in_err-act.result e t c.in_err-act.ensures.keeps (omega arith)

pub reply-requires-clause-ready : goal.reply-requires-clause-ready
reply-requires-clause-ready g c =
    let n = c.args.self.now in
    let w = g.P.Place.world c.args.w.now in
    let k = c.in_ok-left.ensures in
    let s = then_call (begin [] n w c.requires.up) k.used.fell k.keeps in
    let l = c.in_ok-left-2.ensures in
    let t = then_call s l.used.fell l.keeps in
    let a = c.in_ok-act.ensures in
    let u = then_call t a.used.fell a.keeps in
    ready c.requires.ready (omega arith) u

pub returns-clause-makes : goal.returns-clause-makes
returns-clause-makes g c =
    let n = c.args.self.now in
    let w = g.P.Place.world c.args.w.now in
    let k = c.in_ok-left.ensures in
    let s = then_call (begin [] n w c.requires.up) k.used.fell k.keeps in
    let l = c.in_ok-left-2.ensures in
    let t = then_call s l.used.fell l.keeps in
    let a = c.in_ok-act.ensures in
    on_both c.reply.result (λ line is. record {
      heard = c.hear.new.self;
      acted = c.act.new.self;
      quiet = g.P.Place.world c.hear.new.w;
      done = g.P.Place.world c.act.new.w;
      most = c.in_ok-left-2.left - 1;
      enough = omega arith;
      letters = subst (λ p. Heard p (woken ((me w).cell 0) ((me w).cell 1) ((me w).cell 2) n) c.hear.new.self) k.used.pages (subst (λ z. Heard (g.P.Place.world c.wake.new.w).pages z c.hear.new.self) k.is l.is);
      hears = heard_after k.line (subst (λ p. HeardAll p (woken ((me w).cell 0) ((me w).cell 1) ((me w).cell 2) n) (g.P.Place.world c.wake.new.w) c.hear.new.self (g.P.Place.world c.hear.new.w)) k.used.pages (subst (λ z. HeardAll (g.P.Place.world c.wake.new.w).pages z (g.P.Place.world c.wake.new.w) c.hear.new.self (g.P.Place.world c.hear.new.w)) k.is l.line));
      cost = λ aw q. let f = k.full aw in let d = l.cost q in let e = ap length k.line.own in omega arith;
      acts = subst (λ p. ActedOver p (c.in_ok-left-2.left - 1) (me (g.P.Place.world c.hear.new.w)).told c.hear.new.self.state (on_state Away c.hear.new.self) (g.P.Place.world c.hear.new.w) c.act.new.self (g.P.Place.world c.act.new.w)) (l.used.pages ∙ k.used.pages) a.makes;
      replies = line;
      node = is;
      awake = ap (λ m. m.awake) is ∙ a.tidy.awake;
      mid = λ i z o h. more_whole (omega arith) (t.whole i z o h);
    }) c.reply.ensures.line c.reply.ensures.is

pub returns-clause-keeps : goal.returns-clause-keeps
returns-clause-keeps g c =
    let n = c.args.self.now in
    let w = g.P.Place.world c.args.w.now in
    let k = c.in_ok-left.ensures in
    let s = then_call (begin [] n w c.requires.up) k.used.fell k.keeps in
    let l = c.in_ok-left-2.ensures in
    let t = then_call s l.used.fell l.keeps in
    let a = c.in_ok-act.ensures in
    let u = then_call t a.used.fell a.keeps in
    ends_tail 64 u c.reply.ensures.keeps (omega arith)
