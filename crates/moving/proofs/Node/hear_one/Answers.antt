use Rattle.std.proofs.Common.{[], refl, ap, ◌∙◌, arith}
use Rattle.moving.specs.Model.{heeded}
use Rattle.moving.specs.Acted.{letter}
use Rattle.moving.proofs.Hearings.{heard_none_at, none_left_at, heard_unread_at, heard_some_at}
use Rattle.moving.proofs.Ways
use Rattle.moving.proofs.Heard.{heard_letter}
use Rattle.moving.proofs.Ways.{unmade, begin, got, got_err, then_call, ends_ok, ends_call, ready}
use Rattle.moving.proofs.Node.hear_one.Goals as goal

pub returns-in_err-recv-clause-keeps : goal.returns-in_err-recv-clause-keeps
returns-in_err-recv-clause-keeps g c = got_err 0 _ c.from_residual.result c.from_residual.ensures.0 (begin [] c.args.self.now (g.P.Place.world c.args.w.now) c.requires.soon.up) c.in_err-recv.ensures.gets (omega arith)

pub returns-then-not-branch-clause-line : goal.returns-then-not-branch-clause-line
returns-then-not-branch-clause-line g c = heard_none_at (g.P.Place.world c.args.w.now).pages c.args.self.now c.in_ok-recv.ensures.line c.if-not-branch.true

pub returns-then-not-branch-clause-none : goal.returns-then-not-branch-clause-none
returns-then-not-branch-clause-none g c = λ z q. none_left_at c.in_ok-recv.ensures.line c.if-not-branch.true q

pub returns-then-not-branch-clause-keeps : goal.returns-then-not-branch-clause-keeps
returns-then-not-branch-clause-keeps g c = ends_ok 0 (omega arith) (Ways.read (got (begin [] c.args.self.now (g.P.Place.world c.args.w.now) c.requires.soon.up) c.in_ok-recv.ensures.gets))

pub returns-in_default-clause-line : goal.returns-in_default-clause-line
returns-in_default-clause-line g c = heard_unread_at (g.P.Place.world c.args.w.now).pages c.args.self.now c.in_ok-recv.ensures.line c.if-not-branch.false c.in_default.ensures

pub returns-in_default-clause-keeps : goal.returns-in_default-clause-keeps
returns-in_default-clause-keeps g c = ends_ok 0 (omega arith) (Ways.read (got (begin [] c.args.self.now (g.P.Place.world c.args.w.now) c.requires.soon.up) c.in_ok-recv.ensures.gets))

pub heed-requires-clause-ready : goal.heed-requires-clause-ready
heed-requires-clause-ready g c = ready c.requires.ready (omega arith) (heard_letter c.in_ok-recv.field-0 c.recv.new.into c.in-Some.l c.if-not-branch.false c.recv.auto.into c.in-Some.ensures c.requires.soon.up c.in_ok-recv.ensures.gets)

pub returns-in_err-heed-clause-keeps : goal.returns-in_err-heed-clause-keeps
returns-in_err-heed-clause-keeps g c = ends_call 0 _ c.from_residual-in_err-heed.result c.from_residual-in_err-heed.ensures.0 (heard_letter c.in_ok-recv.field-0 c.recv.new.into c.in-Some.l c.if-not-branch.false c.recv.auto.into c.in-Some.ensures c.requires.soon.up c.in_ok-recv.ensures.gets) c.in_err-heed.ensures.keeps (omega arith)

pub returns-clause-is : goal.returns-clause-is
returns-clause-is g c = letter c.in-Some.l refl (c.in_ok-heed.ensures.is ∙ ap (λ p. heeded p c.in-Some.l c.args.self.now) c.in_ok-recv.ensures.used.pages)

pub returns-clause-line : goal.returns-clause-line
returns-clause-line g c = heard_some_at (g.P.Place.world c.args.w.now).pages _ c.args.self.now _ c.in-Some.l c.in_ok-recv.ensures.line c.if-not-branch.false c.in_ok-heed.ensures.line c.in_ok-recv.ensures.used.pages c.in-Some.ensures c.in_ok-heed.ensures.is

pub returns-clause-keeps : goal.returns-clause-keeps
returns-clause-keeps g c = ends_ok 0 (omega arith) (then_call (heard_letter c.in_ok-recv.field-0 c.recv.new.into c.in-Some.l c.if-not-branch.false c.recv.auto.into c.in-Some.ensures c.requires.soon.up c.in_ok-recv.ensures.gets) c.in_ok-heed.ensures.used.fell c.in_ok-heed.ensures.keeps)
