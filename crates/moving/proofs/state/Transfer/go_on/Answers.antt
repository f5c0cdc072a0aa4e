use Rattle.std.proofs.Common.{sym, ◌∙◌, arith, eqb-true, length}
use Rattle.moving.proofs.Passes.{went_on, asked_none}
use Rattle.moving.proofs.Ways as ways
use Rattle.moving.proofs.Ways.{on_both, ends_tail}
use Rattle.moving.proofs.Carries.{probes, probes_err}
use Rattle.moving.proofs.state.Transfer.go_on.Goals as goal

pub returns-in_err-tell-clause-keeps : goal.returns-in_err-tell-clause-keeps
returns-in_err-tell-clause-keeps g c =
    let e = c.from_residual.ensures.0 in
    probes_err c.args.self.now c.args.self.now c.from_residual.result e c.requires.soon.up c.in_err-tell.ensures.posts

pub resend-requires-clause-ready : goal.resend-requires-clause-ready
resend-requires-clause-ready g c =
    let x = c.args.self.now in
    let r = c.requires.ready in
    record { n = r.n; has = r.has; ready = ways.ready r.ready (omega arith) (probes x r.n r.has c.requires.soon.up c.in_ok-tell.ensures.posts) }

pub scan-requires-clause-ready : goal.scan-requires-clause-ready
scan-requires-clause-ready g c =
    let x = c.args.self.now in
    let r = c.requires.ready in
    record { n = r.n; has = r.has; ready = ways.ready r.ready (omega arith) (probes x r.n r.has c.requires.soon.up c.in_ok-tell.ensures.posts) }

pub returns-then-is_empty-clause-line : goal.returns-then-is_empty-clause-line
returns-then-is_empty-clause-line g c =
    let x = c.args.self.now in
    let z = eqb-true (length x.window.pages) 0 (sym c.is_empty.ensures.is ∙ c.if-is_empty.true) in
    on_both c.scan.result (λ l a. went_on c.in_ok-tell.ensures.line c.in_ok-tell.ensures.used.pages l (λ q. a (asked_none x _ z q))) c.scan.ensures.line c.scan.ensures.asked

pub returns-then-is_empty-clause-keeps : goal.returns-then-is_empty-clause-keeps
returns-then-is_empty-clause-keeps g c =
    λ n has. ends_tail 62 (probes c.args.self.now n has c.requires.soon.up c.in_ok-tell.ensures.posts) (c.scan.ensures.keeps n has) (omega arith)

pub returns-else-is_empty-clause-line : goal.returns-else-is_empty-clause-line
returns-else-is_empty-clause-line g c = on_both c.resend.result (λ l a. went_on c.in_ok-tell.ensures.line c.in_ok-tell.ensures.used.pages l a) c.resend.ensures.line c.resend.ensures.asked

pub returns-else-is_empty-clause-keeps : goal.returns-else-is_empty-clause-keeps
returns-else-is_empty-clause-keeps g c =
    λ n has. ends_tail 62 (probes c.args.self.now n has c.requires.soon.up c.in_ok-tell.ensures.posts) (c.resend.ensures.keeps n has) (omega arith)
