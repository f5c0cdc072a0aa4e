use Rattle.std.proofs.Common.{[], refl, arith}
use Rattle.moving.proofs.Ways.{begin, then_ok, ends_ok, ends_err}
use Rattle.moving.proofs.Acts.{new_whole}
use Rattle.moving.proofs.Node.attempt.Goals as goal

pub returns-in_err-keep-clause-keeps : goal.returns-in_err-keep-clause-keeps
returns-in_err-keep-clause-keeps g c =
    let e = c.from_residual.ensures.0 in
    let w = g.P.Place.world c.args.w.now in
    let n = c.args.self.now in
    let t = c.new-transfer.ensures in
    let a = c.next_attempt-t.ensures in
    ends_err 2 2 _ c.from_residual.result e (omega arith) (begin [] n w c.requires.soon.up) c.in_err-keep.ensures.does
    (λ i z o h. new_whole n c.new-transfer.result c.next_attempt-t.result c.pages.result c.requires.wanted c.requires.tidy.awake a.0 a.1.0 a.1.1 t.attempt t.window.1.0 t.window.1.1 c.pages.ensures t.unsent h)

pub returns-clause-keeps : goal.returns-clause-keeps
returns-clause-keeps g c =
    let w = g.P.Place.world c.args.w.now in
    let n = c.args.self.now in
    let t = c.new-transfer.ensures in
    let a = c.next_attempt-t.ensures in
    ends_ok 2 (omega arith) (then_ok 2 (begin [] n w c.requires.soon.up) c.in_ok-keep.ensures.does refl
    (λ i z o h. new_whole n c.new-transfer.result c.next_attempt-t.result c.pages.result c.requires.wanted c.requires.tidy.awake a.0 a.1.0 a.1.1 t.attempt t.window.1.0 t.window.1.1 c.pages.ensures t.unsent h))
