use Rattle.std.proofs.Common.{◌≡◌, ◌-◌, [], refl, ap, ◌∙◌, subst, arith}
use Rattle.moving.specs.declared.state.Transfer.{Transfer}
use Rattle.moving.specs.declared.state.State.TheVariants.{Copying, Paused}
use Rattle.moving.specs.Model.{on_state, ticked, afresh}
use Rattle.moving.specs.Scan.{GoneOn}
use Rattle.moving.specs.Acted.{took_for}
use Rattle.moving.specs.Calm.{Within, Went}
use Rattle.moving.proofs.Passes.{went_after}
use Rattle.moving.proofs.Ways as ways
use Rattle.moving.proofs.Ways.{unmade, begin, fine, then_ok, then_call, ends_ok, ends_err, ends_call}
use Rattle.moving.proofs.Acts.{copies_on, give_up}
use Rattle.moving.proofs.Node.give_up.Goals as goal

pub returns-in_err-resume-clause-keeps : goal.returns-in_err-resume-clause-keeps
returns-in_err-resume-clause-keeps g c =
    let n = c.args.self.now in
    let x = c.args.x in
    let e = c.from_residual.ensures.0 in
    ends_err 62 0 _ c.from_residual.result e (omega arith) (begin [] (on_state (Paused x) n) (g.P.Place.world c.args.w.now) c.requires.soon.up) c.in_err-resume.ensures.does (fine (λ i m o h. (give_up n x c.tick-y.result c.requires.tidy.windowed.1 (c.tick-y.ensures ∙ ap ticked c.new_pass.ensures) h).1))

pub go_on-requires-clause-ready : goal.go_on-requires-clause-ready
go_on-requires-clause-ready g c =
    let n = c.args.self.now in
    let x = c.args.x in
    let y = c.tick-y.result in
    let e : y ≡ ticked (afresh x.transfer) = c.tick-y.ensures ∙ ap ticked c.new_pass.ensures in
    record { n = copies_on y n; has = refl; ready = ways.ready c.requires.ready (omega arith) (then_ok 0 (begin [] (on_state (Paused x) n) (g.P.Place.world c.args.w.now) c.requires.soon.up) c.in_ok-resume.ensures.does refl (fine (λ i m o h. (give_up n x y c.requires.tidy.windowed.1 e h).1))) }

pub returns-in_err-go_on-clause-keeps : goal.returns-in_err-go_on-clause-keeps
returns-in_err-go_on-clause-keeps g c =
    let n = c.args.self.now in
    let x = c.args.x in
    let y = c.tick-y.result in
    let e = c.from_residual-in_err-go_on.ensures.0 in
    ends_call 62 _ c.from_residual-in_err-go_on.result e (then_ok 0 (begin [] (on_state (Paused x) n) (g.P.Place.world c.args.w.now) c.requires.soon.up) c.in_ok-resume.ensures.does refl (fine (λ i m o h. (give_up n x y c.requires.tidy.windowed.1 (c.tick-y.ensures ∙ ap ticked c.new_pass.ensures) h).1))) (c.in_err-go_on.ensures.keeps (copies_on y n) refl) (omega arith)

pub returns-clause-makes : goal.returns-clause-makes
returns-clause-makes g c =
    let n = c.args.self.now in
    let x = c.args.x in
    let y = c.tick-y.result in
    let e : y ≡ ticked (afresh x.transfer) = c.tick-y.ensures ∙ ap ticked c.new_pass.ensures in
    let k = c.in_ok-resume.ensures in
    record { after = c.go_on.new.self; goes = subst (λ d. GoneOn (g.P.Place.world c.args.w.now).pages (c.args.most - 1) d c.go_on.new.self) e (subst (λ p. GoneOn p (c.args.most - 1) y c.go_on.new.self) c.in_ok-resume.ensures.used.pages c.in_ok-go_on.ensures.is); within = subst (λ d. Within (g.P.Place.world c.args.w.now).pages d c.go_on.new.self) e (subst (λ p. Within p y c.go_on.new.self) c.in_ok-resume.ensures.used.pages c.in_ok-go_on.ensures.within); went = subst (λ d. Went d (g.P.Place.world c.args.w.now) c.go_on.new.self (g.P.Place.world c.go_on.new.w)) e (went_after k.line.calmly k.used.pages k.line.own k.line.far c.in_ok-go_on.ensures.line.0); node = ap (λ (d : Transfer). on_state (Copying c.go_on.new.self) (took_for d.attempt n)) e }

pub returns-clause-keeps : goal.returns-clause-keeps
returns-clause-keeps g c =
    let n = c.args.self.now in
    let x = c.args.x in
    let y = c.tick-y.result in
    ends_ok 62 (omega arith) (then_call (then_ok 0 (begin [] (on_state (Paused x) n) (g.P.Place.world c.args.w.now) c.requires.soon.up) c.in_ok-resume.ensures.does refl (fine (λ i m o h. (give_up n x y c.requires.tidy.windowed.1 (c.tick-y.ensures ∙ ap ticked c.new_pass.ensures) h).1))) c.in_ok-go_on.ensures.used.fell (c.in_ok-go_on.ensures.keeps (copies_on y n) refl))
