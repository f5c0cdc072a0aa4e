use Rattle.std.proofs.Common.{refl, ap, ◌∙◌}
use Rattle.std.proofs.lemmas.Bool.{cond-true, cond-false}
use Rattle.moving.specs.Hosts.{counted}
use Rattle.plan.specs.Plans.{write_of}
use Rattle.hosts.specs.Follows.{stands, after, fills}
use Rattle.hosts.proofs.Plans.{fell_at}
use Rattle.hosts.proofs.Hosts.end.Goals as goal

pub returns-then-due : goal.returns-then-due
returns-then-due c = λ h d up f e. after _ up (f ∙ cond-true c.args.due _ _ c.if-due.true) (fell_at e refl refl c.fall.ensures)

pub returns : goal.returns
returns c =
    λ h d up f e.
    let n = c.count.ensures ∙ ap (λ w. w.pages) e in
    stands _ up (f ∙ cond-false c.args.due _ _ c.if-due.false)
    (c.fill.ensures.world ∙ ap (fills c.write_on-write.result) e ∙ ap (λ x. fills x (counted d)) (c.write_on-write.ensures ∙ ap (write_of c.args.self.now.plan) n))
    c.fill.ensures.same.0 c.fill.ensures.same.1
