use Rattle.std.proofs.Common.{[], sym, refl, ◌∙◌, arith}
use Rattle.moving.proofs.Ways.{begin, fine, then_so, posts_ends, ends_ok}
use Rattle.moving.proofs.Turned.{asking, hushed_whole, answer_legit}
use Rattle.moving.proofs.Node.reply.Goals as goal

pub returns-in_default-answer-clause-keeps : goal.returns-in_default-answer-clause-keeps
returns-in_default-answer-clause-keeps g c =
    ends_ok 0 (omega arith) (then_so 0 (begin [] c.args.self.now (g.P.Place.world c.args.w.now) c.requires.soon.up) (fine (λ i z o h. hushed_whole c.take.new.self c.take.ensures.after h)))

pub returns-clause-keeps : goal.returns-clause-keeps
returns-clause-keeps g c =
    let n = c.args.self.now in
    let a = c.requires.tidy.asked c.in-Some.t (sym c.take.ensures.value ∙ c.in-Some.is) in
    posts_ends 0 _ c.tell.result (omega arith) (λ _ _. refl) (then_so 0 (begin [] n (g.P.Place.world c.args.w.now) c.requires.soon.up) (fine (λ i z o h. hushed_whole c.take.new.self c.take.ensures.after h)))
    (λ i z o h. answer_legit {n = asking c.take.new.self n} c.in-Some.t c.in-Some-answer.answer c.requires.tidy.awake a.0 a.2 (sym c.in-Some-answer.ensures) h) c.tell.ensures.posts
