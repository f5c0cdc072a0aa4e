use Rattle.std.proofs.Common.{[], IfOk, subst, arith}
use Rattle.letter.specs.declared.Kind.TheVariants.{Page}
use Rattle.letter.specs.Words.{head}
use Rattle.moving.specs.Calm.{Added}
use Rattle.moving.proofs.Calms.{then_added}
use Rattle.moving.proofs.Ways.{begin, fine, ends_err}
use Rattle.moving.proofs.Carries.{sends_page}
use Rattle.moving.proofs.state.Transfer.send_page.Goals as goal

pub returns-in_err-words-clause-keeps : goal.returns-in_err-words-clause-keeps
returns-in_err-words-clause-keeps g c = λ n has. ends_err 0 0 _ c.from_residual.result c.from_residual.ensures.0 (omega arith) (begin [] n (g.P.Place.world c.args.w.now) c.requires.soon.up) c.in_err-words.ensures.does (fine (λ i z o h. h))

pub returns-clause-line : goal.returns-clause-line
returns-clause-line g c = subst (λ p. IfOk c.send.result (λ _. Added (head Page c.args.self.now.attempt c.args.place p) (g.P.Place.world c.args.w.now) (g.P.Place.world c.send.new.w))) c.page_at-page.ensures (then_added c.send.result _ _ c.in_ok-words.ensures.line c.send.ensures.line)

pub returns-clause-keeps : goal.returns-clause-keeps
returns-clause-keeps g c = sends_page c.args.self.now c.args.place c.page_at-page.result c.in_ok-words.words c.send.result c.requires.low c.requires.high c.page_at-page.ensures c.requires.soon.up c.in_ok-words.ensures.does c.in_ok-words.ensures.words c.send.ensures.posts
