use Rattle.std.proofs.Common.{◌≡◌, [], ◌∷◌, ap, ◌∙◌, arith}
use Rattle.letter.specs.Words.{spelt}
use Rattle.moving.specs.Model.{acked_in}
use Rattle.moving.proofs.Heard.{ack_whole}
use Rattle.moving.proofs.Ways.{begin, read, then_so, ends_ok, fine}
use Rattle.moving.proofs.Node.acknowledged.Goals as goal

pub returns-clause-keeps : goal.returns-clause-keeps
returns-clause-keeps g c =
    let e : c.acked-self.result ≡ acked_in c.args.l.now.attempt c.args.l.now.place c.args.self.now.state = c.acked-self.ensures ∙ ap (acked_in c.args.l.now.attempt c.args.l.now.place) c.replace-state.ensures.value in
    ends_ok 0 (omega arith) (read (then_so 0 (begin (spelt c.args.l.now ∷ []) c.args.self.now (g.P.Place.world c.args.w.now) c.requires.soon.up) (fine (λ i z o h. ack_whole c.args.l.now c.acked-self.result e c.requires.kind h))))
