use Rattle.std.proofs.Common.{◌≡◌, [], ◌∷◌, sym, arith}
use mathlib.Core.Path.{subst⁻¹}
use Rattle.letter.specs.Words.{spelt}
use Rattle.moving.specs.declared.state.State.TheVariants.{Copying}
use Rattle.moving.proofs.Heard.{refuse_copying_whole, put_back}
use Rattle.moving.proofs.Ways.{SoFar, begin, read, then_so, ends_ok, fine}
use Rattle.moving.proofs.Node.refused.Goals as goal

pub returns-in-Copying-clause-keeps : goal.returns-in-Copying-clause-keeps
returns-in-Copying-clause-keeps g c =
    let e : c.args.self.now.state ≡ Copying c.in-Copying.x = sym c.in-Copying.ensures.value in
    ends_ok 0 (omega arith) (read (then_so 0 (begin (spelt c.args.l.now ∷ []) c.args.self.now (g.P.Place.world c.args.w.now) c.requires.soon.up) (fine (λ i z o h. refuse_copying_whole c.args.l.now.attempt c.in-Copying.x c.refused-self.result e c.refused-self.ensures c.requires.tidy.awake h))))

pub returns-in_default-clause-keeps : goal.returns-in_default-clause-keeps
returns-in_default-clause-keeps g c =
    let v = c.replace-state.ensures.value in
    let q = put_back c.args.self.now c.replace-state.result (sym v) in
    ends_ok 0 (omega arith) (subst⁻¹ (λ k. SoFar (spelt c.args.l.now ∷ []) c.args.self.now (g.P.Place.world c.args.w.now) 0 [] k (g.P.Place.world c.args.w.now)) q (read (begin (spelt c.args.l.now ∷ []) c.args.self.now (g.P.Place.world c.args.w.now) c.requires.soon.up)))
