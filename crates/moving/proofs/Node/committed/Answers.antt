use Rattle.std.proofs.Common.{[], ◌∷◌, ◌∙◌, refl, arith, rules}
use Rattle.letter.specs.Words.{spelt}
use Rattle.moving.proofs.Heard.{reask_whole, commit_none_tidy, commit_none_is, commit_tidy, commit_whole}
use Rattle.moving.proofs.Calms.{still_self}
use Rattle.moving.proofs.Ways.{begin, read, then_so, then_ok, ends_ok, ends_err, fine}
use Rattle.moving.proofs.Node.committed.Goals as goal

pub returns-in_default : goal.returns-in_default
returns-in_default g c =
    record {
      used = search rules;
      is = commit_none_is c.args.self.now c.args.l.now.attempt c.in_default.not-Receiving;
      line = still_self _;
      tidy = commit_none_tidy c.args.l.now c.requires.kind c.requires.ready.whole c.requires.tidy;
      keeps = ends_ok 0 (omega arith) (then_so 0 (read (begin (spelt c.args.l.now ∷ []) c.args.self.now (g.P.Place.world c.args.w.now) c.requires.soon.up)) (fine (λ i z o h. reask_whole c.args.l.now.attempt h)));
    }

pub returns-then-x-t-clause-tidy : goal.returns-then-x-t-clause-tidy
returns-then-x-t-clause-tidy g c = commit_none_tidy c.args.l.now c.requires.kind c.requires.ready.whole c.requires.tidy

pub returns-then-x-t-clause-keeps : goal.returns-then-x-t-clause-keeps
returns-then-x-t-clause-keeps g c =
    ends_ok 0 (omega arith) (then_so 0 (read (begin (spelt c.args.l.now ∷ []) c.args.self.now (g.P.Place.world c.args.w.now) c.requires.soon.up)) (fine (λ i z o h. reask_whole c.args.l.now.attempt h)))

pub resume-requires-clause-may : goal.resume-requires-clause-may
resume-requires-clause-may g c = (commit_whole c.args.l.now c.in-Receiving.x c.received.result.attempt (c.received.ensures ∙ c.if-x-t.false) c.in-Receiving.is c.if-x-t.false c.requires.kind c.requires.ready.whole).0

pub returns-in_err-resume-clause-keeps : goal.returns-in_err-resume-clause-keeps
returns-in_err-resume-clause-keeps g c = ends_err 0 0 _ c.from_residual.result c.from_residual.ensures.0 (omega arith) (begin (spelt c.args.l.now ∷ []) c.args.self.now (g.P.Place.world c.args.w.now) c.requires.soon.up) c.in_err-resume.ensures.does (fine (λ i z o h. (commit_whole c.args.l.now c.in-Receiving.x c.received.result.attempt (c.received.ensures ∙ c.if-x-t.false) c.in-Receiving.is c.if-x-t.false c.requires.kind h).1))

pub returns-clause-tidy : goal.returns-clause-tidy
returns-clause-tidy g c = commit_tidy c.args.l.now c.requires.kind c.requires.tidy.awake c.requires.ready.whole

pub returns-clause-keeps : goal.returns-clause-keeps
returns-clause-keeps g c =
    ends_ok 0 (omega arith) (read (then_ok 0 (begin (spelt c.args.l.now ∷ []) c.args.self.now (g.P.Place.world c.args.w.now) c.requires.soon.up) c.in_ok-resume.ensures.does refl (fine (λ i z o h. (commit_whole c.args.l.now c.in-Receiving.x c.received.result.attempt (c.received.ensures ∙ c.if-x-t.false) c.in-Receiving.is c.if-x-t.false c.requires.kind h).1))))
