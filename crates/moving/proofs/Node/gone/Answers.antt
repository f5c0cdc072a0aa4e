use Rattle.std.proofs.Common.{[], ◌∷◌, arith, rules}
use Rattle.letter.specs.Words.{spelt}
use Rattle.moving.proofs.Calms.{still_self}
use Rattle.moving.proofs.Heard.{gone_whole, gone_none_is}
use Rattle.moving.proofs.Ways.{begin, read, then_so, ends_ok, fine}
use Rattle.moving.proofs.Node.gone.Goals as goal

pub returns-in_default : goal.returns-in_default
returns-in_default g c =
    record {
      line = still_self _;
      used = search rules;
      is = gone_none_is c.args.self.now c.args.l.now.attempt c.in_default.not-Committed;
      tidy = c.requires.tidy;
      keeps = ends_ok 0 (omega arith) (read (begin (spelt c.args.l.now ∷ []) c.args.self.now (g.P.Place.world c.args.w.now) c.requires.soon.up));
    }

pub returns-then-x-l-clause-keeps : goal.returns-then-x-l-clause-keeps
returns-then-x-l-clause-keeps g c = ends_ok 0 (omega arith) (read (then_so 0 (begin (spelt c.args.l.now ∷ []) c.args.self.now (g.P.Place.world c.args.w.now) c.requires.soon.up) (fine (λ i z o h. gone_whole c.args.l.now c.in-Committed.x c.in-Committed.is c.if-x-l.true c.requires.kind h))))

pub returns-else-x-l-clause-keeps : goal.returns-else-x-l-clause-keeps
returns-else-x-l-clause-keeps g c = ends_ok 0 (omega arith) (read (begin (spelt c.args.l.now ∷ []) c.args.self.now (g.P.Place.world c.args.w.now) c.requires.soon.up))
