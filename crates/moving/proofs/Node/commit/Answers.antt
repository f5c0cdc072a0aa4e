use Rattle.std.proofs.Common.{true, [], refl, arith}
use Rattle.letter.specs.declared.Kind.TheVariants.{Commit}
use Rattle.letter.specs.Words.{head}
use Rattle.moving.specs.declared.state.Committed.{Committed as Commitment}
use Rattle.moving.specs.declared.state.State.TheVariants.{Paused}
use Rattle.moving.specs.Model.{on_state}
use Rattle.moving.proofs.Ways.{begin, fine, then_ok, ends_err}
use Rattle.moving.proofs.Calms.{then_added}
use Rattle.moving.proofs.Acts.{settle_whole, tells_ends}
use Rattle.moving.proofs.Node.commit.Goals as goal

pub returns-in_err-commit-clause-keeps : goal.returns-in_err-commit-clause-keeps
returns-in_err-commit-clause-keeps g c =
    let e = c.from_residual.ensures.0 in
    let w = g.P.Place.world c.args.w.now in
    ends_err 0 0 _ c.from_residual.result e (omega arith) (begin [] (on_state (Paused c.args.x) c.args.self.now) w c.requires.soon.up) c.in_err-commit.ensures.does (fine (λ i z o h. settle_whole c.args.self.now c.args.x c.requires.tidy.windowed.1 c.requires.none c.requires.all h))

pub returns-clause-line : goal.returns-clause-line
returns-clause-line g c = then_added c.tell.result (g.P.Place.world c.tell.new.w) (head Commit c.args.x.transfer.attempt 0 0) c.in_ok-commit.ensures.line c.tell.ensures.line

pub returns-clause-keeps : goal.returns-clause-keeps
returns-clause-keeps g c =
    let w = g.P.Place.world c.args.w.now in
    let z : Commitment = record { attempt = c.args.x.transfer.attempt; mine = true; turns = 1 } in
    tells_ends 0 z _ c.tell.result (omega arith) (λ _ _. refl) refl (then_ok 0 (begin [] (on_state (Paused c.args.x) c.args.self.now) w c.requires.soon.up) c.in_ok-commit.ensures.does refl (fine (λ i z o h. settle_whole c.args.self.now c.args.x c.requires.tidy.windowed.1 c.requires.none c.requires.all h))) c.tell.ensures.posts
