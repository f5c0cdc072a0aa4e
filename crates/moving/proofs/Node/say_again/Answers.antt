use Rattle.std.proofs.Common.{refl, arith}
use Rattle.moving.specs.declared.state.Committed.{Committed as Commitment}
use Rattle.moving.proofs.Letters.{recommit}
use Rattle.moving.proofs.Acts.{again_so, tells_ends}
use Rattle.moving.proofs.Node.say_again.Goals as goal

pub returns-clause-keeps : goal.returns-clause-keeps
returns-clause-keeps g c =
    let z : Commitment = recommit c.args.x c.saturating_add.result in
    tells_ends 0 z _ c.tell.result (omega arith) (λ _ _. refl) refl (again_so c.args.self.now c.args.x c.saturating_add.result c.requires.soon.up) c.tell.ensures.posts
