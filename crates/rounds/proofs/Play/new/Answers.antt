use Rattle.std.proofs.Common.{true, false, [], sym, subst, subst₂, arith}
use Rattle.moving.specs.Hosts.{seated}
use Rattle.moving.specs.Model.{Rested}
use Rattle.moving.specs.Invariant.{Whole}
use Rattle.moving.proofs.Steps.{start_whole}
use Rattle.moving.proofs.Rounds.{fresh_rested}
use Rattle.hosts.specs.Follows.{world_of}
use Rattle.rounds.proofs.Play.new.Goals as goal

pub returns : goal.returns
returns c =
    let w = world_of c.args.hosts.now in
    let a = sym c.new.ensures in
    let b = sym c.new-2.ensures in
    record {
      up = c.requires.7;
      zero = subst Rested a (fresh_rested 0 true);
      one = subst Rested b (fresh_rested 1 false);
      few = omega arith;
      whole = subst₂ (λ x y. Whole 0 0 [] x y (seated 0 w)) a b (start_whole w c.requires);
    }
