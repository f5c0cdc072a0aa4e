-- Both hosts are whole, as if host 0 had the turn, and who was last stands. In a round numbers grow by 128 at most.
use Rattle.std.proofs.Common.{◌≡◌, ◌-◌, ◌*◌, false, []}
use Rattle.moving.specs.Hosts.{seated}
use Rattle.moving.specs.Model.{Rested}
use Rattle.moving.specs.Invariant.{Whole}
use Rattle.moving.proofs.safe_nights.Given as goal

abbrev pub invariant-loop-n : goal.invariant-loop-n
invariant-loop-n g l =
    record {
      up : (g.W.Place.world l.w).fell ≡ false;
      zero : Rested l.a;
      one : Rested l.b;
      whole : Whole 0 (128 * l.n) [] l.a l.b (seated 0 (g.W.Place.world l.w));
    }

abbrev pub decreases-loop-n : goal.decreases-loop-n
decreases-loop-n g l = l.many - l.n
