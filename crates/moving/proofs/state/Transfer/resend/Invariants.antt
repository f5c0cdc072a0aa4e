use Rattle.std.proofs.Common.{◌≡◌, ◌-◌, ◌*◌, true, [], Some}
use Rattle.moving.specs.declared.Node.{Node}
use Rattle.moving.specs.Model.{moving}
use Rattle.moving.specs.Used.{Used}
use Rattle.moving.specs.Calm.{Passed, AskedTo}
use Rattle.moving.proofs.Ways.{SoFar}
use Rattle.moving.proofs.state.Transfer.resend.Given as goal

abbrev pub invariant-loop-place : goal.invariant-loop-place
invariant-loop-place g l =
    record {
      used : Used (2 * (l.place - l.self.window.base)) (g.P.Place.world l.initial.w) true (g.P.Place.world l.w);
      line : Passed l.self (g.P.Place.world l.initial.w) l.self (g.P.Place.world l.w);
      asked : (AskedTo 0 l.self (g.P.Place.world l.initial.w) → AskedTo (l.place - l.self.window.base) l.self (g.P.Place.world l.w));
      so : ((n : Node) → moving n.state ≡ Some l.self → SoFar [] n (g.P.Place.world l.initial.w) 0 [] n (g.P.Place.world l.w));
    }
