use Rattle.std.proofs.Common.{◌≡◌, ◌+◌, ◌-◌, ◌*◌, ◌≤◌, Bool, true, List, [], Some, length}
use Rattle.window.specs.Pages.{Sound}
use Rattle.moving.specs.declared.Node.{Node}
use Rattle.moving.specs.Model.{moving, carrying}
use Rattle.moving.specs.Scan.{Below, Looks}
use Rattle.moving.specs.Used.{Used}
use Rattle.moving.specs.Calm.{Passed, Asked}
use Rattle.moving.proofs.Ways.{SoFar}
use Rattle.moving.proofs.state.Transfer.scan.Given as goal

abbrev pub invariant-loop-left : goal.invariant-loop-left
invariant-loop-left g l =
    record {
      pages : l.pages ≡ (g.P.Place.world l.w).pages;
      few : l.left ≤ l.most;
      used : Used (l.most - l.left) (g.P.Place.world l.initial.w) true (g.P.Place.world l.w);
      sound : Sound l.self.window;
      below : Below l.self;
      looks : record { answers : List Bool; looks : Looks l.initial.self answers l.self };
      within : (l.initial.self.cursor ≤ l.pages → l.self.cursor ≤ l.pages);
      line : Passed l.initial.self (g.P.Place.world l.initial.w) l.self (g.P.Place.world l.w);
      asked : (Asked l.initial.self (g.P.Place.world l.initial.w) → Asked l.self (g.P.Place.world l.w));
      cost : l.left + l.self.cursor + 2 * length l.self.window.pages ≡ l.most + l.initial.self.cursor;
      so : ((n : Node) → moving n.state ≡ Some l.initial.self → SoFar [] n (g.P.Place.world l.initial.w) (length l.self.window.pages) [] (carrying l.self n) (g.P.Place.world l.w));
    }

abbrev pub decreases-loop-left : goal.decreases-loop-left
decreases-loop-left g l = l.pages - l.self.cursor
