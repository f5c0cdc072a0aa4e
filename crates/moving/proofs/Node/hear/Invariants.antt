use Rattle.std.proofs.Common.{◌≡◌, ◌*◌, true, [], None}
use Rattle.moving.specs.Used.{Used}
use Rattle.moving.specs.Model.{Tidy, moving}
use Rattle.moving.specs.Acted.{Heard}
use Rattle.moving.specs.Calm.{Hearing}
use Rattle.moving.proofs.Ways.{SoFar}
use Rattle.moving.proofs.Node.hear.Given as goal

abbrev pub invariant-loop-heard : goal.invariant-loop-heard
invariant-loop-heard g l =
    record {
      used : Used (2 * l.heard) (g.P.Place.world l.initial.w) true (g.P.Place.world l.w);
      tidy : Tidy l.self;
      idle : (moving l.initial.self.state ≡ None → moving l.self.state ≡ None);
      is : Heard (g.P.Place.world l.initial.w).pages l.initial.self l.self;
      line : Hearing (g.P.Place.world l.initial.w).pages l.initial.self (g.P.Place.world l.initial.w) l.heard l.self (g.P.Place.world l.w);
      so : SoFar [] l.initial.self (g.P.Place.world l.initial.w) 0 [] l.self (g.P.Place.world l.w);
    }
