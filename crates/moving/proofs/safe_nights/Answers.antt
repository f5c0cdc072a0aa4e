use Rattle.std.proofs.Common.{◌+◌, ◌*◌, true, false, [], sym, ap, ◌∙◌, subst, subst₂, arith}
use Rattle.moving.specs.Hosts.{seated}
use Rattle.moving.specs.Model.{Rested}
use Rattle.moving.specs.Invariant.{Whole}
use Rattle.moving.proofs.Falls.{between_fell}
use Rattle.moving.proofs.Steps.{between_whole, start_whole, holds}
use Rattle.moving.proofs.Rounds.{Stands, seat, begins, ended, anew, fresh_rested, next, round}
use Rattle.moving.proofs.safe_nights.Goals as goal
use Rattle.moving.proofs.safe_nights.Goals.{in-Err, in_default, in-Err-turn, in_default-turn}

pub loop-n-init : goal.loop-n-init
loop-n-init g c =
    let a = sym c.new-a.ensures in
    let b = sym c.new-b.ensures in
    record {
      up = c.requires.starts.7;
      zero = subst Rested a (fresh_rested 0 true);
      one = subst Rested b (fresh_rested 1 false);
      whole = subst₂ (λ x y. Whole 0 0 [] x y (seated 0 (g.W.Place.world c.args.w.now))) a b (start_whole (g.W.Place.world c.args.w.now) c.requires.starts);
    }

pub seat-requires : goal.seat-requires
seat-requires g c = between_fell c.between.ensures ∙ c.loop-n.invariant.up

pub turn-requires : goal.turn-requires
turn-requires g c =
    let h = between_whole c.between.ensures c.loop-n.invariant.whole in
    let e = c.seat.ensures (holds c.if-not-seat.false) in
    begins (g.W.Place.world c.between.new.self) (omega arith) e c.loop-n.invariant.zero h

pub seat-requires-in-loop-n : goal.seat-requires-in-loop-n
seat-requires-in-loop-n g c =
    let h = between_whole c.between.ensures c.loop-n.invariant.whole in
    let e = c.seat.ensures (holds c.if-not-seat.false) in
    let x : Stands 0 (128 * c.loop-n.n + 64) c.match-turn.a c.loop-n.b (g.W.Place.world c.match-turn.w) =
    elim c.match-turn.branch [
      | in-Err w ↦ anew (w.in-Err.ensures.keeps.whole 0 (128 * c.loop-n.n) c.loop-n.b (seat (g.W.Place.world c.between.new.self) e h)) w.renew.ensures w.a-is w.new-a-in-Err.ensures (ap g.W.Place.world w.w-is)
      | in_default w ↦ ended w.in_default.ensures.only w.in_default.ensures.rested (w.in_default.ensures.keeps.whole 0 (128 * c.loop-n.n) c.loop-n.b (seat (g.W.Place.world c.between.new.self) e h)) w.a-is (ap g.W.Place.world w.w-is)
    ] in
    x.up

pub turn-requires-in-loop-n : goal.turn-requires-in-loop-n
turn-requires-in-loop-n g c =
    let h = between_whole c.between.ensures c.loop-n.invariant.whole in
    let e = c.seat.ensures (holds c.if-not-seat.false) in
    let x : Stands 0 (128 * c.loop-n.n + 64) c.match-turn.a c.loop-n.b (g.W.Place.world c.match-turn.w) =
    elim c.match-turn.branch [
      | in-Err w ↦ anew (w.in-Err.ensures.keeps.whole 0 (128 * c.loop-n.n) c.loop-n.b (seat (g.W.Place.world c.between.new.self) e h)) w.renew.ensures w.a-is w.new-a-in-Err.ensures (ap g.W.Place.world w.w-is)
      | in_default w ↦ ended w.in_default.ensures.only w.in_default.ensures.rested (w.in_default.ensures.keeps.whole 0 (128 * c.loop-n.n) c.loop-n.b (seat (g.W.Place.world c.between.new.self) e h)) w.a-is (ap g.W.Place.world w.w-is)
    ] in
    let f = c.seat-in-loop-n.ensures (holds c.if-not-seat-2.false) in
    begins (g.W.Place.world c.match-turn.w) (omega arith) f c.loop-n.invariant.one (next x.whole)

pub loop-n-preserved : goal.loop-n-preserved
loop-n-preserved g c =
    let h = between_whole c.between.ensures c.loop-n.invariant.whole in
    let e = c.seat.ensures (holds c.if-not-seat.false) in
    let x : Stands 0 (128 * c.loop-n.n + 64) c.match-turn.a c.loop-n.b (g.W.Place.world c.match-turn.w) =
    elim c.match-turn.branch [
      | in-Err w ↦ anew (w.in-Err.ensures.keeps.whole 0 (128 * c.loop-n.n) c.loop-n.b (seat (g.W.Place.world c.between.new.self) e h)) w.renew.ensures w.a-is w.new-a-in-Err.ensures (ap g.W.Place.world w.w-is)
      | in_default w ↦ ended w.in_default.ensures.only w.in_default.ensures.rested (w.in_default.ensures.keeps.whole 0 (128 * c.loop-n.n) c.loop-n.b (seat (g.W.Place.world c.between.new.self) e h)) w.a-is (ap g.W.Place.world w.w-is)
    ] in
    let f = c.seat-in-loop-n.ensures (holds c.if-not-seat-2.false) in
    let k = seat (g.W.Place.world c.match-turn.w) f (next x.whole) in
    let y : Stands 1 (128 * c.loop-n.n + 64 + 64) c.match-turn-2.b c.match-turn.a (g.W.Place.world c.match-turn-2.w) =
    elim c.match-turn-2.branch [
      | in-Err-turn w ↦ anew (w.in-Err-turn.ensures.keeps.whole 1 (128 * c.loop-n.n + 64) c.match-turn.a k) w.renew-in-Err-turn.ensures w.b-is w.new-b-in-Err-turn.ensures (ap g.W.Place.world w.w-is)
      | in_default-turn w ↦ ended w.in_default-turn.ensures.only w.in_default-turn.ensures.rested (w.in_default-turn.ensures.keeps.whole 1 (128 * c.loop-n.n + 64) c.match-turn.a k) w.b-is (ap g.W.Place.world w.w-is)
    ] in
    let z = round (128 * (c.loop-n.n + 1)) (omega arith) c.round.ensures y in
    record { up = z.up; zero = x.rested; one = y.rested; whole = z.whole }
