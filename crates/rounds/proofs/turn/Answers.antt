use Rattle.std.proofs.Common.{false, ltb, sym, refl, ap, ◌∙◌}
use Rattle.std.proofs.lemmas.Bool.{lt-ltb, false≢true}
use Rattle.who.specs.Numbers.{numb}
use Rattle.moving.specs.Hosts.{seated}
use Rattle.moving.specs.Invariant.{fresh}
use Rattle.hosts.specs.Follows.{world_of}
use Rattle.moving.proofs.Steps.{holds}
use Rattle.moving.proofs.Rounds.{seat as seated_whole, begins, ended, anew}
use Rattle.rounds.proofs.Closes.{two}
use Rattle.rounds.proofs.turn.Goals as goal

pub returns-then-not-seat : goal.returns-then-not-seat
returns-then-not-seat c = absurd (false≢true (sym c.if-not-seat.true ∙ c.seat.ensures.two ∙ ap (λ n. ltb n 2) c.from-i.ensures ∙ lt-ltb (numb c.args.who) 2 (two c.args.who)))

pub turn-requires : goal.turn-requires
turn-requires c =
    let b = c.requires in
    begins (world_of c.args.hosts.now) b.room (c.seat.ensures.seated (holds c.if-not-seat.false) ∙ ap (λ n. seated n (world_of c.args.hosts.now)) c.from-i.ensures) b.rested b.whole

pub returns-in-Err : goal.returns-in-Err
returns-in-Err c =
    let b = c.requires in
    let w = world_of c.args.hosts.now in
    let e = c.seat.ensures.seated (holds c.if-not-seat.false) ∙ ap (λ n. seated n w) c.from-i.ensures in
    let n = c.new.ensures ∙ ap (λ n. fresh n false) c.from-i.ensures in
    let s = anew (c.in-Err.ensures.keeps.whole (numb c.args.who) b.m b.o (seated_whole w e b.whole)) c.renew.ensures.renewed refl n refl in
    record {
      up = s.up;
      rested = s.rested;
      whole = λ m o h. (anew (c.in-Err.ensures.keeps.whole (numb c.args.who) m o (seated_whole w e h)) c.renew.ensures.renewed refl n refl).whole;
    }

pub returns-in_default : goal.returns-in_default
returns-in_default c =
    let b = c.requires in
    let w = world_of c.args.hosts.now in
    let e = c.seat.ensures.seated (holds c.if-not-seat.false) ∙ ap (λ n. seated n w) c.from-i.ensures in
    let t = c.in_default.ensures in
    let s = ended t.only t.rested (t.keeps.whole (numb c.args.who) b.m b.o (seated_whole w e b.whole)) refl refl in
    record {
      up = s.up;
      rested = s.rested;
      whole = λ m o h. t.keeps.whole (numb c.args.who) m o (seated_whole w e h);
    }
