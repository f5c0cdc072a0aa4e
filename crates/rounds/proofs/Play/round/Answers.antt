use Rattle.std.proofs.Common.{◌+◌, ◌*◌, ap, ◌∙◌, arith}
use Rattle.moving.proofs.Falls.{between_fell}
use Rattle.moving.proofs.Steps.{between_whole}
use Rattle.moving.proofs.Rounds.{next}
use Rattle.rounds.proofs.Closes.{closes}
use Rattle.rounds.proofs.Play.round.Goals as goal

pub turn-requires : goal.turn-requires
turn-requires c =
    let p = c.requires in
    let b = c.between.ensures.between in
    record { up = between_fell b ∙ p.up; rested = p.zero; m = 128 * c.args.self.now.rounds; o = c.args.self.now.one; room = omega arith; whole = between_whole b p.whole }

pub turn-requires-2 : goal.turn-requires-2
turn-requires-2 c =
    let p = c.requires in
    let h = c.turn.ensures.whole (128 * c.args.self.now.rounds) c.args.self.now.one (between_whole c.between.ensures.between p.whole) in
    record { up = c.turn.ensures.up; rested = p.one; m = 128 * c.args.self.now.rounds + 64; o = c.turn.new.node; room = omega arith; whole = next h }

pub returns : goal.returns
returns c =
    let p = c.requires in
    let h = c.turn.ensures.whole (128 * c.args.self.now.rounds) c.args.self.now.one (between_whole c.between.ensures.between p.whole) in
    let k = c.turn-2.ensures.whole (128 * c.args.self.now.rounds + 64) c.turn.new.node (next h) in
    record {
      up = ap (λ w. w.fell) c.end.ensures ∙ c.turn-2.ensures.up;
      zero = c.turn.ensures.rested;
      one = c.turn-2.ensures.rested;
      few = omega arith;
      whole = closes (128 * (c.args.self.now.rounds + 1)) (omega arith) c.end.ensures k;
    }
