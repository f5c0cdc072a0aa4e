use Rattle.std.proofs.Common.{◌+◌, ap, ◌∙◌, arith, rules}
use Rattle.moving.specs.Hosts.{with_host, with_turn}
use Rattle.who.specs.Numbers.{numb}
use Rattle.side.specs.Sides.{wrote_by, Turns}
use Rattle.pair.specs.declared.Pair.{Pair}
use Rattle.pair.specs.Worlds.{side_of, world_of}
use Rattle.pair.proofs.Sides.{turns}
use Rattle.pair.proofs.Pair.write.Goals as goal

pub returns : goal.returns
returns c =
    let before = c.args.self.now in
    let h : Pair = record before { busy = c.busier-self.result } in
    let e = c.at.ensures in
    let f = wrote_by c.args.p c.args.words.now in
    let t : Turns (c.args.p + 1) (side_of h.last h) f e.0 = search rules in
    ap world_of e.2
    ∙ turns (c.args.p + 1) h h.last f e.0 t (omega arith)
    ∙ ap (λ b. let w = with_host (numb h.last) (f ((world_of before).host (numb h.last))) (world_of before) in with_turn w.turn w.left w.fell w.rough b w.calm w.still w) c.busier-self.ensures
