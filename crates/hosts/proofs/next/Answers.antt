use Rattle.std.proofs.Common.{List, ℕ, Option, subst}
use Rattle.pair.specs.Worlds.{world_of as pairWorld, NextIn}
use Rattle.hosts.proofs.Hands.{next_some, next_none}
use Rattle.hosts.proofs.next.Goals as goal

pub returns-in-Some : goal.returns-in-Some
returns-in-Some c =
    let w = pairWorld c.args.pair.now in
    let v = pairWorld c.next.new.self in
    next_some w c.in-Some.letter c.copy_from_slice.new.self v (subst (λ (r : Option (List ℕ)). NextIn w.turn w r v) c.in-Some.is c.next.ensures) c.copy_from_slice.ensures.after

pub returns-in-None : goal.returns-in-None
returns-in-None c =
    let w = pairWorld c.args.pair.now in
    let v = pairWorld c.next.new.self in
    next_none w c.args.into.now v (subst (λ (r : Option (List ℕ)). NextIn w.turn w r v) c.in-None.is c.next.ensures)
