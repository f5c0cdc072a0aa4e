use Rattle.std.proofs.Common.{true, not, ◌&&◌, ◌||◌, ap, ◌∙◌}
use Rattle.moving.specs.Hosts.{with_turn, with_guest}
use Rattle.pair.specs.Worlds.{world_of}
use Rattle.who.proofs.Same.{same_host}
use Rattle.pair.proofs.Sides.{fallen_from}
use Rattle.pair.proofs.Pair.fall.Goals as goal

pub returns : goal.returns
returns c =
    let u = world_of c.drop_pages.new.self in
    fallen_from _ _ _ u _ c.drop_pages.ensures
    (ap (λ b. with_turn u.turn u.left true true u.busy u.calm u.still (with_guest (u.runs && not b) u.last (u.lost || (u.runs && b)) u.truth (u.hurt || b) u.wish u)) (c.eq-here.ensures ∙ same_host _ _))
