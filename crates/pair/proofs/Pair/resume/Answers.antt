use Rattle.std.proofs.Common.{true, false, ◌&&◌, eqb, ap, ◌∙◌}
use Rattle.moving.specs.Hosts.{with_guest}
use Rattle.pair.specs.Worlds.{world_of}
use Rattle.who.proofs.Same.{same_host}
use Rattle.pair.proofs.Pair.resume.Goals as goal

pub returns : goal.returns
returns c =
    let w = world_of c.keep.new.self in
    ap (λ b. with_guest true w.turn w.lost w.truth false (w.wish && b) w) (c.eq.ensures ∙ same_host _ _)
    ∙ ap (λ v. with_guest true v.turn v.lost v.truth false (v.wish && eqb v.last v.turn) v) c.keep.ensures
