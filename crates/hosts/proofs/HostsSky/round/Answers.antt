use Rattle.std.proofs.Common.{refl, ◌∙◌, arith}
use Rattle.side.proofs.Sizes.{size_most}
use Rattle.hosts.specs.Follows.{world_of}
use Rattle.hosts.proofs.Between.{few_calm, few_still, closed_few}
use Rattle.hosts.proofs.HostsSky.round.Goals as goal

pub returns : goal.returns
returns c =
    let h = c.args.self.now in
    let few = few_calm (world_of h) c.requires in
    let short = few_still (world_of h) c.requires in
    let most = size_most h.pair.zero in
    record { rounded = c.round.ensures ∙ closed_few (world_of h) (omega arith) (omega arith); same = (refl, refl) }
