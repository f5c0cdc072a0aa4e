use Rattle.std.proofs.Common.{sym, ap, ◌∙◌, subst}
use Rattle.moving.specs.Hosts.{Between}
use Rattle.plan.specs.Plans as plans
use Rattle.plan.specs.Plans.{wish_of, writes_of}
use Rattle.hosts.specs.Follows.{world_of, fills, wishes}
use Rattle.hosts.proofs.Between.{wishes_pages, between_of}
use Rattle.hosts.proofs.HostsSky.between.Goals as goal

pub returns : goal.returns
returns c =
    let h = c.args.self.now in
    let w = world_of h in
    let wished = c.wish.ensures.world ∙ ap (λ b. wishes b w) c.want-wants.ensures.wish in
    let plan = c.wish.ensures.same.0 ∙ c.want-wants.ensures.left in
    let count = c.count.ensures ∙ ap (λ v. v.pages) wished ∙ wishes_pages (wish_of h.plan) w in
    let write = c.write_between-write.ensures.write ∙ ap (λ p. writes_of p c.count.result) plan ∙ ap (writes_of (plans.wished h.plan)) count in
    let world = c.fill.ensures.world ∙ ap (fills c.write_between-write.result) wished ∙ ap (λ x. fills x (wishes (wish_of h.plan) w)) write in
    record {
      between = subst (Between w) (sym world) (between_of (writes_of (plans.wished h.plan) w.pages) (wish_of h.plan) w);
      planned = record {
        world = world;
        plan = c.fill.ensures.same.0 ∙ c.write_between-write.ensures.left ∙ ap plans.wrote plan;
        story = c.fill.ensures.same.1 ∙ c.wish.ensures.same.1;
      };
    }
