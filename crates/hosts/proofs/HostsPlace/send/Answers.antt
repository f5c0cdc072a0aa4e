use Rattle.std.proofs.Common.{◌<◌, sym, ap, ◌∙◌, subst}
use Rattle.moving.specs.Hosts.{Sends}
use Rattle.plan.specs.Plans.{post_of, posted}
use Rattle.hosts.specs.Stories.{story_of}
use Rattle.hosts.specs.Follows.{world_of, sent_by, lose_told, asked_now}
use Rattle.hosts.proofs.Plans.{follows_does, falls_with, as_planned}
use Rattle.hosts.proofs.Posts.{posts_none, posts_of, sent_counted}
use Rattle.hosts.proofs.HostsPlace.send.Goals as goal

pub returns-in_err-due : goal.returns-in_err-due
returns-in_err-due c =
    let h = c.args.self.now in
    let e = c.from_residual.ensures.0 in
    record { posts = posts_none _ _ _ _ (λ d. follows_does (falls_with _ e (c.in_err-due.ensures d h.plan (story_of h.log)))); planned = λ _. falls_with _ e (c.in_err-due.ensures _ _ _) }

pub returns : goal.returns
returns c =
    let h = c.args.self.now in
    let m = c.begin.new.self in
    let w = world_of h in
    let l = c.args.letter.now in
    let begun = c.in_ok-due.ensures in
    let sent = c.post.ensures in
    let same = c.whole-letter.ensures in
    record {
      posts = posts_of w l _ _ _ _ begun.world (subst (λ y. Sends (world_of m) y (world_of c.post.new.self)) same sent.sends) (λ d e. follows_does (c.end.ensures h d begun.up begun.fate e));
      planned = λ some.
          let some_now = subst (λ v. 0 < v.pages) (sym begun.world) some in
          let story = sent.story some_now ∙ ap (λ p. lose_told (post_of p).lost (world_of m) (story_of m.log)) begun.plan
          ∙ ap (λ v. lose_told (post_of (asked_now h)).lost v (story_of m.log)) begun.world ∙ ap (lose_told (post_of (asked_now h)).lost w) begun.story
          in
          as_planned (sent.plan ∙ ap posted begun.plan) story
          (c.end.ensures h (sent_by (post_of (asked_now h)) l w) begun.up begun.fate
          (sent.is some_now
          ∙ ap (λ y. sent_by (post_of m.plan) y (world_of m)) same
          ∙ ap (λ p. sent_by (post_of p) l (world_of m)) begun.plan
          ∙ ap (sent_by (post_of (asked_now h)) l) begun.world
          ∙ sent_counted (post_of (asked_now h)) l w));
    }
