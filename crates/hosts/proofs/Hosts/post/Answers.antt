use Rattle.std.proofs.Common.{sym, ap, ◌∙◌, subst}
use Rattle.std.proofs.lemmas.Bool.{cond-true, cond-false}
use Rattle.moving.specs.Hosts.{Sends}
use Rattle.hosts.specs.declared.log.What.TheVariants.{Lose}
use Rattle.hosts.specs.Stories.{story_of, noted}
use Rattle.hosts.specs.Follows.{world_of, event, sent_by, lose_told}
use Rattle.hosts.proofs.Posts.{sends_taken, sends_lost, not_lost, lost, post_taken, post_lost}
use Rattle.hosts.proofs.Hosts.post.Goals as goal

pub returns-then-not-post : goal.returns-then-not-post
returns-then-not-post c =
    let h = c.args.self.now in
    let w = world_of h in
    let l = c.args.letter.now in
    let p = c.if-not-post.ensures in
    let x = c.post-post.result in
    record {
      sends = subst (Sends w l) (sym c.lose.ensures.world) (sends_lost w l _ p);
      is = λ some. c.lose.ensures.world ∙ post_lost x w l _ p some ∙ ap (λ x. sent_by x l w) c.post-post.ensures.post;
      plan = c.lose.ensures.plan ∙ c.post-post.ensures.left;
      story = λ some.
          c.lose.ensures.story ∙ ap (λ v. noted (event Lose v) (story_of h.log)) p.is
          ∙ sym (cond-true x.lost _ _ (lost x w l _ p some))
          ∙ ap (λ x. lose_told x.lost w (story_of h.log)) c.post-post.ensures.post;
    }

pub returns-else-not-post : goal.returns-else-not-post
returns-else-not-post c =
    let h = c.args.self.now in
    let w = world_of h in
    let l = c.args.letter.now in
    let p = c.if-not-post.ensures in
    let x = c.post-post.result in
    record {
      sends = sends_taken w l _ p;
      is = λ some. post_taken x w l _ p some ∙ ap (λ x. sent_by x l w) c.post-post.ensures.post;
      plan = c.post-post.ensures.left;
      story = λ _. sym (cond-false x.lost _ _ (not_lost x w l _ p)) ∙ ap (λ x. lose_told x.lost w (story_of h.log)) c.post-post.ensures.post;
    }
