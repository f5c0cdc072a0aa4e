use Rattle.std.proofs.Common.{refl, ap, ◌∙◌, subst}
use Rattle.std.specs.Bool.{Decides}
use Rattle.std.proofs.lemmas.Bool.{cond-true, cond-false, false_from_ne_true}
use Rattle.moving.specs.Hosts.{resumed}
use Rattle.pair.specs.Worlds.{Same}
use Rattle.hosts.specs.Stories.{story_of}
use Rattle.hosts.specs.Follows.{world_of, resume_told}
use Rattle.hosts.proofs.Plans.{follows_does, falls_with, as_planned, ended_as}
use Rattle.hosts.proofs.HostsPlace.resume.Goals as goal

pub returns-in_err-due : goal.returns-in_err-due
returns-in_err-due c =
    let e = c.from_residual.ensures.0 in
    let h = c.args.self.now in
    record {
      does = follows_does (falls_with _ e (c.in_err-due.ensures (resumed c.args.x (world_of h)) h.plan (story_of h.log)));
      planned = record { right = λ _. falls_with _ e (c.in_err-due.ensures _ _ _); wrong = λ _. falls_with _ e (c.in_err-due.ensures _ _ _) };
    }

pub returns : goal.returns
returns c =
    let begun = c.in_ok-due.ensures in
    let w = world_of c.args.self.now in
    let b = c.is_same-same.result in
    let is : Decides b (Same w) = subst (λ v. Decides b (Same v)) begun.world c.is_same-same.ensures in
    let world = c.resume.ensures ∙ ap (resumed c.args.x) begun.world in
    let told = c.tell_resumed.ensures in
    let story = told.story ∙ ap (λ v. resume_told b v (story_of c.begin.new.self.log)) world ∙ ap (resume_told b w) begun.story in
    let f = ended_as begun c.end.ensures (told.same.0 ∙ world) told.same.1 story in
    record {
      does = follows_does f;
      planned = record {
        right = λ same. as_planned refl (cond-true b _ _ (is.1 same)) f;
        wrong = λ other. as_planned refl (cond-false b _ _ (false_from_ne_true b (λ e. other (is.0 e)))) f;
      };
    }
