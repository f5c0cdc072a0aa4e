use Rattle.std.proofs.Common.{◌&&◌, sym, refl, ap, ◌∙◌, subst}
use Rattle.std.proofs.lemmas.Bool.{cond-true, cond-false}
use Rattle.hosts.specs.declared.log.What.TheVariants.{Fall, Lost}
use Rattle.hosts.specs.Stories.{noted, story_of}
use Rattle.hosts.specs.Follows.{world_of}
use Rattle.pair.specs.Worlds as pair
use Rattle.pair.specs.Worlds.{FallenWith}
use Rattle.who.proofs.Same.{same_host}
use Rattle.hosts.proofs.Plans.{who_numb}
use Rattle.hosts.proofs.Hosts.fall.Goals as goal

pub returns-then-lost : goal.returns-then-lost
returns-then-lost c =
    let h = c.args.self.now in
    record {
      world = subst (λ x. FallenWith x.word x.touched (world_of h) (pair.world_of c.fall.new.self)) c.wreck-wreck.ensures c.fall.ensures;
      plan = refl;
      story =
          c.note-then-lost.ensures ∙ ap (noted _) c.note.ensures
          ∙ ap (λ v. noted (record { what = Lost; host = v }) (noted (record { what = Fall; host = v }) (story_of h.log))) (who_numb h.pair.turn)
          ∙ sym (cond-true _ _ _ (ap (λ b. h.pair.runs && b) (sym (c.eq.ensures ∙ same_host _ _)) ∙ c.if-lost.true));
    }

pub returns-else-lost : goal.returns-else-lost
returns-else-lost c =
    let h = c.args.self.now in
    record {
      world = subst (λ x. FallenWith x.word x.touched (world_of h) (pair.world_of c.fall.new.self)) c.wreck-wreck.ensures c.fall.ensures;
      plan = refl;
      story =
          c.note.ensures
          ∙ ap (λ v. noted (record { what = Fall; host = v }) (story_of h.log)) (who_numb h.pair.turn)
          ∙ sym (cond-false _ _ _ (ap (λ b. h.pair.runs && b) (sym (c.eq.ensures ∙ same_host _ _)) ∙ c.if-lost.false));
    }
