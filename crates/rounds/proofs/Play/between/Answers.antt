use Rattle.std.proofs.Common.{◌∙◌}
use Rattle.moving.proofs.Falls.{between_fell}
use Rattle.moving.proofs.Steps.{between_whole}
use Rattle.rounds.proofs.Play.between.Goals as goal

pub returns-clause-playing : goal.returns-clause-playing
returns-clause-playing c =
    record {
      up = between_fell c.between.ensures.between ∙ c.requires.up;
      zero = c.requires.zero;
      one = c.requires.one;
      few = c.requires.few;
      whole = between_whole c.between.ensures.between c.requires.whole;
    }
