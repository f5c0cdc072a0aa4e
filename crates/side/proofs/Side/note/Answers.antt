use Rattle.std.proofs.Common.{refl, rules}
use mathlib.Core.List.Memᴰ
use Rattle.side.specs.Sides.{size_of}
use Rattle.side.proofs.Side.note.Goals as goal

pub returns-else-keeps : goal.returns-else-keeps
unfolding size_of
returns-else-keeps c =
    record {
      among = λ x m. Memᴰ.tail m;
      link = search rules;
      row = refl;
      is = search rules;
    }
