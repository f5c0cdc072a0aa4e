-- When two hosts are one.
-- Assumes nothing.
use Rattle.std.proofs.Common.{◌≡◌, eqb, refl}
use denote.Enum.Bare.{sameb}
use Rattle.who.specs.declared.Who.{Who}
use Rattle.who.specs.declared.Who.TheVariants.{Zero, One}
use Rattle.who.specs.contracts.Who.{the_type}
use Rattle.who.specs.Numbers.{numb}

-- two hosts are the same just if their numbers are
pub same_host : (a b : Who) → sameb the_type a b ≡ eqb (numb a) (numb b)
same_host Zero Zero = refl
same_host Zero One = refl
same_host One Zero = refl
same_host One One = refl
