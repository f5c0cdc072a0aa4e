-- The hosts' numbers.
-- Assumes nothing.
use Rattle.std.specs.Prelude.{◌≡◌, ℕ, ◌<◌, Result, MatchResult}
use Rattle.who.specs.declared.Who.{Who}
use Rattle.who.specs.declared.Who.TheVariants.{Zero, One}
use Rattle.who.specs.declared.NoHost.{NoHost}

-- A host's number.
abbrev pub numb : Who → ℕ
numb Zero = 0
numb One = 1

-- What a number names: the host that has it, or none, and then it's 2 or more.
abbrev pub Names : ℕ → Result Who NoHost → Type 0
Names n r = MatchResult r (λ who. numb who ≡ n) (λ e. (e.0 ≡ n) × (1 < n))
