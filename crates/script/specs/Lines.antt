-- What a line holds.
use Rattle.std.specs.Prelude.{◌≡◌, ℕ, ◌<◌, List, [], ◌∷◌, ◌++◌, length, nat_lt, if◌then◌else◌, Some, None, MatchOption}
use Rattle.std.specs.Option.{option_and_then}
use Rattle.script.specs.declared.lines.Line.{Line}

-- a line that was l, once b is pushed: the bytes with b after them, or none of them where they are more than 64
abbrev pub pushed : Line → ℕ → Line
pushed l b = option_and_then (λ bs. if nat_lt (length bs) 64 then Some (bs ++ b ∷ []) else None) l

-- bs are the bytes that came since the line was last empty; of a long line they are any that its buffer cannot hold
abbrev pub Holds : Line → List ℕ → Type 0
Holds l bs = MatchOption l (64 < length bs) (λ held. bs ≡ held)
