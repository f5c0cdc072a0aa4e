-- What a text says, and the parts that it is read by.
use Rattle.std.specs.Prelude.{◌≡◌, ℕ, ◌^◌, ◌<◌, ◌≤◌, cond, List, [], ◌∷◌, ◌++◌, length, IfSome, Some, None, decimal, Option, MatchOption, ◌==◌, ◌≢◌, slice_index}
use Rattle.std.specs.Borrow.{Bor}
use Rattle.std.specs.Option.{option_map}

-- r is what the text says: the right x that is spelt so, or nothing where there is none
pub record Reads {A : Type 0} (Right : A → Type 0) (spell : A → List ℕ) (text : List ℕ) (r : Option A) : Type 0 where
  pub all : (x : A) → Right x → text ≡ spell x → r ≡ Some x
  pub only : IfSome r (λ x. Right x × (text ≡ spell x))

-- no plus is in front, and a nought only alone
abbrev pub Plain : List ℕ → Type 0
Plain text = (slice_index text 0 ≢ 43) × (slice_index text 0 ≡ 48 → length text ≤ 1)

-- the text before its first space, and the text after that space
abbrev pub parted : List ℕ → Option (List ℕ × List ℕ)
parted [] = None
parted (b ∷ bs) = cond (b == 32) (Some ([], bs)) (option_map (λ p. (b ∷ p.0, p.1)) (parted bs))

-- r is the text's two parts, which make it up with the space between them
pub record Parts (text : List ℕ) (r : Option (Bor (List ℕ) × Bor (List ℕ))) : Type 0 where
  pub are : option_map (λ x. (x.0.now, x.1.now)) r ≡ parted text
  pub whole : IfSome r (λ x. text ≡ x.0.now ++ 32 ∷ x.1.now)

-- a number, a space, and then any text
abbrev pub led : ℕ → List ℕ → List ℕ
led n rest = decimal n ++ 32 ∷ rest

-- r is the number that leads the text and what comes after its space, or nothing where no number leads it so
pub record Leads (text : List ℕ) (r : Option (ℕ × Bor (List ℕ))) : Type 0 where
  pub all : (n : ℕ) (rest : List ℕ) → n < 2 ^ 64 → text ≡ led n rest → MatchOption r ⊥ (λ x. (x.0 ≡ n) × (x.1.now ≡ rest))
  pub only : IfSome r (λ x. (x.0 < 2 ^ 64) × (text ≡ led x.0 x.1.now))
