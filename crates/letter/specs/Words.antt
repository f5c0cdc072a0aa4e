-- A letter as 72 words: kind, attempt, place, page, four noughts, and the 64 words of the page.
use Rattle.std.specs.Prelude.{◌≡◌, ℕ, Result, MatchResult, Bool, cond, ◌&&◌, List, [], ◌∷◌, ◌++◌, take, drop, Some, None, Option, ◌==◌, nat_lt, slice_index}
use Rattle.letter.specs.declared.Kind.{Kind}
use Rattle.letter.specs.declared.Kind.TheVariants.{Probe, Page, Commit, Ack, Refuse, Taken}
use Rattle.letter.specs.declared.NoKind.{NoKind}
use Rattle.letter.specs.declared.Letter.{Letter}

-- the number of a kind
abbrev pub number : Kind → ℕ
number Probe = 1
number Page = 2
number Commit = 3
number Ack = 4
number Refuse = 5
number Taken = 6

-- the kind that has this number
abbrev pub kind_of : ℕ → Option Kind
kind_of n =
    cond (n == 1) (Some Probe) (cond (n == 2) (Some Page) (cond (n == 3) (Some Commit) (cond (n == 4) (Some Ack) (cond (n == 5) (Some Refuse) (cond (n == 6) (Some Taken) None)))))

-- what a number names: the kind that has it, or none
abbrev pub Names : ℕ → Result Kind NoKind → Type 0
Names n r = MatchResult r (λ kind. kind_of n ≡ Some kind) (λ e. (e.0 ≡ n) × (kind_of n ≡ None))

-- the first eight words of a letter
abbrev pub head : Kind → (attempt place page : ℕ) → List ℕ
head k t s p = number k ∷ t ∷ s ∷ p ∷ 0 ∷ 0 ∷ 0 ∷ 0 ∷ []

-- a letter as words
abbrev pub spelt : Letter → List ℕ
spelt l = head l.kind l.attempt l.place l.page ++ l.words

-- the words 4 to 7 are noughts
abbrev pub blank : List ℕ → Bool
blank ws = ((slice_index ws 4 == 0 && slice_index ws 5 == 0) && slice_index ws 6 == 0) && slice_index ws 7 == 0

-- what words say whose first is a number of this kind: nothing, where the page number does not fit 32 bits or the four words after it are not noughts
abbrev pub with_kind : Option Kind → List ℕ → Option Letter
with_kind None ws = None
with_kind (Some k) ws =
    cond (nat_lt 4294967295 (slice_index ws 3)) None (cond (blank ws) (Some (record { kind = k; attempt = slice_index ws 1; place = slice_index ws 2; page = slice_index ws 3; words = take 64 (drop 8 ws) })) None)

-- the letter that words are, if they are one
unfoldable pub letter_of : List ℕ → Option Letter
letter_of ws = with_kind (kind_of (slice_index ws 0)) ws
