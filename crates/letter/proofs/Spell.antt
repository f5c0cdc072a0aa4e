-- Words that are a letter: written and read, and read and written.
use Rattle.std.proofs.Common.{◌≡◌, ℕ, ◌^◌, ◌<◌, true, List, [], ◌∷◌, get_or, take, drop, Some, Option, sym, refl, ap, ◌∙◌, arith, take_all, get_or-take}
use Rattle.std.proofs.lemmas.Grind.{common_steps}
use Rattle.letter.specs.declared.Kind.{Kind}
use Rattle.letter.specs.declared.Kind.TheVariants.{Probe, Page, Commit, Ack, Refuse, Taken}
use Rattle.letter.specs.declared.Letter.{Letter}
use Rattle.letter.specs.Words.{number, kind_of, head, spelt, blank, letter_of}
use Rattle.letter.specs.Laws.{ReadsWhatWasWritten, WritesWhatWasRead}

-- the kind of a kind's number is that kind
pub kind_again : (k : Kind) → kind_of (number k) ≡ Some k
kind_again Probe = refl
kind_again Page = refl
kind_again Commit = refl
kind_again Ack = refl
kind_again Refuse = refl
kind_again Taken = refl

-- The number of a number's kind is that number.
pub kind_number : (n : ℕ) (k : Kind) → kind_of n ≡ Some k → number k ≡ n
kind_number n k e = grind (arith, common_steps)

-- words that begin as a letter does are one
pub head_letter : (ws : List ℕ) (k : Kind) (t s p : ℕ) → take 8 ws ≡ head k t s p → p < 2 ^ 32
    → letter_of ws ≡ Some (record { kind = k; attempt = t; place = s; page = p; words = take 64 (drop 8 ws) })
unfolding letter_of
head_letter ws k t s p e h =
    let w = λ (i : ℕ) (l : i < 8). sym (get_or-take 8 ws i 0 l) ∙ ap (λ (zs : List ℕ). get_or zs i 0) e in
    grind (arith, common_steps, kind_again k, w 0 (omega arith), w 1 (omega arith), w 2 (omega arith), w 3 (omega arith), w 4 (omega arith), w 5 (omega arith), w 6 (omega arith), w 7 (omega arith))

pub take_spelt : (l : Letter) → take 8 (spelt l) ≡ head l.kind l.attempt l.place l.page
take_spelt l = refl

-- Two letters that begin with the same eight words have the same kind, attempt, place and page.
pub head_same : (k κ : Kind) (t τ s σ p π : ℕ) → head k t s p ≡ head κ τ σ π → (k ≡ κ) × (t ≡ τ) × (s ≡ σ) × (p ≡ π)
head_same k κ t τ s σ p π e =
    let n : number k ≡ number κ = cc in
    let s : ◌≡◌ {A = Option Kind} (Some k) (Some κ) = sym (kind_again k) ∙ ap kind_of n ∙ kind_again κ in (cc, cc, cc, cc)

-- What stands in words that are a letter, however many words there are.
pub record Parts (ws : List ℕ) (l : Letter) : Type 0 where
  pub kind : get_or ws 0 0 ≡ number l.kind
  pub attempt : get_or ws 1 0 ≡ l.attempt
  pub place : get_or ws 2 0 ≡ l.place
  pub page : get_or ws 3 0 ≡ l.page
  pub narrow : l.page < 2 ^ 32
  pub none : blank ws ≡ true
  pub words : take 64 (drop 8 ws) ≡ l.words

pub parts : (ws : List ℕ) (l : Letter) → letter_of ws ≡ Some l → Parts ws l
unfolding letter_of
parts ws l e = record {
  kind = grind (arith, common_steps);
  attempt = grind (arith, common_steps);
  place = grind (arith, common_steps);
  page = grind (arith, common_steps);
  narrow = grind (arith, common_steps);
  none = grind (arith, common_steps);
  words = grind (arith, common_steps);
}

-- THE LAWS
pub read_written : ReadsWhatWasWritten
unfolding letter_of
read_written l fits = grind (arith, common_steps, kind_again l.kind, take_all 64 l.words (omega arith))

pub written_read : WritesWhatWasRead
unfolding letter_of
written_read [] l h e = absurd (omega arith)
written_read (_ ∷ []) l h e = absurd (omega arith)
written_read (_ ∷ _ ∷ []) l h e = absurd (omega arith)
written_read (_ ∷ _ ∷ _ ∷ []) l h e = absurd (omega arith)
written_read (_ ∷ _ ∷ _ ∷ _ ∷ []) l h e = absurd (omega arith)
written_read (_ ∷ _ ∷ _ ∷ _ ∷ _ ∷ []) l h e = absurd (omega arith)
written_read (_ ∷ _ ∷ _ ∷ _ ∷ _ ∷ _ ∷ []) l h e = absurd (omega arith)
written_read (_ ∷ _ ∷ _ ∷ _ ∷ _ ∷ _ ∷ _ ∷ []) l h e = absurd (omega arith)
written_read (k ∷ t ∷ s ∷ p ∷ a ∷ b ∷ c ∷ d ∷ us) l h e =
    grind (arith, common_steps, take_all 64 us (omega arith))
