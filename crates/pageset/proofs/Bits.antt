-- The bits of a list of words: after one was changed, and how many are set.
use Rattle.std.proofs.Common.{◌≡◌, ℕ, zero, suc, ◌+◌, ◌-◌, ◌*◌, ◌/◌, ◌%◌, ◌^◌, ◌<◌, ◌≤◌, true, false, not, cond, ◌&&◌, ◌||◌, eqb, ltb, List, [], ◌∷◌, length, get_or, set, replicate, sym, refl, ap, ◌∙◌, inl, inr, arith, one-add, get_or-set_other, get_or-set_same, w64, bit_and, bit_or, bit_xor}
use native.Mathlib.Nat.{zero-div}
use lib.Count.{ones}
use Rattle.std.specs.List.{sum_by}
use Rattle.std.proofs.lemmas.Nat.{pow_pos, shr_split, shr_below, mod_below, ones_cat}
use Rattle.std.proofs.lemmas.Nat.Bits.{shr_and_one, bit_at_set_same, bit_at_set_other, bit_at_clear_same, bit_at_clear_other, bit_at_cat_low, bit_at_xor, bit_at-pow_same, bit_at-pow_other}
use Rattle.std.proofs.lemmas.List.{get_or-replicate, get_or_past}
use Rattle.std.proofs.lemmas.List.Sums.{sum_by-cons}
use Rattle.std.proofs.lemmas.Bool.{cases_eq, cases_lt, eq-eqb, eqb-true, ne_eqb}
use Rattle.std.proofs.lemmas.Bool.Decides.{nat_tests}
use Rattle.pageset.specs.Count.{bit, count}
use Rattle.pageset.specs.Member.{bit_of, bit_at}
use Rattle.pageset.proofs.Counts.{count_same, count_add, count_most}

-- A word is written, in which bit p % 64 is b and all others are as they were.
written : (xs : List ℕ) (p y b : ℕ) → p / 64 < length xs → y / 2 ^ (p % 64) % 2 ≡ b
    → ((k : ℕ) → k < 64 → (k ≡ p % 64 → ⊥) → y / 2 ^ k % 2 ≡ get_or xs (p / 64) 0 / 2 ^ k % 2)
    → (q : ℕ) → bit_at (set xs (p / 64) y) q ≡ cond (eqb q p) (eqb b 1) (bit_at xs q)
unfolding bit_at
written xs p y b h is others q =
    elim (cases_eq q p) [
      | inl e ↦ rw (e, get_or-set_same xs (p / 64) y 0 h, is, eq-eqb p p refl)
      | inr n ↦
          elim (cases_eq (q / 64) (p / 64)) [
            | inl e ↦ rw (e, get_or-set_same xs (p / 64) y 0 h, ne_eqb q p n, others (q % 64) (omega arith) (λ m. n (omega arith)))
            | inr m ↦ rw (get_or-set_other xs (p / 64) (q / 64) y 0 m, ne_eqb q p n)
          ]
    ]

pub inserted : (xs : List ℕ) (p q : ℕ) → p / 64 < length xs
    → bit_at (set xs (p / 64) (bit_or (get_or xs (p / 64) 0) (1 * 2 ^ (p % 64) % 2 ^ 64))) q ≡ (eqb q p || bit_at xs q)
inserted xs p q h =
    let x = get_or xs (p / 64) 0 in
    let w : p % 64 < 64 = omega arith in
    let e = written xs p _ 1 h (bit_at_set_same w64 x (p % 64) w) (λ k l n. bit_at_set_other w64 x (p % 64) w k n) q in
    grind (arith, nat_tests)

pub removed : (xs : List ℕ) (p q : ℕ) → p / 64 < length xs
    → bit_at (set xs (p / 64) (bit_and (get_or xs (p / 64) 0) (2 ^ 64 - 1 - 1 * 2 ^ (p % 64) % 2 ^ 64))) q ≡ (not (eqb q p) && bit_at xs q)
removed xs p q h =
    let x = get_or xs (p / 64) 0 in
    let w : p % 64 < 64 = omega arith in
    let e = written xs p _ 0 h (bit_at_clear_same w64 x (p % 64) w) (bit_at_clear_other w64 x (p % 64) w) q in
    grind (arith, nat_tests)

-- The same of a word in which bit p % 64 is turned, where page p is in the set: then it is out, and all others stay.
pub removed_by_xor : (xs : List ℕ) (p q : ℕ) → p / 64 < length xs → bit_at xs p ≡ true
    → bit_at (set xs (p / 64) (bit_xor (get_or xs (p / 64) 0) (2 ^ (p % 64)))) q ≡ (not (eqb q p) && bit_at xs q)
unfolding bit_at
removed_by_xor xs p q h was =
    let x = get_or xs (p / 64) 0 in
    let b = p % 64 in
    let was_one = eqb-true (x / 2 ^ b % 2) 1 was in
    let e =
    written xs p (bit_xor x (2 ^ b)) 0 h (bit_at_xor x (2 ^ b) b ∙ omega (arith, bit_at-pow_same b))
    (λ k l n. bit_at_xor x (2 ^ b) k ∙ omega (arith, bit_at-pow_other b k n)) q in
    grind (arith, nat_tests)

-- the test of a bit
pub held : (xs : List ℕ) (p : ℕ) → eqb (bit_and (get_or xs (p / 64) 0 / 2 ^ (p % 64)) 1) 1 ≡ bit_at xs p
unfolding bit_at
held xs p = ap (λ (n : ℕ). eqb n 1) (shr_and_one (get_or xs (p / 64) 0) (p % 64))

-- pages past the last word, and words that are all 0
pub past : (xs : List ℕ) (q : ℕ) → length xs ≤ q / 64 → bit_at xs q ≡ false
unfolding bit_at
past xs q h = rw (get_or_past xs (q / 64) 0 h, zero-div (2 ^ (q % 64)))

pub nothing : (q : ℕ) → bit_at (replicate {A = ℕ} 64 0) q ≡ false
unfolding bit_at
nothing q =
    elim (cases_lt (q / 64) 64) [
      | inl h ↦ rw (get_or-replicate {A = ℕ} 64 (q / 64) 0 0 h, zero-div (2 ^ (q % 64)))
      | inr h ↦ past (replicate {A = ℕ} 64 0) q h
    ]

-- The pages below p and page p are the pages below p + 1.
pub below_more : (q p : ℕ) → (eqb q p || ltb q p) ≡ ltb q (p + 1)
below_more q p = grind (arith, nat_tests)

-- HOW MANY: the set bits of a word, and then of one word after the other
pub ones_count : (k n : ℕ) → n < 2 ^ k → ones n ≡ count (bit_of n) k
unfolding ones count
ones_count zero n h = let e : n ≡ 0 = omega arith in rw e
ones_count (suc k) n h =
    let a = n / 2 ^ k in
    let r = n % 2 ^ k in
    let d = shr_split n k in
    let w : n / 2 ^ k < 2 = shr_below n 1 k (rw (one-add k) h) in
    let same = count_same (bit_of n) (bit_of r) k (λ j l. ap (λ (m : ℕ). eqb m 1) (sym (bit_at_cat_low a k r j l) ∙ ap (λ (m : ℕ). m / 2 ^ j % 2) d)) in
    let below = mod_below n (2 ^ k) (pow_pos k) in
    omega (arith, ap ones d, ones_cat k a r below, ones_count k r below, same, top a w)
  where
    top : (a : ℕ) → a < 2 → ones a ≡ bit (eqb (a % 2) 1)
    top zero h = refl
    top (suc zero) h = refl
    top (suc (suc a)) h = absurd (omega arith)

-- bits in the first word of a list, and in the others
first_word : (x : ℕ) (xs : List ℕ) (q : ℕ) → q < 64 → bit_at (x ∷ xs) q ≡ bit_of x q
unfolding bit_at
first_word x xs q h =
    let d : q / 64 ≡ 0 = omega arith in
    let m : q % 64 ≡ q = omega arith in rw (d, m)

next_words : (x : ℕ) (xs : List ℕ) (q : ℕ) → bit_at (x ∷ xs) (64 + q) ≡ bit_at xs q
unfolding bit_at
next_words x xs q =
    let d : (64 + q) / 64 ≡ suc (q / 64) = omega arith in
    let m : (64 + q) % 64 ≡ q % 64 = omega arith in rw (d, m)

-- how many bits of a word are set, and then of all words
abbrev pub held_in : ℕ → ℕ
held_in x = count (bit_of x) 64

pub words_count : (xs : List ℕ) → sum_by held_in xs ≡ count (bit_at xs) (64 * length xs)
words_count [] = let z = count_most (bit_at []) (64 * 0) in omega arith
words_count (x ∷ xs) =
    let first = count_same (bit_of x) (bit_at (x ∷ xs)) 64 (first_word x xs) in
    let rest = count_same (bit_at xs) (λ q. bit_at (x ∷ xs) (64 + q)) (64 * length xs) (λ q l. next_words x xs q) in
    let e : 64 * suc (length xs) ≡ 64 + 64 * length xs = omega arith in
    sum_by-cons held_in x xs
    ∙ omega (arith, first, rest, words_count xs, ap (count (bit_at (x ∷ xs))) e, count_add (bit_at (x ∷ xs)) 64 (64 * length xs))
