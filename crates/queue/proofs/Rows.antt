-- The part of a list that begins at h and has at most c elements: how long it is, what stands in it, and what becomes of it.
-- Assumes nothing.
use Rattle.std.proofs.Common.{◌≡◌, ℕ, zero, suc, ◌+◌, ◌-◌, ◌<◌, ◌≤◌, min, List, [], ◌∷◌, ◌++◌, length, take, drop, set, sym, refl, ap, ◌∙◌, inl, inr, arith, length-drop, length-take}
use Rattle.std.proofs.lemmas.List.{take_more_set, drop-set-add, drop_more, drop_min, take-set-le, set_past}
use Rattle.std.proofs.lemmas.Bool.{cases_lt}
use Rattle.std.proofs.Math.Seq.{paste, take-set-lt}
use Rattle.std.proofs.lemmas.List.Edits.{take-paste}
use Rattle.std.specs.List.{copy_within}
use Rattle.moving.specs.Hosts.{rest'}

pub row_length : {A : Type 0} (c h : ℕ) (xs : List A) → length (take c (drop h xs)) ≡ min c (length xs - h)
row_length c h xs = simp (length-take, length-drop)

-- as many as there are, taken again
take_length : {A : Type 0} (c : ℕ) (xs : List A) → take (length (take c xs)) xs ≡ take c xs
take_length zero xs = refl
take_length (suc c) [] = refl
take_length (suc c) (x ∷ xs) = ap (λ r. x ∷ r) (take_length c xs)

pub row_again : {A : Type 0} (c h : ℕ) (xs : List A) (n : ℕ) → n ≡ length (take c (drop h xs)) → take n (drop h xs) ≡ take c (drop h xs)
row_again c h xs n e = ap (λ k. take k (drop h xs)) e ∙ take_length c (drop h xs)

-- moved to the front
pub row_moved : {A : Type 0} (c h : ℕ) (xs : List A) (k n : ℕ) → n ≡ length (take c (drop h xs)) → k ≡ min h (length xs) → take n (copy_within xs k (k + n) 0) ≡ take c (drop h xs)
row_moved c h xs k n e f =
    let all : k + n - k ≡ n = omega arith in
    let zero_n : n ≡ 0 + n = omega arith in
    ap (λ m. take n (paste xs 0 (drop k xs) m)) all
    ∙ ap (λ m. take m (paste xs 0 (drop k xs) n)) zero_n
    ∙ take-paste xs 0 (drop k xs) n (omega arith) (simp length-drop (omega (arith, row_length c h xs)))
    ∙ ap (take n) (ap (λ j. drop j xs) f ∙ drop_min h xs)
    ∙ row_again c h xs n e

-- one more at the end
pub row_push : {A : Type 0} (xs : List A) (h n : ℕ) (l : A) (ys : List A) → h + n < length xs → take n (drop h xs) ≡ ys → take (n + 1) (drop h (set xs (h + n) l)) ≡ ys ++ l ∷ []
row_push xs h n l ys lt e =
    ap (take (n + 1)) (drop-set-add h xs n l) ∙ take_more_set (drop h xs) n l (simp length-drop (omega arith)) ∙ ap (λ r. r ++ l ∷ []) e

-- another one at place i
pub row_set : {A : Type 0} (c h : ℕ) (xs : List A) (i : ℕ) (v : A) → take c (drop h (set xs (h + i) v)) ≡ set (take c (drop h xs)) i v
row_set c h xs i v =
    ap (take c) (drop-set-add h xs i v)
    ∙ elim (cases_lt i c) [
      | inl lt ↦ take-set-lt c (drop h xs) i v lt
      | inr le ↦ take-set-le c (drop h xs) i v le ∙ sym (set_past (take c (drop h xs)) i v (simp length-take (omega arith)))
    ]

-- without the first
pub row_rest : (xs : List (List ℕ)) (h c : ℕ) → h < length xs → 0 < c → take (c - 1) (drop (h + 1) xs) ≡ rest' (take c (drop h xs))
unfolding rest'
row_rest xs h zero lt p = absurd (omega arith)
row_rest xs h (suc c) lt p =
    ap (λ k. take k (drop (h + 1) xs)) (omega arith) ∙ ap (λ ys. rest' (take (suc c) ys)) (sym (drop_more xs h [] lt))

-- where there is none, none is left
pub none_rest : (r : List (List ℕ)) → length r ≤ 0 → r ≡ rest' r
unfolding rest'
none_rest [] le = refl
none_rest (x ∷ xs) le = absurd (omega arith)
