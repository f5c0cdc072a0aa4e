-- Letters that wait, and those that are kept.
-- Assumes nothing.
use Rattle.std.proofs.Common.{◌≡◌, ℕ, zero, suc, ◌-◌, ◌%◌, ◌<◌, ◌≤◌, Bool, true, false, cond, eqb, ltb, ◌⊎◌, List, [], ◌∷◌, ◌++◌, length, get_or, set, sym, refl, ap, ◌∙◌, subst, inl, inr, mod-lt, arith, length-set}
use mathlib.Core.List.Memᴰ
use mathlib.Core.List.{Memᴰ}
use Rattle.std.proofs.lemmas.Bool.{lt-ltb, le-ltb, eqb-false, cond-true, cond-false, cond_both}
use Rattle.moving.specs.Hosts.{Among, rest'}
use Rattle.side.specs.declared.Mix.{Mix}
use Rattle.side.specs.declared.Mix.TheVariants.{Still, First, Swap, Double}
use Rattle.queue.specs.declared.Queue.{Queue}
use Rattle.queue.specs.Queues.{letters_of, room_of, Pushed}
use Rattle.side.specs.Sides.{remembered, mixed, roughened, Remembers}

pub remembered_more : (xs : List (List ℕ)) (l : List ℕ) → length xs < 128 → remembered xs l ≡ xs ++ l ∷ []
remembered_more xs l h = ap (λ ys. ys ++ l ∷ []) (cond-true (ltb (length xs) 128) xs (rest' xs) (lt-ltb (length xs) 128 h))

pub remembered_full : (xs : List (List ℕ)) (l : List ℕ) → 128 ≤ length xs → remembered xs l ≡ rest' xs ++ l ∷ []
remembered_full xs l h = ap (λ ys. ys ++ l ∷ []) (cond-false (ltb (length xs) 128) xs (rest' xs) (le-ltb (length xs) 128 h))

-- the rest of a list has nothing new
pub rest_among : (xs : List (List ℕ)) → Among (rest' xs) xs
unfolding rest'
rest_among [] x m = m
rest_among (y ∷ ys) x m = Memᴰ.tail m

pub rest_length : (xs : List (List ℕ)) → length (rest' xs) ≡ length xs - 1
unfolding rest'
rest_length [] = refl
rest_length (y ∷ ys) = omega arith

-- with one more at the end, or without it
pub among_push : (b : Bool) (xs ys zs : List (List ℕ)) (l : List ℕ) → Among ys xs → zs ≡ cond b (ys ++ l ∷ []) ys → Among zs (l ∷ xs)
among_push true xs ys zs l a e x m =
    elim (Memᴰ.append_cases ys (subst (λ us. Memᴰ x us) e m)) [ inl n ↦ Memᴰ.tail (a x n) | inr n ↦ Memᴰ.head (Memᴰ.eq_of_singleton n) ]
among_push false xs ys zs l a e x m = Memᴰ.tail (a x (subst (λ us. Memᴰ x us) e m))

pub among_self : (xs : List (List ℕ)) → Among xs xs
among_self xs x m = m

-- with another in the place of one
mem_set : {A : Type 0} (xs : List A) (i : ℕ) (v x : A) → Memᴰ x (set xs i v) → (x ≡ v) ⊎ Memᴰ x xs
mem_set [] i v x m = inr m
mem_set (y ∷ ys) zero v x (Memᴰ.head e) = inl e
mem_set (y ∷ ys) zero v x (Memᴰ.tail m) = inr (Memᴰ.tail m)
mem_set (y ∷ ys) (suc i) v x (Memᴰ.head e) = inr (Memᴰ.head e)
mem_set (y ∷ ys) (suc i) v x (Memᴰ.tail m) = elim (mem_set ys i v x m) [ inl e ↦ inl e | inr n ↦ inr (Memᴰ.tail n) ]

among_set : (xs ys : List (List ℕ)) (i : ℕ) (v : List ℕ) → Among ys xs → Memᴰ v xs → Among (set ys i v) xs
among_set xs ys i v a k x m = elim (mem_set ys i v x m) [ inl e ↦ subst (λ y. Memᴰ y xs) (sym e) k | inr n ↦ a x n ]

pub mem_at : (xs : List (List ℕ)) (i : ℕ) → i < length xs → Memᴰ (get_or xs i []) xs
mem_at [] i lt = absurd (omega arith)
mem_at (y ∷ ys) zero lt = Memᴰ.head refl
mem_at (y ∷ ys) (suc i) lt = Memᴰ.tail (mem_at ys i (omega arith))

-- a place counted round is one of the list
pub round_below : (i : ℕ) (xs : List (List ℕ)) → 0 < length xs → i % length xs < length xs
round_below i xs lt = mod-lt i lt

-- a mixed row has no letter that it hadn't, and not more of them
pub mixed_among : (m : Mix) (i : ℕ) (xs : List (List ℕ)) → i < length xs → Among (mixed m i xs) xs
mixed_among Still i xs lt = among_self xs
mixed_among First i xs lt = rest_among xs
mixed_among Swap i xs lt = among_set xs _ i _ (among_set xs xs 0 _ (among_self xs) (mem_at xs i lt)) (mem_at xs 0 (omega arith))
mixed_among Double i xs lt = among_set xs xs i _ (among_self xs) (mem_at xs 0 (omega arith))

pub mixed_length : (m : Mix) (i : ℕ) (xs : List (List ℕ)) → length (mixed m i xs) ≤ length xs
mixed_length Still i xs = omega arith
mixed_length First i xs = omega (arith, rest_length xs)
mixed_length Swap i xs = simp length-set (omega arith)
mixed_length Double i xs = simp length-set (omega arith)

-- the same with a place that is counted round
pub roughened_among : (m : Mix) (i : ℕ) (xs : List (List ℕ)) → Among (roughened m i xs) xs
roughened_among m i xs =
    cond_both (eqb (length xs) 0) xs (mixed m (i % length xs) xs) (λ ys. Among ys xs) (λ _. among_self xs)
    (λ e. mixed_among m (i % length xs) xs (round_below i xs (pos_of_nonzero (length xs) (eqb-false (length xs) 0 e))))
  where
    pos_of_nonzero : (n : ℕ) → (n ≡ 0 → ⊥) → 0 < n
    pos_of_nonzero n ne = omega arith

pub roughened_length : (m : Mix) (i : ℕ) (xs : List (List ℕ)) → length (roughened m i xs) ≤ length xs
roughened_length m i xs =
    cond_both (eqb (length xs) 0) xs (mixed m (i % length xs) xs) (λ ys. length ys ≤ length xs) (λ _. omega arith) (λ _. mixed_length m (i % length xs) xs)

-- a letter is kept behind those of m, which are those of q, or those but the first
pub remembers : (q m s : Queue) (l : List ℕ) (r : Bool) → Among (letters_of m) (letters_of q) → room_of m ≡ room_of q → (128 ≤ room_of q → length (letters_of m) < room_of m) →
    letters_of m ++ l ∷ [] ≡ remembered (letters_of q) l → Pushed m l r s → Remembers q l s
remembers q m s l r a e short is p =
    record {
      among = among_push r (letters_of q) (letters_of m) (letters_of s) l a p.letters;
      room = p.room ∙ e;
      is = λ big. p.letters ∙ ap (λ b. cond b (letters_of m ++ l ∷ []) (letters_of m)) (p.takes (short big)) ∙ is;
    }
