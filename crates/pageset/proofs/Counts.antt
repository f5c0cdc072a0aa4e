-- Laws of counting.
use Rattle.std.proofs.Common.{◌≡◌, ℕ, zero, suc, ◌+◌, ◌<◌, ◌≤◌, Bool, true, false, ◌&&◌, ltb, leb, sym, refl, ap, ◌∙◌, inl, inr, arith}
use Rattle.std.proofs.lemmas.Bool.{cases_eq, lt-ltb, lt-leb}
use Rattle.std.proofs.lemmas.Bool.Decides.{nat_tests}
use Rattle.pageset.specs.Count.{bit, count, count_from}

pub bit_most : (b : Bool) → bit b ≤ 1
bit_most b = grind (arith, nat_tests)

pub count_more : (f : ℕ → Bool) (n : ℕ) → count f (n + 1) ≡ count f n + bit (f n)
unfolding count
count_more f n = let e : n + 1 ≡ suc n = omega arith in ap (count f) e

pub count_most : (f : ℕ → Bool) (n : ℕ) → count f n ≤ n
unfolding count
count_most f zero = omega arith
count_most f (suc n) = omega (arith, count_most f n, bit_most (f n))

-- tests that answer alike
pub count_same : (f g : ℕ → Bool) (n : ℕ) → ((q : ℕ) → q < n → g q ≡ f q) → count g n ≡ count f n
unfolding count
count_same f g zero h = refl
count_same f g (suc n) h = grind (arith, count_same f g n (λ q l. h q (omega arith)), h n (omega arith))

-- g answers as f does but at k
pub count_but_one : (f g : ℕ → Bool) (k n : ℕ) → ((q : ℕ) → (q ≡ k → ⊥) → g q ≡ f q) → count g n ≤ count f n + 1
unfolding count
count_but_one f g k zero h = omega arith
count_but_one f g k (suc n) h =
    elim (cases_eq n k) [
      | inl e ↦ omega (arith, bit_most (g n), count_same f g n (λ q l. h q (λ s. omega arith)))
      | inr d ↦ omega (arith, count_but_one f g k n h, ap bit (h n d))
    ]

-- g answers as f does but at k, which is below n
pub count_at : (f g : ℕ → Bool) (k n : ℕ) → k < n → ((q : ℕ) → (q ≡ k → ⊥) → g q ≡ f q) → count g n + bit (f k) ≡ count f n + bit (g k)
unfolding count
count_at f g k zero l h = absurd (omega arith)
count_at f g k (suc n) l h =
    elim (cases_eq n k) [
      | inl e ↦ grind (arith, count_same f g n (λ q m. h q (λ s. omega arith)))
      | inr d ↦ grind (arith, h n d, count_at f g k n (omega arith) h)
    ]

-- k left, or came
pub count_cleared : (f g : ℕ → Bool) (k n : ℕ) → k < n → ((q : ℕ) → (q ≡ k → ⊥) → g q ≡ f q) → g k ≡ false → count g n + bit (f k) ≡ count f n
count_cleared f g k n l h z = grind (arith, count_at f g k n l h)

pub count_added : (f g : ℕ → Bool) (k n : ℕ) → k < n → ((q : ℕ) → (q ≡ k → ⊥) → g q ≡ f q) → f k ≡ false → g k ≡ true → count g n ≡ count f n + 1
count_added f g k n l h z o = grind (arith, count_at f g k n l h)

-- f passes whatever g passes
pub count_mono : (f g : ℕ → Bool) (n : ℕ) → ((q : ℕ) → q < n → g q ≡ true → f q ≡ true) → count g n ≤ count f n
unfolding count
count_mono f g zero h = omega arith
count_mono f g (suc n) h = grind (arith, count_mono f g n (λ q l. h q (omega arith)), h n (omega arith))

pub count_none : (n : ℕ) → count (λ q. false) n ≡ 0
unfolding count
count_none zero = refl
count_none (suc n) = omega (arith, count_none n)

pub count_all : (n : ℕ) → count (λ q. true) n ≡ n
unfolding count
count_all zero = refl
count_all (suc n) = omega (arith, count_all n)

-- a + b numbers: the first a, and then b more
pub count_add : (f : ℕ → Bool) (a b : ℕ) → count f (a + b) ≡ count f a + count (λ q. f (a + q)) b
unfolding count
count_add f a zero = let e : a + 0 ≡ a = omega arith in omega (arith, ap (count f) e)
count_add f a (suc b) = let e : a + suc b ≡ suc (a + b) = omega arith in omega (arith, ap (count f) e, count_add f a b)

from_none : (f : ℕ → Bool) (a : ℕ) → count (λ q. leb a q && f q) a ≡ 0
from_none f a = count_same (λ q. false) (λ q. leb a q && f q) a (λ q l. rw (lt-leb a q l)) ∙ count_none a

-- those below a, and the others
pub count_split : (f : ℕ → Bool) (a n : ℕ) → a ≤ n → count f n ≡ count f a + count_from f a n
unfolding count count_from
count_split f a zero h = let e : a ≡ 0 = omega arith in rw (e, from_none f 0) refl
count_split f a (suc n) h =
    elim (cases_eq a (suc n)) [
      | inl e ↦ omega (arith, from_none f a, ap (count f) (sym e), ap (count (λ q. leb a q && f q)) (sym e))
      | inr d ↦ grind (arith, nat_tests, count_split f a n (omega arith))
    ]

-- the numbers below k
pub count_below : (k n : ℕ) → k ≤ n → count (λ q. ltb q k) n ≡ k
unfolding count
count_below k zero h = omega arith
count_below k (suc n) h =
    elim (cases_eq k (suc n)) [
      | inl e ↦ count_same (λ q. true) (λ q. ltb q k) (suc n) (λ q l. lt-ltb q k (omega arith)) ∙ count_all (suc n) ∙ sym e
      | inr d ↦ grind (arith, nat_tests, count_below k n (omega arith))
    ]
