-- A change of a list at one place, as a change of a function at one place.
-- Assumes nothing.
use Rattle.std.proofs.Common.{◌≡◌, ℕ, zero, suc, ◌<◌, eqb, List, length, get_or, take, set, replicate, sym, refl, ap, ◌∙◌, inl, inr, arith}
use mathlib.Core.Path.{fun_ext}
use Rattle.std.proofs.lemmas.Bool.{cases_eq, eq-eqb, ne_eqb, cond-true, cond-false}
use Rattle.std.proofs.lemmas.List.{get_or-set_same, get_or-set_other, get_or-replicate, length-replicate, length-take}
use Rattle.std.proofs.Math.Seq.{take-set-lt}
use Rattle.moving.specs.Hosts.{put}

sets_put : {A : Type 0} (d : A) (ys : List A) (p : ℕ) (v : A) → p < length ys → (λ j. get_or (set ys p v) j d) ≡ put p v (λ j. get_or ys j d)
sets_put d ys p v h =
    fun_ext (λ j. elim (cases_eq j p) [
      | inl e ↦ ap (λ k. get_or (set ys p v) k d) e ∙ get_or-set_same ys p v d h ∙ sym (cond-true (eqb j p) v (get_or ys j d) (eq-eqb j p e))
      | inr ne ↦ get_or-set_other ys p j v d ne ∙ sym (cond-false (eqb j p) v (get_or ys j d) (ne_eqb j p ne))
    ])

-- the first n elements, one of which is set
pub taken_put : {A : Type 0} (d : A) (n : ℕ) (xs : List A) (p : ℕ) (v : A) → p < n → p < length xs → (λ j. get_or (take n (set xs p v)) j d) ≡ put p v (λ j. get_or (take n xs) j d)
taken_put d n xs p v h k = ap (λ l j. get_or l j d) (take-set-lt n xs p v h) ∙ sets_put d (take n xs) p v (simp length-take (omega arith))

pub zeros : (n k : ℕ) → get_or {A = ℕ} (replicate n 0) k 0 ≡ 0
zeros zero k = refl
zeros (suc n) zero = refl
zeros (suc n) (suc k) = zeros n k

-- every element is the same
pub filled : {A : Type 0} (xs : List A) (m : ℕ) (v d : A) → xs ≡ replicate m v → (p : ℕ) → p < length xs → get_or xs p d ≡ v
filled xs m v d e p lt = ap (λ l. get_or l p d) e ∙ get_or-replicate m p v d (omega (arith, simp length-replicate at (ap length e)))
