-- Turns and rounds: what the nights keep.
-- Assumes nothing.
use Rattle.std.proofs.Common.{◌≡◌, ℕ, ◌+◌, ◌<◌, ◌≤◌, Bool, true, false, not, [], sym, refl, ap, ◌∙◌, subst₂, arith}
use mathlib.Core.Path.{subst⁻¹}
use borrow.Author.Tests.{not-true}
use Rattle.moving.specs.declared.Node.{Node}
use Rattle.moving.specs.Hosts.{World, seated, renewed, rounded}
use Rattle.moving.specs.Model.{Rested}
use Rattle.moving.specs.Invariant.{Whole, Ready, fresh}
use Rattle.moving.proofs.Steps.{swap_whole, more_whole}

-- who has had a turn, stands
pub record Stands (i m : ℕ) (n o : Node) (w : World) : Type 0 where
  pub up : w.fell ≡ false
  pub rested : Rested n
  pub whole : Whole i m [] n o w

-- a turn begins
pub seat : {i m : ℕ} {n o : Node} {v : World} (w : World) → v ≡ seated i w → Whole i m [] n o (seated i w) → Whole i m [] n o v
seat {i = i} {m = m} {n = n} {o = o} w e h = subst⁻¹ (λ v. Whole i m [] n o v) e h

pub begins : {i m : ℕ} {n o : Node} {v : World} (w : World) → m + 64 < 18446744073709551616 → v ≡ seated i w → Rested n → Whole i m [] n o (seated i w) → record { soon : 256 ≤ v.left; up : v.fell ≡ false; rested : Rested n; ready : Ready 64 [] n v }
begins {i = i} {m = m} {n = n} {o = o} w r e s h =
    let l = ap (λ v. v.left) e in
    record { soon = omega arith; up = ap (λ v. v.fell) e; rested = s; ready = record { i = i; m = m; o = o; room = r; whole = seat w e h } }

-- and ends
pub ended : {i m : ℕ} {n l o : Node} {w v : World} → true ≡ not w.fell → Rested n → Whole i m [] n o w → l ≡ n → v ≡ w → Stands i m l o v
ended {i = i} {m = m} {o = o} {w = w} u s h p q =
    subst₂ (λ a b. Stands i m a o b) (sym p) (sym q) (record { up = not-true w.fell (sym u); rested = s; whole = h })

pub fresh_rested : (i : ℕ) (b : Bool) → Rested (fresh i b)
fresh_rested i true = record { windowed = tt; silent = refl }
fresh_rested i false = record { windowed = tt; silent = refl }

pub anew : {i m : ℕ} {n l o : Node} {w v x : World} → Whole i m [] (fresh i false) o w → x ≡ renewed w → l ≡ n → n ≡ fresh i false → v ≡ x → Stands i m l o v
anew {i = i} {m = m} {o = o} {w = w} h e p q r =
    subst₂ (λ a b. Stands i m a o b) (sym (p ∙ q)) (sym (r ∙ e)) (record { up = refl; rested = fresh_rested i false; whole = record { turn = h.turn; small = h.small; last = h.last; both = h.both } })

pub next : {m : ℕ} {n o : Node} {w : World} → Whole 0 m [] n o w → Whole 1 m [] o n (seated 1 w)
next h = swap_whole 1 (omega arith) refl h

pub round : {m : ℕ} {n o : Node} {w v : World} (k : ℕ) → m ≤ k → v ≡ rounded w → Stands 1 m n o w → record { up : v.fell ≡ false; whole : Whole 0 k [] o n (seated 0 v) }
round {n = n} {o = o} k p e h =
    let x = swap_whole 0 (omega arith) refl (more_whole p h.whole) in
    record { up = ap (λ v. v.fell) e ∙ h.up; whole = subst⁻¹ (λ v. Whole 0 k [] o n (seated 0 v)) e (record { turn = x.turn; small = x.small; last = x.last; both = x.both }) }
