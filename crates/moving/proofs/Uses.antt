-- What an ask does to what's left of the turn, whether the host has fallen, how many pages there are, and how many calm rounds were counted.
-- Assumes nothing.
use Rattle.std.proofs.Common.{◌≡◌, ℕ, Bool, true, not, T, List, is_ok, is_err, IfOk, false, Ok, Err, Result, sym, refl, ap, ◌∙◌, subst, arith}
use Rattle.moving.specs.declared.Down.{Down}
use Rattle.moving.specs.Hosts.{World, Goes, rest, writes, Does, stands, falls_before, falls_after, down, Posts, posts, Sends, takes, loses, Gets, gets, falls, Gives, next, again, nothing}
use borrow.Author.Tests.{both_ways}
use Rattle.moving.specs.Used.{Soon, Used, Counts}

-- w and v agree on what's left, who fell, how many pages there are and how many calm rounds were counted
pub record Same (w v : World) : Type 0 where
  pub left : v.left ≡ w.left
  pub fell : v.fell ≡ w.fell
  pub pages : v.pages ≡ w.pages
  pub calm : v.calm ≡ w.calm
  pub still : v.still ≡ w.still

pub itself : {w : World} → Same w w
itself = record { left = refl; fell = refl; pages = refl; calm = refl; still = refl }

pub goes_same : {w v : World} → Goes w v → Same w v
goes_same (rest w) = itself
goes_same (writes p ws t l e g) = let s = goes_same g in record { left = s.left; fell = s.fell; pages = s.pages; calm = s.calm; still = s.still }

-- an ask, if what is asked for leaves these
pub does : {w d v : World} {b : Bool} → Does w d b v → Soon 1 w → Same w d → Used 1 w b v
does (stands v u g) r s =
    let k = goes_same g in
    record { left = omega arith; fell = ap not (sym (k.fell ∙ s.fell ∙ u)); pages = k.pages ∙ s.pages; fall = refl; calm = k.calm ∙ s.calm; still = k.still ∙ s.still }
does (falls_before v u f) r s =
    let e = ap (λ (x : World). x.left) f.is in
    record {
      left = omega arith;
      fell = ap (λ (x : World). not x.fell) (sym f.is);
      pages = ap (λ (x : World). x.pages) f.is;
      fall = ap (λ (x : World). x.rough) f.is;
      calm = ap (λ (x : World). x.calm) f.is;
      still = ap (λ (x : World). x.still) f.is;
    }
does (falls_after v u f) r s =
    let e = ap (λ (x : World). x.left) f.is in
    record {
      left = omega arith;
      fell = ap (λ (x : World). not x.fell) (sym f.is);
      pages = ap (λ (x : World). x.pages) f.is ∙ s.pages;
      fall = ap (λ (x : World). x.rough) f.is;
      calm = ap (λ (x : World). x.calm) f.is ∙ s.calm;
      still = ap (λ (x : World). x.still) f.is ∙ s.still;
    }
does (down t) r s = absurd (subst T r.up t)

pub sends_same : {w : World} {l : List ℕ} {d : World} → Sends w l d → Same w d
sends_same (takes o a) = record { left = refl; fell = refl; pages = refl; calm = refl; still = refl }
sends_same (loses o a) = record { left = refl; fell = refl; pages = refl; calm = refl; still = refl }

pub gives_same : {w : World} {b : Bool} {l : List ℕ} {d : World} → Gives w b l d → Same w d
gives_same (next b l h) = record { left = refl; fell = refl; pages = refl; calm = refl; still = refl }
gives_same (again l m) = record { left = refl; fell = refl; pages = refl; calm = refl; still = refl }
gives_same (nothing l r a e) = record { left = refl; fell = refl; pages = refl; calm = refl; still = refl }

pub sent : {w v : World} {b : Bool} {l : List ℕ} → Posts w l b v → Soon 1 w → Used 1 w b v
sent (posts d b v s h) r = does h r (sends_same s)

pub got : {w v : World} {a : Result Bool Down} {l : List ℕ} → Gets w a l v → Soon 1 w → Used 1 w (is_ok a) v
got (gets d b l v s h) r = does h r (gives_same s)
got (falls x d b l m v s h) r = does h r (gives_same s)

-- THE COUNTS OF CALM ROUNDS, alone: those of v are those of w
pub record Steady (w v : World) : Type 0 where
  pub calm : v.calm ≡ w.calm
  pub still : v.still ≡ w.still

pub steady_self : {w : World} → Steady w w
steady_self = record { calm = refl; still = refl }

pub steady_then : {w u v : World} → Steady w u → Steady u v → Steady w v
steady_then a b = record { calm = b.calm ∙ a.calm; still = b.still ∙ a.still }

-- an ask, if what is asked for leaves them
pub does_steady : {w d v : World} {b : Bool} → Does w d b v → Steady w d → Steady w v
does_steady (stands v u g) s = let k = goes_same g in record { calm = k.calm ∙ s.calm; still = k.still ∙ s.still }
does_steady (falls_before v u f) s = record { calm = ap (λ (x : World). x.calm) f.is; still = ap (λ (x : World). x.still) f.is }
does_steady (falls_after v u f) s = record { calm = ap (λ (x : World). x.calm) f.is ∙ s.calm; still = ap (λ (x : World). x.still) f.is ∙ s.still }
does_steady (down t) s = record { calm = refl; still = refl }

pub sent_steady : {w v : World} {b : Bool} {l : List ℕ} → Posts w l b v → Steady w v
sent_steady (posts d b v s h) = let k = sends_same s in does_steady h (record { calm = k.calm; still = k.still })

pub got_steady : {w v : World} {a : Result Bool Down} {l : List ℕ} → Gets w a l v → Steady w v
got_steady (gets d b l v s h) = let k = gives_same s in does_steady h (record { calm = k.calm; still = k.still })
got_steady (falls x d b l m v s h) = let k = gives_same s in does_steady h (record { calm = k.calm; still = k.still })

-- of a turn that ended in a fall
pub fell_counts : {A : Type 0} {w v : World} (r : Result A Down) → is_err r ≡ true → Counts w false v → Counts w (is_ok r) v
fell_counts (Ok x) e h = absurd (both_ways false refl e)
fell_counts (Err x) e h = h

-- what was answered
pub answered : {A : Type 0} (r : Result A Down) (x : A) → (is_ok r ≡ true → r ≡ Ok x) → IfOk r (λ y. y ≡ x)
answered (Ok y) x f = let e = f refl in cc
answered (Err d) x f = tt
