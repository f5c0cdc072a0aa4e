-- A letter more, and the whole row.
-- Assumes nothing.
use Rattle.std.proofs.Common.{◌≡◌, ℕ, ◌+◌, ◌≤◌, Bool, true, false, List, [], ◌∷◌, length, Some, None, Option, sym, refl, ap, ◌∙◌, subst, arith}
use borrow.Author.Tests.{both_ways}
use Rattle.letter.specs.declared.Letter.{Letter}
use Rattle.letter.specs.Words.{letter_of}
use Rattle.moving.specs.declared.Node.{Node}
use Rattle.moving.specs.Hosts.{World, head_is, rest'}
use Rattle.moving.specs.Model.{heeded, heeded_if}
use Rattle.moving.specs.Calm.{row_here, hears, Still, Pulled, Hearing, HeardAll}
use Rattle.moving.proofs.Calms.{calm_self, calm_then, rests_then, still_self}

head_false : (r : List (List ℕ)) (l : List ℕ) → head_is r false l → r ≡ []
unfolding head_is
head_false [] l h = refl
head_false (x ∷ xs) l h = absurd (both_ways false refl h.0)

more_one : (pages : ℕ) (n m : Node) (ws : List ℕ) (r s : List (List ℕ)) → head_is r true ws → s ≡ rest' r → m ≡ heeded_if pages (letter_of ws) n → hears pages m s ≡ hears pages n r
unfolding head_is rest' hears
more_one pages n m ws [] s h e f = absurd (both_ways true h refl)
more_one pages n m ws (x ∷ xs) s h e f = rw (e, f, h.1)

less_one : (ws : List ℕ) (r s : List (List ℕ)) → head_is r true ws → s ≡ rest' r → length r ≡ length s + 1
unfolding head_is rest'
less_one ws [] s h e = absurd (both_ways true h refl)
less_one ws (x ∷ xs) s h e = rw e (omega arith)

none_there : {w v : World} {ws : List ℕ} → Pulled w false ws v → v.rough ≡ false → row_here w ≡ []
none_there {w = w} {ws = ws} p q = head_false (row_here w) ws (p.first q)

none_left : {w v : World} {ws : List ℕ} → Pulled w false ws v → v.rough ≡ false → row_here v ≡ []
unfolding rest'
none_left p q = p.own q ∙ ap rest' (none_there p q)

pub hearing_self : (pages : ℕ) (n : Node) (w : World) → Hearing pages n w 0 n w
hearing_self pages n w = record { calmly = calm_self w; rests = λ e. (e, refl); far = refl; more = λ q. refl; count = λ q. omega arith }

pub hearing_then : {pages j k : ℕ} {n m l : Node} {w u v : World} → Hearing pages n w j m u → Hearing pages m u k l v → Hearing pages n w (j + k) l v
hearing_then {w = w} {u = u} {v = v} a b =
    record {
      calmly = calm_then a.calmly b.calmly;
      rests = rests_then w u v a.rests b.rests;
      far = b.far ∙ a.far;
      more = λ q. b.more q ∙ a.more (b.calmly.rough q);
      count = λ q. let x = b.count q in let y = a.count (b.calmly.rough q) in omega (arith, x, y);
    }

-- by one who counts the pages anew
pub hearing_next : {pages p j k : ℕ} {n m l : Node} {w u v : World} → Hearing pages n w j m u → p ≡ pages → Hearing p m u k l v → Hearing pages n w (j + k) l v
hearing_next {k = k} {m = m} {l = l} {u = u} {v = v} a e b = hearing_then a (subst (λ p. Hearing p m u k l v) e b)

-- there was none
pub none_left_at : {w v : World} {b : Bool} {ws : List ℕ} → Pulled w b ws v → b ≡ false → v.rough ≡ false → row_here v ≡ []
none_left_at {w = w} {v = v} {ws = ws} p e q = none_left (subst (λ (x : Bool). Pulled w x ws v) e p) q

heard_none : {w v : World} {ws : List ℕ} (pages : ℕ) (n : Node) → Pulled w false ws v → Hearing pages n w 0 n v
heard_none pages n p =
    record {
      calmly = p.calmly;
      rests = p.rests;
      far = p.far;
      more = λ q. ap (hears pages n) (none_left p q ∙ sym (none_there p q));
      count = λ q. omega (arith, ap length (none_left p q), ap length (none_there p q));
    }

pub heard_none_at : {w v : World} {b : Bool} {ws : List ℕ} (pages : ℕ) (n : Node) → Pulled w b ws v → b ≡ false → Hearing pages n w 0 n v
heard_none_at {w = w} {v = v} {ws = ws} pages n p e = heard_none pages n (subst (λ (x : Bool). Pulled w x ws v) e p)

heard_one : {w v u : World} {ws : List ℕ} (pages : ℕ) (n m : Node) → Pulled w true ws v → Still v u → m ≡ heeded_if pages (letter_of ws) n → Hearing pages n w 1 m u
heard_one {w = w} {v = v} {u = u} {ws = ws} pages n m p s e =
    record {
      calmly = calm_then p.calmly s.calmly;
      rests = rests_then w v u p.rests s.rests;
      far = s.far ∙ p.far;
      more = λ q. more_one pages n m ws (row_here w) (row_here u) (p.first (s.calmly.rough q)) (s.own ∙ p.own (s.calmly.rough q)) e;
      count = λ q. less_one ws (row_here w) (row_here u) (p.first (s.calmly.rough q)) (s.own ∙ p.own (s.calmly.rough q));
    }

-- one that can be read, and one that cannot
pub heard_some_at : {w v u : World} {b : Bool} {ws : List ℕ} (pages pages' : ℕ) (n m : Node) (l : Letter) → Pulled w b ws v → b ≡ true → Still v u → pages' ≡ pages → Some l ≡ letter_of ws → m ≡ heeded pages' l n → Hearing pages n w 1 m u
heard_some_at {w = w} {v = v} {ws = ws} pages pages' n m l p e s k f h =
    heard_one pages n m (subst (λ (x : Bool). Pulled w x ws v) e p) s (h ∙ ap (λ (j : ℕ). heeded j l n) k ∙ ap (λ (o : Option Letter). heeded_if pages o n) f)

pub heard_unread_at : {w v : World} {b : Bool} {ws : List ℕ} (pages : ℕ) (n : Node) → Pulled w b ws v → b ≡ true → None ≡ letter_of ws → Hearing pages n w 1 n v
heard_unread_at {w = w} {v = v} {ws = ws} pages n p e f =
    heard_one pages n n (subst (λ (x : Bool). Pulled w x ws v) e p) (still_self v) (ap (λ (o : Option Letter). heeded_if pages o n) f)

-- ALL OF THEM
empty : (r : List (List ℕ)) → length r ≡ 0 → r ≡ []
empty [] e = refl
empty (x ∷ xs) e = absurd (omega arith)

all_heard : (pages : ℕ) (n m : Node) (r s : List (List ℕ)) → hears pages m s ≡ hears pages n r → s ≡ [] → m ≡ hears pages n r
unfolding hears
all_heard pages n m r s e z = sym (ap (hears pages m) z) ∙ e

heard_all : {pages k : ℕ} {n m : Node} {w v : World} → Hearing pages n w k m v → (v.rough ≡ false → length (row_here w) ≤ 64 → row_here v ≡ []) → HeardAll pages n w m v
heard_all {pages = pages} {n = n} {m = m} {w = w} {v = v} h z =
    record { calmly = h.calmly; rests = h.rests; far = h.far; is = λ q f. all_heard pages n m (row_here w) (row_here v) (h.more q) (z q f); none = z }

-- there is no more
pub heard_out : {pages k : ℕ} {n m : Node} {w v : World} → Hearing pages n w k m v → (v.rough ≡ false → row_here v ≡ []) → HeardAll pages n w m v
heard_out h z = heard_all h (λ q f. z q)

-- 64 were heard
pub heard_full : {pages : ℕ} {n m : Node} {w v : World} (k : ℕ) → k ≡ 64 → Hearing pages n w k m v → HeardAll pages n w m v
heard_full {v = v} k e h = heard_all h (λ q f. empty (row_here v) (let c = h.count q in omega arith))

-- after something that left the line alone
pub heard_after : {pages : ℕ} {n m : Node} {w u v : World} → Still w u → HeardAll pages n u m v → HeardAll pages n w m v
heard_after {pages = pages} {n = n} {w = w} {u = u} {v = v} s h =
    record {
      calmly = calm_then s.calmly h.calmly;
      rests = rests_then w u v s.rests h.rests;
      far = h.far ∙ s.far;
      is = λ q f. h.is q (subst (λ r. length r ≤ 64) (sym s.own) f) ∙ ap (hears pages n) s.own;
      none = λ q f. h.none q (subst (λ r. length r ≤ 64) (sym s.own) f);
    }
