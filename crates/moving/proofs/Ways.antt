-- A way through a function: what was done so far, one more thing done, and how it ends.
-- Assumes nothing.
use Rattle.std.proofs.Common.{◌≡◌, ℕ, ◌+◌, ◌≤◌, Bool, true, false, not, List, [], ◌∷◌, is_ok, is_err, IfOk, OnOk, Ok, Err, Result, sym, refl, subst, arith}
use borrow.Author.Tests.{both_ways, not-true}
use Rattle.moving.specs.declared.Down.{Down}
use Rattle.moving.specs.declared.Node.{Node}
use Rattle.moving.specs.Hosts.{Host, World, Does, with_host, Gets, Gets.gets, Gets.falls, Posts, Posts.posts, me}
use Rattle.moving.specs.Invariant.{Whole, Ready, Keeps, Legit, flip}
use Rattle.moving.proofs.Moves.{dropped}
use Rattle.moving.proofs.Steps.{step_ok, step_err, step_err_own, step_up, gives_whole, gives_fell, sends_whole, sends_fell, more_whole, read_whole, in_hand, seen}

-- From the node n, the world w and the letters x in hand to m, v and y, while numbers grew by k: nobody has fallen, and it's whole as before.
pub record SoFar (x : List (List ℕ)) (n : Node) (w : World) (k : ℕ) (y : List (List ℕ)) (m : Node) (v : World) : Type 0 where
  pub up : v.fell ≡ false
  pub whole : (i z : ℕ) (o : Node) → Whole i z x n o w → Whole i (z + k) y m o v

pub begin : (x : List (List ℕ)) (n : Node) (w : World) → w.fell ≡ false → SoFar x n w 0 x n w
begin x n w u = record { up = u; whole = λ i z o h. more_whole (omega arith) h }

-- what is asked, and what the node is then, keeps it whole; numbers grow by j
abbrev pub Fine : ℕ → List (List ℕ) → Node → World → List (List ℕ) → Node → World → Type 0
Fine j x n w y m d = (i z : ℕ) (o : Node) → Whole i z x n o w → Whole i (z + j) y m o d

-- what keeps it whole with no growth
pub fine : {x y : List (List ℕ)} {n m : Node} {w d : World} → ((i z : ℕ) (o : Node) → Whole i z x n o w → Whole i z y m o d) → Fine 0 x n w y m d
fine f i z o h = more_whole (omega arith) (f i z o h)

-- the node changes, and nothing is asked
pub then_so : {x y q : List (List ℕ)} {n m l : Node} {w v : World} {k : ℕ} (j : ℕ) → SoFar x n w k y m v → Fine j y m v q l v → SoFar x n w (k + j) q l v
then_so j s f = record { up = s.up; whole = λ i z o h. more_whole (omega arith) (f i _ o (s.whole i z o h)) }

-- something is asked and done
pub then_ok : {x y q : List (List ℕ)} {n m l : Node} {w v d t : World} {k : ℕ} (j : ℕ) → SoFar x n w k y m v → Does v d true t → d.fell ≡ v.fell → Fine j y m v q l d → SoFar x n w (k + j) q l t
then_ok j s b p f = record { up = step_up b p; whole = λ i z o h. more_whole (omega arith) (step_ok b (f i _ o (s.whole i z o h))) }

-- a callee did what it says
pub then_call : {A : Type 0} {x y : List (List ℕ)} {n m : Node} {f : A → Node} {w v t : World} {k j : ℕ} {r : A} → SoFar x n w k y m v → true ≡ not t.fell → Keeps j y m v (Ok r) f t → SoFar x n w (k + j) [] (f r) t
then_call {t = t} s u c = record { up = not-true t.fell (sym u); whole = λ i z o h. more_whole (omega arith) (c.whole i _ o (s.whole i z o h)) }

-- more was allowed
pub more : {x y : List (List ℕ)} {n m : Node} {w v : World} {k : ℕ} (j : ℕ) → k ≤ j → SoFar x n w k y m v → SoFar x n w j y m v
more j q s = record { up = s.up; whole = λ i z o h. more_whole (omega arith) (s.whole i z o h) }

-- what is in hand was read
pub read : {x y : List (List ℕ)} {n m : Node} {w v : World} {k : ℕ} → SoFar x n w k y m v → SoFar x n w k [] m v
read s = record { up = s.up; whole = λ i z o h. read_whole (s.whole i z o h) }

-- HOW IT ENDS
-- all is well
pub ends_ok : {A : Type 0} {r : A} {x : List (List ℕ)} {n : Node} {f : A → Node} {w v : World} {k : ℕ} (j : ℕ) → k ≤ j → SoFar x n w k [] (f r) v → Keeps j x n w (Ok r) f v
ends_ok j q s = record { whole = λ i z o h. more_whole (omega arith) (s.whole i z o h) }

-- it fell over what it asked
pub ends_err : {A : Type 0} {x y q : List (List ℕ)} {n m l : Node} {w v d t : World} {k : ℕ} (j c : ℕ) (f : A → Node) (r : Result A Down) → is_err r ≡ true → k + c ≤ j → SoFar x n w k y m v → Does v d false t → Fine c y m v q l d → Keeps j x n w r f t
ends_err j c f (Ok r) e p s g h = absurd (both_ways false refl e)
ends_err j c f (Err r) e p s g h =
    record { whole = λ i z o u. more_whole (omega arith) (step_err g s.up (more_whole {k = (z + _) + c} (omega arith) (s.whole i z o u)) (h i _ o (s.whole i z o u))) }

-- it fell over what changes no more than its own pages and what was touched
pub ends_err_own : {A : Type 0} {x y : List (List ℕ)} {n m : Node} {w v t : World} {k : ℕ} (j : ℕ) (f : A → Node) (r : Result A Down) → is_err r ≡ true → (h : Host) → ((page : ℕ → List ℕ) (touched : ℕ → Bool) → dropped page touched h ≡ dropped page touched (me v)) → k ≤ j → SoFar x n w k y m v → Does v (with_host v.turn h v) false t → Keeps j x n w r f t
ends_err_own j f (Ok r) e h q p s g = absurd (both_ways false refl e)
ends_err_own j f (Err r) e h q p s g = record { whole = λ i z o u. more_whole (omega arith) (step_err_own h q g s.up (s.whole i z o u)) }

-- a callee fell
pub ends_call : {A B : Type 0} {x y : List (List ℕ)} {n m : Node} {g : B → Node} {w v t : World} {k c : ℕ} {q : Down} (j : ℕ) (f : A → Node) (r : Result A Down) → is_err r ≡ true → SoFar x n w k y m v → Keeps {A = B} c y m v (Err q) g t → k + c ≤ j → Keeps j x n w r f t
ends_call j f (Ok r) e s g p = absurd (both_ways false refl e)
ends_call j f (Err r) e s g p = record { whole = λ i z o u. more_whole (omega arith) (g.whole i _ o (s.whole i z o u)) }

-- the last thing is a call, and its answer is handed on
pub ends_tail : {A : Type 0} {x y : List (List ℕ)} {n m : Node} {f : A → Node} {w v t : World} {k c : ℕ} {r : Result A Down} (j : ℕ) → SoFar x n w k y m v → Keeps c y m v r f t → k + c ≤ j → Keeps j x n w r f t
ends_tail {r = Ok r} j s g q = record { whole = λ i z o h. more_whole (omega arith) (g.whole i _ o (s.whole i z o h)) }
ends_tail {r = Err r} j s g q = record { whole = λ i z o h. more_whole (omega arith) (g.whole i _ o (s.whole i z o h)) }

-- one ask, at whose answer the node changes
pub one_ask : {A : Type 0} {x q : List (List ℕ)} {n l : Node} {w d t : World} (j c : ℕ) (f : A → Node) (r : Result A Down) → c ≤ j → w.fell ≡ false → d.fell ≡ w.fell → Does w d (is_ok r) t → Fine c x n w q l d → ((a : A) → r ≡ Ok a → f a ≡ l) → q ≡ [] → Keeps j x n w r f t
one_ask {x = x} {q = q} {n = n} {l = l} {w = w} {t = t} j c f (Ok r) p u e g h k nil =
    let s = then_ok c (begin x n w u) g e h in
    record { whole = λ i z o a. more_whole {m = z + (0 + c)} (omega arith) (subst (λ b. Whole i (z + (0 + c)) [] b o t) (sym (k r refl)) (subst (λ y. Whole i (z + (0 + c)) y l o t) nil (s.whole i z o a))) }
one_ask {x = x} {n = n} {w = w} j c f (Err r) p u e g h k nil = ends_err j c f (Err r) refl (omega arith) (begin x n w u) g h

-- what needs less room is ready where more was
pub less_ready : {x : List (List ℕ)} {n : Node} {w : World} {c d : ℕ} → d ≤ c → Ready c x n w → Ready d x n w
less_ready p h = let q = h.room in record { i = h.i; m = h.m; o = h.o; room = omega arith; whole = h.whole }

-- what was said, was said
pub said : {A E : Type 0} {a b : A} → ◌≡◌ {A = Result A E} (Ok a) (Ok b) → a ≡ b
said e = cc

-- a result isn't both
pub not_both : {A E B : Type 0} (r : Result A E) → is_err r ≡ true → is_ok r ≡ true → B
not_both (Ok x) e f = absurd (both_ways false refl e)
not_both (Err x) e f = absurd (both_ways false refl f)

-- what two clauses say of it says a third
pub on_both : {A P Q R : Type 0} (r : Result A Down) → (P → Q → R) → OnOk r P → OnOk r Q → OnOk r R
on_both (Ok a) f p q = f p q
on_both (Err e) f p q = tt

-- LETTERS
pub got : {x : List (List ℕ)} {n m : Node} {w v t : World} {k : ℕ} {b : Bool} {l : List ℕ} → SoFar x n w k [] m v → Gets v (Ok b) l t → SoFar x n w (k + 0) (in_hand b l) m t
got s (gets d b l v g e) = then_ok 0 s e (gives_fell g) (λ i z o h. more_whole (omega arith) (gives_whole g h))

pub got_err : {A : Type 0} {x : List (List ℕ)} {n m : Node} {w v t : World} {k : ℕ} {y : Down} {l : List ℕ} (j : ℕ) (f : A → Node) (r : Result A Down) → is_err r ≡ true → SoFar x n w k [] m v → Gets v (Err y) l t → k ≤ j → Keeps j x n w r f t
got_err j f r e s (falls y d c l m v g h) p = ends_err j 0 f r e (omega arith) s h (λ i z o u. more_whole (omega arith) (gives_whole g u))

-- a letter is sent
pub posted : {x : List (List ℕ)} {n m : Node} {w v t : World} {k : ℕ} {l : List ℕ} → SoFar x n w k [] m v → ((i z : ℕ) (o : Node) → Whole i z [] m o v → Legit z l o m (flip (seen v))) → Posts v l true t → SoFar x n w (k + 0) [] m t
posted s f (posts d c v g e) = then_ok 0 s e (sends_fell g) (λ i z o h. more_whole (omega arith) (sends_whole g (f i z o h) h))

-- and that is the end of it
pub posts_ends : {A : Type 0} {x : List (List ℕ)} {n m : Node} {w v t : World} {k : ℕ} {l : List ℕ} (j : ℕ) (f : A → Node) (r : Result A Down) → k ≤ j → ((a : A) → r ≡ Ok a → f a ≡ m) → SoFar x n w k [] m v → ((i z : ℕ) (o : Node) → Whole i z [] m o v → Legit z l o m (flip (seen v))) → Posts v l (is_ok r) t → Keeps j x n w r f t
posts_ends {m = m} {t = t} {k = k} j f (Ok r) q e s h p =
    let y = posted s h p in
    record { whole = λ i z o a. more_whole {m = z + (k + 0)} (omega arith) (subst (λ b. Whole i (z + (k + 0)) [] b o t) (sym (e r refl)) (y.whole i z o a)) }
posts_ends {m = m} j f (Err r) q e s h (posts d c v g k) = ends_err j 0 f (Err r) refl (omega arith) s k (λ i z o a. more_whole (omega arith) (sends_whole g (h i z o a) a))

-- there was a letter
pub gotten : {x : List (List ℕ)} {n m : Node} {w v : World} {k : ℕ} (b : Bool) (l : List ℕ) → b ≡ true → SoFar x n w k (in_hand b l) m v → SoFar x n w k (l ∷ []) m v
gotten {x = x} {n = n} {m = m} {w = w} {v = v} {k = k} b l e s = subst (λ b. SoFar x n w k (in_hand b l) m v) e s

-- WHAT THE NEXT MAY COUNT ON
pub ready : {x y : List (List ℕ)} {n m : Node} {w v : World} {k c d : ℕ} → Ready c x n w → k + d ≤ c → SoFar x n w k y m v → Ready d y m v
ready h p s =
    let q = h.room in record { i = h.i; m = _; o = h.o; room = omega arith; whole = s.whole h.i h.m h.o h.whole }

-- of a result that is an error nothing is claimed
pub unmade : {A : Type 0} (r : Result A Down) (P : A → Type 0) → is_err r ≡ true → IfOk r P
unmade (Ok x) P e = absurd (both_ways false refl e)
unmade (Err x) P e = tt

-- it fell over a letter
pub posts_err : {A : Type 0} {x : List (List ℕ)} {n m : Node} {w v t : World} {k : ℕ} {l : List ℕ} (j : ℕ) (f : A → Node) (r : Result A Down) → is_err r ≡ true → k ≤ j → SoFar x n w k [] m v → ((i z : ℕ) (o : Node) → Whole i z [] m o v → Legit z l o m (flip (seen v))) → Posts v l false t → Keeps j x n w r f t
posts_err j f r e q s h (posts d c v g k) = ends_err j 0 f r e (omega arith) s k (λ i z o a. more_whole (omega arith) (sends_whole g (h i z o a) a))
