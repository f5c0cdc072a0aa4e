-- Pages are looked at and sent: how many are dirty, how many are still to be sent, and what waits for the other host.
-- Assumes nothing.
use Rattle.std.proofs.Common.{◌≡◌, ℕ, ◌+◌, ◌<◌, ◌≤◌, min, Bool, true, false, cond, ◌&&◌, ◌||◌, leb, List, [], ◌∷◌, ◌++◌, length, take, sym, refl, ap, ◌∙◌, subst, inl, inr, arith}
use Rattle.std.proofs.lemmas.Bool.{cases_lt, eq-eqb, ne_eqb, le-leb, lt-leb}
use Rattle.std.proofs.lemmas.List.{take_more, take_all, length-take-le, nil_from_length}
use Rattle.letter.specs.declared.Kind.TheVariants.{Probe, Page}
use Rattle.letter.specs.Words.{head}
use Rattle.pageset.specs.Count.{bit, count, count_from}
use Rattle.pageset.specs.Member.{member}
use Rattle.pageset.proofs.Counts.{count_same, count_more, count_cleared}
use Rattle.window.specs.Pages.{pushed, slot}
use Rattle.moving.specs.declared.state.Transfer.{Transfer}
use Rattle.moving.specs.Hosts.{World, Does, put, me, untouched}
use Rattle.moving.specs.Scan.{due, Looked}
use Rattle.moving.specs.Calm.{row_here, row_there, heads, Rises, Calmly, Rests, Added, page_heads, asked_of, asked_up_to, AskedTo, Asked, todo, Passed, Went}
use Rattle.moving.proofs.Calms.{calm_self, calm_then, rests_then, length_heads, swept}

-- ASKS THAT LOOK AT NO PAGE
-- such a count goes up with each page that is written
pub rises_due : (c : ℕ) (f : ℕ → Bool) → Rises (λ q b. leb c q && (b || f q))
rises_due c f q e = go (leb c q) e
  where
    go : (b : Bool) → (b && (false || f q)) ≡ true → (b && (true || f q)) ≡ true
    go true e = refl
    go false e = e

-- counts of a pass grow no faster than the guest writes
pub tally_clean : {w v : World} → Calmly w v → v.busy ≤ 16 → (c : ℕ) → count (me v).touched c + w.busy ≤ count (me w).touched c + v.busy
tally_clean {w = w} {v = v} k b c = let t = k.tally b w.turn (λ q z. z) (λ q e. refl) c in let s : count (me v).touched c ≡ count (v.host w.turn).touched c = ap (λ (i : ℕ). count (v.host i).touched c) k.turn in omega (arith, t, s)

pub tally_todo : {w v : World} (x : Transfer) → Calmly w v → v.pages ≡ w.pages → v.busy ≤ 16 → todo x v + w.busy ≤ todo x w + v.busy
unfolding todo count_from
tally_todo {w = w} {v = v} x k p b =
    let t = k.tally b w.turn (λ q z. leb x.cursor q && (z || member x.unsent q)) (rises_due x.cursor (member x.unsent)) w.pages in
    let s : count (λ q. leb x.cursor q && ((me v).touched q || member x.unsent q)) v.pages ≡ count (λ q. leb x.cursor q && ((v.host w.turn).touched q || member x.unsent q)) v.pages = ap (λ (i : ℕ). count (λ q. leb x.cursor q && ((v.host i).touched q || member x.unsent q)) v.pages) k.turn in
    let r : count (λ q. leb x.cursor q && ((v.host w.turn).touched q || member x.unsent q)) v.pages ≡ count (λ q. leb x.cursor q && ((v.host w.turn).touched q || member x.unsent q)) w.pages = ap (count (λ q. leb x.cursor q && ((v.host w.turn).touched q || member x.unsent q))) p in
    omega (arith, t, s, r)

-- nothing is looked at: x stays
pub passed_same : (x : Transfer) {w v : World} → Calmly w v → Rests w v → v.pages ≡ w.pages → row_here v ≡ row_here w → Passed x w x v
passed_same x {w = w} {v = v} k r p o = record { calmly = k; rests = r; own = o; clean = λ b. tally_clean k b x.cursor; todo = λ b. let t = tally_todo x k p b in omega (arith, t) }

pub passed_self : (x : Transfer) (w : World) → Passed x w x w
passed_self x w = record { calmly = calm_self w; rests = λ e. (e, refl); own = refl; clean = λ b. omega arith; todo = λ b. omega arith }

pub passed_then : {x y z : Transfer} {w u v : World} → Passed x w y u → Passed y u z v → Passed x w z v
passed_then {w = w} {u = u} {v = v} a b =
    record {
      calmly = calm_then a.calmly b.calmly;
      rests = rests_then w u v a.rests b.rests;
      own = b.own ∙ a.own;
      clean = λ c. let e = b.calmly.busy c in let p = a.clean (omega (arith, e)) in let q = b.clean c in omega (arith, p, q);
      todo = λ c. let e = b.calmly.busy c in let p = a.todo (omega (arith, e)) in let q = b.todo c in omega (arith, p, q);
    }

-- A LOOK: the flag of the page at the cursor is cleared
put_below : (f : ℕ → Bool) (p q : ℕ) → q < p → put p false f q ≡ f q
put_below f p q h = rw (ne_eqb q p (λ e. omega arith))

clean_look : (w v : World) (p : ℕ) → ((h : ℕ → Bool → Bool) → Rises h → (n : ℕ) → count (λ q. h q ((me v).touched q)) n + w.busy ≤ count (λ q. h q (put p false (me w).touched q)) n + v.busy) → count (me v).touched (p + 1) + w.busy ≤ count (me w).touched p + v.busy
clean_look w v p s =
    let a = s (λ q x. x) (λ q e. refl) (p + 1) in
    let b = count_more (put p false (me w).touched) p in
    let c = count_same (me w).touched (put p false (me w).touched) p (put_below (me w).touched p) in
    let d : bit (put p false (me w).touched p) ≡ 0 = rw (eq-eqb p p refl) in
    omega (arith, a, b, c, d)

leb_next : (p q : ℕ) → (q ≡ p → ⊥) → leb (p + 1) q ≡ leb p q
leb_next p q n = elim (cases_lt q p) [ inl l ↦ rw (lt-leb p q l, lt-leb (p + 1) q (omega arith)) | inr l ↦ rw (le-leb p q l, le-leb (p + 1) q (next_le p q l n)) ]
  where
    next_le : (p q : ℕ) → p ≤ q → (q ≡ p → ⊥) → p + 1 ≤ q
    next_le p q l n = omega arith

todo_look : (w v : World) (U V : ℕ → Bool) (p pages : ℕ) → p < pages → ((q : ℕ) → (q ≡ p → ⊥) → V q ≡ U q) → ((h : ℕ → Bool → Bool) → Rises h → (n : ℕ) → count (λ q. h q ((me v).touched q)) n + w.busy ≤ count (λ q. h q (put p false (me w).touched q)) n + v.busy) →
    count_from (λ q. (me v).touched q || V q) (p + 1) pages + bit ((me w).touched p || U p) + w.busy ≤ count_from (λ q. (me w).touched q || U q) p pages + v.busy
unfolding count_from
todo_look w v U V p pages l same s =
    let a = s (λ q x. leb (p + 1) q && (x || V q)) (rises_due (p + 1) V) pages in
    let c = count_cleared (λ q. leb p q && ((me w).touched q || U q)) (λ q. leb (p + 1) q && (put p false (me w).touched q || V q)) p pages l (λ q n. rw (leb_next p q n, ne_eqb q p n, same q n)) (rw (lt-leb (p + 1) p (omega arith))) in
    let d : bit (leb p p && ((me w).touched p || U p)) ≡ bit ((me w).touched p || U p) = rw (le-leb p p (omega arith)) in
    omega (arith, a, c, d)

least : (a b : ℕ) → min a b ≤ a
least a b = omega arith

-- what a look makes of the counts: `u` is the world when the flag was asked for, v when the page was sent, if it was
pub passed_look : {x y : Transfer} {w u v : World} → x.cursor < w.pages → u.pages ≡ w.pages → v.pages ≡ u.pages → Does w (untouched x.cursor w) true u → Calmly w u → Rests w u → row_here u ≡ row_here w → Calmly u v → Rests u v → row_here v ≡ row_here u → Looked ((me w).touched x.cursor) x y → Passed x w y v
unfolding todo
passed_look {x = x} {y = y} {w = w} {u = u} {v = v} l p1 p2 d k1 r1 o1 k2 r2 o2 s =
    let all : v.busy ≤ 16 → (h : ℕ → Bool → Bool) → Rises h → (n : ℕ) → count (λ q. h q ((me v).touched q)) n + w.busy ≤ count (λ q. h q (put x.cursor false (me w).touched q)) n + v.busy = λ b h m n.
    let e = k2.busy b in
    let i = swept x.cursor d (omega (arith, e)) h m n in
    let j = k2.tally b u.turn h m n in
    let t : count (λ q. h q ((me v).touched q)) n ≡ count (λ q. h q ((v.host u.turn).touched q)) n = ap (λ (i : ℕ). count (λ q. h q ((v.host i).touched q)) n) k2.turn in
    omega (arith, i, j, t) in
    record {
      calmly = calm_then k1 k2;
      rests = rests_then w u v r1 r2;
      own = o2 ∙ o1;
      clean = λ b. subst (λ (c : ℕ). count (me v).touched c + w.busy ≤ count (me w).touched x.cursor + v.busy) (sym s.cursor) (clean_look w v x.cursor (all b));
      todo = λ b.
          let a = todo_look w v (member x.unsent) (member y.unsent) x.cursor w.pages l (λ q n. s.unsent q ∙ rw (ne_eqb q x.cursor n)) (all b) in
          let e : count_from (λ q. (me v).touched q || member y.unsent q) y.cursor v.pages ≡ count_from (λ q. (me v).touched q || member y.unsent q) (x.cursor + 1) w.pages = rw (s.cursor, p2, p1) in
          let c = count_sent (due ((me w).touched x.cursor) x) x.sent y.sent s.sent in
          omega (arith, a, e, c);
    }
  where
    count_sent : (b : Bool) (s t : ℕ) → t ≡ cond b (min (s + 1) 4294967295) s → t ≤ s + bit b
    count_sent true s t e = omega (arith, e, least (s + 1) 4294967295)
    count_sent false s t e = omega (arith, e)

-- WHAT WAITS FOR THE OTHER
heads_more : (t s : ℕ) (ps : List ℕ) (p : ℕ) → page_heads t s (ps ++ (p ∷ [])) ≡ page_heads t s ps ++ (head Page t (s + length ps) p ∷ [])
unfolding page_heads
heads_more t s [] p = let e : s ≡ s + 0 = omega arith in ap (λ (k : ℕ). head Page t k p ∷ []) e
heads_more t s (x ∷ ps) p =
    let e : s + 1 + length ps ≡ s + length (x ∷ ps) = omega arith in
    ap (λ (r : List (List ℕ)). head Page t s x ∷ r) (heads_more t (s + 1) ps p ∙ ap (λ (k : ℕ). page_heads t (s + 1) ps ++ (head Page t k p ∷ [])) e)

pub length_page_heads : (t s : ℕ) (ps : List ℕ) → length (page_heads t s ps) ≡ length ps
unfolding page_heads
length_page_heads t s [] = refl
length_page_heads t s (x ∷ ps) = omega (arith, length_page_heads t (s + 1) ps)

-- a letter goes to the end of what waits, for which there is room
asked_added : {w v : World} (h : List ℕ) (a b : List (List ℕ)) → b ≡ a ++ (h ∷ []) → length a < 64 → Added h w v → (w.rough ≡ false → heads (row_there w) ≡ a) → v.rough ≡ false → heads (row_there v) ≡ b
asked_added {w = w} h a b e l d f q =
    let i = f (d.calmly.rough q) in
    let k : length (row_there w) ≡ length a = sym (length_heads (row_there w)) ∙ ap length i in
    d.far q (omega (arith, k, l)) ∙ ap (λ (r : List (List ℕ)). r ++ (h ∷ [])) i ∙ sym e

pub asked_still : (w v : World) (x : Transfer) → Calmly w v → row_there v ≡ row_there w → Asked x w → Asked x v
asked_still w v x k f d q = ap heads f ∙ d (k.rough q)

-- a page more, that goes into the window
pub asked_sent : (x y : Transfer) (w u v : World) (p : ℕ) → length x.window.pages < 62 → y.attempt ≡ x.attempt → y.window ≡ pushed p x.window → Calmly w u → row_there u ≡ row_there w → Added (head Page x.attempt (x.window.base + length x.window.pages) p) u v → Asked x w → Asked y v
asked_sent x y w u v p l e f k r d a q =
    let i = length_page_heads x.attempt x.window.base x.window.pages in
    asked_added {w = u} {v = v} (head Page x.attempt (x.window.base + length x.window.pages) p) (asked_of x.attempt x.window) (asked_of y.attempt y.window)
    (ap (λ t. asked_of t y.window) e ∙ ap (asked_of x.attempt) f ∙ ap (λ (r : List (List ℕ)). head Probe x.attempt 0 0 ∷ r) (heads_more x.attempt x.window.base x.window.pages p))
    (omega (arith, i)) d (asked_still w u x k r a) q

-- a page of the window once more
pub asked_next : (x : Transfer) (i : ℕ) {w v : World} → length x.window.pages ≤ 62 → i < length x.window.pages → Added (head Page x.attempt (x.window.base + i) (slot x.window i)) w v → AskedTo i x w → AskedTo (i + 1) x v
asked_next x i {w = w} {v = v} m l d a q =
    let t : length (take i x.window.pages) ≡ i = taken_length i x.window.pages (omega arith) in
    let j = length_page_heads x.attempt x.window.base (take i x.window.pages) in
    asked_added {w = w} {v = v} (head Page x.attempt (x.window.base + i) (slot x.window i)) (asked_up_to i x.attempt x.window) (asked_up_to (i + 1) x.attempt x.window)
    (ap (λ (r : List (List ℕ)). head Probe x.attempt 0 0 ∷ r) (ap (page_heads x.attempt x.window.base) (take_more x.window.pages i 0 (omega arith)) ∙ heads_more x.attempt x.window.base (take i x.window.pages) (slot x.window i) ∙ ap (λ (j : ℕ). page_heads x.attempt x.window.base (take i x.window.pages) ++ (head Page x.attempt (x.window.base + j) (slot x.window i) ∷ [])) t))
    (omega (arith, t, j)) d a q
  where
    taken_length : (i : ℕ) (xs : List ℕ) → i ≤ length xs → length (take i xs) ≡ i
    taken_length i xs l = length-take-le i xs l

-- all of it was sent once more
pub asked_all : (x : Transfer) (i : ℕ) (w : World) → i ≡ length x.window.pages → AskedTo i x w → Asked x w
asked_all x i w e a q = a q ∙ ap (λ (ps : List ℕ). head Probe x.attempt 0 0 ∷ page_heads x.attempt x.window.base ps) (take_all i x.window.pages (omega arith))

-- a probe, into an empty row
pub asked_first : (x : Transfer) {w v : World} → Added (head Probe x.attempt 0 0) w v → row_there w ≡ [] → AskedTo 0 x v
unfolding heads page_heads
asked_first x d e q = d.far q (omega (arith, ap length e)) ∙ ap (λ (r : List (List ℕ)). heads r ++ (head Probe x.attempt 0 0 ∷ [])) e

pub asked_none : (x : Transfer) (w : World) → length x.window.pages ≡ 0 → AskedTo 0 x w → Asked x w
asked_none x w e a q = a q ∙ ap (λ (ps : List ℕ). head Probe x.attempt 0 0 ∷ page_heads x.attempt x.window.base ps) (sym (nil_from_length x.window.pages e))

-- A TURN OF WHO MOVES THE GUEST: a probe, and then the window again or a part of the pass
pub went_on : {x y : Transfer} {w u v : World} → Added (head Probe x.attempt 0 0) w u → u.pages ≡ w.pages → Passed x u y v → (AskedTo 0 x u → Asked y v) → Went x w y v × Rests w v
went_on {x = x} {y = y} {w = w} {u = u} {v = v} a p s f =
    let k = passed_then (passed_same x a.calmly a.rests p a.own) s in
    (record { calmly = k.calmly; own = k.own; clean = k.clean; todo = k.todo; asked = λ e. f (asked_first x a e) }, k.rests)

-- after something that left the line alone
pub went_after : {x y : Transfer} {w u v : World} → Calmly w u → u.pages ≡ w.pages → row_here u ≡ row_here w → row_there u ≡ row_there w → Went x u y v → Went x w y v
went_after {x = x} {y = y} {w = w} {u = u} {v = v} k p o r s =
    record {
      calmly = calm_then k s.calmly;
      own = s.own ∙ o;
      clean = λ b. let e = s.calmly.busy b in let i = tally_clean k (omega (arith, e)) x.cursor in let j = s.clean b in omega (arith, i, j);
      todo = λ b. let e = s.calmly.busy b in let i = tally_todo x k p (omega (arith, e)) in let j = s.todo b in omega (arith, i, j);
      asked = λ e. s.asked (r ∙ e);
    }
