-- What the parts of a transfer do, for every node that has it.
-- Assumes nothing.
use Rattle.std.proofs.Common.{◌≡◌, ℕ, ◌+◌, ◌-◌, ◌<◌, ◌≤◌, Bool, true, false, not, ◌&&◌, ◌||◌, eqb, List, Option, [], ◌∷◌, is_ok, is_err, Some, Ok, Err, Result, sym, refl, ap, ◌∙◌, subst, subst₂, inl, inr, arith, eq-eqb, ne_eqb, length}
use Rattle.std.proofs.lemmas.Option.{same_Some}
use Rattle.std.proofs.lemmas.List.{length_push, get_or_push, get_or_append_left}
use borrow.Author.Tests.{both_ways}
use Rattle.std.proofs.lemmas.Bool.{cases_lt, cases_eq}
use Rattle.letter.specs.declared.Kind.TheVariants.{Probe, Page}
use Rattle.letter.specs.Words.{spelt}
use Rattle.pageset.specs.declared.PageSet.{PageSet}
use Rattle.pageset.specs.Member.{member}
use Rattle.window.specs.Pages.{Flying, pushed}
use Rattle.window.specs.Pages as pages
use Rattle.moving.specs.declared.Down.{Down}
use Rattle.moving.specs.declared.Node.{Node}
use Rattle.moving.specs.declared.state.Transfer.{Transfer}
use Rattle.moving.specs.declared.state.State.{State}
use Rattle.moving.specs.declared.state.State.TheVariants.{Away, Receiving, Running, Copying, Paused, Committed}
use Rattle.moving.specs.Hosts.{World, Does, Posts, untouched, me}
use Rattle.moving.specs.Model.{moving, carries, carrying, on_state, recount, bare}
use Rattle.moving.specs.Invariant.{slot, end, unsent, Whole, Carried, Pushed}
use Rattle.moving.specs.Scan.{Below, grows}
use Rattle.moving.proofs.Moves.{none_some}
use Rattle.moving.proofs.Letters.{page_legit, probe_legit}
use Rattle.moving.proofs.Scans.{clear, skip_paused}
use Rattle.moving.proofs.Steps.{more_whole, step_page, own_whole, push_copying_whole, push_paused_whole, skip_copying_whole}
use Rattle.moving.proofs.Ways.{SoFar, begin, fine, then_ok, posts_ends, posted}

-- STATES WITH A TRANSFER
pub carries_self : (s : State) (c : Transfer) → moving s ≡ Some c → carries c s ≡ s
carries_self Away c e = none_some e
carries_self (Receiving r) c e = none_some e
carries_self (Running r) c e = none_some e
carries_self (Copying d) c e = ap Copying (sym (same_Some _ _ e))
carries_self (Paused x) c e = ap (λ d. Paused (record { transfer = d; right = x.right; turns = x.turns })) (sym (same_Some _ _ e))
carries_self (Committed x) c e = none_some e

pub carries_has : (s : State) (c d : Transfer) → moving s ≡ Some c → moving (carries d s) ≡ Some d
carries_has Away c d e = none_some e
carries_has (Receiving r) c d e = none_some e
carries_has (Running r) c d e = none_some e
carries_has (Copying b) c d e = refl
carries_has (Paused x) c d e = refl
carries_has (Committed x) c d e = none_some e

pub carries_twice : (s : State) (c d : Transfer) → carries d (carries c s) ≡ carries d s
carries_twice Away c d = refl
carries_twice (Receiving r) c d = refl
carries_twice (Running r) c d = refl
carries_twice (Copying b) c d = refl
carries_twice (Paused x) c d = refl
carries_twice (Committed x) c d = refl

pub carry_self : (n : Node) (c : Transfer) → moving n.state ≡ Some c → carrying c n ≡ n
carry_self n c e = ap (λ s. on_state s n) (carries_self n.state c e)

pub carry_twice : (n : Node) (c d : Transfer) → carrying d (carrying c n) ≡ carrying d n
carry_twice n c d = ap (λ s. on_state s n) (carries_twice n.state c d)

-- A PAGE IS SENT
pub sends_page : {A : Type 0} {w v t : World} (c : Transfer) (place page : ℕ) (ws : List ℕ) (r : Result A Down) → c.window.base ≤ place → place < end c → page ≡ slot c (place - c.window.base) → w.fell ≡ false → Does w w true v → ws ≡ (me w).page page →
    Posts v (spelt (record { kind = Page; attempt = c.attempt; place = place; page = page; words = ws })) (is_ok r) t → Carried 0 c w r c t
sends_page {w = w} {v = v} c place page ws r low high e up d p s n has =
    posts_ends 0 (λ _. carrying c n) r (omega arith) (λ _ _. carry_self n c has) (then_ok 0 (begin [] n w up) d refl (fine (λ i z o h. h)))
    (λ i z o h. page_legit (spelt (record { kind = Page; attempt = c.attempt; place = place; page = page; words = ws })) c (place - c.window.base) has refl refl (omega arith) (omega arith) e (step_page d page ws p) h.both) s

-- the page at the cursor went into the window
pub pushed_by : (c d : Transfer) → Below c → d.attempt ≡ c.attempt → d.window ≡ pushed c.cursor c.window → ((q : ℕ) → member d.unsent q ≡ (not (eqb q c.cursor) && member c.unsent q)) → Pushed c d c.cursor
pushed_by c d below at win un =
    record {
      attempt = at;
      base = ap (λ (v : Flying). v.base) win;
      len = ap (λ (v : Flying). length v.pages) win ∙ length_push c.window.pages c.cursor;
      last = ap (λ (v : Flying). pages.slot v (length c.window.pages)) win ∙ get_or_push c.window.pages c.cursor 0 (length c.window.pages) refl;
      old = λ k lt. ap (λ (v : Flying). pages.slot v k) win ∙ get_or_append_left c.window.pages (c.cursor ∷ []) 0 k lt;
      sent = un c.cursor ∙ ap (λ b. not b && member c.unsent c.cursor) (eq-eqb c.cursor c.cursor refl);
      kept = λ q ne. un q ∙ ap (λ b. not b && member c.unsent q) (ne_eqb q c.cursor ne);
      free = λ k lt e. let b = below k lt in omega arith;
    }

pub push_carrying : {i m : ℕ} {x : List (List ℕ)} {n o : Node} {w : World} (c d : Transfer) → moving n.state ≡ Some c → Pushed c d c.cursor → d.cursor ≡ c.cursor + 1 → c.cursor < w.pages → Whole i m x n o w → Whole i (m + 1) x (carrying d n) o (untouched c.cursor w)
push_carrying {i = i} {m = m} {x = x} {n = n} {o = o} {w = w} c d has k cur lt h = go n.state refl has
  where
    go : (s : State) → n.state ≡ s → moving s ≡ Some c → Whole i (m + 1) x (on_state (carries d s) n) o (untouched c.cursor w)
    go Away e f = none_some f
    go (Receiving r) e f = none_some f
    go (Running r) e f = none_some f
    go (Copying b) e f =
        let q = (h.both.ours.copy.carries c has).most in
        push_copying_whole c d c.cursor (e ∙ ap Copying (same_Some _ _ f)) k lt (omega arith) (more_whole (omega arith) h)
    go (Paused z) e f =
        let q = (h.both.ours.copy.carries c has).most in
        let t : z.transfer ≡ c = same_Some _ _ f in
        subst (λ b. Whole i (m + 1) x (on_state (Paused (record { transfer = d; right = z.right; turns = z.turns })) n) o (untouched b.cursor w)) t
        (push_paused_whole z (record { transfer = d; right = z.right; turns = z.turns }) e (subst (λ b. Pushed b d b.cursor) (sym t) k) (cur ∙ ap (λ (b : Transfer). b.cursor + 1) (sym t)) (subst (λ b. b.cursor < w.pages) (sym t) lt) (subst (λ b. end b < m + 1) (sym t) (omega arith)) (more_whole (omega arith) h))
    go (Committed z) e f = none_some f

pub skip_carrying : {i m : ℕ} {x : List (List ℕ)} {n o : Node} {w : World} (c : Transfer) (s t : ℕ) (v : Option ℕ) → moving n.state ≡ Some c → (me w).touched c.cursor ≡ false → unsent c c.cursor ≡ false → Whole i m x n o w → Whole i m x (carrying (recount c (c.cursor + 1) s t v) n) o (untouched c.cursor w)
skip_carrying {i = i} {m = m} {x = x} {n = n} {o = o} {w = w} c s t v has f g h = go n.state refl has
  where
    go : (q : State) → n.state ≡ q → moving q ≡ Some c → Whole i m x (on_state (carries (recount c (c.cursor + 1) s t v) q) n) o (untouched c.cursor w)
    go Away e k = none_some k
    go (Receiving r) e k = none_some k
    go (Running r) e k = none_some k
    go (Copying b) e k = skip_copying_whole c c.cursor (c.cursor + 1) s t v (e ∙ ap Copying (same_Some _ _ k)) f h
    go (Paused z) e k =
        let q : z.transfer ≡ c = same_Some _ _ k in
        subst (λ b. Whole i m x (on_state (Paused (record { transfer = recount b (b.cursor + 1) s t v; right = z.right; turns = z.turns })) n) o (untouched b.cursor w)) q
        (own_whole (clear z.transfer.cursor (me w)) h (skip_paused z s t v z.turns e (subst (λ b. (me w).touched b.cursor ≡ false) (sym q) f) (subst (λ b. unsent b b.cursor ≡ false) (sym q) g) h.both))
    go (Committed z) e k = none_some k

-- the pages in the window are below the new cursor too
pub pushed_below : (c d : Transfer) → Below c → Pushed c d c.cursor → d.cursor ≡ c.cursor + 1 → Below d
pushed_below c d below p cur k lt =
    let l = p.len in
    elim (cases_lt k (length c.window.pages)) [
      | inl b ↦ let z = below k b in let y = p.old k b in omega arith
      | inr b ↦ let q : k ≡ length c.window.pages = omega arith in let y : slot d k ≡ c.cursor = ap (slot d) q ∙ p.last in omega arith
    ]

-- a page that isn't in the set can be taken out of it
pub skip_unsent : (s : PageSet) (p : ℕ) → member s p ≡ false → (q : ℕ) → member s q ≡ (not (eqb q p) && member s q)
skip_unsent s p u q =
    elim (cases_eq q p) [
      | inl e ↦ ap (member s) e ∙ u ∙ ap (λ b. not b && member s q) (sym (eq-eqb q p e))
      | inr ne ↦ ap (λ b. not b && member s q) (sym (ne_eqb q p ne))
    ]

-- what is below a cursor is below the next
pub below_more : (c : Transfer) (s t : ℕ) (v : Option ℕ) → Below c → Below (recount c (c.cursor + 1) s t v)
below_more c s t v b k lt = let z = b k lt in omega arith

pub or_true : (a b : Bool) (x y : Bool) → a ≡ x → b ≡ y → (a || b) ≡ true → (x || y) ≡ true
or_true a b x y e f h = subst₂ (λ p q. (p || q) ≡ true) e f h

-- a fall lets numbers grow by one at most
pub grown : {c d : Transfer} {w v : World} (r : Result Bool Down) → is_err r ≡ true → Carried 1 c w r d v → Carried (grows r) c w r d v
grown (Ok x) e h = absurd (both_ways false refl e)
grown (Err x) e h = h

-- THE OTHER HOST IS TOLD OF THE ATTEMPT
pub probes : {w v : World} (c : Transfer) (n : Node) → moving n.state ≡ Some c → w.fell ≡ false → Posts w (spelt (bare Probe c.attempt 0)) true v → SoFar [] n w (0 + 0) [] n v
probes {w = w} c n has up p = posted (begin [] n w up) (λ i z o h. probe_legit (spelt (bare Probe c.attempt 0)) c has refl refl h.both) p

pub probes_err : {A : Type 0} {w v : World} (c d : Transfer) (r : Result A Down) → is_err r ≡ true → w.fell ≡ false → Posts w (spelt (bare Probe c.attempt 0)) false v → Carried 62 c w r d v
probes_err c d (Ok x) e up p n has = absurd (both_ways false refl e)
probes_err {w = w} c d (Err x) e up p n has = posts_ends 62 (λ _. carrying d n) (Err x) (omega arith) (λ _ q. err_ok q) (begin [] n w up) (λ i z o h. probe_legit (spelt (bare Probe c.attempt 0)) c has refl refl h.both) p
  where
    err_ok : {B A E : Type 0} {a : A} {b : E} → ◌≡◌ {A = Result A E} (Err b) (Ok a) → B
    err_ok q = let z : ◌≡◌ {A = ℕ} 0 1 = cc in absurd (omega arith)
