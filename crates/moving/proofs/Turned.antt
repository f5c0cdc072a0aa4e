-- How a turn begins and ends.
-- Assumes nothing.
use Rattle.std.proofs.Common.{◌≡◌, ℕ, ◌-◌, ◌%◌, ◌<◌, ◌≤◌, Bool, true, false, cond, ◌&&◌, eqb, ltb, leb, List, [], Some, None, Option, sym, refl, ap, ◌∙◌, subst, arith, eqb-true, eq-eqb, ne_eqb, lt-ltb, le-ltb, ◌⊎◌, inl, inr}
use Rattle.moving.proofs.Calms.{goes_turn}
use Rattle.std.proofs.lemmas.Option.{same_Some}
use borrow.Author.Tests.{eqb-false}
use mathlib.Core.Path.{subst⁻¹}
use Rattle.std.proofs.lemmas.Bool.{leb-true, leb-false}
use Rattle.letter.specs.declared.Kind.TheVariants.{Ack, Refuse, Taken}
use Rattle.letter.specs.Words.{spelt}
use Rattle.moving.specs.declared.Node.{Node}
use Rattle.moving.specs.declared.turning.Answer.{Answer}
use Rattle.moving.specs.declared.state.Receiving.{Receiving as Reception}
use Rattle.moving.specs.declared.state.State.{State}
use Rattle.moving.specs.declared.state.State.TheVariants.{Away, Receiving, Running, Copying, Paused, Committed}
use Rattle.moving.specs.Hosts.{World, Goes, rest, writes, Does, stands, put, me, wrote}
use Rattle.moving.specs.Model as model
use Rattle.moving.specs.Model.{woken, bare, Tidy, Rested, AskedWell, Windowed, on_state, silent, answer_in, took_or_not, moving, Enough}
use Rattle.moving.specs.Invariant.{Whole, Both, View, Legit, NotReceiving, flip}
use Rattle.moving.proofs.Moves.{clash, receiving_same, none_some}
use Rattle.moving.proofs.Letters.{wakes, woke, woke_committed, ack_legit, refuse_legit, taken_legit}
use Rattle.moving.proofs.Steps.{seen}
use Rattle.moving.proofs.Heard.{alone}

-- enough asks are left for what a node does by itself: all that a full window needs, or none is on its way
pub enough_for : (s : State) (most : ℕ) → Windowed s → (127 ≤ most) ⊎ ((moving s ≡ None) × (3 ≤ most)) → Enough most s
enough_for Away most w e = tt
enough_for (Receiving x) most w e = tt
enough_for (Running x) most w (inl e) = omega arith
enough_for (Running x) most w (inr e) = e.1
enough_for (Copying x) most w (inl e) = let r = w.room in omega arith
enough_for (Copying x) most w (inr e) = none_some (sym e.0)
enough_for (Paused x) most w (inl e) = let r = w.0.room in omega arith
enough_for (Paused x) most w (inr e) = none_some (sym e.0)
enough_for (Committed x) most w (inl e) = omega arith
enough_for (Committed x) most w (inr e) = let q = e.1 in omega arith

-- CELLS stay while the guest writes
put_cell : (k : ℕ) (h : Rattle.moving.specs.Hosts.Host) (f : ℕ → Rattle.moving.specs.Hosts.Host) (i c : ℕ) → h.cell c ≡ (f k).cell c → (put k h f i).cell c ≡ (f i).cell c
put_cell k h f i c e = go (eqb i k) refl
  where
    go : (b : Bool) → eqb i k ≡ b → (cond b h (f i)).cell c ≡ (f i).cell c
    go true q = e ∙ ap (λ j. (f j).cell c) (sym (eqb-true i k q))
    go false q = refl

goes_cell : {w v : World} → Goes w v → (i c : ℕ) → (v.host i).cell c ≡ (w.host i).cell c
goes_cell (rest w) i c = refl
goes_cell (writes {w} p ws t l e g) i c = goes_cell g i c ∙ put_cell w.last _ w.host i c refl

pub step_cell : {w v : World} → Does w w true v → (c : ℕ) → (me v).cell c ≡ (me w).cell c
step_cell {w = w} (stands v e g) c = goes_cell g v.turn c ∙ ap (λ i. (w.host i).cell c) (goes_turn g)

-- WAKING
pub wake_whole : {i m : ℕ} {x : List (List ℕ)} {n o : Node} {w : World} (a b c : ℕ) → a ≡ (me w).cell 0 → b ≡ (me w).cell 1 → c ≡ (me w).cell 2 → Whole i m x n o w → Whole i m x (wakes a b c n.state n) o w
wake_whole a b c p q r h = alone h (woke a b c p q r h.both)

pub wake_committed_whole : {i m : ℕ} {x : List (List ℕ)} {n o : Node} {w : World} (a b c : ℕ) → n.state ≡ Away → a ≡ (me w).cell 0 → b ≡ (me w).cell 1 → c ≡ (me w).cell 2 → c ≡ b → 0 < b → Whole i m x n o w →
    Whole i m x (wakes a b c (Committed (record { attempt = b; mine = false; turns = 0 })) n) o w
wake_committed_whole {n = n} a b c e p q r s lt h =
    alone h (woke_committed {n = wakes a b c n.state n} (record { attempt = b; mine = false; turns = 0 }) e refl refl q (sym r ∙ s ∙ q) lt (woke a b c p q r h.both))

-- REPLYING
pub hush : {m : ℕ} {x y : List (List ℕ)} {n o : Node} {u : View} → Both m x y n o u → Both m x y (silent n) o u
hush h =
    record { ours = record { me = h.ours.me; fit = h.ours.fit; guest = h.ours.guest; cells = h.ours.cells; order = h.ours.order; commits = h.ours.commits; copy = h.ours.copy; letters = h.ours.letters }; yours = record { me = h.yours.me; fit = h.yours.fit; guest = h.yours.guest; cells = h.yours.cells; order = h.yours.order; commits = h.yours.commits; copy = h.yours.copy; letters = h.yours.letters } }

pub hush_whole : {i m : ℕ} {x : List (List ℕ)} {n o : Node} {w : World} → Whole i m x n o w → Whole i m x (silent n) o w
hush_whole h = alone h (hush h.both)

abbrev pub asking : Option ℕ → Node → Node
asking a n = record { me = n.me; awake = n.awake; took = n.took; top = n.top; committed = n.committed; asked = a; state = n.state }

pub hushed_whole : {i m : ℕ} {x : List (List ℕ)} {n o : Node} {w : World} (a : Option ℕ) → a ≡ None → Whole i m x n o w → Whole i m x (asking a n) o w
hushed_whole {i = i} {m = m} {x = x} {n = n} {o = o} {w = w} a e h = subst⁻¹ (λ a. Whole i m x (asking a n) o w) e (hush_whole h)

abbrev by_took : Bool → Answer
by_took q = cond q (record { kind = Taken; place = 0 }) (record { kind = Refuse; place = 0 })

-- what is answered may be said
pub answer_legit : {i m : ℕ} {n o : Node} {w : World} (t : ℕ) (a : Answer) → n.awake ≡ true → t % 2 ≡ 1 - n.me → t ≤ n.top → answer_in n.state t n.took ≡ Some a → Whole i m [] n o w → Legit m (spelt (bare a.kind t a.place)) o n (flip (seen w))
answer_legit {m = m} {n = n} {o = o} {w = w} t a aw own le e h = go n.state refl e
  where
    copies : (n.took ≡ (me w).cell 0) × (n.top ≡ (me w).cell 1) × (n.committed ≡ (me w).cell 2)
    copies = h.both.ours.cells.copies aw

    mine : t % 2 ≡ (seen w).you
    mine = let s = h.both.ours.fit.sides in let k = h.both.ours.me in omega arith

    low : t ≤ (me w).cell 1
    low = let k = copies.1 in omega arith

    or_not : (b : Answer) → NotReceiving t n → took_or_not t n.took ≡ b → Legit m (spelt (bare b.kind t b.place)) o n (flip (seen w))
    or_not b nr f = subst (λ c. Legit m (spelt (bare c.kind t c.place)) o n (flip (seen w))) f (by (leb t n.took) refl)
      where
        by : (q : Bool) → leb t n.took ≡ q → Legit m (spelt (bare (by_took q).kind t (by_took q).place)) o n (flip (seen w))
        by true q = let k = leb-true t n.took q in let c = copies.0 in taken_legit (spelt (bare Taken t 0)) refl mine (omega arith) h.both
        by false q = let k = leb-false t n.took q in let c = copies.0 in refuse_legit (spelt (bare Refuse t 0)) refl mine low nr (omega arith) h.both

    go : (s : State) → n.state ≡ s → answer_in s t n.took ≡ Some a → Legit m (spelt (bare a.kind t a.place)) o n (flip (seen w))
    go Away f k = or_not a (λ r q. clash (sym f ∙ q) tt) (same_Some _ _ k)
    go (Running x) f k = or_not a (λ r q. clash (sym f ∙ q) tt) (same_Some _ _ k)
    go (Copying x) f k = none_some k
    go (Paused x) f k = none_some k
    go (Committed x) f k = none_some k
    go (Receiving x) f k = by (eqb x.attempt t) refl (same_Some _ _ k)
      where
        by : (q : Bool) → eqb x.attempt t ≡ q → cond q (record { kind = Ack; place = x.next }) (took_or_not t n.took) ≡ a → Legit m (spelt (bare a.kind t a.place)) o n (flip (seen w))
        by true q z = subst (λ c. Legit m (spelt (bare c.kind t c.place)) o n (flip (seen w))) z (ack_legit (spelt (bare Ack t x.next)) x f refl (sym (eqb-true x.attempt t q)) refl h.both)
        by false q z = or_not a (λ r y p. eqb-false x.attempt t q (ap (λ (c : Reception). c.attempt) (receiving_same (sym f ∙ y)) ∙ p)) z

-- Its highest attempt is its own and committed, or one of the three tests fails.
pub own_commit : {a b m : ℕ} → a ≡ b → 0 < b → b % 2 ≡ m → ((eqb a b && ltb 0 b) && eqb (b % 2) m) ≡ true
own_commit {a = a} {b = b} {m = m} e l f = rw (eq-eqb a b e, lt-ltb 0 b l, eq-eqb (b % 2) m f)

pub not_alike : {a b : ℕ} (k l : Bool) → (a ≡ b → ⊥) → ((eqb a b && k) && l) ≡ false
not_alike {a = a} {b = b} k l f = rw (ne_eqb a b f)

pub not_some : {b : ℕ} (k l : Bool) → b ≤ 0 → ((k && ltb 0 b) && l) ≡ false
not_some {b = b} true l f = rw (le-ltb 0 b f)
not_some false l f = refl

pub not_own : {a b : ℕ} (k : Bool) → (a ≡ b → ⊥) → (k && eqb a b) ≡ false
not_own {a = a} {b = b} true f = ne_eqb a b f
not_own false f = refl

-- what a node remembers that has read its cells
pub woken_is : (n : Node) {a b c x y z : ℕ} → n.awake ≡ false → a ≡ x → b ≡ y → c ≡ z → (s : State) → s ≡ cond ((eqb c b && ltb 0 b) && eqb (b % 2) n.me) (Committed (record { attempt = b; mine = false; turns = 0 })) n.state →
    ◌≡◌ {A = Node} (record { me = n.me; awake = true; took = a; top = b; committed = c; asked = n.asked; state = s }) (woken x y z n)
woken_is n {a = a} {b = b} {c = c} {x = x} {y = y} {z = z} e p q r s k =
    ap (λ u. record { me = n.me; awake = true; took = a; top = b; committed = c; asked = n.asked; state = u }) k
    ∙ ap (λ v. model.woke v b c n) p ∙ ap (λ v. model.woke x v c n) q ∙ ap (λ v. model.woke x y v n) r
    ∙ ap (λ v. cond v n (model.woke x y z n)) (sym e)
