-- What a letter makes of a node: all stays whole, and what holds of the node alone.
-- Assumes nothing.
use Rattle.std.proofs.Common.{◌≡◌, ℕ, ◌+◌, ◌-◌, ◌%◌, ◌<◌, ◌≤◌, Bool, true, false, cond, ◌&&◌, eqb, ltb, leb, List, [], ◌∷◌, ◌++◌, length, Some, Ok, sym, refl, ap, ◌∙◌, subst, subst₂, inl, inr, arith, ltb-true, eqb-true, leb-true, Result, Err, is_ok, is_err}
use Rattle.std.proofs.lemmas.Option.{same_Some}
use Rattle.std.proofs.lemmas.List.{length-drop, get_or-drop}
use mathlib.Core.Path.{subst⁻¹}
use mathlib.Core.List.Memᴰ
use Rattle.std.proofs.lemmas.Bool.{and_parts}
use Rattle.letter.specs.declared.Kind.TheVariants.{Probe, Page, Commit, Ack, Refuse, Taken}
use Rattle.letter.specs.declared.Letter.{Letter}
use Rattle.letter.specs.Words.{number, spelt, letter_of}
use Rattle.letter.proofs.Spell.{written_read}
use Rattle.window.specs.Pages.{dropped}
use Rattle.moving.specs.declared.Down.{Down}
use Rattle.moving.specs.declared.Node.{Node}
use Rattle.moving.specs.declared.state.Transfer.{Transfer}
use Rattle.moving.specs.declared.state.Receiving.{Receiving as Reception}
use Rattle.moving.specs.declared.state.Paused.{Paused as Pause}
use Rattle.moving.specs.declared.state.Committed.{Committed as Commitment}
use Rattle.moving.specs.declared.state.State.{State}
use Rattle.moving.specs.declared.state.State.TheVariants.{Away, Receiving, Running, Copying, Paused, Committed}
use Rattle.moving.specs.Hosts.{World, kept, put_page, resumed, MayResume, Gets}
use Rattle.moving.specs.Used.{Used}
use Rattle.moving.specs.Acted.{Heard, OneHeard, OneHeard.nothing, OneHeard.letter, Hears.more}
use Rattle.moving.specs.Model.{on_state, on_top, runs_again, asked_for, begins, is_next, received, receives, taken, refused_in, acked_in, gone_in, heeded, Windowed, AskedWell, Tidy}
use Rattle.moving.specs.Invariant.{View, Acked, slot, Legit, Side, Both, Whole}
use Rattle.moving.proofs.Moves.{no, may_go, refused_paused, refused_copying}
use Rattle.moving.proofs.Scans.{ack_copying, ack_paused}
use Rattle.moving.proofs.Letters.{let_go}
use Rattle.moving.proofs.Steps.{went_whole, may_resume, seen, begin_whole, put_whole, take_whole, refused_whole}
use Rattle.moving.proofs.Ways.{SoFar, begin, got, gotten}

-- what is known of the letter in hand
pub legit : {i m : ℕ} {n o : Node} {w : World} (l : Letter) → Whole i m (spelt l ∷ []) n o w → Legit m (spelt l) n o (seen w)
legit l h = h.both.ours.letters (spelt l) (inl (Memᴰ.head refl))

-- a change that leaves the world
pub alone : {i m : ℕ} {x : List (List ℕ)} {n p o : Node} {w : World} → Whole i m x n o w → Both m x [] p o (seen w) → Whole i m x p o w
alone h b = record { turn = h.turn; small = h.small; last = h.last; both = b }

-- THE ATTEMPT THAT WAS ASKED FOR: the rest doesn't look at it
pub reask : {m : ℕ} {x y : List (List ℕ)} {n o : Node} {u : View} (t : ℕ) → Both m x y n o u → Both m x y (asked_for t n) o u
reask t h =
    record { ours = record { me = h.ours.me; fit = h.ours.fit; guest = h.ours.guest; cells = h.ours.cells; order = h.ours.order; commits = h.ours.commits; copy = h.ours.copy; letters = h.ours.letters }; yours = record { me = h.yours.me; fit = h.yours.fit; guest = h.yours.guest; cells = h.yours.cells; order = h.yours.order; commits = h.yours.commits; copy = h.yours.copy; letters = h.yours.letters } }

pub reask_whole : {i m : ℕ} {x : List (List ℕ)} {n o : Node} {w : World} (t : ℕ) → Whole i m x n o w → Whole i m x (asked_for t n) o w
reask_whole t h = alone h (reask t h.both)

pub asked_well : (n : Node) (t : ℕ) → t % 2 ≡ 1 - n.me → 1 ≤ t → t ≤ n.top → AskedWell (asked_for t n)
asked_well n t a b c s e = subst (λ s. (s % 2 ≡ 1 - n.me) × (1 ≤ s) × (s ≤ n.top)) (same_Some _ _ e) (a, b, c)

pub asked_tidy : (n : Node) (t : ℕ) → n.awake ≡ true → Windowed n.state → t % 2 ≡ 1 - n.me → 1 ≤ t → t ≤ n.top → Tidy (asked_for t n)
asked_tidy n t aw w a b c = record { awake = aw; windowed = w; asked = asked_well n t a b c }

-- the state changes, and it has no transfer
pub tidy_to : (n : Node) (s : State) → Windowed s → Tidy n → Tidy (on_state s n)
tidy_to n s w t = record { awake = t.awake; windowed = w; asked = t.asked }

-- what the test of a page's letter says
pub page_test : (x : Reception) (l : Letter) (q : ℕ) → ((eqb x.attempt l.attempt && eqb x.next l.place) && ltb l.page q) ≡ true → (x.attempt ≡ l.attempt) × (x.next ≡ l.place)
page_test x l q e =
    let a = (and_parts (eqb x.attempt l.attempt && eqb x.next l.place) (ltb l.page q) e).0 in
    let b = and_parts (eqb x.attempt l.attempt) (eqb x.next l.place) a in
    (eqb-true x.attempt l.attempt b.0, eqb-true x.next l.place b.1)

-- what runs again has no transfer
pub again_tidy : (n : Node) (t : ℕ) (b : Bool) (s : State) → Tidy (on_state s n) → Tidy (runs_again t b n)
again_tidy n t b s h = record { awake = h.awake; windowed = tt; asked = h.asked }

-- ASKS add up
pub used_more : {a : ℕ} {w v : World} {b : Bool} (c : ℕ) → Used a w b v → a ≤ c → Used c w b v
used_more c s p = record { left = omega arith; fell = s.fell; pages = s.pages; fall = s.fall; calm = s.calm; still = s.still }

pub used_err : {A : Type 0} {a b : ℕ} {w v x : World} (c : ℕ) (r : Result A Down) → is_err r ≡ true → Used a w true v → Used b v false x → a + b ≤ c → Used c w (is_ok r) x
used_err c (Ok y) e s t p = no e refl
used_err c (Err y) e s t p = record { left = omega arith; fell = t.fell; pages = t.pages ∙ s.pages; fall = t.fall; calm = t.calm ∙ s.calm; still = t.still ∙ s.still }

-- PROBE
-- a host that begins no attempt of the other has the guest
has_it : {m : ℕ} {x : List (List ℕ)} {n o : Node} {u : View} → Side m x n o u → begins n.state ≡ false → u.here ≡ true
has_it {n = n} {u = u} h = go n.state refl
  where
    go : (s : State) → n.state ≡ s → begins s ≡ false → u.here ≡ true
    go Away q f = no refl f
    go (Receiving r) q f = no refl f
    go (Running r) q f = (h.guest.running r q).here
    go (Copying c) q f = (h.guest.copying c q).here
    go (Paused z) q f = (h.guest.paused z q).here
    go (Committed z) q f = no refl f

-- the attempt is the other's
probe_own : {i m : ℕ} {n o : Node} {w : World} (l : Letter) → l.kind ≡ Probe → Whole i m (spelt l ∷ []) n o w → (l.attempt % 2 ≡ 1 - n.me) × (1 ≤ l.attempt)
probe_own l k h =
    let f = (legit l h).probe (ap number k) in
    (f.own ∙ ap (λ z. 1 - z) (sym h.both.ours.me), f.some)

-- what isn't begun is no news
probe_top : {i m : ℕ} {n o : Node} {w : World} (l : Letter) → l.kind ≡ Probe → n.awake ≡ true → Whole i m (spelt l ∷ []) n o w → (begins n.state ≡ true → l.attempt ≤ n.top) → l.attempt ≤ n.top
probe_top {n = n} {w = w} l k aw h e = go (begins n.state) refl
  where
    go : (b : Bool) → begins n.state ≡ b → l.attempt ≤ n.top
    go true q = e q
    go false q =
        let a = ((legit l h).probe (ap number k)).begun in
        let b = h.both.ours.order.later (has_it h.both.ours q) in
        let t = (h.both.ours.cells.copies aw).1 in
        omega arith

pub probe_none_tidy : {i m : ℕ} {n o : Node} {w : World} (l : Letter) → (begins n.state ≡ true → l.attempt ≤ n.top) → l.kind ≡ Probe → Whole i m (spelt l ∷ []) n o w → Tidy n → Tidy (asked_for l.attempt n)
probe_none_tidy {n = n} l e k h t = let w = probe_own l k h in asked_tidy n l.attempt t.awake t.windowed w.0 w.1 (probe_top l k t.awake h e)

-- whether it is awake or not
pub probe_asked : {i m : ℕ} {n o : Node} {w : World} (l : Letter) → l.kind ≡ Probe → Whole i m (spelt l ∷ []) n o w → AskedWell (asked_for l.attempt (on_top l.attempt (Receiving (record { attempt = l.attempt; next = 0 })) n))
probe_asked {n = n} l k h =
    let w = probe_own l k h in
    asked_well (on_top l.attempt (Receiving (record { attempt = l.attempt; next = 0 })) n) l.attempt w.0 w.1 (omega arith)

pub probe_tidy : {i m : ℕ} {n o : Node} {w : World} (l : Letter) → l.kind ≡ Probe → n.awake ≡ true → Whole i m (spelt l ∷ []) n o w → Tidy (asked_for l.attempt (on_top l.attempt (Receiving (record { attempt = l.attempt; next = 0 })) n))
probe_tidy l k aw h = record { awake = aw; windowed = tt; asked = probe_asked l k h }

pub probe_whole : {i m : ℕ} {n o : Node} {w : World} (l : Letter) → n.top < l.attempt → l.kind ≡ Probe → n.awake ≡ true → Whole i m (spelt l ∷ []) n o w → Whole i m (spelt l ∷ []) (asked_for l.attempt (on_top l.attempt (Receiving (record { attempt = l.attempt; next = 0 })) n)) o (kept 1 l.attempt w)
probe_whole {n = n} l g k aw h =
    let t = (h.both.ours.cells.copies aw).1 in
    begin_whole (spelt l) (inl (Memᴰ.head refl)) (ap number k) (omega arith) aw (reask_whole l.attempt h)

-- PAGE
pub page_whole : {i m : ℕ} {n o : Node} {w : World} (l : Letter) (r : Reception) → n.state ≡ Receiving r → r.attempt ≡ l.attempt → r.next ≡ l.place → l.kind ≡ Page → Whole i m (spelt l ∷ []) n o w → Whole i m (spelt l ∷ []) (on_state (Receiving (record { attempt = l.attempt; next = l.place + 1 })) n) o (put_page l.page l.words w)
page_whole {i = i} {m = m} {n = n} {o = o} {w = w} l r s a b k h =
    subst₂ (λ a b. Whole i m (spelt l ∷ []) (on_state (Receiving (record { attempt = a; next = b + 1 })) n) o (put_page l.page l.words w)) a b
    (put_whole (spelt l) r (inl (Memᴰ.head refl)) (ap number k) s (sym a) (sym b) h)

next_not : (pages : ℕ) (l : Letter) (s : State) → ((x : Reception) → s ≡ Receiving x → ⊥) → is_next pages l s ≡ false
next_not pages l Away f = refl
next_not pages l (Receiving r) f = absurd (f r refl)
next_not pages l (Running r) f = refl
next_not pages l (Copying c) f = refl
next_not pages l (Paused z) f = refl
next_not pages l (Committed z) f = refl

abbrev nexted : Letter → Node → Node
nexted l n = on_state (Receiving (record { attempt = l.attempt; next = l.place + 1 })) n

pub page_none_is : (n : Node) (pages : ℕ) (l : Letter) → ((x : Reception) → n.state ≡ Receiving x → ⊥) → n ≡ received pages l n
page_none_is n pages l f = ap (λ b. cond b (nexted l n) n) (sym (next_not pages l n.state f))

-- places have room
pub page_room : {i m : ℕ} {n o : Node} {w : World} (l : Letter) → l.kind ≡ Page → Whole i m (spelt l ∷ []) n o w → l.place < m
page_room l k h = (legit l h).place (ap number k)

-- COMMIT
pub commit_own : {i m : ℕ} {n o : Node} {w : World} (l : Letter) → l.kind ≡ Commit → n.awake ≡ true → Whole i m (spelt l ∷ []) n o w → (l.attempt % 2 ≡ 1 - n.me) × (1 ≤ l.attempt) × (l.attempt ≤ n.top)
commit_own l k aw h =
    let f = (legit l h).commit (ap number k) in
    let a = f.done in
    let b = h.both.yours.order.begun in
    let t = (h.both.ours.cells.copies aw).1 in
    (f.own ∙ ap (λ z. 1 - z) (sym h.both.ours.me), f.some, omega arith)

pub commit_none_tidy : {i m : ℕ} {n o : Node} {w : World} (l : Letter) → l.kind ≡ Commit → Whole i m (spelt l ∷ []) n o w → Tidy n → Tidy (asked_for l.attempt n)
commit_none_tidy {n = n} l k h t = let w = commit_own l k t.awake h in asked_tidy n l.attempt t.awake t.windowed w.0 w.1 w.2

pub commit_tidy : {i m : ℕ} {n o : Node} {w : World} (l : Letter) → l.kind ≡ Commit → n.awake ≡ true → Whole i m (spelt l ∷ []) n o w → Tidy (asked_for l.attempt (runs_again l.attempt false n))
commit_tidy {n = n} l k aw h = let w = commit_own l k aw h in asked_tidy (runs_again l.attempt false n) l.attempt aw tt w.0 w.1 w.2

pub commit_whole : {i m : ℕ} {n o : Node} {w : World} (l : Letter) (r : Reception) (t : ℕ) → t ≡ l.attempt → n.state ≡ Receiving r → r.attempt ≡ l.attempt → l.kind ≡ Commit → Whole i m (spelt l ∷ []) n o w → MayResume w × Whole i m (spelt l ∷ []) (asked_for l.attempt (runs_again l.attempt false n)) o (resumed t w)
commit_whole {i = i} {m = m} {n = n} {o = o} {w = w} l r t e s a k h =
    let z = take_whole (spelt l) r (inl (Memᴰ.head refl)) (ap number k) s (sym a) (reask_whole l.attempt h) in
    (z.0, subst₂ (λ a b. Whole i m (spelt l ∷ []) (asked_for l.attempt (runs_again a false n)) o (resumed b w)) a (a ∙ sym e) z.1)

receives_not : (t : ℕ) (s : State) → ((x : Reception) → s ≡ Receiving x → ⊥) → receives t s ≡ false
receives_not t Away f = refl
receives_not t (Receiving r) f = absurd (f r refl)
receives_not t (Running r) f = refl
receives_not t (Copying c) f = refl
receives_not t (Paused z) f = refl
receives_not t (Committed z) f = refl

pub commit_none_is : (n : Node) (t : ℕ) → ((x : Reception) → n.state ≡ Receiving x → ⊥) → asked_for t n ≡ taken t n
commit_none_is n t f = ap (λ b. asked_for t (cond b (runs_again t false n) n)) (sym (receives_not t n.state f))

-- REFUSE
pub refused_paused_whole : {i m : ℕ} {x : List (List ℕ)} {n o : Node} {w : World} (z : Pause) → n.state ≡ Paused z → n.awake ≡ true → Whole i m x n o w → MayResume w × Whole i m x (runs_again z.transfer.attempt true n) o (resumed z.transfer.attempt w)
refused_paused_whole {w = w} z e aw h = (may_resume w (may_go (seen w) (h.both.ours.guest.paused z e)), went_whole z.transfer.attempt h (refused_paused z e aw h.both))

-- in Committed
pub refuse_commit_whole : {i m : ℕ} {o : Node} {w : World} (n : Node) (l : Letter) (z : Commitment) (t : ℕ) → t ≡ l.attempt → z.attempt ≡ l.attempt → z.mine ≡ true → l.kind ≡ Refuse → n.awake ≡ true → Whole i m (spelt l ∷ []) (on_state (Committed z) n) o w → MayResume w × Whole i m (spelt l ∷ []) (runs_again l.attempt true n) o (resumed t w)
refuse_commit_whole {i = i} {m = m} {o = o} {w = w} n l z t e a mi k aw h =
    let q = refused_whole (spelt l) z (inl (Memᴰ.head refl)) (ap number k) refl mi (sym a) aw h in
    (q.0, subst₂ (λ a b. Whole i m (spelt l ∷ []) (runs_again a true n) o (resumed b w)) a (a ∙ sym e) q.1)

pub refuse_away_whole : {i m : ℕ} {o : Node} {w : World} (n : Node) (l : Letter) (z : Commitment) → z.attempt ≡ l.attempt → z.mine ≡ false → l.kind ≡ Refuse → Whole i m (spelt l ∷ []) (on_state (Committed z) n) o w → Whole i m (spelt l ∷ []) (on_state Away n) o w
refuse_away_whole n l z a mi k h = alone h (let_go (spelt l) z (inl (Memᴰ.head refl)) refl (sym a) (inr (ap number k, mi)) h.both)

-- in Paused
pub refuse_pause_whole : {i m : ℕ} {o : Node} {w : World} (n : Node) (l : Letter) (z : Pause) → z.right.attempt ≡ z.transfer.attempt → z.transfer.attempt ≡ l.attempt → n.awake ≡ true → Whole i m (spelt l ∷ []) (on_state (Paused z) n) o w → MayResume w × Whole i m (spelt l ∷ []) (runs_again l.attempt true n) o (resumed z.right.attempt w)
refuse_pause_whole {i = i} {m = m} {o = o} {w = w} n l z e a aw h =
    let q = refused_paused_whole z refl aw h in
    (q.0, subst₂ (λ a b. Whole i m (spelt l ∷ []) (runs_again a true n) o (resumed b w)) a (sym e) q.1)

-- in Copying
pub refuse_copying_whole : {i m : ℕ} {x : List (List ℕ)} {n o : Node} {w : World} (t : ℕ) (c : Transfer) (s : State) → n.state ≡ Copying c → s ≡ refused_in t (Copying c) → n.awake ≡ true → Whole i m x n o w → Whole i m x (on_state s n) o w
refuse_copying_whole {i = i} {m = m} {x = x} {n = n} {o = o} {w = w} t c s e f aw h =
    subst⁻¹ (λ s. Whole i m x (on_state s n) o w) f (go (eqb c.attempt t))
  where
    go : (b : Bool) → Whole i m x (on_state (cond b (Running (record { wanted = true })) (Copying c)) n) o w
    go true = alone h (refused_copying c e aw h.both)
    go false = subst (λ s. Whole i m x (on_state s n) o w) e h

-- the state is taken out and put back
pub put_back : (n : Node) (s : State) → n.state ≡ s → on_state s n ≡ n
put_back n s e = ap (λ s. on_state s n) (sym e)

-- ACK
abbrev lessened : ℕ → Transfer → Transfer
lessened s c = record { attempt = c.attempt; window = dropped (s - c.window.base) c.window; unsent = c.unsent; cursor = c.cursor; sent = c.sent; turns = c.turns; prev = c.prev }

acked_is : (c : Transfer) (s : ℕ) → c.window.base < s → s ≤ c.window.base + length c.window.pages → Acked c (lessened s c) s
acked_is c s lo hi =
    record { attempt = refl; base = omega arith; len = omega (arith, length-drop (s - c.window.base) c.window.pages); low = omega arith; old = λ k l. get_or-drop (s - c.window.base) c.window.pages k 0 ∙ ap (slot c) (omega arith); kept = λ q. refl }

abbrev fits_ack : ℕ → ℕ → Transfer → Bool
fits_ack t s c = (eqb c.attempt t && ltb c.window.base s) && leb s (c.window.base + length c.window.pages)

ack_test : (t s : ℕ) (c : Transfer) → fits_ack t s c ≡ true → (c.attempt ≡ t) × (c.window.base < s) × (s ≤ c.window.base + length c.window.pages)
ack_test t s c e =
    let a = and_parts (eqb c.attempt t && ltb c.window.base s) (leb s (c.window.base + length c.window.pages)) e in
    let b = and_parts (eqb c.attempt t) (ltb c.window.base s) a.0 in
    (eqb-true c.attempt t b.0, ltb-true c.window.base s b.1, leb-true s (c.window.base + length c.window.pages) a.1)

ack_at : {i m : ℕ} {n o : Node} {w : World} (l : Letter) → l.kind ≡ Ack → Whole i m (spelt l ∷ []) n o w → Whole i m (spelt l ∷ []) (on_state (acked_in l.attempt l.place n.state) n) o w
ack_at {i = i} {m = m} {n = n} {o = o} {w = w} l k h = go n.state refl
  where
    same : (s : State) → n.state ≡ s → Whole i m (spelt l ∷ []) (on_state s n) o w
    same s e = subst (λ s. Whole i m (spelt l ∷ []) (on_state s n) o w) e h

    copying : (c : Transfer) → n.state ≡ Copying c → (b : Bool) → fits_ack l.attempt l.place c ≡ b → Whole i m (spelt l ∷ []) (on_state (Copying (cond b (lessened l.place c) c)) n) o w
    copying c e true q =
        let a = ack_test l.attempt l.place c q in
        alone h (ack_copying (spelt l) c (lessened l.place c) (inl (Memᴰ.head refl)) (ap number k) e (sym a.0) (acked_is c l.place a.1 a.2) h.both)
    copying c e false q = same (Copying c) e

    paused : (z : Pause) → n.state ≡ Paused z → (b : Bool) → fits_ack l.attempt l.place z.transfer ≡ b → Whole i m (spelt l ∷ []) (on_state (Paused (record { transfer = cond b (lessened l.place z.transfer) z.transfer; right = z.right; turns = z.turns })) n) o w
    paused z e true q =
        let a = ack_test l.attempt l.place z.transfer q in
        alone h (ack_paused (spelt l) z (record { transfer = lessened l.place z.transfer; right = z.right; turns = z.turns }) (inl (Memᴰ.head refl)) (ap number k) e (sym a.0) (acked_is z.transfer l.place a.1 a.2) refl h.both)
    paused z e false q = same (Paused z) e

    go : (s : State) → n.state ≡ s → Whole i m (spelt l ∷ []) (on_state (acked_in l.attempt l.place s) n) o w
    go Away e = same Away e
    go (Receiving r) e = same (Receiving r) e
    go (Running r) e = same (Running r) e
    go (Copying c) e = copying c e (fits_ack l.attempt l.place c) refl
    go (Paused z) e = paused z e (fits_ack l.attempt l.place z.transfer) refl
    go (Committed z) e = same (Committed z) e

pub ack_whole : {i m : ℕ} {n o : Node} {w : World} (l : Letter) (s : State) → s ≡ acked_in l.attempt l.place n.state → l.kind ≡ Ack → Whole i m (spelt l ∷ []) n o w → Whole i m (spelt l ∷ []) (on_state s n) o w
ack_whole {i = i} {m = m} {n = n} {o = o} {w = w} l s e k h = subst⁻¹ (λ s. Whole i m (spelt l ∷ []) (on_state s n) o w) e (ack_at l k h)

-- TAKEN
pub gone_whole : {i m : ℕ} {n o : Node} {w : World} (l : Letter) (z : Commitment) → n.state ≡ Committed z → z.attempt ≡ l.attempt → l.kind ≡ Taken → Whole i m (spelt l ∷ []) n o w → Whole i m (spelt l ∷ []) (on_state Away n) o w
gone_whole l z e a k h = alone h (let_go (spelt l) z (inl (Memᴰ.head refl)) e (sym a) (inl (ap number k)) h.both)

pub gone_none_is : (n : Node) (t : ℕ) → ((z : Commitment) → n.state ≡ Committed z → ⊥) → n ≡ on_state (gone_in t n.state) n
gone_none_is n t f = ap (λ s. on_state s n) (go n.state refl)
  where
    go : (s : State) → n.state ≡ s → s ≡ gone_in t s
    go Away e = refl
    go (Receiving r) e = refl
    go (Running r) e = refl
    go (Copying c) e = refl
    go (Paused z) e = refl
    go (Committed z) e = absurd (f z e)

-- WHAT HAS COME
pub heard_letter : {n : Node} {w v : World} (b : Bool) (ws : List ℕ) (l : Letter) → b ≡ true → length ws ≡ 72 → Some l ≡ letter_of ws → w.fell ≡ false → Gets w (Ok b) ws v → SoFar [] n w 0 (spelt l ∷ []) n v
heard_letter {n = n} {w = w} {v = v} b ws l q k e u g =
    subst⁻¹ (λ (z : List ℕ). SoFar [] n w 0 (z ∷ []) n v) (written_read ws l k (sym e)).0 (gotten b ws q (got (begin [] n w u) g))

-- LETTERS IN A ROW: one more, or none
pub hear_more : {pages p : ℕ} {b : Bool} {n x y : Node} → p ≡ pages → Heard pages n x → OneHeard p b x y → Heard pages n y
hear_more {pages = pages} {n = n} e h (nothing q) = subst⁻¹ (λ (z : Node). Heard pages n z) q h
hear_more {pages = pages} {n = n} {x = x} e h (letter l o q) =
    subst⁻¹ (λ (z : Node). Heard pages n z) (q ∙ ap (λ p. heeded p l x) e) (record { letters = h.letters ++ l ∷ []; hears = more h.letters l x h.hears })
