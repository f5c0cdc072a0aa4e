-- What a transfer does: it scans, is acknowledged, begins a pass, stops.
-- Assumes nothing.
use Rattle.std.proofs.Common.{◌≡◌, ℕ, ◌+◌, ◌-◌, ◌%◌, ◌<◌, ◌≤◌, Bool, true, false, cond, not, ◌&&◌, eqb, ltb, List, Option, sym, refl, ap, ◌∙◌, subst, ap₂, arith, ltb-false, ltb-true, eqb-true, length}
use Rattle.std.proofs.lemmas.Option.{same_Some}
use borrow.Author.Tests.{eqb-false}
use Rattle.moving.specs.declared.Node.{Node}
use Rattle.moving.specs.declared.state.Transfer.{Transfer}
use Rattle.moving.specs.declared.state.Receiving.{Receiving as Reception}
use Rattle.moving.specs.declared.state.Paused.{Paused as Pause}
use Rattle.moving.specs.declared.state.State.TheVariants.{Receiving, Copying, Paused}
use Rattle.moving.specs.Hosts.{Host, put, host_of}
use Rattle.moving.specs.Model.{moving, recount, on_state}
use Rattle.moving.specs.Invariant.{View, flip, kind_of, attempt_of, place_of, page_of, words_of, unsent, slot, end, Flies, Stands, Copied, Under, Carries, Bears, Legit, In, Both, Pushed, Acked}
use Rattle.moving.proofs.Moves.{no, clash, mover, on_mine, on_guest, went}

abbrev pub touch_to : (ℕ → Bool) → Host → Host
touch_to f h = host_of h.page f h.cell h.told h.row h.old

-- A TRANSFER CHANGES: what is owed is Carries, Bears and, in Paused, `below`
pub copying_to : {m : ℕ} {x y : List (List ℕ)} {n o : Node} {u : View} (c d : Transfer) (t : ℕ → Bool) → n.state ≡ Copying c → d.attempt ≡ c.attempt → Carries m d o (on_mine (touch_to t u.mine) u) → ((l : List ℕ) → Bears l c o (flip u) → Bears l d o (flip (on_mine (touch_to t u.mine) u))) → Both m x y n o u → Both m x y (on_state (Copying d) n) o (on_mine (touch_to t u.mine) u)
copying_to {m = m} {n = n} {o = o} {u = u} c d t e at ca be h =
    let g = h.ours.guest.copying c e in
    record { ours = record { me = h.ours.me; fit = h.ours.fit; guest = record { told = h.ours.guest.told; runner = λ _ _. refl; keeper = λ a. no g.runs a; running = λ x f. clash f tt; copying = λ _ _. g; paused = λ x f. clash f tt; committed = λ x f. clash f tt; receiving = λ x f. clash f tt }; cells = record { copies = h.ours.cells.copies; asleep = λ a. clash (sym (h.ours.cells.asleep a) ∙ e) tt; took = h.ours.cells.took; done = h.ours.cells.done; parity = h.ours.cells.parity; most = h.ours.cells.most; committed = λ x f. clash f tt; receiving = λ x f. clash f tt }; order = h.ours.order; commits = h.ours.commits; copy = record { carries = λ b f. subst (λ b. Carries m b o (on_mine (touch_to t u.mine) u)) (same_Some _ _ f) ca; below = λ x f. clash f tt }; letters = λ l i. mine l (h.ours.letters l i) }; yours = record { me = h.yours.me; fit = h.yours.fit; guest = h.yours.guest; cells = h.yours.cells; order = h.yours.order; commits = λ s f. clash f tt; copy = record { carries = λ b f. no (mover b h.yours f).0 (ap not g.here); below = h.yours.copy.below }; letters = λ l i. theirs l (h.yours.letters l i) } }
  where
    mine : (l : List ℕ) → Legit m l n o u → Legit m l (on_state (Copying d) n) o (on_mine (touch_to t u.mine) u)
    mine l k =
        record { probe = k.probe; page = k.page; commit = λ i. record { own = (k.commit i).own; some = (k.commit i).some; done = (k.commit i).done; past = λ _ r f. clash f tt }; ack = k.ack; refuse = k.refuse; taken = k.taken; place = k.place; given = λ i r f. clash f tt; bears = λ i c f a. let b = k.bears i c f a in record { high = b.high; slot = b.slot; soon = b.soon; now = λ s j. clash j tt }; acked = λ i b f a r j w. let q = sym (ap (λ z. z.attempt) (same_Some _ _ f)) ∙ at in k.acked i c (ap moving e) (a ∙ q) r j (w ∙ q) }

    theirs : (l : List ℕ) → Legit m l o n (flip u) → Legit m l o (on_state (Copying d) n) (flip (on_mine (touch_to t u.mine) u))
    theirs l k =
        record { probe = k.probe; page = k.page; commit = k.commit; ack = k.ack; refuse = λ i. record { own = (k.refuse i).own; begun = (k.refuse i).begun; dead = λ _ r f. clash f tt; untaken = (k.refuse i).untaken }; taken = k.taken; place = k.place; given = k.given; bears = λ i b f a. let q = sym (ap (λ z. z.attempt) (same_Some _ _ f)) ∙ at in subst (λ b. Bears l b o (flip (on_mine (touch_to t u.mine) u))) (same_Some _ _ f) (be l (k.bears i c (ap moving e) (a ∙ q))); acked = λ i c f a r j. clash j tt }

pub paused_same : {a b : Pause} → Paused a ≡ Paused b → a ≡ b
paused_same e = cc

pub paused_to : {m : ℕ} {x y : List (List ℕ)} {n o : Node} {u : View} (c d : Pause) (t : ℕ → Bool) → n.state ≡ Paused c → d.transfer.attempt ≡ c.transfer.attempt → Carries m d.transfer o (on_mine (touch_to t u.mine) u) → ((p : ℕ) → p < d.transfer.cursor → (unsent d.transfer p ≡ false) × (t p ≡ false)) → ((l : List ℕ) → Bears l c.transfer o (flip u) → Bears l d.transfer o (flip (on_mine (touch_to t u.mine) u))) → Both m x y n o u → Both m x y (on_state (Paused d) n) o (on_mine (touch_to t u.mine) u)
paused_to {m = m} {n = n} {o = o} {u = u} c d t e at ca lo be h =
    let g = h.ours.guest.paused c e in
    record { ours = record { me = h.ours.me; fit = h.ours.fit; guest = record { told = h.ours.guest.told; runner = λ a _. no a g.runs; keeper = λ _ _ _ _. refl; running = λ x f. clash f tt; copying = λ x f. clash f tt; paused = λ _ _. g; committed = λ x f. clash f tt; receiving = λ x f. clash f tt }; cells = record { copies = h.ours.cells.copies; asleep = λ a. clash (sym (h.ours.cells.asleep a) ∙ e) tt; took = h.ours.cells.took; done = h.ours.cells.done; parity = h.ours.cells.parity; most = h.ours.cells.most; committed = λ x f. clash f tt; receiving = λ x f. clash f tt }; order = h.ours.order; commits = h.ours.commits; copy = record { carries = λ b f. subst (λ b. Carries m b o (on_mine (touch_to t u.mine) u)) (same_Some _ _ f) ca; below = λ x f. subst (λ x. (p : ℕ) → p < x.transfer.cursor → (unsent x.transfer p ≡ false) × (t p ≡ false)) (paused_same f) lo }; letters = λ l i. mine l (h.ours.letters l i) }; yours = record { me = h.yours.me; fit = h.yours.fit; guest = h.yours.guest; cells = h.yours.cells; order = h.yours.order; commits = λ s f. clash f tt; copy = record { carries = λ b f. no (mover b h.yours f).0 (ap not g.here); below = h.yours.copy.below }; letters = λ l i. theirs l (h.yours.letters l i) } }
  where
    mine : (l : List ℕ) → Legit m l n o u → Legit m l (on_state (Paused d) n) o (on_mine (touch_to t u.mine) u)
    mine l k =
        record { probe = k.probe; page = k.page; commit = λ i. record { own = (k.commit i).own; some = (k.commit i).some; done = (k.commit i).done; past = λ _ r f. clash f tt }; ack = k.ack; refuse = k.refuse; taken = k.taken; place = k.place; given = λ i r f. clash f tt; bears = λ i c f a. let b = k.bears i c f a in record { high = b.high; slot = b.slot; soon = b.soon; now = λ s j. clash j tt }; acked = λ i b f a r j w. let q = sym (ap (λ z. z.attempt) (same_Some _ _ f)) ∙ at in k.acked i c.transfer (ap moving e) (a ∙ q) r j (w ∙ q) }

    theirs : (l : List ℕ) → Legit m l o n (flip u) → Legit m l o (on_state (Paused d) n) (flip (on_mine (touch_to t u.mine) u))
    theirs l k =
        record { probe = k.probe; page = k.page; commit = k.commit; ack = k.ack; refuse = λ i. record { own = (k.refuse i).own; begun = (k.refuse i).begun; dead = λ _ r f. clash f tt; untaken = (k.refuse i).untaken }; taken = k.taken; place = k.place; given = k.given; bears = λ i b f a. let q = sym (ap (λ z. z.attempt) (same_Some _ _ f)) ∙ at in subst (λ b. Bears l b o (flip (on_mine (touch_to t u.mine) u))) (same_Some _ _ f) (be l (k.bears i c.transfer (ap moving e) (a ∙ q))); acked = λ i c f a r j. clash j tt }

-- SCAN: page p goes into the window
abbrev pub clear : ℕ → Host → Host
clear p h = touch_to (put p false h.touched) h

still_flies : {c d : Transfer} {p : ℕ} (q s : ℕ) → Pushed c d p → Flies c q s → Flies d q s
still_flies q s k z =
    let a = z.1 in
    let b = z.3 in
    let l = k.len in
    let e = k.base in
    (z.0, omega arith, k.old z.0 a ∙ z.2, omega arith)

pub push_carries : (m : ℕ) (c d : Transfer) (p : ℕ) (o : Node) (u : View) → Pushed c d p → p < u.pages → end c < m → Carries m c o u → Carries m d o (on_mine (clear p u.mine) u)
push_carries m c d p o u k pp room h =
    let at = k.attempt in
    let ba = k.base in
    let le = k.len in
    record { attempt = at ∙ h.attempt; own = ap (λ z. z % 2) at ∙ h.own; done = let w = h.done in omega arith; took = let w = h.took in omega arith; most = omega arith; ways = λ j w. ways j w (ltb j (length c.window.pages)) refl; base = λ w. ba ∙ h.base (omega arith); every = λ w q l v. every (omega arith) q l v (eqb q p) refl; under = λ r f a. under r f (a ∙ at) }
  where
    ways : (j : ℕ) → j < length d.window.pages → (b : Bool) → ltb j (length c.window.pages) ≡ b → slot d j < u.pages
    ways j w true e = let z = ltb-true j (length c.window.pages) e in let y = k.old j z in let x = h.ways j z in omega arith
    ways j w false e =
        let z = ltb-false j (length c.window.pages) e in
        let le = k.len in
        let y : j ≡ length c.window.pages = omega arith in
        let x : slot d j ≡ p = ap (slot d) y ∙ k.last in
        omega arith

    every : u.theirs.cell 1 < c.attempt → (q : ℕ) → q < u.pages → unsent d q ≡ false → (b : Bool) → eqb q p ≡ b → Flies d q 0
    every w q l v true e =
        let le = k.len in
        (length c.window.pages, omega arith, k.last ∙ sym (eqb-true q p e), omega arith)
    every w q l v false e = still_flies q 0 k (h.every w q l (sym (k.kept q (eqb-false q p e)) ∙ v))

    under : (r : Reception) → o.state ≡ Receiving r → r.attempt ≡ c.attempt → Under r.next d (on_mine (clear p u.mine) u)
    under r f a =
        let w : Under r.next c u = h.under r f a in
        let lo = w.low in
        let hi = w.high in
        let ba = k.base in
        let le = k.len in
        record { low = omega arith; high = omega arith; same = λ q l v t nf. same q l v (eqb q p) refl t nf }
      where
        same : (q : ℕ) → q < u.pages → unsent d q ≡ false → (b : Bool) → eqb q p ≡ b → cond b false (u.mine.touched q) ≡ false → (Flies d q r.next → ⊥) → u.theirs.page q ≡ u.mine.page q
        same q l v true e t nf =
            let hi = (h.under r f a).high in
            let ba = k.base in
            let le = k.len in
            absurd (nf (length c.window.pages, omega arith, k.last ∙ sym (eqb-true q p e), omega arith))
        same q l v false e t nf = (h.under r f a).same q l (sym (k.kept q (eqb-false q p e)) ∙ v) t (λ z. nf (still_flies q r.next k z))

pub push_bears : (l : List ℕ) (c d : Transfer) (p : ℕ) (m : ℕ) (o : Node) (u : View) → Pushed c d p → Carries m c o u → Bears l c o (flip u) → Bears l d o (flip (on_mine (clear p u.mine) u))
push_bears l c d p m o u k h b =
    let at = k.attempt in
    let ba = k.base in
    let le = k.len in
    let hi = b.high in
    record { high = omega arith; slot = λ w. ap (λ z. slot d (place_of l - z)) ba ∙ k.old (place_of l - c.window.base) (omega arith) ∙ b.slot (omega arith); soon = λ w v t. let z = h.base (omega arith) in other (eqb (page_of l) p) refl (omega arith) v t (λ v t. b.soon (omega arith) v t); now = λ r f a w v t. let z = (h.under r f (a ∙ at)).low in other (eqb (page_of l) p) refl (omega arith) v t (λ v t. b.now r f (a ∙ at) w v t) }
  where
    other : (q : Bool) → eqb (page_of l) p ≡ q → c.window.base ≤ place_of l → unsent d (page_of l) ≡ false → cond q false (u.mine.touched (page_of l)) ≡ false → (unsent c (page_of l) ≡ false → u.mine.touched (page_of l) ≡ false → words_of l ≡ u.mine.page (page_of l)) → words_of l ≡ u.mine.page (page_of l)
    other true e w v t f = let hi = b.high in absurd (k.free (place_of l - c.window.base) (omega arith) (b.slot w ∙ eqb-true (page_of l) p e))
    other false e w v t f = f (sym (k.kept (page_of l) (eqb-false (page_of l) p e)) ∙ v) t

pub push_copying : {m : ℕ} {x y : List (List ℕ)} {n o : Node} {u : View} (c d : Transfer) (p : ℕ) → n.state ≡ Copying c → Pushed c d p → p < u.pages → end c < m → Both m x y n o u → Both m x y (on_state (Copying d) n) o (on_mine (clear p u.mine) u)
push_copying {m = m} {o = o} {u = u} c d p e k pp room h =
    let ca : Carries m c o u = h.ours.copy.carries c (ap moving e) in
    copying_to c d (put p false u.mine.touched) e k.attempt (push_carries m c d p o u k pp room ca) (λ l. push_bears l c d p m o u k ca) h

pub push_paused : {m : ℕ} {x y : List (List ℕ)} {n o : Node} {u : View} (c d : Pause) → n.state ≡ Paused c → Pushed c.transfer d.transfer c.transfer.cursor → d.transfer.cursor ≡ c.transfer.cursor + 1 → c.transfer.cursor < u.pages → end c.transfer < m → Both m x y n o u → Both m x y (on_state (Paused d) n) o (on_mine (clear c.transfer.cursor u.mine) u)
push_paused {m = m} {o = o} {u = u} c d e k cur pp room h =
    let ca : Carries m c.transfer o u = h.ours.copy.carries c.transfer (ap moving e) in
    paused_to c d (put c.transfer.cursor false u.mine.touched) e k.attempt (push_carries m c.transfer d.transfer c.transfer.cursor o u k pp room ca) (λ q l. low q l (eqb q c.transfer.cursor) refl) (λ l. push_bears l c.transfer d.transfer c.transfer.cursor m o u k ca) h
  where
    low : (q : ℕ) → q < d.transfer.cursor → (b : Bool) → eqb q c.transfer.cursor ≡ b → (unsent d.transfer q ≡ false) × (cond b false (u.mine.touched q) ≡ false)
    low q l true z = (ap (unsent d.transfer) (eqb-true q c.transfer.cursor z) ∙ k.sent, refl)
    low q l false z =
        let ne : q ≡ c.transfer.cursor → ⊥ = eqb-false q c.transfer.cursor z in
        let w = h.ours.copy.below c e q (omega arith) in
        (k.kept q ne ∙ w.0, w.1)

-- a page that's neither touched nor in unsent is passed over; a pass begins: window, attempt and unsent stay
abbrev pub repause : Pause → Transfer → ℕ → Pause
repause z c turns = record { transfer = c; right = z.right; turns = turns }

was_clear : (p q : ℕ) (t : ℕ → Bool) → t p ≡ false → put p false t q ≡ false → t q ≡ false
was_clear p q t e = go (eqb q p) refl
  where
    go : (b : Bool) → eqb q p ≡ b → cond b false (t q) ≡ false → t q ≡ false
    go true z f = ap t (eqb-true q p z) ∙ e
    go false z f = f

skip_carries : (m : ℕ) (c : Transfer) (p : ℕ) (o : Node) (u : View) → u.mine.touched p ≡ false → Carries m c o u → Carries m c o (on_mine (clear p u.mine) u)
skip_carries m c p o u e h =
    record { attempt = h.attempt; own = h.own; done = h.done; took = h.took; most = h.most; ways = h.ways; base = h.base; every = h.every; under = λ r f a. let w = h.under r f a in record { low = w.low; high = w.high; same = λ q l v t nf. w.same q l v (was_clear p q u.mine.touched e t) nf } }

skip_bears : (l : List ℕ) (c : Transfer) (p : ℕ) (o : Node) (u : View) → u.mine.touched p ≡ false → Bears l c o (flip u) → Bears l c o (flip (on_mine (clear p u.mine) u))
skip_bears l c p o u e b =
    record { high = b.high; slot = b.slot; soon = λ w v t. b.soon w v (was_clear p (page_of l) u.mine.touched e t); now = λ r f a w v t. b.now r f a w v (was_clear p (page_of l) u.mine.touched e t) }

pub skip_copying : {m : ℕ} {x y : List (List ℕ)} {n o : Node} {u : View} (c : Transfer) (p k s t : ℕ) (v : Option ℕ) → n.state ≡ Copying c → u.mine.touched p ≡ false → Both m x y n o u → Both m x y (on_state (Copying (recount c k s t v)) n) o (on_mine (clear p u.mine) u)
skip_copying {m = m} {o = o} {u = u} c p k s t v e f h =
    copying_to c (recount c k s t v) (put p false u.mine.touched) e refl (skip_carries m c p o u f (h.ours.copy.carries c (ap moving e))) (λ l. skip_bears l c p o u f) h

pub skip_paused : {m : ℕ} {x y : List (List ℕ)} {n o : Node} {u : View} (c : Pause) (s t : ℕ) (v : Option ℕ) (w : ℕ) → n.state ≡ Paused c → u.mine.touched c.transfer.cursor ≡ false → unsent c.transfer c.transfer.cursor ≡ false → Both m x y n o u → Both m x y (on_state (Paused (repause c (recount c.transfer (c.transfer.cursor + 1) s t v) w)) n) o (on_mine (clear c.transfer.cursor u.mine) u)
skip_paused {m = m} {o = o} {u = u} c s t v w e f g h =
    paused_to c (repause c (recount c.transfer (c.transfer.cursor + 1) s t v) w) (put c.transfer.cursor false u.mine.touched) e refl (skip_carries m c.transfer c.transfer.cursor o u f (h.ours.copy.carries c.transfer (ap moving e))) (λ q l. low q l (eqb q c.transfer.cursor) refl) (λ l. skip_bears l c.transfer c.transfer.cursor o u f) h
  where
    low : (q : ℕ) → q < c.transfer.cursor + 1 → (b : Bool) → eqb q c.transfer.cursor ≡ b → (unsent c.transfer q ≡ false) × (cond b false (u.mine.touched q) ≡ false)
    low q l true z = (ap (unsent c.transfer) (eqb-true q c.transfer.cursor z) ∙ g, refl)
    low q l false z =
        let ne : q ≡ c.transfer.cursor → ⊥ = eqb-false q c.transfer.cursor z in
        h.ours.copy.below c e q (omega arith)

-- a pass begins, or turns are counted
pub recount_copying : {m : ℕ} {x y : List (List ℕ)} {n o : Node} {u : View} (c : Transfer) (k s t : ℕ) (v : Option ℕ) → n.state ≡ Copying c → Both m x y n o u → Both m x y (on_state (Copying (recount c k s t v)) n) o u
recount_copying {u = u} c k s t v e h = copying_to c (recount c k s t v) u.mine.touched e refl (h.ours.copy.carries c (ap moving e)) (λ l b. b) h

pub recount_paused : {m : ℕ} {x y : List (List ℕ)} {n o : Node} {u : View} (c : Pause) (s t : ℕ) (v : Option ℕ) (w : ℕ) → n.state ≡ Paused c → Both m x y n o u → Both m x y (on_state (Paused (repause c (recount c.transfer c.transfer.cursor s t v) w)) n) o u
recount_paused {u = u} c s t v w e h = paused_to c (repause c (recount c.transfer c.transfer.cursor s t v) w) u.mine.touched e refl (h.ours.copy.carries c.transfer (ap moving e)) (h.ours.copy.below c e) (λ l b. b) h

-- ACK: the places below s leave the window
ack_carries : (m : ℕ) (c d : Transfer) (s : ℕ) (o : Node) (u : View) → Acked c d s → c.attempt ≤ u.theirs.cell 1 → ((r : Reception) → o.state ≡ Receiving r → r.attempt ≡ c.attempt → s ≤ r.next) → Carries m c o u → Carries m d o u
ack_carries m c d s o u k begun next h =
    let at = k.attempt in
    let ba = k.base in
    let le = k.len in
    record { attempt = at ∙ h.attempt; own = ap (λ z. z % 2) at ∙ h.own; done = let w = h.done in omega arith; took = let w = h.took in omega arith; most = let w = h.most in omega arith; ways = λ j w. let z = h.ways (j + (s - c.window.base)) (let v = k.low in omega arith) in let y = k.old j w in omega arith; base = λ w. absurd (omega arith); every = λ w. absurd (omega arith); under = λ r f a. let w = h.under r f (a ∙ at) in let lo = next r f (a ∙ at) in let hi = w.high in record { low = omega arith; high = omega arith; same = λ q l v t nf. w.same q l (sym (k.kept q) ∙ v) t (λ z. nf (flies q r.next lo z)) } }
  where
    flies : (q n : ℕ) → s ≤ n → Flies c q n → Flies d q n
    flies q n l z =
        let a = z.1 in
        let b = z.3 in
        let le = k.len in
        let ba = k.base in
        let lo = k.low in
        let i : z.0 - (s - c.window.base) + (s - c.window.base) ≡ z.0 = omega arith in
        (z.0 - (s - c.window.base), omega arith, k.old (z.0 - (s - c.window.base)) (omega arith) ∙ ap (slot c) i ∙ z.2, omega arith)

ack_bears : (l : List ℕ) (c d : Transfer) (s : ℕ) (o : Node) (u : View) → Acked c d s → Bears l c o (flip u) → Bears l d o (flip u)
ack_bears l c d s o u k b =
    let at = k.attempt in
    let ba = k.base in
    let le = k.len in
    let hi = b.high in
    let lo = k.low in
    record { high = omega arith; slot = λ w. slots w; soon = λ w v t. b.soon (omega arith) (sym (k.kept (page_of l)) ∙ v) t; now = λ r f a w v t. b.now r f (a ∙ at) w (sym (k.kept (page_of l)) ∙ v) t }
  where
    slots : d.window.base ≤ place_of l → slot d (place_of l - d.window.base) ≡ page_of l
    slots w =
        let ba = k.base in
        let le = k.len in
        let hi = b.high in
        let lo = k.low in
        let i : place_of l - d.window.base + (s - c.window.base) ≡ place_of l - c.window.base = omega arith in
        k.old (place_of l - d.window.base) (omega arith) ∙ ap (slot c) i ∙ b.slot (omega arith)

pub ack_copying : {m : ℕ} {x y : List (List ℕ)} {n o : Node} {u : View} (l : List ℕ) (c d : Transfer) → In l x u.mine → kind_of l ≡ 4 → n.state ≡ Copying c → attempt_of l ≡ c.attempt → Acked c d (place_of l) → Both m x y n o u → Both m x y (on_state (Copying d) n) o u
ack_copying {m = m} {o = o} {u = u} l c d i kd e at k h =
    copying_to c d u.mine.touched e k.attempt (ack_carries m c d (place_of l) o u k (let w = ((h.ours.letters l i).ack kd).begun in omega arith) (λ r f a. (h.ours.letters l i).acked kd c (ap moving e) at r f a) (h.ours.copy.carries c (ap moving e))) (λ q. ack_bears q c d (place_of l) o u k) h

pub ack_paused : {m : ℕ} {x y : List (List ℕ)} {n o : Node} {u : View} (l : List ℕ) (c d : Pause) → In l x u.mine → kind_of l ≡ 4 → n.state ≡ Paused c → attempt_of l ≡ c.transfer.attempt → Acked c.transfer d.transfer (place_of l) → d.transfer.cursor ≡ c.transfer.cursor → Both m x y n o u → Both m x y (on_state (Paused d) n) o u
ack_paused {m = m} {o = o} {u = u} l c d i kd e at k cur h =
    paused_to c d u.mine.touched e k.attempt (ack_carries m c.transfer d.transfer (place_of l) o u k (let w = ((h.ours.letters l i).ack kd).begun in omega arith) (λ r f a. (h.ours.letters l i).acked kd c.transfer (ap moving e) at r f a) (h.ours.copy.carries c.transfer (ap moving e))) (λ q w. let z = h.ours.copy.below c e q (omega arith) in (k.kept q ∙ z.0, z.1)) (λ q. ack_bears q c.transfer d.transfer (place_of l) o u k) h

-- STOP
abbrev pub stood : View → View
stood u = on_guest false u.here u.lost u.mine.page false u.wish u

pub stop_it : {m : ℕ} {x y : List (List ℕ)} {n o : Node} {u : View} (c : Transfer) (z : Pause) → n.state ≡ Copying c → z.transfer ≡ recount c 0 z.transfer.sent z.transfer.turns z.transfer.prev → Both m x y n o u → Both m x y (on_state (Paused z) n) o (stood u)
stop_it {m = m} {n = n} {o = o} {u = u} c z e tr h =
    record { ours = record { me = h.ours.me; fit = record { sides = h.ours.fit.sides; some = h.ours.fit.some; few = h.ours.fit.few; lost = λ a. no a refl }; guest = record { told = λ a. no a g.told; runner = λ a. no a refl; keeper = λ _ _ _ _. refl; running = λ x f. clash f tt; copying = λ x f. clash f tt; paused = λ _ _. record { runs = refl; lost = h.ours.fit.lost g.runs; hurt = refl; here = g.here; wish = g.wish; told = g.told; same = λ _ _. refl }; committed = λ x f. clash f tt; receiving = λ x f. clash f tt }; cells = record { copies = h.ours.cells.copies; asleep = λ a. clash (sym (h.ours.cells.asleep a) ∙ e) tt; took = h.ours.cells.took; done = h.ours.cells.done; parity = h.ours.cells.parity; most = h.ours.cells.most; committed = λ x f. clash f tt; receiving = λ x f. clash f tt }; order = h.ours.order; commits = λ r f a b. let w = ca.done in let v = ca.attempt in absurd (omega arith); copy = record { carries = λ b f. subst (λ b. Carries m b o u) (sym tr ∙ same_Some _ _ f) ca; below = λ x f p l. let q = ap (λ x. x.transfer.cursor) (paused_same f) in let v = ap (λ c. c.cursor) tr in absurd (omega arith) }; letters = λ l i. mine l (h.ours.letters l i) }; yours = record { me = h.yours.me; fit = record { sides = h.yours.fit.sides; some = h.yours.fit.some; few = h.yours.fit.few; lost = λ a. no a refl }; guest = record { told = λ a. no (h.yours.guest.told a).1 away; runner = λ a. no a refl; keeper = λ _ _ _ b. no b away; running = λ y f. no (h.yours.guest.running y f).here away; copying = λ y f. no (h.yours.guest.copying y f).here away; paused = λ y f. no (h.yours.guest.paused y f).here away; committed = λ y f a b. no b away; receiving = h.yours.guest.receiving }; cells = h.yours.cells; order = h.yours.order; commits = λ s f. clash f tt; copy = record { carries = λ b f. no (mover b h.yours f).0 away; below = h.yours.copy.below }; letters = λ l i. theirs l (h.yours.letters l i) } }
  where
    g : Copied u
    g = h.ours.guest.copying c e

    away : not u.here ≡ false
    away = ap not g.here

    ca : Carries m c o u
    ca = h.ours.copy.carries c (ap moving e)

    at : z.transfer.attempt ≡ c.attempt
    at = ap (λ c. c.attempt) tr

    mine : (l : List ℕ) → Legit m l n o u → Legit m l (on_state (Paused z) n) o (stood u)
    mine l k =
        record { probe = k.probe; page = k.page; commit = λ i. record { own = (k.commit i).own; some = (k.commit i).some; done = (k.commit i).done; past = λ _ r f. clash f tt }; ack = k.ack; refuse = k.refuse; taken = k.taken; place = k.place; given = λ i r f. clash f tt; bears = λ i c f a. let b = k.bears i c f a in record { high = b.high; slot = b.slot; soon = b.soon; now = λ s j. clash j tt }; acked = λ i b f a r j w. let q = sym (ap (λ z. z.attempt) (same_Some _ _ f)) ∙ at in k.acked i c (ap moving e) (a ∙ q) r j (w ∙ q) }

    theirs : (l : List ℕ) → Legit m l o n (flip u) → Legit m l o (on_state (Paused z) n) (flip (stood u))
    theirs l k =
        record { probe = k.probe; page = k.page; commit = k.commit; ack = k.ack; refuse = λ i. record { own = (k.refuse i).own; begun = (k.refuse i).begun; dead = λ _ r f. clash f tt; untaken = (k.refuse i).untaken }; taken = k.taken; place = k.place; given = k.given; bears = λ i b f a. let q = sym (ap (λ z. z.attempt) (same_Some _ _ f)) ∙ at in subst (λ b. Bears l b o (flip u)) (sym tr ∙ same_Some _ _ f) (k.bears i c (ap moving e) (a ∙ q)); acked = λ i c f a r j. clash j tt }

-- AGAIN: it goes on in the same attempt
pub go_again : {m : ℕ} {x y : List (List ℕ)} {n o : Node} {u : View} (z : Pause) (k s t : ℕ) (v : Option ℕ) → n.state ≡ Paused z → Both m x y n o u → Both m x y (record { me = n.me; awake = n.awake; took = z.transfer.attempt; top = n.top; committed = n.committed; asked = n.asked; state = Copying (recount z.transfer k s t v) }) o (went z.transfer.attempt u)
go_again {m = m} {n = n} {o = o} {u = u} z kk s t v e h =
    record { ours = record { me = h.ours.me; fit = record { sides = h.ours.fit.sides; some = h.ours.fit.some; few = h.ours.fit.few; lost = λ _. st.lost }; guest = record { told = λ a. no a st.told; runner = λ _ _. refl; keeper = λ a. no refl a; running = λ x f. clash f tt; copying = λ _ _. record { runs = refl; here = refl; wish = ap₂ (λ a b. a && b) st.wish st.here; told = st.told }; paused = λ x f. clash f tt; committed = λ x f. clash f tt; receiving = λ x f. clash f tt }; cells = record { copies = λ a. let w = h.ours.cells.copies a in (refl, w.1, w.2); asleep = λ a. clash (sym (h.ours.cells.asleep a) ∙ e) tt; took = omega (arith, ca.attempt); done = h.ours.cells.done; parity = h.ours.cells.parity; most = h.ours.cells.most; committed = λ x f. clash f tt; receiving = λ x f. clash f tt }; order = record { later = λ _. h.ours.order.later st.here; had = λ _ _ _. let w = h.ours.order.later st.here in omega (arith, ca.attempt); begun = h.ours.order.begun; untaken = λ _. h.ours.order.untaken st.here }; commits = λ r f a b. let w = ca.done in let v = ca.attempt in absurd (omega arith); copy = record { carries = λ b f. subst (λ b. Carries m b o (went z.transfer.attempt u)) (same_Some _ _ f) ca; below = λ x f. clash f tt }; letters = λ l i. mine l (h.ours.letters l i) }; yours = record { me = h.yours.me; fit = record { sides = h.yours.fit.sides; some = h.yours.fit.some; few = h.yours.fit.few; lost = λ _. st.lost }; guest = record { told = λ a. no (h.yours.guest.told a).1 away; runner = λ _ b. no b refl; keeper = λ a. no refl a; running = λ y f. no (h.yours.guest.running y f).here away; copying = λ y f. no (h.yours.guest.copying y f).here away; paused = λ y f. no (h.yours.guest.paused y f).here away; committed = λ y f a b. no b refl; receiving = λ s f. refl }; cells = h.yours.cells; order = record { later = λ b. no b refl; had = λ b. no b refl; begun = h.yours.order.begun; untaken = λ b. no b refl }; commits = λ s f. clash f tt; copy = record { carries = λ c f. no (mover c h.yours f).0 away; below = h.yours.copy.below }; letters = λ l i. theirs l (h.yours.letters l i) } }
  where
    st : Stands u
    st = h.ours.guest.paused z e

    away : not u.here ≡ false
    away = ap not st.here

    ca : Carries m z.transfer o u
    ca = h.ours.copy.carries z.transfer (ap moving e)

    mine : (l : List ℕ) → Legit m l n o u → Legit m l (record { me = n.me; awake = n.awake; took = z.transfer.attempt; top = n.top; committed = n.committed; asked = n.asked; state = Copying (recount z.transfer kk s t v) }) o (went z.transfer.attempt u)
    mine l k =
        record { probe = k.probe; page = k.page; commit = λ i. record { own = (k.commit i).own; some = (k.commit i).some; done = (k.commit i).done; past = λ _ r f. clash f tt }; ack = k.ack; refuse = k.refuse; taken = k.taken; place = k.place; given = λ i r f. clash f tt; bears = λ i c f d. let b = k.bears i c f d in record { high = b.high; slot = b.slot; soon = b.soon; now = λ s j. clash j tt }; acked = λ i b f a r j w. let q = sym (ap (λ z. z.attempt) (same_Some _ _ f)) in k.acked i z.transfer (ap moving e) (a ∙ q) r j (w ∙ q) }

    theirs : (l : List ℕ) → Legit m l o n (flip u) → Legit m l o (record { me = n.me; awake = n.awake; took = z.transfer.attempt; top = n.top; committed = n.committed; asked = n.asked; state = Copying (recount z.transfer kk s t v) }) (flip (went z.transfer.attempt u))
    theirs l k =
        record { probe = k.probe; page = k.page; commit = k.commit; ack = k.ack; refuse = λ i. record { own = (k.refuse i).own; begun = (k.refuse i).begun; dead = λ _ r f. clash f tt; untaken = λ a. let v = (k.refuse i).untaken a in let w = h.ours.order.had st.here (omega arith) (ap (λ z. z % 2) (sym a) ∙ (k.refuse i).own) in absurd (omega arith) }; taken = λ i. record { own = (k.taken i).own; took = let w = (k.taken i).took in let z = h.ours.cells.took in omega (arith, ca.attempt) }; place = k.place; given = k.given; bears = λ i b f a. let q = sym (ap (λ z. z.attempt) (same_Some _ _ f)) in subst (λ b. Bears l b o (flip u)) (same_Some _ _ f) (k.bears i z.transfer (ap moving e) (a ∙ q)); acked = λ i c f d s j. clash j tt }
