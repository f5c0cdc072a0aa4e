-- Letters, and what little is left.
-- Assumes nothing.
use Rattle.std.proofs.Common.{◌≡◌, ℕ, ◌+◌, ◌-◌, ◌%◌, ◌<◌, ◌≤◌, Bool, true, false, not, ◌⊎◌, List, Some, sym, refl, ap, ◌∙◌, subst, inl, inr, arith, length}
use Rattle.std.proofs.lemmas.Option.{same_Some}
use Rattle.moving.specs.declared.Node.{Node}
use Rattle.moving.specs.declared.state.Transfer.{Transfer}
use Rattle.moving.specs.declared.state.Receiving.{Receiving as Reception}
use Rattle.moving.specs.declared.state.Running.{Running as Run}
use Rattle.moving.specs.declared.state.Committed.{Committed as Commitment}
use Rattle.moving.specs.declared.state.State.{State}
use Rattle.moving.specs.declared.state.State.TheVariants.{Away, Receiving, Running, Committed}
use Rattle.moving.specs.Hosts.{Host, host_of}
use Rattle.moving.specs.Model.{moving, on_state}
use Rattle.moving.specs.Invariant.{View, flip, kind_of, attempt_of, place_of, page_of, words_of, slot, runner, keeper, NotReceiving, Runs, Carries, Bears, Legit, In, Side, Both}
use Rattle.moving.proofs.Views.{both_swap, both_back}
use Rattle.moving.proofs.Moves.{no, clash, none_some, receiving_same, mover, on_mine, on_theirs, on_guest, committed_same, running_same}

-- m may grow
more_legit : {m k : ℕ} (l : List ℕ) (n o : Node) (u : View) → m ≤ k → Legit m l n o u → Legit k l n o u
more_legit l n o u le g =
    record { probe = g.probe; page = g.page; commit = g.commit; ack = g.ack; refuse = g.refuse; taken = g.taken; place = λ i. let w = g.place i in omega arith; given = g.given; bears = g.bears; acked = g.acked }

pub more_side : {m k : ℕ} {x : List (List ℕ)} {n o : Node} {u : View} → m ≤ k → Side m x n o u → Side k x n o u
more_side {n = n} {o = o} {u = u} le h =
    record { me = h.me; fit = h.fit; guest = h.guest; cells = record { copies = h.cells.copies; asleep = h.cells.asleep; took = h.cells.took; done = h.cells.done; parity = h.cells.parity; most = let w = h.cells.most in omega arith; committed = h.cells.committed; receiving = λ r f. let w = h.cells.receiving r f in (w.0, w.1, omega arith) }; order = h.order; commits = h.commits; copy = record { carries = λ c f. let w = h.copy.carries c f in record { attempt = w.attempt; own = w.own; done = w.done; took = w.took; most = let v = w.most in omega arith; ways = w.ways; base = w.base; every = w.every; under = w.under }; below = h.copy.below }; letters = λ l i. more_legit l n o u le (h.letters l i) }

pub more_both : {m k : ℕ} {x y : List (List ℕ)} {n o : Node} {u : View} → m ≤ k → Both m x y n o u → Both k x y n o u
more_both le h = record { ours = more_side le h.ours; yours = more_side le h.yours }

-- RECEIVED: what is in the box was in it
abbrev pub link : List (List ℕ) → List (List ℕ) → Host → Host
link r s h = host_of h.page h.touched h.cell h.told r s

pub took : {m : ℕ} {x y : List (List ℕ)} {n o : Node} {u : View} (z r s : List (List ℕ)) → ((l : List ℕ) → In l z (link r s u.mine) → In l x u.mine) → Both m x y n o u → Both m z y n o (on_mine (link r s u.mine) u)
took z r s f h =
    record { ours = record { me = h.ours.me; fit = h.ours.fit; guest = h.ours.guest; cells = h.ours.cells; order = h.ours.order; commits = h.ours.commits; copy = h.ours.copy; letters = λ l i. h.ours.letters l (f l i) }; yours = record { me = h.yours.me; fit = h.yours.fit; guest = h.yours.guest; cells = h.yours.cells; order = h.yours.order; commits = h.yours.commits; copy = h.yours.copy; letters = h.yours.letters } }

-- SENT: what is in the other's box was in it, or is the letter
pub sent : {m : ℕ} {x y : List (List ℕ)} {n o : Node} {u : View} (l : List ℕ) (r s : List (List ℕ)) → ((k : List ℕ) → In k y (link r s u.theirs) → In k y u.theirs ⊎ (k ≡ l)) → Legit m l o n (flip u) → Both m x y n o u → Both m x y n o (on_theirs (link r s u.theirs) u)
sent {m = m} {n = n} {o = o} {u = u} l r s f g h =
    record { ours = record { me = h.ours.me; fit = h.ours.fit; guest = h.ours.guest; cells = h.ours.cells; order = h.ours.order; commits = h.ours.commits; copy = h.ours.copy; letters = h.ours.letters }; yours = record { me = h.yours.me; fit = h.yours.fit; guest = h.yours.guest; cells = h.yours.cells; order = h.yours.order; commits = h.yours.commits; copy = h.yours.copy; letters = λ k i. elim (f k i) [ inl j ↦ h.yours.letters k j | inr q ↦ subst (λ k. Legit m k o n (flip u)) (sym q) g ] } }

-- WHICH LETTERS MAY BE SENT
kinds : {A : Type 0} {k : ℕ} (i j : ℕ) → k ≡ i → (i ≡ j → ⊥) → k ≡ j → A
kinds i j a ne b = absurd (ne (sym a ∙ b))

-- a Page: place base + k of the window, with the words of its page unless that was touched since
pub page_legit : {m : ℕ} {x y : List (List ℕ)} {n o : Node} {u : View} (l : List ℕ) (c : Transfer) (k : ℕ) → moving n.state ≡ Some c → kind_of l ≡ 2 → attempt_of l ≡ c.attempt → k < length c.window.pages → place_of l ≡ c.window.base + k → page_of l ≡ slot c k → (u.mine.touched (page_of l) ≡ false → words_of l ≡ u.mine.page (page_of l)) → Both m x y n o u → Legit m l o n (flip u)
page_legit {m = m} {n = n} {o = o} {u = u} l c k e kd at lt pl pg ws h =
    record { probe = kinds 2 1 kd (λ z. omega arith); page = λ _. record { own = ap (λ z. z % 2) at ∙ ca.own; some = omega (arith, ca.done); begun = omega (arith, ca.attempt) }; commit = kinds 2 3 kd (λ z. omega arith); ack = kinds 2 4 kd (λ z. omega arith); refuse = kinds 2 5 kd (λ z. omega arith); taken = kinds 2 6 kd (λ z. omega arith); place = λ _. omega (arith, ca.most); given = λ _ r f a b d. absurd (omega (arith, ca.done, ca.attempt)); bears = λ _ d f a. subst (λ d. Bears l d o (flip u)) (same_Some _ _ (sym e ∙ f)) (record { high = omega arith; slot = λ _. ap (slot c) (idx (place_of l) pl) ∙ sym pg; soon = λ _ _ t. ws t; now = λ _ _ _ _ _ t. ws t }); acked = kinds 2 4 kd (λ z. omega arith) }
  where
    ca : Carries m c o u
    ca = h.ours.copy.carries c e

    idx : (p : ℕ) → p ≡ c.window.base + k → p - c.window.base ≡ k
    idx p q = omega arith

pub probe_legit : {m : ℕ} {x y : List (List ℕ)} {n o : Node} {u : View} (l : List ℕ) (c : Transfer) → moving n.state ≡ Some c → kind_of l ≡ 1 → attempt_of l ≡ c.attempt → Both m x y n o u → Legit m l o n (flip u)
probe_legit {m = m} {n = n} {o = o} {u = u} l c e kd at h =
    record { probe = λ _. record { own = ap (λ z. z % 2) at ∙ ca.own; some = omega (arith, ca.done); begun = omega (arith, ca.attempt) }; page = kinds 1 2 kd (λ z. omega arith); commit = kinds 1 3 kd (λ z. omega arith); ack = kinds 1 4 kd (λ z. omega arith); refuse = kinds 1 5 kd (λ z. omega arith); taken = kinds 1 6 kd (λ z. omega arith); place = kinds 1 2 kd (λ z. omega arith); given = kinds 1 2 kd (λ z. omega arith); bears = kinds 1 2 kd (λ z. omega arith); acked = kinds 1 4 kd (λ z. omega arith) }
  where
    ca : Carries m c o u
    ca = h.ours.copy.carries c e

pub commit_legit : {m : ℕ} {x y : List (List ℕ)} {n o : Node} {u : View} (l : List ℕ) (z : Commitment) → n.state ≡ Committed z → kind_of l ≡ 3 → attempt_of l ≡ z.attempt → Both m x y n o u → Legit m l o n (flip u)
commit_legit {m = m} {n = n} {o = o} {u = u} l z e kd at h =
    let w = h.ours.cells.committed z e in
    record { probe = kinds 3 1 kd (λ z. omega arith); page = kinds 3 2 kd (λ z. omega arith); commit = λ _. record { own = ap (λ z. z % 2) (at ∙ w.0 ∙ sym w.1) ∙ h.ours.cells.parity (omega arith); some = omega arith; done = omega arith; past = λ q. absurd (omega arith) }; ack = kinds 3 4 kd (λ z. omega arith); refuse = kinds 3 5 kd (λ z. omega arith); taken = kinds 3 6 kd (λ z. omega arith); place = kinds 3 2 kd (λ z. omega arith); given = kinds 3 2 kd (λ z. omega arith); bears = kinds 3 2 kd (λ z. omega arith); acked = kinds 3 4 kd (λ z. omega arith) }

pub ack_legit : {m : ℕ} {x y : List (List ℕ)} {n o : Node} {u : View} (l : List ℕ) (r : Reception) → n.state ≡ Receiving r → kind_of l ≡ 4 → attempt_of l ≡ r.attempt → place_of l ≡ r.next → Both m x y n o u → Legit m l o n (flip u)
ack_legit {m = m} {n = n} {o = o} {u = u} l r e kd at pl h =
    let w = h.ours.cells.receiving r e in
    record { probe = kinds 4 1 kd (λ z. omega arith); page = kinds 4 2 kd (λ z. omega arith); commit = kinds 4 3 kd (λ z. omega arith); ack = λ _. record { own = ap (λ z. z % 2) at ∙ w.1; begun = omega arith }; refuse = kinds 4 5 kd (λ z. omega arith); taken = kinds 4 6 kd (λ z. omega arith); place = kinds 4 2 kd (λ z. omega arith); given = kinds 4 2 kd (λ z. omega arith); bears = kinds 4 2 kd (λ z. omega arith); acked = λ _ c f a s j b. let q = ap (λ z. z.next) (receiving_same (sym e ∙ j)) in omega arith }

-- Refuse: an attempt of the other's that is begun, neither received nor taken here
pub refuse_legit : {m : ℕ} {x y : List (List ℕ)} {n o : Node} {u : View} (l : List ℕ) → kind_of l ≡ 5 → attempt_of l % 2 ≡ u.you → attempt_of l ≤ u.mine.cell 1 → NotReceiving (attempt_of l) n → u.mine.cell 0 < attempt_of l → Both m x y n o u → Legit m l o n (flip u)
refuse_legit {m = m} {n = n} {o = o} {u = u} l kd own le ne lt h =
    record { probe = kinds 5 1 kd (λ z. omega arith); page = kinds 5 2 kd (λ z. omega arith); commit = kinds 5 3 kd (λ z. omega arith); ack = kinds 5 4 kd (λ z. omega arith); refuse = λ _. record { own = own; begun = le; dead = λ _. ne; untaken = λ _. lt }; taken = kinds 5 6 kd (λ z. omega arith); place = kinds 5 2 kd (λ z. omega arith); given = kinds 5 2 kd (λ z. omega arith); bears = kinds 5 2 kd (λ z. omega arith); acked = kinds 5 4 kd (λ z. omega arith) }

pub taken_legit : {m : ℕ} {x y : List (List ℕ)} {n o : Node} {u : View} (l : List ℕ) → kind_of l ≡ 6 → attempt_of l % 2 ≡ u.you → attempt_of l ≤ u.mine.cell 0 → Both m x y n o u → Legit m l o n (flip u)
taken_legit {m = m} {n = n} {o = o} {u = u} l kd own le h =
    record { probe = kinds 6 1 kd (λ z. omega arith); page = kinds 6 2 kd (λ z. omega arith); commit = kinds 6 3 kd (λ z. omega arith); ack = kinds 6 4 kd (λ z. omega arith); refuse = kinds 6 5 kd (λ z. omega arith); taken = λ _. record { own = own; took = le }; place = kinds 6 2 kd (λ z. omega arith); given = kinds 6 2 kd (λ z. omega arith); bears = kinds 6 2 kd (λ z. omega arith); acked = kinds 6 4 kd (λ z. omega arith) }

-- A STATE WITH NO CLAIMS: after Taken(t), or Refuse(t) where it fell since, in Committed
pub let_go : {m : ℕ} {x y : List (List ℕ)} {n o : Node} {u : View} (l : List ℕ) (z : Commitment) → In l x u.mine → n.state ≡ Committed z → attempt_of l ≡ z.attempt → (kind_of l ≡ 6) ⊎ ((kind_of l ≡ 5) × (z.mine ≡ false)) → Both m x y n o u → Both m x y (on_state Away n) o u
let_go {m = m} {x = x} {n = n} {o = o} {u = u} l z i e at kd h =
    record { ours = record { me = h.ours.me; fit = h.ours.fit; guest = record { told = h.ours.guest.told; runner = λ a b. ap runner (sym e) ∙ h.ours.guest.runner a b; keeper = λ a b c d. keeps a b c d; running = λ x f. clash f tt; copying = λ x f. clash f tt; paused = λ x f. clash f tt; committed = λ x f. clash f tt; receiving = λ x f. clash f tt }; cells = record { copies = h.ours.cells.copies; asleep = λ _. refl; took = h.ours.cells.took; done = h.ours.cells.done; parity = h.ours.cells.parity; most = h.ours.cells.most; committed = λ x f. clash f tt; receiving = λ x f. clash f tt }; order = h.ours.order; commits = h.ours.commits; copy = record { carries = λ c f. none_some f; below = λ x f. clash f tt }; letters = λ l i. mine l (h.ours.letters l i) }; yours = record { me = h.yours.me; fit = h.yours.fit; guest = h.yours.guest; cells = h.yours.cells; order = h.yours.order; commits = λ s f. clash f tt; copy = record { carries = λ c f. let w = h.yours.copy.carries c f in record { attempt = w.attempt; own = w.own; done = w.done; took = w.took; most = w.most; ways = w.ways; base = w.base; every = w.every; under = λ r j. clash j tt }; below = h.yours.copy.below }; letters = λ l i. theirs l (h.yours.letters l i) } }
  where
    -- it stands elsewhere, by `untaken`, or it's hurt
    keeps : u.runs ≡ false → u.lost ≡ false → u.hurt ≡ false → u.here ≡ true → false ≡ true
    keeps a b c d = elim kd [ inl k ↦ taken k | inr k ↦ sym k.1 ∙ ap keeper (sym e) ∙ h.ours.guest.keeper a b c d ]
      where
        taken : kind_of l ≡ 6 → false ≡ true
        taken k =
            let w = ((h.ours.letters l i).taken k).took in
            let v = h.ours.cells.committed z e in
            let q = h.ours.order.untaken d (omega arith) v.1 in
            absurd (omega arith)

    mine : (l : List ℕ) → Legit m l n o u → Legit m l (on_state Away n) o u
    mine l g =
        record { probe = g.probe; page = g.page; commit = λ i. record { own = (g.commit i).own; some = (g.commit i).some; done = (g.commit i).done; past = λ _ r f. clash f tt }; ack = g.ack; refuse = g.refuse; taken = g.taken; place = g.place; given = λ i r f. clash f tt; bears = λ i c f d. let b = g.bears i c f d in record { high = b.high; slot = b.slot; soon = b.soon; now = λ s j. clash j tt }; acked = λ i c f. none_some f }

    theirs : (l : List ℕ) → Legit m l o n (flip u) → Legit m l o (on_state Away n) (flip u)
    theirs l k =
        record { probe = k.probe; page = k.page; commit = k.commit; ack = k.ack; refuse = λ i. record { own = (k.refuse i).own; begun = (k.refuse i).begun; dead = λ _ r f. clash f tt; untaken = (k.refuse i).untaken }; taken = k.taken; place = k.place; given = k.given; bears = λ i c f. none_some f; acked = λ i c f d s j. clash j tt }

-- TOLD
abbrev pub hear : Bool → Host → Host
hear b h = host_of h.page h.touched h.cell b h.row h.old

pub untold : {m : ℕ} {x y : List (List ℕ)} {n o : Node} {u : View} → u.mine.told ≡ false → Both m x y n o u → Both m x y n o (on_mine (hear false u.mine) u)
untold {m = m} {x = x} {y = y} {n = n} {o = o} {u = u} e h = subst (λ b. Both m x y n o (on_mine (hear b u.mine) u)) e h

pub told_it : {m : ℕ} {x y : List (List ℕ)} {n o : Node} {u : View} (z : Run) → n.state ≡ Running z → u.mine.told ≡ true → Both m x y n o u → Both m x y (on_state (Running (record { wanted = true })) n) o (on_mine (hear false u.mine) u)
told_it {m = m} {x = x} {n = n} {o = o} {u = u} z e t h =
    let g = h.ours.guest.running z e in
    record { ours = record { me = h.ours.me; fit = h.ours.fit; guest = record { told = λ a. no a refl; runner = λ _ _. refl; keeper = λ a. no g.runs a; running = λ y f. subst (λ y. Runs y.wanted (on_mine (hear false u.mine) u)) (running_same f) (record { runs = g.runs; here = g.here; wanted = λ _. ((h.ours.guest.told t).2, refl); idle = λ a. no refl a }); copying = λ x f. clash f tt; paused = λ x f. clash f tt; committed = λ x f. clash f tt; receiving = λ x f. clash f tt }; cells = record { copies = h.ours.cells.copies; asleep = λ a. clash (sym (h.ours.cells.asleep a) ∙ e) tt; took = h.ours.cells.took; done = h.ours.cells.done; parity = h.ours.cells.parity; most = h.ours.cells.most; committed = λ x f. clash f tt; receiving = λ x f. clash f tt }; order = h.ours.order; commits = h.ours.commits; copy = record { carries = λ c f. none_some f; below = λ x f. clash f tt }; letters = λ l i. mine l (h.ours.letters l i) }; yours = record { me = h.yours.me; fit = h.yours.fit; guest = h.yours.guest; cells = h.yours.cells; order = h.yours.order; commits = λ s f. clash f tt; copy = record { carries = λ c f. no (mover c h.yours f).0 (ap not g.here); below = h.yours.copy.below }; letters = λ l i. theirs l (h.yours.letters l i) } }
  where
    mine : (l : List ℕ) → Legit m l n o u → Legit m l (on_state (Running (record { wanted = true })) n) o (on_mine (hear false u.mine) u)
    mine l g =
        record { probe = g.probe; page = g.page; commit = λ i. record { own = (g.commit i).own; some = (g.commit i).some; done = (g.commit i).done; past = λ _ r f. clash f tt }; ack = g.ack; refuse = g.refuse; taken = g.taken; place = g.place; given = λ i r f. clash f tt; bears = λ i c f d. let b = g.bears i c f d in record { high = b.high; slot = b.slot; soon = b.soon; now = λ s j. clash j tt }; acked = λ i c f. none_some f }

    theirs : (l : List ℕ) → Legit m l o n (flip u) → Legit m l o (on_state (Running (record { wanted = true })) n) (flip (on_mine (hear false u.mine) u))
    theirs l k =
        record { probe = k.probe; page = k.page; commit = k.commit; ack = k.ack; refuse = λ i. record { own = (k.refuse i).own; begun = (k.refuse i).begun; dead = λ _ r f. clash f tt; untaken = (k.refuse i).untaken }; taken = k.taken; place = k.place; given = k.given; bears = λ i c f. none_some f; acked = λ i c f d s j. clash j tt }

-- AWAKE: the cells were read
abbrev pub wakes : ℕ → ℕ → ℕ → State → Node → Node
wakes a b c s n = record { me = n.me; awake = true; took = a; top = b; committed = c; asked = n.asked; state = s }

pub woke : {m : ℕ} {x y : List (List ℕ)} {n o : Node} {u : View} (a b c : ℕ) → a ≡ u.mine.cell 0 → b ≡ u.mine.cell 1 → c ≡ u.mine.cell 2 → Both m x y n o u → Both m x y (wakes a b c n.state n) o u
woke a b c p q r h =
    record { ours = record { me = h.ours.me; fit = h.ours.fit; guest = h.ours.guest; cells = record { copies = λ _. (p, q, r); asleep = λ a. no refl a; took = h.ours.cells.took; done = h.ours.cells.done; parity = h.ours.cells.parity; most = h.ours.cells.most; committed = h.ours.cells.committed; receiving = h.ours.cells.receiving }; order = h.ours.order; commits = h.ours.commits; copy = h.ours.copy; letters = h.ours.letters }; yours = record { me = h.yours.me; fit = h.yours.fit; guest = h.yours.guest; cells = h.yours.cells; order = h.yours.order; commits = h.yours.commits; copy = h.yours.copy; letters = h.yours.letters } }

-- it has committed its last attempt, and says it again
pub woke_committed : {m : ℕ} {x y : List (List ℕ)} {n o : Node} {u : View} (z : Commitment) → n.state ≡ Away → n.awake ≡ true → z.mine ≡ false → z.attempt ≡ u.mine.cell 1 → u.mine.cell 2 ≡ u.mine.cell 1 → 0 < z.attempt → Both m x y n o u → Both m x y (on_state (Committed z) n) o u
woke_committed {m = m} {x = x} {n = n} {o = o} {u = u} z e aw mi at co gt h =
    record { ours = record { me = h.ours.me; fit = h.ours.fit; guest = record { told = h.ours.guest.told; runner = λ a b. ap runner (sym e) ∙ h.ours.guest.runner a b; keeper = λ a b c d. no (ap keeper (sym e) ∙ h.ours.guest.keeper a b c d) refl; running = λ x f. clash f tt; copying = λ x f. clash f tt; paused = λ x f. clash f tt; committed = λ y f a. no a (sym (ap (λ z. z.mine) (committed_same f)) ∙ mi); receiving = λ x f. clash f tt }; cells = record { copies = h.ours.cells.copies; asleep = λ a. no aw a; took = h.ours.cells.took; done = h.ours.cells.done; parity = h.ours.cells.parity; most = h.ours.cells.most; committed = λ y f. subst (λ y. (y.attempt ≡ u.mine.cell 1) × (u.mine.cell 2 ≡ u.mine.cell 1) × (0 < y.attempt)) (committed_same f) (at, co, gt); receiving = λ x f. clash f tt }; order = h.ours.order; commits = h.ours.commits; copy = record { carries = λ c f. none_some f; below = λ x f. clash f tt }; letters = λ l i. mine l (h.ours.letters l i) }; yours = record { me = h.yours.me; fit = h.yours.fit; guest = h.yours.guest; cells = h.yours.cells; order = h.yours.order; commits = λ s f. clash f tt; copy = record { carries = λ c f. let w = h.yours.copy.carries c f in record { attempt = w.attempt; own = w.own; done = w.done; took = w.took; most = w.most; ways = w.ways; base = w.base; every = w.every; under = λ r j. clash j tt }; below = h.yours.copy.below }; letters = λ l i. theirs l (h.yours.letters l i) } }
  where
    mine : (l : List ℕ) → Legit m l n o u → Legit m l (on_state (Committed z) n) o u
    mine l g =
        record { probe = g.probe; page = g.page; commit = λ i. record { own = (g.commit i).own; some = (g.commit i).some; done = (g.commit i).done; past = λ _ r f. clash f tt }; ack = g.ack; refuse = g.refuse; taken = g.taken; place = g.place; given = λ i r f. clash f tt; bears = λ i c f d. let b = g.bears i c f d in record { high = b.high; slot = b.slot; soon = b.soon; now = λ s j. clash j tt }; acked = λ i c f. none_some f }

    theirs : (l : List ℕ) → Legit m l o n (flip u) → Legit m l o (on_state (Committed z) n) (flip u)
    theirs l k =
        record { probe = k.probe; page = k.page; commit = k.commit; ack = k.ack; refuse = λ i. record { own = (k.refuse i).own; begun = (k.refuse i).begun; dead = λ _ r f. clash f tt; untaken = (k.refuse i).untaken }; taken = k.taken; place = k.place; given = k.given; bears = λ i c f. none_some f; acked = λ i c f d s j. clash j tt }

-- SOMEBODY WANTS IT MOVED
abbrev pub wished : View → View
wished u = on_guest u.runs u.here u.lost u.truth u.hurt true u

pub asked_here : {m : ℕ} {x y : List (List ℕ)} {n o : Node} {u : View} → u.runs ≡ true → u.here ≡ true → u.wish ≡ false → Both m x y n o u → Both m x y n o (on_mine (hear true u.mine) (wished u))
asked_here {u = u} r e w h =
    record { ours = record { me = h.ours.me; fit = h.ours.fit; guest = record { told = λ _. (r, e, refl); runner = h.ours.guest.runner; keeper = h.ours.guest.keeper; running = λ z f. record { runs = r; here = e; wanted = λ a. no ((h.ours.guest.running z f).wanted a).0 w; idle = λ _ _. refl }; copying = λ c f. no (h.ours.guest.copying c f).wish w; paused = λ z f. no r (h.ours.guest.paused z f).runs; committed = λ z f a b. no r (h.ours.guest.committed z f a b).runs; receiving = h.ours.guest.receiving }; cells = h.ours.cells; order = h.ours.order; commits = λ s f a b. no r (h.ours.commits s f a b).runs; copy = h.ours.copy; letters = h.ours.letters }; yours = record { me = h.yours.me; fit = h.yours.fit; guest = record { told = λ a. no (h.yours.guest.told a).1 (ap not e); runner = h.yours.guest.runner; keeper = h.yours.guest.keeper; running = λ z f. no (h.yours.guest.running z f).here (ap not e); copying = λ z f. no (h.yours.guest.copying z f).here (ap not e); paused = λ z f. no r (h.yours.guest.paused z f).runs; committed = λ z f a b. no r (h.yours.guest.committed z f a b).runs; receiving = h.yours.guest.receiving }; cells = h.yours.cells; order = h.yours.order; commits = λ s f a b. no r (h.yours.commits s f a b).runs; copy = h.yours.copy; letters = h.yours.letters } }

pub asked_there : {m : ℕ} {x y : List (List ℕ)} {n o : Node} {u : View} → u.runs ≡ true → u.here ≡ false → u.wish ≡ false → Both m x y n o u → Both m x y n o (on_theirs (hear true u.theirs) (wished u))
asked_there r e w h = both_back (asked_here r (ap not e) w (both_swap h))

-- its turns are counted
abbrev pub recommit : Commitment → ℕ → Commitment
recommit z t = record { attempt = z.attempt; mine = z.mine; turns = t }

pub recount_committed : {m : ℕ} {x y : List (List ℕ)} {n o : Node} {u : View} (z : Commitment) (t : ℕ) → n.state ≡ Committed z → Both m x y n o u → Both m x y (on_state (Committed (recommit z t)) n) o u
recount_committed {m = m} {x = x} {n = n} {o = o} {u = u} z t e h =
    record { ours = record { me = h.ours.me; fit = h.ours.fit; guest = record { told = h.ours.guest.told; runner = λ a b. ap runner (sym e) ∙ h.ours.guest.runner a b; keeper = λ a b c d. ap keeper (sym e) ∙ h.ours.guest.keeper a b c d; running = λ x f. clash f tt; copying = λ x f. clash f tt; paused = λ x f. clash f tt; committed = λ y f a. h.ours.guest.committed z e (ap (λ z. z.mine) (committed_same f) ∙ a); receiving = λ x f. clash f tt }; cells = record { copies = h.ours.cells.copies; asleep = λ a. clash (sym (h.ours.cells.asleep a) ∙ e) tt; took = h.ours.cells.took; done = h.ours.cells.done; parity = h.ours.cells.parity; most = h.ours.cells.most; committed = λ y f. subst (λ y. (y.attempt ≡ u.mine.cell 1) × (u.mine.cell 2 ≡ u.mine.cell 1) × (0 < y.attempt)) (committed_same f) (h.ours.cells.committed z e); receiving = λ x f. clash f tt }; order = h.ours.order; commits = h.ours.commits; copy = record { carries = λ c f. none_some f; below = λ x f. clash f tt }; letters = λ l i. mine l (h.ours.letters l i) }; yours = record { me = h.yours.me; fit = h.yours.fit; guest = h.yours.guest; cells = h.yours.cells; order = h.yours.order; commits = λ s f. clash f tt; copy = record { carries = λ c f. let w = h.yours.copy.carries c f in record { attempt = w.attempt; own = w.own; done = w.done; took = w.took; most = w.most; ways = w.ways; base = w.base; every = w.every; under = λ r j. clash j tt }; below = h.yours.copy.below }; letters = λ l i. theirs l (h.yours.letters l i) } }
  where
    mine : (l : List ℕ) → Legit m l n o u → Legit m l (on_state (Committed (recommit z t)) n) o u
    mine l g =
        record { probe = g.probe; page = g.page; commit = λ i. record { own = (g.commit i).own; some = (g.commit i).some; done = (g.commit i).done; past = λ _ r f. clash f tt }; ack = g.ack; refuse = g.refuse; taken = g.taken; place = g.place; given = λ i r f. clash f tt; bears = λ i c f d. let b = g.bears i c f d in record { high = b.high; slot = b.slot; soon = b.soon; now = λ s j. clash j tt }; acked = λ i c f. none_some f }

    theirs : (l : List ℕ) → Legit m l o n (flip u) → Legit m l o (on_state (Committed (recommit z t)) n) (flip u)
    theirs l k =
        record { probe = k.probe; page = k.page; commit = k.commit; ack = k.ack; refuse = λ i. record { own = (k.refuse i).own; begun = (k.refuse i).begun; dead = λ _ r f. clash f tt; untaken = (k.refuse i).untaken }; taken = k.taken; place = k.place; given = k.given; bears = λ i c f. none_some f; acked = λ i c f d s j. clash j tt }
