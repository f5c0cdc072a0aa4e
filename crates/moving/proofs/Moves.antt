-- What is done keeps both sides right, at what a host sees.
-- Assumes nothing.
use Rattle.std.proofs.Common.{◌≡◌, ℕ, ◌+◌, ◌-◌, ◌%◌, ◌<◌, ◌≤◌, Bool, true, false, cond, not, ◌&&◌, ◌||◌, T, eqb, ◌⊎◌, List, [], Some, None, sym, refl, ap, ◌∙◌, subst, ap₂, inl, inr, arith, eq-eqb, eqb-true, length}
use Rattle.moving.specs.Acted.{commits}
use Rattle.std.proofs.lemmas.Bool.{and_parts, or_parts}
use Rattle.std.proofs.lemmas.Option.{same_Some, none-some}
use borrow.Author.Tests.{both_ways, not-true, eqb-false}
use Rattle.moving.specs.declared.Node.{Node}
use Rattle.moving.specs.declared.state.Transfer.{Transfer}
use Rattle.moving.specs.declared.state.Receiving.{Receiving as Reception}
use Rattle.moving.specs.declared.state.Running.{Running as Run}
use Rattle.moving.specs.declared.state.Paused.{Paused as Pause}
use Rattle.moving.specs.declared.state.Committed.{Committed as Commitment}
use Rattle.moving.specs.declared.state.State.{State}
use Rattle.moving.specs.declared.state.State.TheVariants.{Away, Receiving, Running, Copying, Paused, Committed}
use Rattle.moving.specs.Hosts.{Host, put, host_of}
use Rattle.moving.specs.Model.{moving, on_state, on_top, runs_again}
use Rattle.moving.specs.Invariant.{View, flip, kind_of, attempt_of, place_of, page_of, words_of, unsent, slot, Flies, NotReceiving, Stands, Runs, Guest, Given, Under, Carries, Bears, From, Legit, In, Side, Both, fresh}
use Rattle.moving.proofs.Views.{both_swap, both_back}

pub no : {A : Type 0} {b : Bool} → b ≡ true → b ≡ false → A
no {b = b} p q = absurd (both_ways b q p)

-- STATES
abbrev tag : State → ℕ
tag Away = 0
tag (Receiving r) = 1
tag (Running r) = 2
tag (Copying c) = 3
tag (Paused x) = 4
tag (Committed x) = 5

pub clash : {A : Type 0} {s t : State} → s ≡ t → T (not (eqb (tag s) (tag t))) → A
clash {s = s} {t = t} e d =
    absurd (subst (λ b. T (not b)) (eq-eqb (tag s) (tag s) refl) (subst (λ z. T (not (eqb (tag s) (tag z)))) (sym e) d))

pub none_some : {A B : Type 0} {x : B} → None ≡ Some x → A
none_some {x = x} e = absurd (none-some x e)

pub receiving_same : {r s : Reception} → Receiving r ≡ Receiving s → r ≡ s
receiving_same e = cc

-- what moves it has it
pub mover : {m : ℕ} {x : List (List ℕ)} {n o : Node} {u : View} (c : Transfer) → Side m x n o u → moving n.state ≡ Some c → (u.here ≡ true) × (u.wish ≡ true) × (u.mine.told ≡ false)
mover {n = n} {u = u} c h e = go n.state refl e
  where
    go : (s : State) → n.state ≡ s → moving s ≡ Some c → (u.here ≡ true) × (u.wish ≡ true) × (u.mine.told ≡ false)
    go Away q f = none_some f
    go (Receiving r) q f = none_some f
    go (Running r) q f = none_some f
    go (Copying d) q f = let x = h.guest.copying d q in (x.here, x.wish, x.told)
    go (Paused d) q f = let x = h.guest.paused d q in (x.here, x.wish, x.told)
    go (Committed d) q f = none_some f

-- WHAT CHANGES, AS A HOST SEES IT
abbrev pub on_mine : Host → View → View
on_mine h u =
    record { me = u.me; you = u.you; mine = h; theirs = u.theirs; here = u.here; pages = u.pages; runs = u.runs; lost = u.lost; truth = u.truth; hurt = u.hurt; wish = u.wish }

abbrev pub on_theirs : Host → View → View
on_theirs h u =
    record { me = u.me; you = u.you; mine = u.mine; theirs = h; here = u.here; pages = u.pages; runs = u.runs; lost = u.lost; truth = u.truth; hurt = u.hurt; wish = u.wish }

abbrev pub on_guest : (runs here lost : Bool) → (ℕ → List ℕ) → (hurt wish : Bool) → View → View
on_guest r e l t h s u =
    record { me = u.me; you = u.you; mine = u.mine; theirs = u.theirs; here = e; pages = u.pages; runs = r; lost = l; truth = t; hurt = h; wish = s }

abbrev pub page_at : ℕ → List ℕ → Host → Host
page_at p ws h = host_of (put p ws h.page) (put p true h.touched) h.cell h.told h.row h.old

abbrev pub dropped : (ℕ → List ℕ) → (ℕ → Bool) → Host → Host
dropped page touched h = host_of page touched h.cell false h.row h.old

-- WRITES OF THE GUEST
-- a page that isn't touched after isn't the one that was written
pub other_one : {A : Type 0} (p q : ℕ) (y : A) (f : ℕ → A) (t : ℕ → Bool) → put p true t q ≡ false → (t q ≡ false) × (put p y f q ≡ f q)
other_one p q y f t = go (eqb q p)
  where
    go : (b : Bool) → cond b true (t q) ≡ false → (t q ≡ false) × (cond b y (f q) ≡ f q)
    go true e = no refl e
    go false e = (e, refl)

pub wrote_here : {m : ℕ} {x y : List (List ℕ)} {n o : Node} {u : View} (p : ℕ) (ws : List ℕ) → u.runs ≡ true → u.here ≡ true → Both m x y n o u → Both m x y n o (on_mine (page_at p ws u.mine) u)
wrote_here {m = m} {n = n} {o = o} {u = u} p ws r e h =
    record { ours = record { me = h.ours.me; fit = h.ours.fit; guest = record { told = a.told; runner = a.runner; keeper = a.keeper; running = a.running; copying = a.copying; paused = λ x f. no r (a.paused x f).runs; committed = λ x f k l. no r (a.committed x f k l).runs; receiving = a.receiving }; cells = h.ours.cells; order = h.ours.order; commits = h.ours.commits; copy = record { carries = carries; below = λ x f. no r (a.paused x f).runs }; letters = h.ours.letters }; yours = record { me = h.yours.me; fit = h.yours.fit; guest = h.yours.guest; cells = h.yours.cells; order = h.yours.order; commits = λ s f k l. no r (h.yours.commits s f k l).runs; copy = record { carries = λ c f. no (mover c h.yours f).0 (ap not e); below = h.yours.copy.below }; letters = λ l i. legit l (h.yours.letters l i) } }
  where
    a : Guest n u
    a = h.ours.guest

    carries : (c : Transfer) → moving n.state ≡ Some c → Carries m c o (on_mine (page_at p ws u.mine) u)
    carries c f =
        let k : Carries m c o u = h.ours.copy.carries c f in
        record { attempt = k.attempt; own = k.own; done = k.done; took = k.took; most = k.most; ways = k.ways; base = k.base; every = k.every; under = λ s g i. record { low = (k.under s g i).low; high = (k.under s g i).high; same = λ q l v t nf. let z = other_one p q ws u.mine.page u.mine.touched t in (k.under s g i).same q l v z.0 nf ∙ sym z.1 } }

    legit : (l : List ℕ) → Legit m l o n (flip u) → Legit m l o n (flip (on_mine (page_at p ws u.mine) u))
    legit l k =
        record { probe = k.probe; page = k.page; commit = k.commit; ack = k.ack; refuse = k.refuse; taken = k.taken; place = k.place; given = k.given; bears = λ i c f g. let b : Bears l c o (flip u) = k.bears i c f g in record { high = b.high; slot = b.slot; soon = λ j v t. let z = other_one p (page_of l) ws u.mine.page u.mine.touched t in b.soon j v z.0 ∙ sym z.1; now = λ s d j w v t. let z = other_one p (page_of l) ws u.mine.page u.mine.touched t in b.now s d j w v z.0 ∙ sym z.1 }; acked = k.acked }

pub wrote_there : {m : ℕ} {x y : List (List ℕ)} {n o : Node} {u : View} (p : ℕ) (ws : List ℕ) → u.runs ≡ true → u.here ≡ false → Both m x y n o u → Both m x y n o (on_theirs (page_at p ws u.theirs) u)
wrote_there p ws r e h = both_back (wrote_here p ws r (ap not e) (both_swap h))

-- A FALL
abbrev pub fallen : (ℕ → List ℕ) → (ℕ → Bool) → View → View
fallen page touched u =
    on_mine (dropped page touched u.mine) (on_guest (u.runs && not u.here) u.here (u.lost || (u.runs && u.here)) u.truth (u.hurt || u.here) u.wish u)

and_un : (a b : Bool) → (a && b) ≡ false → b ≡ true → a ≡ false
and_un true true e f = no refl e
and_un true false e f = no f refl
and_un false b e f = refl

and_not : (a b : Bool) → (a && not b) ≡ true → b ≡ false
and_not true true e = no e refl
and_not true false e = refl
and_not false b e = no e refl

still_lost : (r e l : Bool) → (r ≡ true → l ≡ false) → (r && not e) ≡ true → (l || (r && e)) ≡ false
still_lost true true l f g = no g refl
still_lost true false l f g = ap (λ z. z || false) (f refl)
still_lost false e l f g = no g refl

with_hand : {l : List ℕ} {x : List (List ℕ)} (h : Host) → In l [] h → In l x h
with_hand h (inl i) = elim i [ ]
with_hand h (inr i) = inr i

pub fell : {m : ℕ} {x y : List (List ℕ)} {n o : Node} {u : View} (page : ℕ → List ℕ) (touched : ℕ → Bool) → Both m x y n o u → Both m [] y (fresh u.me false) o (fallen page touched u)
fell {m = m} {x = x} {n = n} {o = o} {u = u} page touched h =
    record { ours = record { me = refl; fit = record { sides = h.ours.fit.sides; some = h.ours.fit.some; few = h.ours.fit.few; lost = still_lost u.runs u.here u.lost h.ours.fit.lost }; guest = record { told = λ e. no e refl; runner = λ e f. no f (and_not u.runs u.here e); keeper = λ _ _ e f. no f (or_parts u.hurt u.here e).1; running = λ x f. clash f tt; copying = λ x f. clash f tt; paused = λ x f. clash f tt; committed = λ x f. clash f tt; receiving = λ x f. clash f tt }; cells = record { copies = λ e. no e refl; asleep = λ _. refl; took = h.ours.cells.took; done = h.ours.cells.done; parity = h.ours.cells.parity; most = h.ours.cells.most; committed = λ x f. clash f tt; receiving = λ x f. clash f tt }; order = h.ours.order; commits = λ r f a b. let g : Given u = h.ours.commits r f a b in record { runs = ap (λ z. z && not u.here) g.runs; lost = ap₂ (λ l z. l || (z && u.here)) g.lost g.runs; here = g.here; wish = g.wish; same = g.same }; copy = record { carries = λ c f. none_some f; below = λ x f. clash f tt }; letters = λ l i. mine l (h.ours.letters l (with_hand u.mine i)) }; yours = record { me = h.yours.me; fit = record { sides = h.yours.fit.sides; some = h.yours.fit.some; few = h.yours.fit.few; lost = still_lost u.runs u.here u.lost h.ours.fit.lost }; guest = record { told = λ e. let z = a.told e in (ap₂ (λ r b. r && b) z.0 z.1, z.1, z.2); runner = λ e f. a.runner (and_parts u.runs _ e).0 f; keeper = λ r l b f. a.keeper (and_un u.runs _ r f) (or_parts u.lost _ l).0 (or_parts u.hurt _ b).0 f; running = λ x f. let z = a.running x f in record { runs = ap₂ (λ r b. r && b) z.runs z.here; here = z.here; wanted = z.wanted; idle = z.idle }; copying = λ c f. let z = a.copying c f in record { runs = ap₂ (λ r b. r && b) z.runs z.here; here = z.here; wish = z.wish; told = z.told }; paused = λ x f. stands (a.paused x f); committed = λ x f k l. stands (a.committed x f k l); receiving = a.receiving }; cells = h.yours.cells; order = h.yours.order; commits = λ r f. clash f tt; copy = record { carries = λ c f. let k = h.yours.copy.carries c f in record { attempt = k.attempt; own = k.own; done = k.done; took = k.took; most = k.most; ways = k.ways; base = k.base; every = k.every; under = λ s g. clash g tt }; below = h.yours.copy.below }; letters = λ l i. theirs l (h.yours.letters l i) } }
  where
    a : Guest o (flip u)
    a = h.yours.guest

    stands : Stands (flip u) → Stands (flip (fallen page touched u))
    stands z =
        let away : u.here ≡ false = not-true u.here z.here in
        record { runs = ap (λ r. r && not u.here) z.runs; lost = ap₂ (λ l r. l || (r && u.here)) z.lost z.runs; hurt = ap₂ (λ l r. l || r) z.hurt away; here = z.here; wish = z.wish; told = z.told; same = z.same }

    mine : (l : List ℕ) → Legit m l n o u → Legit m l (fresh u.me false) o (fallen page touched u)
    mine l k =
        record { probe = k.probe; page = k.page; commit = λ i. record { own = (k.commit i).own; some = (k.commit i).some; done = (k.commit i).done; past = λ _ r f. clash f tt }; ack = k.ack; refuse = k.refuse; taken = k.taken; place = k.place; given = λ i r f. clash f tt; bears = λ i c f g. let b = k.bears i c f g in record { high = b.high; slot = b.slot; soon = b.soon; now = λ s d. clash d tt }; acked = λ i c f. none_some f }

    theirs : (l : List ℕ) → Legit m l o n (flip u) → Legit m l o (fresh u.me false) (flip (fallen page touched u))
    theirs l k =
        record { probe = k.probe; page = k.page; commit = k.commit; ack = k.ack; refuse = λ i. record { own = (k.refuse i).own; begun = (k.refuse i).begun; dead = λ _ r f. clash f tt; untaken = (k.refuse i).untaken }; taken = k.taken; place = k.place; given = k.given; bears = λ i c f. none_some f; acked = λ i c f g s d. clash d tt }

-- A PAGE IS PUT
abbrev pub put_at : ℕ → List ℕ → Host → Host
put_at p ws h = host_of (put p ws h.page) h.touched h.cell h.told h.row h.old

abbrev pub cell_at : ℕ → ℕ → Host → Host
cell_at c x h = host_of h.page h.touched (put c x h.cell) h.told h.row h.old

abbrev pub further : Reception → Reception
further r = record { attempt = r.attempt; next = r.next + 1 }

-- a page that isn't the one at place next
past_it : (c : Transfer) (l : List ℕ) (p next : ℕ) → place_of l ≡ next → c.window.base ≤ next → (c.window.base ≤ place_of l → slot c (place_of l - c.window.base) ≡ page_of l) → (p ≡ page_of l → ⊥) → Flies c p next → Flies c p (next + 1)
past_it c l p next pl b s ne z =
    let ne : c.window.base + z.0 ≡ next → ⊥ = λ q. let i : z.0 ≡ place_of l - c.window.base = omega arith in ne (sym z.2 ∙ ap (slot c) i ∙ s (omega arith)) in
    let w = z.3 in
    (z.0, z.1, z.2, omega arith)

pub page_put : {m : ℕ} {x y : List (List ℕ)} {n o : Node} {u : View} (l : List ℕ) (r : Reception) → In l x u.mine → kind_of l ≡ 2 → n.state ≡ Receiving r → attempt_of l ≡ r.attempt → place_of l ≡ r.next → Both m x y n o u → Both m x y (on_state (Receiving (further r)) n) o (on_mine (put_at (page_of l) (words_of l) u.mine) u)
page_put {m = m} {x = x} {n = n} {o = o} {u = u} l r i kd e at pl h =
    record { ours = record { me = h.ours.me; fit = h.ours.fit; guest = record { told = h.ours.guest.told; runner = λ _ b. no b away; keeper = λ _ _ _ b. no b away; running = λ x f. clash f tt; copying = λ x f. clash f tt; paused = λ x f. clash f tt; committed = λ x f. clash f tt; receiving = λ s f. away }; cells = record { copies = h.ours.cells.copies; asleep = λ a. clash (sym (h.ours.cells.asleep a) ∙ e) tt; took = h.ours.cells.took; done = h.ours.cells.done; parity = h.ours.cells.parity; most = h.ours.cells.most; committed = λ x f. clash f tt; receiving = λ s f. let z = h.ours.cells.receiving r e in let w = (h.ours.letters l i).place kd in subst (λ s. (s.attempt ≡ u.mine.cell 1) × (s.attempt % 2 ≡ u.you) × (s.next ≤ m)) (receiving_same f) (z.0, z.1, omega arith) }; order = h.ours.order; commits = h.ours.commits; copy = record { carries = λ c f. none_some f; below = λ x f. clash f tt }; letters = λ k j. mine k (h.ours.letters k j) }; yours = record { me = h.yours.me; fit = h.yours.fit; guest = h.yours.guest; cells = h.yours.cells; order = h.yours.order; commits = λ s f a b. let z = ap (λ z. z.attempt) (receiving_same f) in let w = (h.ours.letters l i).given kd r e (sym at) (at ∙ z ∙ a) b in absurd (omega arith); copy = record { carries = carries; below = h.yours.copy.below }; letters = λ k j. theirs k (h.yours.letters k j) } }
  where
    away : u.here ≡ false
    away = h.ours.guest.receiving r e

    mine : (k : List ℕ) → Legit m k n o u → Legit m k (on_state (Receiving (further r)) n) o (on_mine (put_at (page_of l) (words_of l) u.mine) u)
    mine k g =
        record { probe = g.probe; page = g.page; commit = λ i. record { own = (g.commit i).own; some = (g.commit i).some; done = (g.commit i).done; past = λ a s f b. (g.commit i).past a r e (ap (λ z. z.attempt) (receiving_same f) ∙ b) }; ack = g.ack; refuse = g.refuse; taken = g.taken; place = g.place; given = λ i s f a b c. let z = ap (λ z. z.next) (receiving_same f) in let w = g.given i r e (ap (λ z. z.attempt) (receiving_same f) ∙ a) b c in omega arith; bears = λ i c f d. let b = g.bears i c f d in record { high = b.high; slot = b.slot; soon = b.soon; now = λ s j a w v t. let z = ap (λ z. z.next) (receiving_same j) in b.now r e (ap (λ z. z.attempt) (receiving_same j) ∙ a) (omega arith) v t }; acked = λ i c f. none_some f }

    theirs : (k : List ℕ) → Legit m k o n (flip u) → Legit m k o (on_state (Receiving (further r)) n) (flip (on_mine (put_at (page_of l) (words_of l) u.mine) u))
    theirs k g =
        record { probe = g.probe; page = g.page; commit = g.commit; ack = g.ack; refuse = λ i. record { own = (g.refuse i).own; begun = (g.refuse i).begun; dead = λ a s f b. (g.refuse i).dead a r e (ap (λ z. z.attempt) (receiving_same f) ∙ b); untaken = (g.refuse i).untaken }; taken = g.taken; place = g.place; given = g.given; bears = λ i c f. none_some f; acked = λ i c f d s j a. let z = ap (λ z. z.next) (receiving_same j) in let w = g.acked i c f d r e (ap (λ z. z.attempt) (receiving_same j) ∙ a) in omega arith }

    under : (c : Transfer) → moving o.state ≡ Some c → (s : Reception) → further r ≡ s → r.attempt ≡ c.attempt → Under s.next c (flip (on_mine (put_at (page_of l) (words_of l) u.mine) u))
    under c f s q a =
        let k : Under r.next c (flip u) = (h.yours.copy.carries c f).under r e a in
        let b : Bears l c n u = (h.ours.letters l i).bears kd c f (at ∙ a) in
        subst (λ s. Under s.next c (flip (on_mine (put_at (page_of l) (words_of l) u.mine) u))) q
        (record { low = let z = k.low in omega arith; high = let z = b.high in omega arith; same = λ p w v t nf. at_page c a p (eqb p (page_of l)) refl k b w v t nf })
      where
        at_page : (c : Transfer) → r.attempt ≡ c.attempt → (p : ℕ) (d : Bool) → eqb p (page_of l) ≡ d → Under r.next c (flip u) → Bears l c n u → p < u.pages → unsent c p ≡ false → u.theirs.touched p ≡ false → (Flies c p (r.next + 1) → ⊥) → cond d (words_of l) (u.mine.page p) ≡ u.theirs.page p
        at_page c a p true q k b w v t nf =
            let z = eqb-true p (page_of l) q in
            b.now r e a (omega arith) (subst (λ z. unsent c z ≡ false) z v) (subst (λ z. u.theirs.touched z ≡ false) z t) ∙ ap u.theirs.page (sym z)
        at_page c a p false q k b w v t nf = k.same p w v t (λ z. nf (past_it c l p r.next pl k.low b.slot (eqb-false p (page_of l) q) z))

    carries : (c : Transfer) → moving o.state ≡ Some c → Carries m c (on_state (Receiving (further r)) n) (flip (on_mine (put_at (page_of l) (words_of l) u.mine) u))
    carries c f =
        let k : Carries m c n (flip u) = h.yours.copy.carries c f in
        record { attempt = k.attempt; own = k.own; done = k.done; took = k.took; most = k.most; ways = k.ways; base = k.base; every = k.every; under = λ s g a. under c f s (receiving_same g) (ap (λ z. z.attempt) (receiving_same g) ∙ a) }

-- COMMIT
pub committed_same : {a b : Commitment} → Committed a ≡ Committed b → a ≡ b
committed_same e = cc

pub commit_it : {m : ℕ} {x y : List (List ℕ)} {n o : Node} {u : View} (z : Pause) → n.state ≡ Paused z → length z.transfer.window.pages ≡ 0 → z.transfer.cursor ≡ u.pages → Both m x y n o u → Both m x y (commits z.transfer.attempt n) o (on_mine (cell_at 2 z.transfer.attempt u.mine) u)
commit_it {m = m} {x = x} {n = n} {o = o} {u = u} z e len cur h =
    record { ours = record { me = h.ours.me; fit = h.ours.fit; guest = record { told = h.ours.guest.told; runner = λ a b. no a st.runs; keeper = λ _ _ _ _. refl; running = λ x f. clash f tt; copying = λ x f. clash f tt; paused = λ x f. clash f tt; committed = λ y f a b. st; receiving = λ x f. clash f tt }; cells = record { copies = λ a. let w = h.ours.cells.copies a in (w.0, w.1, refl); asleep = λ a. clash (sym (h.ours.cells.asleep a) ∙ e) tt; took = h.ours.cells.took; done = let w = k.attempt in omega arith; parity = λ _. k.own; most = h.ours.cells.most; committed = λ y f. let w = k.done in subst (λ y. (y.attempt ≡ u.mine.cell 1) × (c.attempt ≡ u.mine.cell 1) × (0 < y.attempt)) (committed_same f) (k.attempt, k.attempt, omega arith); receiving = λ x f. clash f tt }; order = record { later = h.ours.order.later; had = h.ours.order.had; begun = begun; untaken = λ _ _ _. let w = k.took in let v = k.attempt in omega arith }; commits = λ r f a b. record { runs = st.runs; lost = st.lost; here = st.here; wish = st.wish; same = λ p l. let w = low p l in (k.under r f (a ∙ sym k.attempt)).same p l w.0 w.1 (λ q. none q) ∙ st.same p l }; copy = record { carries = λ c f. none_some f; below = λ x f. clash f tt }; letters = λ l i. mine l (h.ours.letters l i) }; yours = record { me = h.yours.me; fit = h.yours.fit; guest = h.yours.guest; cells = h.yours.cells; order = h.yours.order; commits = λ r f. clash f tt; copy = record { carries = λ d f. let w = h.yours.copy.carries d f in record { attempt = w.attempt; own = w.own; done = w.done; took = w.took; most = w.most; ways = w.ways; base = w.base; every = w.every; under = λ s g. clash g tt }; below = h.yours.copy.below }; letters = λ l i. theirs l (h.yours.letters l i) } }
  where
    c : Transfer
    c = z.transfer

    st : Stands u
    st = h.ours.guest.paused z e

    k : Carries m z.transfer o u
    k = h.ours.copy.carries z.transfer (ap moving e)

    none : {p s : ℕ} → Flies z.transfer p s → ⊥
    none q = let w = q.1 in omega arith

    low : (p : ℕ) → p < u.pages → (unsent z.transfer p ≡ false) × (u.mine.touched p ≡ false)
    low p l = h.ours.copy.below z e p (omega arith)

    begun : z.transfer.attempt ≤ u.theirs.cell 1
    begun =
        let some : 1 ≤ u.pages = h.ours.fit.some in
        let ne : u.theirs.cell 1 < z.transfer.attempt → ⊥ = λ w. none (k.every w 0 (omega arith) (low 0 (omega arith)).0) in
        omega arith

    mine : (l : List ℕ) → Legit m l n o u → Legit m l (commits z.transfer.attempt n) o (on_mine (cell_at 2 z.transfer.attempt u.mine) u)
    mine l g =
        record { probe = g.probe; page = g.page; commit = λ i. record { own = (g.commit i).own; some = (g.commit i).some; done = (g.commit i).done; past = λ _ r f. clash f tt }; ack = g.ack; refuse = g.refuse; taken = g.taken; place = g.place; given = λ i r f. clash f tt; bears = λ i c f d. let b = g.bears i c f d in record { high = b.high; slot = b.slot; soon = b.soon; now = λ s j. clash j tt }; acked = λ i c f. none_some f }

    theirs : (l : List ℕ) → Legit m l o n (flip u) → Legit m l o (commits z.transfer.attempt n) (flip (on_mine (cell_at 2 z.transfer.attempt u.mine) u))
    theirs l g =
        record { probe = g.probe; page = g.page; commit = λ i. record { own = (g.commit i).own; some = (g.commit i).some; done = let w = (g.commit i).done in let v = k.done in omega arith; past = (g.commit i).past }; ack = g.ack; refuse = λ i. record { own = (g.refuse i).own; begun = (g.refuse i).begun; dead = λ _ r f. clash f tt; untaken = (g.refuse i).untaken }; taken = g.taken; place = g.place; given = λ i r f a b d. let w = (g.bears i z.transfer (ap moving e) (b ∙ sym k.attempt)).high in let v = (k.under r f (a ∙ b ∙ sym k.attempt)).low in omega arith; bears = λ i c f. none_some f; acked = λ i c f d s j. clash j tt }

-- IT GOES ON
abbrev pub went : ℕ → View → View
went x u = on_mine (cell_at 0 x u.mine) (on_guest true true u.lost u.truth false (u.wish && u.here) u)

-- MayResume, as a host sees it
abbrev pub MayGo : View → Type 0
MayGo u = (u.runs ≡ false) × (u.lost ≡ false) × ((p : ℕ) → p < u.pages → u.mine.page p ≡ u.truth p) × ((u.here ≡ true) ⊎ (u.wish ≡ true))

pub running_same : {a b : Run} → Running a ≡ Running b → a ≡ b
running_same e = cc

-- a Commit that's heard while its attempt is received: it's the other's last, and committed
pub given_here : {m : ℕ} {x y : List (List ℕ)} {n o : Node} {u : View} (l : List ℕ) (r : Reception) → In l x u.mine → kind_of l ≡ 3 → n.state ≡ Receiving r → attempt_of l ≡ r.attempt → Both m x y n o u → record { given : Given (flip u); top : r.attempt ≡ u.theirs.cell 1; done : u.theirs.cell 2 ≡ u.theirs.cell 1; some : 1 ≤ r.attempt }
given_here {u = u} l r i kd e at h =
    let k = (h.ours.letters l i).commit kd in
    let a = k.done in
    let b = h.yours.cells.done in
    let s = k.some in
    let ne : attempt_of l < u.theirs.cell 1 → ⊥ = λ w. k.past w r e (sym at) in
    let top : r.attempt ≡ u.theirs.cell 1 = omega arith in
    let done : u.theirs.cell 2 ≡ u.theirs.cell 1 = omega arith in
    record { given = h.yours.commits r e top done; top = top; done = done; some = omega arith }

pub may_take : {m : ℕ} {x y : List (List ℕ)} {n o : Node} {u : View} (l : List ℕ) (r : Reception) → In l x u.mine → kind_of l ≡ 3 → n.state ≡ Receiving r → attempt_of l ≡ r.attempt → Both m x y n o u → MayGo u
may_take l r i kd e at h = let g = (given_here l r i kd e at h).given in (g.runs, g.lost, g.same, inr g.wish)

pub take_it : {m : ℕ} {x y : List (List ℕ)} {n o : Node} {u : View} (l : List ℕ) (r : Reception) → In l x u.mine → kind_of l ≡ 3 → n.state ≡ Receiving r → attempt_of l ≡ r.attempt → Both m x y n o u → Both m x y (runs_again r.attempt false n) o (went r.attempt u)
take_it {m = m} {x = x} {n = n} {o = o} {u = u} l r i kd e at h =
    record { ours = record { me = h.ours.me; fit = record { sides = h.ours.fit.sides; some = h.ours.fit.some; few = h.ours.fit.few; lost = λ _. g.lost }; guest = record { told = λ a. no (h.ours.guest.told a).0 g.runs; runner = λ _ _. refl; keeper = λ a. no refl a; running = λ y f. subst (λ y. Runs y.wanted (went r.attempt u)) (running_same f) (record { runs = refl; here = refl; wanted = λ z. no z refl; idle = λ _ z. no z gone }); copying = λ x f. clash f tt; paused = λ x f. clash f tt; committed = λ x f. clash f tt; receiving = λ x f. clash f tt }; cells = record { copies = λ a. let w = h.ours.cells.copies a in (refl, w.1, w.2); asleep = λ a. clash (sym (h.ours.cells.asleep a) ∙ e) tt; took = omega arith; done = h.ours.cells.done; parity = h.ours.cells.parity; most = h.ours.cells.most; committed = λ x f. clash f tt; receiving = λ x f. clash f tt }; order = record { later = λ _. omega (arith, top, v.top); had = λ _ _ _. omega (arith, top, v.top); begun = h.ours.order.begun; untaken = λ _ _ w. odd w }; commits = λ s f a b. odd b; copy = record { carries = λ c f. none_some f; below = λ x f. clash f tt }; letters = λ l i. mine l (h.ours.letters l i) }; yours = record { me = h.yours.me; fit = record { sides = h.yours.fit.sides; some = h.yours.fit.some; few = h.yours.fit.few; lost = λ _. g.lost }; guest = record { told = λ a. no (h.yours.guest.told a).0 g.runs; runner = λ _ b. no b refl; keeper = λ a. no refl a; running = λ y f. no (h.yours.guest.running y f).runs g.runs; copying = λ y f. no (h.yours.guest.copying y f).runs g.runs; paused = λ y f. idle y.transfer (ap moving f); committed = λ y f a b. no b refl; receiving = λ s f. refl }; cells = h.yours.cells; order = record { later = λ b. no b refl; had = λ b. no b refl; begun = h.yours.order.begun; untaken = λ b. no b refl }; commits = λ s f. clash f tt; copy = record { carries = λ c f. idle c f; below = h.yours.copy.below }; letters = λ l i. theirs l (h.yours.letters l i) } }
  where
    v : record { given : Given (flip u); top : r.attempt ≡ u.theirs.cell 1; done : u.theirs.cell 2 ≡ u.theirs.cell 1; some : 1 ≤ r.attempt }
    v = given_here l r i kd e at h

    g : Given (flip u)
    g = v.given

    away : u.here ≡ false
    away = not-true u.here g.here

    gone : (u.wish && u.here) ≡ false
    gone = ap₂ (λ a b. a && b) g.wish away

    top : r.attempt ≡ u.mine.cell 1
    top = (h.ours.cells.receiving r e).0

    odd : {A : Type 0} → u.mine.cell 2 ≡ u.mine.cell 1 → A
    odd w =
        let a : u.mine.cell 2 % 2 ≡ u.you = ap (λ z. z % 2) (w ∙ sym top) ∙ (h.ours.cells.receiving r e).1 in
        let s = v.some in
        let b = h.ours.cells.parity (omega arith) in
        let d = h.ours.fit.sides in
        absurd (omega arith)

    idle : {A : Type 0} (c : Transfer) → moving o.state ≡ Some c → A
    idle c f =
        let a = (h.yours.copy.carries c f).done in
        let b = (h.yours.copy.carries c f).attempt in
        let d = v.done in
        absurd (omega arith)

    mine : (l : List ℕ) → Legit m l n o u → Legit m l (runs_again r.attempt false n) o (went r.attempt u)
    mine l g =
        record { probe = g.probe; page = g.page; commit = λ i. record { own = (g.commit i).own; some = (g.commit i).some; done = (g.commit i).done; past = λ _ r f. clash f tt }; ack = g.ack; refuse = g.refuse; taken = g.taken; place = g.place; given = λ i r f. clash f tt; bears = λ i c f d. idle c f; acked = λ i c f. none_some f }

    theirs : (l : List ℕ) → Legit m l o n (flip u) → Legit m l o (runs_again r.attempt false n) (flip (went r.attempt u))
    theirs l k =
        record { probe = k.probe; page = k.page; commit = k.commit; ack = k.ack; refuse = λ i. record { own = (k.refuse i).own; begun = (k.refuse i).begun; dead = λ _ r f. clash f tt; untaken = λ a. absurd ((k.refuse i).dead a r e (v.top ∙ sym a)) }; taken = λ i. record { own = (k.taken i).own; took = let w = (k.taken i).took in let z = h.ours.cells.took in omega (arith, top) }; place = k.place; given = k.given; bears = λ i c f. none_some f; acked = λ i c f d s j. clash j tt }

-- it stood here and goes on here: after Refuse
pub go_on : {m : ℕ} {x y : List (List ℕ)} {n o : Node} {u : View} (t : ℕ) → n.awake ≡ true → t ≡ u.mine.cell 1 → Stands u → ((r : Reception) → o.state ≡ Receiving r → r.attempt ≡ u.mine.cell 1 → u.mine.cell 2 ≡ u.mine.cell 1 → ⊥) → Both m x y n o u → Both m x y (runs_again t true n) o (went t u)
go_on {m = m} {x = x} {n = n} {o = o} {u = u} t aw top st ne h =
    record { ours = record { me = h.ours.me; fit = record { sides = h.ours.fit.sides; some = h.ours.fit.some; few = h.ours.fit.few; lost = λ _. st.lost }; guest = record { told = λ a. no a st.told; runner = λ _ _. refl; keeper = λ a. no refl a; running = λ y f. subst (λ y. Runs y.wanted (went t u)) (running_same f) (record { runs = refl; here = refl; wanted = λ _. (ap₂ (λ a b. a && b) st.wish st.here, st.told); idle = λ z. no refl z }); copying = λ x f. clash f tt; paused = λ x f. clash f tt; committed = λ x f. clash f tt; receiving = λ x f. clash f tt }; cells = record { copies = λ a. let w = h.ours.cells.copies a in (refl, w.1, w.2); asleep = λ a. no aw a; took = omega arith; done = h.ours.cells.done; parity = h.ours.cells.parity; most = h.ours.cells.most; committed = λ x f. clash f tt; receiving = λ x f. clash f tt }; order = record { later = λ _. h.ours.order.later st.here; had = λ _ _ _. let w = h.ours.order.later st.here in omega arith; begun = h.ours.order.begun; untaken = λ _. h.ours.order.untaken st.here }; commits = λ r f a b. absurd (ne r f a b); copy = record { carries = λ c f. none_some f; below = λ x f. clash f tt }; letters = λ l i. mine l (h.ours.letters l i) }; yours = record { me = h.yours.me; fit = record { sides = h.yours.fit.sides; some = h.yours.fit.some; few = h.yours.fit.few; lost = λ _. st.lost }; guest = record { told = λ a. no (h.yours.guest.told a).1 away; runner = λ _ b. no b refl; keeper = λ a. no refl a; running = λ y f. no (h.yours.guest.running y f).here away; copying = λ y f. no (h.yours.guest.copying y f).here away; paused = λ y f. no (h.yours.guest.paused y f).here away; committed = λ y f a b. no b refl; receiving = λ s f. refl }; cells = h.yours.cells; order = record { later = λ b. no b refl; had = λ b. no b refl; begun = h.yours.order.begun; untaken = λ b. no b refl }; commits = λ s f. clash f tt; copy = record { carries = λ c f. no (mover c h.yours f).0 away; below = h.yours.copy.below }; letters = λ l i. theirs l (h.yours.letters l i) } }
  where
    away : not u.here ≡ false
    away = ap not st.here

    mine : (l : List ℕ) → Legit m l n o u → Legit m l (runs_again t true n) o (went t u)
    mine l g =
        record { probe = g.probe; page = g.page; commit = λ i. record { own = (g.commit i).own; some = (g.commit i).some; done = (g.commit i).done; past = λ _ r f. clash f tt }; ack = g.ack; refuse = g.refuse; taken = g.taken; place = g.place; given = λ i r f. clash f tt; bears = λ i c f d. let b = g.bears i c f d in record { high = b.high; slot = b.slot; soon = b.soon; now = λ s j. clash j tt }; acked = λ i c f. none_some f }

    theirs : (l : List ℕ) → Legit m l o n (flip u) → Legit m l o (runs_again t true n) (flip (went t u))
    theirs l k =
        record { probe = k.probe; page = k.page; commit = k.commit; ack = k.ack; refuse = λ i. record { own = (k.refuse i).own; begun = (k.refuse i).begun; dead = λ _ r f. clash f tt; untaken = λ a. let v = (k.refuse i).untaken a in let w = h.ours.order.had st.here (omega arith) (ap (λ z. z % 2) (sym a) ∙ (k.refuse i).own) in absurd (omega arith) }; taken = λ i. record { own = (k.taken i).own; took = let w = (k.taken i).took in let z = h.ours.cells.took in omega arith }; place = k.place; given = k.given; bears = λ i c f. none_some f; acked = λ i c f d s j. clash j tt }

-- Refuse is heard in Committed: `had` says that the guest is still here
pub refused_stands : {m : ℕ} {x y : List (List ℕ)} {n o : Node} {u : View} (l : List ℕ) (z : Commitment) → In l x u.mine → kind_of l ≡ 5 → n.state ≡ Committed z → z.mine ≡ true → attempt_of l ≡ z.attempt → Both m x y n o u → Stands u
refused_stands {u = u} l z i kd e mi at h = go u.here refl
  where
    go : (b : Bool) → u.here ≡ b → Stands u
    go true q = h.ours.guest.committed z e mi q
    go false q =
        let k = (h.ours.letters l i).refuse kd in
        let c = h.ours.cells.committed z e in
        let a : attempt_of l ≡ u.mine.cell 1 = at ∙ c.0 in
        let v = k.untaken a in
        let w = h.yours.order.had (ap not q) (omega arith) (ap (λ z. z % 2) (sym a) ∙ k.own) in
        absurd (omega arith)

pub may_go : (u : View) → Stands u → MayGo u
may_go u st = (st.runs, st.lost, st.same, inl st.here)

pub refused : {m : ℕ} {x y : List (List ℕ)} {n o : Node} {u : View} (l : List ℕ) (z : Commitment) → In l x u.mine → kind_of l ≡ 5 → n.state ≡ Committed z → z.mine ≡ true → attempt_of l ≡ z.attempt → n.awake ≡ true → Both m x y n o u → Both m x y (runs_again z.attempt true n) o (went z.attempt u)
refused {u = u} l z i kd e mi at aw h =
    let c = h.ours.cells.committed z e in
    go_on z.attempt aw c.0 (refused_stands l z i kd e mi at h) (λ r f a b. ((h.ours.letters l i).refuse kd).dead (at ∙ c.0) r f (a ∙ sym c.0 ∙ sym at)) h

-- Refuse is heard in Paused
pub refused_paused : {m : ℕ} {x y : List (List ℕ)} {n o : Node} {u : View} (z : Pause) → n.state ≡ Paused z → n.awake ≡ true → Both m x y n o u → Both m x y (runs_again z.transfer.attempt true n) o (went z.transfer.attempt u)
refused_paused z e aw h =
    let k = h.ours.copy.carries z.transfer (ap moving e) in
    go_on z.transfer.attempt aw k.attempt (h.ours.guest.paused z e) (λ r f a b. let w = k.done in let v = k.attempt in omega arith) h

-- Refuse is heard in Copying
pub refused_copying : {m : ℕ} {x y : List (List ℕ)} {n o : Node} {u : View} (c : Transfer) → n.state ≡ Copying c → n.awake ≡ true → Both m x y n o u → Both m x y (on_state (Running (record { wanted = true })) n) o u
refused_copying {m = m} {n = n} {o = o} {u = u} c e aw h =
    let g = h.ours.guest.copying c e in
    record { ours = record { me = h.ours.me; fit = h.ours.fit; guest = record { told = h.ours.guest.told; runner = λ _ _. refl; keeper = λ a. no g.runs a; running = λ y f. subst (λ y. Runs y.wanted u) (running_same f) (record { runs = g.runs; here = g.here; wanted = λ _. (g.wish, g.told); idle = λ z. no refl z }); copying = λ x f. clash f tt; paused = λ x f. clash f tt; committed = λ x f. clash f tt; receiving = λ x f. clash f tt }; cells = record { copies = h.ours.cells.copies; asleep = λ a. no aw a; took = h.ours.cells.took; done = h.ours.cells.done; parity = h.ours.cells.parity; most = h.ours.cells.most; committed = λ x f. clash f tt; receiving = λ x f. clash f tt }; order = h.ours.order; commits = h.ours.commits; copy = record { carries = λ c f. none_some f; below = λ x f. clash f tt }; letters = λ l i. mine l (h.ours.letters l i) }; yours = record { me = h.yours.me; fit = h.yours.fit; guest = h.yours.guest; cells = h.yours.cells; order = h.yours.order; commits = λ s f. clash f tt; copy = record { carries = λ c f. no (mover c h.yours f).0 (ap not g.here); below = h.yours.copy.below }; letters = λ l i. theirs l (h.yours.letters l i) } }
  where
    mine : (l : List ℕ) → Legit m l n o u → Legit m l (on_state (Running (record { wanted = true })) n) o u
    mine l g =
        record { probe = g.probe; page = g.page; commit = λ i. record { own = (g.commit i).own; some = (g.commit i).some; done = (g.commit i).done; past = λ _ r f. clash f tt }; ack = g.ack; refuse = g.refuse; taken = g.taken; place = g.place; given = λ i r f. clash f tt; bears = λ i c f d. let b = g.bears i c f d in record { high = b.high; slot = b.slot; soon = b.soon; now = λ s j. clash j tt }; acked = λ i c f. none_some f }

    theirs : (l : List ℕ) → Legit m l o n (flip u) → Legit m l o (on_state (Running (record { wanted = true })) n) (flip u)
    theirs l k =
        record { probe = k.probe; page = k.page; commit = k.commit; ack = k.ack; refuse = λ i. record { own = (k.refuse i).own; begun = (k.refuse i).begun; dead = λ _ r f. clash f tt; untaken = (k.refuse i).untaken }; taken = k.taken; place = k.place; given = k.given; bears = λ i c f. none_some f; acked = λ i c f d s j. clash j tt }

-- A NEW ATTEMPT
pub attempt_it : {m : ℕ} {x y : List (List ℕ)} {n o : Node} {u : View} (z : Run) (d : Transfer) → n.state ≡ Running z → z.wanted ≡ true → n.awake ≡ true → u.mine.cell 1 < d.attempt → d.attempt % 2 ≡ u.me → d.attempt ≤ m → length d.window.pages ≡ 0 → d.window.base ≡ 0 → ((p : ℕ) → p < u.pages → unsent d p ≡ true) → Both m x y n o u → Both m x y (on_top d.attempt (Copying d) n) o (on_mine (cell_at 1 d.attempt u.mine) u)
attempt_it {m = m} {n = n} {o = o} {u = u} z d e wa aw gt own le len base all h =
    record { ours = record { me = h.ours.me; fit = h.ours.fit; guest = record { told = h.ours.guest.told; runner = λ _ _. refl; keeper = λ a. no g.runs a; running = λ x f. clash f tt; copying = λ c f. record { runs = g.runs; here = g.here; wish = (g.wanted wa).0; told = (g.wanted wa).1 }; paused = λ x f. clash f tt; committed = λ x f. clash f tt; receiving = λ x f. clash f tt }; cells = record { copies = λ a. let w = h.ours.cells.copies a in (w.0, refl, w.2); asleep = λ a. no aw a; took = let w = h.ours.cells.took in omega arith; done = let w = h.ours.cells.done in omega arith; parity = h.ours.cells.parity; most = le; committed = λ x f. clash f tt; receiving = λ x f. clash f tt }; order = record { later = λ a. omega (arith, later); had = h.ours.order.had; begun = h.ours.order.begun; untaken = λ _ _ w. let v = h.ours.cells.done in absurd (omega arith) }; commits = λ r f a b. let v = h.ours.cells.done in absurd (omega arith); copy = record { carries = carries; below = λ x f. clash f tt }; letters = λ l i. mine l (h.ours.letters l i) }; yours = record { me = h.yours.me; fit = h.yours.fit; guest = h.yours.guest; cells = h.yours.cells; order = record { later = λ b. no b away; had = λ b. no b away; begun = let w = h.yours.order.begun in omega arith; untaken = λ b. no b away }; commits = λ s f. clash f tt; copy = record { carries = λ c f. no (mover c h.yours f).0 away; below = h.yours.copy.below }; letters = λ l i. theirs l (h.yours.letters l i) } }
  where
    g : Runs z.wanted u
    g = h.ours.guest.running z e

    away : not u.here ≡ false
    away = ap not g.here

    later : u.theirs.cell 1 ≤ u.mine.cell 1
    later = h.ours.order.later g.here

    carries : (c : Transfer) → Some d ≡ Some c → Carries m c o (on_mine (cell_at 1 d.attempt u.mine) u)
    carries c f =
        let a = h.ours.cells.done in
        let b = h.yours.cells.took in
        subst (λ c. Carries m c o (on_mine (cell_at 1 d.attempt u.mine) u)) (same_Some _ _ f)
        (record { attempt = refl; own = own; done = omega arith; took = omega (arith, later); most = omega arith; ways = λ k w. absurd (omega arith); base = λ _. base; every = λ _ p l v. no (all p l) v; under = λ r i j. let w = (h.yours.cells.receiving r i).0 in absurd (omega (arith, later)) })

    mine : (l : List ℕ) → Legit m l n o u → Legit m l (on_top d.attempt (Copying d) n) o (on_mine (cell_at 1 d.attempt u.mine) u)
    mine l k =
        record { probe = k.probe; page = k.page; commit = λ i. record { own = (k.commit i).own; some = (k.commit i).some; done = (k.commit i).done; past = λ _ r f. clash f tt }; ack = k.ack; refuse = λ i. record { own = (k.refuse i).own; begun = (k.refuse i).begun; dead = λ a. let w = (k.refuse i).begun in absurd (omega (arith, later)); untaken = λ a. let w = (k.refuse i).begun in absurd (omega (arith, later)) }; taken = k.taken; place = k.place; given = λ i r f. clash f tt; bears = λ i c f. no (mover c h.yours f).0 away; acked = λ i c f a. let w = (k.ack i).begun in let v = ap (λ z. z.attempt) (same_Some _ _ f) in absurd (omega (arith, later)) }

    theirs : (l : List ℕ) → Legit m l o n (flip u) → Legit m l o (on_top d.attempt (Copying d) n) (flip (on_mine (cell_at 1 d.attempt u.mine) u))
    theirs l k =
        record { probe = λ i. from (k.probe i); page = λ i. from (k.page i); commit = λ i. record { own = (k.commit i).own; some = (k.commit i).some; done = (k.commit i).done; past = λ _. past (k.commit i).done (k.commit i).past }; ack = λ i. record { own = (k.ack i).own; begun = let w = (k.ack i).begun in omega arith }; refuse = λ i. record { own = (k.refuse i).own; begun = let w = (k.refuse i).begun in omega arith; dead = λ _ r f. clash f tt; untaken = (k.refuse i).untaken }; taken = k.taken; place = k.place; given = λ i r f a b c. let w = (k.page i).begun in absurd (omega arith); bears = λ i c f a. let w = (k.page i).begun in let v = ap (λ z. z.attempt) (same_Some _ _ f) in absurd (omega arith); acked = λ i c f j s q. clash q tt }
      where
        from : From l (flip u) → From l (flip (on_mine (cell_at 1 d.attempt u.mine) u))
        from w = record { own = w.own; some = w.some; begun = let v = w.begun in omega arith }

        past : attempt_of l ≤ u.mine.cell 2 → (attempt_of l < u.mine.cell 1 → NotReceiving (attempt_of l) o) → NotReceiving (attempt_of l) o
        past w old r f a =
            let v = h.ours.cells.done in
            let ne : attempt_of l < u.mine.cell 1 → ⊥ = λ q. old q r f a in
            no g.runs (h.ours.commits r f (omega arith) (omega arith)).runs

-- A PROBE BEGINS ANOTHER'S ATTEMPT
pub begin_it : {m : ℕ} {x y : List (List ℕ)} {n o : Node} {u : View} (l : List ℕ) → In l x u.mine → kind_of l ≡ 1 → u.mine.cell 1 < attempt_of l → n.awake ≡ true → Both m x y n o u → Both m x y (on_top (attempt_of l) (Receiving (record { attempt = attempt_of l; next = 0 })) n) o (on_mine (cell_at 1 (attempt_of l) u.mine) u)
begin_it {m = m} {n = n} {o = o} {u = u} l i kd gt aw h =
    record { ours = record { me = h.ours.me; fit = h.ours.fit; guest = record { told = h.ours.guest.told; runner = λ _ b. no b away; keeper = λ _ _ _ b. no b away; running = λ x f. clash f tt; copying = λ x f. clash f tt; paused = λ x f. clash f tt; committed = λ x f. clash f tt; receiving = λ _ _. away }; cells = record { copies = λ a. let w = h.ours.cells.copies a in (w.0, refl, w.2); asleep = λ a. no aw a; took = let w = h.ours.cells.took in omega arith; done = let w = h.ours.cells.done in omega arith; parity = h.ours.cells.parity; most = let w = h.yours.cells.most in let v = k.begun in omega arith; committed = λ x f. clash f tt; receiving = λ r f. subst (λ r. (r.attempt ≡ attempt_of l) × (r.attempt % 2 ≡ u.you) × (r.next ≤ m)) (receiving_same f) (refl, k.own, omega arith) }; order = record { later = λ b. no b away; had = λ b. no b away; begun = h.ours.order.begun; untaken = λ b. no b away }; commits = λ r f a b. let v = h.ours.cells.done in absurd (omega arith); copy = record { carries = λ c f. none_some f; below = λ x f. clash f tt }; letters = λ q j. mine q (h.ours.letters q j) }; yours = record { me = h.yours.me; fit = h.yours.fit; guest = h.yours.guest; cells = h.yours.cells; order = record { later = λ _. k.begun; had = λ _ _ w. let v = k.own in let s = h.ours.fit.sides in absurd (omega arith); begun = let w = h.yours.order.begun in omega arith; untaken = h.yours.order.untaken }; commits = λ r f a b. let w = h.yours.order.begun in let v = ap (λ z. z.attempt) (receiving_same f) in absurd (omega arith); copy = record { carries = carries; below = h.yours.copy.below }; letters = λ q j. theirs q (h.yours.letters q j) } }
  where
    k : From l u
    k = (h.ours.letters l i).probe kd

    away : u.here ≡ false
    away = go u.here refl
      where
        go : (b : Bool) → u.here ≡ b → u.here ≡ false
        go true q = let w = h.ours.order.later q in let v = k.begun in absurd (omega arith)
        go false q = q

    carries : (c : Transfer) → moving o.state ≡ Some c → Carries m c (on_top (attempt_of l) (Receiving (record { attempt = attempt_of l; next = 0 })) n) (flip (on_mine (cell_at 1 (attempt_of l) u.mine) u))
    carries c f =
        let w : Carries m c n (flip u) = h.yours.copy.carries c f in
        record { attempt = w.attempt; own = w.own; done = w.done; took = w.took; most = w.most; ways = w.ways; base = λ q. w.base (omega arith); every = λ q. w.every (omega arith); under = λ r g a. let v = ap (λ z. z.attempt) (receiving_same g) in let s = ap (λ z. z.next) (receiving_same g) in let b = w.base (omega arith) in record { low = omega arith; high = omega arith; same = λ p q d t nf. absurd (nf (let y = w.every (omega arith) p q d in (y.0, y.1, y.2, omega arith))) } }

    mine : (q : List ℕ) → Legit m q n o u → Legit m q (on_top (attempt_of l) (Receiving (record { attempt = attempt_of l; next = 0 })) n) o (on_mine (cell_at 1 (attempt_of l) u.mine) u)
    mine q g =
        record { probe = g.probe; page = g.page; commit = λ i. record { own = (g.commit i).own; some = (g.commit i).some; done = (g.commit i).done; past = λ _ r f a. let w = (g.commit i).done in let v = h.yours.order.begun in let s = ap (λ z. z.attempt) (receiving_same f) in omega arith }; ack = g.ack; refuse = λ i. record { own = (g.refuse i).own; begun = (g.refuse i).begun; dead = λ a. odd a (g.refuse i).own; untaken = λ a. odd a (g.refuse i).own }; taken = g.taken; place = g.place; given = λ i r f a b c. let v = h.yours.order.begun in let s = ap (λ z. z.attempt) (receiving_same f) in absurd (omega arith); bears = λ i c f a. let b = g.bears i c f a in record { high = b.high; slot = b.slot; soon = λ w. b.soon (omega arith); now = λ r j w _. let s = ap (λ z. z.attempt) (receiving_same j) in b.soon (omega arith) }; acked = λ i c f. none_some f }
      where
        odd : {A : Type 0} → attempt_of q ≡ attempt_of l → attempt_of q % 2 ≡ u.me → A
        odd a w = let v = k.own in let s = h.ours.fit.sides in let z = ap (λ z. z % 2) a in absurd (omega arith)

    theirs : (q : List ℕ) → Legit m q o n (flip u) → Legit m q o (on_top (attempt_of l) (Receiving (record { attempt = attempt_of l; next = 0 })) n) (flip (on_mine (cell_at 1 (attempt_of l) u.mine) u))
    theirs q g =
        record { probe = λ i. from (g.probe i); page = λ i. from (g.page i); commit = λ i. record { own = (g.commit i).own; some = (g.commit i).some; done = (g.commit i).done; past = λ w. past (g.commit i).done }; ack = λ i. record { own = (g.ack i).own; begun = let w = (g.ack i).begun in omega arith }; refuse = λ i. record { own = (g.refuse i).own; begun = let w = (g.refuse i).begun in omega arith; dead = λ _ r f a. let w = (g.refuse i).begun in let s = ap (λ z. z.attempt) (receiving_same f) in omega arith; untaken = (g.refuse i).untaken }; taken = g.taken; place = g.place; given = λ i r f a b c. let w = (g.page i).begun in absurd (omega arith); bears = λ i c f. none_some f; acked = λ i c f a r j w. let v = (g.ack i).begun in let s = ap (λ z. z.attempt) (receiving_same j) in absurd (omega arith) }
      where
        from : From q (flip u) → From q (flip (on_mine (cell_at 1 (attempt_of l) u.mine) u))
        from w = record { own = w.own; some = w.some; begun = let v = w.begun in omega arith }

        past : attempt_of q ≤ u.mine.cell 2 → NotReceiving (attempt_of q) o
        past w r f a = no (ap not away) (h.yours.guest.receiving r f)
