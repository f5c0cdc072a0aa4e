-- How fast a guest is moved: what a turn makes of the counts of a pass, and what a calm round does.
-- Assumes nothing.
use Rattle.std.proofs.Common.{◌≡◌, ℕ, ◌+◌, ◌-◌, ◌*◌, ◌%◌, ◌<◌, ◌≤◌, min, Bool, true, false, cond, ◌&&◌, ◌||◌, eqb, ltb, leb, ◌⊎◌, List, Some, None, sym, refl, ap, ◌∙◌, subst, inl, inr, arith, length}
use Rattle.moving.proofs.Scans.{paused_same}
use Rattle.moving.proofs.Passes.{rises_due}
use Rattle.std.proofs.lemmas.List.{length_push}
use mathlib.Core.Path.{subst⁻¹}
use Rattle.std.proofs.lemmas.Bool.{and_parts, and_cases, cases_eq, cases_lt, cond_both, eq-eqb, ne_eqb, eqb-true, eqb-false, le-leb}
use Rattle.pageset.specs.Count.{count, count_from}
use Rattle.pageset.specs.Member.{member}
use Rattle.pageset.proofs.Counts.{count_same}
use Rattle.letter.specs.declared.Kind.{Kind}
use Rattle.letter.specs.declared.Kind.TheVariants.{Probe, Page, Commit, Ack, Refuse, Taken}
use Rattle.letter.specs.declared.Letter.{Letter}
use Rattle.window.specs.Pages.{pushed, dropped}
use Rattle.moving.specs.declared.Node.{Node}
use Rattle.moving.specs.declared.state.Transfer.{Transfer}
use Rattle.moving.specs.declared.state.Running.{Running as Run}
use Rattle.moving.specs.declared.state.Paused.{Paused as Pause}
use Rattle.moving.specs.declared.state.Committed.{Committed as Commitment}
use Rattle.moving.specs.declared.state.State.{State}
use Rattle.moving.specs.declared.state.State.TheVariants.{Away, Receiving, Running, Copying, Paused, Committed}
use Rattle.moving.specs.Hosts.{World, me}
use Rattle.moving.specs.Model.{moving, ticked, anew, afresh, over, acked, on_state, on_top, runs_again, begins, is_next, receives, refused_in, acked_in, gone_in, by_kind, heeded, woken}
use Rattle.moving.specs.Scan.{Looked, Looks, Looks.none, Looks.more, GoneOn, due}
use Rattle.moving.specs.Invariant.{unsent}
use Rattle.moving.specs.Acted as acted
use Rattle.moving.specs.Acted.{New, Hears, Heard}
use Rattle.moving.specs.Over as played
use Rattle.moving.specs.Over.{RunOver, CopyOver, PauseOver, ActedOver, TurnedOver}
use Rattle.moving.specs.Calm.{Rises, Within, todo, Went}
use Rattle.moving.specs.Time.{turns_in, past, PassWell, PauseWell, Paced, Pace, rest, CopyPace, PausePace, InPace, tries}
use Rattle.moving.proofs.Moves.{clash, none_some}

-- A PART OF A PASS, from x to y: which counts stay, and which grow.
pub record Passes (x y : Transfer) : Type 0 where
  pub attempt : y.attempt ≡ x.attempt
  pub turns : y.turns ≡ x.turns
  pub prev : past y ≡ past x
  pub cursor : x.cursor ≤ y.cursor
  pub sent : x.sent ≤ x.cursor → y.sent ≤ y.cursor
  pub below : ((q : ℕ) → q < x.cursor → unsent x q ≡ false) → (q : ℕ) → q < y.cursor → unsent y q ≡ false
  pub more : length x.window.pages ≤ length y.window.pages
  pub grows : length y.window.pages + x.cursor ≤ length x.window.pages + y.cursor
  pub window : x.sent ≤ x.cursor → y.cursor ≤ 4096 → length y.window.pages + x.sent ≡ length x.window.pages + y.sent

-- nothing is looked at
passes_self : (x : Transfer) → Passes x x
passes_self x =
    record { attempt = refl; turns = refl; prev = refl; cursor = omega arith; sent = λ h. h; below = λ h. h; more = omega arith; grows = omega arith; window = λ h b. omega arith }

-- one page more is looked at
passes_look : {x y z : Transfer} {b : Bool} → Passes x y → Looked b y z → Passes x z
passes_look {x = x} {y = y} {z = z} {b = b} p l =
    record { attempt = l.attempt ∙ p.attempt; turns = l.turns ∙ p.turns; prev = ap turns_in l.prev ∙ p.prev; cursor = let a = p.cursor in let c = l.cursor in omega arith; sent = λ h. let a = p.sent h in let c = l.cursor in let d = fewer in omega arith; below = λ h q k. gone (p.below h) q k; more = let a = p.more in let d = longer.0 in omega arith; grows = let a = p.grows in let c = l.cursor in let d = longer.1 in omega arith; window = λ h k. let c = l.cursor in let a = p.sent h in let d = p.window h (omega arith) in let e = alike (omega arith) in omega arith }
  where
    len : length z.window.pages ≡ cond (due b y) (length y.window.pages + 1) (length y.window.pages)
    len = ap (λ w. length w.pages) l.window ∙ ways (due b y)
      where
        ways : (d : Bool) → length (cond d (pushed y.cursor y.window) y.window).pages ≡ cond d (length y.window.pages + 1) (length y.window.pages)
        ways true = length_push y.window.pages y.cursor
        ways false = refl

    fewer : z.sent ≤ y.sent + 1
    fewer = subst⁻¹ (λ k. k ≤ y.sent + 1) l.sent (cond_both (due b y) (min (y.sent + 1) 4294967295) y.sent (λ k. k ≤ y.sent + 1) (λ e. omega arith) (λ e. omega arith))

    longer : (length y.window.pages ≤ length z.window.pages) × (length z.window.pages ≤ length y.window.pages + 1)
    longer = subst⁻¹ (λ k. (length y.window.pages ≤ k) × (k ≤ length y.window.pages + 1)) len (cond_both (due b y) (length y.window.pages + 1) (length y.window.pages) (λ k. (length y.window.pages ≤ k) × (k ≤ length y.window.pages + 1)) (λ e. omega arith) (λ e. omega arith))

    alike : y.sent ≤ 4096 → length z.window.pages + y.sent ≡ length y.window.pages + z.sent
    alike h = rw (len, l.sent) (ways (due b y))
      where
        ways : (d : Bool) → cond d (length y.window.pages + 1) (length y.window.pages) + y.sent ≡ length y.window.pages + cond d (min (y.sent + 1) 4294967295) y.sent
        ways true = omega arith
        ways false = refl

    gone : ((q : ℕ) → q < y.cursor → unsent y q ≡ false) → (q : ℕ) → q < z.cursor → unsent z q ≡ false
    gone h q k =
        let c = l.cursor in
        l.unsent q ∙ elim (cases_eq q y.cursor) [ inl e ↦ rw (eq-eqb q y.cursor e) | inr n ↦ rw (ne_eqb q y.cursor n) (h q (omega arith)) ]

-- one page after the other is looked at
looks_passes : {x y : Transfer} {bs : List Bool} → Looks x bs y → Passes x y
looks_passes {x = x} none = passes_self x
looks_passes (more bs b y z l k) = passes_look (looks_passes l) k

-- What a turn of a pass leaves, and what it adds to.
pub gone_counts : {pages most : ℕ} {x y : Transfer} → GoneOn pages most x y → Passes x y
gone_counts {x = x} g =
    elim (cases_lt 0 (length x.window.pages)) [ inl l ↦ subst⁻¹ (λ z. Passes x z) (g.same l) (passes_self x) | inr l ↦ looks_passes (g.goes (omega arith)).looks ]

-- What holds of a pass holds after one more turn of it.
pub gone_well : {pages most : ℕ} {x y : Transfer} → GoneOn pages most x y → Within pages x y → PassWell pages x → PassWell pages y
gone_well g i h =
    let p = gone_counts g in
    let a = p.turns in
    let b = p.prev in
    let c = h.turns in
    let d = h.prev in
    record { turns = omega arith; prev = omega arith; cursor = i h.cursor; sent = p.sent h.sent; below = p.below h.below }

-- No fewer pages have been sent.
pub gone_sent : {pages most : ℕ} {x y : Transfer} → GoneOn pages most x y → Within pages x y → pages ≤ 4096 → PassWell pages x → x.sent ≤ y.sent
gone_sent g i few h =
    let p = gone_counts g in
    let c = i h.cursor in
    let l = p.window h.sent (omega arith) in
    let m = p.more in
    omega arith

-- If nothing was on its way, and there were asks enough, 248 pages were looked at or 62 were sent, or all were looked at.
pub gone_progress : {pages most : ℕ} {x y : Transfer} → GoneOn pages most x y → length x.window.pages ≡ 0 → 251 ≤ most → pages ≤ 4096 → PassWell pages x → y.cursor < pages → x.cursor + 3 * x.sent + 248 ≤ y.cursor + 3 * y.sent
gone_progress {pages = pages} {most = most} {x = x} {y = y} g z asks few h lt =
    let p = gone_counts g in
    far (p.window h.sent (omega arith)) p.grows (g.goes z).ends
  where
    far : length y.window.pages + x.sent ≡ length x.window.pages + y.sent → length y.window.pages + x.cursor ≤ length x.window.pages + y.cursor → (x.cursor + (most - 1) < y.cursor + 2 * length y.window.pages + 3) ⊎ ((length y.window.pages ≡ 62) ⊎ (pages ≤ y.cursor)) → x.cursor + 3 * x.sent + 248 ≤ y.cursor + 3 * y.sent
    far a b (inl e) = omega arith
    far a b (inr (inl e)) = omega arith
    far a b (inr (inr e)) = absurd (omega arith)

-- HEARING leaves the counts of a transfer, but not its window.
pub record Counts (x y : Transfer) : Type 0 where
  pub attempt : y.attempt ≡ x.attempt
  pub unsent : y.unsent ≡ x.unsent
  pub cursor : y.cursor ≡ x.cursor
  pub sent : y.sent ≡ x.sent
  pub turns : y.turns ≡ x.turns
  pub prev : past y ≡ past x

-- A transfer that the state h has is that of s, with the same counts.
pub record Kin (s h : State) : Type 0 where
  pub copying : (y : Transfer) → h ≡ Copying y → (x : Transfer) × (s ≡ Copying x) × Counts x y
  pub paused : (z : Pause) → h ≡ Paused z → (x : Pause) × (s ≡ Paused x) × Counts x.transfer z.transfer × (z.turns ≡ x.turns)

-- nothing changes
counts_self : (x : Transfer) → Counts x x
counts_self x = record { attempt = refl; unsent = refl; cursor = refl; sent = refl; turns = refl; prev = refl }

-- one change after the other
counts_then : {x y z : Transfer} → Counts x y → Counts y z → Counts x z
counts_then a b =
    record { attempt = b.attempt ∙ a.attempt; unsent = b.unsent ∙ a.unsent; cursor = b.cursor ∙ a.cursor; sent = b.sent ∙ a.sent; turns = b.turns ∙ a.turns; prev = b.prev ∙ a.prev }

-- an acknowledgement changes the window alone
counts_acked : (t p : ℕ) (x : Transfer) → Counts x (acked t p x)
counts_acked t p x =
    cond_both ((eqb x.attempt t && ltb x.window.base p) && leb p (x.window.base + length x.window.pages)) (record { attempt = x.attempt; window = dropped (p - x.window.base) x.window; unsent = x.unsent; cursor = x.cursor; sent = x.sent; turns = x.turns; prev = x.prev }) x (λ y. Counts x y) (λ e. record { attempt = refl; unsent = refl; cursor = refl; sent = refl; turns = refl; prev = refl }) (λ e. counts_self x)

-- A state is its own kin.
pub kin_self : (s : State) → Kin s s
kin_self s = record { copying = λ y e. (y, e, counts_self y); paused = λ z e. (z, e, counts_self z.transfer, refl) }

-- And a kin's kin is kin.
pub kin_then : {s h g : State} → Kin s h → Kin h g → Kin s g
kin_then a b =
    record {
      copying = λ y e. let p = b.copying y e in let q = a.copying p.0 p.1 in (q.0, q.1, counts_then q.2 p.2);
      paused = λ z e. let p = b.paused z e in let q = a.paused p.0 p.1 in (q.0, q.1, counts_then q.2 p.2, p.3 ∙ q.3);
    }

-- a state without a transfer
kin_none : (s h : State) → moving h ≡ None → Kin s h
kin_none s h f = record { copying = λ y e. none_some (sym f ∙ ap moving e); paused = λ z e. none_some (sym f ∙ ap moving e) }

-- the transfer that a state has
copying_same : {x y : Transfer} → Copying x ≡ Copying y → x ≡ y
copying_same e = cc

-- an acknowledgement
kin_acked : (t p : ℕ) (s : State) → Kin s (acked_in t p s)
kin_acked t p Away = kin_self Away
kin_acked t p (Receiving r) = kin_self (Receiving r)
kin_acked t p (Running r) = kin_self (Running r)
kin_acked t p (Copying x) = record { copying = λ y e. (x, refl, subst (λ y. Counts x y) (copying_same e) (counts_acked t p x)); paused = λ z e. clash e tt }
kin_acked t p (Paused x) =
    record { copying = λ y e. clash e tt; paused = λ z e. (x, refl, subst (λ z. Counts x.transfer z.transfer) (paused_same e) (counts_acked t p x.transfer), ap (λ z. z.turns) (sym (paused_same e))) }
kin_acked t p (Committed x) = kin_self (Committed x)

-- Each letter leaves the counts, whatever it says.
pub heed_kin : (pages : ℕ) (l : Letter) (n : Node) → Kin n.state (heeded pages l n).state
heed_kin pages l n = go l.kind
  where
    -- it becomes m, or nothing changes
    either : (b : Bool) (m : Node) → moving m.state ≡ None → Kin n.state (cond b m n).state
    either true m e = kin_none n.state m.state e
    either false m e = kin_self n.state

    -- or its state becomes g
    first : (b : Bool) (s g : State) → moving g ≡ None → Kin s (cond b g s)
    first true s g e = kin_none s g e
    first false s g e = kin_self s

    none : (b : Bool) → moving (cond b (Running (record { wanted = true })) Away) ≡ None
    none true = refl
    none false = refl

    refuses : (t : ℕ) (s : State) → Kin s (refused_in t s)
    refuses t Away = kin_self Away
    refuses t (Receiving r) = kin_self (Receiving r)
    refuses t (Running r) = kin_self (Running r)
    refuses t (Copying x) = first (eqb x.attempt t) (Copying x) (Running (record { wanted = true })) refl
    refuses t (Paused x) = first (eqb x.transfer.attempt t) (Paused x) (Running (record { wanted = true })) refl
    refuses t (Committed x) = first (eqb x.attempt t) (Committed x) (cond x.mine (Running (record { wanted = true })) Away) (none x.mine)

    takes : (t : ℕ) (s : State) → Kin s (gone_in t s)
    takes t Away = kin_self Away
    takes t (Receiving r) = kin_self (Receiving r)
    takes t (Running r) = kin_self (Running r)
    takes t (Copying x) = kin_self (Copying x)
    takes t (Paused x) = kin_self (Paused x)
    takes t (Committed x) = first (eqb x.attempt t) (Committed x) Away refl

    go : (k : Kind) → Kin n.state (by_kind k pages l n).state
    go Probe = either (ltb n.top l.attempt && begins n.state) (on_top l.attempt (Receiving (record { attempt = l.attempt; next = 0 })) n) refl
    go Page = either (is_next pages l n.state) (on_state (Receiving (record { attempt = l.attempt; next = l.place + 1 })) n) refl
    go Commit = either (receives l.attempt n.state) (runs_again l.attempt false n) refl
    go Ack = kin_acked l.attempt l.place n.state
    go Refuse = refuses l.attempt n.state
    go Taken = takes l.attempt n.state

-- letters, one after the other
hears_kin : {pages : ℕ} {n m : Node} {ls : List Letter} → Hears pages n ls m → Kin n.state m.state
hears_kin {n = n} acted.Hears.none = kin_self n.state
hears_kin {pages = pages} (acted.Hears.more ls l m h) = kin_then (hears_kin h) (heed_kin pages l m)

-- And so do all letters of a turn.
pub heard_kin : {pages : ℕ} {n m : Node} → Heard pages n m → Kin n.state m.state
heard_kin h = hears_kin h.hears

-- A node that wakes has its state still, or says again that its attempt is committed.
pub woken_kin : (a b c : ℕ) (n : Node) → Kin n.state (woken a b c n).state
woken_kin a b c n = go n.awake ((eqb c b && ltb 0 b) && eqb (b % 2) n.me)
  where
    go : (w k : Bool) → Kin n.state (cond w n (record { me = n.me; awake = true; took = a; top = b; committed = c; asked = n.asked; state = cond k (Committed (record { attempt = b; mine = false; turns = 0 })) n.state })).state
    go true k = kin_self n.state
    go false true = kin_none n.state (Committed (record { attempt = b; mine = false; turns = 0 })) refl
    go false false = kin_self n.state

-- THE COUNTS OF A NODE: what holds of them holds whatever comes.
-- of a transfer with the same counts
counts_well : {pages : ℕ} {x y : Transfer} → Counts x y → PassWell pages x → PassWell pages y
counts_well {pages = pages} {x = x} {y = y} k h =
    record { turns = subst⁻¹ (λ z. 1 ≤ z) k.turns h.turns; prev = subst⁻¹ (λ z. 1 ≤ z) k.prev h.prev; cursor = subst⁻¹ (λ z. z ≤ pages) k.cursor h.cursor; sent = let a = k.sent in let b = k.cursor in let c = h.sent in omega arith; below = λ q l. ap (λ u. member u q) k.unsent ∙ h.below q (let b = k.cursor in omega arith) }

-- Of a kin.
pub kin_paced : (pages : ℕ) {s : State} (h : State) → Kin s h → Paced pages s → Paced pages h
kin_paced pages Away k p = tt
kin_paced pages (Receiving r) k p = tt
kin_paced pages (Running r) k p = tt
kin_paced pages (Copying y) k p = let z = k.copying y refl in counts_well z.2 (subst (Paced pages) z.1 p)
kin_paced pages (Paused y) k p =
    let z = k.paused y refl in
    let w : PauseWell pages z.0 = subst (Paced pages) z.1 p in
    record { pass = counts_well z.2 w.pass; turns = z.2.turns ∙ w.turns ∙ sym z.3; most = subst⁻¹ (λ t. t ≤ 27) z.3 w.most; prev = subst⁻¹ (λ t. t ≤ 37) z.2.prev w.prev }
kin_paced pages (Committed x) k p = tt

-- After all letters of a turn.
pub heard_paced : {pages : ℕ} {n m : Node} → Heard pages n m → Paced pages n.state → Paced pages m.state
heard_paced {pages = pages} {m = m} h p = kin_paced pages m.state (heard_kin h) p

-- a turn more of a pass; a new one, after x or after none
tick_well : {pages : ℕ} (x : Transfer) → PassWell pages x → PassWell pages (ticked x)
tick_well x h = record { turns = omega arith; prev = h.prev; cursor = h.cursor; sent = h.sent; below = h.below }

begin_well : (pages : ℕ) (x : Transfer) → x.cursor ≡ 0 → x.sent ≡ 0 → 1 ≤ x.turns → 1 ≤ past x → PassWell pages x
begin_well pages x c s t v = record { turns = t; prev = v; cursor = omega arith; sent = omega arith; below = λ q l. absurd (omega arith) }

anew_well : {pages : ℕ} (x : Transfer) → PassWell pages x → PassWell pages (ticked (anew x))
anew_well {pages = pages} x h = begin_well pages (ticked (anew x)) refl refl (omega arith) h.turns

afresh_well : (pages : ℕ) (x : Transfer) → PassWell pages (ticked (afresh x))
afresh_well pages x = begin_well pages (ticked (afresh x)) refl refl (omega arith) (omega arith)

new_well : {pages : ℕ} {n : Node} {x : Transfer} → New pages n x → PassWell pages (ticked x)
new_well {pages = pages} {x = x} e = let v = ap turns_in e.prev in begin_well pages (ticked x) e.cursor e.sent (omega arith) (omega arith)

-- After what it does by itself.
pub acts_paced : (pages most : ℕ) (told : Bool) (s : State) (n : Node) (w : World) (m : Node) (v : World) → ActedOver pages most told s n w m v → Paced pages s → Paced pages m.state
acts_paced pages most told Away n w m v d p = subst⁻¹ (λ (k : Node). Paced pages k.state) d.0 tt
acts_paced pages most told (Receiving r) n w m v d p = subst⁻¹ (λ (k : Node). Paced pages k.state) d.0 tt
acts_paced pages most told (Running r) n w m v (played.RunOver.stays f e h) p = subst⁻¹ (λ (k : Node). Paced pages k.state) e tt
acts_paced pages most told (Running r) n w m v (played.RunOver.begins c f e h) p = subst⁻¹ (λ (k : Node). Paced pages k.state) h.node (gone_well h.goes h.within (new_well e))
acts_paced pages most told (Copying x) n w m v (played.CopyOver.on f h) p = subst⁻¹ (λ (k : Node). Paced pages k.state) h.node (gone_well h.goes h.within (tick_well x p))
acts_paced pages most told (Copying x) n w m v (played.CopyOver.again f l h) p = subst⁻¹ (λ (k : Node). Paced pages k.state) h.node (gone_well h.goes h.within (anew_well x p))
acts_paced pages most told (Copying x) n w m v (played.CopyOver.stops f l h) p =
    let k = gone_counts h.goes in
    let t = k.turns in
    let a = k.prev in
    subst⁻¹ (λ (k : Node). Paced pages k.state) h.node (record { pass = gone_well h.goes h.within (anew_well x p); turns = t; most = omega arith; prev = omega arith })
acts_paced pages most told (Paused x) n w m v (played.PauseOver.settles f e h) p = subst⁻¹ (λ (k : Node). Paced pages k.state) e tt
acts_paced pages most told (Paused x) n w m v (played.PauseOver.resumes f l h) p = subst⁻¹ (λ (k : Node). Paced pages k.state) h.node (gone_well h.goes h.within (afresh_well pages x.transfer))
acts_paced pages most told (Paused x) n w m v (played.PauseOver.goes f l h r) p =
    let k = gone_counts h.goes in
    let t = k.turns in
    let a = k.prev in
    let b = p.turns in
    let c = p.prev in
    subst⁻¹ (λ (k : Node). Paced pages k.state) h.node (record { pass = gone_well h.goes h.within (tick_well x.transfer p.pass); turns = omega arith; most = omega arith; prev = omega arith })
acts_paced pages most told (Committed x) n w m v d p = subst⁻¹ (λ (k : Node). Paced pages k.state) d.0 tt

-- After a whole turn.
pub turned_paced : {w v : World} {n m : Node} → TurnedOver w n m v → Paced w.pages n.state → Paced w.pages m.state
turned_paced {w = w} {n = n} t p =
    let a = woken ((me w).cell 0) ((me w).cell 1) ((me w).cell 2) n in
    let b = kin_paced w.pages a.state (woken_kin ((me w).cell 0) ((me w).cell 1) ((me w).cell 2) n) p in
    let c = heard_paced t.letters b in
    subst⁻¹ (λ (k : Node). Paced w.pages k.state) t.node (acts_paced w.pages t.most (me t.quiet).told t.heard.state (on_state Away t.heard) t.quiet t.acted t.done t.acts c)

-- HOW LONG A PASS TAKES, in calm rounds.
-- all its turns but the last have looked at pages, or sent some
slow : {pages calm : ℕ} {x : Transfer} → PassWell pages x → Pace pages calm x → x.turns + 3 ≤ calm → 248 * x.turns ≤ 4 * pages + 248
slow {x = x} h p l =
    let a = h.turns in
    let b = h.cursor in
    let c = h.sent in
    let d = p.near (x.turns - 1) (omega arith) (omega arith) in
    omega arith

-- it hasn't been calm for longer than the pass takes
early : {pages calm : ℕ} {x : Transfer} → PassWell pages x → Pace pages calm x → calm < x.turns + 3 → 248 * calm ≤ 4 * pages + 992
early {pages = pages} {calm = calm} {x = x} h p l = elim (cases_lt calm 4) [ inl k ↦ omega arith | inr k ↦ after k ]
  where
    after : 4 ≤ calm → 248 * calm ≤ 4 * pages + 992
    after k =
        let b = h.cursor in
        let c = h.sent in
        let d = p.near (calm - 4) (omega arith) (omega arith) in
        omega arith

-- few pages are due in a pass after a pass in calm rounds, so it is short
short : {pages calm : ℕ} {touched : ℕ → Bool} {x : Transfer} → pages ≤ 4096 → PassWell pages x → CopyPace pages calm touched x → past x + x.turns + 3 ≤ calm → x.turns ≤ 37
short {pages = pages} {touched = touched} {x = x} few h p l =
    let a = h.turns in
    let b = h.cursor in
    let d = p.pace.near (x.turns - 1) (omega arith) (omega arith) in
    let e = p.due (omega arith) in
    let f = p.pace.before l in
    sums pages x.cursor x.sent x.turns (past x) (rest pages touched x) few a b d e f
  where
    sums : (p k s t v r : ℕ) → p ≤ 4096 → 1 ≤ t → k ≤ p → 248 * (t - 1) ≤ k + 3 * s → s + r ≤ 16 * (v + t) → 248 * v ≤ 4 * p + 248 → t ≤ 37
    sums p k s t v r few a b d e f = omega arith

-- The guest stands for less than 32 rounds, and is moved in less than 256 + 8 * pages.
pub in_time : (pages calm still : ℕ) (touched : ℕ → Bool) (s : State) → still ≤ calm → Paced pages s → InPace pages calm still touched s → (still < 32) × (calm < 256 + 8 * pages)
in_time pages calm still touched Away l h p = (omega arith, omega arith)
in_time pages calm still touched (Receiving r) l h p = (omega arith, omega arith)
in_time pages calm still touched (Running r) l h p = (omega arith, omega arith)
in_time pages calm still touched (Copying x) l h p = (let z = p.1 in omega arith, soon p.0 (cases_lt calm (x.turns + 3)) (cases_lt calm (past x + x.turns + 3)))
  where
    soon : CopyPace pages calm touched x → (calm < x.turns + 3) ⊎ (x.turns + 3 ≤ calm) → (calm < past x + x.turns + 3) ⊎ (past x + x.turns + 3 ≤ calm) → calm < 256 + 8 * pages
    soon q (inl k) j = let a = early h q.pace k in omega arith
    soon q (inr k) (inl j) = let a = slow h q.pace k in let b = q.late k j in omega arith
    soon q (inr k) (inr j) = let a = slow h q.pace k in let b = q.later j in let c = q.pace.before j in omega arith
in_time pages calm still touched (Paused x) l h p = let a = h.most in let b = p.late in let c = p.since in (omega arith, omega arith)
in_time pages calm still touched (Committed x) l h p = let a = p.0 in let b = p.1 in (omega arith, omega arith)

-- A CALM ROUND.
-- One turn of a pass in it, from x, as that turn begins, to y.
record Onward (pages calm : ℕ) (x y : Transfer) : Type 0 where
  turns : y.turns ≡ x.turns
  prev : past y ≡ past x
  cursor : x.cursor ≤ y.cursor
  sum : x.cursor + 3 * x.sent ≤ y.cursor + 3 * y.sent
  far : 3 ≤ calm → y.cursor < pages → x.cursor + 3 * x.sent + 248 ≤ y.cursor + 3 * y.sent

-- it looks at pages if none is on its way, and there are asks enough
onward : {pages most : ℕ} {x y : Transfer} (calm : ℕ) → pages ≤ 4096 → PassWell pages x → (3 ≤ calm → length x.window.pages ≡ 0) → (3 ≤ calm → 251 ≤ most) → GoneOn pages most x y → Within pages x y → Onward pages calm x y
onward calm few h empty asks g i =
    let p = gone_counts g in
    record { turns = p.turns; prev = p.prev; cursor = p.cursor; sum = let a = p.cursor in let b = gone_sent g i few h in omega arith; far = λ c l. gone_progress g (empty c) (asks c) few h l }

-- a pass goes on
pace_on : {pages calm : ℕ} {y : Transfer} (x : Transfer) → calm ≤ 40000 → (3 ≤ calm → x.cursor < pages) → Onward pages calm (ticked x) y → Pace pages calm x → Pace pages (calm + 1) y
pace_on {pages = pages} {calm = calm} {y = y} x small within o p =
    record {
      far = λ k a b c. elim (cases_eq k 0) [ inl e ↦ omega arith | inr e ↦ again k e a b c ];
      near = λ k a b.
          let t = o.turns in
          let u = o.sum in
          let f = p.far k (omega arith) (omega arith) (within (omega arith)) in
          omega arith;
      before = λ a.
          let t = o.turns in
          let u = o.prev in
          let f = p.before (omega arith) in
          omega arith;
    }
  where
    again : (k : ℕ) → (k ≡ 0 → ⊥) → k ≤ y.turns → k + 3 ≤ calm + 1 → y.cursor < pages → 248 * k ≤ y.cursor + 3 * y.sent
    again k e a b c =
        let t = o.turns in
        let u = o.cursor in
        let f = p.far (k - 1) (omega arith) (omega arith) (omega arith) in
        let g = o.far (omega arith) c in
        omega arith

-- a pass begins
pace_begin : {pages calm : ℕ} {x y : Transfer} → x.turns ≡ 1 → (past x + 3 ≤ calm → 248 * past x ≤ 4 * pages + 248) → Onward pages calm x y → Pace pages (calm + 1) y
pace_begin {pages = pages} {calm = calm} {x = x} {y = y} one before o =
    record {
      far = λ k a b c. elim (cases_eq k 0) [ inl e ↦ omega arith | inr e ↦ let t = o.turns in let g = o.far (omega arith) c in omega arith ];
      near = λ k a b. let t = o.turns in omega arith;
      before = λ a. let t = o.turns in let u = o.prev in let f = before (omega arith) in omega arith;
    }

-- How the guest writes in it: w, when the host has heard its letters, v, when it has acted; b, how often it has written in the round, and T and U,
-- which pages it has written, at the round's beginning and at its end.
pub record Writes (pages b : ℕ) (T U : ℕ → Bool) (w v : World) : Type 0 where
  pub quiet : w.pages ≡ pages
  pub done : v.pages ≡ pages
  pub busy : b ≤ 16
  pub order : v.busy ≤ b
  pub before : (h : ℕ → Bool → Bool) → Rises h → (n : ℕ) → count (λ q. h q ((me w).touched q)) n ≤ count (λ q. h q (T q)) n + w.busy
  pub after : (h : ℕ → Bool → Bool) → Rises h → (n : ℕ) → count (λ q. h q (U q)) n + v.busy ≤ count (λ q. h q ((me v).touched q)) n + b

-- pages that were looked at and are dirty again
dirties : {pages b : ℕ} {T U : ℕ → Bool} {w v : World} {x y : Transfer} → Writes pages b T U w v → Went x w y v → count U y.cursor ≤ count T x.cursor + b
dirties {x = x} {y = y} r g =
    let a = r.before (λ q b. b) (λ q e. refl) x.cursor in
    let c = r.after (λ q b. b) (λ q e. refl) y.cursor in
    let i = r.busy in
    let j = r.order in
    let d = g.clean (omega arith) in
    omega arith

-- pages that were sent or are still to be sent
dues : {pages b : ℕ} {T U : ℕ → Bool} {w v : World} {x y : Transfer} → Writes pages b T U w v → Went x w y v → y.sent + rest pages U y ≤ x.sent + rest pages T x + b
unfolding todo count_from
dues {pages = pages} {b = b} {T = T} {U = U} {w = w} {v = v} {x = x} {y = y} r g =
    let i = r.busy in
    let j = r.order in
    let a = r.before (λ q b. leb x.cursor q && (b || unsent x q)) (rises_due x.cursor (unsent x)) pages in
    let c = r.after (λ q b. leb y.cursor q && (b || unsent y q)) (rises_due y.cursor (unsent y)) pages in
    let d = g.todo (omega arith) in
    let e : todo x w ≡ count (λ q. leb x.cursor q && ((me w).touched q || unsent x q)) pages = ap (count (λ q. leb x.cursor q && ((me w).touched q || unsent x q))) r.quiet in
    let f : todo y v ≡ count (λ q. leb y.cursor q && ((me v).touched q || unsent y q)) pages = ap (count (λ q. leb y.cursor q && ((me v).touched q || unsent y q))) r.done in
    omega arith

-- a pass that begins where none is unsent has to send what is dirty
all_dirty : (T f : ℕ → Bool) (n : ℕ) → ((q : ℕ) → q < n → f q ≡ false) → count_from (λ q. T q || f q) 0 n ≡ count T n
unfolding count_from
all_dirty T f n h = count_same T (λ q. leb 0 q && (T q || f q)) n (λ q l. rw (le-leb 0 q (omega arith), h q l) (or_false (T q)))
  where
    or_false : (b : Bool) → (b || false) ≡ b
    or_false true = refl
    or_false false = refl

-- of no page none is counted
none_counted : (f : ℕ → Bool) (n : ℕ) → n ≡ 0 → count f n ≡ 0
unfolding count
none_counted f n e = ap (count f) e

-- a pass is over, or it isn't and none is on its way
is_over : (pages : ℕ) (x : Transfer) → over pages x ≡ true → (length x.window.pages ≡ 0) × (x.cursor ≡ pages)
is_over pages x e =
    let p = and_parts (eqb (length x.window.pages) 0) (eqb x.cursor pages) e in
    (eqb-true (length x.window.pages) 0 p.0, eqb-true x.cursor pages p.1)

not_over : (pages : ℕ) (x : Transfer) → over pages x ≡ false → x.cursor ≤ pages → length x.window.pages ≡ 0 → x.cursor < pages
not_over pages x e l z =
    elim (and_cases (eqb (length x.window.pages) 0) (eqb x.cursor pages) e) [
      | inl f ↦ absurd (eqb-false (length x.window.pages) 0 f z)
      | inr f ↦ let d : x.cursor ≡ pages → ⊥ = eqb-false x.cursor pages f in omega arith
    ]

-- what a pass has to send that begins after x
dues_anew : {pages calm b : ℕ} {T U : ℕ → Bool} {w v : World} {y : Transfer} (x : Transfer) → Writes pages b T U w v → x.cursor ≡ pages → Went (ticked (anew x)) w y v → PassWell pages x → CopyPace pages calm T x → x.turns ≤ calm → y.sent + rest pages U y ≤ 16 * (x.turns + 1)
dues_anew {pages = pages} {T = T} {U = U} {y = y} x r e g h p l =
    let i = r.busy in
    let a = dues r g in
    let c : count_from (λ q. T q || unsent x q) 0 pages ≡ count T pages = all_dirty T (unsent x) pages (λ q k. h.below q (omega arith)) in
    let d = p.dirty l in
    let f : count T x.cursor ≡ count T pages = ap (count T) e in
    omega arith

-- The guest is copied: the pass goes on;
copy_on : {pages calm b : ℕ} {T U : ℕ → Bool} {w v : World} {y : Transfer} (x : Transfer) → Writes pages b T U w v → calm ≤ 40000 → (3 ≤ calm → x.cursor < pages) → Onward pages calm (ticked x) y → Went (ticked x) w y v → CopyPace pages calm T x → CopyPace pages (calm + 1) U y
copy_on {pages = pages} {calm = calm} {b = b} {U = U} {y = y} x r small within o g p =
    let t = o.turns in
    let u = o.prev in
    let i = r.busy in
    record {
      pace = pace_on x small within o p.pace;
      dirty = λ a. let c = p.dirty (omega arith) in let d = dirties r g in omega arith;
      due = λ a. let c = p.due (omega arith) in let d = dues r g in omega arith;
      late = λ a e. let c = p.late (omega arith) (omega arith) in omega arith;
      later = λ a. let c = p.later (omega arith) in omega arith;
    }

-- it is over, and another begins;
copy_anew : {pages calm b : ℕ} {T U : ℕ → Bool} {w v : World} {y : Transfer} (x : Transfer) → Writes pages b T U w v → pages ≤ 4096 → x.cursor ≡ pages → 37 < x.turns → Onward pages calm (ticked (anew x)) y → Went (ticked (anew x)) w y v → PassWell pages x → CopyPace pages calm T x → CopyPace pages (calm + 1) U y
copy_anew {pages = pages} {calm = calm} {T = T} x r few e l o g h p =
    let t = o.turns in
    let u = o.prev in
    let i = r.busy in
    record {
      pace = pace_begin refl (λ a. slow h p.pace a) o;
      dirty = λ a. let c = dirties r g in let d = none_counted T 0 refl in omega arith;
      due = λ a. let c = dues_anew x r e g h p (omega arith) in omega arith;
      late = λ a c. let d = early h p.pace (omega arith) in omega arith;
      later = λ a. let d = stay (omega arith) in omega arith;
    }
  where
    stay : x.turns + 3 ≤ calm → 248 * calm ≤ 4 * pages + 248 * (x.turns + 70)
    stay a = elim (cases_lt calm (past x + x.turns + 3)) [ inl c ↦ p.late a c | inr c ↦ let d = short few h p c in absurd (omega arith) ]

-- or a pass begins after none.
copy_afresh : {pages calm b : ℕ} {T U : ℕ → Bool} {w v : World} {x y : Transfer} → Writes pages b T U w v → calm ≤ 66 → x.cursor ≡ 0 → x.turns ≡ 1 → past x ≡ 4294967295 → Onward pages calm x y → Went x w y v → CopyPace pages (calm + 1) U y
copy_afresh {T = T} {x = x} r early c one never o g =
    let t = o.turns in
    let u = o.prev in
    let i = r.busy in
    record {
      pace = pace_begin one (λ a. omega arith) o;
      dirty = λ a. let d = dirties r g in let e = none_counted T x.cursor c in omega arith;
      due = λ a. omega arith;
      late = λ a d. omega arith;
      later = λ a. omega arith;
    }

-- It is stopped, and the pass begins with that;
pause_stops : {pages calm since b : ℕ} {T U : ℕ → Bool} {w v : World} (x : Transfer) (z : Pause) → Writes pages b T U w v → z.turns ≡ 1 → x.cursor ≡ pages → x.turns ≤ 37 → since ≤ 1 → Onward pages calm (ticked (anew x)) z.transfer → Went (ticked (anew x)) w z.transfer v → PassWell pages x → CopyPace pages calm T x → PausePace pages (calm + 1) since U z
pause_stops {pages = pages} {calm = calm} x z r one e l s o g h p =
    let t = o.turns in
    let u = o.prev in
    record {
      pace = pace_begin refl (λ a. slow h p.pace a) o;
      due = λ a. let c = dues_anew x r e g h p (omega arith) in omega arith;
      late = let d = soon (cases_lt calm (x.turns + 3)) (cases_lt calm (past x + x.turns + 3)) in omega arith;
      since = omega arith;
    }
  where
    soon : (calm < x.turns + 3) ⊎ (x.turns + 3 ≤ calm) → (calm < past x + x.turns + 3) ⊎ (past x + x.turns + 3 ≤ calm) → 248 * calm ≤ 8 * pages + 248 * 108
    soon (inl k) j = omega arith
    soon (inr k) (inl j) = let a = p.late k j in omega arith
    soon (inr k) (inr j) = let a = p.later j in let c = p.pace.before j in omega arith

-- or it stands, and the pass goes on.
pause_goes : {pages calm still since b : ℕ} {T U : ℕ → Bool} {w v : World} (x z : Pause) → Writes pages b T U w v → b ≡ 0 → z.turns ≡ x.turns + 1 → x.turns < 27 → since ≤ still + 1 → calm ≤ 40000 → (3 ≤ calm → x.transfer.cursor < pages) → Onward pages calm (ticked x.transfer) z.transfer → Went (ticked x.transfer) w z.transfer v → PauseWell pages x → PausePace pages calm still T x → PausePace pages (calm + 1) since U z
pause_goes x z r idle next l s small within o g h p =
    let t = o.turns in
    let u = o.prev in
    let k = h.turns in
    record {
      pace = pace_on x.transfer small within o p.pace;
      due = λ a. let c = p.due (omega arith) in let d = dues r g in omega arith;
      late = let c = p.late in omega arith;
      since = let c = p.since in omega arith;
    }

-- A guest that has stood for 27 turns and isn't moved yet can't have stood in calm rounds alone.
pause_early : {pages calm still : ℕ} {T : ℕ → Bool} (x : Pause) → pages ≤ 4096 → 27 ≤ x.turns → (3 ≤ calm → x.transfer.cursor < pages) → PauseWell pages x → PausePace pages calm still T x → calm ≤ 66
pause_early {pages = pages} {calm = calm} {T = T} x few l within h p = elim (cases_lt calm (past x.transfer + x.transfer.turns + 3)) [ inl k ↦ sooner k | inr k ↦ absurd (never k) ]
  where
    sooner : calm < past x.transfer + x.transfer.turns + 3 → calm ≤ 66
    sooner k = let a = h.turns in let b = h.most in let c = h.prev in omega arith

    sums : (p k s t v r : ℕ) → p ≤ 4096 → 27 ≤ t → k < p → v ≤ 37 → 248 * t ≤ k + 3 * s → s + r ≤ 16 * (v + 1) → ⊥
    sums p k s t v r few l a b c d = omega arith

    never : past x.transfer + x.transfer.turns + 3 ≤ calm → ⊥
    never k =
        let a = h.turns in
        let c = within (omega arith) in
        sums pages x.transfer.cursor x.transfer.sent x.transfer.turns (past x.transfer) (rest pages T x.transfer) few (omega arith) c h.prev (p.pace.far x.transfer.turns (omega arith) (omega arith) c) (p.due (omega arith))

-- HEARING changes nothing of the pace.
-- what is still to be sent
counts_rest : (pages : ℕ) (T : ℕ → Bool) {x y : Transfer} → Counts x y → rest pages T y ≡ rest pages T x
counts_rest pages T {x = x} {y = y} k =
    ap (λ u. count_from (λ q. T q || member u q) y.cursor pages) k.unsent ∙ ap (λ c. count_from (λ q. T q || member x.unsent q) c pages) k.cursor

-- the pace of a pass
counts_pace : {pages calm : ℕ} {x y : Transfer} → Counts x y → Pace pages calm x → Pace pages calm y
counts_pace k p =
    let c = k.cursor in
    let s = k.sent in
    let t = k.turns in
    let v = k.prev in
    record {
      far = λ i a b d. let e = p.far i (omega arith) b (omega arith) in omega arith;
      near = λ i a b. let e = p.near i (omega arith) b in omega arith;
      before = λ a. let e = p.before (omega arith) in omega arith;
    }

-- of a guest that is copied
counts_copy : {pages calm : ℕ} {T : ℕ → Bool} {x y : Transfer} → Counts x y → CopyPace pages calm T x → CopyPace pages calm T y
counts_copy {pages = pages} {T = T} {x = x} {y = y} k p =
    let s = k.sent in
    let t = k.turns in
    let v = k.prev in
    let r = counts_rest pages T k in
    let d : count T y.cursor ≡ count T x.cursor = ap (count T) k.cursor in
    record {
      pace = counts_pace k p.pace;
      dirty = λ a. let e = p.dirty (omega arith) in omega arith;
      due = λ a. let e = p.due (omega arith) in omega arith;
      late = λ a b. let e = p.late (omega arith) (omega arith) in omega arith;
      later = λ a. let e = p.later (omega arith) in omega arith;
    }

-- of one that stands
counts_pause : {pages calm still : ℕ} {T : ℕ → Bool} {x y : Pause} → Counts x.transfer y.transfer → y.turns ≡ x.turns → PausePace pages calm still T x → PausePace pages calm still T y
counts_pause {pages = pages} {T = T} {x = x} {y = y} k n p =
    let s = k.sent in
    let t = k.turns in
    let v = k.prev in
    let r = counts_rest pages T k in
    record {
      pace = counts_pace k p.pace;
      due = λ a. let e = p.due (omega arith) in omega arith;
      late = let e = p.late in omega arith;
      since = let e = p.since in omega arith;
    }

-- What is known of a calm round of the host that has the guest. calm: how many have gone by before it; still, since: in how many the guest has
-- stood, before it and after it; s0: the host's state at its beginning, s: when it has heard its letters, m: its node when it has acted.
-- b, T, U: how the guest writes; most: how often the host may ask when it acts.
pub record Calm (pages calm still since b most : ℕ) (T U : ℕ → Bool) (s0 s : State) (w : World) (m : Node) (v : World) : Type 0 where
  pub few : pages ≤ 4096
  pub writes : Writes pages b T U w v
  pub kin : Kin s0 s
  pub paced : Paced pages s0
  pub less : still ≤ calm
  pub ready : 3 ≤ calm → (x : Transfer) → moving s ≡ Some x → length x.window.pages ≡ 0
  pub asks : 3 ≤ calm → 252 ≤ most
  pub run : (r : Run) → s ≡ Running r → calm ≤ 2
  pub again : (x : Commitment) → s ≡ Committed x → calm ≤ 1
  pub idle : (x z : Pause) → s ≡ Paused x → m.state ≡ Paused z → b ≡ 0
  pub tried : (t : ℕ) × (tries m.state ≡ Some t)
  pub next : since ≤ still + 1
  pub copies : (x : Transfer) → m.state ≡ Copying x → since ≡ 0

-- from Copying
copying_in_pace : {pages calm still since b most : ℕ} {T U : ℕ → Bool} {s0 : State} {x : Transfer} {n : Node} {w : World} {m : Node} {v : World} → Calm pages calm still since b most T U s0 (Copying x) w m v → CopyOver pages most x n w m v → calm ≤ 40000 → PassWell pages x → CopyPace pages calm T x → still ≡ 0 → InPace pages (calm + 1) since U m.state
copying_in_pace {pages = pages} {calm = calm} {since = since} {U = U} {x = x} r (played.CopyOver.on f d) small h p z =
    let a : 3 ≤ calm → length x.window.pages ≡ 0 = λ k. r.ready k x refl in
    subst⁻¹ (λ (k : Node). InPace pages (calm + 1) since U k.state) d.node
    (copy_on x r.writes small (λ k. not_over pages x f h.cursor (a k)) (onward calm r.few (tick_well x h) a (λ k. let i = r.asks k in omega arith) d.goes d.within) d.went p, r.copies d.after (ap (λ (k : Node). k.state) d.node))
copying_in_pace {pages = pages} {calm = calm} {since = since} {U = U} {x = x} r (played.CopyOver.again f l d) small h p z =
    let a = is_over pages x f in
    subst⁻¹ (λ (k : Node). InPace pages (calm + 1) since U k.state) d.node
    (copy_anew x r.writes r.few a.1 l (onward calm r.few (anew_well x h) (λ k. a.0) (λ k. let i = r.asks k in omega arith) d.goes d.within) d.went h p, r.copies d.after (ap (λ (k : Node). k.state) d.node))
copying_in_pace {pages = pages} {calm = calm} {since = since} {U = U} {x = x} r (played.CopyOver.stops f l d) small h p z =
    let a = is_over pages x f in
    let i = r.next in
    subst⁻¹ (λ (k : Node). InPace pages (calm + 1) since U k.state) d.node
    (pause_stops x (record { transfer = d.after; right = record { attempt = x.attempt }; turns = 1 }) r.writes refl a.1 l (omega arith) (onward calm r.few (anew_well x h) (λ k. a.0) (λ k. let i = r.asks k in omega arith) d.goes d.within) d.went h p)

-- from Paused
pausing_in_pace : {pages calm still since b most : ℕ} {T U : ℕ → Bool} {s0 : State} {x : Pause} {n : Node} {w : World} {m : Node} {v : World} → Calm pages calm still since b most T U s0 (Paused x) w m v → PauseOver pages most x n w m v → calm ≤ 40000 → PauseWell pages x → PausePace pages calm still T x → InPace pages (calm + 1) since U m.state
pausing_in_pace {pages = pages} {calm = calm} {since = since} {U = U} r (played.PauseOver.settles f e d) small h p =
    let a = r.next in
    let b = h.most in
    let c = p.late in
    let g = p.since in
    subst⁻¹ (λ (k : Node). InPace pages (calm + 1) since U k.state) e (omega arith, omega arith)
pausing_in_pace {pages = pages} {calm = calm} {since = since} {U = U} {x = x} r (played.PauseOver.resumes f l d) small h p =
    let a : 3 ≤ calm → length x.transfer.window.pages ≡ 0 = λ k. r.ready k x.transfer refl in
    let c = pause_early x r.few l (λ k. not_over pages x.transfer f h.pass.cursor (a k)) h p in
    subst⁻¹ (λ (k : Node). InPace pages (calm + 1) since U k.state) d.node
    (copy_afresh r.writes c refl refl refl (onward calm r.few (afresh_well pages x.transfer) a (λ k. let i = r.asks k in omega arith) d.goes d.within) d.went, r.copies d.after (ap (λ (k : Node). k.state) d.node))
pausing_in_pace {pages = pages} {calm = calm} {since = since} {U = U} {x = x} r (played.PauseOver.goes f l d e) small h p =
    let a : 3 ≤ calm → length x.transfer.window.pages ≡ 0 = λ k. r.ready k x.transfer refl in
    let z : Pause = record { transfer = d.after; right = record { attempt = x.right.attempt }; turns = x.turns + 1 } in
    subst⁻¹ (λ (k : Node). InPace pages (calm + 1) since U k.state) d.node
    (pause_goes x z r.writes (r.idle x z refl (ap (λ (k : Node). k.state) d.node)) refl l r.next small (λ k. not_over pages x.transfer f h.pass.cursor (a k)) (onward calm r.few (tick_well x.transfer h.pass) a (λ k. let i = r.asks k in omega arith) d.goes d.within) d.went h p)

-- a host that tries nothing after its turn
none_tried : {A : Type 0} (s : State) → tries s ≡ None → (t : ℕ) × (tries s ≡ Some t) → A
none_tried s e f = let g = sym e ∙ f.1 in let z : ◌≡◌ {A = ℕ} 0 1 = cc in absurd (omega arith)

-- from Running
running_in_pace : {pages calm still since b most : ℕ} {T U : ℕ → Bool} {told : Bool} {s0 : State} {x : Run} {n : Node} {w : World} {m : Node} {v : World} → Calm pages calm still since b most T U s0 (Running x) w m v → RunOver pages most told x n w m v → InPace pages (calm + 1) since U m.state
running_in_pace {m = m} r (played.RunOver.stays f e d) = none_tried m.state (ap (λ (k : Node). tries k.state) e) r.tried
running_in_pace {pages = pages} {calm = calm} {since = since} {U = U} {x = x} r (played.RunOver.begins c f e d) =
    let a = r.run x refl in
    let t = e.turns in
    subst⁻¹ (λ (k : Node). InPace pages (calm + 1) since U k.state) d.node
    (copy_afresh r.writes (omega arith) e.cursor (omega arith) (ap turns_in e.prev) (onward calm r.few (new_well e) (λ k. absurd (omega arith)) (λ k. absurd (omega arith)) d.goes d.within) d.went, r.copies d.after (ap (λ (k : Node). k.state) d.node))

-- THE PACE IS KEPT: what holds after `calm` rounds holds after one more.
pub in_pace : {pages calm still since b most : ℕ} {T U : ℕ → Bool} {s0 : State} {w : World} {m : Node} {v : World} (told : Bool) (s : State) (n : Node) → Calm pages calm still since b most T U s0 s w m v → ActedOver pages most told s n w m v → InPace pages calm still T s0 → InPace pages (calm + 1) since U m.state
in_pace {m = m} told Away n r d p = none_tried m.state (ap (λ (k : Node). tries k.state) d.0) r.tried
in_pace {m = m} told (Receiving x) n r d p = none_tried m.state (ap (λ (k : Node). tries k.state) d.0) r.tried
in_pace told (Running x) n r d p = running_in_pace r d
in_pace {pages = pages} {calm = calm} {still = still} {T = T} {s0 = s0} told (Copying x) n r d p =
    let i = (in_time pages calm still T s0 r.less r.paced p).1 in
    let f = r.few in
    let k = r.kin.copying x refl in
    let q : CopyPace pages calm T k.0 × (still ≡ 0) = subst (InPace pages calm still T) k.1 p in
    copying_in_pace r d (omega arith) (kin_paced pages (Copying x) r.kin r.paced) (counts_copy k.2 q.0) q.1
in_pace {pages = pages} {calm = calm} {still = still} {T = T} {s0 = s0} told (Paused x) n r d p =
    let i = (in_time pages calm still T s0 r.less r.paced p).1 in
    let f = r.few in
    let k = r.kin.paused x refl in
    let q : PausePace pages calm still T k.0 = subst (InPace pages calm still T) k.1 p in
    pausing_in_pace r d (omega arith) (kin_paced pages (Paused x) r.kin r.paced) (counts_pause k.2 k.3 q)
in_pace {pages = pages} {calm = calm} {since = since} {U = U} told (Committed x) n r d p =
    let a = r.again x refl in
    let b = r.less in
    let c = r.next in
    subst⁻¹ (λ (k : Node). InPace pages (calm + 1) since U k.state) d.0 (omega arith, omega arith)
