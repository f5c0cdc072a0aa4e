-- What a quiet turn makes of the line: all that waits is heard, and what waits after it is what the host asks, or its answer.
-- Assumes nothing.
use Rattle.std.proofs.Common.{◌≡◌, ℕ, suc, ◌+◌, ◌-◌, ◌%◌, ◌<◌, ◌≤◌, Bool, true, false, cond, not, ◌||◌, ◌⊎◌, List, [], ◌∷◌, ◌++◌, length, get_or, take, drop, Some, None, Option, sym, refl, ap, ◌∙◌, subst, inl, inr, arith, le-ltb, lt-ltb, eq-eqb, ne_eqb, eqb-true, le-leb}
use Rattle.std.proofs.lemmas.Option.{same_Some}
use Rattle.std.proofs.lemmas.List.{length-drop}
use borrow.Author.Tests.{lt-leb}
use Rattle.std.proofs.lemmas.Bool.{cases_Bool, cases_eq, cases_lt, or_parts}
use Rattle.letter.specs.declared.Kind.{Kind}
use Rattle.letter.specs.declared.Kind.TheVariants.{Probe, Page, Commit, Ack, Refuse}
use Rattle.letter.specs.declared.Letter.{Letter}
use Rattle.letter.specs.Words.{head}
use Rattle.letter.proofs.Spell.{head_letter}
use Rattle.window.specs.Pages.{Flying}
use Rattle.moving.specs.declared.Node.{Node}
use Rattle.moving.specs.declared.state.Transfer.{Transfer}
use Rattle.moving.specs.declared.state.Running.{Running as Run}
use Rattle.moving.specs.declared.state.Paused.{Paused as Pause}
use Rattle.moving.specs.declared.state.Committed.{Committed as Commitment}
use Rattle.moving.specs.declared.state.State.{State}
use Rattle.moving.specs.declared.state.State.TheVariants.{Away, Receiving, Running, Copying, Paused, Committed}
use Rattle.moving.specs.Hosts.{World, me}
use Rattle.moving.specs.Model.{moving, on_state, on_top, asked_for, runs_again, begins, is_next, taken, refused_in, refused, acked_in, heeded, heeded_if, acked, woke, silent, answer_in}
use Rattle.moving.specs.Invariant.{View, Both, Whole, Carries, NotReceiving, end, flip, runner, keeper}
use Rattle.moving.specs.Over.{TurnedOver, ActedOver, RunOver, RunOver.stays, RunOver.begins as starts, CopyOver.on, CopyOver.again, CopyOver.stops, PauseOver.settles, PauseOver.resumes as goes_back, PauseOver.goes}
use Rattle.moving.specs.Calm.{Calmly, Still, Added, row_here, row_there, heads, hears, page_heads, asked_of, answer_head, reply_to, reply_of, SentIf}
use Rattle.moving.specs.Time.{tries, asks, HasAsked, With, With.receives as in_step, With.soon, Acknowledged, Refused}
use Rattle.moving.proofs.Moves.{no, clash, none_some}
use Rattle.moving.proofs.Steps.{seen}
use Rattle.moving.proofs.Acts.{gone_attempt}

-- FOLDING LETTERS
-- a node that receives the attempt t, up to the place next
abbrev pub receiving : Node → (t next : ℕ) → Node
receiving n t next = on_state (Receiving (record { attempt = t; next = next })) n

-- the letter that begins with the words head k t s p, with the words us behind them
abbrev said : Kind → (t s p : ℕ) → List ℕ → Letter
said k t s p us = record { kind = k; attempt = t; place = s; page = p; words = us }

-- each is a page of the guest
abbrev pub Each : ℕ → List ℕ → Type 0
Each pages [] = Unit {0}
Each pages (p ∷ ps) = (p < pages) × Each pages ps

-- if each in its place is one
pub each : (pages : ℕ) (ps : List ℕ) → ((k : ℕ) → k < length ps → get_or ps k 0 < pages) → Each pages ps
each pages [] f = tt
each pages (p ∷ ps) f = (f 0 (omega arith), each pages ps (λ k l. f (suc k) (omega arith)))

-- a first letter, whose head is known
first : (pages : ℕ) (n : Node) (x : List ℕ) (r : List (List ℕ)) (k : Kind) (t s p : ℕ) → take 8 x ≡ head k t s p → p < 4294967296 → hears pages n (x ∷ r) ≡ hears pages (heeded pages (said k t s p (take 64 (drop 8 x))) n) r
unfolding hears
first pages n x r k t s p e l = ap (λ (o : Option Letter). hears pages (heeded_if pages o n) r) (head_letter x k t s p e l)

-- a page at the place that is next is put
page_now : (pages : ℕ) (n : Node) (t s p : ℕ) (us : List ℕ) → p < pages → heeded pages (said Page t s p us) (receiving n t s) ≡ receiving n t (s + 1)
page_now pages n t s p us l = rw (eq-eqb t t refl, eq-eqb s s refl, lt-ltb p pages l)

-- one before it changes nothing
page_before : (pages : ℕ) (n : Node) (t next s p : ℕ) (us : List ℕ) → s < next → heeded pages (said Page t s p us) (receiving n t next) ≡ receiving n t next
page_before pages n t next s p us l = rw (eq-eqb t t refl, ne_eqb next s (λ e. omega arith))

-- a row of none leaves the node
pub hears_none : (pages : ℕ) (n : Node) (r : List (List ℕ)) → r ≡ [] → hears pages n r ≡ n
unfolding hears
hears_none pages n r e = ap (hears pages n) e

-- pages at the places from s on, of which some may have come before: all are put
pub hears_pages : (pages : ℕ) (n : Node) (t s next : ℕ) (ps : List ℕ) (r : List (List ℕ)) → pages ≤ 4096 → Each pages ps → heads r ≡ page_heads t s ps → s ≤ next → next ≤ s + length ps → hears pages (receiving n t next) r ≡ receiving n t (s + length ps)
unfolding page_heads heads hears
hears_pages pages n t s next [] [] g a e l m = let d : next ≡ s + 0 = omega arith in ap (receiving n t) d
hears_pages pages n t s next [] (x ∷ r) g a e l m = absurd (omega (arith, ap length e))
hears_pages pages n t s next (p ∷ ps) [] g a e l m = absurd (omega (arith, ap length e))
hears_pages pages n t s next (p ∷ ps) (x ∷ r) g a e l m =
    let e0 : take 8 x ≡ head Page t s p = cc in
    let e1 : heads r ≡ page_heads t (s + 1) ps = cc in
    let lt : p < pages = a.0 in
    let us : List ℕ = take 64 (drop 8 x) in
    let d : s + 1 + length ps ≡ s + length (p ∷ ps) = omega arith in
    let one = first pages (receiving n t next) x r Page t s p e0 (omega arith) in
    elim (cases_eq next s) [
      | inl q ↦
          one ∙ ap (λ (y : ℕ). hears pages (heeded pages (said Page t s p us) (receiving n t y)) r) q
          ∙ ap (λ (y : Node). hears pages y r) (page_now pages n t s p us lt)
          ∙ hears_pages pages n t (s + 1) (s + 1) ps r g a.1 e1 (omega arith) (omega arith) ∙ ap (receiving n t) d
      | inr q ↦
          one ∙ ap (λ (y : Node). hears pages y r) (page_before pages n t next s p us (omega arith))
          ∙ hears_pages pages n t (s + 1) next ps r g a.1 e1 (omega arith) (omega arith) ∙ ap (receiving n t) d
    ]

-- pages of an attempt that isn't received are passed over
passed_over : (pages : ℕ) (n : Node) (t s p : ℕ) (us : List ℕ) → NotReceiving t n → heeded pages (said Page t s p us) n ≡ n
passed_over pages n t s p us f = rw (go n.state refl)
  where
    go : (z : State) → n.state ≡ z → is_next pages (said Page t s p us) z ≡ false
    go Away e = refl
    go (Receiving x) e = rw (ne_eqb x.attempt t (f x e))
    go (Running x) e = refl
    go (Copying x) e = refl
    go (Paused x) e = refl
    go (Committed x) e = refl

-- all of them
pub hears_past : (pages : ℕ) (n : Node) (t s : ℕ) (ps : List ℕ) (r : List (List ℕ)) → pages ≤ 4096 → Each pages ps → NotReceiving t n → heads r ≡ page_heads t s ps → hears pages n r ≡ n
unfolding page_heads heads hears
hears_past pages n t s [] [] g a f e = refl
hears_past pages n t s [] (x ∷ r) g a f e = absurd (omega (arith, ap length e))
hears_past pages n t s (p ∷ ps) [] g a f e = absurd (omega (arith, ap length e))
hears_past pages n t s (p ∷ ps) (x ∷ r) g a f e =
    let e0 : take 8 x ≡ head Page t s p = cc in
    let e1 : heads r ≡ page_heads t (s + 1) ps = cc in
    let lt : p < pages = a.0 in
    first pages n x r Page t s p e0 (omega arith)
    ∙ ap (λ (y : Node). hears pages y r) (passed_over pages n t s p (take 64 (drop 8 x)) f)
    ∙ hears_past pages n t (s + 1) ps r g a.1 f e1

-- A PROBE AND A WINDOW. The attempt is new and may begin here: it's received, and the whole window is put.
pub hears_new : (pages : ℕ) (n : Node) (t : ℕ) (v : Flying) (r : List (List ℕ)) → pages ≤ 4096 → Each pages v.pages → v.base ≡ 0 → n.top < t → begins n.state ≡ true → heads r ≡ asked_of t v
    → hears pages n r ≡ asked_for t (on_top t (Receiving (record { attempt = t; next = v.base + length v.pages })) n)
unfolding heads
hears_new pages n t v [] g a z h b e = absurd (omega (arith, ap length e))
hears_new pages n t v (x ∷ r) g a z h b e =
    let e0 : take 8 x ≡ head Probe t 0 0 = cc in
    let e1 : heads r ≡ page_heads t v.base v.pages = cc in
    let m : Node = asked_for t (on_top t n.state n) in
    let d : heeded pages (said Probe t 0 0 (take 64 (drop 8 x))) n ≡ receiving m t 0 = rw (lt-ltb n.top t h, b) in
    first pages n x r Probe t 0 0 e0 (omega arith) ∙ ap (λ (y : Node). hears pages y r) d
    ∙ hears_pages pages m t v.base 0 v.pages r g a e1 (omega arith) (omega arith)

-- a probe that begins nothing
probe_past : (pages : ℕ) (n : Node) (t : ℕ) (us : List ℕ) → t ≤ n.top → heeded pages (said Probe t 0 0 us) n ≡ asked_for t n
probe_past pages n t us h = rw (le-ltb n.top t h)

-- the attempt is received here: the whole window is put
pub hears_old : (pages : ℕ) (n : Node) (t next : ℕ) (v : Flying) (r : List (List ℕ)) → pages ≤ 4096 → Each pages v.pages → n.top ≡ t → n.state ≡ Receiving (record { attempt = t; next = next }) → v.base ≤ next → next ≤ v.base + length v.pages → heads r ≡ asked_of t v
    → hears pages n r ≡ asked_for t (on_state (Receiving (record { attempt = t; next = v.base + length v.pages })) n)
unfolding heads
hears_old pages n t next v [] g a h b lo hi e = absurd (omega (arith, ap length e))
hears_old pages n t next v (x ∷ r) g a h b lo hi e =
    let e0 : take 8 x ≡ head Probe t 0 0 = cc in
    let e1 : heads r ≡ page_heads t v.base v.pages = cc in
    let m : Node = asked_for t n in
    let d : m ≡ receiving m t next = ap (λ (z : State). on_state z m) b in
    first pages n x r Probe t 0 0 e0 (omega arith) ∙ ap (λ (y : Node). hears pages y r) (probe_past pages n t (take 64 (drop 8 x)) (omega arith) ∙ d)
    ∙ hears_pages pages m t v.base next v.pages r g a e1 (omega arith) (omega arith)

-- the attempt is over here: it was asked for, and that is all
pub hears_dead : (pages : ℕ) (n : Node) (t : ℕ) (v : Flying) (r : List (List ℕ)) → pages ≤ 4096 → Each pages v.pages → t ≤ n.top → NotReceiving t n → heads r ≡ asked_of t v → hears pages n r ≡ asked_for t n
unfolding heads
hears_dead pages n t v [] g a h f e = absurd (omega (arith, ap length e))
hears_dead pages n t v (x ∷ r) g a h f e =
    let e0 : take 8 x ≡ head Probe t 0 0 = cc in
    let e1 : heads r ≡ page_heads t v.base v.pages = cc in
    first pages n x r Probe t 0 0 e0 (omega arith) ∙ ap (λ (y : Node). hears pages y r) (probe_past pages n t (take 64 (drop 8 x)) h)
    ∙ hears_past pages (asked_for t n) t v.base v.pages r g a f e1

-- ONE LETTER ALONE
-- one letter, whose head is known
alone : (pages : ℕ) (n : Node) (k : Kind) (t s : ℕ) (r : List (List ℕ)) → heads r ≡ head k t s 0 ∷ [] → (us : List ℕ) × (hears pages n r ≡ heeded pages (said k t s 0 us) n)
unfolding heads hears
alone pages n k t s [] e = absurd (omega (arith, ap length e))
alone pages n k t s (x ∷ []) e = let e0 : take 8 x ≡ head k t s 0 = cc in (take 64 (drop 8 x), first pages n x [] k t s 0 e0 (omega arith))
alone pages n k t s (x ∷ y ∷ r) e = absurd (omega (arith, ap length e))

-- a commit
pub hears_commit : (pages : ℕ) (n : Node) (t : ℕ) (r : List (List ℕ)) → heads r ≡ head Commit t 0 0 ∷ [] → hears pages n r ≡ taken t n
hears_commit pages n t r e = (alone pages n Commit t 0 r e).1

-- an acknowledgement
pub hears_ack : (pages : ℕ) (n : Node) (t s : ℕ) (r : List (List ℕ)) → heads r ≡ head Ack t s 0 ∷ [] → hears pages n r ≡ on_state (acked_in t s n.state) n
hears_ack pages n t s r e = (alone pages n Ack t s r e).1

-- a refusal
pub hears_refuse : (pages : ℕ) (n : Node) (t : ℕ) (r : List (List ℕ)) → heads r ≡ head Refuse t 0 0 ∷ [] → hears pages n r ≡ refused t n
hears_refuse pages n t r e = (alone pages n Refuse t 0 r e).1

-- A WHOLE WINDOW IS ACKNOWLEDGED: it's empty after that, begins where it ended, and all else is as it was.
pub record Emptied (c d : Transfer) : Type 0 where
  pub attempt : d.attempt ≡ c.attempt
  pub empty : length d.window.pages ≡ 0
  pub base : d.window.base ≡ end c
  pub ends : end d ≡ end c
  pub unsent : d.unsent ≡ c.unsent
  pub cursor : d.cursor ≡ c.cursor
  pub sent : d.sent ≡ c.sent
  pub turns : d.turns ≡ c.turns
  pub prev : d.prev ≡ c.prev
  pub same : length c.window.pages ≡ 0 → d ≡ c

-- that is so of each transfer
pub acked_all : (c : Transfer) → Emptied c (acked c.attempt (end c) c)
acked_all c =
    elim (cases_eq (length c.window.pages) 0) [
      | inl q ↦
          rw (eq-eqb c.attempt c.attempt refl, le-ltb c.window.base (end c) (omega arith)) (record { attempt = refl; empty = q; base = omega arith; ends = refl; unsent = refl; cursor = refl; sent = refl; turns = refl; prev = refl; same = λ _. refl })
      | inr q ↦
          rw (eq-eqb c.attempt c.attempt refl, lt-ltb c.window.base (end c) (omega arith), le-leb (end c) (end c) (omega arith))
          (record { attempt = refl; empty = omega (arith, length-drop (end c - c.window.base) c.window.pages); base = omega arith; ends = omega (arith, length-drop (end c - c.window.base) c.window.pages); unsent = refl; cursor = refl; sent = refl; turns = refl; prev = refl; same = λ e. absurd (q e) })
    ]

-- A QUIET TURN
-- From w to v calmly, and no letter of the host's own has come or gone.
record Calm (w v : World) : Type 0 where
  calmly : Calmly w v
  own : row_here v ≡ row_here w

-- so is what a host does by itself
acts_calm : (pages most : ℕ) (told : Bool) (s : State) (n : Node) (w : World) (m : Node) (v : World) → ActedOver pages most told s n w m v → Calm w v
acts_calm pages most told Away n w m v a = record { calmly = a.1.calmly; own = a.1.own }
acts_calm pages most told (Receiving x) n w m v a = record { calmly = a.1.calmly; own = a.1.own }
acts_calm pages most told (Running x) n w m v (stays e f k) = record { calmly = k.calmly; own = k.own }
acts_calm pages most told (Running x) n w m v (starts c e f k) = record { calmly = k.went.calmly; own = k.went.own }
acts_calm pages most told (Copying x) n w m v (on e k) = record { calmly = k.went.calmly; own = k.went.own }
acts_calm pages most told (Copying x) n w m v (again e f k) = record { calmly = k.went.calmly; own = k.went.own }
acts_calm pages most told (Copying x) n w m v (stops e f k) = record { calmly = k.went.calmly; own = k.went.own }
acts_calm pages most told (Paused x) n w m v (settles e f k) = record { calmly = k.calmly; own = k.own }
acts_calm pages most told (Paused x) n w m v (goes_back e f k) = record { calmly = k.went.calmly; own = k.went.own }
acts_calm pages most told (Paused x) n w m v (goes e f k r) = record { calmly = k.went.calmly; own = k.went.own }
acts_calm pages most told (Committed x) n w m v a = record { calmly = a.1.calmly; own = a.1.own }

-- and its answer
sent_calm : (h : Option (List ℕ)) (w v : World) → SentIf h w v → Calm w v
sent_calm None w v k = record { calmly = k.calmly; own = k.own }
sent_calm (Some h) w v k = record { calmly = k.calmly; own = k.own }

-- What is known of each quiet turn: it was quiet all the time, all letters were heard, and none waits for the host after it.
-- If the guest is still to be moved, it was all the time, and is where it was.
pub record Quiet {w v : World} {n m : Node} (u : TurnedOver w n m v) : Type 0 where
  pub turn : v.turn ≡ w.turn
  pub first : u.quiet.turn ≡ w.turn
  pub early : u.quiet.rough ≡ false
  pub late : u.done.rough ≡ false
  pub heard : n.awake ≡ true → u.heard ≡ hears w.pages n (row_here w)
  pub none : row_here v ≡ []
  pub wish : v.wish ≡ true → (u.quiet.wish ≡ true) × (u.quiet.last ≡ w.last) × (v.last ≡ w.last)

-- that is so if the world isn't rough after it
pub quiet : {i m : ℕ} {w v : World} {n l o : Node} (u : TurnedOver w n l v) → Whole i m [] n o w → length (row_here w) ≤ 64 → v.rough ≡ false → Quiet u
unfolding row_here
quiet {w = w} {v = v} {n = n} u h few q =
    let a = acts_calm w.pages u.most (me u.quiet).told u.heard.state (on_state Away u.heard) u.quiet u.acted u.done u.acts in
    let b = sent_calm (reply_of u.acted) u.done v u.replies in
    let late : u.done.rough ≡ false = b.calmly.rough q in
    let early : u.quiet.rough ≡ false = a.calmly.rough late in
    record {
      turn = b.calmly.turn ∙ a.calmly.turn ∙ u.hears.calmly.turn;
      first = u.hears.calmly.turn;
      early = early;
      late = late;
      heard = λ e. u.hears.is early few ∙ ap (λ (x : Bool). hears w.pages (cond x n (woke ((me w).cell 0) ((me w).cell 1) ((me w).cell 2) n)) (row_here w)) e;
      none = b.own ∙ a.own ∙ u.hears.none early few;
      wish = λ e. let x = b.calmly.wish e in let y = a.calmly.wish x.0 in let z = u.hears.calmly.wish y.0 in (y.0, z.1, x.1 ∙ y.1 ∙ z.1);
    }

-- WHO GETS THE GUEST. What o has become, h, when n's host has the guest and n has asked: it has put the whole window; or the attempt is over there;
-- or it has taken the guest.
data Told (n o h : Node) : Type 0 where
  puts : (x : Transfer) → moving n.state ≡ Some x → h.state ≡ Receiving (record { attempt = x.attempt; next = end x }) → h.asked ≡ Some x.attempt → Told n o h
  over : (t : ℕ) → tries n.state ≡ Some t → h.state ≡ Away → h.asked ≡ Some t → h.took < t → (With n o → ⊥) → Told n o h
  takes : (x : Run) → h.state ≡ Running x → Told n o h

-- the attempt of a transfer is what its host tries
moving_tries : (s : State) (x : Transfer) → moving s ≡ Some x → tries s ≡ Some x.attempt
moving_tries Away x e = none_some e
moving_tries (Receiving y) x e = none_some e
moving_tries (Running y) x e = none_some e
moving_tries (Copying y) x e = ap (λ (c : Transfer). Some c.attempt) (same_Some _ _ e)
moving_tries (Paused y) x e = ap (λ (c : Transfer). Some c.attempt) (same_Some _ _ e)
moving_tries (Committed y) x e = none_some e

-- n asks with a probe and its window
told_moving : {m : ℕ} {n o : Node} {u : View} (x : Transfer) (r : List (List ℕ)) → Both m [] [] o n u → u.here ≡ false → o.awake ≡ true → moving n.state ≡ Some x → heads r ≡ asked_of x.attempt x.window → Told n o (hears u.pages o r)
told_moving {m = m} {n = n} {o = o} {u = u} x r h e aw mv q = go o.state refl
  where
    c : Carries m x o (flip u)
    c = h.yours.copy.carries x mv

    copies : (o.took ≡ u.mine.cell 0) × (o.top ≡ u.mine.cell 1) × (o.committed ≡ u.mine.cell 2)
    copies = h.ours.cells.copies aw

    ways : Each u.pages x.window.pages
    ways = each u.pages x.window.pages (λ k l. c.ways k l)

    most : o.top ≤ x.attempt
    most = let k = h.yours.order.later (ap not e) in let a = c.attempt in let b = copies.1 in omega arith

    new : o.top < x.attempt → begins o.state ≡ true → Told n o (hears u.pages o r)
    new l b =
        let k = copies.1 in
        let d = hears_new u.pages o x.attempt x.window r h.ours.fit.few ways (c.base (omega arith)) l b q in
        puts x mv (ap (λ (y : Node). y.state) d) (ap (λ (y : Node). y.asked) d)

    dead : x.attempt ≤ o.top → o.state ≡ Away → Told n o (hears u.pages o r)
    dead l f =
        let d = hears_dead u.pages o x.attempt x.window r h.ours.fit.few ways l (λ z k. clash (sym f ∙ k) tt) q in
        let t : o.took < x.attempt = let k = c.took in let a = copies.0 in omega arith in
        over x.attempt (moving_tries n.state x mv) (ap (λ (y : Node). y.state) d ∙ f) (ap (λ (y : Node). y.asked) d) (subst (λ (a : ℕ). a < x.attempt) (sym (ap (λ (y : Node). y.took) d)) t) never
      where
        never : With n o → ⊥
        never (in_step t z a b k) = clash (sym f ∙ b) tt
        never (soon y a k) = let i : y.attempt ≡ x.attempt = ap (λ (c : Transfer). c.attempt) (same_Some _ _ (sym a ∙ mv)) in omega arith

    go : (z : State) → o.state ≡ z → Told n o (hears u.pages o r)
    go Away f = elim (cases_lt o.top x.attempt) [ inl l ↦ new l (ap begins f) | inr l ↦ dead l f ]
    go (Receiving z) f =
        elim (cases_lt o.top x.attempt) [
          | inl l ↦ new l (ap begins f)
          | inr l ↦
              let k = (h.ours.cells.receiving z f).0 in
              let a = copies.1 in
              let g = most in
              let i : z.attempt ≡ x.attempt = omega arith in
              let b = c.under z f i in
              let d = hears_old u.pages o x.attempt z.next x.window r h.ours.fit.few ways (omega arith) (f ∙ ap (λ (t : ℕ). Receiving (record { attempt = t; next = z.next })) i) b.low b.high q in
              puts x mv (ap (λ (y : Node). y.state) d) (ap (λ (y : Node). y.asked) d)
        ]
    go (Running z) f = no (h.ours.guest.running z f).here e
    go (Copying z) f = no (h.ours.guest.copying z f).here e
    go (Paused z) f = no (h.ours.guest.paused z f).here e
    go (Committed z) f =
        elim (cases_lt o.top x.attempt) [
          | inl l ↦ new l (ap begins f)
          | inr l ↦
              let k = h.ours.cells.committed z f in
              let k0 = k.0 in
              let k1 = k.1 in
              let k2 = k.2 in
              let a = copies.1 in
              let g = most in
              let i : u.mine.cell 2 ≡ x.attempt = omega arith in
              let p = h.ours.cells.parity (omega arith) in
              let j : x.attempt % 2 ≡ u.me = ap (λ (t : ℕ). t % 2) (sym i) ∙ p in
              let y = c.own in
              let sd = h.ours.fit.sides in absurd (omega arith)
        ]

-- n asks with a commit
told_committed : {m : ℕ} {n o : Node} {u : View} (x : Commitment) (r : List (List ℕ)) → Both m [] [] o n u → u.here ≡ false → o.awake ≡ true → n.state ≡ Committed x → heads r ≡ head Commit x.attempt 0 0 ∷ [] → Told n o (hears u.pages o r)
told_committed {m = m} {n = n} {o = o} {u = u} x r h e aw mv q = go o.state refl
  where
    copies : (o.took ≡ u.mine.cell 0) × (o.top ≡ u.mine.cell 1) × (o.committed ≡ u.mine.cell 2)
    copies = h.ours.cells.copies aw

    done : (x.attempt ≡ u.theirs.cell 1) × (u.theirs.cell 2 ≡ u.theirs.cell 1) × (0 < x.attempt)
    done = h.yours.cells.committed x mv

    heard : hears u.pages o r ≡ taken x.attempt o
    heard = hears_commit u.pages o x.attempt r q

    is : u.mine.cell 1 ≡ x.attempt
    is =
        let a = done.0 in
        let b = done.1 in
        let c = h.yours.order.begun in
        let d = h.yours.order.later (ap not e) in omega arith

    go : (z : State) → o.state ≡ z → Told n o (hears u.pages o r)
    go Away f =
        let d : hears u.pages o r ≡ asked_for x.attempt o = heard ∙ rw f in
        let a = done.0 in
        let b = done.2 in
        let c = copies.0 in
        let k = h.yours.order.untaken (ap not e) (omega arith) done.1 in
        let t : o.took < x.attempt = omega arith in
        over x.attempt (ap tries mv) (ap (λ (y : Node). y.state) d ∙ f) (ap (λ (y : Node). y.asked) d) (subst (λ (a : ℕ). a < x.attempt) (sym (ap (λ (y : Node). y.took) d)) t) never
      where
        never : With n o → ⊥
        never (in_step t z a b k) = clash (sym f ∙ b) tt
        never (soon y a k) = none_some (sym (ap moving mv) ∙ a)
    go (Receiving z) f =
        let i : z.attempt ≡ x.attempt = (h.ours.cells.receiving z f).0 ∙ is in
        let d : hears u.pages o r ≡ asked_for x.attempt (runs_again x.attempt false o) = heard ∙ rw (f, eq-eqb z.attempt x.attempt i) in
        takes (record { wanted = false }) (ap (λ (y : Node). y.state) d)
    go (Running z) f = no (h.ours.guest.running z f).here e
    go (Copying z) f = no (h.ours.guest.copying z f).here e
    go (Paused z) f = no (h.ours.guest.paused z f).here e
    go (Committed z) f =
        let k = h.ours.cells.committed z f in
        let k0 = k.0 in
        let k1 = k.1 in
        let k2 = k.2 in
        let a0 = done.0 in
        let a1 = done.1 in
        let a2 = done.2 in
        let g = is in
        let same : u.mine.cell 2 ≡ u.theirs.cell 2 = omega arith in
        let p = h.ours.cells.parity (omega arith) in
        let y : u.theirs.cell 2 % 2 ≡ u.you = h.yours.cells.parity (omega arith) in
        let j : u.theirs.cell 2 % 2 ≡ u.me = ap (λ (t : ℕ). t % 2) (sym same) ∙ p in
        let sd = h.ours.fit.sides in absurd (omega arith)

-- whatever n asks
told : {m : ℕ} {n o : Node} {u : View} (r : List (List ℕ)) → Both m [] [] o n u → u.here ≡ false → o.awake ≡ true → HasAsked n.state r → Told n o (hears u.pages o r)
told {n = n} {o = o} {u = u} r h e aw = go n.state refl
  where
    go : (s : State) → n.state ≡ s → HasAsked s r → Told n o (hears u.pages o r)
    go Away f b = none_some b
    go (Receiving x) f b = none_some b
    go (Running x) f b = none_some b
    go (Copying x) f b = told_moving x r h e aw (ap moving f) (sym (same_Some _ _ b))
    go (Paused x) f b = told_moving x.transfer r h e aw (ap moving f) (sym (same_Some _ _ b))
    go (Committed x) f b = told_committed x r h e aw f (sym (same_Some _ _ b))

-- what a host does by itself, if its state is known
acts_as : {w v : World} {n m : Node} (u : TurnedOver w n m v) (s : State) → u.heard.state ≡ s → ActedOver w.pages u.most (me u.quiet).told s (on_state Away u.heard) u.quiet u.acted u.done
acts_as {w = w} u s e = subst (λ (z : State). ActedOver w.pages u.most (me u.quiet).told z (on_state Away u.heard) u.quiet u.acted u.done) e u.acts

-- a letter that is sent where none waits
row_one : (h : List ℕ) (w v : World) → Added h w v → v.rough ≡ false → row_there w ≡ [] → heads (row_there v) ≡ h ∷ []
unfolding heads
row_one h w v a q e = a.far q (omega (arith, ap length e)) ∙ ap (λ (r : List (List ℕ)). heads r ++ h ∷ []) e

-- who stays as it was when all letters were heard, and answers with the words h
replied : {w v : World} {n m : Node} (u : TurnedOver w n m v) (s : State) (h : List ℕ) → v.rough ≡ false → row_there w ≡ [] → u.acted ≡ on_state s (on_state Away u.heard) → Still u.quiet u.done → reply_of (on_state s u.heard) ≡ Some h → heads (row_there v) ≡ h ∷ []
replied {v = v} u s h q e a k r =
    row_one h u.done v (subst (λ (o : Option (List ℕ)). SentIf o u.done v) (ap reply_of a ∙ r) u.replies) q (k.far ∙ u.hears.far ∙ e)

-- who receives the attempt that it was asked for acknowledges
ack_reply : (n : Node) (t s : ℕ) → n.asked ≡ Some t → reply_of (on_state (Receiving (record { attempt = t; next = s })) n) ≡ Some (head Ack t s 0)
ack_reply n t s e = rw (e, eq-eqb t t refl)

-- who is away and hasn't taken it refuses
refuse_reply : (n : Node) (t : ℕ) → n.asked ≡ Some t → n.took < t → reply_of (on_state Away n) ≡ Some (head Refuse t 0 0)
refuse_reply n t e l = rw (e, lt-leb t n.took l)

-- THE ANSWER. It is asked, nothing waits for n, and after the turn one answer does: that the whole window is put, or that the attempt is over.
pub answers : {i m : ℕ} {w v : World} {n o l : Node} (u : TurnedOver w o l v) → Whole i m [] o n w → length (row_here w) ≤ 64 → w.last ≡ 1 - w.turn → v.rough ≡ false → v.wish ≡ true → o.awake ≡ true → row_there w ≡ [] → HasAsked n.state (row_here w)
    → Acknowledged n l (row_there v) ⊎ (Refused n (row_there v) × (With n o → ⊥))
answers {i = i} {m = m} {w = w} {v = v} {n = n} {o = o} {l = l} u h few g q wi aw em ha = go (subst (Told n o) (sym (c.heard aw)) (told (row_here w) h.both away aw ha))
  where
    c : Quiet u
    c = quiet u h few q

    away : (seen w).here ≡ false
    away = let s = h.small in ne_eqb w.last w.turn (λ e. omega arith)

    go : Told n o u.heard → Acknowledged n l (row_there v) ⊎ (Refused n (row_there v) × (With n o → ⊥))
    go (puts x mv f a) =
        let s : State = Receiving (record { attempt = x.attempt; next = end x }) in
        let k = acts_as u s f in
        inl (record { x = x; moves = mv; there = ap (λ (y : Node). y.state) (u.node ∙ ap silent k.0); row = replied u s (head Ack x.attempt (end x) 0) q em k.0 k.1 (ack_reply u.heard x.attempt (end x) a) })
    go (over t b f a lt never) =
        let k = acts_as u Away f in
        inr (record { t = t; tries = b; row = replied u Away (head Refuse t 0 0) q em k.0 k.1 (refuse_reply u.heard t a lt) }, never)
    go (takes x f) =
        let b = ((u.mid i m n h).both.ours.guest.running x f).here in
        let d = (c.wish wi).1 in
        let k = c.first in
        let s = h.small in
        let j = eqb-true u.quiet.last u.quiet.turn b in absurd (omega arith)

-- one of the two
pub answered : {i m : ℕ} {w v : World} {n o l : Node} (u : TurnedOver w o l v) → Whole i m [] o n w → length (row_here w) ≤ 64 → w.last ≡ 1 - w.turn → v.rough ≡ false → v.wish ≡ true → o.awake ≡ true → row_there w ≡ [] → HasAsked n.state (row_here w)
    → Acknowledged n l (row_there v) ⊎ Refused n (row_there v)
answered u h few g q wi aw em ha = elim (answers u h few g q wi aw em ha) [ inl a ↦ inl a | inr a ↦ inr a.0 ]

-- if o was with n in its attempt, the window is put
pub acknowledged : {i m : ℕ} {w v : World} {n o l : Node} (u : TurnedOver w o l v) → Whole i m [] o n w → length (row_here w) ≤ 64 → w.last ≡ 1 - w.turn → v.rough ≡ false → v.wish ≡ true → o.awake ≡ true → row_there w ≡ [] → HasAsked n.state (row_here w)
    → With n o → Acknowledged n l (row_there v)
acknowledged u h few g q wi aw em ha k = elim (answers u h few g q wi aw em ha) [ inl a ↦ a | inr a ↦ absurd (a.1 k) ]

-- WHO HAS THE GUEST
-- who runs the guest after its act and doesn't copy it, ran it before, and knows of nobody who wants it elsewhere
runs_on : (pages most : ℕ) (told : Bool) (s : State) (n : Node) (w : World) (m : Node) (v : World) (x : Run) → m.state ≡ Running x → ActedOver pages most told s n w m v → (y : Run) × (s ≡ Running y) × ((y.wanted || told) ≡ false)
runs_on pages most told Away n w m v x e a = clash (sym (ap (λ (y : Node). y.state) a.0) ∙ e) tt
runs_on pages most told (Receiving z) n w m v x e a = clash (sym (ap (λ (y : Node). y.state) a.0) ∙ e) tt
runs_on pages most told (Running z) n w m v x e (stays f a k) = (z, refl, f)
runs_on pages most told (Running z) n w m v x e (starts c f g k) = clash (sym (ap (λ (y : Node). y.state) k.node) ∙ e) tt
runs_on pages most told (Copying z) n w m v x e (on f k) = clash (sym (ap (λ (y : Node). y.state) k.node) ∙ e) tt
runs_on pages most told (Copying z) n w m v x e (again f g k) = clash (sym (ap (λ (y : Node). y.state) k.node) ∙ e) tt
runs_on pages most told (Copying z) n w m v x e (stops f g k) = clash (sym (ap (λ (y : Node). y.state) k.node) ∙ e) tt
runs_on pages most told (Paused z) n w m v x e (settles f a k) = clash (sym (ap (λ (y : Node). y.state) a) ∙ e) tt
runs_on pages most told (Paused z) n w m v x e (goes_back f g k) = clash (sym (ap (λ (y : Node). y.state) k.node) ∙ e) tt
runs_on pages most told (Paused z) n w m v x e (goes f g k r) = clash (sym (ap (λ (y : Node). y.state) k.node) ∙ e) tt
runs_on pages most told (Committed z) n w m v x e a = clash (sym (ap (λ (y : Node). y.state) a.0) ∙ e) tt

-- AFTER A QUIET TURN IT IS IN AN ATTEMPT, if the guest is there and to be moved.
pub trying : {i m k : ℕ} {w v : World} {n o l : Node} (u : TurnedOver w n l v) → Whole i m [] n o w → length (row_here w) ≤ 64 → Whole i k [] l o v → w.last ≡ w.turn → v.rough ≡ false → v.wish ≡ true → v.lost ≡ false → v.hurt ≡ false → (t : ℕ) × (tries l.state ≡ Some t)
trying {i = i} {m = m} {w = w} {v = v} {n = n} {o = o} {l = l} u h few g e q wi lo hu = go l.state refl has
  where
    c : Quiet u
    c = quiet u h few q

    here : (seen v).here ≡ true
    here = eq-eqb v.last v.turn ((c.wish wi).2 ∙ e ∙ sym c.turn)

    has : (runner l.state ≡ true) ⊎ (keeper l.state ≡ true)
    has = elim (cases_Bool v.runs) [ inl a ↦ inl (g.both.ours.guest.runner a here) | inr a ↦ inr (g.both.ours.guest.keeper a lo hu here) ]

    go : (s : State) → l.state ≡ s → (runner s ≡ true) ⊎ (keeper s ≡ true) → (t : ℕ) × (tries s ≡ Some t)
    go Away f (inl a) = no a refl
    go Away f (inr a) = no a refl
    go (Receiving x) f (inl a) = no a refl
    go (Receiving x) f (inr a) = no a refl
    go (Running x) f a =
        let r = runs_on w.pages u.most (me u.quiet).told u.heard.state (on_state Away u.heard) u.quiet u.acted u.done x (sym (ap (λ (y : Node). y.state) u.node) ∙ f) u.acts in
        let p = or_parts r.0.wanted (me u.quiet).told r.2 in
        no (((u.mid i m o h).both.ours.guest.running r.0 r.1).idle p.0 (c.wish wi).0) p.1
    go (Copying x) f a = (x.attempt, refl)
    go (Paused x) f a = (x.transfer.attempt, refl)
    go (Committed x) f a = (x.attempt, refl)

-- IT ASKS
-- if nothing waits for the other when it acts
acts_ask : (pages most : ℕ) (told : Bool) (s : State) (n : Node) (w : World) (m : Node) (v : World) (t : ℕ) → v.rough ≡ false → row_there w ≡ [] → tries m.state ≡ Some t → ActedOver pages most told s n w m v → HasAsked m.state (row_there v)
acts_ask pages most told Away n w m v t q e i a = none_some (sym (ap (λ (y : Node). tries y.state) a.0) ∙ i)
acts_ask pages most told (Receiving z) n w m v t q e i a = none_some (sym (ap (λ (y : Node). tries y.state) a.0) ∙ i)
acts_ask pages most told (Running z) n w m v t q e i (stays f a k) = none_some (sym (ap (λ (y : Node). tries y.state) a) ∙ i)
acts_ask pages most told (Running z) n w m v t q e i (starts c f g k) = ap (λ (y : Node). asks y.state) k.node ∙ ap Some (sym (k.went.asked e q))
acts_ask pages most told (Copying z) n w m v t q e i (on f k) = ap (λ (y : Node). asks y.state) k.node ∙ ap Some (sym (k.went.asked e q))
acts_ask pages most told (Copying z) n w m v t q e i (again f g k) = ap (λ (y : Node). asks y.state) k.node ∙ ap Some (sym (k.went.asked e q))
acts_ask pages most told (Copying z) n w m v t q e i (stops f g k) = ap (λ (y : Node). asks y.state) k.node ∙ ap Some (sym (k.went.asked e q))
acts_ask pages most told (Paused z) n w m v t q e i (settles f a k) = ap (λ (y : Node). asks y.state) a ∙ ap Some (sym (row_one (head Commit z.transfer.attempt 0 0) w v k q e))
acts_ask pages most told (Paused z) n w m v t q e i (goes_back f g k) = ap (λ (y : Node). asks y.state) k.node ∙ ap Some (sym (k.went.asked e q))
acts_ask pages most told (Paused z) n w m v t q e i (goes f g k r) = ap (λ (y : Node). asks y.state) k.node ∙ ap Some (sym (k.went.asked e q))
acts_ask pages most told (Committed z) n w m v t q e i a = ap (λ (y : Node). asks y.state) a.0 ∙ ap Some (sym (row_one (head Commit z.attempt 0 0) w v a.1 q e))

-- who is in an attempt answers nobody
no_reply : (n : Node) (t : ℕ) → tries n.state ≡ Some t → reply_of n ≡ None
no_reply n t e = go n.asked n.state e refl
  where
    go : (a : Option ℕ) (s : State) → tries s ≡ Some t → n.state ≡ s → reply_to a n ≡ None
    go None s i f = refl
    go (Some b) Away i f = none_some i
    go (Some b) (Receiving x) i f = none_some i
    go (Some b) (Running x) i f = none_some i
    go (Some b) (Copying x) i f = ap (λ (z : State). answer_head b (answer_in z b n.took)) f
    go (Some b) (Paused x) i f = ap (λ (z : State). answer_head b (answer_in z b n.took)) f
    go (Some b) (Committed x) i f = ap (λ (z : State). answer_head b (answer_in z b n.took)) f

-- if nothing waits for the other when its turn begins
pub asking : {i m k : ℕ} {w v : World} {n o l : Node} (u : TurnedOver w n l v) → Whole i m [] n o w → length (row_here w) ≤ 64 → Whole i k [] l o v → w.last ≡ w.turn → v.rough ≡ false → v.wish ≡ true → v.lost ≡ false → v.hurt ≡ false → row_there w ≡ [] → HasAsked l.state (row_there v)
asking {w = w} {v = v} {l = l} u h few g e q wi lo hu em =
    let c = quiet u h few q in
    let t = trying u h few g e q wi lo hu in
    let f : l.state ≡ u.acted.state = ap (λ (y : Node). y.state) u.node in
    let i : tries u.acted.state ≡ Some t.0 = ap tries (sym f) ∙ t.1 in
    let a = acts_ask w.pages u.most (me u.quiet).told u.heard.state (on_state Away u.heard) u.quiet u.acted u.done t.0 c.late (u.hears.far ∙ em) i u.acts in
    let k : Still u.done v = subst (λ (o : Option (List ℕ)). SentIf o u.done v) (no_reply u.acted t.0 i) u.replies in
    ap asks f ∙ a ∙ ap (λ (r : List (List ℕ)). Some (heads r)) (sym k.far)

-- ITS WINDOW WAS ACKNOWLEDGED
-- a row with one head has one letter
single : (h : List ℕ) (r : List (List ℕ)) → heads r ≡ h ∷ [] → length r ≡ 1
unfolding heads
single h [] e = absurd (omega (arith, ap length e))
single h (x ∷ []) e = refl
single h (x ∷ y ∷ r) e = absurd (omega (arith, ap length e))

-- its act leaves it in the same attempt
acts_try : (pages most : ℕ) (told : Bool) (s : State) (n : Node) (w : World) (m : Node) (v : World) (x : Transfer) → moving s ≡ Some x → ActedOver pages most told s n w m v → tries m.state ≡ Some x.attempt
acts_try pages most told Away n w m v x e a = none_some e
acts_try pages most told (Receiving z) n w m v x e a = none_some e
acts_try pages most told (Running z) n w m v x e a = none_some e
acts_try pages most told (Copying z) n w m v x e (on f k) = ap (λ (y : Node). tries y.state) k.node ∙ ap Some (gone_attempt k.goes) ∙ ap (λ (c : Transfer). Some c.attempt) (same_Some _ _ e)
acts_try pages most told (Copying z) n w m v x e (again f g k) = ap (λ (y : Node). tries y.state) k.node ∙ ap Some (gone_attempt k.goes) ∙ ap (λ (c : Transfer). Some c.attempt) (same_Some _ _ e)
acts_try pages most told (Copying z) n w m v x e (stops f g k) = ap (λ (y : Node). tries y.state) k.node ∙ ap Some (gone_attempt k.goes) ∙ ap (λ (c : Transfer). Some c.attempt) (same_Some _ _ e)
acts_try pages most told (Paused z) n w m v x e (settles f a k) = ap (λ (y : Node). tries y.state) a ∙ ap (λ (c : Transfer). Some c.attempt) (same_Some _ _ e)
acts_try pages most told (Paused z) n w m v x e (goes_back f g k) = ap (λ (y : Node). tries y.state) k.node ∙ ap Some (gone_attempt k.goes) ∙ ap (λ (c : Transfer). Some c.attempt) (same_Some _ _ e)
acts_try pages most told (Paused z) n w m v x e (goes f g k r) = ap (λ (y : Node). tries y.state) k.node ∙ ap Some (gone_attempt k.goes) ∙ ap (λ (c : Transfer). Some c.attempt) (same_Some _ _ e)
acts_try pages most told (Committed z) n w m v x e a = none_some e

-- the transfer x when the whole window was acknowledged
abbrev pub cleared : Transfer → Transfer
cleared x = acked x.attempt (end x) x

-- what an acknowledgement makes of each state
acked_moving : (s : State) (x : Transfer) → moving s ≡ Some x → moving (acked_in x.attempt (end x) s) ≡ Some (cleared x)
acked_moving Away x e = none_some e
acked_moving (Receiving z) x e = none_some e
acked_moving (Running z) x e = none_some e
acked_moving (Copying z) x e = ap (λ (c : Transfer). Some (acked x.attempt (end x) c)) (same_Some _ _ e)
acked_moving (Paused z) x e = ap (λ (c : Transfer). Some (acked x.attempt (end x) c)) (same_Some _ _ e)
acked_moving (Committed z) x e = none_some e

-- A quiet turn of n that begins with the answer that the whole window of its transfer x is put.
-- asks: so many are left; with: the other is with it after the turn too.
pub record Cleared {w v : World} {n l : Node} (u : TurnedOver w n l v) (x : Transfer) (o : Node) : Type 0 where
  pub one : length (row_here w) ≡ 1
  pub asks : 252 ≤ u.most
  pub heard : u.heard ≡ on_state (acked_in x.attempt (end x) n.state) n
  pub moves : moving u.heard.state ≡ Some (cleared x)
  pub empty : (y : Transfer) → moving u.heard.state ≡ Some y → length y.window.pages ≡ 0
  pub copying : (y : Transfer) → n.state ≡ Copying y → u.heard.state ≡ Copying (cleared x)
  pub paused : (y : Pause) → n.state ≡ Paused y → u.heard.state ≡ Paused (record { transfer = cleared x; right = y.right; turns = y.turns })
  pub with : With l o

-- that is so of each turn that begins with it
pub clears : {i m : ℕ} {w v : World} {n o l : Node} (u : TurnedOver w n l v) → Whole i m [] n o w → length (row_here w) ≤ 64 → v.rough ≡ false → n.awake ≡ true → (a : Acknowledged n o (row_here w)) → Cleared u a.x o
clears {w = w} {v = v} {n = n} {o = o} {l = l} u h few q aw a =
    record {
      one = one;
      asks = let k = u.cost aw c.early in let j = one in omega arith;
      heard = heard;
      moves = moves;
      empty = λ y e. ap (λ (d : Transfer). length d.window.pages) (same_Some _ _ (sym e ∙ moves)) ∙ (acked_all x).empty;
      copying = λ y e. state ∙ ap (acked_in x.attempt (end x)) e ∙ ap (λ (d : Transfer). Copying (acked x.attempt (end x) d)) (same_Some _ _ (sym (ap moving e) ∙ a.moves));
      paused = λ y e. state ∙ ap (acked_in x.attempt (end x)) e ∙ ap (λ (d : Transfer). Paused (record { transfer = acked x.attempt (end x) d; right = y.right; turns = y.turns })) (same_Some _ _ (sym (ap moving e) ∙ a.moves));
      with = in_step x.attempt (record { attempt = x.attempt; next = end x }) tried a.there refl;
    }
  where
    x : Transfer
    x = a.x

    c : Quiet u
    c = quiet u h few q

    one : length (row_here w) ≡ 1
    one = single (head Ack x.attempt (end x) 0) (row_here w) a.row

    heard : u.heard ≡ on_state (acked_in x.attempt (end x) n.state) n
    heard = c.heard aw ∙ hears_ack w.pages n x.attempt (end x) (row_here w) a.row

    state : u.heard.state ≡ acked_in x.attempt (end x) n.state
    state = ap (λ (y : Node). y.state) heard

    moves : moving u.heard.state ≡ Some (cleared x)
    moves = ap moving state ∙ acked_moving n.state x a.moves

    tried : tries l.state ≡ Some x.attempt
    tried =
        ap (λ (y : Node). tries y.state) u.node
        ∙ acts_try w.pages u.most (me u.quiet).told u.heard.state (on_state Away u.heard) u.quiet u.acted u.done (cleared x) moves u.acts
        ∙ ap Some (acked_all x).attempt

-- IT WAS REFUSED: it resumes the guest if it stood, and begins another attempt, of which the other hasn't heard.
-- a refusal leaves it running the guest, which it had
refused_runs : {i m : ℕ} {n o : Node} {w : World} (t : ℕ) → Whole i m [] n o w → w.last ≡ w.turn → w.lost ≡ false → w.hurt ≡ false → tries n.state ≡ Some t → refused_in t n.state ≡ Running (record { wanted = true })
refused_runs {n = n} {w = w} t h e lo hu = go n.state refl
  where
    here : (seen w).here ≡ true
    here = eq-eqb w.last w.turn e

    go : (s : State) → n.state ≡ s → tries s ≡ Some t → refused_in t s ≡ Running (record { wanted = true })
    go Away f k = none_some k
    go (Receiving x) f k = none_some k
    go (Running x) f k = none_some k
    go (Copying x) f k = rw (eq-eqb x.attempt t (same_Some _ _ k))
    go (Paused x) f k = rw (eq-eqb x.transfer.attempt t (same_Some _ _ k))
    go (Committed x) f k = rw (eq-eqb x.attempt t (same_Some _ _ k), mine)
      where
        mine : x.mine ≡ true
        mine =
            elim (cases_Bool w.runs) [
              | inl r ↦ no (sym (ap runner f) ∙ h.both.ours.guest.runner r here) refl
              | inr r ↦ sym (ap keeper f) ∙ h.both.ours.guest.keeper r lo hu here
            ]

-- A quiet turn of n that begins with a refusal of its attempt t.
pub record Renewed {w v : World} {n l : Node} (u : TurnedOver w n l v) (t : ℕ) (o : Node) : Type 0 where
  pub one : length (row_here w) ≡ 1
  pub asks : 252 ≤ u.most
  pub heard : u.heard ≡ refused t n
  pub runs : u.heard.state ≡ Running (record { wanted = true })
  pub with : With l o

-- that is so of each turn that begins with one
pub renews : {i m : ℕ} {w v : World} {n o l : Node} (u : TurnedOver w n l v) → Whole i m [] n o w → length (row_here w) ≤ 64 → w.last ≡ w.turn → w.lost ≡ false → w.hurt ≡ false → v.rough ≡ false → n.awake ≡ true → o.awake ≡ true → (a : Refused n (row_here w)) → Renewed u a.t o
renews {w = w} {v = v} {n = n} {o = o} {l = l} u h few e lo hu q aw ow a =
    record { one = one; asks = let k = u.cost aw c.early in let j = one in omega arith; heard = heard; runs = runs; with = go (acts_as u (Running (record { wanted = true })) runs) }
  where
    c : Quiet u
    c = quiet u h few q

    one : length (row_here w) ≡ 1
    one = single (head Refuse a.t 0 0) (row_here w) a.row

    heard : u.heard ≡ refused a.t n
    heard = c.heard aw ∙ hears_refuse w.pages n a.t (row_here w) a.row

    runs : u.heard.state ≡ Running (record { wanted = true })
    runs = ap (λ (y : Node). y.state) heard ∙ refused_runs a.t h e lo hu a.tries

    low : o.top ≤ u.heard.top
    low =
        let i = ap (λ (y : Node). y.top) heard in
        let j = (h.both.ours.cells.copies aw).1 in
        let k = (h.both.yours.cells.copies ow).1 in
        let b = h.both.ours.order.later (eq-eqb w.last w.turn e) in omega arith

    go : RunOver w.pages u.most (me u.quiet).told (record { wanted = true }) (on_state Away u.heard) u.quiet u.acted u.done → With l o
    go (stays f k s) = no refl f
    go (starts d f k s) =
        let b : s.after.attempt ≡ d.attempt = gone_attempt s.goes in
        let j = k.above in
        let i = low in
        soon s.after (ap (λ (y : Node). moving y.state) (u.node ∙ ap silent s.node)) (omega arith)
