-- What a node does by itself: all stays whole, and what holds of the node alone.
-- Assumes nothing.
use Rattle.std.proofs.Common.{Ok, is_ok, ◌≡◌, ℕ, ◌+◌, ◌%◌, ◌<◌, ◌≤◌, min, Bool, true, false, ltb, List, Option, Some, None, [], Result, sym, refl, ap, ◌∙◌, subst, inl, inr, arith, lt-ltb, length}
use Rattle.moving.specs.Acted.{commits}
use mathlib.Core.Path.{subst⁻¹}
use Rattle.std.proofs.lemmas.Bool.{cases_lt}
use Rattle.letter.specs.declared.Kind.TheVariants.{Commit}
use Rattle.letter.specs.Words.{spelt}
use Rattle.window.specs.Pages.{Sound}
use Rattle.moving.specs.declared.Down.{Down}
use Rattle.moving.specs.declared.Node.{Node}
use Rattle.moving.specs.declared.state.Transfer.{Transfer}
use Rattle.moving.specs.declared.state.Running.{Running as Run}
use Rattle.moving.specs.declared.state.Paused.{Paused as Pause}
use Rattle.moving.specs.declared.state.Committed.{Committed as Commitment}
use Rattle.moving.specs.declared.state.State.{State}
use Rattle.moving.specs.declared.state.State.TheVariants.{Running, Copying, Paused, Committed}
use Rattle.moving.specs.Hosts.{World, Posts, MayResume, me, kept, heard, stopped, resumed}
use Rattle.moving.specs.Model.{bare, recount, ticked, anew, afresh, on_state, on_top, AskedWell, Tidy}
use Rattle.moving.specs.Scan.{Looks, Looks.none, Looks.more, GoneOn}
use Rattle.moving.specs.Invariant.{unsent, Whole, Keeps}
use Rattle.moving.proofs.Scans.{recount_copying, recount_paused}
use Rattle.moving.proofs.Letters.{recommit, recount_committed, commit_legit}
use Rattle.moving.proofs.Steps.{more_whole, commit_whole, attempt_whole, again_whole, stop_whole, told_whole, untold_whole}
use Rattle.moving.proofs.Ways.{SoFar, begin, fine, then_so, posted, posts_ends, ends_tail}
use Rattle.moving.proofs.Heard.{alone, put_back}

-- TOLD
pub told_any : {i m : ℕ} {x : List (List ℕ)} {o : Node} {w : World} (n : Node) (z : Run) (b : Bool) → z.wanted ≡ false → b ≡ (me w).told → Whole i m x (on_state (Running z) n) o w → Whole i m x (on_state (Running (record { wanted = b })) n) o (heard w)
told_any {i = i} {m = m} {x = x} {o = o} {w = w} n z b e f h = go b (sym f)
  where
    go : (b : Bool) → (me w).told ≡ b → Whole i m x (on_state (Running (record { wanted = b })) n) o (heard w)
    go true t = told_whole z refl t h
    go false t = subst (λ b. Whole i m x (on_state (Running (record { wanted = b })) n) o (heard w)) e (untold_whole t h)

-- THE COMMITMENT IS TOLD
-- it's counted once more
pub again_so : {w : World} (n : Node) (z : Commitment) (t : ℕ) → w.fell ≡ false → SoFar [] (on_state (Committed z) n) w (0 + 0) [] (on_state (Committed (recommit z t)) n) w
again_so {w = w} n z t up = then_so 0 (begin [] (on_state (Committed z) n) w up) (fine (λ i k o h. alone h (recount_committed z t refl h.both)))

pub tells_ends : {A : Type 0} {n m : Node} {w v t : World} {k : ℕ} (j : ℕ) (z : Commitment) (f : A → Node) (r : Result A Down) → k ≤ j → ((a : A) → r ≡ Ok a → f a ≡ m) → m.state ≡ Committed z → SoFar [] n w k [] m v → Posts v (spelt (bare Commit z.attempt 0)) (is_ok r) t → Keeps j [] n w r f t
tells_ends j z f r q e d s p = posts_ends j f r q e s (λ i x o h. commit_legit (spelt (bare Commit z.attempt 0)) z d refl refl h.both) p

-- the same, where more is asked after it
pub tells : {n m : Node} {w v t : World} {k : ℕ} (z : Commitment) → m.state ≡ Committed z → SoFar [] n w k [] m v → Posts v (spelt (bare Commit z.attempt 0)) true t → SoFar [] n w (k + 0) [] m t
tells z e s p = posted s (λ i x o h. commit_legit (spelt (bare Commit z.attempt 0)) z e refl refl h.both) p

-- COMMIT
pub settle_whole : {i m : ℕ} {x : List (List ℕ)} {o : Node} {w : World} (n : Node) (z : Pause) → z.right.attempt ≡ z.transfer.attempt → length z.transfer.window.pages ≡ 0 → z.transfer.cursor ≡ w.pages → Whole i m x (on_state (Paused z) n) o w → Whole i m x (commits z.transfer.attempt n) o (kept 2 z.right.attempt w)
settle_whole {i = i} {m = m} {x = x} {o = o} {w = w} n z e len cur h = subst⁻¹ (λ a. Whole i m x (commits z.transfer.attempt n) o (kept 2 a w)) e (commit_whole z refl len cur h)

-- A NEW ATTEMPT
pub new_whole : {i m : ℕ} {x : List (List ℕ)} {o : Node} {w : World} (n : Node) (d : Transfer) (t p : ℕ) → n.state ≡ Running (record { wanted = true }) → n.awake ≡ true → n.top < t → t ≤ n.top + 2 → t % 2 ≡ n.me → d.attempt ≡ t → length d.window.pages ≡ 0 → d.window.base ≡ 0 → p ≡ w.pages → ((q : ℕ) → unsent d q ≡ ltb q p) → Whole i m x n o w → Whole i (m + 2) x (on_top t (Copying d) n) o (kept 1 t w)
new_whole {i = i} {m = m} {x = x} {o = o} {w = w} n d t p s aw gt le own e len base q un h =
    let top = (h.both.ours.cells.copies aw).1 in
    let most = h.both.ours.cells.most in
    subst (λ t. Whole i (m + 2) x (on_top t (Copying d) n) o (kept 1 t w)) e
    (attempt_whole (record { wanted = true }) d s refl aw (omega arith) (ap (λ t. t % 2) e ∙ own ∙ h.both.ours.me) (omega arith) len base (λ r l. un r ∙ lt-ltb r p (omega arith)) (more_whole (omega arith) h))

-- GOING ON
-- only counts change
pub then_recounts : {x : List (List ℕ)} {b : Node} {w v : World} {j : ℕ} (n : Node) (c d : Transfer) (k s t : ℕ) (p : Option ℕ) → d ≡ recount c k s t p → SoFar x b w j [] (on_state (Copying c) n) v → SoFar x b w (j + 0) [] (on_state (Copying d) n) v
then_recounts {x = x} {b = b} {w = w} {v = v} {j = j} n c d k s t p e q =
    subst⁻¹ (λ d. SoFar x b w (j + 0) [] (on_state (Copying d) n) v) e (then_so 0 q (fine (λ i z o h. alone h (recount_copying c k s t p refl h.both))))

pub then_ticks : {x : List (List ℕ)} {b : Node} {w v : World} {j : ℕ} (n : Node) (c d : Transfer) → d ≡ ticked c → SoFar x b w j [] (on_state (Copying c) n) v → SoFar x b w (j + 0) [] (on_state (Copying d) n) v
then_ticks n c d e q = then_recounts n c d c.cursor c.sent (min (c.turns + 1) 4294967295) c.prev e q

pub ticks : {w : World} (n : Node) (c d : Transfer) → d ≡ ticked c → w.fell ≡ false → SoFar [] (on_state (Copying c) n) w (0 + 0) [] (on_state (Copying d) n) w
ticks {w = w} n c d e up = then_ticks n c d e (begin [] (on_state (Copying c) n) w up)

pub ticks_anew : {w : World} (n : Node) (c d : Transfer) → d ≡ ticked (anew c) → w.fell ≡ false → SoFar [] (on_state (Copying c) n) w (0 + 0) [] (on_state (Copying d) n) w
ticks_anew {w = w} n c d e up = then_recounts n c d 0 0 (min (0 + 1) 4294967295) (Some c.turns) e (begin [] (on_state (Copying c) n) w up)

pub ticks_paused : {w : World} (n : Node) (z : Pause) (d : Transfer) (k : ℕ) → d ≡ ticked z.transfer → w.fell ≡ false → SoFar [] (on_state (Paused z) n) w (0 + 0) [] (on_state (Paused (record { transfer = d; right = z.right; turns = k })) n) w
ticks_paused {w = w} n z d k e up =
    subst⁻¹ (λ d. SoFar [] (on_state (Paused z) n) w (0 + 0) [] (on_state (Paused (record { transfer = d; right = z.right; turns = k })) n) w) e
    (then_so 0 (begin [] (on_state (Paused z) n) w up) (fine (λ i x o h. alone h (recount_paused z z.transfer.sent (min (z.transfer.turns + 1) 4294967295) z.transfer.prev k refl h.both))))

-- the attempt stays
looks_attempt : {x y : Transfer} {bs : List Bool} → Looks x bs y → y.attempt ≡ x.attempt
looks_attempt none = refl
looks_attempt (more bs b y z l k) = k.attempt ∙ looks_attempt l

pub gone_attempt : {pages most : ℕ} {x y : Transfer} → GoneOn pages most x y → y.attempt ≡ x.attempt
gone_attempt {x = x} g =
    elim (cases_lt 0 (length x.window.pages)) [ inl l ↦ ap (λ (c : Transfer). c.attempt) (g.same l) | inr l ↦ looks_attempt (g.goes (omega arith)).looks ]

-- STOP
pub stop_anew : {i m : ℕ} {x : List (List ℕ)} {o : Node} {w : World} (n : Node) (c : Transfer) (z : Pause) → z.transfer ≡ ticked (anew c) → Whole i m x (on_state (Copying c) n) o w → Whole i m x (on_state (Paused z) n) o (stopped w)
stop_anew n c z e h = stop_whole c z refl (e ∙ sym (ap (λ (d : Transfer). recount c 0 d.sent d.turns d.prev) e)) h

-- GIVING UP
abbrev pub copies_on : Transfer → Node → Node
copies_on d n = record { me = n.me; awake = n.awake; took = d.attempt; top = n.top; committed = n.committed; asked = n.asked; state = Copying d }

pub give_up : {i m : ℕ} {x : List (List ℕ)} {o : Node} {w : World} (n : Node) (z : Pause) (d : Transfer) → z.right.attempt ≡ z.transfer.attempt → d ≡ ticked (afresh z.transfer) → Whole i m x (on_state (Paused z) n) o w → MayResume w × Whole i m x (copies_on d n) o (resumed z.right.attempt w)
give_up {i = i} {m = m} {x = x} {o = o} {w = w} n z d e f h =
    let q = again_whole z 0 0 (min (0 + 1) 4294967295) None refl h in
    (q.0, subst⁻¹ (λ d. Whole i m x (copies_on d n) o (resumed z.right.attempt w)) f (subst⁻¹ (λ a. Whole i m x (copies_on (ticked (afresh z.transfer)) n) o (resumed a w)) e q.1))

-- RUN
pub ran_tidy : (n a : Node) (x : Run) (k : Bool) → a ≡ on_state (Running (record { wanted = k })) n → Tidy (on_state (Running x) n) → Tidy a
ran_tidy n a x k e h = subst⁻¹ Tidy e (record { awake = h.awake; windowed = tt; asked = h.asked })

pub run_tidy : (n a b : Node) (x : Run) (k : Bool) (t : ℕ) (d : Transfer) → a ≡ on_state (Running (record { wanted = k })) n → b ≡ on_top t a.state a → a.top < t → Sound d.window → Tidy (on_state (Running x) n) → Tidy (on_state (Copying d) b)
run_tidy n a b x k t d e f l s h =
    record {
      awake = ap (λ (n : Node). n.awake) f ∙ ap (λ (n : Node). n.awake) e ∙ h.awake;
      windowed = s;
      asked = subst⁻¹ (λ b. AskedWell (on_state (Copying d) b)) f (λ u g. let q = (ran_tidy n a x k e h).asked u g in let z = q.2 in (q.0, q.1, omega arith));
    }

-- ACT
pub acts : {A : Type 0} {w v : World} {k : ℕ} {f : A → Node} {r : Result A Down} (n : Node) (s : State) → n.state ≡ s → w.fell ≡ false → Keeps k [] (on_state s n) w r f v → k ≤ 64 → Keeps 64 [] n w r f v
acts {w = w} {v = v} {k = k} {f = f} {r = r} n s e up h p = ends_tail 64 (begin [] n w up) (subst (λ m. Keeps k [] m w r f v) (put_back n s e) h) (omega arith)
