-- What is done keeps the world whole: one lemma for each kind of step.
-- Assumes nothing.
use Rattle.std.proofs.Common.{◌≡◌, ℕ, ◌+◌, ◌-◌, ◌%◌, ◌<◌, ◌≤◌, Bool, true, false, cond, not, ◌&&◌, ◌||◌, T, eqb, ltb, ◌⊎◌, List, Option, [], ◌∷◌, ◌++◌, length, sym, refl, ap, ◌∙◌, subst, inl, inr, arith, eq-eqb, ne_eqb, eqb-true}
use Rattle.moving.specs.Acted.{commits}
use mathlib.Core.Path.{subst⁻¹, subst₃}
use mathlib.Core.List.Memᴰ
use mathlib.Core.List.{Memᴰ}
use borrow.Author.Tests.{both_ways}
use Rattle.moving.specs.declared.Node.{Node}
use Rattle.moving.specs.declared.state.Transfer.{Transfer}
use Rattle.moving.specs.declared.state.Receiving.{Receiving as Reception}
use Rattle.moving.specs.declared.state.Running.{Running as Run}
use Rattle.moving.specs.declared.state.Paused.{Paused as Pause}
use Rattle.moving.specs.declared.state.Committed.{Committed as Commitment}
use Rattle.moving.specs.declared.state.State.TheVariants.{Receiving, Running, Copying, Paused, Committed}
use Rattle.moving.specs.Hosts.{Host, World, Goes, Goes.rest, Goes.writes, Fallen, Does, Does.stands, Does.falls_before, Does.falls_after, Does.down, Between, Gives, Gives.next, Gives.again, Gives.nothing, Sends, Sends.takes, Sends.loses, put, with_host, with_guest, with_turn, with_link, other, me, wrote, counted, heard, stopped, resumed, seated, MayResume, AtStart, rest', head_is, roughened, taken, Among, kept, put_page, untouched}
use Rattle.moving.specs.Model.{recount, on_state, on_top, runs_again}
use Rattle.moving.specs.Invariant.{View, see, view, flip, kind_of, attempt_of, place_of, page_of, words_of, unsent, end, In, Legit, Both, Whole, Pushed, fresh}
use Rattle.moving.proofs.Views.{put_same, put_other, put_where, put_off, apart, apart', place, whole_at, both_swap}
use Rattle.moving.proofs.Moves.{no, clash, none_some, other_one, page_at, dropped, put_at, cell_at, further, wrote_here, wrote_there, fell, page_put, commit_it, MayGo, may_take, take_it, may_go, refused_stands, refused, attempt_it, begin_it, running_same}
use Rattle.moving.proofs.Scans.{clear, push_copying, push_paused, skip_copying, stop_it, go_again}
use Rattle.moving.proofs.Letters.{more_both, link, took, sent, hear, untold, told_it, asked_here, asked_there}

pub is_true : (b : Bool) → T b → b ≡ true
is_true true t = refl
is_true false t = absurd t

pub holds : {b : Bool} → b ≡ true → T b
holds e = subst⁻¹ T e tt

-- THE GUEST WRITES
pub wrote_whole : {i m : ℕ} {x : List (List ℕ)} {n o : Node} {w : World} (p : ℕ) (ws : List ℕ) → T w.runs → Whole i m x n o w → Whole i m x n o (wrote p ws w)
wrote_whole {i = i} {m = m} {x = x} {n = n} {o = o} {w = w} p ws t h =
    elim (place w.last w.turn h.last h.small) [ inl x ↦ here x.0 x.1 | inr x ↦ there x.0 x.1 ]
  where
    here : eqb w.last w.turn ≡ true → w.last ≡ w.turn → Whole i m x n o (wrote p ws w)
    here b e =
        whole_at (wrote p ws w) (page_at p ws (me w)) (w.host (other w)) _ h.turn h.small h.last
        (put_where w.last w.turn (page_at p ws) w.host e)
        (put_off w.last w.turn (other w) _ w.host e (apart w.turn h.small))
        refl (wrote_here p ws (is_true w.runs t) b h.both)

    there : eqb w.last w.turn ≡ false → w.last ≡ other w → Whole i m x n o (wrote p ws w)
    there b e =
        whole_at (wrote p ws w) (me w) (page_at p ws (w.host (other w))) _ h.turn h.small h.last
        (put_off w.last (other w) w.turn _ w.host e (apart' w.turn h.small))
        (put_where w.last (other w) (page_at p ws) w.host e)
        refl (wrote_there p ws (is_true w.runs t) b h.both)

pub goes : {i m : ℕ} {x : List (List ℕ)} {n o : Node} {w v : World} → Goes w v → Whole i m x n o w → Whole i m x n o v
goes (rest w) h = h
goes (writes p ws r l s g) h = goes g (wrote_whole p ws r h)

pub goes_fell : {w v : World} → Goes w v → v.fell ≡ w.fell
goes_fell (rest w) = refl
goes_fell (writes p ws r l s g) = goes_fell g

pub goes_wish : {w v : World} → Goes w v → v.wish ≡ w.wish
goes_wish (rest w) = refl
goes_wish (writes p ws r l s g) = goes_wish g

-- A FALL
abbrev pub fallen_to : (ℕ → List ℕ) → (ℕ → Bool) → World → World
fallen_to page touched w =
    with_turn w.turn w.left true true w.busy w.calm w.still
    (with_guest (w.runs && not (eqb w.last w.turn)) w.last (w.lost || (w.runs && eqb w.last w.turn)) w.truth (w.hurt || eqb w.last w.turn) w.wish
    (with_host w.turn (dropped page touched (me w)) w))

pub fell_whole : {i m : ℕ} {x : List (List ℕ)} {n o : Node} {w v : World} → Fallen w v → Whole i m x n o w → Whole i m [] (fresh i false) o v
fell_whole {i = i} {m = m} {x = x} {n = n} {o = o} {w = w} {v = v} f h =
    let d : World = fallen_to f.page f.touched w in
    let hurt : Host = dropped f.page f.touched (me w) in
    subst⁻¹ (λ v. Whole i m [] (fresh i false) o v) f.is
    (subst (λ k. Whole i m [] (fresh k false) o d) h.turn
    (whole_at d hurt (w.host (other w)) _ h.turn h.small h.last
    (put_same w.turn hurt w.host) (put_other w.turn (other w) hurt w.host (apart w.turn h.small)) refl
    (fell f.page f.touched h.both)))

pub counted_whole : {i m : ℕ} {x : List (List ℕ)} {n o : Node} {w : World} → Whole i m x n o w → Whole i m x n o (counted w)
counted_whole h = record { turn = h.turn; small = h.small; last = h.last; both = h.both }

-- ONE STEP
pub step_ok : {i m : ℕ} {x : List (List ℕ)} {n o : Node} {w d v : World} → Does w d true v → Whole i m x n o d → Whole i m x n o v
step_ok (stands v e g) h = goes g (counted_whole h)

pub step_err : {i m : ℕ} {x y : List (List ℕ)} {n l o : Node} {w d v : World} → Does w d false v → w.fell ≡ false → Whole i m x n o w → Whole i m y l o d → Whole i m [] (fresh i false) o v
step_err (falls_before v e f) u h k = fell_whole f (counted_whole h)
step_err (falls_after v e f) u h k = fell_whole f (counted_whole k)
step_err {w = w} (down t) u h k = absurd (both_ways w.fell u (is_true w.fell t))

-- an ask that failed: who stood has fallen
pub step_down : {w d v : World} → Does w d false v → w.fell ≡ false → v.fell ≡ true
step_down (falls_before v e f) u = ap (λ w. w.fell) f.is
step_down (falls_after v e f) u = ap (λ w. w.fell) f.is
step_down {w = w} (down t) u = absurd (both_ways w.fell u (is_true w.fell t))

pub step_up : {w d v : World} → Does w d true v → d.fell ≡ w.fell → v.fell ≡ false
step_up (stands v e g) p = goes_fell g ∙ p ∙ e

-- WHAT IS ASKED
-- a change at the host whose turn it is
pub own_whole : {i m : ℕ} {x : List (List ℕ)} {n o : Node} {w : World} {l : Node} {z : List (List ℕ)} (h : Host) → Whole i m x n o w → Both m z [] l o (see w.turn (other w) h (w.host (other w)) (eqb w.last w.turn) w) → Whole i m z l o (with_host w.turn h w)
own_whole {w = w} k h b = whole_at (with_host w.turn k w) k (w.host (other w)) _ h.turn h.small h.last (put_same w.turn _ w.host) (put_other w.turn (other w) _ w.host (apart w.turn h.small)) refl b

pub more_whole : {i m k : ℕ} {x : List (List ℕ)} {n o : Node} {w : World} → m ≤ k → Whole i m x n o w → Whole i k x n o w
more_whole l h = record { turn = h.turn; small = h.small; last = h.last; both = more_both l h.both }

-- what was read of a page stays right, unless it's touched
pub wrote_page : (w : World) (j p q : ℕ) (ws xs : List ℕ) → ((w.host j).touched q ≡ false → xs ≡ (w.host j).page q) → ((wrote p ws w).host j).touched q ≡ false → xs ≡ ((wrote p ws w).host j).page q
wrote_page w j p q ws xs f = go (eqb j w.last) refl
  where
    go : (b : Bool) → eqb j w.last ≡ b → (cond b (page_at p ws (w.host w.last)) (w.host j)).touched q ≡ false → xs ≡ (cond b (page_at p ws (w.host w.last)) (w.host j)).page q
    go true e t =
        let z = other_one p q ws (w.host w.last).page (w.host w.last).touched t in
        subst (λ k. (w.host k).touched q ≡ false → xs ≡ (w.host k).page q) (eqb-true j w.last e) f z.0 ∙ sym z.1
    go false e t = f t

pub goes_page : {w v : World} → Goes w v → (q : ℕ) (xs : List ℕ) → ((me w).touched q ≡ false → xs ≡ (me w).page q) → (me v).touched q ≡ false → xs ≡ (me v).page q
goes_page (rest w) q xs f = f
goes_page {w = w} (writes p ws r l s g) q xs f = goes_page g q xs (wrote_page w w.turn p q ws xs f)

pub step_page : {w v : World} → Does w w true v → (q : ℕ) (xs : List ℕ) → xs ≡ (me w).page q → (me v).touched q ≡ false → xs ≡ (me v).page q
step_page (stands v e g) q xs f = goes_page g q xs (λ _. f)

-- the guest was last here
pub last_here : (w : World) → eqb w.last w.turn ≡ true → w.last ≡ w.turn
last_here w e = eqb-true w.last w.turn e

abbrev pub seen : World → View
seen w = view w.turn (other w) w

pub may_resume : (w : World) → MayGo (seen w) → MayResume w
may_resume w g = (g.0, g.1, g.2, elim g.3 [ inl e ↦ inl (last_here w e) | inr e ↦ inr (holds e) ])

-- COMMIT, PUT, BEGIN, ATTEMPT, SCAN
pub commit_whole : {i m : ℕ} {x : List (List ℕ)} {n o : Node} {w : World} (z : Pause) → n.state ≡ Paused z → length z.transfer.window.pages ≡ 0 → z.transfer.cursor ≡ w.pages → Whole i m x n o w → Whole i m x (commits z.transfer.attempt n) o (kept 2 z.transfer.attempt w)
commit_whole {w = w} z e len cur h = own_whole (cell_at 2 z.transfer.attempt (me w)) h (commit_it z e len cur h.both)

pub put_whole : {i m : ℕ} {x : List (List ℕ)} {n o : Node} {w : World} (l : List ℕ) (r : Reception) → In l x (me w) → kind_of l ≡ 2 → n.state ≡ Receiving r → attempt_of l ≡ r.attempt → place_of l ≡ r.next → Whole i m x n o w → Whole i m x (on_state (Receiving (further r)) n) o (put_page (page_of l) (words_of l) w)
put_whole {w = w} l r i kd e at pl h = own_whole (put_at (page_of l) (words_of l) (me w)) h (page_put l r i kd e at pl h.both)

pub begin_whole : {i m : ℕ} {x : List (List ℕ)} {n o : Node} {w : World} (l : List ℕ) → In l x (me w) → kind_of l ≡ 1 → (me w).cell 1 < attempt_of l → n.awake ≡ true → Whole i m x n o w → Whole i m x (on_top (attempt_of l) (Receiving (record { attempt = attempt_of l; next = 0 })) n) o (kept 1 (attempt_of l) w)
begin_whole {w = w} l i kd gt aw h = own_whole (cell_at 1 (attempt_of l) (me w)) h (begin_it l i kd gt aw h.both)

pub attempt_whole : {i m : ℕ} {x : List (List ℕ)} {n o : Node} {w : World} (z : Run) (d : Transfer) → n.state ≡ Running z → z.wanted ≡ true → n.awake ≡ true → (me w).cell 1 < d.attempt → d.attempt % 2 ≡ w.turn → d.attempt ≤ m → length d.window.pages ≡ 0 → d.window.base ≡ 0 → ((p : ℕ) → p < w.pages → unsent d p ≡ true) → Whole i m x n o w → Whole i m x (on_top d.attempt (Copying d) n) o (kept 1 d.attempt w)
attempt_whole {w = w} z d e wa aw gt own le len base all h = own_whole (cell_at 1 d.attempt (me w)) h (attempt_it z d e wa aw gt own le len base all h.both)

pub push_copying_whole : {i m : ℕ} {x : List (List ℕ)} {n o : Node} {w : World} (c d : Transfer) (p : ℕ) → n.state ≡ Copying c → Pushed c d p → p < w.pages → end c < m → Whole i m x n o w → Whole i m x (on_state (Copying d) n) o (untouched p w)
push_copying_whole {w = w} c d p e k pp room h = own_whole (clear p (me w)) h (push_copying c d p e k pp room h.both)

pub push_paused_whole : {i m : ℕ} {x : List (List ℕ)} {n o : Node} {w : World} (c d : Pause) → n.state ≡ Paused c → Pushed c.transfer d.transfer c.transfer.cursor → d.transfer.cursor ≡ c.transfer.cursor + 1 → c.transfer.cursor < w.pages → end c.transfer < m → Whole i m x n o w → Whole i m x (on_state (Paused d) n) o (untouched c.transfer.cursor w)
push_paused_whole {w = w} c d e k cur pp room h = own_whole (clear c.transfer.cursor (me w)) h (push_paused c d e k cur pp room h.both)

-- RESUME
pub went_whole : {i m : ℕ} {x : List (List ℕ)} {n o l : Node} {w : World} (t : ℕ) → Whole i m x n o w → Both m x [] l o (see w.turn (other w) (cell_at 0 t (me w)) (w.host (other w)) true (resumed t w)) → Whole i m x l o (resumed t w)
went_whole {w = w} t h b =
    whole_at (resumed t w) (cell_at 0 t (me w)) (w.host (other w)) true h.turn h.small h.small (put_same w.turn _ w.host) (put_other w.turn (other w) _ w.host (apart w.turn h.small)) (eq-eqb w.turn w.turn refl) b

pub take_whole : {i m : ℕ} {x : List (List ℕ)} {n o : Node} {w : World} (l : List ℕ) (r : Reception) → In l x (me w) → kind_of l ≡ 3 → n.state ≡ Receiving r → attempt_of l ≡ r.attempt → Whole i m x n o w → MayResume w × Whole i m x (runs_again r.attempt false n) o (resumed r.attempt w)
take_whole {w = w} l r i kd e at h = (may_resume w (may_take l r i kd e at h.both), went_whole r.attempt h (take_it l r i kd e at h.both))

pub refused_whole : {i m : ℕ} {x : List (List ℕ)} {n o : Node} {w : World} (l : List ℕ) (z : Commitment) → In l x (me w) → kind_of l ≡ 5 → n.state ≡ Committed z → z.mine ≡ true → attempt_of l ≡ z.attempt → n.awake ≡ true → Whole i m x n o w → MayResume w × Whole i m x (runs_again z.attempt true n) o (resumed z.attempt w)
refused_whole {w = w} l z i kd e mi at aw h = (may_resume w (may_go (seen w) (refused_stands l z i kd e mi at h.both)), went_whole z.attempt h (refused l z i kd e mi at aw h.both))

pub again_whole : {i m : ℕ} {x : List (List ℕ)} {n o : Node} {w : World} (z : Pause) (k s t : ℕ) (v : Option ℕ) → n.state ≡ Paused z → Whole i m x n o w → MayResume w × Whole i m x (record { me = n.me; awake = n.awake; took = z.transfer.attempt; top = n.top; committed = n.committed; asked = n.asked; state = Copying (recount z.transfer k s t v) }) o (resumed z.transfer.attempt w)
again_whole {w = w} z k s t v e h = (may_resume w (may_go (seen w) (h.both.ours.guest.paused z e)), went_whole z.transfer.attempt h (go_again z k s t v e h.both))

-- STOP
pub stop_whole : {i m : ℕ} {x : List (List ℕ)} {n o : Node} {w : World} (c : Transfer) (z : Pause) → n.state ≡ Copying c → z.transfer ≡ recount c 0 z.transfer.sent z.transfer.turns z.transfer.prev → Whole i m x n o w → Whole i m x (on_state (Paused z) n) o (stopped w)
stop_whole {i = i} {m = m} {x = x} {n = n} {o = o} {w = w} c z e tr h =
    let q : w.last ≡ w.turn = last_here w (h.both.ours.guest.copying c e).here in
    record { turn = h.turn; small = h.small; last = h.last; both = subst⁻¹ (λ k. Both m x [] (on_state (Paused z) n) o (record { me = w.turn; you = other w; mine = me w; theirs = w.host (other w); here = eqb w.last w.turn; pages = w.pages; runs = false; lost = w.lost; truth = (w.host k).page; hurt = false; wish = w.wish })) q (stop_it c z e tr h.both) }

-- TOLD
pub told_whole : {i m : ℕ} {x : List (List ℕ)} {n o : Node} {w : World} (z : Run) → n.state ≡ Running z → (me w).told ≡ true → Whole i m x n o w → Whole i m x (on_state (Running (record { wanted = true })) n) o (heard w)
told_whole {w = w} z e t h = own_whole (hear false (me w)) h (told_it z e t h.both)

pub untold_whole : {i m : ℕ} {x : List (List ℕ)} {n o : Node} {w : World} → (me w).told ≡ false → Whole i m x n o w → Whole i m x n o (heard w)
untold_whole {w = w} t h = own_whole (hear false (me w)) h (untold t h.both)

-- LETTERS
pub rough_whole : {i m : ℕ} {x : List (List ℕ)} {n o : Node} {w : World} → Whole i m x n o w → Whole i m x n o (roughened w)
rough_whole h = record { turn = h.turn; small = h.small; last = h.last; both = h.both }

abbrev pub in_hand : Bool → List ℕ → List (List ℕ)
in_hand true l = l ∷ []
in_hand false l = []

pub took_whole : {i m : ℕ} {x : List (List ℕ)} {n o : Node} {w : World} (z r s : List (List ℕ)) → ((l : List ℕ) → In l z (link r s (me w)) → In l x (me w)) → Whole i m x n o w → Whole i m z n o (with_link w.turn r s w)
took_whole {w = w} z r s f h = own_whole (link r s (me w)) h (took z r s f h.both)

first : (old rs : List (List ℕ)) (b : Bool) (l : List ℕ) → head_is rs b l → (k : List ℕ) → Memᴰ k (in_hand b l) ⊎ (Memᴰ k (rest' rs) ⊎ Memᴰ k old) → Memᴰ k [] ⊎ (Memᴰ k rs ⊎ Memᴰ k old)
unfolding head_is rest'
first old [] b l e k (inl i) = inl (subst (λ c. Memᴰ k (in_hand c l)) e i)
first old [] b l e k (inr i) = inr i
first old (y ∷ ys) b l e k (inl i) = inr (inl (Memᴰ.head (Memᴰ.eq_of_singleton (subst (λ c. Memᴰ k (in_hand c l)) e.0 i) ∙ e.1)))
first old (y ∷ ys) b l e k (inr (inl i)) = inr (inl (Memᴰ.tail i))
first old (y ∷ ys) b l e k (inr (inr i)) = inr (inr i)

-- a letter that was handed over is in hand
pub gives_whole : {i m : ℕ} {n o : Node} {w d : World} {b : Bool} {l : List ℕ} → Gives w b l d → Whole i m [] n o w → Whole i m (in_hand b l) n o d
gives_whole {w = w} (next b l e) h = took_whole (in_hand b l) (rest' (me w).row) (me w).old (first (me w).old (me w).row b l e) h
gives_whole {w = w} (again l e) h = rough_whole {w = w} (record { turn = h.turn; small = h.small; last = h.last; both = took (l ∷ []) (me w).row (me w).old (λ k i. among k i) h.both })
  where
    among : (k : List ℕ) → In k (l ∷ []) (me w) → In k [] (me w)
    among k (inl i) = inr (inr (subst⁻¹ (λ z. Memᴰ z (me w).old) (Memᴰ.eq_of_singleton i) e))
    among k (inr i) = inr i
gives_whole {w = w} (nothing l r a s) h = rough_whole (took_whole [] r (me w).old (λ k i. among k i) h)
  where
    among : (k : List ℕ) → In k [] (link r (me w).old (me w)) → In k [] (me w)
    among k (inl i) = inl i
    among k (inr (inl i)) = inr (inl (a k i))
    among k (inr (inr i)) = inr (inr i)

pub read_whole : {i m : ℕ} {x : List (List ℕ)} {n o : Node} {w : World} → Whole i m x n o w → Whole i m [] n o w
read_whole {w = w} h = record { turn = h.turn; small = h.small; last = h.last; both = took [] (me w).row (me w).old (λ k i. among k i) h.both }
  where
    among : {x : List (List ℕ)} (k : List ℕ) → In k [] (me w) → In k x (me w)
    among k (inl i) = elim i [ ]
    among k (inr i) = inr i

pub gives_fell : {w d : World} {b : Bool} {l : List ℕ} → Gives w b l d → d.fell ≡ w.fell
gives_fell (next b l e) = refl
gives_fell (again l m) = refl
gives_fell (nothing l r a s) = refl

pub sent_whole : {i m : ℕ} {x : List (List ℕ)} {n o : Node} {w : World} (l : List ℕ) (r s : List (List ℕ)) → ((k : List ℕ) → In k [] (link r s (w.host (other w))) → In k [] (w.host (other w)) ⊎ (k ≡ l)) → Legit m l o n (flip (seen w)) → Whole i m x n o w → Whole i m x n o (with_link (other w) r s w)
sent_whole {w = w} l r s f g h =
    whole_at (with_link (other w) r s w) (me w) (link r s (w.host (other w))) _ h.turn h.small h.last (put_other (other w) w.turn _ w.host (apart' w.turn h.small)) (put_same (other w) _ w.host) refl (sent l r s f g h.both)

pub sends_whole : {i m : ℕ} {x : List (List ℕ)} {n o : Node} {w : World} {l : List ℕ} {d : World} → Sends w l d → Legit m l o n (flip (seen w)) → Whole i m x n o w → Whole i m x n o d
sends_whole {i = i} {m = m} {x = x} {n = n} {o = o} {w = w} {l = l} s g h = go s
  where
    old : (s : List (List ℕ)) → Among s (l ∷ (w.host (other w)).old) → (k : List ℕ) → Memᴰ k s → In k [] (w.host (other w)) ⊎ (k ≡ l)
    old s a k i = elim (Memᴰ.cases_cons (a k i)) [ inl e ↦ inr e | inr j ↦ inl (inr (inr j)) ]

    row : (r : List (List ℕ)) (k : List ℕ) (b : Bool) → Memᴰ k (cond b (r ++ (l ∷ [])) r) → Memᴰ k r ⊎ (k ≡ l)
    row r k true i = elim (Memᴰ.append_cases r i) [ inl j ↦ inl j | inr j ↦ inr (Memᴰ.eq_of_singleton j) ]
    row r k false i = inl i

    both : (s : List (List ℕ)) (b : Bool) → Among s (l ∷ (w.host (other w)).old) → (k : List ℕ) → In k [] (link (cond b ((w.host (other w)).row ++ (l ∷ [])) (w.host (other w)).row) s (w.host (other w))) → In k [] (w.host (other w)) ⊎ (k ≡ l)
    both s b a k (inl i) = inl (inl i)
    both s b a k (inr (inl i)) = elim (row (w.host (other w)).row k b i) [ inl j ↦ inl (inr (inl j)) | inr e ↦ inr e ]
    both s b a k (inr (inr i)) = old s a k i

    go : {d : World} → Sends w l d → Whole i m x n o d
    go (takes s a) = sent_whole l (taken (w.host (other w)).row l) s (both s (ltb (length (w.host (other w)).row) 64) a) g h
    go (loses s a) = rough_whole (sent_whole l (w.host (other w)).row s (both s false a) g h)

pub sends_fell : {w : World} {l : List ℕ} {d : World} → Sends w l d → d.fell ≡ w.fell
sends_fell (takes s a) = refl
sends_fell (loses s a) = refl

-- TURNS AND ROUNDS
pub swap_whole : {i m : ℕ} {n o : Node} {w : World} (j : ℕ) → j ≤ 1 → i ≡ 1 - j → Whole i m [] n o w → Whole j m [] o n (seated j w)
swap_whole {i = i} {m = m} {n = n} {o = o} {w = w} j k e h =
    let t : w.turn ≡ 1 - j = h.turn ∙ e in
    let s : 1 - w.turn ≡ j = omega arith in
    record { turn = refl; small = k; last = h.last; both = subst₃ (λ x y b. Both m [] [] o n (see x y (w.host x) (w.host y) b w)) s t (turned (place w.last w.turn h.last h.small) s t) (both_swap h.both) }
  where
    turned : (((eqb w.last w.turn ≡ true) × (w.last ≡ w.turn)) ⊎ ((eqb w.last w.turn ≡ false) × (w.last ≡ 1 - w.turn))) → 1 - w.turn ≡ j → w.turn ≡ 1 - j → not (eqb w.last w.turn) ≡ eqb w.last j
    turned (inl x) s t = ap not x.0 ∙ sym (ne_eqb w.last j (λ y. apart j k (sym t ∙ sym x.1 ∙ y)))
    turned (inr x) s t = ap not x.0 ∙ sym (eq-eqb w.last j (x.1 ∙ s))

pub goes_seated : {w v : World} (i : ℕ) → Goes w v → Goes (seated i w) (seated i v)
goes_seated i (rest w) = rest (seated i w)
goes_seated i (writes p ws r l s g) = writes p ws r l s (goes_seated i g)

abbrev pub told_to : World → World
told_to w = with_guest w.runs w.last w.lost w.truth w.hurt true (with_host w.last (hear true (w.host w.last)) w)

pub asked_whole : {i m : ℕ} {x : List (List ℕ)} {n o : Node} {w : World} → T w.runs → w.wish ≡ false → Whole i m x n o w → Whole i m x n o (told_to w)
asked_whole {i = i} {m = m} {x = x} {n = n} {o = o} {w = w} t f h =
    elim (place w.last w.turn h.last h.small) [ inl x ↦ here x.0 x.1 | inr x ↦ there x.0 x.1 ]
  where
    here : eqb w.last w.turn ≡ true → w.last ≡ w.turn → Whole i m x n o (told_to w)
    here b e =
        whole_at (told_to w) (hear true (me w)) (w.host (other w)) _ h.turn h.small h.last (put_where w.last w.turn (hear true) w.host e) (put_off w.last w.turn (other w) _ w.host e (apart w.turn h.small)) refl (asked_here (is_true w.runs t) b f h.both)

    there : eqb w.last w.turn ≡ false → w.last ≡ other w → Whole i m x n o (told_to w)
    there b e =
        whole_at (told_to w) (me w) (hear true (w.host (other w))) _ h.turn h.small h.last (put_off w.last (other w) w.turn _ w.host e (apart' w.turn h.small)) (put_where w.last (other w) (hear true) w.host e) refl (asked_there (is_true w.runs t) b f h.both)

pub between_whole : {i m : ℕ} {x : List (List ℕ)} {n o : Node} {w v : World} → Between w v → Whole i m x n o (seated i w) → Whole i m x n o (seated i v)
between_whole {i = i} (Between.nothing v g) h = goes (goes_seated i g) h
between_whole {i = i} (Between.asked v r e g) h = goes (goes_seated i g) (asked_whole r e h)

pub start_whole : (w : World) → AtStart w → Whole 0 0 [] (fresh 0 true) (fresh 1 false) (seated 0 w)
start_whole w s =
    record { turn = refl; small = omega arith; last = omega (arith, s.3); both = record { ours = record { me = refl; fit = record { sides = refl; some = s.0; few = s.1; lost = λ _. s.4 }; guest = record { told = λ e. no e (s.12 0).0; runner = λ _ _. refl; keeper = λ a. no runs a; running = λ z f. record { runs = runs; here = here; wanted = λ a. no a (sym (ap (λ z. z.wanted) (running_same f))); idle = λ _ a. no a s.6 }; copying = λ x f. clash f tt; paused = λ x f. clash f tt; committed = λ x f. clash f tt; receiving = λ x f. clash f tt }; cells = record { copies = λ _. (sym (c 0 0), sym (c 0 1), sym (c 0 2)); asleep = λ e. no refl e; took = omega (arith, c 0 0); done = omega (arith, c 0 2); parity = λ e. absurd (omega (arith, c 0 2)); most = omega (arith, c 0 1); committed = λ x f. clash f tt; receiving = λ x f. clash f tt }; order = record { later = λ _. omega (arith, c 1 1); had = λ _ e. absurd (omega (arith, c 1 1)); begun = omega (arith, c 0 2); untaken = λ _ e. absurd (omega (arith, c 0 1)) }; commits = λ r f. clash f tt; copy = record { carries = λ c f. none_some f; below = λ x f. clash f tt }; letters = λ l i. none 0 l i }; yours = record { me = refl; fit = record { sides = refl; some = s.0; few = s.1; lost = λ _. s.4 }; guest = record { told = λ e. no e (s.12 1).0; runner = λ _ e. no e away; keeper = λ _ _ _ e. no e away; running = λ x f. clash f tt; copying = λ x f. clash f tt; paused = λ x f. clash f tt; committed = λ x f. clash f tt; receiving = λ x f. clash f tt }; cells = record { copies = λ e. no e refl; asleep = λ _. refl; took = omega (arith, c 1 0); done = omega (arith, c 1 2); parity = λ e. absurd (omega (arith, c 1 2)); most = omega (arith, c 1 1); committed = λ x f. clash f tt; receiving = λ x f. clash f tt }; order = record { later = λ e. no e away; had = λ e. no e away; begun = omega (arith, c 1 2); untaken = λ e. no e away }; commits = λ r f. clash f tt; copy = record { carries = λ c f. none_some f; below = λ x f. clash f tt }; letters = λ l i. none 1 l i } } }
  where
    runs : w.runs ≡ true
    runs = is_true w.runs s.2

    here : eqb w.last 0 ≡ true
    here = ap (λ l. eqb l 0) s.3

    away : not (eqb w.last 0) ≡ false
    away = ap not here

    c : (i k : ℕ) → (w.host i).cell k ≡ 0
    c i k = (s.12 i).3 k

    none : {A : Type 0} (i : ℕ) (l : List ℕ) → In l [] (w.host i) → A
    none i l (inl j) = elim j [ ]
    none i l (inr (inl j)) = absurd (Memᴰ.not-nil (subst (λ z. Memᴰ l z) (s.12 i).1 j))
    none i l (inr (inr j)) = absurd (Memᴰ.not-nil (subst (λ z. Memᴰ l z) (s.12 i).2 j))

-- A FALL OVER WHAT CHANGES ONE'S OWN PAGES OR WHAT WAS TOUCHED ALONE: it's as if that hadn't been done, and no node need fit what was done
pub fell_own : {i m : ℕ} {x : List (List ℕ)} {n o : Node} {w v : World} (h : Host) → ((page : ℕ → List ℕ) (touched : ℕ → Bool) → dropped page touched h ≡ dropped page touched (me w)) → Fallen (counted (with_host w.turn h w)) v → Whole i m x n o w → Whole i m [] (fresh i false) o v
fell_own {i = i} {m = m} {o = o} {w = w} {v = v} h e f k =
    let d : World = fallen_to f.page f.touched (counted (with_host w.turn h w)) in
    let hurt : Host = dropped f.page f.touched (me w) in
    subst⁻¹ (λ v. Whole i m [] (fresh i false) o v) f.is
    (subst (λ k. Whole i m [] (fresh k false) o d) k.turn
    (whole_at d hurt (w.host (other w)) _ k.turn k.small k.last
    (put_same w.turn _ (put w.turn h w.host) ∙ ap (dropped f.page f.touched) (put_same w.turn h w.host) ∙ e f.page f.touched)
    (put_other w.turn (other w) _ (put w.turn h w.host) (apart w.turn k.small) ∙ put_other w.turn (other w) h w.host (apart w.turn k.small)) refl
    (fell f.page f.touched k.both)))

pub step_err_own : {i m : ℕ} {x : List (List ℕ)} {n o : Node} {w v : World} (h : Host) → ((page : ℕ → List ℕ) (touched : ℕ → Bool) → dropped page touched h ≡ dropped page touched (me w)) → Does w (with_host w.turn h w) false v → w.fell ≡ false → Whole i m x n o w → Whole i m [] (fresh i false) o v
step_err_own h e (falls_before v u f) p k = fell_whole f (counted_whole k)
step_err_own h e (falls_after v u f) p k = fell_own h e f k
step_err_own {w = w} h e (down t) p k = absurd (both_ways w.fell p (is_true w.fell t))

pub skip_copying_whole : {i m : ℕ} {x : List (List ℕ)} {n o : Node} {w : World} (c : Transfer) (p k s t : ℕ) (v : Option ℕ) → n.state ≡ Copying c → (me w).touched p ≡ false → Whole i m x n o w → Whole i m x (on_state (Copying (recount c k s t v)) n) o (untouched p w)
skip_copying_whole {w = w} c p k s t v e f h = own_whole (clear p (me w)) h (skip_copying c p k s t v e f h.both)
