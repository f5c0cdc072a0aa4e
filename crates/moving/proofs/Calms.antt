-- What asks do over which nobody fell: the line, what was written, and the counts of a round.
-- Assumes nothing.
use Rattle.std.proofs.Common.{◌≡◌, ℕ, ◌+◌, ◌-◌, ◌<◌, ◌≤◌, Bool, true, false, cond, T, eqb, ltb, List, [], ◌∷◌, ◌++◌, length, take, is_ok, IfOk, Ok, Err, Result, sym, refl, ap, ◌∙◌, subst, inl, inr, arith}
use Rattle.moving.proofs.Views.{put_other}
use borrow.Author.Tests.{both_ways}
use Rattle.std.proofs.lemmas.Bool.{cases_eq, cases_lt, eq-eqb, ne_eqb, lt-ltb, le-ltb, eqb-true, and_parts}
use Rattle.pageset.specs.Count.{count}
use Rattle.pageset.proofs.Counts.{count_same, count_but_one, count_mono}
use Rattle.letter.specs.declared.Letter.{Letter}
use Rattle.letter.specs.Words.{head, spelt}
use Rattle.letter.proofs.Spell.{take_spelt}
use Rattle.moving.specs.declared.Down.{Down}
use Rattle.moving.specs.Hosts.{Host, World, Goes, Goes.rest, Goes.writes, Does, Does.stands, counted, put, me, wrote, with_host, host_of, kept, heard, put_page, untouched, stopped, resumed, Posts, Posts.posts, Sends, Sends.takes, Sends.loses, Gets, Gets.gets, Gets.falls, Gives, Gives.next, Gives.again, Gives.nothing, taken, rest', head_is}
use Rattle.moving.specs.Calm.{row_here, row_there, heads, Rises, Calmly, Rests, Offline, Still, Added, Pulled}

-- ONE AFTER THE OTHER
pub calm_self : (w : World) → Calmly w w
calm_self w = record { turn = refl; rough = λ e. e; wish = λ e. (e, refl); busy = λ b. omega arith; tally = λ b i h m n. omega arith }

pub calm_then : {w u v : World} → Calmly w u → Calmly u v → Calmly w v
calm_then a b =
    record {
      turn = b.turn ∙ a.turn;
      rough = λ e. a.rough (b.rough e);
      wish = λ e. let p = b.wish e in let q = a.wish p.0 in (q.0, p.1 ∙ q.1);
      busy = λ c. let y = b.busy c in let x = a.busy (omega (arith, y)) in omega (arith, x, y);
      tally = λ c i h m n. let y = b.busy c in let z = b.tally c i h m n in let x = a.tally (omega (arith, y)) i h m n in omega (arith, x, z);
    }

pub rests_then : (w u v : World) → Rests w u → Rests u v → Rests w v
rests_then w u v a b e = let p = b e in let q = a p.0 in (q.0, p.1 ∙ q.1)

pub still_self : (w : World) → Still w w
still_self w = record { calmly = calm_self w; own = refl; far = refl; rests = λ e. (e, refl) }

pub still_then : {w u v : World} → Still w u → Still u v → Still w v
still_then {w = w} {u = u} {v = v} a b = record { calmly = calm_then a.calmly b.calmly; own = b.own ∙ a.own; far = b.far ∙ a.far; rests = rests_then w u v a.rests b.rests }

-- THE GUEST GOES ON
wrote_busy : (b : ℕ) → cond (ltb b 17) (b + 1) 17 ≤ 16 → cond (ltb b 17) (b + 1) 17 ≡ b + 1
wrote_busy b h = elim (cases_lt b 17) [ inl l ↦ rw (lt-ltb b 17 l) | inr l ↦ absurd (not_17 b l (rw (le-ltb b 17 l) at h)) ]
  where
    not_17 : (b : ℕ) → 17 ≤ b → 17 ≤ 16 → ⊥
    not_17 b l h = omega arith

-- the flags of host i after a page of the guest's was written
wrote_flag : (h : Host) (f : ℕ → Host) (p last i q : ℕ) → h.touched ≡ put p true (f last).touched → (q ≡ p → ⊥) → (put last h f i).touched q ≡ (f i).touched q
wrote_flag h f p last i q e d =
    elim (cases_eq i last) [ inl s ↦ rw (eq-eqb i last s) (ap (λ (z : ℕ → Bool). z q) e ∙ put_other p q true (f last).touched d ∙ ap (λ (z : ℕ). (f z).touched q) (sym s)) | inr n ↦ rw (ne_eqb i last n) ]

wrote_calm : {w : World} (p : ℕ) (ws : List ℕ) → Calmly w (wrote p ws w)
wrote_calm {w = w} p ws =
    record {
      turn = refl;
      rough = λ e. e;
      wish = λ e. (e, refl);
      busy = λ b. let k = wrote_busy w.busy b in omega (arith, k);
      tally = λ b i h m n.
          let k = wrote_busy w.busy b in
          let c = count_but_one (λ q. h q ((w.host i).touched q)) (λ q. h q (((wrote p ws w).host i).touched q)) p n (λ q d. ap (h q) (wrote_flag _ w.host p w.last i q refl d)) in
          omega (arith, k, c);
    }

pub goes_calm : {w v : World} → Goes w v → Calmly w v
goes_calm (rest w) = calm_self w
goes_calm (writes p ws t l e g) = calm_then (wrote_calm p ws) (goes_calm g)

goes_runs : {w v : World} → Goes w v → v.runs ≡ w.runs
goes_runs (rest w) = refl
goes_runs (writes p ws t l e g) = goes_runs g

pub goes_rests : {w v : World} → Goes w v → Rests w v
goes_rests (rest w) e = (e, refl)
goes_rests (writes {w} {v} p ws t l x g) e = absurd (subst T (sym (goes_runs g) ∙ e) t)

put_row : (k : ℕ) (h : Host) (f : ℕ → Host) (i : ℕ) → h.row ≡ (f k).row → (put k h f i).row ≡ (f i).row
put_row k h f i e =
    elim (cases_eq i k) [ inl s ↦ rw (eq-eqb i k s) (e ∙ ap (λ (x : ℕ). (f x).row) (sym s)) | inr n ↦ rw (ne_eqb i k n) ]

pub goes_row : {w v : World} → Goes w v → (i : ℕ) → (v.host i).row ≡ (w.host i).row
goes_row (rest w) i = refl
goes_row (writes {w} p ws t l e g) i = goes_row g i ∙ put_row w.last _ w.host i refl

pub goes_turn : {w v : World} → Goes w v → v.turn ≡ w.turn
goes_turn (rest w) = refl
goes_turn (writes p ws t l e g) = goes_turn g

-- rows that are the same are the same for who has the turn
rows_here : (w v : World) → v.turn ≡ w.turn → ((i : ℕ) → (v.host i).row ≡ (w.host i).row) → row_here v ≡ row_here w
unfolding row_here
rows_here w v t e = e v.turn ∙ ap (λ i. (w.host i).row) t

rows_there : (w v : World) → v.turn ≡ w.turn → ((i : ℕ) → (v.host i).row ≡ (w.host i).row) → row_there v ≡ row_there w
unfolding row_there
rows_there w v t e = e (1 - v.turn) ∙ ap (λ i. (w.host (1 - i)).row) t

-- WHAT IS ASKED FOR, as it is done: the flags are as they were, or cleared
pub record Deed (w d : World) : Type 0 where
  pub turn : d.turn ≡ w.turn
  pub rough : d.rough ≡ false → w.rough ≡ false
  pub wish : d.wish ≡ true → (w.wish ≡ true) × (d.last ≡ w.last)
  pub busy : d.busy ≡ w.busy
  pub flag : (i q : ℕ) → (d.host i).touched q ≡ true → (w.host i).touched q ≡ true

rises_mono : (h : ℕ → Bool → Bool) → Rises h → (q : ℕ) (a b : Bool) → (a ≡ true → b ≡ true) → h q a ≡ true → h q b ≡ true
rises_mono h r q true b f e = subst (λ c. h q c ≡ true) (sym (f refl)) e
rises_mono h r q false true f e = r q e
rises_mono h r q false false f e = e

deed_calm : {w d : World} → Deed w d → Calmly w d
deed_calm {w = w} {d = d} s =
    record {
      turn = s.turn;
      rough = s.rough;
      wish = s.wish;
      busy = λ b. omega (arith, s.busy);
      tally = λ b i h m n.
          let c = count_mono (λ q. h q ((w.host i).touched q)) (λ q. h q ((d.host i).touched q)) n (λ q l e. rises_mono h m q ((d.host i).touched q) ((w.host i).touched q) (s.flag i q) e) in
          omega (arith, c, s.busy);
    }

goes_of : {w d v : World} → Does w d true v → Goes (counted d) v
goes_of (stands v u g) = g

pub does_calm : {w d v : World} → Does w d true v → Deed w d → Calmly w v
does_calm {d = d} h s = calm_then (deed_calm {d = counted d} (record { turn = s.turn; rough = s.rough; wish = s.wish; busy = s.busy; flag = s.flag })) (goes_calm (goes_of h))

pub does_rests : {w d v : World} → Does w d true v → Rests w d → Rests w v
does_rests {d = d} h r e = let p = goes_rests (goes_of h) e in let q = r p.0 in (q.0, p.1 ∙ q.1)

-- an ask that leaves the line alone
pub record Plain (w d : World) : Type 0 where
  pub deed : Deed w d
  pub row : (i : ℕ) → (d.host i).row ≡ (w.host i).row

offline : {w d v : World} → Does w d true v → Plain w d → Offline w v
offline {w = w} {d = d} {v = v} h p =
    let g = goes_of h in
    record { calmly = does_calm h p.deed; own = rows_here w v (goes_turn g ∙ p.deed.turn) (λ i. goes_row g i ∙ p.row i); far = rows_there w v (goes_turn g ∙ p.deed.turn) (λ i. goes_row g i ∙ p.row i) }

pub offline_does : {X : Type 0} (r : Result X Down) {w d : World} (v : World) → Does w d (is_ok r) v → Plain w d → IfOk r (λ _. Offline w v)
offline_does (Ok x) v h p = offline h p
offline_does (Err x) v h p = tt

pub still_ok : {w d v : World} → Does w d true v → Plain w d → Rests w d → Still w v
still_ok {w = w} {d = d} {v = v} h p r = let o = offline h p in record { calmly = o.calmly; own = o.own; far = o.far; rests = does_rests {w = w} {d = d} {v = v} h r }

pub still_does : {X : Type 0} (r : Result X Down) {w d : World} (v : World) → Does w d (is_ok r) v → Plain w d → Rests w d → IfOk r (λ _. Still w v)
still_does (Ok x) v h p e = still_ok h p e
still_does (Err x) v h p e = tt

-- EACH ASK
pub same_plain : (w : World) → Plain w w
same_plain w = record { deed = record { turn = refl; rough = λ e. e; wish = λ e. (e, refl); busy = refl; flag = λ i q e. e }; row = λ i. refl }

put_touched : (k i : ℕ) (h : Host) (f : ℕ → Host) (q : ℕ) → ((q : ℕ) → h.touched q ≡ true → (f k).touched q ≡ true) → (put k h f i).touched q ≡ true → (f i).touched q ≡ true
put_touched k i h f q e = go (eqb i k) refl
  where
    go : (b : Bool) → eqb i k ≡ b → (cond b h (f i)).touched q ≡ true → (f i).touched q ≡ true
    go true s t = subst (λ j. (f j).touched q ≡ true) (sym (eqb-true i k s)) (e q t)
    go false s t = t

-- what changes the own host, but neither its row nor its flags, unless these are cleared
pub own_plain : (w : World) (h : Host) → ((q : ℕ) → h.touched q ≡ true → (me w).touched q ≡ true) → h.row ≡ (me w).row → Plain w (with_host w.turn h w)
own_plain w h t r = record { deed = record { turn = refl; rough = λ e. e; wish = λ e. (e, refl); busy = refl; flag = λ i q e. put_touched w.turn i h w.host q t e }; row = λ i. put_row w.turn h w.host i r }

cleared : (p q : ℕ) (f : ℕ → Bool) → put p false f q ≡ true → f q ≡ true
cleared p q f = go (eqb q p)
  where
    go : (b : Bool) → cond b false (f q) ≡ true → f q ≡ true
    go true e = absurd (both_ways false refl e)
    go false e = e

pub kept_plain : (w : World) (c x : ℕ) → Plain w (kept c x w)
kept_plain w c x = own_plain w _ (λ q e. e) refl

pub heard_plain : (w : World) → Plain w (heard w)
heard_plain w = own_plain w _ (λ q e. e) refl

pub put_plain : (w : World) (p : ℕ) (ws : List ℕ) → Plain w (put_page p ws w)
put_plain w p ws = own_plain w _ (λ q e. e) refl

pub untouched_plain : (w : World) (p : ℕ) → Plain w (untouched p w)
untouched_plain w p = own_plain w _ (λ q e. cleared p q (me w).touched e) refl

pub stopped_plain : (w : World) → Plain w (stopped w)
stopped_plain w = record { deed = record { turn = refl; rough = λ e. e; wish = λ e. (e, refl); busy = refl; flag = λ i q e. e }; row = λ i. refl }

pub resumed_plain : (w : World) (x : ℕ) → Plain w (resumed x w)
resumed_plain w x =
    let k = kept_plain w 0 x in
    record { deed = record { turn = refl; rough = λ e. e; wish = λ e. let p = and_parts w.wish _ e in (p.0, sym (eqb-true w.last w.turn p.1)); busy = refl; flag = k.deed.flag }; row = k.row }

pub resumed_rests : (w : World) (x : ℕ) → Rests w (resumed x w)
resumed_rests w x e = absurd (both_ways true e refl)

-- LETTERS
other_not : (t : ℕ) → 1 - t ≡ t → ⊥
other_not t e = omega arith

put_there : (k : ℕ) (h : Host) (f : ℕ → Host) → (put k h f k).row ≡ h.row
put_there k h f = rw (eq-eqb k k refl)

put_else : (k i : ℕ) (h : Host) (f : ℕ → Host) → (i ≡ k → ⊥) → (put k h f i).row ≡ (f i).row
put_else k i h f n = rw (ne_eqb i k n)

-- another row, and nothing else, at host j
link_deed : (w : World) (j : ℕ) (r o : List (List ℕ)) → Deed w (with_host j (host_of (w.host j).page (w.host j).touched (w.host j).cell (w.host j).told r o) w)
link_deed w j r o = record { turn = refl; rough = λ e. e; wish = λ e. (e, refl); busy = refl; flag = λ i q e. put_touched j i _ w.host q (λ q e. e) e }

gives_pulled : {w : World} {b : Bool} {l : List ℕ} {d : World} → Gives w b l d → record { deed : Deed w d; runs : d.runs ≡ w.runs; busy : d.busy ≡ w.busy; far : row_there d ≡ row_there w; first : (d.rough ≡ false → head_is (row_here w) b l); own : (d.rough ≡ false → row_here d ≡ rest' (row_here w)) }
unfolding row_here row_there
gives_pulled {w = w} (next b l h) =
    record { deed = link_deed w w.turn _ _; runs = refl; busy = refl; far = put_else w.turn (1 - w.turn) _ w.host (other_not w.turn); first = λ e. h; own = λ e. put_there w.turn _ w.host }
gives_pulled {w = w} (again l m) =
    record { deed = record { turn = refl; rough = λ e. absurd (both_ways true e refl); wish = λ e. (e, refl); busy = refl; flag = λ i q e. e }; runs = refl; busy = refl; far = refl; first = λ e. absurd (both_ways true e refl); own = λ e. absurd (both_ways true e refl) }
gives_pulled {w = w} (nothing l r a s) =
    let k = link_deed w w.turn r (me w).old in
    record { deed = record { turn = refl; rough = λ e. absurd (both_ways true e refl); wish = λ e. (e, refl); busy = refl; flag = k.flag }; runs = refl; busy = refl; far = put_else w.turn (1 - w.turn) _ w.host (other_not w.turn); first = λ e. absurd (both_ways true e refl); own = λ e. absurd (both_ways true e refl) }

goes_rough : {w v : World} → Goes w v → v.rough ≡ w.rough
goes_rough (rest w) = refl
goes_rough (writes p ws t l e g) = goes_rough g

pub pulled_gets : {w v : World} {a : Result Bool Down} {l : List ℕ} → Gets w a l v → IfOk a (λ b. Pulled w b l v)
unfolding row_here row_there
pulled_gets {w = w} (gets d b l v s h) =
    let g = goes_of h in
    let p = gives_pulled s in
    record {
      calmly = does_calm h p.deed;
      rests = does_rests {w = w} {d = d} {v = v} h (λ e. (sym p.runs ∙ e, p.busy));
      far = goes_row g (1 - v.turn) ∙ ap (λ i. (d.host (1 - i)).row) (goes_turn g) ∙ p.far;
      first = λ e. p.first (sym (goes_rough g) ∙ e);
      own = λ e. goes_row g v.turn ∙ ap (λ i. (d.host i).row) (goes_turn g) ∙ p.own (sym (goes_rough g) ∙ e);
    }
pulled_gets (falls x d b l m v s h) = tt

heads_push : (r : List (List ℕ)) (l : List ℕ) → heads (r ++ (l ∷ [])) ≡ heads r ++ (take 8 l ∷ [])
unfolding heads
heads_push [] l = refl
heads_push (x ∷ xs) l = ap (λ (zs : List (List ℕ)). take 8 x ∷ zs) (heads_push xs l)

pub length_heads : (r : List (List ℕ)) → length (heads r) ≡ length r
unfolding heads
length_heads [] = refl
length_heads (x ∷ xs) = omega (arith, length_heads xs)

heads_taken : (r : List (List ℕ)) (l : List ℕ) → length r < 64 → heads (taken r l) ≡ heads r ++ (take 8 l ∷ [])
heads_taken r l h = rw (lt-ltb (length r) 64 h) (heads_push r l)

sends_pushed : {w : World} {l : List ℕ} {d : World} → Sends w l d → record { deed : Deed w d; runs : d.runs ≡ w.runs; busy : d.busy ≡ w.busy; own : row_here d ≡ row_here w; far : (d.rough ≡ false → row_there d ≡ taken (row_there w) l) }
unfolding row_here row_there
sends_pushed {w = w} (takes o a) =
    record { deed = link_deed w (1 - w.turn) _ o; runs = refl; busy = refl; own = put_else (1 - w.turn) w.turn _ w.host (λ e. other_not w.turn (sym e)); far = λ e. put_there (1 - w.turn) _ w.host }
sends_pushed {w = w} (loses o a) =
    let k = link_deed w (1 - w.turn) (w.host (1 - w.turn)).row o in
    record { deed = record { turn = refl; rough = λ e. absurd (both_ways true e refl); wish = λ e. (e, refl); busy = refl; flag = k.flag }; runs = refl; busy = refl; own = put_else (1 - w.turn) w.turn _ w.host (λ e. other_not w.turn (sym e)); far = λ e. absurd (both_ways true e refl) }

added : {w v : World} {l : List ℕ} (h : List ℕ) → take 8 l ≡ h → Posts w l true v → Added h w v
unfolding row_here row_there
added {w = w} h e (posts d b v s x) =
    let g = goes_of x in
    let p = sends_pushed s in
    record {
      calmly = does_calm x p.deed;
      rests = does_rests {w = w} {d = d} {v = v} x (λ e. (sym p.runs ∙ e, p.busy));
      own = goes_row g v.turn ∙ ap (λ i. (d.host i).row) (goes_turn g) ∙ p.own;
      far = λ q f. ap heads (goes_row g (1 - v.turn) ∙ ap (λ i. (d.host (1 - i)).row) (goes_turn g) ∙ p.far (sym (goes_rough g) ∙ q)) ∙ heads_taken (w.host (1 - w.turn)).row _ f ∙ ap (λ (y : List ℕ). heads (w.host (1 - w.turn)).row ++ (y ∷ [])) e;
    }

-- a letter was sent
pub added_posts : {X : Type 0} (r : Result X Down) {w : World} (v : World) (l : Letter) → Posts w (spelt l) (is_ok r) v → IfOk r (λ _. Added (head l.kind l.attempt l.place l.page) w v)
added_posts (Ok x) v l p = added (head l.kind l.attempt l.place l.page) (take_spelt l) p
added_posts (Err x) v l p = tt

-- after something that left the line alone
pub still_added : {w u v : World} (h : List ℕ) → Still w u → Added h u v → Added h w v
still_added {w = w} {u = u} {v = v} h s a =
    record {
      calmly = calm_then s.calmly a.calmly;
      rests = rests_then w u v s.rests a.rests;
      own = a.own ∙ s.own;
      far = λ q f. a.far q (subst (λ r. length r < 64) (sym s.far) f) ∙ ap (λ r. heads r ++ (h ∷ [])) s.far;
    }

pub then_added : {X : Type 0} (r : Result X Down) {w u : World} (v : World) (h : List ℕ) → Still w u → IfOk r (λ _. Added h u v) → IfOk r (λ _. Added h w v)
then_added (Ok x) v h s a = still_added h s a
then_added (Err x) v h s a = tt

-- A PAGE WAS ASKED FOR: its flag is cleared, and the others' grow no faster than the guest writes
pub swept : (p : ℕ) {w v : World} → Does w (untouched p w) true v → v.busy ≤ 16 → (h : ℕ → Bool → Bool) → Rises h → (n : ℕ) → count (λ q. h q ((me v).touched q)) n + w.busy ≤ count (λ q. h q (put p false (me w).touched q)) n + v.busy
swept p {w = w} {v = v} d b h m n =
    let g = goes_of d in
    let t = (goes_calm g).tally b w.turn h m n in
    let s : count (λ q. h q ((me v).touched q)) n ≡ count (λ q. h q ((v.host w.turn).touched q)) n = ap (λ (i : ℕ). count (λ q. h q ((v.host i).touched q)) n) (goes_turn g) in
    let r = count_same (λ q. h q (put p false (me w).touched q)) (λ q. h q (((untouched p w).host w.turn).touched q)) n (λ q l. ap (h q) (put_same_flag w.turn _ w.host q)) in
    omega (arith, t, s, r)
  where
    put_same_flag : (k : ℕ) (x : Host) (f : ℕ → Host) (q : ℕ) → (put k x f k).touched q ≡ x.touched q
    put_same_flag k x f q = rw (eq-eqb k k refl)
