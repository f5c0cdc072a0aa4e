-- A letter that is handed over as planned.
-- Assumes nothing.
use Rattle.std.proofs.Common.{◌≡◌, ℕ, ◌%◌, Bool, true, false, List, [], ◌∷◌, ◌<◌, length, is_err, Ok, Some, None, Result, unwrap_or, sym, refl, ap, ◌∙◌, subst, subst₂, inl, inr, arith}
use mathlib.Core.Path.{subst₃}
use mathlib.Core.List.Memᴰ
use mathlib.Core.List.{Memᴰ}
use Rattle.std.specs.List.{slice_get}
use Rattle.std.proofs.lemmas.Bool.{cases_lt}
use Rattle.std.proofs.lemmas.Option.{none-some, slice_get_within, slice_get-get_or, get_or_from_slice_get}
use Rattle.moving.specs.declared.Down.{Down}
use Rattle.moving.specs.Hosts.{World, Does, Gives, next, again, nothing, Gets, gets, falls, with_link, roughened, me, head_is, rest', counted}
use Rattle.who.specs.declared.Who.{Who}
use Rattle.who.specs.declared.Who.TheVariants.{Zero, One}
use Rattle.who.specs.Numbers.{numb}
use Rattle.side.specs.Sides as sides
use Rattle.side.proofs.Letters.{mem_at, round_below, roughened_among, roughened_length}
use Rattle.pair.specs.Worlds.{mixed_in, NextIn}
use Rattle.plan.specs.declared.Plan.{Plan}
use Rattle.plan.specs.declared.Hand.{Hand}
use Rattle.plan.specs.declared.Hand.TheVariants.{Next, Again, Mixed}
use Rattle.plan.specs.Plans.{hand_of, handed}
use Rattle.hosts.specs.declared.Hosts.{Hosts}
use Rattle.hosts.specs.Stories.{Story, story_of}
use Rattle.hosts.specs.Follows.{world_of, HandsNext, Hands, Hears, Follows, Began, asked_now}
use Rattle.hosts.proofs.Plans.{as_planned, follows_does, err_case}

-- the first letter is handed over, if there is one
pub head_none : (xs : List (List ℕ)) (l : List ℕ) → None ≡ slice_get xs 0 → head_is xs false l
unfolding head_is
head_none [] l e = refl
head_none (x ∷ xs) l e = absurd (none-some x e)

pub head_some : (xs : List (List ℕ)) (l : List ℕ) → Some l ≡ slice_get xs 0 → head_is xs true l
unfolding head_is
head_some [] l e = absurd (none-some l (sym e))
head_some (x ∷ xs) l e = (refl, ap (λ o. unwrap_or o l) e)

pub next_none : (w : World) (l : List ℕ) (v : World) → NextIn w.turn w None v → HandsNext w false l v
next_none w l v n = (head_none (me w).row l n.first, n.is)

pub next_some : (w : World) (k l : List ℕ) (v : World) → NextIn w.turn w (Some k) v → l ≡ k → HandsNext w true l v
next_some w k l v n e = subst (λ x. HandsNext w true x v) (sym e) (head_some (me w).row k n.first, n.is)

-- a letter that is kept is
pub again_some : (i : ℕ) (w : World) (k l : List ℕ) (v : World) → Some k ≡ slice_get (me w).old (i % length (me w).old) → l ≡ k → v ≡ roughened w → Hands (Again i) w true l v
again_some i w k l v e f r =
    let lt = slice_get_within (me w).old _ k (sym e) in
    (λ z. absurd (omega arith), λ _. (refl, f ∙ sym (get_or_from_slice_get (me w).old _ k [] (sym e)), r))

-- where none is, it's the next
pub again_next : (i : ℕ) (w : World) (b : Bool) (l : List ℕ) (v : World) → None ≡ slice_get (me w).old (i % length (me w).old) → HandsNext w b l v → Hands (Again i) w b l v
again_next i w b l v e h = (λ _. h, λ lt. absurd (empty lt))
  where
    empty : 0 < length (me w).old → ⊥
    empty lt = none-some _ (e ∙ slice_get-get_or (me w).old _ [] (round_below i (me w).old lt))

next_gives : (w : World) (b : Bool) (l : List ℕ) (d : World) → HandsNext w b l d → Gives w b l d
next_gives w b l d h = subst (Gives w b l) (sym h.1) (next b l h.0)

again_gives : (w : World) (b : Bool) (l : List ℕ) (d : World) → b ≡ true → Memᴰ l (me w).old → d ≡ roughened w → Gives w b l d
again_gives w b l d e m f = subst₂ (λ x y. Gives w x l y) (sym e) (sym f) (again l m)

-- what is handed over is what the traits allow
pub hands_gives : (x : Hand) (w : World) (b : Bool) (l : List ℕ) (d : World) → Hands x w b l d → Gives w b l d
hands_gives Next w b l d h = next_gives w b l d h
hands_gives (Again i) w b l d h =
    elim (cases_lt 0 (length (me w).old)) [
      | inl lt ↦
          let k = h.1 lt in
          again_gives w b l d k.0 (subst (λ y. Memᴰ y (me w).old) (sym k.1) (mem_at (me w).old (i % length (me w).old) (round_below i (me w).old lt))) k.2
      | inr ge ↦ next_gives w b l d (h.0 (omega arith))
    ]
hands_gives (Mixed m i) w b l d h =
    subst₂ (λ x y. Gives w x l y) (sym h.0) (sym h.1) (nothing l (sides.roughened m i (me w).row) (roughened_among m i (me w).row) (roughened_length m i (me w).row))

-- and it's the same when the ask was counted first
pub hands_counted : (x : Hand) (w : World) (b : Bool) (l : List ℕ) (v : World) → Hands x (counted w) b l v → (d : World) × Hands x w b l d × (v ≡ counted d)
hands_counted Next w b l v h = (with_link w.turn (rest' (me w).row) (me w).old w, (h.0, refl), h.1)
hands_counted (Again i) w b l v h =
    elim (cases_lt 0 (length (me w).old)) [
      | inl lt ↦ let k = h.1 lt in (roughened w, (λ e. absurd (omega arith), λ _. (k.0, k.1, refl)), k.2)
      | inr ge ↦ let k = h.0 (omega arith) in (with_link w.turn (rest' (me w).row) (me w).old w, (λ _. (k.0, refl), λ lt. absurd (omega arith)), k.1)
    ]
hands_counted (Mixed m i) w b l v h = (roughened (mixed_in m i w.turn w), (h.0, refl), h.1)

numb_same : (a b : Who) → numb a ≡ numb b → a ≡ b
numb_same Zero Zero e = refl
numb_same Zero One e = absurd (omega arith)
numb_same One Zero e = absurd (omega arith)
numb_same One One e = refl

-- an ask for a letter, from how it began to how it ended
pub hears_of : (h m : Hosts) (due ok b : Bool) (l : List ℕ) (x : World) (q : Plan) (t : Story) (g : Hosts) → Began h due m →
    Hands (hand_of m.pair.turn m.plan) (world_of m) b l x → q ≡ handed m.pair.turn m.plan → t ≡ story_of m.log →
    ((d : World) → x ≡ counted d → Follows h d q t ok g) → Hears h b l ok g
hears_of h m due ok b l x q t g begun hands plan story ends =
    let who : m.pair.turn ≡ h.pair.turn = numb_same m.pair.turn h.pair.turn (ap (λ w. w.turn) begun.world) in
    let k = hands_counted (hand_of h.pair.turn (asked_now h)) (world_of h) b l x (subst₃ (λ v p w. Hands (hand_of v p) w b l x) who begun.plan begun.world hands) in
    record {
      d = k.0;
      hands = k.1;
      follows = as_planned (plan ∙ ap (λ v. handed v m.plan) who ∙ ap (handed h.pair.turn) begun.plan) (story ∙ begun.story) (ends k.0 k.2);
    }

pub hears_gets : {h g : Hosts} {b : Bool} {l : List ℕ} → Hears h b l true g → Gets (world_of h) (Ok b) l (world_of g)
hears_gets {h = h} {b = b} {l = l} k = gets k.d b l _ (hands_gives _ (world_of h) b l k.d k.hands) (follows_does k.follows)

pub hears_falls : {h g : Hosts} {b : Bool} {l : List ℕ} (r : Result Bool Down) (m : List ℕ) → is_err r ≡ true → Hears h b l false g → Gets (world_of h) r m (world_of g)
hears_falls {h = h} {g = g} {b = b} {l = l} r m e k =
    err_case (λ r. Gets (world_of h) r m (world_of g)) r e (λ x. falls x k.d b l m _ (hands_gives _ (world_of h) b l k.d k.hands) (follows_does k.follows))

pub gets_none : (w : World) (r : Result Bool Down) (m : List ℕ) (v : World) → is_err r ≡ true → ((d : World) → Does w d false v) → Gets w r m v
gets_none w r m v e f = err_case (λ r. Gets w r m v) r e (λ x. falls x _ false [] m v (nothing [] [] (λ y n. absurd (Memᴰ.not-nil n)) (omega arith)) (f _))
