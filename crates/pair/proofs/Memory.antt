-- The guest's memory become another; and hosts on which nothing has happened.
-- Assumes nothing.
use Rattle.std.proofs.Common.{◌≡◌, ℕ, ◌≤◌, min, false, cond, eqb, List, [], length, get_or, take, sym, refl, ap, ◌∙◌, inl, inr, arith}
use Rattle.std.proofs.lemmas.Bool.{cases_lt, cond_both}
use Rattle.std.proofs.lemmas.List.{get_or_past, get_or-take, length-take}
use Rattle.moving.specs.Hosts.{Host, World}
use Rattle.who.specs.declared.Who.{Who}
use Rattle.who.specs.declared.Who.TheVariants.{Zero, One}
use Rattle.who.specs.Numbers.{numb}
use Rattle.side.specs.declared.Side.{Side}
use Rattle.side.specs.Sides.{blank, size_of, host, Fresh}
use Rattle.side.proofs.Sizes.{size_pages}
use Rattle.pair.specs.declared.Pair.{Pair}
use Rattle.pair.specs.Worlds.{nobody, both, room, world_of, with_truth}

-- the guest's memory is another
abbrev pub with_ref : List (List ℕ) → Pair → Pair
with_ref xs h =
    record { pages = h.pages; zero = h.zero; one = h.one; truth = record { ref_ptr = h.truth.ref_ptr; ghost_name = h.truth.ghost_name; now = xs }; runs = h.runs; last = h.last; lost = h.lost; hurt = h.hurt; wish = h.wish; turn = h.turn; left = h.left; fell = h.fell; rough = h.rough; busy = h.busy; calm = h.calm; still = h.still }

abbrev shape : Pair → ℕ → (ℕ → List ℕ) → World
shape h n t =
    record { pages = n; host = both (host n h.zero) (host n h.one); runs = h.runs; last = numb h.last; lost = h.lost; truth = t; hurt = h.hurt; wish = h.wish; turn = numb h.turn; left = h.left; fell = h.fell; rough = h.rough; busy = h.busy; calm = h.calm; still = h.still }

pub truth_is : (h : Pair) (xs : List (List ℕ)) (t : ℕ → List ℕ) → length xs ≡ length h.truth.now → (λ p. get_or (take (room h) xs) p blank) ≡ t →
    world_of (with_ref xs h) ≡ with_truth t (world_of h)
truth_is h xs t size is =
    let m : room (with_ref xs h) ≡ room h = ap (λ s. min h.pages (min (min (size_of h.zero) (size_of h.one)) s)) size in
    ap (λ j. shape h j (λ p. get_or (take j xs) p blank)) m ∙ ap (shape h (room h)) is

past_page : (n : ℕ) (xs : List (List ℕ)) (j : ℕ) → n ≤ j → get_or (take n xs) j blank ≡ blank
past_page n xs j le = get_or_past (take n xs) j blank (simp length-take (omega arith))

-- past the last page there's nothing
pub past_pages : (h : Pair) (v : Who) (j : ℕ) → room h ≤ j → ((world_of h).host (numb v)).page j ≡ (world_of h).truth j
past_pages h Zero j le = past_page (room h) h.zero.pages.now j le ∙ sym (past_page (room h) h.truth.now j le)
past_pages h One j le = past_page (room h) h.one.pages.now j le ∙ sym (past_page (room h) h.truth.now j le)

-- two hosts on which nothing has happened
abbrev Starts : Host → Type 0
Starts h = (h.told ≡ false) × (h.row ≡ []) × (h.old ≡ []) × ((c : ℕ) → h.cell c ≡ 0) × ((p : ℕ) → length (h.page p) ≡ 64)

fresh_side : (n : ℕ) (s : Side) → Fresh s → n ≤ length s.pages.now → Starts (host n s)
fresh_side n s f le = (
  f.told,
  f.row,
  f.kept,
  f.cell,
  λ p. elim (cases_lt p n) [
    | inl lt ↦ ap length (get_or-take n s.pages.now p blank lt ∙ f.page p (omega arith))
    | inr ge ↦ ap length (past_page n s.pages.now p ge)
  ],
)

pub fresh_both : (n : ℕ) (a b : Side) → Fresh a → Fresh b → n ≤ size_of a → n ≤ size_of b → (i : ℕ) → Starts (both (host n a) (host n b) i)
fresh_both n a b f g le ge i =
    cond_both (eqb i 0) (host n a) (cond (eqb i 1) (host n b) nobody) Starts (λ _. fresh_side n a f (size_pages n a le))
    (λ _. cond_both (eqb i 1) (host n b) nobody Starts (λ _. fresh_side n b g (size_pages n b ge)) (λ _. (refl, refl, refl, λ c. refl, λ p. refl)))
