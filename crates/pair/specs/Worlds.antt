-- What two hosts in memory and their guest are, as a world.
-- Assumes nothing.
use Rattle.std.specs.Prelude.{◌≡◌, ℕ, ◌+◌, ◌<◌, min, Bool, true, false, cond, not, ◌&&◌, List, [], ◌∷◌, length, take, replicate, ◌==◌, Option, slice_get, slice_index_or}
use Rattle.moving.specs.Hosts.{Host, World, host_of, Among, taken, rest', with_host, with_guest, with_link, me, Fallen, with_turn, good}
use Rattle.who.specs.declared.Who.{Who}
use Rattle.who.specs.declared.Who.TheVariants.{Zero, One}
use Rattle.who.specs.Numbers.{numb}
use Rattle.side.specs.declared.Mix.{Mix}
use Rattle.side.specs.declared.Side.{Side}
use Rattle.side.specs.Sides.{blank, size_of, host, remembered, roughened}
use Rattle.pair.specs.declared.Pair.{Pair}

-- A host of the two.
abbrev pub side_in : Who → Side → Side → Side
side_in Zero a b = a
side_in One a b = b

abbrev pub side_of : Who → Pair → Side
side_of v h = side_in v h.zero h.one

-- That host is another.
abbrev pub with_side : Who → Pair → Side → Pair
with_side Zero h s = record h { zero = s }
with_side One h s = record h { one = s }

-- A host that isn't there.
abbrev pub nobody : Host
nobody = host_of (λ _. blank) (λ _. false) (λ _. 0) false [] []

-- Host 0 is a, host 1 is b.
abbrev pub both : Host → Host → ℕ → Host
both a b i = cond (i == 0) a (cond (i == 1) b nobody)

-- How many pages the guest has: as many as were asked for, if there is memory for them everywhere.
abbrev pub room : Pair → ℕ
room h = min h.pages (min (min (size_of h.zero) (size_of h.one)) (length h.truth.now))

-- The world. It means something whatever the numbers in the struct are.
abbrev pub world_of : Pair → World
world_of h =
    record { pages = room h; host = both (host (room h) h.zero) (host (room h) h.one); runs = h.runs; last = numb h.last; lost = h.lost; truth = λ p. slice_index_or (take (room h) h.truth.now) p blank; hurt = h.hurt; wish = h.wish; turn = numb h.turn; left = h.left; fell = h.fell; rough = h.rough; busy = h.busy; calm = h.calm; still = h.still }

-- The host whose turn it is has lost its pages and what it was told: they hold the word x throughout, and all count as written or none.
pub record DroppedWith (x : ℕ) (b : Bool) (w v : World) : Type 0 where
  pub page : ℕ → List ℕ
  pub touched : ℕ → Bool
  pub is : v ≡ with_host w.turn (host_of page touched (me w).cell false (me w).row (me w).old) w
  pub word : (p : ℕ) → p < w.pages → page p ≡ replicate 64 x
  pub flag : (p : ℕ) → p < w.pages → touched p ≡ b

-- The host whose turn it is has fallen; its pages hold the word x throughout, and all count as written or none.
pub record FallenWith (x : ℕ) (b : Bool) (w v : World) : Type 0 where
  pub fallen : Fallen w v
  pub page : (p : ℕ) → p < w.pages → (me v).page p ≡ replicate 64 x
  pub touched : (p : ℕ) → p < w.pages → (me v).touched p ≡ b

-- A letter is posted to host i: r says whether it was on its way. It's lost if it should be, and kept if it should be.
pub record PostedIn (lost keep : Bool) (i : ℕ) (w : World) (l : List ℕ) (r : Bool) (v : World) : Type 0 where
  pub o : List (List ℕ)
  pub among : Among o (l ∷ (w.host i).old)
  pub is : v ≡ with_link i (cond r (taken (w.host i).row l) (w.host i).row) o w
  pub loses : lost ≡ true → r ≡ false
  pub takes : lost ≡ false → 0 < w.pages → r ≡ true
  pub keeps : 0 < w.pages → o ≡ cond keep (remembered (w.host i).old l) (w.host i).old

-- The first letter that waits for host i is taken off, and handed over, if there is one.
pub record NextIn (i : ℕ) (w : World) (r : Option (List ℕ)) (v : World) : Type 0 where
  pub first : r ≡ slice_get (w.host i).row 0
  pub is : v ≡ with_link i (rest' (w.host i).row) (w.host i).old w

-- The line is rough with the letters that wait for host i.
abbrev pub mixed_in : Mix → ℕ → ℕ → World → World
mixed_in m k i w = with_link i (roughened m k (w.host i).row) (w.host i).old w

-- The guest's memory is t.
abbrev pub with_truth : (ℕ → List ℕ) → World → World
with_truth t w = with_guest w.runs w.last w.lost t w.hurt w.wish w

-- The guest is to be moved, and the host on which it runs is told.
abbrev pub wished : World → World
wished w = with_guest w.runs w.last w.lost w.truth w.hurt true (with_host w.last (host_of (w.host w.last).page (w.host w.last).touched (w.host w.last).cell true (w.host w.last).row (w.host w.last).old) w)

-- On the host whose turn it is all pages are the guest's memory as it was when it last stopped.
abbrev pub Same : World → Type 0
Same w = (p : ℕ) → p < w.pages → (me w).page p ≡ w.truth p

-- A round has ended; the counts of calm rounds go up to 2^32 - 1.
abbrev pub closed : World → World
closed w =
    with_turn w.turn 0 w.fell false 0 (cond (good w && w.wish && not w.lost && not w.hurt) (min (w.calm + 1) 4294967295) 0) (cond (good w && not w.runs && not w.lost && not w.hurt) (min (w.still + 1) 4294967295) 0) w
