-- What one host in memory is, as a host of the world.
-- Assumes nothing.
use Rattle.std.specs.Prelude.{◌≡◌, ℕ, ◌-◌, ◌*◌, ◌%◌, ◌<◌, ◌≤◌, min, Bool, true, false, cond, List, [], ◌∷◌, ◌++◌, length, get_or, take, replicate, ◌==◌, nat_lt, Option, slice_get, slice_index, slice_index_or, slice_set}
use Rattle.moving.specs.Hosts.{Host, host_of, put, Among, taken, rest'}
use Rattle.queue.specs.Queues.{letters_of, room_of}
use Rattle.queue.specs.declared.Queue.{Queue}
use Rattle.side.specs.declared.Mix.{Mix}
use Rattle.side.specs.declared.Mix.TheVariants.{Still, First, Swap, Double}
use Rattle.side.specs.declared.Side.{Side}

-- A page of noughts.
abbrev pub blank : List ℕ
blank = replicate 64 0

-- How many pages there is memory for, 4096 at most; none where the row has no room for 64 letters or the kept letters none for 128.
unfoldable pub size_of : Side → ℕ
size_of s = min (min (min (length s.pages.now) (length s.touched.now)) 4096) (min ((room_of s.row - 63) * 4096) ((room_of s.kept - 127) * 4096))

-- The host with the first n pages; past them all pages are blank.
abbrev pub host : ℕ → Side → Host
host n s =
    host_of (λ p. get_or (take n s.pages.now) p blank) (λ p. get_or (take n s.touched.now) p false) (λ c. slice_index s.cells c) s.told
    (letters_of s.row) (letters_of s.kept)

-- What was done to a host that has at least k pages; its memory has the size that it had.
pub record Turns (k : ℕ) (s : Side) (f : Host → Host) (t : Side) : Type 0 where
  pub size : size_of t ≡ size_of s
  pub is : (n : ℕ) → k ≤ n → n ≤ size_of s → host n t ≡ f (host n s)

-- A cell is changed.
abbrev pub kept_by : ℕ → ℕ → Host → Host
kept_by c x h = host_of h.page h.touched (put c x h.cell) h.told h.row h.old

-- It has heard that its guest is to be moved, or is told so.
abbrev pub told_by : Bool → Host → Host
told_by b h = host_of h.page h.touched h.cell b h.row h.old

-- A page is put.
abbrev pub put_by : ℕ → List ℕ → Host → Host
put_by p ws h = host_of (put p ws h.page) h.touched h.cell h.told h.row h.old

-- A page is written by the guest.
abbrev pub wrote_by : ℕ → List ℕ → Host → Host
wrote_by p ws h = host_of (put p ws h.page) (put p true h.touched) h.cell h.told h.row h.old

-- A page counts as not written.
abbrev pub untouched_by : ℕ → Host → Host
untouched_by p h = host_of h.page (put p false h.touched) h.cell h.told h.row h.old

-- Its letters are others.
abbrev pub link_by : List (List ℕ) → List (List ℕ) → Host → Host
link_by r o h = host_of h.page h.touched h.cell h.told r o

-- It has fallen: every page holds the word x throughout, every page counts as written or none does, and it isn't told anything.
pub record Fell (x : ℕ) (b : Bool) (s t : Side) : Type 0 where
  pub size : size_of t ≡ size_of s
  pub is : (n : ℕ) → host n t ≡ host_of (host n t).page (host n t).touched (host n s).cell false (host n s).row (host n s).old
  pub page : (n p : ℕ) → p < n → n ≤ size_of s → (host n t).page p ≡ replicate 64 x
  pub touched : (n p : ℕ) → p < n → n ≤ size_of s → (host n t).touched p ≡ b

-- Only its letters have changed.
pub record Linked (s : Side) (r o : List (List ℕ)) (t : Side) : Type 0 where
  pub size : size_of t ≡ size_of s
  pub is : (n : ℕ) → host n t ≡ link_by r o (host n s)

-- 128 letters are kept, the oldest first; one more, and the oldest is forgotten.
abbrev pub remembered : List (List ℕ) → List ℕ → List (List ℕ)
remembered xs l = cond (nat_lt (length xs) 128) xs (rest' xs) ++ l ∷ []

-- A letter is kept, if it should be.
pub record Noted (keep : Bool) (s : Side) (l : List ℕ) (t : Side) : Type 0 where
  pub among : Among (letters_of t.kept) (l ∷ letters_of s.kept)
  pub link : Linked s (letters_of s.row) (letters_of t.kept) t
  pub row : t.row ≡ s.row
  pub is : 0 < size_of s → letters_of t.kept ≡ cond keep (remembered (letters_of s.kept) l) (letters_of s.kept)

-- A letter is posted; r: it wasn't lost on its way. It's taken unless 64 wait, and kept if it should be.
pub record Posted (lost keep : Bool) (s : Side) (l : List ℕ) (r : Bool) (t : Side) : Type 0 where
  pub among : Among (letters_of t.kept) (l ∷ letters_of s.kept)
  pub link : Linked s (cond r (taken (letters_of s.row) l) (letters_of s.row)) (letters_of t.kept) t
  pub loses : lost ≡ true → r ≡ false
  pub takes : lost ≡ false → 0 < size_of s → r ≡ true
  pub keeps : 0 < size_of s → letters_of t.kept ≡ cond keep (remembered (letters_of s.kept) l) (letters_of s.kept)

-- The first letter of the row is taken off, and handed over, if there is one.
pub record Nexts (s : Side) (r : Option (List ℕ)) (t : Side) : Type 0 where
  pub first : r ≡ slice_get (letters_of s.row) 0
  pub link : Linked s (rest' (letters_of s.row)) (letters_of s.kept) t

-- What the line makes of a row: nothing, its first letter is lost, the first changes places with the one at i, or the one at i becomes a copy of the first.
abbrev pub mixed : Mix → ℕ → List (List ℕ) → List (List ℕ)
mixed Still i xs = xs
mixed First i xs = rest' xs
mixed Swap i xs = slice_set (slice_set xs 0 (slice_index_or xs i [])) i (slice_index_or xs 0 [])
mixed Double i xs = slice_set xs i (slice_index_or xs 0 [])

-- The same with i counted round; an empty row stays so.
abbrev pub roughened : Mix → ℕ → List (List ℕ) → List (List ℕ)
roughened m i xs = cond (length xs == 0) xs (mixed m (i % length xs) xs)

-- Nothing has happened yet, and all pages are blank.
pub record Fresh (s : Side) : Type 0 where
  pub told : s.told ≡ false
  pub row : letters_of s.row ≡ []
  pub kept : letters_of s.kept ≡ []
  pub cell : (c : ℕ) → slice_index s.cells c ≡ 0
  pub page : (p : ℕ) → p < length s.pages.now → slice_index_or s.pages.now p blank ≡ blank
  pub touched : (p : ℕ) → p < length s.touched.now → slice_index_or s.touched.now p false ≡ false

-- One letter more is kept.
pub record Remembers (q : Queue) (l : List ℕ) (s : Queue) : Type 0 where
  pub among : Among (letters_of s) (l ∷ letters_of q)
  pub room : room_of s ≡ room_of q
  pub is : 128 ≤ room_of q → letters_of s ≡ remembered (letters_of q) l

-- One letter more waits, unless 64 do; r: it isn't lost for want of memory.
pub record Enters (q : Queue) (l : List ℕ) (r : Bool) (s : Queue) : Type 0 where
  pub letters : letters_of s ≡ cond r (taken (letters_of q) l) (letters_of q)
  pub room : room_of s ≡ room_of q
  pub takes : 64 ≤ room_of q → r ≡ true
