-- What a queue of letters holds.
-- Assumes nothing.
use Rattle.std.specs.Prelude.{◌≡◌, ℕ, ◌<◌, Bool, cond, List, [], ◌∷◌, ◌++◌, length, take, drop}
use Rattle.queue.specs.declared.Queue.{Queue}

-- The letters that wait, the first to come first. A start or a number that lies past the memory is cut off there, so every value of the struct means something.
unfoldable pub letters_of : Queue → List (List ℕ)
letters_of q = take q.count (drop q.head q.slots.now)

-- How many letters there is room for.
abbrev pub room_of : Queue → ℕ
room_of q = length q.slots.now

-- A push: the letter stands at the end, or there was no room and nothing has changed. Where fewer letters wait than there are slots it is taken.
pub record Pushed (q : Queue) (l : List ℕ) (r : Bool) (s : Queue) : Type 0 where
  pub letters : letters_of s ≡ cond r (letters_of q ++ l ∷ []) (letters_of q)
  pub room : room_of s ≡ room_of q
  pub takes : length (letters_of q) < room_of q → r ≡ Bool.true
