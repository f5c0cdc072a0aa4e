-- What a function needs of the world before it asks, and how much of the turn it uses. (They are relations of two worlds, which the caller owns,
-- so each function that asks says them itself.)
-- Assumes nothing.
use Rattle.std.specs.Prelude.{◌≡◌, ℕ, ◌+◌, ◌≤◌, Bool, true, false, not, ◌||◌}
use Rattle.moving.specs.Hosts.{World}

-- The host stands and may ask n times.
pub record Soon (n : ℕ) (w : World) : Type 0 where
  pub left : n ≤ w.left
  pub up : w.fell ≡ false

-- It asked n times at most; it has fallen just if the answer isn't Ok, and then it was rough. The guest has as many pages as before,
-- and the calm rounds that the world has counted are those that it had, whatever has happened since.
pub record Used (n : ℕ) (w : World) (ok : Bool) (v : World) : Type 0 where
  pub left : w.left ≤ v.left + n
  pub fell : ok ≡ not v.fell
  pub pages : v.pages ≡ w.pages
  pub fall : (ok || v.rough) ≡ true
  pub calm : v.calm ≡ w.calm
  pub still : v.still ≡ w.still

-- Of a whole turn: the guest has as many pages as before, a fall makes it rough, and the calm rounds that are counted are those that were.
pub record Counts (w : World) (ok : Bool) (v : World) : Type 0 where
  pub pages : v.pages ≡ w.pages
  pub fall : (ok || v.rough) ≡ true
  pub calm : v.calm ≡ w.calm
  pub still : v.still ≡ w.still
