-- A pass over the pages: what a look at one makes of a transfer, and what many do.
-- Assumes nothing.
use Rattle.std.specs.Prelude.{◌≡◌, ℕ, ◌+◌, ◌-◌, ◌*◌, ◌<◌, ◌≤◌, min, Bool, cond, not, ◌&&◌, ◌||◌, ◌⊎◌, List, [], ◌∷◌, ◌++◌, Ok, Err, Result, ◌==◌, length}
use Rattle.window.specs.Pages.{pushed}
use Rattle.pageset.specs.Member.{member}
use Rattle.pageset.specs.Count.{bit}
use Rattle.moving.specs.declared.Down.{Down}
use Rattle.moving.specs.declared.state.Transfer.{Transfer}
use Rattle.moving.specs.Invariant.{slot}

-- While a pass goes on, the pages in the window are below the cursor.
abbrev pub Below : Transfer → Type 0
Below c = (k : ℕ) → k < length c.window.pages → slot c k < c.cursor

-- Is the page at the cursor to be sent? b: it was written since that was last asked.
abbrev pub due : Bool → Transfer → Bool
due b x = b || member x.unsent x.cursor

-- A look at the page at the cursor, of which was answered that it was written (b) or not: from x to y.
pub record Looked (b : Bool) (x y : Transfer) : Type 0 where
  pub attempt : y.attempt ≡ x.attempt
  pub window : y.window ≡ cond (due b x) (pushed x.cursor x.window) x.window
  pub unsent : (q : ℕ) → member y.unsent q ≡ (not (q == x.cursor) && member x.unsent q)
  pub cursor : y.cursor ≡ x.cursor + 1
  pub sent : y.sent ≡ cond (due b x) (min (x.sent + 1) 4294967295) x.sent
  pub turns : y.turns ≡ x.turns
  pub prev : y.prev ≡ x.prev

-- By how much numbers grow at a look: by one if the page was sent, and where the host fell by one at most.
abbrev pub grows : Result Bool Down → ℕ
grows (Ok b) = bit b
grows (Err x) = 1

-- Looks at one page after the other, with the answers bs.
pub data Looks (x : Transfer) : List Bool → Transfer → Type 0 where
  none : Looks x [] x
  more : (bs : List Bool) (b : Bool) (y z : Transfer) → Looks x bs y → Looked b y z → Looks x (bs ++ b ∷ []) z

-- A part of a pass, over so many pages and with so many asks at most, from x, whose window is empty: what becomes of the transfer is said
-- by what was answered. A look costs an ask, and two more if the page is sent; it ends when fewer than three are left, or the window is full,
-- or all pages were looked at.
pub record Scanned (pages most : ℕ) (x y : Transfer) : Type 0 where
  pub answers : List Bool
  pub looks : Looks x answers y
  pub cost : y.cursor + 2 * length y.window.pages ≤ x.cursor + most
  pub ends : (x.cursor + most < y.cursor + 2 * length y.window.pages + 3) ⊎ ((length y.window.pages ≡ 62) ⊎ (pages ≤ y.cursor))

-- With so many asks at most: what is on its way is sent again, and nothing else changes; if nothing is, the pass goes on.
pub record GoneOn (pages most : ℕ) (x y : Transfer) : Type 0 where
  pub same : 0 < length x.window.pages → y ≡ x
  pub goes : length x.window.pages ≡ 0 → Scanned pages (most - 1) x y
