-- The pages in a window.
use Rattle.std.specs.Prelude.{ℕ, ◌+◌, ◌^◌, ◌<◌, ◌≤◌, List, [], ◌∷◌, ◌++◌, length, drop, slice_index}

-- the most pages that a window holds
abbrev pub most : ℕ
most = 62

-- what a window is to its callers: its pages, first to last, and the place of the first
pub record Flying : Type 0 where
  pub base : ℕ
  pub pages : List ℕ

-- each window is this: no more pages than fit, and each place is a number of 64 bits
pub record Sound (w : Flying) : Type 0 where
  pub room : length w.pages ≤ most
  pub places : w.base + length w.pages < 2 ^ 64

-- the page k places after the first
abbrev pub slot : Flying → ℕ → ℕ
slot w k = slice_index w.pages k

-- with one page more at the end
abbrev pub pushed : ℕ → Flying → Flying
pushed p w = record { base = w.base; pages = w.pages ++ p ∷ [] }

-- without the first k
abbrev pub dropped : ℕ → Flying → Flying
dropped k w = record { base = w.base + k; pages = drop k w.pages }
