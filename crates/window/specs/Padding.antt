-- How a window's array holds its pages: noughts behind them, so that its pages and its place tell all of it.
-- Assumes nothing.
use Rattle.std.specs.Prelude.{◌≡◌, ◌+◌, ◌-◌, ◌^◌, ◌<◌, ◌≤◌, ◌++◌, length, take, drop, replicate}
use Rattle.std.proofs.Common.{arith, take-append-drop, length-take-le, ap, ◌∙◌, sym}
use Rattle.window.specs.declared.Window.TheInside.{Inside}
use Rattle.window.specs.Pages.{most, Flying}

-- no more pages than fit, each place is a number of 64 bits, and behind the pages are noughts
pub record WellKept (w : Inside) : Type 0 where
  pub array : length w.pages ≡ most
  pub room : w.len ≤ most
  pub places : w.base + w.len < 2 ^ 64
  pub noughts : drop w.len w.pages ≡ replicate (most - w.len) 0

-- the fields of a window, from what contracts see of it
abbrev pub padded : Flying → Inside
padded v = record { pages = v.pages ++ replicate (most - length v.pages) 0; len = length v.pages; base = v.base }

-- and they are the fields that it has
pub padded_again : (w : Inside) → WellKept w → padded (record { base = w.base; pages = take w.len w.pages }) ≡ w
padded_again w h =
    let few : length (take w.len w.pages) ≡ w.len = length-take-le w.len w.pages (omega (arith, h.array, h.room)) in
    λ i. record {
      pages = (ap (λ n. take w.len w.pages ++ replicate (most - n) 0) few ∙ ap (λ xs. take w.len w.pages ++ xs) (sym h.noughts) ∙ take-append-drop w.len w.pages) i;
      len = few i;
      base = w.base;
    }
