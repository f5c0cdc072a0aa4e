-- A set of pages, 64 to a word.
use Rattle.std.specs.Prelude.{ℕ, ◌/◌, ◌%◌, ◌^◌, Bool, List, ◌==◌, slice_index}
use Rattle.pageset.specs.declared.PageSet.{PageSet}

-- whether bit k of a number is set
abbrev pub bit_of : ℕ → ℕ → Bool
bit_of n k = n / 2 ^ k % 2 == 1

-- whether bit q of the words is set: bit q % 64 of word q / 64, and past the last word none is
unfoldable pub bit_at : List ℕ → ℕ → Bool
bit_at xs q = bit_of (slice_index xs (q / 64)) (q % 64)

-- whether page q is in the set
abbrev pub member : PageSet → ℕ → Bool
member s q = bit_at s.words q
