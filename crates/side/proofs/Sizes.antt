-- What the size of a host's memory says.
-- Assumes nothing.
use Rattle.std.proofs.Common.{ℕ, ◌≤◌, length, arith}
use Rattle.side.specs.declared.Side.{Side}
use Rattle.side.specs.Sides.{size_of}

-- There are never more pages than 4096.
pub size_most : (s : Side) → size_of s ≤ 4096
unfolding size_of
size_most s = omega arith

-- There is memory for each of them.
pub size_pages : (n : ℕ) (s : Side) → n ≤ size_of s → n ≤ length s.pages.now
unfolding size_of
size_pages n s le = omega arith
