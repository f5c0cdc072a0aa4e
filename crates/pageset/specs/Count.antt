-- How many numbers pass a test.
use Rattle.std.specs.Prelude.{ℕ, zero, suc, ◌+◌, Bool, cond, ◌&&◌, nat_le}

-- a test's answer as a number: 1 or 0
abbrev pub bit : Bool → ℕ
bit b = cond b 1 0

-- how many numbers below n pass the test f
unfoldable pub count : (ℕ → Bool) → ℕ → ℕ
count f zero = 0
count f (suc n) = count f n + bit (f n)

-- how many of them are a or above
unfoldable pub count_from : (ℕ → Bool) → ℕ → ℕ → ℕ
count_from f a n = count (λ q. nat_le a q && f q) n
