-- Counting: how many of the first numbers pass a test; and sums and largest values over them.
use Rattle.std.specs.Prelude.{ℕ, zero, suc, ◌+◌, max, Bool, cond}

-- how many of the numbers below n pass
unfoldable pub count_to : (ℕ → Bool) → ℕ → ℕ
count_to test zero = 0
count_to test (suc i) = count_to test i + cond (test i) 1 0

-- the sum of f over the numbers below n
unfoldable pub sum_to : (ℕ → ℕ) → ℕ → ℕ
sum_to f zero = 0
sum_to f (suc i) = sum_to f i + f i

-- the largest value of f over the numbers below n, and 0 where there are none
unfoldable pub most_to : (ℕ → ℕ) → ℕ → ℕ
most_to f zero = 0
most_to f (suc i) = max (most_to f i) (f i)
