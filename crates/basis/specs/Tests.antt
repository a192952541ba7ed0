-- Tests over the indices below a count, and the least number that passes one.
use Rattle.std.specs.Prelude.{ℕ, zero, suc, Bool, true, false, cond, ◌&&◌, ◌||◌, ltb}

-- some index below k passes
unfoldable pub any_below : (ℕ → Bool) → ℕ → Bool
any_below f zero = false
any_below f (suc k) = any_below f k || f k

-- every index below k passes
unfoldable pub all_below : (ℕ → Bool) → ℕ → Bool
all_below f zero = true
all_below f (suc k) = all_below f k && f k

-- the least number below k that passes, and k where none does
unfoldable pub least : (ℕ → Bool) → ℕ → ℕ
least f zero = 0
least f (suc k) = cond (ltb (least f k) k) (least f k) (cond (f k) k (suc k))
