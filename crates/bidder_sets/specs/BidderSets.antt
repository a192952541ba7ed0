-- Request S-2's sets: "A set is a list of bidder numbers in which a repeat counts once; the n rival sets … are lent one after another from bidder 1's, each
-- with its length in one byte before it."
use Rattle.std.specs.Prelude.{ℕ, zero, suc, ◌+◌, Bool, ◌||◌, List, [], eqb, ltb, length, get_or, take, drop}
use Rattle.basis.specs.Tests.{any_below}
use Rattle.basis.specs.Counting.{count_to}

-- bidder b is in the set, however often the list has it
unfoldable pub in_set : List ℕ → ℕ → Bool
in_set set b = any_below (λ k. eqb (get_or set k 0) b) (length set)

-- how many of bidders 1 to n are in the set
unfoldable pub member_count : (n : ℕ) → List ℕ → ℕ
member_count n set = count_to (λ i. in_set set (suc i)) n

-- "any set with a number 0 or above n"
unfoldable pub numbers_wrong : (n : ℕ) → List ℕ → Bool
numbers_wrong n set = any_below (λ k. eqb (get_or set k 0) 0 || ltb n (get_or set k 0)) (length set)

-- the set whose length stands at a byte, and where it ends
unfoldable pub set_at : (sets : List ℕ) (at : ℕ) → List ℕ
set_at sets at = take (get_or sets at 0) (drop (suc at) sets)

unfoldable pub end_at : (sets : List ℕ) (at : ℕ) → ℕ
end_at sets at = suc at + get_or sets at 0

-- where the first i sets end, and the rival set of bidder i
unfoldable pub sets_end : (sets : List ℕ) (i : ℕ) → ℕ
sets_end sets zero = 0
sets_end sets (suc i) = end_at sets (sets_end sets i)

unfoldable pub rivals_of : (sets : List ℕ) (i : ℕ) → List ℕ
rivals_of sets zero = []
rivals_of sets (suc i) = set_at sets (sets_end sets i)
