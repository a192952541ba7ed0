-- A number "in decimal": its digits in ASCII, the most significant first, with no zero in front, and `0` for nought.
use Rattle.std.specs.Prelude.{ℕ, zero, suc, ◌+◌, ◌*◌, ◌-◌, ◌/◌, ◌%◌, ◌<◌, Bool, true, false, List, [], ◌∷◌, ◌++◌, ◌≡◌, ltb, get_or}

-- the ASCII code of a digit, 0 to 9
abbrev pub digit : ℕ → ℕ
digit d = 48 + d

-- A number below 10 is its one digit; any other is the digits of its tenth part, and then its last digit. Each call has one
-- call fewer left, and a number has no more digits than the calls that it is given below. `small` says whether it is below 10.
unfoldable pub digits_within : (calls : ℕ) (small : Bool) (n : ℕ) → List ℕ
digits_within zero small n = digit n ∷ []
digits_within (suc calls) true n = digit n ∷ []
digits_within (suc calls) false n = digits_within calls (ltb (n / 10) 10) (n / 10) ++ (digit (n % 10) ∷ [])

-- the decimal text of n
unfoldable pub decimal : ℕ → List ℕ
decimal n = digits_within n (ltb n 10) n

-- the number that a decimal text says: each digit adds to ten times what stands before it
unfoldable pub number_after : ℕ → List ℕ → ℕ
number_after before [] = before
number_after before (d ∷ text) = number_after (10 * before + (d - 48)) text

-- What makes it the number's decimal text: it says the number,
abbrev pub SaysNumber : Type 0
SaysNumber = (n : ℕ) → number_after 0 (decimal n) ≡ n

-- and, but for nought, it starts with no zero
abbrev pub NoZeroInFront : Type 0
NoZeroInFront = (n : ℕ) → 0 < n → get_or (decimal n) 0 0 ≡ digit 0 → ⊥
