-- Where a call's number is counted, and what a difference adds.
use Rattle.std.specs.Prelude.{ℕ, ◌+◌, ◌*◌, Bool, cond, ◌&&◌, List, nat_lt}
use Rattle.test_tally.specs.Tally.{counted}

-- the index of the count of differences
abbrev pub differences : ℕ
differences = 353

-- the numbers 0 to 31 for each of eleven calls, and the differences for any other number or call
unfoldable pub place_of : ℕ → ℕ → ℕ
place_of call number = cond (nat_lt call 11 && nat_lt number 32) (call * 32 + number) differences

-- the counts as they were where a comparison holds, and else one difference more
unfoldable pub held : List ℕ → Bool → List ℕ
held tally same = cond same tally (counted tally differences)
