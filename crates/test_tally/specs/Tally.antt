-- What counting does to the counts, each at an index of its own.
use Rattle.std.specs.Prelude.{ℕ, ◌+◌, ◌%◌, ◌^◌, List, slice_index, slice_set}

-- one more at an index, as a number of 64 bits; an index past the end changes nothing
unfoldable pub counted : List ℕ → ℕ → List ℕ
counted tally which = slice_set tally which ((slice_index tally which + 1) % 2 ^ 64)
