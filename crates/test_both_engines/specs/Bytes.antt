-- When two buffers are the same, and when one is as it was before a call. A byte past a buffer's end reads as 0.
use Rattle.std.specs.Prelude.{ℕ, ◌+◌, Bool, ◌&&◌, ◌||◌, List, length, ◌==◌, nat_le, nat_lt, slice_index}
use Rattle.basis.specs.Tests.{all_below}

-- the byte at an index is the same in both
unfoldable pub same_at : List ℕ → List ℕ → ℕ → Bool
same_at first second i = slice_index first i == slice_index second i

-- each of the first bytes is
unfoldable pub same_bytes : List ℕ → List ℕ → ℕ → Bool
same_bytes first second count = all_below (same_at first second) count

-- an index lies among those from a start on that may have been written
unfoldable pub in_part : ℕ → ℕ → ℕ → Bool
in_part start written i = nat_le start i && nat_lt i (start + written)

-- a byte is what it was before, or one that may have been written
unfoldable pub kept_at : List ℕ → List ℕ → ℕ → ℕ → ℕ → Bool
kept_at after before start written i = same_at after before i || in_part start written i

-- each byte of a buffer is
unfoldable pub untouched_bytes : List ℕ → List ℕ → ℕ → ℕ → Bool
untouched_bytes after before start written = all_below (kept_at after before start written) (length before)
