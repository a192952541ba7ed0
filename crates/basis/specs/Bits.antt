-- The engine's own: nothing here need be believed.
-- The bits of a number, counted from 0, the lowest first: a set of small numbers in one word.
use Rattle.std.specs.Prelude.{ℕ, ◌/◌, ◌%◌, ◌^◌, Bool, eqb}

-- bit i of the number is set
unfoldable pub bit_of : ℕ → ℕ → Bool
bit_of x i = eqb (x / 2 ^ i % 2) 1
