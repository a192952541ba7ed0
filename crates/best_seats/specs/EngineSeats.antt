-- The engine's own: nothing here need be believed.
-- Sets of ranks and of seats as the bits of a word; a seat is a rank at a slot, 8 a slot.
use Rattle.std.specs.Prelude.{ℕ, ◌+◌, ◌*◌, ◌<◌, Bool, true, false, ◌&&◌, ◌≡◌, leb}
use Rattle.basis.specs.Bits.{bit_of}
use Rattle.basis.specs.Tests.{any_below}

-- rank i has a seat in the set at some slot
unfoldable pub somewhere : (seats : ℕ) → ℕ → Bool
somewhere seats i = any_below (λ l. bit_of seats (8 * l + i)) 8

-- the rank is in the set, and none before it is
pub record First (ranks rank : ℕ) : Type 0 where
  pub low : rank < 8
  pub here : bit_of ranks rank ≡ true
  pub none_before : (i : ℕ) → i < rank → bit_of ranks i ≡ false

-- what is left of a set, once it has been gone through from the first rank to below `start`: the ranks from there on
pub record Rest (whole left start : ℕ) : Type 0 where
  pub few : left < 256
  pub told : (i : ℕ) → i < 8 → bit_of left i ≡ (leb start i && bit_of whole i)
