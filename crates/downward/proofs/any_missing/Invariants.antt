-- `downward::any_missing` meets its contract: after as many turns as sets, a bit is set where one of the sets lacks the slot.
-- Assumes nothing.
use Prim.Native.Nat.{ℕ, ◌^◌, ◌<◌}
use mathlib.Core.List.{List}
use mathlib.Core.Path.{◌≡◌}
use lib.ListN.{get_or}
use Rattle.basis.specs.Bits.{bit_of}
use Rattle.basis.specs.Tests.{any_below}
use Rattle.downward.specs.EngineListed.{misses_next}
use Rattle.downward.proofs.any_missing.Given as goal

-- the bits say what the first n sets lack
pub record Going (m : ℕ) (listed : List ℕ) (missing n : ℕ) : Type 0 where
  pub fits : missing < 2 ^ 16
  pub told : (k : ℕ) → k < 16 → bit_of missing k ≡ any_below (λ part. misses_next m (get_or listed part 0) k) n

abbrev pub invariant-loop-had : goal.invariant-loop-had
invariant-loop-had l = Going l.slots l.listed l.missing.0 l.had-index
