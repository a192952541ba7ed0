-- `best_bound::most_left` meets its contract: after each turn `at` is the slot after those that the ranks passed have got, at most one each, and
-- `sum` what they add, at most 10 ^ 15 each; the ranks passed over add nothing, and when none is left those to the last add nothing either.
-- Assumes nothing.
use Prim.Native.Nat.{ℕ, suc, ◌+◌, ◌*◌, ◌-◌, ◌≤◌}
use mathlib.Core.List.{List}
use mathlib.Core.Path.{◌≡◌}
use Rattle.basis.specs.Bits.{bit_of}
use Rattle.best_seats.specs.EngineSeats.{Rest}
use Rattle.best_bound.specs.EngineBound.{slot_after, add_after, gain_in}
use Rattle.best_bound.proofs.most_left.Given as goal

-- the ranks below `passed` have had their turn: `at` is the slot after theirs, and `sum` what they add
pub record Gone (gains : List ℕ) (whole from ranks at sum : ℕ) : Type 0 where
  pub passed : ℕ
  pub rest : Rest whole ranks passed
  pub next : at ≡ suc (slot_after (bit_of whole) (from - 1) 16 passed)
  pub so_far : sum ≡ add_after (bit_of whole) (gain_in gains) (from - 1) 16 passed
  pub near : at ≤ from + passed
  pub fits : sum ≤ passed * 1000000000000000
  pub within : passed ≤ 8

abbrev pub invariant-loop-ranks : goal.invariant-loop-ranks
invariant-loop-ranks l = Gone l.gains l.initial.ranks.0 l.initial.at.0 l.ranks.0 l.at.0 l.sum

abbrev pub decreases-loop-ranks : goal.decreases-loop-ranks
decreases-loop-ranks l = l.ranks.0
