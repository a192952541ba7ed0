-- `best_bound::bids_by_rank` meets its contract: after each turn the array has the bids of the ranks passed, with 0 after them. Assumes nothing.
use Prim.Native.Nat.{ℕ}
use mathlib.Core.List.{List}
use mathlib.Core.Path.{◌≡◌}
use lib.ListN.{length, get_or}
use Rattle.best_bound.specs.EngineBound.{bid_at_rank}
use Rattle.best_bound.proofs.bids_by_rank.Given as goal

-- the array has the bids of the ranks below `rank`
pub record Filled (ranked bids by_rank : List ℕ) (rank : ℕ) : Type 0 where
  pub size : length by_rank ≡ 8
  pub told : (i : ℕ) → get_or by_rank i 0 ≡ bid_at_rank ranked bids rank i

abbrev pub invariant-loop-rank : goal.invariant-loop-rank
invariant-loop-rank l = Filled l.ranked l.bids l.by_rank l.rank
