-- `best_search::ranks_of` meets its contract: after each turn the bidders of the ranks passed have their ranks, each bidder its own. Assumes nothing.
use Prim.Native.Nat.{ℕ, ◌<◌}
use mathlib.Core.List.{List}
use mathlib.Core.Path.{◌≡◌}
use lib.ListN.{length, get_or}
use Rattle.best_search.proofs.ranks_of.Given as goal

-- the bidders of the ranks below `rank` have them
pub record Passed (ranked ranks : List ℕ) (rank : ℕ) : Type 0 where
  pub size : length ranks ≡ 16
  pub small : (b : ℕ) → get_or ranks b 0 < 8
  pub told : (i : ℕ) → i < rank → get_or ranks (get_or ranked i 0) 0 ≡ i

abbrev pub invariant-loop-rank : goal.invariant-loop-rank
invariant-loop-rank l = Passed l.ranked l.ranks l.rank
