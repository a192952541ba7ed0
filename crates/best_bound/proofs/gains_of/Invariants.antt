-- `best_bound::gains_of` meets its contract: seats are filled in order, so after each turn the seats before the one at hand have what they add and
-- the others 0; the rows after the last slot stay 0, which is what a seat adds there, since effects are 0 there. Assumes nothing.
use Prim.Native.Nat.{ℕ, ◌+◌, ◌*◌, ◌<◌, ◌≤◌}
use mathlib.Core.List.{List}
use mathlib.Core.Path.{◌≡◌}
use lib.ListN.{length, get_or}
use Rattle.best_bound.proofs.gains_of.Given as goal

-- the first seats have what they add, and the others 0
pub record Filled (by_rank effects gains : List ℕ) (seats : ℕ) : Type 0 where
  pub size : length gains ≡ 128
  pub told : (i k : ℕ) → i < 8 → 8 * k + i < seats → get_or gains (8 * k + i) 0 ≡ get_or by_rank i 0 * get_or effects k 0
  pub empty : (x : ℕ) → seats ≤ x → get_or gains x 0 ≡ 0

-- from row to row, and inside a row
abbrev pub invariant-loop-k : goal.invariant-loop-k
invariant-loop-k l = Filled l.by_rank l.effects l.gains (8 * l.k)

abbrev pub invariant-loop-rank : goal.invariant-loop-rank
invariant-loop-rank l = Filled l.bid-items l.effects l.gains (8 * l.k + l.rank)
