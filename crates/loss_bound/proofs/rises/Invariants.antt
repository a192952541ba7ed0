-- `loss_bound::rises` meets its contract: while it goes on, each of the constraints seen is above the one before it. Assumes nothing.
use Prim.Native.Nat.{ℕ, suc, ◌<◌}
use mathlib.Core.List.{List}
use mathlib.Core.Path.{◌≡◌}
use Rattle.sheet.specs.Accepted.{order_number}
use Rattle.loss_bound.proofs.rises.Given as goal

pub record Seen (sheet : List ℕ) (before k : ℕ) : Type 0 where
  pub last : (i : ℕ) → suc i ≡ k → order_number sheet i ≡ before
  pub rise : (i : ℕ) → suc i < k → order_number sheet i < order_number sheet (suc i)

abbrev pub invariant-loop-k : goal.invariant-loop-k
invariant-loop-k l = Seen l.sheet l.before l.k
