-- `bidder_sets::read` meets its contract: no number before the turn's is wrong, and the word holds those. Assumes nothing.
use Prim.Native.Nat.{ℕ, ◌<◌, ◌≤◌}
use mathlib.Core.List.{List}
use lib.ListN.{get_or}
use Rattle.bidder_sets.specs.EngineSets.{Holds}
use Rattle.bidder_sets.proofs.SetLaws.{among}
use Rattle.bidder_sets.proofs.read.Given as goal

pub record Read (list : List ℕ) (n word k : ℕ) : Type 0 where
  pub right : (j : ℕ) → j < k → (0 < get_or list j 0) × (get_or list j 0 ≤ n)
  pub held : Holds word (among list k)

abbrev pub invariant-loop-number : goal.invariant-loop-number
invariant-loop-number l = Read l.set l.n l.bidders.0 l.number-index
