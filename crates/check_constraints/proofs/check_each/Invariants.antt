-- `check_constraints::check_each` meets its contract: a turn that goes on has found neither a fault nor, where the constraints must rise, a number
-- not above the one before; and one that returns has found the first of either, 10 to 13 before 28. Assumes nothing.
use Prim.Native.Nat.{ℕ}
use mathlib.Core.List.{List}
use mathlib.Core.Path.{◌≡◌}
use Rattle.basis.specs.First.{first_over}
use Rattle.sheet.specs.Refusal.{constraint_refusal}
use Rattle.check_constraints.proofs.RisingLaws.{number_before}
use Rattle.check_constraints.proofs.check_each.Given as goal

-- none of the constraints before index k gives a number; `before` is the order's number of the last of them
pub record Seen (s : List ℕ) (before k : ℕ) : Type 0 where
  pub none : first_over (constraint_refusal s) k ≡ 0
  pub last : before ≡ number_before s k

abbrev pub invariant-loop-k : goal.invariant-loop-k
invariant-loop-k l = Seen l.sheet l.before l.k
