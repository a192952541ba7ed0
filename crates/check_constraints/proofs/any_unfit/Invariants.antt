-- `check_constraints::any_unfit` meets its contract: while nothing is found, none of the constraints seen is refused. One that breaks none of 10 to 13
-- and whose number is above the one before is in order, and the first has a number above 0. Assumes nothing.
use Prim.Native.Nat.{ℕ}
use mathlib.Core.Bool.{Bool, false}
use mathlib.Core.List.{List}
use mathlib.Core.Path.{◌≡◌}
use Rattle.basis.specs.First.{first_over}
use Rattle.sheet.specs.Refusal.{constraint_refusal}
use Rattle.check_constraints.proofs.RisingLaws.{number_before}
use Rattle.check_constraints.proofs.any_unfit.Given as goal

-- what is found of the constraints before index k; `before` is the number of the last of them
pub record Seen (s : List ℕ) (found : Bool) (before k : ℕ) : Type 0 where
  pub none : found ≡ false → first_over (constraint_refusal s) k ≡ 0
  pub last : before ≡ number_before s k

abbrev pub invariant-loop-seen : goal.invariant-loop-seen
invariant-loop-seen l =
    Seen l.sheet l.found l.before l.seen
