-- `check_numbers::any_effect_faulty` meets its contract: what is found after a turn is what was found before it, or the turn's own
-- effect held against the one before. Assumes nothing.
use Prim.Native.Nat.{ℕ, suc}
use mathlib.Core.Bool.{Bool}
use mathlib.Core.List.{List}
use mathlib.Core.Path.{◌≡◌}
use Rattle.basis.specs.Tests.{any_below}
use Rattle.sheet.specs.Refusal.{effect_before}
use Rattle.check_numbers.proofs.RefusalLaws.{effect_faulty}
use Rattle.check_numbers.proofs.any_effect_faulty.Given as goal

-- what is found of the effects before index k; `before` is the last of them
pub record Seen (s : List ℕ) (before : ℕ) (found : Bool) (k : ℕ) : Type 0 where
  pub any : found ≡ any_below (effect_faulty s) k
  pub last : before ≡ effect_before s (suc k)

abbrev pub invariant-loop-k : goal.invariant-loop-k
invariant-loop-k l = Seen l.sheet l.before l.found l.k
