-- `gain::breaks_own` meets its contract: the constraint read at an index is the round's there, and a turn that goes on has found no
-- broken constraint of the bidder before. Assumes nothing.
use Prim.Native.Nat.{ℕ}
use mathlib.Core.Bool.{Bool, false, ◌&&◌}
use mathlib.Core.Path.{◌≡◌}
use mathlib.Core.List.{List}
use lib.Dec.{eqb}
use Rattle.basis.specs.Tests.{any_below}
use Rattle.sheet.specs.declared.Constraint.{Constraint}
use Rattle.sheet.specs.declared.Page.{Page}
use Rattle.sheet.specs.Round.{round_of, constraint_at}
use Rattle.auction.specs.Broken.{broken}
use Rattle.gain.proofs.breaks_own.Given as goal

-- the constraint is the bidder's and is broken
abbrev pub ownBroken : Page → ℕ → Constraint → Bool
ownBroken p i q = eqb q.owner.0 i && broken p q

-- the sheet's constraint at an index is so
abbrev pub broken_at : List ℕ → Page → ℕ → ℕ → Bool
broken_at s p i a = ownBroken p i (constraint_at (round_of s) a)

abbrev pub invariant-loop-a : goal.invariant-loop-a
invariant-loop-a l = any_below (broken_at l.truth l.page l.bidder.0) l.a ≡ false
