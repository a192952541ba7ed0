-- `greedy_links::bar_chain` meets its contract: each turn marks the owner of one link, and goes to the one before it in the chain. Assumes nothing.
use Prim.Native.Nat.{ℕ}
use mathlib.Core.Bool.{◌||◌}
use mathlib.Core.List.{List}
use mathlib.Core.Path.{◌≡◌}
use lib.Dec.{eqb}
use lib.ListN.{length}
use Rattle.sheet.specs.declared.Round.{Round}
use Rattle.sheet.specs.Round.{round_of}
use Rattle.greedy_links.specs.EngineKeys.{is_marked}
use Rattle.greedy_links.specs.EngineLinks.{some_owner_of}
use Rattle.greedy_links.proofs.LinkLaws.{Walking}
use Rattle.greedy_links.proofs.bar_chain.Given as goal

-- on the way along the chain: what all its links mark is marked now, or by the links that are left
pub record Going (r : Round) (chain : ℕ) (barred₀ barred : List ℕ) (next : ℕ) : Type 0 where
  pub size : length barred ≡ 1089
  pub walks : Walking r chain next
  pub left : (y : ℕ) → (is_marked barred₀ y || some_owner_of r chain (λ z. eqb z y) r.used) ≡ (is_marked barred y || some_owner_of r chain (λ z. eqb z y) next)

abbrev pub invariant-loop-next : goal.invariant-loop-next
invariant-loop-next l = Going (round_of l.sheet) l.fn.chain.0 l.initial.barred l.barred l.next

abbrev pub decreases-loop-next : goal.decreases-loop-next
decreases-loop-next l = l.next
