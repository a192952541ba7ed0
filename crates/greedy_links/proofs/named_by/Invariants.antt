-- `greedy_links::named_by` meets its contract: each turn asks for the owner of one link, and goes to the one before it in the chain. Assumes nothing.
use Prim.Native.Nat.{ℕ}
use mathlib.Core.Bool.{Bool, ◌||◌}
use mathlib.Core.List.{List}
use mathlib.Core.Path.{◌≡◌}
use lib.Dec.{eqb}
use Rattle.sheet.specs.declared.Round.{Round}
use Rattle.sheet.specs.Round.{round_of}
use Rattle.greedy_links.specs.EngineKeys.{is_marked}
use Rattle.greedy_links.specs.EngineLinks.{some_owner_of}
use Rattle.greedy_links.proofs.LinkLaws.{Walking}
use Rattle.greedy_links.proofs.named_by.Given as goal

-- on the way along the chain: no owner that stands where its link says was met, and `met` says whether a link was met that is always so
pub record Going (r : Round) (held : List ℕ) (chain next : ℕ) (met : Bool) : Type 0 where
  pub walks : Walking r chain next
  pub left : some_owner_of r chain (is_marked held) r.used ≡ some_owner_of r chain (is_marked held) next
  pub itself : some_owner_of r chain (λ y. eqb y 0) r.used ≡ (met || some_owner_of r chain (λ y. eqb y 0) next)

abbrev pub invariant-loop-next : goal.invariant-loop-next
invariant-loop-next l = Going (round_of l.sheet) l.held l.fn.chain.0 l.next l.itself

abbrev pub decreases-loop-next : goal.decreases-loop-next
decreases-loop-next l = l.next
