-- `greedy::next_eligible` meets its contract: the ranked bidders are tried one after the other, and from one below the floor on nobody is eligible.
-- Assumes nothing.
use Prim.Native.Nat.{ℕ, ◌<◌, ◌≤◌}
use mathlib.Core.Bool.{false}
use mathlib.Core.Path.{◌≡◌}
use lib.ListN.{get_or}
use Rattle.sheet.specs.declared.Page.{Page}
use Rattle.sheet.specs.declared.Round.{Round}
use Rattle.auction.specs.Eligible.{eligible}
use Rattle.greedy.specs.EngineEligible.{SoFar}
use Rattle.greedy.proofs.next_eligible.Given as goal

-- none of the bidders from `start` to before the rank is eligible
abbrev pub invariant-loop-rank : goal.invariant-loop-rank
invariant-loop-rank l =
    (q : Round) (p : Page) → SoFar q p l.sheet l.barred l.held l.bids l.asks l.slot.0 → (j : ℕ) → l.from ≤ j → j < l.rank → eligible q p l.slot.0 (get_or l.ranked j 0) ≡ false
