-- `greedy::fill` meets its contract: before each turn the first k slots are filled and priced, for whichever round the lists are of.
-- Assumes nothing.
use Prim.Native.Nat.{ℕ}
use mathlib.Core.List.{List}
use mathlib.Core.Path.{◌≡◌}
use lib.ListN.{length}
use Rattle.sheet.specs.declared.Page.{Page}
use Rattle.sheet.specs.declared.Round.{Round}
use Rattle.greedy.specs.EngineEligible.{Lent}
use Rattle.greedy.proofs.FillLaws.{Filled}
use Rattle.greedy.proofs.fill.Given as goal

pub record Going (s : List ℕ) (start : ℕ) (last links bids asks : List ℕ) (bidders slots tick : ℕ) (barred held : List ℕ) (page : Page) (prices : List ℕ) (k : ℕ) : Type 0 where
  pub size_barred : length barred ≡ 1089
  pub size_held : length held ≡ 1089
  pub filled : (r : Round) → Lent r s start last links bids asks bidders slots tick → Filled r k barred held page prices

abbrev pub invariant-loop-k : goal.invariant-loop-k
invariant-loop-k l =
    Going l.sheet l.start l.last l.links l.bids l.asks l.bidders l.slots l.tick l.barred l.held l.page l.prices l.k
