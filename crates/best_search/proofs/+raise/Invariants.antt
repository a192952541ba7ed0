-- `best_search::raise` meets its contract, by induction on the slots left. Where nothing is free the page is all. Else, after some turns of the loop, the ranks
-- that have had their turn are those below some start, and the highest is the largest total with one of them at the next slot, or what was known; what cannot
-- lead to more was left out. Assumes nothing.
use Prim.Native.Nat.{ℕ, suc, ◌-◌}
use mathlib.Core.List.{List}
use mathlib.Core.Path.{◌≡◌}
use Rattle.sheet.specs.declared.Page.{Page}
use Rattle.sheet.specs.declared.Round.{Round}
use Rattle.best_seats.specs.EngineSeats.{Rest}
use Rattle.best_clash.specs.EngineClash.{FreeFor}
use Rattle.best_node.specs.EngineNode.{TablesOf, Node}
use Rattle.best_search.proofs.RaiseLaws.{UpTo}
use Rattle.best_search.proofs.+raise.Given as goal

-- the ranks below `start` have had their turn
pub record Rising (shut gains : List ℕ) (slot free had known highest left : ℕ) : Type 0 where
  pub start : ℕ
  pub rest : Rest free left start
  pub so_far : (r : Round) (ranked : List ℕ) (p : Page) (k : ℕ) → suc k ≡ slot → TablesOf r ranked shut gains → Node r p k had → FreeFor r ranked p k free →
      UpTo r ranked p k known highest start

abbrev pub invariant-loop-left : goal.invariant-loop-left
invariant-loop-left l =
    Rising l.shut l.gains l.slot.0 l.free.0 l.had l.known l.highest l.left.0

abbrev pub decreases-loop-left : goal.decreases-loop-left
decreases-loop-left l = l.left.0

abbrev pub decreases-raise : goal.decreases-raise
decreases-raise l = 9 - l.slot.0
