-- `best_search::write_page` meets its contract: after k turns the first k bidder numbers stand at the front, none of them cut.
-- Assumes nothing.
use Prim.Native.Nat.{suc}
use mathlib.Core.List.{◌++◌}
use mathlib.Core.Path.{◌≡◌}
use lib.ListN.{drop}
use Rattle.basis.specs.Rows.{row}
use Rattle.auction.specs.Page.{at}
use Rattle.best_search.proofs.write_page.Given as goal

abbrev pub invariant-loop-k : goal.invariant-loop-k
invariant-loop-k l = l.res ≡ row (λ j. at l.fn.page (suc j)) l.k ++ drop l.k l.initial.res
