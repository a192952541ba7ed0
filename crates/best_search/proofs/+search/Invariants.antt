-- `best_search::search` meets its contract, by induction on the slots left. Where nothing is free the page is all. Else, before the turn of bidder b, no page with
-- nobody or a lower number at the next slot has the total: a bidder whose seat is not free stands there on no allowed page, and one that cannot lead to the total
-- on none that has it. Assumes nothing.
use Prim.Native.Nat.{ℕ, suc, ◌-◌}
use mathlib.Core.List.{List}
use mathlib.Core.Path.{◌≡◌}
use Rattle.sheet.specs.declared.Page.{Page}
use Rattle.sheet.specs.declared.Round.{Round}
use Rattle.best_clash.specs.EngineClash.{FreeFor, RanksOf}
use Rattle.best_node.specs.EngineNode.{TablesOf, Node}
use Rattle.best_search.proofs.SeekLaws.{NoneBelow}
use Rattle.best_search.proofs.+search.Given as goal

-- what is said of every round of which the lent tables are, and of the page as a node of it
abbrev pub ForAll : (shut gains ranks : List ℕ) (bidders slot : ℕ) (p : Page) (free had : ℕ) → (Round → ℕ → Type 0) → Type 0
ForAll shut gains ranks bidders slot p free had Says =
    (r : Round) (ranked : List ℕ) (k : ℕ) → suc k ≡ slot → r.bidders ≡ bidders → TablesOf r ranked shut gains → RanksOf r.bidders ranked ranks →
    Node r p k had → FreeFor r ranked p k free → Says r k

-- before the turn of bidder b
abbrev pub Seeking : (shut gains ranks : List ℕ) (bidders slot : ℕ) (p : Page) (free had sum b : ℕ) → Type 0
Seeking shut gains ranks bidders slot p free had sum b = ForAll shut gains ranks bidders slot p free had (λ r k. NoneBelow r p k b sum)

abbrev pub invariant-loop-bidder : goal.invariant-loop-bidder
invariant-loop-bidder l =
    Seeking l.shut l.gains l.ranks l.bidders l.slot.0 l.page l.free.0 l.had l.total l.bidder

abbrev pub decreases-search : goal.decreases-search
decreases-search l = 9 - l.slot.0
