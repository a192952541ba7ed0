-- Pages of a round, those that break no constraint and obey the floors, and a page's total: what greedy and best pages are held against.
use Rattle.std.specs.Prelude.{ℕ, zero, suc, ◌+◌, ◌*◌, ◌<◌, ◌≤◌, false, ◌≡◌}
use Rattle.sheet.specs.declared.Page.{Page}
use Rattle.sheet.specs.declared.Round.{Round}
use Rattle.sheet.specs.Round.{bid_of, effect_of, floor_of}
use Rattle.auction.specs.Page.{at, Sized}
use Rattle.auction.specs.Broken.{breaks}

-- "A page gives each place one bidder or none, and no bidder two places": a page of the round
pub record PageOf (r : Round) (p : Page) : Type 0 where
  pub sized : Sized p
  pub bidders : (k : ℕ) → at p k ≤ r.bidders
  pub slots : (k : ℕ) → r.slots < k → at p k ≡ 0
  pub once : (j k : ℕ) → (at p j ≡ 0 → ⊥) → at p j ≡ at p k → j ≡ k

-- a page of the round that breaks no constraint, and whose filled slots have a bid at or above their floor
pub record Allowed (r : Round) (p : Page) : Type 0 where
  pub page : PageOf r p
  pub unbroken : breaks r p ≡ false
  pub reached : (k : ℕ) → (at p k ≡ 0 → ⊥) → floor_of r k ≤ bid_of r (at p k)

-- "A page's total is the sum of bid × effect over filled places." The bid of nobody, bidder 0, is 0, so an empty slot adds nothing. Slots 1 to k:
unfoldable pub total_up_to : Round → Page → ℕ → ℕ
total_up_to r p zero = 0
total_up_to r p (suc k) = total_up_to r p k + bid_of r (at p (suc k)) * effect_of r (suc k)

unfoldable pub total : Round → Page → ℕ
total r p = total_up_to r p r.slots
