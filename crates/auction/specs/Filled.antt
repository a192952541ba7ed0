-- "Filling the page", as a property of a finished page: what it is for a slot to be filled by the greedy rule.
use Rattle.std.specs.Prelude.{ℕ, zero, suc, ◌-◌, ◌<◌, ◌≤◌, true, false, ◌⊎◌, ◌≡◌}
use Rattle.sheet.specs.declared.Page.{Page}
use Rattle.sheet.specs.declared.Round.{Round}
use Rattle.sheet.specs.Round.{bid_of}
use Rattle.auction.specs.Page.{at, put, empty_page}
use Rattle.auction.specs.Eligible.{eligible}

-- the page with slots 1 to j as on p, and nobody after them
unfoldable pub first_slots : Page → ℕ → Page
first_slots p zero = empty_page
first_slots p (suc j) = put (first_slots p j) (suc j) (at p (suc j))

-- Slot k of p is filled by the greedy rule, with the slots before it as they are on p. "A place is empty exactly when nobody is eligible";
-- else an eligible bidder stands there, and no eligible bidder bids more, or as much with a lower number.
pub record FilledGreedily (r : Round) (p : Page) (k : ℕ) : Type 0 where
  pub nobody : at p k ≡ 0 → (b : ℕ) → 0 < b → b ≤ r.bidders → eligible r (first_slots p (k - 1)) k b ≡ false
  pub somebody : (at p k ≡ 0 → ⊥) → eligible r (first_slots p (k - 1)) k (at p k) ≡ true
  pub highest : (at p k ≡ 0 → ⊥) → (b : ℕ) → 0 < b → b ≤ r.bidders → eligible r (first_slots p (k - 1)) k b ≡ true →
      (bid_of r b < bid_of r (at p k)) ⊎ ((bid_of r b ≡ bid_of r (at p k)) × (at p k ≤ b))
