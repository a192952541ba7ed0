-- The laws' own: proved from the definitions, and nothing here need be believed.
-- Rounds that differ only in one bidder's list and bid: what the price's replay and demand 3 compare.
use Rattle.std.specs.Prelude.{ℕ, ◌≡◌}
use Rattle.sheet.specs.declared.Constraint.{Constraint}
use Rattle.sheet.specs.declared.Round.{Round}
use Rattle.sheet.specs.Round.{bid_of, floor_of, Has}

pub record Except (i : ℕ) (r r' : Round) : Type 0 where
  pub bidders : r.bidders ≡ r'.bidders
  pub slots : r.slots ≡ r'.slots
  pub ticks : r.tick ≡ r'.tick
  pub floors : (k : ℕ) → floor_of r k ≡ floor_of r' k
  pub bids : (b : ℕ) → (b ≡ i → ⊥) → bid_of r b ≡ bid_of r' b
  pub there : (q : Constraint) → (q.owner.0 ≡ i → ⊥) → Has r q → Has r' q
  pub back : (q : Constraint) → (q.owner.0 ≡ i → ⊥) → Has r' q → Has r q

-- Rounds with the same bidders, slots, tick, floors and bids, and for each owner the same set of constraints; order and repeats are free.
pub record SameSets (r r' : Round) : Type 0 where
  pub bidders : r.bidders ≡ r'.bidders
  pub slots : r.slots ≡ r'.slots
  pub ticks : r.tick ≡ r'.tick
  pub floors : (k : ℕ) → floor_of r k ≡ floor_of r' k
  pub bids : (b : ℕ) → bid_of r b ≡ bid_of r' b
  pub there : (q : Constraint) → Has r q → Has r' q
  pub back : (q : Constraint) → Has r' q → Has r q
