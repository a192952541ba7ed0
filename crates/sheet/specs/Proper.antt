-- The laws' own: proved from the definitions, and nothing here need be believed.
-- What an accepted round is known to satisfy, for every crate above to cite.
use Rattle.std.specs.Prelude.{ℕ, suc, ◌%◌, ◌<◌, ◌≤◌, true, List, ◌⊎◌, ◌≡◌, length, get_or}
use Rattle.sheet.specs.declared.Kind.{Kind}
use Rattle.sheet.specs.declared.Kind.TheVariants.{OwnSlot, OtherSlot, Pair}
use Rattle.sheet.specs.declared.Constraint.{Constraint}
use Rattle.sheet.specs.declared.Round.{Round}
use Rattle.sheet.specs.Round.{stands_below, bid_of, effect_of, floor_of, constraint_at, Has}

-- a constraint's slots are slots of a page, and its other is a bidder and not the owner
abbrev pub ProperKind : ℕ → Kind → Type 0
ProperKind owner (OwnSlot k) = (0 < k.0) × (k.0 ≤ 16)
ProperKind owner (OtherSlot j l) = (j.0 ≡ 0 → ⊥) × (j.0 ≡ owner → ⊥) × (j.0 ≤ 64) × (0 < l.0) × (l.0 ≤ 16)
ProperKind owner (Pair k j l) =
    (j.0 ≡ 0 → ⊥) × (j.0 ≡ owner → ⊥) × (j.0 ≤ 64) × (0 < l.0) × (l.0 ≤ 16) × (0 < k.0) × (k.0 ≤ 16)

-- a constraint has an owner, and its parts are proper
pub record Proper (q : Constraint) : Type 0 where
  pub owned : q.owner.0 ≡ 0 → ⊥
  pub within_range : q.owner.0 ≤ 64
  pub parts : ProperKind q.owner.0 q.kind

pub record ProperRound (r : Round) : Type 0 where
  pub some_bidders : 0 < r.bidders
  pub most_bidders : r.bidders ≤ 64
  pub some_slots : 0 < r.slots
  pub most_slots : r.slots ≤ 16
  pub most_used : r.used ≤ 1024
  pub known_version : (r.version ≡ 1) ⊎ (r.version ≡ 2)
  pub some_tick : 0 < r.tick
  pub most_tick : r.tick ≤ 1_000_000_000
  pub sized_effects : length r.effects ≡ 16
  pub sized_floors : length r.floors ≡ 16
  pub sized_bids : length r.bids ≡ 64
  pub sized_constraints : length r.constraints ≡ 1024
  pub most_bid : (b : ℕ) → bid_of r b ≤ 1_000_000_000
  pub in_ticks : (b : ℕ) → bid_of r b % r.tick ≡ 0
  pub most_effect : (k : ℕ) → effect_of r k ≤ 1_000_000
  pub no_rise : (k : ℕ) → 0 < k → effect_of r (suc k) ≤ effect_of r k
  pub most_floor : (k : ℕ) → floor_of r k ≤ 1_000_000_000
  pub proper : (q : Constraint) → Has r q → Proper q
  -- "The stated order becomes part of what an accepted version 2 round is known to satisfy."
  pub rising : r.version ≡ 2 → (i j : ℕ) → i < j → j < r.used → stands_below (constraint_at r i) (constraint_at r j) ≡ true

-- what floors for m slots are known to satisfy once 30 and 31 are passed: there is one for each, and none is above 1,000,000,000
pub record ProperFloors (m : ℕ) (floors : List ℕ) : Type 0 where
  pub enough : m ≤ length floors
  pub most : (k : ℕ) → get_or floors k 0 ≤ 1_000_000_000
