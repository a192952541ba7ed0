-- The laws' own: proved from the definitions, and nothing here need be believed.
-- All that is true of an accepted sheet, rule by rule. That an accepted sheet has these facts, and that a sheet with them is accepted,
-- are laws (proofs/AcceptedLaws.antt): a new rule is a new field here.
use Rattle.std.specs.Prelude.{ℕ, suc, ◌+◌, ◌*◌, ◌%◌, ◌<◌, ◌≤◌, true, List, ◌⊎◌, ◌≡◌, length}
use Rattle.sheet.specs.Sheet.{
  version,
  bidder_count,
  slot_count,
  constraint_count,
  tick_field,
  effects_start,
  sheet_length,
  effect_field,
  bid_field,
  owner_field,
  own_slot_field,
  other_field,
  other_slot_field,
}
use Rattle.sheet.specs.Refusal.{marked, effect_before}
use Rattle.sheet.specs.Encoded.{Condition}

-- 1 to 3, and 1 again: the header's length, the mark and the version
pub record Form (s : List ℕ) : Type 0 where
  pub header : 9 ≤ length s
  pub whole_header : effects_start s ≤ length s
  pub mark : marked s ≡ true
  pub known : (version s ≡ 1) ⊎ (version s ≡ 2)

-- 4 to 6, 26 and 7: the counts, the tick and the length
pub record Counts (s : List ℕ) : Type 0 where
  pub some_bidders : 0 < bidder_count s
  pub most_bidders : bidder_count s ≤ 64
  pub some_slots : 0 < slot_count s
  pub most_slots : slot_count s ≤ 16
  pub most_constraints : constraint_count s ≤ 1024
  pub some_tick : 0 < tick_field s
  pub most_tick : tick_field s ≤ 1_000_000_000
  pub whole : length s ≡ sheet_length s

-- 8: the effect of slot k is 1 to 1,000,000, and not larger than the one before
pub record EffectAccepted (s : List ℕ) (k : ℕ) : Type 0 where
  pub some : 0 < effect_field s k
  pub most : effect_field s k ≤ 1_000_000
  pub no_rise : effect_field s k ≤ effect_before s k

-- 9 and 27: the bid of bidder i is at most 1,000,000,000, and a multiple of the tick
pub record BidAccepted (s : List ℕ) (i : ℕ) : Type 0 where
  pub most : bid_field s i ≤ 1_000_000_000
  pub multiple : bid_field s i % tick_field s ≡ 0

-- 10 to 13: owner and other in range and different, both slots in range, other and other's slot there together, and not all of
-- own slot, other and other's slot 0
pub record ConstraintAccepted (n m owner own other others : ℕ) : Type 0 where
  pub some_owner : 0 < owner
  pub most_owner : owner ≤ n
  pub most_other : other ≤ n
  pub most_own : own ≤ m
  pub most_others : others ≤ m
  pub different : other ≡ owner → ⊥
  pub together : other ≡ 0 → others ≡ 0
  pub together_back : others ≡ 0 → other ≡ 0
  pub not_empty : own ≡ 0 → other ≡ 0 → ⊥

-- a condition's four fields as one number, the owner first: where each is below 256, the order of the conditions is that of these numbers
-- (proofs/OrderLaws.antt)
abbrev pub fields_number : (owner own other others : ℕ) → ℕ
fields_number owner own other others = 16777216 * owner + 65536 * own + 256 * other + others

unfoldable pub number_of : Condition → ℕ
number_of q = fields_number q.owner q.own q.other q.others

unfoldable pub order_number : List ℕ → ℕ → ℕ
order_number s k = fields_number (owner_field s k) (own_slot_field s k) (other_field s k) (other_slot_field s k)

-- All that acceptance means.
pub record AcceptedSheet (s : List ℕ) : Type 0 where
  pub form : Form s
  pub counts : Counts s
  pub effects : (k : ℕ) → 0 < k → k ≤ slot_count s → EffectAccepted s k
  pub bids : (i : ℕ) → 0 < i → i ≤ bidder_count s → BidAccepted s i
  pub constraints : (k : ℕ) → k < constraint_count s →
      ConstraintAccepted (bidder_count s) (slot_count s) (owner_field s k) (own_slot_field s k) (other_field s k) (other_slot_field s k)
  -- 28: in version 2 each condition is above the one before it
  pub rising : version s ≡ 2 → (k : ℕ) → suc k < constraint_count s → order_number s k < order_number s (suc k)
