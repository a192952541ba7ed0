-- "Numbers of a refused call, in checking order", 1 to 13 with 26 to 28 among them, and 0 for an accepted sheet.
use Rattle.std.specs.Prelude.{ℕ, zero, suc, ◌%◌, Bool, true, not, ◌&&◌, ◌||◌, List, ◌≡◌, eqb, ltb, length}
use Rattle.basis.specs.Bytes.{byte_at}
use Rattle.basis.specs.First.{◌when◌otherwise◌, or_else, first_over}
use Rattle.sheet.specs.Sheet.{
  version,
  bidder_count,
  slot_count,
  constraint_count,
  tick_field,
  sheet_length,
  effect_field,
  bid_field,
  owner_field,
  own_slot_field,
  other_field,
  other_slot_field,
}

-- the letters P A S
abbrev pub marked : List ℕ → Bool
marked s = eqb (byte_at s 0) 0x50 && (eqb (byte_at s 1) 0x41 && eqb (byte_at s 2) 0x53)

-- 1. The sheet has fewer than 9 bytes.  2. The mark is not P A S.  3. The version is neither 1 nor 2.
-- 1 again. The sheet is of version 2 and has fewer than 13 bytes.
unfoldable pub form_refusal : List ℕ → ℕ
form_refusal s =
    1 when ltb (length s) 9 otherwise
    2 when not (marked s) otherwise
    3 when not (eqb (version s) 1 || eqb (version s) 2) otherwise
    1 when eqb (version s) 2 && ltb (length s) 13 otherwise
    0

-- 4. n is 0 or above 64.  5. m is 0 or above 16.  6. c is above 1,024.  26. The tick is 0 or above 1,000,000,000.
-- 7. The length is not 9 + 4 × (m + n + c), or in version 2 not 4 more.
unfoldable pub counts_refusal : List ℕ → ℕ
counts_refusal s =
    4 when eqb (bidder_count s) 0 || ltb 64 (bidder_count s) otherwise
    5 when eqb (slot_count s) 0 || ltb 16 (slot_count s) otherwise
    6 when ltb 1024 (constraint_count s) otherwise
    26 when eqb (tick_field s) 0 || ltb 1_000_000_000 (tick_field s) otherwise
    7 when not (eqb (length s) (sheet_length s)) otherwise
    0

-- the effect before that of slot k; before the first stands the largest that any may have
abbrev pub effect_before : List ℕ → ℕ → ℕ
effect_before s zero = 1_000_000
effect_before s (suc zero) = 1_000_000
effect_before s (suc (suc k)) = effect_field s (suc k)

-- 8. An effect is 0, above 1,000,000 or above the one before it.
unfoldable pub effect_refusal : List ℕ → ℕ → ℕ
effect_refusal s k =
    8 when eqb (effect_field s k) 0 || (ltb 1_000_000 (effect_field s k) || ltb (effect_before s k) (effect_field s k)) otherwise
    0

-- 9. A bid is above 1,000,000,000.
unfoldable pub bid_refusal : List ℕ → ℕ → ℕ
bid_refusal s i = 9 when ltb 1_000_000_000 (bid_field s i) otherwise 0

-- 27. A bid is no multiple of the tick.
unfoldable pub tick_refusal : List ℕ → ℕ → ℕ
tick_refusal s i = 27 when not (eqb (bid_field s i % tick_field s) 0) otherwise 0

-- so a bid x that a sheet with the tick t would accept: it breaks neither 9 nor 27
unfoldable pub legal_bid : ℕ → ℕ → Bool
legal_bid t x = not (ltb 1_000_000_000 x) && eqb (x % t) 0

-- a constraint's numbers are in range: owner 1 to n, the other bidder at most n, both slots at most m
unfoldable pub in_range : (n m owner own other others : ℕ) → Bool
in_range n m owner own other others =
    not (eqb owner 0 || (ltb n owner || (ltb n other || (ltb m own || ltb m others))))

-- 10. A condition has owner 0, owner or other bidder above n, or a place above m.
-- 11. A condition's other bidder is its owner.
-- 12. Just one of other bidder and other's place is 0.
-- 13. Own place, other bidder and other's place are all 0.
unfoldable pub fields_refusal : (n m owner own other others : ℕ) → ℕ
fields_refusal n m owner own other others =
    10 when not (in_range n m owner own other others) otherwise
    11 when eqb other owner otherwise
    12 when (eqb other 0 && not (eqb others 0)) || (not (eqb other 0) && eqb others 0) otherwise
    13 when eqb own 0 && (eqb other 0 && eqb others 0) otherwise
    0

unfoldable pub terms_refusal : List ℕ → ℕ → ℕ
terms_refusal s k =
    fields_refusal (bidder_count s) (slot_count s) (owner_field s k) (own_slot_field s k) (other_field s k) (other_slot_field s k)

-- "rising order of owner, own place, other bidder, other's place": of two conditions the first of the four in which they differ decides which is
-- above
unfoldable pub fields_below : (owner own other others owner' own' other' others' : ℕ) → Bool
fields_below owner own other others owner' own' other' others' =
    ltb owner owner'
    || (eqb owner owner' && (ltb own own'
    || (eqb own own' && (ltb other other'
    || (eqb other other' && ltb others others')))))

-- the condition at index j of the sheet stands below the one at index k in that order
unfoldable pub constraint_below : List ℕ → ℕ → ℕ → Bool
constraint_below s j k =
    fields_below
    (owner_field s j) (own_slot_field s j) (other_field s j) (other_slot_field s j)
    (owner_field s k) (own_slot_field s k) (other_field s k) (other_slot_field s k)

-- the condition at index k is above the one before it; before the first stands none
unfoldable pub above_before : List ℕ → ℕ → Bool
above_before s zero = true
above_before s (suc k) = constraint_below s k (suc k)

-- 28. A condition of a sheet of version 2 is not above the one before it.
unfoldable pub order_refusal : List ℕ → ℕ → ℕ
order_refusal s k = 28 when eqb (version s) 2 && not (above_before s k) otherwise 0

-- a condition's number: 28 is "tested for each condition after its 13"
unfoldable pub constraint_refusal : List ℕ → ℕ → ℕ
constraint_refusal s k = or_else (terms_refusal s k) (order_refusal s k)

-- The first number that applies: effects of slots 1 to m; bids of bidders 1 to n, all of them for 9 and then all for 27. "Conditions are taken in
-- sheet order, each through 10 to 13", and then 28.
unfoldable pub refusal_of : List ℕ → ℕ
refusal_of s =
    or_else (form_refusal s)
    (or_else (counts_refusal s)
    (or_else (first_over (λ k. effect_refusal s (suc k)) (slot_count s))
    (or_else (first_over (λ i. bid_refusal s (suc i)) (bidder_count s))
    (or_else (first_over (λ i. tick_refusal s (suc i)) (bidder_count s))
    (first_over (constraint_refusal s) (constraint_count s))))))

-- "A sheet is accepted when the check gives it no number."
abbrev pub Accepted : List ℕ → Type 0
Accepted s = refusal_of s ≡ 0
