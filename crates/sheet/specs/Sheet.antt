-- The bid sheet of document 01, and its version 2 of document 02: which bytes hold which field.
-- Everything that depends on where a field stands goes through the three starts below.
use Rattle.std.specs.Prelude.{ℕ, zero, suc, ◌+◌, ◌*◌, cond, List, eqb}
use Rattle.basis.specs.Bytes.{byte_at, word16_at, word32_at}

-- 2 bytes: version
abbrev pub version : List ℕ → ℕ
version s = word16_at s 3

-- 1 byte: n, bidders
abbrev pub bidder_count : List ℕ → ℕ
bidder_count s = byte_at s 5

-- 1 byte: m, slots ("places")
abbrev pub slot_count : List ℕ → ℕ
slot_count s = byte_at s 6

-- 2 bytes: c, constraints ("conditions")
abbrev pub constraint_count : List ℕ → ℕ
constraint_count s = word16_at s 7

-- "Sheet version 2 has a 4-byte tick after the condition count"; "version 1 means tick 1"
unfoldable pub tick_field : List ℕ → ℕ
tick_field s = cond (eqb (version s) 2) (word32_at s 9) 1

-- the header's length: where the effects start
unfoldable pub effects_start : List ℕ → ℕ
effects_start s = cond (eqb (version s) 2) 13 9

-- the bids start after m effects of 4 bytes
abbrev pub bids_start : List ℕ → ℕ
bids_start s = effects_start s + 4 * slot_count s

-- the constraints start after n bids of 4 bytes
abbrev pub constraints_start : List ℕ → ℕ
constraints_start s = bids_start s + 4 * bidder_count s

-- "Length is exactly 9 + 4 × (m + n + c)." In version 2 "every length grows by 4".
abbrev pub sheet_length : List ℕ → ℕ
sheet_length s = effects_start s + 4 * (slot_count s + bidder_count s + constraint_count s)

-- the effect of slot k; slots and bidders are counted from 1
unfoldable pub effect_field : List ℕ → ℕ → ℕ
effect_field s zero = 0
effect_field s (suc k) = word32_at s (effects_start s + 4 * k)

-- the bid of bidder i
unfoldable pub bid_field : List ℕ → ℕ → ℕ
bid_field s zero = 0
bid_field s (suc i) = word32_at s (bids_start s + 4 * i)

-- the four bytes of the constraint at index k of the sheet: "owner, own place, other bidder, other's place, one byte each"
unfoldable pub owner_field : List ℕ → ℕ → ℕ
owner_field s k = byte_at s (constraints_start s + 4 * k)

unfoldable pub own_slot_field : List ℕ → ℕ → ℕ
own_slot_field s k = byte_at s (constraints_start s + 4 * k + 1)

unfoldable pub other_field : List ℕ → ℕ → ℕ
other_field s k = byte_at s (constraints_start s + 4 * k + 2)

unfoldable pub other_slot_field : List ℕ → ℕ → ℕ
other_slot_field s k = byte_at s (constraints_start s + 4 * k + 3)
