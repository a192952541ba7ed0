-- Request S-6: "Add a writer that takes any accepted sheet and writes version 2, with the conditions in order and repeats dropped. It returns the length
-- written, and later bytes stay."
use Rattle.std.specs.Prelude.{ℕ, suc, ◌≤◌, ◌<◌, Bool, cond, ◌&&◌, List, [], ◌∷◌, ◌++◌, ◌≡◌, eqb, ltb, length, drop, Result, Ok, Err}
use Rattle.basis.specs.First.{◌when◌otherwise◌, or_else, unless_refused}
use Rattle.basis.specs.Rows.{row, joined}
use Rattle.basis.specs.Tests.{any_below}
use Rattle.sheet.specs.declared.Constraint.{Constraint}
use Rattle.sheet.specs.Sheet.{
  bidder_count,
  slot_count,
  constraint_count,
  tick_field,
  effect_field,
  bid_field,
  owner_field,
  own_slot_field,
  other_field,
  other_slot_field,
}
use Rattle.sheet.specs.Refusal.{refusal_of}
use Rattle.sheet.specs.Round.{SheetHas}
use Rattle.sheet.specs.Encoded.{Condition, on, sheet_in_ticks}
use Rattle.refusal.specs.declared.Refusal.{Refusal}
use Rattle.refusal.specs.Numbers.{number_of}

-- the sheet has the condition (owner, own place, other bidder, other's place)
unfoldable pub has_condition : List ℕ → (owner own other others : ℕ) → Bool
has_condition s owner own other others =
    any_below
    (λ k. eqb (owner_field s k) owner && (eqb (own_slot_field s k) own && (eqb (other_field s k) other && eqb (other_slot_field s k) others)))
    (constraint_count s)

-- for each bidder of the sheet, from 0, which stands for none; and for each slot, from 0, which stands for any or none
abbrev pub each_bidder : List ℕ → (ℕ → List Condition) → List Condition
each_bidder s f = joined f (suc (bidder_count s))

abbrev pub each_slot : List ℕ → (ℕ → List Condition) → List Condition
each_slot s f = joined f (suc (slot_count s))

-- "the conditions in order and repeats dropped": by owner, then by own place, by other bidder and by other's place, each that the sheet has, once
unfoldable pub conditions_in_order : List ℕ → List Condition
conditions_in_order s =
    each_bidder s (λ owner.
    each_slot s (λ own.
    each_bidder s (λ other.
    each_slot s (λ others. cond (has_condition s owner own other others) (on owner own other others ∷ []) []))))

-- what is written: the sheet in version 2 of the same tick, bids and effects and of these conditions
unfoldable pub canonical_sheet : List ℕ → List ℕ
canonical_sheet s =
    sheet_in_ticks (tick_field s)
    (row (λ i. bid_field s (suc i)) (bidder_count s))
    (row (λ k. effect_field s (suc k)) (slot_count s))
    (conditions_in_order s)

-- the check's numbers, and then 19: the result buffer is shorter than the bytes to be written
unfoldable pub canonical_refusal : List ℕ → List ℕ → ℕ
canonical_refusal s out = or_else (refusal_of s) (19 when ltb (length out) (length (canonical_sheet s)) otherwise 0)

-- "later bytes stay"
unfoldable pub canonical_buffer : List ℕ → List ℕ → List ℕ
canonical_buffer s out = canonical_sheet s ++ drop (length (canonical_sheet s)) out

-- What the call answers, as numbers: a refusal's number and no length, or 0 and the length of the sheet that is written.
pub record Rewritten : Type 0 where
  pub refusal : ℕ
  pub length : ℕ

abbrev pub rewritten_in : Result ℕ Refusal → Rewritten
rewritten_in (Ok size) = record { refusal = 0; length = size }
rewritten_in (Err refusal) = record { refusal = number_of refusal; length = 0 }

-- All that the call returns and leaves: the first number that applies and no length, or 0 and the length written, and each byte of the buffer.
pub record CanonicalWritten (s out : List ℕ) (returned : Rewritten) (out' : List ℕ) : Type 0 where
  pub number : returned.refusal ≡ canonical_refusal s out
  pub size : returned.length ≡ unless_refused (canonical_refusal s out) (length (canonical_sheet s)) 0
  pub buffer : out' ≡ unless_refused (canonical_refusal s out) (canonical_buffer s out) out

-- Two sheets say the same round: "n, m, tick, effects, bids and the sets of conditions are equal".
pub record SameRound (s t : List ℕ) : Type 0 where
  pub same_n : bidder_count s ≡ bidder_count t
  pub same_m : slot_count s ≡ slot_count t
  pub same_tick : tick_field s ≡ tick_field t
  pub same_effects : (k : ℕ) → 0 < k → k ≤ slot_count s → effect_field s k ≡ effect_field t k
  pub same_bids : (b : ℕ) → 0 < b → b ≤ bidder_count s → bid_field s b ≡ bid_field t b
  pub there : (q : Constraint) → SheetHas s q → SheetHas t q
  pub back : (q : Constraint) → SheetHas t q → SheetHas s q
