-- Request S-5: "A new call hands back the part of the sheet with one bidder's conditions."
use Rattle.std.specs.Prelude.{ℕ, zero, suc, ◌+◌, ◌*◌, cond, not, ◌||◌, Result, Ok, Err, List, [], ◌∷◌, ◌≡◌, eqb, ltb, length, take, drop}
use Rattle.std.specs.Borrow.{Bor}
use Rattle.basis.specs.First.{◌when◌otherwise◌, or_else}
use Rattle.basis.specs.Rows.{joined}
use Rattle.basis.specs.Tests.{least}
use Rattle.sheet.specs.Sheet.{version, bidder_count, constraint_count, constraints_start, owner_field, own_slot_field, other_field, other_slot_field}
use Rattle.sheet.specs.Refusal.{refusal_of}
use Rattle.refusal.specs.declared.Refusal.{Refusal}
use Rattle.refusal.specs.Numbers.{number_of}
use Rattle.owner_part.specs.declared.Span.{Span}

-- "29 where either call gets a version 1 sheet that is otherwise accepted, before 16"; 16. The bidder named in the call is 0 or above n.
unfoldable pub call_refusal : (version n i : ℕ) → ℕ
call_refusal version n i =
    29 when eqb version 1 otherwise
    16 when eqb i 0 || ltb n i otherwise
    0

-- the check's numbers, and then these
unfoldable pub part_refusal : List ℕ → ℕ → ℕ
part_refusal s i = or_else (refusal_of s) (call_refusal (version s) (bidder_count s) i)

-- the index of the first constraint whose owner is i or higher, and the number of constraints where there is none
unfoldable pub first_from : List ℕ → ℕ → ℕ
first_from s i = least (λ k. not (ltb (owner_field s k) i)) (constraint_count s)

-- "how many bytes of the sheet stand before the part": it starts with the first constraint of bidder i or, "empty if it has none", "just before the first
-- higher owner's, or at the sheet's end"
unfoldable pub bytes_before : List ℕ → ℕ → ℕ
bytes_before s i = constraints_start s + 4 * first_from s i

-- the four bytes of the constraint at index k, as they stand in the sheet
unfoldable pub constraint_bytes : List ℕ → ℕ → List ℕ
constraint_bytes s k = owner_field s k ∷ own_slot_field s k ∷ other_field s k ∷ other_slot_field s k ∷ []

-- "one bidder's conditions": those with the owner i, one after another in sheet order, wherever they stand
unfoldable pub constraints_of : List ℕ → ℕ → List ℕ
constraints_of s i = joined (λ k. cond (eqb (owner_field s k) i) (constraint_bytes s k) []) (constraint_count s)

-- "the part of the sheet with one bidder's conditions" is as long as these
unfoldable pub part_length : List ℕ → ℕ → ℕ
part_length s i = length (constraints_of s i)

-- what a call tells of the part: a refusal's number, or 0 with the bytes of the sheet before the part and its own bytes
pub record Bounds : Type 0 where
  pub refusal : ℕ
  pub start : ℕ
  pub length : ℕ

abbrev pub bounds_in : Result Span Refusal → Bounds
bounds_in (Ok span) = record { refusal = 0; start = span.start; length = span.length }
bounds_in (Err refusal) = record { refusal = number_of refusal; start = 0; length = 0 }

-- where the part is: a refused call's is "the empty part at the sheet's start"
unfoldable pub bounds_for : ℕ → List ℕ → ℕ → Bounds
bounds_for zero s i = record { refusal = 0; start = bytes_before s i; length = part_length s i }
bounds_for (suc k) s i = record { refusal = suc k; start = 0; length = 0 }

unfoldable pub bounds_of : List ℕ → ℕ → Bounds
bounds_of s i = bounds_for (part_refusal s i) s i

-- what the call that only checks tells: a refusal's number, or 0 and the bytes of the sheet before the part
pub record Before : Type 0 where
  pub refusal : ℕ
  pub bytes : ℕ

abbrev pub before_in : Result ℕ Refusal → Before
before_in (Ok bytes) = record { refusal = 0; bytes = bytes }
before_in (Err refusal) = record { refusal = number_of refusal; bytes = 0 }

-- "a call that only checks gives the number, or else how many bytes of the sheet stand before the part"
unfoldable pub before_for : ℕ → List ℕ → ℕ → Before
before_for zero s i = record { refusal = 0; bytes = bytes_before s i }
before_for (suc k) s i = record { refusal = suc k; bytes = 0 }

unfoldable pub before_of : List ℕ → ℕ → Before
before_of s i = before_for (part_refusal s i) s i

-- What is handed back of a lent sheet: the sheet's own memory, from so many bytes after its start, and so many bytes of it.
pub record PartOf (sheet part : Bor (List ℕ)) (start size : ℕ) : Type 0 where
  pub same_memory : part.ref_ptr.0 ≡ sheet.ref_ptr.0
  pub stands : part.ref_ptr.1 ≡ sheet.ref_ptr.1 + start
  pub holds : part.now ≡ take size (drop start sheet.now)

-- all that the call hands back
abbrev pub PartHanded : (sheet : Bor (List ℕ)) (i : ℕ) (part : Bor (List ℕ)) → Type 0
PartHanded sheet i part = PartOf sheet part (bounds_of sheet.now i).start (bounds_of sheet.now i).length
