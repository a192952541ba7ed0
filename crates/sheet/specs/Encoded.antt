-- The encoder of a sheet: the bytes of bids, effects and conditions. What S-6 writes is said by it, in version 2, and so are the worked rounds; what S-1 and S-2 write is conditions alone.
use Rattle.std.specs.Prelude.{ℕ, ◌+◌, ◌*◌, ◌%◌, ◌/◌, List, [], ◌∷◌, ◌++◌, length}
use Rattle.basis.specs.Bytes.{byte_at, bytes32}
use Rattle.sheet.specs.Sheet.{owner_field, own_slot_field, other_field, other_slot_field}

-- numbers of 4 bytes, one after another
unfoldable pub words : List ℕ → List ℕ
unfolding bytes32
words [] = []
words (x ∷ xs) = bytes32 x ++ words xs

-- a condition as document 01 writes it: (owner, own place, other, other's place)
pub record Condition : Type 0 where
  pub owner : ℕ
  pub own : ℕ
  pub other : ℕ
  pub others : ℕ

abbrev pub on : ℕ → ℕ → ℕ → ℕ → Condition
on a b c d = record { owner = a; own = b; other = c; others = d }

unfoldable pub quads : List Condition → List ℕ
quads [] = []
quads (q ∷ qs) = q.owner ∷ q.own ∷ q.other ∷ q.others ∷ quads qs

-- the counts, and the bytes after the header
unfoldable pub count_bytes : (bids effects : List ℕ) → List Condition → List ℕ
count_bytes bids effects qs = length bids ∷ length effects ∷ length qs % 256 ∷ length qs / 256 ∷ []

unfoldable pub body_bytes : (bids effects : List ℕ) → List Condition → List ℕ
unfolding words quads bytes32
body_bytes bids effects qs = words effects ++ (words bids ++ quads qs)

-- the sheet of these bids, effects and conditions, in version 1
unfoldable pub sheet_of : (bids effects : List ℕ) → List Condition → List ℕ
unfolding count_bytes body_bytes
sheet_of bids effects qs = 0x50 ∷ 0x41 ∷ 0x53 ∷ 1 ∷ 0 ∷ (count_bytes bids effects qs ++ body_bytes bids effects qs)

-- and in version 2, with a tick
unfoldable pub sheet_in_ticks : (tick : ℕ) (bids effects : List ℕ) → List Condition → List ℕ
unfolding count_bytes body_bytes bytes32
sheet_in_ticks tick bids effects qs =
    0x50 ∷ 0x41 ∷ 0x53 ∷ 2 ∷ 0 ∷ (count_bytes bids effects qs ++ (bytes32 tick ++ body_bytes bids effects qs))

-- the condition at index k of a sheet, and of bytes that are conditions alone, four bytes each
unfoldable pub condition_field : List ℕ → ℕ → Condition
condition_field s k = on (owner_field s k) (own_slot_field s k) (other_field s k) (other_slot_field s k)

unfoldable pub condition_in : List ℕ → ℕ → Condition
condition_in bytes k = on (byte_at bytes (4 * k)) (byte_at bytes (4 * k + 1)) (byte_at bytes (4 * k + 2)) (byte_at bytes (4 * k + 3))
