-- The engine's own: nothing here need be believed.
-- The written sheet part by part: its header, and its conditions as numbers.
use Rattle.std.specs.Prelude.{ℕ, ◌/◌, ◌%◌, List, [], ◌∷◌, ◌≡◌, length, get_or}
use Rattle.basis.specs.Bytes.{bytes32}
use Rattle.basis.specs.Rows.{joined}
use Rattle.sheet.specs.Encoded.{quads}
use Rattle.canonical.specs.Canonical.{conditions_in_order}

-- the 13 bytes of a header of version 2
unfoldable pub header_of : (tick n m c : ℕ) → List ℕ
header_of tick n m c = 0x50 ∷ 0x41 ∷ 0x53 ∷ 2 ∷ 0 ∷ n ∷ m ∷ c % 256 ∷ c / 256 ∷ bytes32 tick

-- a condition's four bytes from its number: the highest first
unfoldable pub number_bytes : ℕ → List ℕ
number_bytes x = x / 16777216 % 256 ∷ x / 65536 % 256 ∷ x / 256 % 256 ∷ x % 256 ∷ []

-- the first k numbers, four bytes each
unfoldable pub numbers_bytes : List ℕ → ℕ → List ℕ
numbers_bytes numbers k = joined (λ i. number_bytes (get_or numbers i 0)) k

-- these numbers are those of the sheet's conditions in order
pub record InSheetOrder (s numbers : List ℕ) (k : ℕ) : Type 0 where
  pub sized : length numbers ≡ 1024
  pub as_many : k ≡ length (conditions_in_order s)
  pub bytes : numbers_bytes numbers k ≡ quads (conditions_in_order s)
