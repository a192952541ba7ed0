-- Numbers in a list of bytes. "Multi-byte fields are unsigned, low byte first."
-- A byte past the end reads as 0, so every definition is total.
use Rattle.std.specs.Prelude.{ℕ, ◌+◌, ◌*◌, ◌/◌, ◌%◌, List, [], ◌∷◌, get_or}

-- the byte at an offset
abbrev pub byte_at : List ℕ → ℕ → ℕ
byte_at s at = get_or s at 0

-- two bytes, low byte first
unfoldable pub word16_at : List ℕ → ℕ → ℕ
word16_at s at = byte_at s at + 256 * byte_at s (at + 1)

-- four bytes, low byte first
unfoldable pub word32_at : List ℕ → ℕ → ℕ
word32_at s at =
    byte_at s at + 256 * byte_at s (at + 1) + 65536 * byte_at s (at + 2) + 16777216 * byte_at s (at + 3)

-- the four bytes of a number, low byte first
unfoldable pub bytes32 : ℕ → List ℕ
bytes32 x = x % 256 ∷ x / 256 % 256 ∷ x / 65536 % 256 ∷ x / 16777216 % 256 ∷ []
