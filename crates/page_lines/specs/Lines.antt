-- The text of a played result, as document 01 has it: "one line a place: place, bidder, price, in decimal, one space between,
-- a newline at the end, no header", and for a refused sheet "`refused`, a space, the number, a newline".
use Rattle.std.specs.Prelude.{ℕ, zero, suc, ◌+◌, ◌*◌, List, [], ◌∷◌, ◌++◌}
use Rattle.basis.specs.Bytes.{byte_at, word32_at}
use Rattle.basis.specs.Rows.{joined}
use Rattle.page_lines.specs.Decimal.{decimal}

-- a space and a newline in ASCII
abbrev pub space : ℕ
space = 32

abbrev pub newline : ℕ
newline = 10

-- a number in decimal, and the byte that ends it
unfoldable pub field : ℕ → ℕ → List ℕ
field n end = decimal n ++ (end ∷ [])

-- a slot's line: slot ("place" in document 01), bidder and price
unfoldable pub line : (slot bidder price : ℕ) → List ℕ
line slot bidder price = field slot space ++ (field bidder space ++ field price newline)

-- the letters r e f u s e d and a space
abbrev pub refused_word : List ℕ
refused_word = 0x72 ∷ 0x65 ∷ 0x66 ∷ 0x75 ∷ 0x73 ∷ 0x65 ∷ 0x64 ∷ space ∷ []

-- the one line of a refused sheet
unfoldable pub refused_line : ℕ → List ℕ
refused_line number = refused_word ++ field number newline

-- the line of slot k of a played result: of its 5 bytes the first is the bidder, and the four after it the price
unfoldable pub result_line : List ℕ → ℕ → List ℕ
result_line result zero = []
result_line result (suc k) = line (suc k) (byte_at result (5 * k)) (word32_at result (5 * k + 1))

-- the lines of a played result's first slots, in order
unfoldable pub result_lines : List ℕ → ℕ → List ℕ
result_lines result slots = joined (λ k. result_line result (suc k)) slots
