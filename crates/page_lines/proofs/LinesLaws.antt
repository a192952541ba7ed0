-- How long the lines are: what a buffer that holds them must have. Assumes nothing.
use Prim.Native.Nat.{ℕ, ◌+◌, ◌<◌, ◌≤◌}
use mathlib.Core.List.{[], ◌∷◌, ◌++◌}
use mathlib.Core.Path.{◌≡◌, ◌∙◌, ap}
use native.Mathlib.Omega.{arith}
use lib.ListN.{length, length-append}
use Rattle.page_lines.specs.Decimal.{decimal}
use Rattle.page_lines.specs.Lines.{space, newline, field, line, refused_word, refused_line}
use Rattle.page_lines.proofs.DecimalLaws.{decimal-length}

pub field-length : (n end : ℕ) → length (field n end) ≡ length (decimal n) + 1
unfolding field
field-length n end = length-append (decimal n) (end ∷ [])

pub line-length : (slot bidder price : ℕ) →
    length (line slot bidder price) ≡ length (field slot space) + (length (field bidder space) + length (field price newline))
unfolding line
line-length slot bidder price =
    length-append (field slot space) (field bidder space ++ field price newline)
    ∙ ap (λ (n : ℕ). length (field slot space) + n) (length-append (field bidder space) (field price newline))

-- a slot of 2 digits, a bidder of 3, a price of 10, two spaces and a newline
pub line_short : (slot bidder price : ℕ) → slot < 100 → bidder < 1000 → price < 10_000_000_000 → length (line slot bidder price) ≤ 18
line_short slot bidder price s b p =
    let whole = line-length slot bidder price in
    let first = field-length slot space in
    let second = field-length bidder space in
    let third = field-length price newline in
    let two = decimal-length 1 slot s in
    let three = decimal-length 2 bidder b in
    let ten = decimal-length 9 price p in
    omega arith

pub refused-length : (number : ℕ) → length (refused_line number) ≡ 8 + length (field number newline)
unfolding refused_line
refused-length number = length-append refused_word (field number newline)

-- `refused`, a space, a number of 10 digits and a newline
pub refused_short : (number : ℕ) → number < 10_000_000_000 → length (refused_line number) ≤ 19
refused_short number h =
    let whole = refused-length number in
    let end = field-length number newline in
    let ten = decimal-length 9 number h in
    omega arith
