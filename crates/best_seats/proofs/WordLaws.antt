-- The words of one rank and of all bytes together: each rank and each bit is tried; and the or of a word's eight bytes has a bit where one of them
-- has it, since each half's or tells it for the slots of that half. Assumes nothing.
use Prim.Native.Nat.{ℕ, ◌+◌, ◌-◌, ◌*◌, ◌/◌, ◌%◌, ◌^◌, ◌<◌, ◌≤◌}
use borrow.Author.Tests.{leb-true}
use mathlib.Core.Bool.{Bool, true, false, cond, not, ◌&&◌, ◌||◌}
use mathlib.Core.Logic.{⊎_elim}
use mathlib.Core.Path.{◌≡◌, refl, sym, ◌∙◌, ap}
use native.Mathlib.Omega.{arith}
use lib.Bits.{bit_and, bit_or}
use mir.Syntax.{w64}
use Rattle.std.proofs.lemmas.Nat.Bits.{bit_at_not}
use Rattle.basis.proofs.NumberLaws.{below_or_not}
use lib.Dec.{eqb, leb}
use Rattle.basis.specs.Bits.{bit_of}
use Rattle.basis.specs.Tests.{any_below, all_below}
use Rattle.basis.proofs.BitLaws.{bit_digit, bit_of-bit_and, bit_of-bit_or, bit_shr, bit_kept, bit_above}
use Rattle.basis.proofs.TestLaws.{all-at, any_pairs, tried}
use Rattle.best_seats.specs.EngineSeats.{somewhere}

-- every eighth bit: the number is 0x0101010101010101
pub bits_everywhere : (rank : ℕ) → rank < 8 → (i : ℕ) → i < 64 → bit_of (72340172838076673 * 2 ^ rank % 2 ^ 64) i ≡ eqb (i % 8) rank
unfolding all_below bit_of
bits_everywhere = tried (λ x i. bit_of (72340172838076673 * 2 ^ x % 2 ^ 64) i) (λ x i. eqb (i % 8) x) 8 64 refl

-- the or of a word and the same shifted down by n bytes
abbrev pub halved : ℕ → ℕ → ℕ
halved x n = bit_or x (x / 2 ^ (8 * n))

-- bit i is set in one of its first n bytes where it is set in one of the word's first 2 n
bytes_halved : (x n i : ℕ) → any_below (λ l. bit_of x (8 * l + i)) (n + n) ≡ any_below (λ l. bit_of (halved x n) (8 * l + i)) n
bytes_halved x n i =
    any_pairs
    (λ l. bit_of x (8 * l + i))
    (λ l. bit_of (halved x n) (8 * l + i))
    n
    (λ l b.
    let at : 8 * n + (8 * l + i) ≡ 8 * (n + l) + i = omega arith in
    bit_of-bit_or x (x / 2 ^ (8 * n)) (8 * l + i)
    ∙ ap (λ (t : Bool). bit_of x (8 * l + i) || t) (bit_shr x (8 * n) (8 * l + i) ∙ ap (bit_of x) at))

-- the or of the eight bytes: its bit i is set where rank i has a seat
pub bytes_or : (free i : ℕ) → i < 8 → bit_of (halved (halved (halved free 4) 2) 1 % 256) i ≡ somewhere free i
unfolding somewhere any_below
bytes_or free i l =
    let first : i ≡ 8 * 0 + i = omega arith in
    bit_kept (halved (halved (halved free 4) 2) 1) 8 i l
    ∙ ap (bit_of (halved (halved (halved free 4) 2) 1)) first
    ∙ sym (bytes_halved (halved (halved free 4) 2) 1 i)
    ∙ sym (bytes_halved (halved free 4) 2 i)
    ∙ sym (bytes_halved free 4 i)

-- There is a one to take off where the first ranks are made.
pub one_left : (count : ℕ) → count < 9 → 1 ≤ 1 * 2 ^ count % 2 ^ 64
unfolding all_below
one_left count few = leb-true 1 (1 * 2 ^ count % 2 ^ 64) (all-at (λ n. leb 1 (1 * 2 ^ n % 2 ^ 64)) 9 refl count few)

-- what is in one word and not in another
pub bit_and_not : (a b i : ℕ) → a < 2 ^ 64 → b < 2 ^ 64 → bit_of (bit_and a (2 ^ 64 - 1 - b)) i ≡ (bit_of a i && not (bit_of b i))
unfolding bit_of
bit_and_not a b i a-low b-low =
    bit_of-bit_and a (2 ^ 64 - 1 - b) i
    ∙ ⊎_elim
    (λ (l : i < 64). ap (λ (t : Bool). bit_of a i && t) (flipped l))
    (λ (l : 64 ≤ i). let none = bit_above 64 a i a-low l in simp none)
    (below_or_not i 64)
  where
    by_tests : (t : Bool) → eqb (1 - cond t 1 0) 1 ≡ not t
    by_tests true = refl
    by_tests false = refl

    flipped : i < 64 → bit_of (2 ^ 64 - 1 - b) i ≡ not (bit_of b i)
    flipped l = ap (λ (x : ℕ). eqb x 1) (bit_at_not w64 b i b-low l ∙ ap (λ (x : ℕ). 1 - x) (bit_digit b i)) ∙ by_tests (bit_of b i)
