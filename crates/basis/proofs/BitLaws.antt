-- The bits of a word's operations: or, and, exclusive or, shifts, a word with one bit, the lowest bit that is set, and the word without it.
-- Assumes nothing.
use Prim.Native.Nat.{ℕ, zero, suc, ◌+◌, ◌-◌, ◌*◌, ◌/◌, ◌%◌, ◌^◌, ◌<◌, ◌≤◌}
use borrow.Author.Tests.{eq-eqb, ne_eqb, eqb-true, eqb-false, le-leb, leb-true, leb-false}
use mathlib.Core.Bool.{Bool, true, false, cond, not, ◌&&◌, ◌||◌, or-false, not-not}
use mathlib.Core.List.{List}
use mathlib.Core.Logic.{◌⊎◌, inl, inr, ⊎_elim}
use mathlib.Core.Path.{◌≡◌, refl, sym, ◌∙◌, ap, ap₂, subst}
use native.Mathlib.Nat.{mod-lt, zero-lt-suc, mul_assoc, zero-div, div-eq_of_lt, div-one, div-add-mod', lt_of_lt_of_le, not-suc-le-zero}
use native.Mathlib.Omega.{arith}
use lib.Bits.{bit_and, bit_or, bit_xor, and_shr, or_shr, xor_shr, and_mod, or_mod, xor_mod, shifted_even}
use lib.Count.{under, count_trailing_zeros}
use lib.Dec.{eqb, leb}
use lib.ListN.{length, get_or, set}
use lib.Pow.{pow-add, pow-lt, pow_mono, shr_lt, shl-shr, shr-shr, field, mod-mod-pow}
use lib.Seq.{get_or-set_same, get_or-set_other}
use Rattle.basis.proofs.NumberLaws.{same_or_not}
use Rattle.basis.proofs.TestLaws.{holds_or_fails, same_tests, and_holds, and_parts}
use Rattle.basis.specs.Bits.{bit_of}

-- a digit is 0 or 1
digit_two : (d : ℕ) → d < 2 → (d ≡ 0) ⊎ (d ≡ 1)
digit_two zero l = inl refl
digit_two (suc zero) l = inr refl
digit_two (suc (suc d)) l = absurd (omega arith)

-- a set bit is 1 and another 0
pub bit_digit : (x i : ℕ) → x / 2 ^ i % 2 ≡ cond (bit_of x i) 1 0
unfolding bit_of
bit_digit x i =
    ⊎_elim
    (λ (e : x / 2 ^ i % 2 ≡ 0). e ∙ sym (ap (λ (d : ℕ). cond (eqb d 1) 1 0) e))
    (λ (e : x / 2 ^ i % 2 ≡ 1). e ∙ sym (ap (λ (d : ℕ). cond (eqb d 1) 1 0) e))
    (digit_two (x / 2 ^ i % 2) (mod-lt (x / 2 ^ i) (zero-lt-suc 1)))

-- a test for 0 says that the bit is not set
pub bit_clear : (x i : ℕ) → eqb (x / 2 ^ i % 2) 0 ≡ not (bit_of x i)
bit_clear x i = ap (λ (d : ℕ). eqb d 0) (bit_digit x i) ∙ by_test (bit_of x i)
  where
    by_test : (t : Bool) → eqb (cond t 1 0) 0 ≡ not t
    by_test true = refl
    by_test false = refl

-- and a test for a digit that is not 0 that it is
pub bit_set : (x i : ℕ) → not (eqb (x / 2 ^ i % 2) 0) ≡ bit_of x i
bit_set x i = ap not (bit_clear x i) ∙ not-not (bit_of x i)

-- an operation on two words is one on their digits
module _ (op : ℕ → ℕ → ℕ) (test : Bool → Bool → Bool) (shr : (a b k : ℕ) → op a b / 2 ^ k ≡ op (a / 2 ^ k) (b / 2 ^ k))
    (low : (a b k : ℕ) → op a b % 2 ^ k ≡ op (a % 2 ^ k) (b % 2 ^ k))
    (table : (s t : Bool) → eqb (op (cond s 1 0) (cond t 1 0)) 1 ≡ test s t) where
  digits_test : (a b i : ℕ) → bit_of (op a b) i ≡ test (bit_of a i) (bit_of b i)
  unfolding bit_of
  digits_test a b i =
      ap (λ (d : ℕ). eqb (d % 2) 1) (shr a b i)
      ∙ ap (λ (d : ℕ). eqb d 1) (low (a / 2 ^ i) (b / 2 ^ i) 1)
      ∙ ap₂ (λ (c d : ℕ). eqb (op c d) 1) (bit_digit a i) (bit_digit b i)
      ∙ table (bit_of a i) (bit_of b i)

pub bit_of-bit_or : (a b i : ℕ) → bit_of (bit_or a b) i ≡ (bit_of a i || bit_of b i)
bit_of-bit_or = digits_test bit_or ◌||◌ or_shr or_mod by_tests
  where
    by_tests : (s t : Bool) → eqb (bit_or (cond s 1 0) (cond t 1 0)) 1 ≡ (s || t)
    by_tests true true = refl
    by_tests true false = refl
    by_tests false true = refl
    by_tests false false = refl

pub bit_of-bit_and : (a b i : ℕ) → bit_of (bit_and a b) i ≡ (bit_of a i && bit_of b i)
bit_of-bit_and = digits_test bit_and ◌&&◌ and_shr and_mod by_tests
  where
    by_tests : (s t : Bool) → eqb (bit_and (cond s 1 0) (cond t 1 0)) 1 ≡ (s && t)
    by_tests true true = refl
    by_tests true false = refl
    by_tests false true = refl
    by_tests false false = refl

pub bit_of-bit_xor : (a b i : ℕ) → bit_of (bit_xor a b) i ≡ cond (bit_of a i) (not (bit_of b i)) (bit_of b i)
bit_of-bit_xor = digits_test bit_xor (λ s t. cond s (not t) t) xor_shr xor_mod by_tests
  where
    by_tests : (s t : Bool) → eqb (bit_xor (cond s 1 0) (cond t 1 0)) 1 ≡ cond s (not t) t
    by_tests true true = refl
    by_tests true false = refl
    by_tests false true = refl
    by_tests false false = refl

-- what is in one word and not in another: the or of the two without the other
pub bit_without : (a b i : ℕ) → bit_of (bit_xor (bit_or a b) b) i ≡ (bit_of a i && not (bit_of b i))
bit_without a b i =
    bit_of-bit_xor (bit_or a b) b i
    ∙ ap (λ (s : Bool). cond s (not (bit_of b i)) (bit_of b i)) (bit_of-bit_or a b i)
    ∙ by_tests (bit_of a i) (bit_of b i)
  where
    by_tests : (s t : Bool) → cond (s || t) (not t) t ≡ (s && not t)
    by_tests true true = refl
    by_tests true false = refl
    by_tests false true = refl
    by_tests false false = refl

-- shifted down, the bits from k on come first
pub bit_shr : (x k i : ℕ) → bit_of (x / 2 ^ k) i ≡ bit_of x (k + i)
unfolding bit_of
bit_shr x k i = ap (λ (d : ℕ). eqb (d % 2) 1) (shr-shr x k i)

-- no bit of 0 is set
pub bit_zero : (i : ℕ) → bit_of 0 i ≡ false
unfolding bit_of
bit_zero i = ap (λ (d : ℕ). eqb (d % 2) 1) (zero-div (2 ^ i))

-- a word keeps its bits below its width
pub bit_kept : (x w i : ℕ) → i < w → bit_of (x % 2 ^ w) i ≡ bit_of x i
unfolding bit_of
bit_kept x w i l =
    let above : w - suc i + 1 + i ≡ w = omega arith in
    ap (λ (n : ℕ). eqb (x % 2 ^ n / 2 ^ i % 2) 1) (sym above)
    ∙ ap (λ (d : ℕ). eqb (d % 2) 1) (field x (w - suc i + 1) i)
    ∙ ap (λ (d : ℕ). eqb d 1) (mod-mod-pow (x / 2 ^ i) (w - suc i) 1)

bit_raised : (a s i : ℕ) → s ≤ i → bit_of (a * 2 ^ s) i ≡ bit_of a (i - s)
unfolding bit_of
bit_raised a s i l =
    let parts : i ≡ s + (i - s) = omega arith in
    ap (λ (n : ℕ). eqb (a * 2 ^ s / 2 ^ n % 2) 1) parts
    ∙ ap (λ (d : ℕ). eqb (d % 2) 1) (sym (shr-shr (a * 2 ^ s) s (i - s)))
    ∙ ap (λ (d : ℕ). eqb (d / 2 ^ (i - s) % 2) 1) (shl-shr a s)

bit_below : (a s i : ℕ) → i < s → bit_of (a * 2 ^ s) i ≡ false
unfolding bit_of
bit_below a s i l =
    let more : s ≡ suc (s - suc i) + i = omega arith in
    ap (λ (n : ℕ). eqb (a * 2 ^ n / 2 ^ i % 2) 1) more
    ∙ ap (λ (d : ℕ). eqb (a * d / 2 ^ i % 2) 1) (pow-add 2 (suc (s - suc i)) i)
    ∙ ap (λ (d : ℕ). eqb (d / 2 ^ i % 2) 1) (sym (mul_assoc a (2 ^ suc (s - suc i)) (2 ^ i)))
    ∙ ap (λ (d : ℕ). eqb (d % 2) 1) (shl-shr (a * 2 ^ suc (s - suc i)) i)
    ∙ ap (λ (d : ℕ). eqb d 1) (shifted_even a (s - suc i))

-- shifted up within a word of w bits
pub bit_shl : (a s w i : ℕ) → i < w → bit_of (a * 2 ^ s % 2 ^ w) i ≡ (leb s i && bit_of a (i - s))
bit_shl a s w i l =
    bit_kept (a * 2 ^ s) w i l
    ∙ ⊎_elim
    (λ (e : leb s i ≡ true). bit_raised a s i (leb-true s i e) ∙ ap (λ (t : Bool). t && bit_of a (i - s)) (sym e))
    (λ (e : leb s i ≡ false). bit_below a s i (leb-false s i e) ∙ ap (λ (t : Bool). t && bit_of a (i - s)) (sym e))
    (holds_or_fails (leb s i))

-- a word with one bit
bit_one : (d : ℕ) → bit_of 1 d ≡ eqb d 0
unfolding bit_of
bit_one zero = refl
bit_one (suc d) =
    ap (λ (q : ℕ). eqb (q % 2) 1) (div-eq_of_lt (pow-lt {i = 0} {j = suc d} (zero-lt-suc d)))
    ∙ sym (ne_eqb (suc d) 0 (λ e. absurd (omega arith)))

pub bit_single : (s w i : ℕ) → i < w → bit_of (1 * 2 ^ s % 2 ^ w) i ≡ eqb i s
bit_single s w i l =
    bit_shl 1 s w i l
    ∙ ap (λ (t : Bool). leb s i && t) (bit_one (i - s))
    ∙ same_tests (leb s i && eqb (i - s) 0) (eqb i s)
    (λ e.
    let both = and_parts (leb s i) (eqb (i - s) 0) e in
    let low = leb-true s i both.0 in
    let none = eqb-true (i - s) 0 both.1 in
    eq-eqb i s (omega arith))
    (λ e.
    let same = eqb-true i s e in
    and_holds (le-leb s i (omega arith)) (eq-eqb (i - s) 0 (omega arith)))

-- a word has no bit at or above its width,
pub bit_above : (w x i : ℕ) → x < 2 ^ w → w ≤ i → bit_of x i ≡ false
unfolding bit_of
bit_above w x i l m =
    ap (λ (d : ℕ). eqb (d % 2) 1) (div-eq_of_lt (lt_of_lt_of_le l (pow_mono m)))

-- the lowest bit, and the others by the half
bit_first : (x : ℕ) → bit_of x 0 ≡ eqb (x % 2) 1
unfolding bit_of
bit_first x = ap (λ (d : ℕ). eqb (d % 2) 1) (div-one x)

bit_next : (x i : ℕ) → bit_of x (suc i) ≡ bit_of (x / 2) i
bit_next x i = ap (bit_of x) (let e : suc i ≡ 1 + i = omega arith in e) ∙ sym (bit_shr x 1 i)

half_low : (x w : ℕ) → x < 2 ^ suc w → x / 2 < 2 ^ w
half_low x w l = shr_lt w 1 (subst (λ (n : ℕ). x < 2 ^ n) (let e : suc w ≡ w + 1 = omega arith in e) l)

-- and a word that has none is 0
pub no_bits : (w x : ℕ) → x < 2 ^ w → ((i : ℕ) → i < w → bit_of x i ≡ false) → x ≡ 0
no_bits zero x l none = omega arith
no_bits (suc w) x l none =
    let half = no_bits w (x / 2) (half_low x w l) (λ i h. sym (bit_next x i) ∙ none (suc i) (omega arith)) in
    let even = eqb-false (x % 2) 1 (sym (bit_first x) ∙ none 0 (omega arith)) in
    let two = mod-lt x (zero-lt-suc 1) in
    let parts = div-add-mod' x 2 in
    omega arith

-- The zeros below the lowest bit of a word that is not 0 say where that bit is:
half_some : (x : ℕ) → (x ≡ 0 → ⊥) → x % 2 ≡ 0 → x / 2 ≡ 0 → ⊥
half_some x some e z = some (let parts = div-add-mod' x 2 in omega arith)

pub lowest_set : (w x : ℕ) → x < 2 ^ w → (x ≡ 0 → ⊥) → (count_trailing_zeros w x < w) × (bit_of x (count_trailing_zeros w x) ≡ true)
unfolding count_trailing_zeros
lowest_set zero x l some = absurd (some (omega arith))
lowest_set (suc w) x l some = by_digit (x % 2) refl (λ h. lowest_set w (x / 2) (half_low x w l) h)
  where
    by_digit : (d : ℕ) → x % 2 ≡ d →
        ((x / 2 ≡ 0 → ⊥) → (count_trailing_zeros w (x / 2) < w) × (bit_of (x / 2) (count_trailing_zeros w (x / 2)) ≡ true)) →
        (under d (count_trailing_zeros w (x / 2)) < suc w) × (bit_of x (under d (count_trailing_zeros w (x / 2))) ≡ true)
    by_digit zero e rest =
        let below = rest (half_some x some e) in
        let low = below.0 in
        (omega arith, bit_next x (count_trailing_zeros w (x / 2)) ∙ below.1)
    by_digit (suc d) e rest =
        let two = mod-lt x (zero-lt-suc 1) in
        (omega arith, bit_first x ∙ eq-eqb (x % 2) 1 (omega arith))

-- none below it is set,
pub lowest_first : (w x i : ℕ) → i < count_trailing_zeros w x → bit_of x i ≡ false
unfolding count_trailing_zeros
lowest_first zero x i l = absurd (not-suc-le-zero l)
lowest_first (suc w) x i l = by_digit (x % 2) refl (lowest_first w (x / 2)) i l
  where
    by_digit : (d : ℕ) → x % 2 ≡ d → ((j : ℕ) → j < count_trailing_zeros w (x / 2) → bit_of (x / 2) j ≡ false) →
        (j : ℕ) → j < under d (count_trailing_zeros w (x / 2)) → bit_of x j ≡ false
    by_digit zero e rest zero h = bit_first x ∙ ap (λ (n : ℕ). eqb n 1) e
    by_digit zero e rest (suc j) h = bit_next x j ∙ rest j (omega arith)
    by_digit (suc d) e rest j h = absurd (not-suc-le-zero h)

-- and the word and one less have all bits in common but that one.
eqb-next : (m n : ℕ) → eqb (suc m) (suc n) ≡ eqb m n
eqb-next m n =
    same_tests (eqb (suc m) (suc n)) (eqb m n)
    (λ e. eq-eqb m n (let same = eqb-true (suc m) (suc n) e in omega arith))
    (λ e. eq-eqb (suc m) (suc n) (ap suc (eqb-true m n e)))

twice : (t : Bool) → (t && t) ≡ (t && true)
twice true = refl
twice false = refl

in_common : (w x i : ℕ) → x < 2 ^ w → (x ≡ 0 → ⊥) → (bit_of x i && bit_of (x - 1) i) ≡ (bit_of x i && not (eqb i (count_trailing_zeros w x)))
unfolding count_trailing_zeros
in_common zero x i l some = absurd (some (omega arith))
in_common (suc w) x i l some = by_digit (x % 2) refl (λ h j. in_common w (x / 2) j (half_low x w l) h) i
  where
    half_same : x % 2 ≡ 1 → (x - 1) / 2 ≡ x / 2
    half_same e = (let parts = div-add-mod' x 2 in omega arith)

    half_less : x % 2 ≡ 0 → (x - 1) / 2 ≡ x / 2 - 1
    half_less e = (let parts = div-add-mod' x 2 in omega arith)

    by_digit : (d : ℕ) → x % 2 ≡ d →
        ((x / 2 ≡ 0 → ⊥) → (j : ℕ) → (bit_of (x / 2) j && bit_of (x / 2 - 1) j) ≡ (bit_of (x / 2) j && not (eqb j (count_trailing_zeros w (x / 2))))) →
        (j : ℕ) → (bit_of x j && bit_of (x - 1) j) ≡ (bit_of x j && not (eqb j (under d (count_trailing_zeros w (x / 2)))))
    by_digit zero e rest zero =
        let clear : bit_of x 0 ≡ false = bit_first x ∙ ap (λ (m : ℕ). eqb m 1) e in
        ap (λ (t : Bool). t && bit_of (x - 1) 0) clear ∙ sym (ap (λ (t : Bool). t && not (eqb 0 (suc (count_trailing_zeros w (x / 2))))) clear)
    by_digit zero e rest (suc j) =
        ap₂ ◌&&◌ (bit_next x j) (bit_next (x - 1) j ∙ ap (λ (m : ℕ). bit_of m j) (half_less e))
        ∙ rest (half_some x some e) j
        ∙ ap₂ (λ (s t : Bool). s && not t) (sym (bit_next x j)) (sym (eqb-next j (count_trailing_zeros w (x / 2))))
    by_digit (suc d) e rest zero =
        let two = mod-lt x (zero-lt-suc 1) in
        let less : (x - 1) % 2 ≡ 0 = (let parts = div-add-mod' x 2 in omega arith) in
        ap (λ (t : Bool). bit_of x 0 && t) (bit_first (x - 1) ∙ ap (λ (m : ℕ). eqb m 1) less)
    by_digit (suc d) e rest (suc j) =
        let two = mod-lt x (zero-lt-suc 1) in
        let same : bit_of (x - 1) (suc j) ≡ bit_of x (suc j)
        = bit_next (x - 1) j ∙ ap (λ (m : ℕ). bit_of m j) (half_same (omega arith)) ∙ sym (bit_next x j) in
        ap (λ (t : Bool). bit_of x (suc j) && t) same
        ∙ twice (bit_of x (suc j))
        ∙ ap (λ (t : Bool). bit_of x (suc j) && not t) (sym (ne_eqb (suc j) 0 (λ z. absurd (omega arith))))

pub lowest_dropped : (w x : ℕ) → x < 2 ^ w → (x ≡ 0 → ⊥) → (i : ℕ) →
    bit_of (bit_and x (x - 1)) i ≡ (bit_of x i && not (eqb i (count_trailing_zeros w x)))
lowest_dropped w x l some i = bit_of-bit_and x (x - 1) i ∙ in_common w x i l some

-- One store of an or adds bits to one word of a list.
pub store_or : (table : List ℕ) (at word x y : ℕ) → at < length table →
    bit_of (get_or (set table at (bit_or (get_or table at 0) word)) x 0) y ≡ (bit_of (get_or table x 0) y || (eqb x at && bit_of word y))
store_or table at word x y inside =
    let more = bit_or (get_or table at 0) word in
    ⊎_elim
    (λ (e : x ≡ at).
    ap (λ (m : ℕ). bit_of m y) (ap (λ (m : ℕ). get_or (set table at more) m 0) e ∙ get_or-set_same table at more 0 inside)
    ∙ bit_of-bit_or (get_or table at 0) word y
    ∙ ap₂ ◌||◌ (ap (λ (m : ℕ). bit_of (get_or table m 0) y) (sym e)) (ap (λ (t : Bool). t && bit_of word y) (sym (eq-eqb x at e))))
    (λ (d : x ≡ at → ⊥).
    ap (λ (m : ℕ). bit_of m y) (get_or-set_other table at x more 0 d)
    ∙ sym (ap (λ (t : Bool). bit_of (get_or table x 0) y || (t && bit_of word y)) (ne_eqb x at d) ∙ or-false (bit_of (get_or table x 0) y)))
    (same_or_not x at)
