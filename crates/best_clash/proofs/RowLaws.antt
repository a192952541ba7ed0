-- Who reaches a floor, and the seats of a round's bidders and slots: bids fall from rank to rank, so who reaches a slot's floor are the first so many; they
-- are a row of ones for each slot, one slot after another. The bits of each row are tried. Assumes nothing.
use Prim.Native.Nat.{ℕ, suc, ◌+◌, ◌*◌, ◌-◌, ◌%◌, ◌^◌, ◌<◌, ◌≤◌}
use borrow.Author.Tests.{lt-ltb, le-ltb, ltb-true, le-leb, lt-leb}
use mathlib.Core.Bool.{Bool, ◌&&◌, ◌||◌, and-false, or-false}
use mathlib.Core.List.{List}
use mathlib.Core.Logic.{⊎_elim}
use mathlib.Core.Path.{◌≡◌, refl, sym, ◌∙◌, ap, ap₂, subst}
use native.Mathlib.Nat.{eq-or-lt_of_le, mod-le, lt_of_lt_of_le, lt_of_le_of_lt}
use native.Mathlib.Omega.{arith}
use lib.Bits.{bit_or, or_lt}
use lib.Dec.{leb, ltb}
use lib.ListN.{get_or}
use lib.Pow.{pow_mono, shl_lt}
use Rattle.basis.specs.Bits.{bit_of}
use Rattle.basis.specs.Tests.{all_below}
use Rattle.basis.proofs.BitLaws.{bit_of-bit_or, bit_shl, bit_zero}
use Rattle.basis.proofs.TestLaws.{and_holds, all-at, tried}
use Rattle.basis.proofs.NumberLaws.{below_or_not}
use Rattle.choice.specs.EngineBids.{bid_in}
use Rattle.best_clash.specs.EngineMarks.{reaches}

-- where the first so many ranks reach a floor and no later one does, the count tells who reaches it
pub reach_first : (bids ranked : List ℕ) (n floor count : ℕ) → count ≤ n → ((i : ℕ) → i < count → floor ≤ bid_in bids (get_or ranked i 0)) →
    ((i : ℕ) → count ≤ i → i < n → bid_in bids (get_or ranked i 0) < floor) → (i : ℕ) → ltb i count ≡ reaches bids ranked n floor i
reach_first bids ranked n floor count within first later i =
    let bid = bid_in bids (get_or ranked i 0) in
    ⊎_elim
    (λ (l : i < count). lt-ltb i count l ∙ sym (and_holds (lt-ltb i n (omega arith)) (le-leb floor bid (first i l))))
    (λ (l : count ≤ i).
    le-ltb i count l
    ∙ sym
    (⊎_elim
    (λ (m : i < n). ap (λ (t : Bool). ltb i n && t) (lt-leb floor bid (later i l m)) ∙ and-false (ltb i n))
    (λ (m : n ≤ i). ap (λ (t : Bool). t && leb floor bid) (le-ltb i n m))
    (below_or_not i n)))
    (below_or_not i count)

-- a row of ones
abbrev pub row_of : ℕ → ℕ
row_of count = 1 * 2 ^ count % 2 ^ 64 - 1

row_bits : (count : ℕ) → count < 9 → (i : ℕ) → i < 64 → bit_of (row_of count) i ≡ ltb i count
unfolding all_below bit_of
row_bits = tried (λ n i. bit_of (row_of n) i) (λ n i. ltb i n) 9 64 refl

-- the row is of at most 8
row_low : (count : ℕ) → count < 9 → row_of count < 2 ^ 8
unfolding all_below
row_low count few = ltb-true (row_of count) (2 ^ 8) (all-at (λ n. ltb (row_of n) (2 ^ 8)) 9 refl count few)

-- of the seats that a test by slot and rank tells, those of the first k slots
pub record SeatsTo (test : ℕ → ℕ → Bool) (all k : ℕ) : Type 0 where
  pub low : all < 2 ^ (8 * k)
  pub told : (l i : ℕ) → l < 8 → i < 8 → bit_of all (8 * l + i) ≡ (ltb l k && test l i)

pub no_seats : (test : ℕ → ℕ → Bool) → SeatsTo test 0 0
no_seats test = record { low = omega arith; told = λ l i l-low i-low. bit_zero (8 * l + i) ∙ sym (ap (λ (t : Bool). t && test l i) (le-ltb l 0 (omega arith))) }

-- and of one more, where the test tells the first so many ranks
module _ (test : ℕ → ℕ → Bool) (all k count : ℕ) (few : count ≤ 8) (k-low : k < 8) (first : (i : ℕ) → ltb i count ≡ test k i) (v : SeatsTo test all k) where
  row_at : (l i : ℕ) → i < 8 → ((ltb l k && test l i) || (leb (8 * k) (8 * l + i) && ltb (8 * l + i - 8 * k) count)) ≡ (ltb l (suc k) && test l i)
  row_at l i i-low =
      ⊎_elim
      (λ (before : l < k). simp (lt-ltb l k before, lt-ltb l (suc k) (omega arith), lt-leb (8 * k) (8 * l + i) (omega arith), or-false (test l i)))
      (λ (past : k ≤ l).
      ⊎_elim
      (λ (same : k ≡ l).
      let index : 8 * l + i - 8 * k ≡ i = omega arith in
      simp (le-ltb l k past, lt-ltb l (suc k) (omega arith), le-leb (8 * k) (8 * l + i) (omega arith), index) (first i ∙ ap (λ (n : ℕ). test n i) same))
      (λ (after : k < l). simp (le-ltb l k past, le-ltb l (suc k) after, le-leb (8 * k) (8 * l + i) (omega arith), le-ltb (8 * l + i - 8 * k) count (omega arith)))
      (eq-or-lt_of_le past))
      (below_or_not l k)

  pub seats_more : SeatsTo test (bit_or all (row_of count * 2 ^ (8 * k) % 2 ^ 64)) (suc k)
  seats_more =
      record {
        low =
            or_lt (8 * suc k) all (row_of count * 2 ^ (8 * k) % 2 ^ 64)
            (lt_of_lt_of_le v.low (pow_mono (omega arith)))
            (lt_of_le_of_lt (mod-le (row_of count * 2 ^ (8 * k)) (2 ^ 64))
            (subst (λ (n : ℕ). row_of count * 2 ^ (8 * k) < 2 ^ n) (let e : 8 + 8 * k ≡ 8 * suc k = omega arith in e)
            (shl_lt 8 (8 * k) (row_low count (omega arith)))));
        told = λ l i l-low i-low.
            bit_of-bit_or all (row_of count * 2 ^ (8 * k) % 2 ^ 64) (8 * l + i)
            ∙ ap₂ ◌||◌ (v.told l i l-low i-low)
            (bit_shl (row_of count) (8 * k) 64 (8 * l + i) (omega arith)
            ∙ ap (λ (t : Bool). leb (8 * k) (8 * l + i) && t) (row_bits count (omega arith) (8 * l + i - 8 * k) (omega arith)))
            ∙ row_at l i i-low;
      }
