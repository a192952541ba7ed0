-- How a set of ranks is gone through, the first rank first: what is left starts as the whole, each turn leaves out one rank, those passed over were
-- not in it, and when nothing is left every rank of the set has had its turn. Assumes nothing.
use Prim.Native.Nat.{ℕ, zero, suc, ◌+◌, ◌/◌, ◌%◌, ◌^◌, ◌<◌, ◌≤◌}
use borrow.Author.Tests.{eq-eqb, ne_eqb, le-leb, leb-true}
use mathlib.Core.Bool.{Bool, true, false, not, ◌&&◌}
use mathlib.Core.Logic.{⊎_elim}
use mathlib.Core.Path.{◌≡◌, sym, ◌∙◌, ap, subst}
use native.Mathlib.Nat.{mod-lt, zero-lt-suc, lt_of_lt_of_le, lt_of_le_of_lt, eq-or-lt_of_le, div-le_self, div-lt_iff_lt-mul, one-mul, pow-suc}
use native.Mathlib.Omega.{arith}
use lib.Count.{count_trailing_zeros}
use lib.Dec.{eqb, leb}
use lib.Pow.{pow_pos}
use Rattle.basis.specs.Bits.{bit_of}
use Rattle.basis.proofs.BitLaws.{bit_kept, bit_zero, bit_shr, bit_above, no_bits, lowest_set, lowest_first}
use Rattle.basis.proofs.TestLaws.{not_both, fails, and_parts, same_tests, and_holds}
use Rattle.basis.proofs.NumberLaws.{below_or_not, same_or_not}
use Rattle.best_seats.specs.EngineSeats.{First, Rest}

-- the whole is left at first,
pub rest_start : (whole left : ℕ) → left ≡ whole % 256 → Rest whole left 0
rest_start whole left e =
    record {
      few = (let low = mod-lt whole (zero-lt-suc 255) in omega arith);
      told = λ i l. ap (λ (x : ℕ). bit_of x i) e ∙ bit_kept whole 8 i l ∙ sym (ap (λ (t : Bool). t && bit_of whole i) (le-leb 0 i (omega arith)));
    }

module _ (whole left start rank : ℕ) (v : Rest whole left start) (f : First left rank) where
  -- the first of what is left is in the set, and has not had its turn,
  pub rest_here : (bit_of whole rank ≡ true) × (start ≤ rank)
  rest_here =
      let both = and_parts (leb start rank) (bit_of whole rank) (sym (v.told rank f.low) ∙ f.here) in
      (both.1, leb-true start rank both.0)

  -- none between is in it,
  pub rest_between : (i : ℕ) → start ≤ i → i < rank → bit_of whole i ≡ false
  rest_between i l m =
      sym (v.told i (let low = f.low in omega arith) ∙ ap (λ (t : Bool). t && bit_of whole i) (le-leb start i l)) ∙ f.none_before i m

  -- and the others are left
  pub rest_next : (less : ℕ) → less < left → ((i : ℕ) → bit_of less i ≡ (bit_of left i && not (eqb i rank))) → Rest whole less (suc rank)
  rest_next less fewer told =
      record {
        few = (let few = v.few in omega arith);
        told = λ i l.
            told i
            ∙ ap (λ (t : Bool). t && not (eqb i rank)) (v.told i l)
            ∙ same_tests ((leb start i && bit_of whole i) && not (eqb i rank)) (leb (suc rank) i && bit_of whole i)
            (λ e.
            let both = and_parts (leb start i && bit_of whole i) (not (eqb i rank)) e in
            let old = and_parts (leb start i) (bit_of whole i) both.0 in
            ⊎_elim
            (λ (below : i < rank). absurd (not_both old.1 (rest_between i (leb-true start i old.0) below)))
            (λ (past : rank ≤ i).
            ⊎_elim
            (λ (same : i ≡ rank). absurd (not_both both.1 (ap not (eq-eqb i rank same))))
            (λ (apart : i ≡ rank → ⊥). and_holds (le-leb (suc rank) i (omega arith)) old.1)
            (same_or_not i rank))
            (below_or_not i rank))
            (λ e.
            let both = and_parts (leb (suc rank) i) (bit_of whole i) e in
            let past = leb-true (suc rank) i both.0 in
            let here = rest_here.1 in
            and_holds (and_holds (le-leb start i (omega arith)) both.1) (ap not (ne_eqb i rank (λ z. absurd (omega arith)))));
      }

-- when nothing is left, no rank from `start` on is in the set
pub rest_done : (whole left start : ℕ) → Rest whole left start → left ≡ 0 → (i : ℕ) → i < 8 → start ≤ i → bit_of whole i ≡ false
rest_done whole left start v e i l m =
    sym (v.told i l ∙ ap (λ (t : Bool). t && bit_of whole i) (le-leb start i m)) ∙ ap (λ (x : ℕ). bit_of x i) e ∙ bit_zero i

-- The first rank of a set, by the zeros below the lowest bit.
pub first-here : (ranks : ℕ) → (ranks ≡ 0 → ⊥) → ranks < 256 → First ranks (count_trailing_zeros 64 ranks)
first-here ranks some few =
    let lowest = lowest_set 64 ranks (lt_of_lt_of_le few (omega arith)) some in
    record {
      low =
          ⊎_elim
          (λ (l : count_trailing_zeros 64 ranks < 8). l)
          (λ (l : 8 ≤ count_trailing_zeros 64 ranks). absurd (not_both lowest.1 (bit_above 8 ranks (count_trailing_zeros 64 ranks) few l)))
          (below_or_not (count_trailing_zeros 64 ranks) 8);
      here = lowest.1;
      none_before = λ i l. lowest_first 64 ranks i l;
    }

-- there is one first
pub first-same : (ranks a b : ℕ) → First ranks a → First ranks b → a ≡ b
first-same ranks a b f g =
    ⊎_elim
    (λ (l : a < b). absurd (not_both f.here (g.none_before a l)))
    (λ (l : b ≤ a).
    ⊎_elim
    (λ (e : b ≡ a). sym e)
    (λ (m : b < a). absurd (not_both g.here (f.none_before b m)))
    (eq-or-lt_of_le l))
    (below_or_not a b)

-- Where a word's bits are all another's, it is as low.
below_power : (x : ℕ) → x < 2 ^ x
below_power zero = omega arith
below_power (suc x) = (let h = below_power x in let e = pow-suc 2 x in omega arith)

pub bits_low : (x y w : ℕ) → y < 2 ^ w → ((i : ℕ) → bit_of x i ≡ true → bit_of y i ≡ true) → x < 2 ^ w
bits_low x y w y-low within =
    let rest : x / 2 ^ w ≡ 0
    = no_bits x (x / 2 ^ w) (lt_of_le_of_lt (div-le_self x (2 ^ w)) (below_power x))
    (λ i l.
    fails (bit_of (x / 2 ^ w) i)
    (λ e. not_both (within (w + i) (sym (bit_shr x w i) ∙ e)) (bit_above w y (w + i) y-low (omega arith)))) in
    subst (λ (n : ℕ). x < n) (one-mul (2 ^ w)) ((div-lt_iff_lt-mul (pow_pos w)).0 (subst (λ (n : ℕ). n < 1) (sym rest) (zero-lt-suc 0)))
