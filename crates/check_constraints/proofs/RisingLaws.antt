-- Where the constraints must rise. One that breaks none of 10 to 13 has an owner, so its number is above 0; it is out of order exactly where its number
-- is not above that of the one before, and 0 stands before the first. Assumes nothing.
use Prim.Native.Nat.{ℕ, zero, suc, ◌<◌}
use borrow.Author.Tests.{lt-ltb, le-ltb, le-leb, lt-leb}
use mathlib.Core.Bool.{Bool, not, ◌&&◌}
use mathlib.Core.List.{List}
use mathlib.Core.Logic.{⊎_elim}
use mathlib.Core.Path.{◌≡◌, sym, ◌∙◌, ap, ap₂}
use native.Mathlib.Omega.{arith}
use lib.Dec.{eqb, ltb, leb}
use Rattle.basis.specs.Bytes.{byte_at}
use Rattle.basis.specs.First.{◌when◌otherwise◌, first_over}
use Rattle.basis.proofs.FirstLaws.{or_else_left, or_else_right, first-none, first-all-none}
use Rattle.basis.proofs.NumberLaws.{below_or_not}
use Rattle.sheet.specs.Sheet.{version, bidder_count, slot_count, owner_field, own_slot_field, other_field, other_slot_field}
use Rattle.sheet.specs.Refusal.{in_range, fields_refusal, terms_refusal, above_before, order_refusal, constraint_refusal}
use Rattle.sheet.specs.Accepted.{order_number}
use Rattle.sheet.proofs.OrderLaws.{SmallFields, constraint_below_lem, order-free}

-- the number of the constraint before index k, and 0 before the first
abbrev pub number_before : List ℕ → ℕ → ℕ
number_before s zero = 0
number_before s (suc k) = order_number s k

-- a constraint that breaks none of 10 to 13 has an owner
owned : (n m owner own other others : ℕ) → fields_refusal n m owner own other others ≡ 0 → 0 < owner
unfolding fields_refusal in_range
owned n m zero own other others e = absurd (let ten : 10 ≡ 0 = e in omega arith)
owned n m (suc owner) own other others e = omega arith

-- not below is at least
not_below : (a b : ℕ) → not (ltb a b) ≡ leb b a
not_below a b =
    ⊎_elim
    (λ (l : a < b). ap not (lt-ltb a b l) ∙ sym (lt-leb b a l))
    (λ l. ap not (le-ltb a b l) ∙ sym (le-leb b a l))
    (below_or_not a b)

-- a constraint that breaks any of 10 to 13 gives that number, whatever its order
pub terms-first : (s : List ℕ) (k : ℕ) → (terms_refusal s k ≡ 0 → ⊥) → constraint_refusal s k ≡ terms_refusal s k
unfolding constraint_refusal
terms-first s k = or_else_left (terms_refusal s k) (order_refusal s k)

module _ (s : List ℕ) (low : (i : ℕ) → byte_at s i < 256) where
  -- every field is a byte, so the order of the constraints is that of their numbers:
  small_fields : (k : ℕ) → SmallFields s k
  unfolding own_slot_field other_field other_slot_field
  small_fields k = record { own = low _; other = low _; others = low _ }

  -- one out of order has a number that is not above the one before,
  pub out_of_order : (k : ℕ) → terms_refusal s k ≡ 0 → not (above_before s k) ≡ leb (order_number s k) (number_before s k)
  unfolding terms_refusal above_before order_number
  out_of_order zero none =
      let some = owned (bidder_count s) (slot_count s) (owner_field s 0) (own_slot_field s 0) (other_field s 0) (other_slot_field s 0) none in
      sym (lt-leb (order_number s 0) 0 (omega arith))
  out_of_order (suc k) none =
      ap not (constraint_below_lem s k (suc k) (small_fields k) (small_fields (suc k)))
      ∙ not_below (order_number s k) (order_number s (suc k))

  -- and gives 28 where the constraints must rise: a pass has its number and the one before
  pub order_refusal_lem : (k : ℕ) → terms_refusal s k ≡ 0 → {rising test : Bool} {number before : ℕ} →
      rising ≡ eqb (version s) 2 → number ≡ order_number s k → before ≡ number_before s k → (rising && leb number before) ≡ test →
      constraint_refusal s k ≡ (28 when test otherwise 0)
  unfolding constraint_refusal order_refusal
  order_refusal_lem k none p q r tested =
      or_else_right (terms_refusal s k) (order_refusal s k) none
      ∙ ap (λ (x : Bool). 28 when x otherwise 0) (ap₂ ◌&&◌ (sym p) (out_of_order k none ∙ sym (ap₂ leb q r)) ∙ tested)

-- where none breaks 10 to 13, a sheet of version 1 has no number: the order gives none
pub free-number : (s : List ℕ) (n : ℕ) → version s ≡ 1 → first_over (terms_refusal s) n ≡ 0 → first_over (constraint_refusal s) n ≡ 0
unfolding constraint_refusal
free-number s n one none =
    first-all-none (constraint_refusal s) n
    (λ k l.
    or_else_right (terms_refusal s k) (order_refusal s k) (first-none (terms_refusal s) n none k l)
    ∙ order-free s k (λ two. absurd (omega arith)))
