-- The order of the conditions in version 2. Of two conditions the first field in which they differ decides; where every field is below 256, that is the
-- order of the numbers that the fields make, and so the order can be chained over any distance. Assumes nothing.
use Prim.Native.Nat.{ℕ, ◌+◌, ◌*◌, ◌<◌}
use borrow.Author.Tests.{eq-eqb, ne_eqb, not-false}
use mathlib.Core.Bool.{Bool, true, not, ◌&&◌, ◌||◌}
use mathlib.Core.List.{List}
use mathlib.Core.Logic.{⊎_elim}
use mathlib.Core.Path.{◌≡◌, sym, ◌∙◌, ap, ap₂}
use native.Mathlib.Omega.{arith}
use lib.Dec.{eqb, ltb}
use Rattle.basis.proofs.FirstLaws.{when_none}
use Rattle.basis.proofs.NumberLaws.{digits_compared, same_or_not}
use Rattle.sheet.specs.Sheet.{version, owner_field, own_slot_field, other_field, other_slot_field}
use Rattle.sheet.specs.Refusal.{fields_below, constraint_below, above_before, order_refusal}
use Rattle.sheet.specs.Accepted.{fields_number, order_number}

-- below in the order is below as a number: digit by digit, from the last two
pub below-number : (a b c d a' b' c' d' : ℕ) → b < 256 → c < 256 → d < 256 → b' < 256 → c' < 256 → d' < 256 →
    fields_below a b c d a' b' c' d' ≡ ltb (fields_number a b c d) (fields_number a' b' c' d')
unfolding fields_below
below-number a b c d a' b' c' d' lb lc ld lb' lc' ld' =
    let last = digits_compared 256 c d c' d' ld ld' in
    let middle = digits_compared 65536 b (256 * c + d) b' (256 * c' + d') (omega arith) (omega arith) in
    let first =
    digits_compared 16777216 a (65536 * b + (256 * c + d)) a' (65536 * b' + (256 * c' + d')) (omega arith) (omega arith) in
    let sum : 16777216 * a + (65536 * b + (256 * c + d)) ≡ fields_number a b c d = omega arith in
    let sum' : 16777216 * a' + (65536 * b' + (256 * c' + d')) ≡ fields_number a' b' c' d' = omega arith in
    ap (λ (t : Bool). ltb a a' || (eqb a a' && (ltb b b' || (eqb b b' && t)))) last
    ∙ ap (λ (t : Bool). ltb a a' || (eqb a a' && t)) middle
    ∙ first
    ∙ ap₂ ltb sum sum'

-- the fields after the owner are below 256: true of bytes, and of accepted conditions
pub record SmallFields (s : List ℕ) (k : ℕ) : Type 0 where
  pub own : own_slot_field s k < 256
  pub other : other_field s k < 256
  pub others : other_slot_field s k < 256

-- so for two conditions of a sheet
pub constraint_below_lem : (s : List ℕ) (j k : ℕ) → SmallFields s j → SmallFields s k → constraint_below s j k ≡ ltb (order_number s j) (order_number s k)
unfolding constraint_below order_number
constraint_below_lem s j k p q =
    below-number (owner_field s j) (own_slot_field s j) (other_field s j) (other_slot_field s j)
    (owner_field s k) (own_slot_field s k) (other_field s k) (other_slot_field s k)
    p.own p.other p.others q.own q.other q.others

-- in any version but 2 no condition gives 28
pub order-free : (s : List ℕ) (k : ℕ) → (version s ≡ 2 → ⊥) → order_refusal s k ≡ 0
unfolding order_refusal
order-free s k h = simp (ne_eqb (version s) 2 h)

-- in version 2 a condition that is above the one before it gives none
pub order-kept : (s : List ℕ) (k : ℕ) → above_before s k ≡ true → order_refusal s k ≡ 0
unfolding order_refusal
order-kept s k e =
    ⊎_elim
    (λ (v : version s ≡ 2). simp (eq-eqb (version s) 2 v, e))
    (order-free s k)
    (same_or_not (version s) 2)

-- and one that gives none is above it
pub order-above : (s : List ℕ) (k : ℕ) → version s ≡ 2 → order_refusal s k ≡ 0 → above_before s k ≡ true
unfolding order_refusal
order-above s k v e =
    let none = (when_none 27 (eqb (version s) 2 && not (above_before s k)) 0 e).0 in
    not-false (above_before s k) (sym (ap (λ (t : Bool). t && not (above_before s k)) (eq-eqb (version s) 2 v)) ∙ none)
