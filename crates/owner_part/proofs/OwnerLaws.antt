-- In version 2 the owners do not fall, since the conditions rise and the owner is the first field of the order. So the conditions before the first of
-- bidder i or a higher one have lower owners, and from there on none has. Assumes nothing.
use Prim.Native.Nat.{ℕ, suc, ◌<◌, ◌≤◌}
use borrow.Author.Tests.{lt-ltb, le-ltb, ltb-true, ltb-false, not-true, not-false}
use mathlib.Core.Bool.{Bool, not}
use mathlib.Core.List.{List}
use mathlib.Core.Logic.{⊎_elim}
use mathlib.Core.Path.{◌≡◌, ap}
use native.Mathlib.Nat.{eq-or-lt_of_le}
use native.Mathlib.Omega.{arith}
use lib.Dec.{ltb}
use Rattle.basis.proofs.NumberLaws.{below_or_not}
use Rattle.basis.proofs.RisingLaws.{rising_over}
use Rattle.basis.proofs.TestLaws.{least-at-most, least-before, least_passes, least_is}
use Rattle.sheet.specs.Sheet.{version, constraint_count, owner_field}
use Rattle.sheet.specs.Refusal.{Accepted}
use Rattle.sheet.specs.Accepted.{order_number, AcceptedSheet}
use Rattle.sheet.proofs.AcceptedLaws.{accepted-sheet}
use Rattle.owner_part.specs.OwnerPart.{first_from}

-- whether the condition at index k has the owner i or a higher one
abbrev from : List ℕ → ℕ → ℕ → Bool
from s i k = not (ltb (owner_field s k) i)

pub first-at-most : (s : List ℕ) (i : ℕ) → first_from s i ≤ constraint_count s
unfolding first_from
first-at-most s i = least-at-most (from s i) (constraint_count s)

-- before it owners are lower
pub before-first : (s : List ℕ) (i k : ℕ) → k < first_from s i → owner_field s k < i
unfolding first_from
before-first s i k l =
    ltb-true (owner_field s k) i (not-false (ltb (owner_field s k) i) (least-before (from s i) (constraint_count s) k l))

-- and where it is
pub first_is : (s : List ℕ) (i k : ℕ) → k ≤ constraint_count s → ((j : ℕ) → j < k → owner_field s j < i) →
    ((j : ℕ) → k ≤ j → j < constraint_count s → i ≤ owner_field s j) → first_from s i ≡ k
unfolding first_from
first_is s i k l below above =
    least_is (from s i) (constraint_count s) k l
    (λ j h. ap not (lt-ltb (owner_field s j) i (below j h)))
    (λ h. ap not (le-ltb (owner_field s k) i (above k (omega arith) h)))

module _ (s : List ℕ) (ok : Accepted s) (two : version s ≡ 2) where
  facts : AcceptedSheet s
  facts = accepted-sheet s ok

  pub owners_rise : (j k : ℕ) → j ≤ k → k < constraint_count s → owner_field s j ≤ owner_field s k
  unfolding order_number
  owners_rise j k l m =
      ⊎_elim
      (λ (e : j ≡ k). let same = ap (owner_field s) e in omega arith)
      (λ (h : j < k).
      let up = rising_over (order_number s) (constraint_count s) (facts.rising two) j k h m in
      let here = facts.constraints j (omega arith) in
      let there = facts.constraints k m in
      let n = facts.counts.most_bidders in
      let slots = facts.counts.most_slots in
      let own = here.most_own in
      let own' = there.most_own in
      let other = here.most_other in
      let other' = there.most_other in
      let others = here.most_others in
      let others' = there.most_others in
      omega arith)
      (eq-or-lt_of_le l)

  -- from the first on owners are i or higher
  pub from_first : (i k : ℕ) → first_from s i ≤ k → k < constraint_count s → i ≤ owner_field s k
  unfolding first_from
  from_first i k l m =
      let within : first_from s i < constraint_count s = omega arith in
      let here =
      ltb-false (owner_field s (first_from s i)) i
      (not-true (ltb (owner_field s (first_from s i)) i) (least_passes (from s i) (constraint_count s) within)) in
      let up = owners_rise (first_from s i) k l m in
      omega arith

  -- the first of a higher owner does not stand before the first of i
  pub first_no_later : (i : ℕ) → first_from s i ≤ first_from s (suc i)
  first_no_later i =
      ⊎_elim
      (λ (l : first_from s (suc i) < first_from s i).
      let most = first-at-most s i in
      let low = before-first s i (first_from s (suc i)) l in
      let high = from_first (suc i) (first_from s (suc i)) (omega arith) (omega arith) in
      absurd (omega arith))
      (λ (l : first_from s i ≤ first_from s (suc i)). l)
      (below_or_not (first_from s (suc i)) (first_from s i))
