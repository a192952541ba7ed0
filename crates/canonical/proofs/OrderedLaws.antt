-- The conditions of a sheet in order, each once. Listed owner by owner, own place by own place and so on, they rise strictly by their numbers, and they are
-- those of the sheet; and a rising list with these members is the only one. So in version 2 they are the sheet's as they stand, and the engine's numbers,
-- sorted and each once, are theirs. Assumes nothing.
use Prim.Native.Nat.{ℕ, suc, ◌+◌, ◌/◌, ◌%◌, ◌<◌, ◌≤◌}
use borrow.Author.Tests.{eq-eqb, eqb-true}
use mathlib.Core.Bool.{Bool, true, false, cond}
use mathlib.Core.List.{List, [], ◌∷◌, Memᴰ}
use mathlib.Core.Path.{◌≡◌, refl, sym, ◌∙◌, ap, ap₂, subst}
use native.Mathlib.Omega.{arith}
use lib.Dec.{eqb}
use lib.ListN.{length, get_or}
use Rattle.basis.specs.Rows.{row, joined}
use Rattle.basis.specs.Rising.{Rising}
use Rattle.basis.proofs.RisingLaws.{mem-row, row-mem, mem-joined, joined-mem, mem-at, at_mem, rising_higher, rising-joined, rising-row, rising-next, rising_over, rising_equal, rising-few}
use Rattle.basis.proofs.RowLaws.{joined_same, length-row}
use Rattle.basis.proofs.TestLaws.{and_holds, and_parts, any_at, any_where}
use Rattle.sheet.specs.Sheet.{
  version,
  bidder_count,
  slot_count,
  constraint_count,
  owner_field,
  own_slot_field,
  other_field,
  other_slot_field,
}
use Rattle.sheet.specs.Refusal.{Accepted}
use Rattle.sheet.specs.Accepted.{fields_number, number_of, order_number, AcceptedSheet}
use Rattle.sheet.specs.Encoded.{Condition, on, quads, condition_field}
use Rattle.sheet.proofs.AcceptedLaws.{accepted-sheet}
use Rattle.canonical_sort.specs.EngineSort.{digit_of, DigitsBelow, Among, Sorted, EachOnce}
use Rattle.canonical.specs.Canonical.{has_condition, conditions_in_order}
use Rattle.canonical.specs.EngineParts.{number_bytes, numbers_bytes, InSheetOrder}
use Rattle.sheet.proofs.EncodedLaws.{blank_condition, quad_bytes, quads-row}

-- a sheet lists just the conditions that stand in it
pub has_where : (s : List ℕ) (a b c d : ℕ) → has_condition s a b c d ≡ true → (i : ℕ) × (i < constraint_count s) × (condition_field s i ≡ on a b c d)
unfolding has_condition condition_field
has_where s a b c d e =
    let w = any_where _ (constraint_count s) e in
    let i = w.0 in
    let first = and_parts (eqb (owner_field s i) a) _ w.2 in
    let second = and_parts (eqb (own_slot_field s i) b) _ first.1 in
    let third = and_parts (eqb (other_field s i) c) _ second.1 in (
      i,
      w.1,
      ap₂ (λ (x y : ℕ). on x y (other_field s i) (other_slot_field s i)) (eqb-true (owner_field s i) a first.0) (eqb-true (own_slot_field s i) b second.0)
          ∙ ap₂ (λ (x y : ℕ). on a b x y) (eqb-true (other_field s i) c third.0) (eqb-true (other_slot_field s i) d third.1),
    )

pub has-at : (s : List ℕ) (i : ℕ) → i < constraint_count s → has_condition s (owner_field s i) (own_slot_field s i) (other_field s i) (other_slot_field s i) ≡ true
unfolding has_condition
has-at s i l =
    any_at _ (constraint_count s) i l
    (and_holds (eq-eqb (owner_field s i) (owner_field s i) refl)
    (and_holds (eq-eqb (own_slot_field s i) (own_slot_field s i) refl)
    (and_holds (eq-eqb (other_field s i) (other_field s i) refl) (eq-eqb (other_slot_field s i) (other_slot_field s i) refl))))

-- The conditions in order, level by level.
module _ (s : List ℕ) where
  abbrev one : (a b c d : ℕ) → List Condition
  one a b c d = cond (has_condition s a b c d) (on a b c d ∷ []) []

  abbrev with_other : (a b c : ℕ) → List Condition
  with_other a b c = joined (λ d. one a b c d) (suc (slot_count s))

  abbrev with_own : (a b : ℕ) → List Condition
  with_own a b = joined (λ c. with_other a b c) (suc (bidder_count s))

  abbrev with_owner : ℕ → List Condition
  with_owner a = joined (λ b. with_own a b) (suc (slot_count s))

  -- who is in it is a condition of the sheet
  one_mem : (a b c d : ℕ) (t : Bool) → has_condition s a b c d ≡ t → (q : Condition) → Memᴰ q (cond t (on a b c d ∷ []) []) →
      (has_condition s a b c d ≡ true) × (q ≡ on a b c d)
  one_mem a b c d true e q m = (e, mathlib.Core.List.Memᴰ.eq_of_singleton m)
  one_mem a b c d false e q m = absurd (mathlib.Core.List.Memᴰ.not-nil m)

  one_where : (a b c d : ℕ) (q : Condition) → Memᴰ q (one a b c d) → (i : ℕ) × (i < constraint_count s) × (condition_field s i ≡ q)
  one_where a b c d q m =
      let found = one_mem a b c d (has_condition s a b c d) refl q m in
      let w = has_where s a b c d found.0 in
      (w.0, w.1, w.2 ∙ sym found.1)

  pub in_order_where : (q : Condition) → Memᴰ q (conditions_in_order s) → (i : ℕ) × (i < constraint_count s) × (condition_field s i ≡ q)
  unfolding conditions_in_order
  in_order_where q m =
      let owner = mem-joined (λ a. with_owner a) (suc (bidder_count s)) q m in
      let own = mem-joined (λ b. with_own owner.0 b) (suc (slot_count s)) q owner.2 in
      let other = mem-joined (λ c. with_other owner.0 own.0 c) (suc (bidder_count s)) q own.2 in
      let others = mem-joined (λ d. one owner.0 own.0 other.0 d) (suc (slot_count s)) q other.2 in
      one_where owner.0 own.0 other.0 others.0 q others.2

  -- and each condition of an accepted sheet is in it, since its numbers are in range
  pub in_order-has : Accepted s → (i : ℕ) → i < constraint_count s → Memᴰ (condition_field s i) (conditions_in_order s)
  unfolding conditions_in_order condition_field
  in_order-has ok i l =
      let fits = (accepted-sheet s ok).constraints i l in
      let a = owner_field s i in
      let b = own_slot_field s i in
      let c = other_field s i in
      let d = other_slot_field s i in
      let here : Memᴰ (on a b c d) (one a b c d) =
      subst (λ (t : Bool). Memᴰ (on a b c d) (cond t (on a b c d ∷ []) [])) (sym (has-at s i l)) (mathlib.Core.List.Memᴰ.head refl) in
      joined-mem (λ a. with_owner a) (suc (bidder_count s)) a (on a b c d) (let h = fits.most_owner in omega arith)
      (joined-mem (λ b. with_own a b) (suc (slot_count s)) b (on a b c d) (let h = fits.most_own in omega arith)
      (joined-mem (λ c. with_other a b c) (suc (bidder_count s)) c (on a b c d) (let h = fits.most_other in omega arith)
      (joined-mem (λ d. one a b c d) (suc (slot_count s)) d (on a b c d) (let h = fits.most_others in omega arith) here)))

  -- they rise: each level stays within the step of the level above
  module _ (few : bidder_count s ≤ 64) (short : slot_count s ≤ 16) where
    one_rises : (a b c d : ℕ) (t : Bool) → Rising number_of (fields_number a b c d) (fields_number a b c (suc d)) (cond t (on a b c d ∷ []) [])
    unfolding number_of
    one_rises a b c d true = (omega arith, omega arith)
    one_rises a b c d false = omega arith

    other_rises : (a b c : ℕ) → Rising number_of (fields_number a b c 0) (fields_number a b (suc c) 0) (with_other a b c)
    other_rises a b c =
        rising_higher number_of (fields_number a b c 0) (fields_number a b c (suc (slot_count s))) (fields_number a b (suc c) 0) (with_other a b c) (omega arith)
        (rising-joined number_of (λ d. one a b c d) (λ d. fields_number a b c d) (suc (slot_count s)) (λ d l. one_rises a b c d (has_condition s a b c d)))

    own_rises : (a b : ℕ) → Rising number_of (fields_number a b 0 0) (fields_number a (suc b) 0 0) (with_own a b)
    own_rises a b =
        rising_higher number_of (fields_number a b 0 0) (fields_number a b (suc (bidder_count s)) 0) (fields_number a (suc b) 0 0) (with_own a b) (omega arith)
        (rising-joined number_of (λ c. with_other a b c) (λ c. fields_number a b c 0) (suc (bidder_count s)) (λ c l. other_rises a b c))

    owner_rises : (a : ℕ) → Rising number_of (fields_number a 0 0 0) (fields_number (suc a) 0 0 0) (with_owner a)
    owner_rises a =
        rising_higher number_of (fields_number a 0 0 0) (fields_number a (suc (slot_count s)) 0 0) (fields_number (suc a) 0 0 0) (with_owner a) (omega arith)
        (rising-joined number_of (λ b. with_own a b) (λ b. fields_number a b 0 0) (suc (slot_count s)) (λ b l. own_rises a b))

    in_order_rises : Rising number_of 0 (fields_number (suc (bidder_count s)) 0 0 0) (conditions_in_order s)
    unfolding conditions_in_order
    in_order_rises = rising-joined number_of (λ a. with_owner a) (λ a. fields_number a 0 0 0) (suc (bidder_count s)) (λ a l. owner_rises a)

-- Sheets that list the same conditions have the same in order.
pub conditions-same : (s t : List ℕ) → bidder_count s ≡ bidder_count t → slot_count s ≡ slot_count t →
    ((owner own other others : ℕ) → has_condition s owner own other others ≡ has_condition t owner own other others) → conditions_in_order s ≡ conditions_in_order t
unfolding conditions_in_order
conditions-same s t n m same =
    joined_same (λ a. with_owner s a) (λ a. shown a (bidder_count s) (slot_count s)) (suc (bidder_count s))
    (λ a l.
    joined_same (λ b. with_own s a b) _ (suc (slot_count s))
    (λ b l.
    joined_same (λ c. with_other s a b c) _ (suc (bidder_count s))
    (λ c l.
    joined_same (λ d. one s a b c d) _ (suc (slot_count s))
    (λ d l. ap (λ (x : Bool). cond x (on a b c d ∷ []) []) (same a b c d)))))
    ∙ ap₂ (λ (n m : ℕ). joined (λ a. shown a n m) (suc n)) n m
  where
    shown : (a n m : ℕ) → List Condition
    shown a n m = joined (λ b. joined (λ c. joined (λ d. one t a b c d) (suc m)) (suc n)) (suc m)

-- the condition that a number says, byte by byte
abbrev condition_with : ℕ → Condition
condition_with x = on (x / 16777216 % 256) (x / 65536 % 256) (x / 256 % 256) (x % 256)

module _ (s : List ℕ) (ok : Accepted s) where
  facts : AcceptedSheet s
  facts = accepted-sheet s ok

  pub rises : Rising number_of 0 (fields_number (suc (bidder_count s)) 0 0 0) (conditions_in_order s)
  rises = in_order_rises s facts.counts.most_bidders facts.counts.most_slots

  pub condition_from : (k : ℕ) → k < length (conditions_in_order s) →
      (i : ℕ) × (i < constraint_count s) × (get_or (conditions_in_order s) k blank_condition ≡ condition_field s i)
  condition_from k l =
      let w = in_order_where s (get_or (conditions_in_order s) k blank_condition) (at_mem (conditions_in_order s) blank_condition k l) in
      (w.0, w.1, sym w.2)

  pub condition_kept : (i : ℕ) → i < constraint_count s →
      (k : ℕ) × (k < length (conditions_in_order s)) × (get_or (conditions_in_order s) k blank_condition ≡ condition_field s i)
  condition_kept i l = mem-at (conditions_in_order s) blank_condition (condition_field s i) (in_order-has s ok i l)

  pub conditions-rise : (k : ℕ) → suc k < length (conditions_in_order s) →
      number_of (get_or (conditions_in_order s) k blank_condition) < number_of (get_or (conditions_in_order s) (suc k) blank_condition)
  conditions-rise = rising-next number_of 0 (fields_number (suc (bidder_count s)) 0 0 0) (conditions_in_order s) blank_condition rises

  pub few-conditions : length (conditions_in_order s) ≤ constraint_count s
  few-conditions =
      rising-few number_of (condition_field s) (constraint_count s) 0 (fields_number (suc (bidder_count s)) 0 0 0) (conditions_in_order s) rises
      (λ q m. let w = in_order_where s q m in (w.0, w.1, sym w.2))

  -- a rising row of conditions that are the sheet's, all of them, is the conditions in order
  only_in_order : (f : ℕ → Condition) (k hi : ℕ) → ((i : ℕ) → i < k → number_of (f i) < hi) → ((i j : ℕ) → i < j → j < k → number_of (f i) < number_of (f j)) →
      ((i : ℕ) → i < k → (j : ℕ) × (j < constraint_count s) × (f i ≡ condition_field s j)) →
      ((j : ℕ) → j < constraint_count s → (i : ℕ) × (i < k) × (f i ≡ condition_field s j)) →
      row f k ≡ conditions_in_order s
  only_in_order f k hi low rise from kept =
      rising_equal number_of 0 hi 0 (fields_number (suc (bidder_count s)) 0 0 0) (row f k) (conditions_in_order s)
      (rising-row number_of f k hi low rise) rises
      (λ q m.
      let here = mem-row f k q m in
      let there = from here.0 here.1 in
      mathlib.Core.List.Memᴰ.cast (here.2 ∙ there.2) (in_order-has s ok there.0 there.1))
      (λ q m.
      let there = in_order_where s q m in
      let here = kept there.0 there.1 in
      mathlib.Core.List.Memᴰ.cast (sym there.2 ∙ sym here.2) (row-mem f k here.0 here.1))

  -- the number of a condition, and how high it is
  number-field : (i : ℕ) → number_of (condition_field s i) ≡ order_number s i
  unfolding number_of condition_field order_number
  number-field i = refl

  number-low : (i : ℕ) → i < constraint_count s → order_number s i < 2_147_483_648
  unfolding order_number
  number-low i l =
      let fits = facts.constraints i l in
      let n = facts.counts.most_bidders in
      let m = facts.counts.most_slots in
      let a = fits.most_owner in
      let b = fits.most_own in
      let c = fits.most_other in
      let d = fits.most_others in
      omega arith

  -- a number of the sheet's, byte by byte
  record Fields (x i : ℕ) : Type 0 where
    pub owner : x / 16777216 % 256 ≡ owner_field s i
    pub own : x / 65536 % 256 ≡ own_slot_field s i
    pub other : x / 256 % 256 ≡ other_field s i
    pub others : x % 256 ≡ other_slot_field s i

  fields_read : (x i : ℕ) → i < constraint_count s → x ≡ order_number s i → Fields x i
  unfolding order_number
  fields_read x i l e =
      let fits = facts.constraints i l in
      let n = facts.counts.most_bidders in
      let m = facts.counts.most_slots in
      let a = fits.most_owner in
      let b = fits.most_own in
      let c = fits.most_other in
      let d = fits.most_others in
      record { owner = omega arith; own = omega arith; other = omega arith; others = omega arith }

  condition_read : (x i : ℕ) → i < constraint_count s → x ≡ order_number s i → condition_with x ≡ condition_field s i
  unfolding condition_field
  condition_read x i l e =
      let f = fields_read x i l e in
      ap₂ (λ (a b : ℕ). on a b (x / 256 % 256) (x % 256)) f.owner f.own
      ∙ ap₂ (λ (c d : ℕ). on (owner_field s i) (own_slot_field s i) c d) f.other f.others

  -- where they rise they stand so already,
  pub conditions-rising : ((k : ℕ) → suc k < constraint_count s → order_number s k < order_number s (suc k)) → conditions_in_order s ≡ row (condition_field s) (constraint_count s)
  conditions-rising rise =
      sym
      (only_in_order (condition_field s) (constraint_count s) 2_147_483_648
      (λ i l. let e = number-field i in let low = number-low i l in omega arith)
      (λ i j l h.
      let e = number-field i in
      let e' = number-field j in
      let up = rising_over (order_number s) (constraint_count s) rise i j l h in
      omega arith)
      (λ i l. (i, l, refl))
      (λ j l. (j, l, refl)))

  -- and so in version 2
  pub conditions_two : version s ≡ 2 → conditions_in_order s ≡ row (condition_field s) (constraint_count s)
  conditions_two two = conditions-rising (facts.rising two)

  -- The engine's numbers: read from the sheet, then sorted, then each once.
  module _ (read : List ℕ) (as_read : (i : ℕ) → i < constraint_count s → get_or read i 0 ≡ order_number s i) where
    -- each of their bytes is a field, so it is in range,
    pub digits_low : DigitsBelow 0 (constraint_count s) read (slot_count s + 1)
        × DigitsBelow 8 (constraint_count s) read (bidder_count s + 1)
        × DigitsBelow 16 (constraint_count s) read (slot_count s + 1)
        × DigitsBelow 24 (constraint_count s) read (bidder_count s + 1)
    unfolding digit_of
    digits_low = (
      λ i l. let e = fields_read (get_or read i 0) i l (as_read i l) in let h = (facts.constraints i l).most_others in omega arith,
      λ i l. let e = fields_read (get_or read i 0) i l (as_read i l) in let h = (facts.constraints i l).most_other in omega arith,
      λ i l. let e = fields_read (get_or read i 0) i l (as_read i l) in let h = (facts.constraints i l).most_own in omega arith,
      λ i l. let e = fields_read (get_or read i 0) i l (as_read i l) in let h = (facts.constraints i l).most_owner in omega arith,
    )

    module _ (sorted : List ℕ) (same : Sorted (constraint_count s) read sorted) where
      -- a number that is sorted is one of the sheet's,
      sorted_from : (x : ℕ) → Among (constraint_count s) sorted x → (j : ℕ) × (j < constraint_count s) × (x ≡ order_number s j)
      sorted_from x among = let w = same.back x among in (w.0, w.1, sym w.2 ∙ as_read w.0 w.1)

      -- so none is 0,
      pub numbers_some : (i : ℕ) → i < constraint_count s → 0 < get_or sorted i 0
      unfolding order_number
      numbers_some i l =
          let w = sorted_from (get_or sorted i 0) (i, l, refl) in
          let e = w.2 in
          let owner = (facts.constraints w.0 w.1).some_owner in
          omega arith

      -- and each once they are those of the conditions in order
      pub ordered_numbers : (ordered : List ℕ) (k : ℕ) → EachOnce (constraint_count s) sorted k ordered → InSheetOrder s ordered k
      unfolding numbers_bytes number_bytes quad_bytes
      ordered_numbers ordered k once =
          let here : ℕ → Condition = λ i. condition_with (get_or ordered i 0) in
          let from : (i : ℕ) → i < k → (j : ℕ) × (j < constraint_count s) × (get_or ordered i 0 ≡ order_number s j) =
          (λ i l. sorted_from (get_or ordered i 0) (once.back (get_or ordered i 0) (i, l, refl))) in
          let numbered : (i : ℕ) → i < k → number_of (condition_with (get_or ordered i 0)) ≡ get_or ordered i 0 =
          (λ i l. let w = from i l in ap number_of (condition_read (get_or ordered i 0) w.0 w.1 w.2) ∙ number-field w.0 ∙ sym w.2) in
          let whole : row here k ≡ conditions_in_order s =
          only_in_order here k 2_147_483_648
          (λ i l. let w = from i l in let e = w.2 in let n = numbered i l in let low = number-low w.0 w.1 in omega arith)
          (λ i j l h. let up = once.rise i j l h in let n = numbered i (omega arith) in let n' = numbered j h in omega arith)
          (λ i l. let w = from i l in (w.0, w.1, condition_read (get_or ordered i 0) w.0 w.1 w.2))
          (λ j l.
          let w = once.there (order_number s j) (same.there (order_number s j) (j, l, as_read j l)) in
          (w.0, w.1, condition_read (get_or ordered w.0 0) j l w.2)) in
          record {
            sized = once.sized;
            as_many = sym (length-row here k) ∙ ap length whole;
            bytes = sym (quads-row here k) ∙ ap quads whole;
          }
