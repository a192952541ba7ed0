-- The numbers of the call: which it gives, and what a call without one is known to be. Assumes nothing.
use Prim.Native.Nat.{ℕ, suc, ◌<◌, ◌≤◌}
use borrow.Author.Tests.{eq-eqb, ne_eqb, eqb-true, lt-ltb, le-ltb, ltb-false, not-false}
use mathlib.Core.Bool.{Bool, true, false, not, ◌||◌}
use mathlib.Core.List.{List}
use mathlib.Core.Path.{◌≡◌, refl, ◌∙◌, ap}
use lib.Dec.{eqb, ltb}
use lib.ListN.{length}
use Rattle.basis.specs.First.{◌when◌otherwise◌, or_else}
use Rattle.basis.specs.Tests.{any_below}
use Rattle.basis.proofs.FirstLaws.{or_else-none, or_else_right, when_none}
use Rattle.basis.proofs.TestLaws.{or_left, or_right, or_none, or_fails, not_holds, any_at, any_none, none_any}
use Rattle.slot_terms.specs.SlotTerms.{size_refusal}
use Rattle.bidder_sets.specs.BidderSets.{numbers_wrong, sets_end, rivals_of}
use Rattle.share_page.specs.SharePage.{names, order_written, sets_refusal, share_refusal}

-- 23 and 24 of the rival sets
module _ (n : ℕ) (sets : List ℕ) where
  abbrev not_sets_of : Bool
  not_sets_of = not (eqb (sets_end sets n) (length sets)) || any_below (λ i. numbers_wrong n (rivals_of sets (suc i))) n

  pub sets_not : (sets_end sets n ≡ length sets → ⊥) → sets_refusal n sets ≡ 23
  unfolding sets_refusal
  sets_not h = simp (or_left (any_below (λ i. numbers_wrong n (rivals_of sets (suc i))) n) (not_holds (ne_eqb (sets_end sets n) (length sets) h)))

  pub sets_wrong : (i : ℕ) → i < n → numbers_wrong n (rivals_of sets (suc i)) ≡ true → sets_refusal n sets ≡ 23
  unfolding sets_refusal
  sets_wrong i l wrong =
      simp (or_right (not (eqb (sets_end sets n) (length sets))) (any_at (λ i. numbers_wrong n (rivals_of sets (suc i))) n i l wrong))

  module _ (exactly : sets_end sets n ≡ length sets) (right : (i : ℕ) → i < n → numbers_wrong n (rivals_of sets (suc i)) ≡ false) where
    sets_right : not_sets_of ≡ false
    sets_right =
        or_fails (ap not (eq-eqb (sets_end sets n) (length sets) exactly)) (none_any (λ i. numbers_wrong n (rivals_of sets (suc i))) n right)

    pub sets-own : (i : ℕ) → i < n → names sets (suc i) (suc i) ≡ true → sets_refusal n sets ≡ 24
    unfolding sets_refusal
    sets-own i l own = simp (sets_right, any_at (λ i. names sets (suc i) (suc i)) n i l own)

    pub sets-none : ((i : ℕ) → i < n → names sets (suc i) (suc i) ≡ false) → sets_refusal n sets ≡ 0
    unfolding sets_refusal
    sets-none other = simp (sets_right, none_any (λ i. names sets (suc i) (suc i)) n other)

  pub sets-known : sets_refusal n sets ≡ 0 →
      (sets_end sets n ≡ length sets)
      × ((i : ℕ) → i < n → numbers_wrong n (rivals_of sets (suc i)) ≡ false)
      × ((i : ℕ) → i < n → names sets (suc i) (suc i) ≡ false)
  unfolding sets_refusal
  sets-known e =
      let first = when_none 22 not_sets_of _ e in
      let second = when_none 23 (any_below (λ i. names sets (suc i) (suc i)) n) 0 first.1 in
      let parts = or_none (not (eqb (sets_end sets n) (length sets))) (any_below (λ i. numbers_wrong n (rivals_of sets (suc i))) n) first.0 in (
        eqb-true (sets_end sets n) (length sets) (not-false (eqb (sets_end sets n) (length sets)) parts.0),
        any_none (λ i. numbers_wrong n (rivals_of sets (suc i))) n parts.1,
        any_none (λ i. names sets (suc i) (suc i)) n second.0,
      )

-- The call's numbers.
module _ (n m : ℕ) (members sets out : List ℕ) where
  abbrev many : ℕ
  many = length (order_written n m members sets)

  abbrev room_number : ℕ
  room_number = 19 when ltb (length out) many otherwise 0

  abbrev sets_number : ℕ
  sets_number = 23 when numbers_wrong n members otherwise (or_else (sets_refusal n sets) room_number)

  pub size-first : (k : ℕ) → size_refusal n m ≡ suc k → share_refusal n m members sets out ≡ suc k
  unfolding share_refusal
  size-first k e = ap (λ (a : ℕ). or_else a sets_number) e

  module _ (fits : size_refusal n m ≡ 0) where
    size-passed : share_refusal n m members sets out ≡ sets_number
    unfolding share_refusal
    size-passed = or_else_right (size_refusal n m) _ fits

    pub members_wrong : numbers_wrong n members ≡ true → share_refusal n m members sets out ≡ 23
    members_wrong wrong = size-passed ∙ ap (λ (t : Bool). 23 when t otherwise (or_else (sets_refusal n sets) room_number)) wrong

    -- where the rival sets have a number, it is 23, or 24 and the members have none
    pub sets_first : (k : ℕ) → numbers_wrong n members ≡ false → sets_refusal n sets ≡ suc k → share_refusal n m members sets out ≡ suc k
    sets_first k right e =
        size-passed
        ∙ ap (λ (t : Bool). 23 when t otherwise (or_else (sets_refusal n sets) room_number)) right
        ∙ ap (λ (a : ℕ). or_else a room_number) e

    pub sets-twenty_three : sets_refusal n sets ≡ 23 → share_refusal n m members sets out ≡ 23
    sets-twenty_three e = by_test (numbers_wrong n members) refl
      where
        by_test : (t : Bool) → numbers_wrong n members ≡ t → share_refusal n m members sets out ≡ 23
        by_test true wrong = members_wrong wrong
        by_test false right = sets_first 22 right e

    module _ (right : numbers_wrong n members ≡ false) (known : sets_refusal n sets ≡ 0) where
      sets-passed : share_refusal n m members sets out ≡ room_number
      sets-passed =
          size-passed
          ∙ ap (λ (t : Bool). 23 when t otherwise (or_else (sets_refusal n sets) room_number)) right
          ∙ or_else_right (sets_refusal n sets) _ known

      pub nineteen : length out < many → share_refusal n m members sets out ≡ 19
      nineteen short = sets-passed ∙ ap (λ (t : Bool). 19 when t otherwise 0) (lt-ltb (length out) many short)

      pub answered : many ≤ length out → share_refusal n m members sets out ≡ 0
      answered room = sets-passed ∙ ap (λ (t : Bool). 19 when t otherwise 0) (le-ltb (length out) many room)

  pub passed-all : share_refusal n m members sets out ≡ 0 →
      (size_refusal n m ≡ 0) × (numbers_wrong n members ≡ false) × (sets_refusal n sets ≡ 0) × (many ≤ length out)
  unfolding share_refusal
  passed-all e =
      let first = or_else-none (size_refusal n m) _ e in
      let second = when_none 22 (numbers_wrong n members) _ first.1 in
      let third = or_else-none (sets_refusal n sets) room_number second.1 in
      let fourth = when_none 18 (ltb (length out) many) 0 third.1 in
      (first.0, second.0, third.0, ltb-false (length out) many fourth.0)
