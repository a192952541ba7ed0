-- What the number of the first failed test says: it is 1, 2, 3 or 4 exactly where the tests before pass and that one fails, and an answer is told by
-- its number. Assumes nothing.
use Prim.Native.Nat.{ℕ, zero, suc}
use borrow.Author.Tests.{eq-eqb, eqb-true, lt-ltb, ltb-true}
use mathlib.Core.Bool.{Bool, true, false}
use mathlib.Core.Path.{◌≡◌, refl, sym, ◌∙◌, ap, ap₂}
use native.Mathlib.Omega.{arith}
use lib.Dec.{ltb}
use Rattle.basis.specs.First.{◌when◌otherwise◌}
use Rattle.sheet.specs.declared.Page.{Page}
use Rattle.sheet.specs.declared.Round.{Round}
use Rattle.sheet.specs.Round.{bid_of, floor_of}
use Rattle.auction.specs.declared.Eligibility.{Eligibility}
use Rattle.auction.specs.declared.Eligibility.TheVariants.{Eligible, Placed, EarlierWinners, Own, BelowFloor}
use Rattle.auction.specs.Page.{put, placed}
use Rattle.auction.specs.Broken.{breaks_own}
use Rattle.auction.specs.Eligible.{breaks_earlier, first_failed, failed_test, eligible}
use Rattle.auction.proofs.BrokenLaws.{first_is_four}
use Rattle.demands.specs.Demands.{AnsweredInOrder}

-- the first of four tests that fails
abbrev first_of : Bool → Bool → Bool → Bool → ℕ
first_of x y z t = 1 when x otherwise 2 when y otherwise 3 when z otherwise 4 when t otherwise 0

first_is_one : (x y z t : Bool) → first_of x y z t ≡ 1 → x ≡ true
first_is_one true y z t e = refl
first_is_one false true z t e = absurd (omega arith)
first_is_one false false true t e = absurd (omega arith)
first_is_one false false false true e = absurd (omega arith)
first_is_one false false false false e = absurd (omega arith)

first_is_two : (x y z t : Bool) → first_of x y z t ≡ 2 → (x ≡ false) × (y ≡ true)
first_is_two true y z t e = absurd (omega arith)
first_is_two false true z t e = (refl, refl)
first_is_two false false true t e = absurd (omega arith)
first_is_two false false false true e = absurd (omega arith)
first_is_two false false false false e = absurd (omega arith)

first_is_three : (x y z t : Bool) → first_of x y z t ≡ 3 → (x ≡ false) × (y ≡ false) × (z ≡ true)
first_is_three true y z t e = absurd (omega arith)
first_is_three false true z t e = absurd (omega arith)
first_is_three false false true t e = (refl, refl, refl)
first_is_three false false false true e = absurd (omega arith)
first_is_three false false false false e = absurd (omega arith)

-- the answer with a number
abbrev answer_with : ℕ → Eligibility
answer_with zero = Eligible
answer_with (suc zero) = Placed
answer_with (suc (suc zero)) = EarlierWinners
answer_with (suc (suc (suc zero))) = Own
answer_with (suc (suc (suc (suc n)))) = BelowFloor

told : (a : Eligibility) → answer_with (failed_test a) ≡ a
unfolding failed_test
told Eligible = refl
told Placed = refl
told EarlierWinners = refl
told Own = refl
told BelowFloor = refl

same_answer : (a b : Eligibility) → failed_test a ≡ failed_test b → a ≡ b
same_answer a b e = sym (told a) ∙ ap answer_with e ∙ told b

pub answered-in_order : (r : Round) (p : Page) (k b : ℕ) (answer : Eligibility) → failed_test answer ≡ first_failed r p k b → AnsweredInOrder r p k b answer
unfolding failed_test first_failed eligible
answered-in_order r p k b answer e =
    let x = placed p b in
    let y = breaks_earlier r p (put p k b) in
    let z = breaks_own r (put p k b) b in
    let t = ltb (bid_of r b) (floor_of r k) in
    record {
      has_slot = (
        λ a. first_is_one x y z t (sym e ∙ ap failed_test a),
        λ h. same_answer answer Placed (e ∙ ap (λ (u : Bool). first_of u y z t) h),
      );
      earlier_winners = (
        λ a. first_is_two x y z t (sym e ∙ ap failed_test a),
        λ h. same_answer answer EarlierWinners (e ∙ ap₂ (λ (u v : Bool). first_of u v z t) h.0 h.1),
      );
      own = (
        λ a. first_is_three x y z t (sym e ∙ ap failed_test a),
        λ h. same_answer answer Own (e ∙ ap₂ (λ (u v : Bool). first_of u v z t) h.0 h.1 ∙ ap (λ (w : Bool). first_of false false w t) h.2),
      );
      below_floor = (
        λ a.
            let four = first_is_four x y z t (sym e ∙ ap failed_test a) in
            (four.0, four.1, four.2, ltb-true (bid_of r b) (floor_of r k) four.3),
        λ h.
            same_answer answer BelowFloor
            (e
            ∙ ap₂ (λ (u v : Bool). first_of u v z t) h.0 h.1
            ∙ ap₂ (λ (u v : Bool). first_of false false u v) h.2 (lt-ltb (bid_of r b) (floor_of r k) h.3)),
      );
      none_fails = (
        λ a. eq-eqb (first_of x y z t) 0 (sym e ∙ ap failed_test a),
        λ h. same_answer answer Eligible (e ∙ eqb-true (first_of x y z t) 0 h),
      );
    }
