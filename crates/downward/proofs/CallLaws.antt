-- The cases of the call: a refused sheet, a bidder that the sheet does not have, and a tested list. Assumes nothing.
use Prim.Native.Nat.{ℕ, zero, suc, ◌<◌, ◌≤◌}
use borrow.Author.Tests.{eq-eqb, ne_eqb, lt-ltb, le-ltb}
use mathlib.Core.Bool.{Bool, true, false, ◌||◌}
use mathlib.Core.List.{List}
use mathlib.Core.Path.{◌≡◌, refl, sym, ◌∙◌, ap}
use lib.Dec.{eqb, ltb}
use Rattle.basis.specs.First.{◌when◌otherwise◌}
use Rattle.basis.proofs.FirstLaws.{or_else_left, or_else_right}
use Rattle.basis.proofs.TestLaws.{or_left, or_right, or_fails}
use Rattle.refusal.specs.declared.Refusal.{Refusal}
use Rattle.refusal.specs.Numbers.{number_of}
use Rattle.std.specs.Prelude.{Result}
use Rattle.std.specs.Result.{IsErrAnd}
use Rattle.std.proofs.lemmas.Result.{err_from_is_err_and}
use Rattle.sheet.specs.Refusal.{refusal_of, Accepted}
use Rattle.sheet.specs.Sheet.{bidder_count}
use Rattle.sheet.specs.Round.{round_of}
use Rattle.downward.specs.Downward.{downward}
use Rattle.downward.specs.Call.{tested_in, test_refusal, tested_for, tested_of}

-- what `?` passes on is the number alone
pub alone : (r : Result Bool Refusal) (refusal : Refusal) → IsErrAnd r (λ y. y ≡ refusal) → tested_in r ≡ record { refusal = number_of refusal; yes = false }
alone r refusal is = let p = err_from_is_err_and r is in rw (p.1, p.2)

-- a number above 0 is returned alone
number-alone : (k : ℕ) (s : List ℕ) (i : ℕ) → (k ≡ 0 → ⊥) → tested_for k s i ≡ record { refusal = k; yes = false }
unfolding tested_for
number-alone zero s i h = absurd (h refl)
number-alone (suc k) s i h = refl

module _ (s : List ℕ) (i : ℕ) where
  pub sheet-refused : (answer : ℕ) → answer ≡ refusal_of s → (answer ≡ 0 → ⊥) → record { refusal = answer; yes = false } ≡ tested_of s i
  unfolding tested_of test_refusal
  sheet-refused answer e h =
      let number : answer ≡ test_refusal s i = e ∙ sym (or_else_left (refusal_of s) _ (λ z. h (e ∙ z))) in
      ap (λ (k : ℕ). record { refusal = k; yes = false }) number ∙ sym (number-alone (test_refusal s i) s i (λ z. h (number ∙ z)))

  -- 16: the bidder is 0 or above n
  bidder-refused : Accepted s → (eqb i 0 || ltb (bidder_count s) i) ≡ true → record { refusal = 16; yes = false } ≡ tested_of s i
  unfolding tested_of test_refusal tested_for
  bidder-refused ok e =
      let number : test_refusal s i ≡ 16 = or_else_right (refusal_of s) _ ok ∙ ap (λ (t : Bool). 16 when t otherwise 0) e in
      sym (ap (λ (k : ℕ). tested_for k s i) number)

  pub no_bidder : Accepted s → i ≡ 0 → record { refusal = 16; yes = false } ≡ tested_of s i
  no_bidder ok z = bidder-refused ok (or_left (ltb (bidder_count s) i) (eq-eqb i 0 z))

  pub bidder-above : Accepted s → bidder_count s < i → record { refusal = 16; yes = false } ≡ tested_of s i
  bidder-above ok l = bidder-refused ok (or_right (eqb i 0) (lt-ltb (bidder_count s) i l))

  pub list_tested : Accepted s → (i ≡ 0 → ⊥) → i ≤ bidder_count s → record { refusal = 0; yes = downward (round_of s) i } ≡ tested_of s i
  unfolding tested_of test_refusal tested_for
  list_tested ok some most =
      let number : test_refusal s i ≡ 0
      = or_else_right (refusal_of s) _ ok
      ∙ ap (λ (t : Bool). 16 when t otherwise 0) (or_fails (ne_eqb i 0 some) (le-ltb (bidder_count s) i most)) in
      sym (ap (λ (k : ℕ). tested_for k s i) number)
