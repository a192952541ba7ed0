-- Which number the faults of the effects and of the bids give: the rule's own where any field is at fault. Assumes nothing.
use Prim.Native.Nat.{ℕ, zero, suc, ◌%◌, ◌≤◌}
use borrow.Author.Tests.{eq-eqb, lt-ltb, ltb-true, ltb-false}
use mathlib.Core.Bool.{Bool, true, false, not, ◌||◌}
use mathlib.Core.List.{List}
use mathlib.Core.Logic.{⊎_elim}
use mathlib.Core.Path.{◌≡◌, refl, sym, ◌∙◌, ap}
use native.Mathlib.Nat.{mod-one}
use native.Mathlib.Omega.{arith}
use lib.Dec.{eqb, ltb}
use Rattle.basis.specs.First.{◌when◌otherwise◌, first_over}
use Rattle.basis.specs.Tests.{any_below}
use Rattle.basis.proofs.FirstLaws.{first_of_tests, first-all-none}
use Rattle.basis.proofs.TestLaws.{holds_or_fails, or_none}
use Rattle.sheet.specs.Sheet.{tick_field, effect_field, bid_field}
use Rattle.sheet.specs.Refusal.{effect_before, effect_refusal, bid_refusal, tick_refusal}

-- what the passes test of the effect of slot k + 1 and of the bid of bidder i + 1
abbrev pub effect_faulty : List ℕ → ℕ → Bool
effect_faulty s k = eqb (effect_field s (suc k)) 0 || ltb (effect_before s (suc k)) (effect_field s (suc k))

abbrev pub bid_high : List ℕ → ℕ → Bool
bid_high s i = ltb 1_000_000_000 (bid_field s (suc i))

abbrev pub bid_off : List ℕ → ℕ → Bool
bid_off s i = not (eqb (bid_field s (suc i) % tick_field s) 0)

module _ (s : List ℕ) where
  -- the rule's whole test of an effect
  abbrev effect_refused : ℕ → Bool
  effect_refused k =
      eqb (effect_field s (suc k)) 0
      || (ltb 1_000_000 (effect_field s (suc k)) || ltb (effect_before s (suc k)) (effect_field s (suc k)))

  -- effects that do not rise from the limit stay within it,
  within_the_limit : (n : ℕ) → any_below (effect_faulty s) n ≡ false → effect_before s (suc n) ≤ 1_000_000
  unfolding any_below
  within_the_limit zero e = omega arith
  within_the_limit (suc n) e =
      let both = or_none (any_below (effect_faulty s) n) (effect_faulty s n) e in
      let before = within_the_limit n both.0 in
      let fell = ltb-false (effect_before s (suc n)) (effect_field s (suc n)) (or_none (eqb (effect_field s (suc n)) 0) (ltb (effect_before s (suc n)) (effect_field s (suc n))) both.1).1 in
      omega arith

  -- so the first above the limit rises too, and the passes need no test of the limit
  same_effects : (n : ℕ) → any_below effect_refused n ≡ any_below (effect_faulty s) n
  unfolding any_below
  same_effects zero = refl
  same_effects (suc n) =
      ap (λ (x : Bool). x || effect_refused n) (same_effects n)
      ∙ last (any_below (effect_faulty s) n) (within_the_limit n)
    where
      last : (found : Bool) → (found ≡ false → effect_before s (suc n) ≤ 1_000_000) → (found || effect_refused n) ≡ (found || effect_faulty s n)
      last true low = refl
      last false low =
          let before = low refl in
          ⊎_elim
          (λ (h : ltb 1_000_000 (effect_field s (suc n)) ≡ true).
          let above = ltb-true 1_000_000 (effect_field s (suc n)) h in
          simp (h, lt-ltb (effect_before s (suc n)) (effect_field s (suc n)) (omega arith)))
          (λ (h : ltb 1_000_000 (effect_field s (suc n)) ≡ false). simp h)
          (holds_or_fails (ltb 1_000_000 (effect_field s (suc n))))

  -- the number of the effects and those of the bids, by what a pass over them found
  pub effects-number : (n : ℕ) {found : Bool} → found ≡ any_below (effect_faulty s) n → (8 when found otherwise 0) ≡ first_over (λ k. effect_refusal s (suc k)) n
  unfolding effect_refusal
  effects-number n e = ap (λ (x : Bool). 8 when x otherwise 0) (e ∙ sym (same_effects n)) ∙ sym (first_of_tests 8 effect_refused n)

  pub bids-number : (n : ℕ) {found : Bool} → found ≡ any_below (bid_high s) n → (9 when found otherwise 0) ≡ first_over (λ i. bid_refusal s (suc i)) n
  unfolding bid_refusal
  bids-number n e = ap (λ (x : Bool). 9 when x otherwise 0) e ∙ sym (first_of_tests 9 (bid_high s) n)

  pub ticks-number : (n : ℕ) {found : Bool} → found ≡ any_below (bid_off s) n → (27 when found otherwise 0) ≡ first_over (λ i. tick_refusal s (suc i)) n
  unfolding tick_refusal
  ticks-number n e = ap (λ (x : Bool). 27 when x otherwise 0) e ∙ sym (first_of_tests 27 (bid_off s) n)

  -- every bid is a multiple of 1
  pub no_ticks : (n : ℕ) → tick_field s ≡ 1 → first_over (λ i. tick_refusal s (suc i)) n ≡ 0
  unfolding tick_refusal
  no_ticks n e =
      first-all-none (λ i. tick_refusal s (suc i)) n
      (λ i l. simp (eq-eqb (bid_field s (suc i) % tick_field s) 0 (ap (λ (t : ℕ). bid_field s (suc i) % t) e ∙ mod-one (bid_field s (suc i)))))
