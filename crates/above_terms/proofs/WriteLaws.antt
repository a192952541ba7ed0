-- What the call answers. Assumes nothing.
use Prim.Native.Nat.{ℕ, zero, suc, ◌*◌, ◌<◌, ◌≤◌}
use mathlib.Core.Bool.{true, false}
use mathlib.Core.List.{List}
use mathlib.Core.Path.{◌≡◌, refl, sym, ◌∙◌}
use native.Mathlib.Omega.{arith}
use lib.ListN.{length}
use lib.Seq.{sets}
use Rattle.basis.proofs.FirstLaws.{answered-gives}
use Rattle.sheet.specs.Encoded.{Condition, quads}
use Rattle.slot_terms.specs.SlotTerms.{owner_refusal, OwnerFits}
use Rattle.slot_terms.proofs.WriteLaws.{refused_left, terms_left}
use Rattle.bidder_sets.specs.BidderSets.{in_set, numbers_wrong}
use Rattle.above_terms.specs.AboveTerms.{above_terms_of, above_terms_refusal, AboveTermsWritten}
use Rattle.above_terms.proofs.RefusalLaws.{owner-first, twenty_three, twenty_four, twenty_five, nineteen, answered}

-- The call's ways out: a number, and the conditions.
module _ (n m owner : ℕ) (rivals out : List ℕ) where
  abbrev number : ℕ
  number = above_terms_refusal n m owner rivals out

  abbrev terms : List Condition
  terms = above_terms_of n m owner rivals

  -- refused with a number
  abbrev Left : ℕ → Type 0
  Left k = AboveTermsWritten n m owner rivals out (record { refusal = k; count = 0 }) out

  left : (k : ℕ) → k ≡ number → (k ≡ 0 → ⊥) → Left k
  left k same h =
      let parts = refused_left number terms out (record { refusal = k; count = 0 }) k refl same h in
      record { number = parts.0; count = parts.1; buffer = parts.2 }

  pub owner-refused : (k : ℕ) → k ≡ owner_refusal n m owner → (k ≡ 0 → ⊥) → Left k
  owner-refused zero same h = absurd (h refl)
  owner-refused (suc k) same h = left (suc k) (sym (owner-first n m owner rivals out k (sym same))) h

  module _ (fits : OwnerFits n m owner) where
    pub numbers_refused : numbers_wrong n rivals ≡ true → Left 23
    numbers_refused wrong = left 23 (sym (twenty_three n m owner rivals out fits wrong)) (λ z. absurd (omega arith))

    module _ (right : numbers_wrong n rivals ≡ false) where
      pub own-refused : in_set rivals owner ≡ true → Left 24
      own-refused own = left 24 (sym (twenty_four n m owner rivals out fits right own)) (λ z. absurd (omega arith))

      module _ (other : in_set rivals owner ≡ false) (count : ℕ) (many : count ≡ length terms) where
        pub too_many : 1024 < count → Left 25
        too_many more = left 25 (sym (twenty_five n m owner rivals out fits right other (omega arith))) (λ z. absurd (omega arith))

        module _ (few : count ≤ 1024) where
          pub buffer_short : length out < 4 * count → Left 19
          buffer_short less = left 19 (sym (nineteen n m owner rivals out fits right other (omega arith) (omega arith))) (λ z. absurd (omega arith))

          pub terms-written : (whole : List ℕ) → 4 * count ≤ length out → whole ≡ sets out 0 (quads terms) →
              AboveTermsWritten n m owner rivals out (record { refusal = 0; count = count }) whole
          terms-written whole room w =
              let none : number ≡ 0 = answered n m owner rivals out fits right other (omega arith) (omega arith) in
              record {
                number = sym none;
                count = many ∙ answered-gives number (length terms) 0 none;
                buffer = w ∙ terms_left number terms out none (omega arith);
              }
