-- Request S-2's profile: what the call has written is the list of the set's terms, so its conditions are known by the laws of that list. Assumes nothing.
use Prim.Native.Nat.{ℕ, suc, ◌-◌, ◌*◌, ◌<◌, ◌≤◌}
use mathlib.Core.Bool.{Bool, true, false, cond, not, ◌||◌}
use mathlib.Core.List.{List, []}
use mathlib.Core.Logic.{◌⊎◌, ⊎_elim}
use borrow.Author.Tests.{le-leb, leb-true, not-true}
use mathlib.Core.Path.{◌≡◌, refl, sym, ◌∙◌, ap, ap₂}
use native.Mathlib.Omega.{arith}
use lib.Dec.{leb, ltb}
use lib.ListN.{length, get_or}
use Rattle.basis.specs.First.{◌when◌otherwise◌, or_else}
use Rattle.basis.specs.Tests.{all_below}
use Rattle.basis.proofs.CountLaws.{count-at-most}
use Rattle.basis.proofs.TestLaws.{not_both, or_parts, all-at}
use Rattle.basis.specs.Rows.{joined}
use Rattle.basis.proofs.FirstLaws.{answered-gives}
use Rattle.sheet.specs.Encoded.{Condition}
use Rattle.slot_terms.specs.SlotTerms.{owner_refusal, conditions_buffer, OwnerFits}
use Rattle.bidder_sets.specs.BidderSets.{in_set, member_count, numbers_wrong}
use Rattle.bidder_sets.proofs.NumberedLaws.{wrong_at_lem, numbered_right, in_numbered, same_set, same_wrong}
use Rattle.above_terms.specs.AboveTerms.{RivalAbove, pairs_at, above_terms_of, rivals_refusal, above_terms_refusal}
use Rattle.above_terms.specs.EngineAbove.{slots_above}
use Rattle.above_terms.proofs.AboveLaws.{terms-many, terms_twice}
use Rattle.above_terms.proofs.RefusalLaws as numbers
use Rattle.above_terms.proofs.TermsLaws.{terms_where, terms-there, terms-lower, terms-rising, terms-pass}
use Rattle.pas.specs.Calls.{AboveTermsGiven}
use Rattle.demands.specs.Demands.{Numbered, RivalsFit, ListWritten}
use Rattle.demands.proofs.ListLaws.{list_written}

-- No set gives more than 1,014 conditions and at most 1,024: each number of rivals and of places is tried.
within-few : (c m : ℕ) → c < 65 → m < 17 → c * slots_above m ≤ 1_024 → c * slots_above m ≤ 1_014
unfolding all_below slots_above
within-few c m some short most =
    let few : ℕ → ℕ → Bool = (λ k j. not (leb (k * slots_above j) 1024) || leb (k * slots_above j) 1014) in
    ⊎_elim
    (λ (t : not (leb (c * slots_above m) 1024) ≡ true). absurd (not_both (le-leb (c * slots_above m) 1024 most) (not-true (leb (c * slots_above m) 1024) t)))
    (λ (t : leb (c * slots_above m) 1014 ≡ true). leb-true (c * slots_above m) 1014 t)
    (or_parts (not (leb (c * slots_above m) 1024)) (leb (c * slots_above m) 1014)
    (all-at (few c) 17 (all-at (λ k. all_below (few k) 17) 65 refl c some) m short))

terms-few : (n m owner : ℕ) (rivals : List ℕ) → OwnerFits n m owner → length (above_terms_of n m owner rivals) ≤ 1_024 → length (above_terms_of n m owner rivals) ≤ 1_014
unfolding member_count
terms-few n m owner rivals fits most =
    let bidders = fits.most_bidders in
    let slots = fits.most_slots in
    let many = terms-many n m owner rivals in
    let members = count-at-most (λ i. in_set rivals (suc i)) n in
    let few = within-few (member_count n rivals) m (omega arith) (omega arith) (omega arith) in
    omega arith

-- What the call has written.
module _ (n m owner : ℕ) (rivals out out' : List ℕ) (before count : ℕ) (given : AboveTermsGiven n m owner rivals out before 0 out' count) where
  abbrev terms : List Condition
  terms = above_terms_of n m owner rivals

  known : OwnerFits n m owner × (numbers_wrong n rivals ≡ false) × (in_set rivals owner ≡ false) × (length terms ≤ 1024) × (4 * length terms ≤ length out)
  known = numbers.passed-all n m owner rivals out (sym given.number)

  many : count ≡ length terms
  many = given.written ∙ sym (answered-gives (above_terms_refusal n m owner rivals out) (length terms) before (sym given.number))

  pub above-written : ListWritten n m owner (RivalAbove m rivals) out out' count
  above-written =
      let fits = known.0 in
      let within = in_numbered n rivals known.1 in
      list_written n m owner (RivalAbove m rivals) terms fits
      (terms_where n m owner rivals) (terms-there n m owner rivals within) (terms-lower n m owner rivals within)
      (terms-rising n m owner rivals fits.most_bidders fits.most_slots)
      (terms-pass n m owner rivals within fits.most_slots fits.some_owner fits.most_owner known.2)
      out out' count
      (given.buffer ∙ sym (answered-gives (above_terms_refusal n m owner rivals out) (conditions_buffer terms out) out (sym given.number)))
      many known.4

  pub above-many : (2 * count ≡ member_count n rivals * (m * (m - 1))) × (count ≤ 1_014)
  above-many =
      let c = many in
      let twice = terms_twice n m owner rivals in
      let few = terms-few n m owner rivals known.0 known.3 in
      (omega arith, omega arith)

-- lists with the same members
pub same-terms : (n m owner : ℕ) (rivals rivals' out : List ℕ) → ((b : ℕ) → in_set rivals b ≡ in_set rivals' b) →
    (above_terms_refusal n m owner rivals out ≡ above_terms_refusal n m owner rivals' out) × (above_terms_of n m owner rivals ≡ above_terms_of n m owner rivals')
unfolding above_terms_of above_terms_refusal rivals_refusal
same-terms n m owner rivals rivals' out same =
    let e = same_set rivals rivals' same in
    let w = same_wrong n rivals rivals' same in
    let terms : (ℕ → Bool) → List Condition = (λ f. joined (λ k. joined (λ j. cond (f (suc j)) (pairs_at owner (suc k) (suc j)) []) n) m) in (
      ap₂
          (λ (t : Bool) (f : ℕ → Bool).
          or_else (owner_refusal n m owner)
          (or_else (23 when t otherwise 24 when f owner otherwise 0)
          (25 when ltb 1024 (length (terms f)) otherwise 19 when ltb (length out) (4 * length (terms f)) otherwise 0)))
          w e,
      ap terms e,
    )

-- The call's numbers.
module _ (n m owner : ℕ) (rivals out : List ℕ) where
  pub above-twenty_three : OwnerFits n m owner → (k : ℕ) → k < length rivals → (get_or rivals k 0 ≡ 0) ⊎ (n < get_or rivals k 0) →
      above_terms_refusal n m owner rivals out ≡ 23
  above-twenty_three fits k l bad = numbers.twenty_three n m owner rivals out fits (wrong_at_lem n rivals k l bad)

  pub above-twenty_four : OwnerFits n m owner → Numbered n rivals → in_set rivals owner ≡ true → above_terms_refusal n m owner rivals out ≡ 24
  above-twenty_four fits right own = numbers.twenty_four n m owner rivals out fits (numbered_right n rivals right) own

  module _ (fit : RivalsFit n m owner rivals) where
    right : numbers_wrong n rivals ≡ false
    right = numbered_right n rivals fit.numbered

    pub above-twenty_five : 2_048 < member_count n rivals * (m * (m - 1)) → above_terms_refusal n m owner rivals out ≡ 25
    above-twenty_five more =
        let twice = terms_twice n m owner rivals in
        numbers.twenty_five n m owner rivals out fit.owner_fits right fit.not_itself (omega arith)

    pub above-nineteen : member_count n rivals * (m * (m - 1)) ≤ 2_048 → length out < 2 * (member_count n rivals * (m * (m - 1))) →
        above_terms_refusal n m owner rivals out ≡ 19
    above-nineteen few short =
        let twice = terms_twice n m owner rivals in
        numbers.nineteen n m owner rivals out fit.owner_fits right fit.not_itself (omega arith) (omega arith)

    pub above-answered : member_count n rivals * (m * (m - 1)) ≤ 2_048 → 2 * (member_count n rivals * (m * (m - 1))) ≤ length out →
        above_terms_refusal n m owner rivals out ≡ 0
    above-answered few room =
        let twice = terms_twice n m owner rivals in
        numbers.answered n m owner rivals out fit.owner_fits right fit.not_itself (omega arith) (omega arith)

    pub above-enough : member_count n rivals * (m * (m - 1)) ≤ 2_048 → 4_056 ≤ length out → above_terms_refusal n m owner rivals out ≡ 0
    above-enough few room =
        let twice = terms_twice n m owner rivals in
        let most = terms-few n m owner rivals fit.owner_fits (omega arith) in
        above-answered few (omega arith)
