-- The numbers of the call: which it gives, and what a call without one is known to be. Assumes nothing.
use Prim.Native.Nat.{ℕ, suc, ◌*◌, ◌<◌, ◌≤◌}
use borrow.Author.Tests.{lt-ltb, le-ltb, ltb-false}
use mathlib.Core.Bool.{true, false}
use mathlib.Core.List.{List}
use mathlib.Core.Logic.{◌⊎◌}
use mathlib.Core.Path.{◌≡◌, ◌∙◌, ap}
use lib.Dec.{ltb}
use lib.ListN.{length}
use Rattle.basis.specs.First.{◌when◌otherwise◌, or_else}
use Rattle.basis.proofs.FirstLaws.{or_else-none, or_else_right, when_none}
use Rattle.slot_terms.specs.SlotTerms.{owner_refusal, OwnerFits}
use Rattle.slot_terms.proofs.RefusalLaws.{owner-none, fits_owner, owner-four, owner-five, owner-sixteen}
use Rattle.bidder_sets.specs.BidderSets.{in_set, numbers_wrong}
use Rattle.above_terms.specs.AboveTerms.{above_terms_of, rivals_refusal, above_terms_refusal}

module _ (n m owner : ℕ) (rivals out : List ℕ) where
  abbrev many : ℕ
  many = length (above_terms_of n m owner rivals)

  abbrev last_number : ℕ
  last_number = 25 when ltb 1024 many otherwise 19 when ltb (length out) (4 * many) otherwise 0

  pub owner-first : (k : ℕ) → owner_refusal n m owner ≡ suc k → above_terms_refusal n m owner rivals out ≡ suc k
  unfolding above_terms_refusal
  owner-first k e = ap (λ (a : ℕ). or_else a (or_else (rivals_refusal n owner rivals) last_number)) e

  pub four : (n ≡ 0) ⊎ (64 < n) → above_terms_refusal n m owner rivals out ≡ 4
  four bad = owner-first 3 (owner-four n m owner bad)

  pub five : 0 < n → n ≤ 64 → (m ≡ 0) ⊎ (16 < m) → above_terms_refusal n m owner rivals out ≡ 5
  five some most bad = owner-first 4 (owner-five n m owner some most bad)

  pub sixteen : 0 < n → n ≤ 64 → 0 < m → m ≤ 16 → (owner ≡ 0) ⊎ (n < owner) → above_terms_refusal n m owner rivals out ≡ 16
  sixteen some most some-m most-m bad = owner-first 15 (owner-sixteen n m owner some most some-m most-m bad)

  module _ (fits : OwnerFits n m owner) where
    owner-passed : above_terms_refusal n m owner rivals out ≡ or_else (rivals_refusal n owner rivals) last_number
    unfolding above_terms_refusal
    owner-passed = or_else_right (owner_refusal n m owner) _ (owner-none n m owner fits)

    pub twenty_three : numbers_wrong n rivals ≡ true → above_terms_refusal n m owner rivals out ≡ 23
    unfolding rivals_refusal
    twenty_three wrong = owner-passed ∙ simp wrong

    pub twenty_four : numbers_wrong n rivals ≡ false → in_set rivals owner ≡ true → above_terms_refusal n m owner rivals out ≡ 24
    unfolding rivals_refusal
    twenty_four right own = owner-passed ∙ simp (right, own)

    module _ (right : numbers_wrong n rivals ≡ false) (other : in_set rivals owner ≡ false) where
      set-passed : above_terms_refusal n m owner rivals out ≡ last_number
      unfolding rivals_refusal
      set-passed = owner-passed ∙ simp (right, other)

      pub twenty_five : 1024 < many → above_terms_refusal n m owner rivals out ≡ 25
      twenty_five more = set-passed ∙ simp (lt-ltb 1024 many more)

      pub nineteen : many ≤ 1024 → length out < 4 * many → above_terms_refusal n m owner rivals out ≡ 19
      nineteen few short = set-passed ∙ simp (le-ltb 1024 many few, lt-ltb (length out) (4 * many) short)

      pub answered : many ≤ 1024 → 4 * many ≤ length out → above_terms_refusal n m owner rivals out ≡ 0
      answered few room = set-passed ∙ simp (le-ltb 1024 many few, le-ltb (length out) (4 * many) room)

  -- what a call without a number is known to be
  pub passed-all : above_terms_refusal n m owner rivals out ≡ 0 →
      OwnerFits n m owner × (numbers_wrong n rivals ≡ false) × (in_set rivals owner ≡ false) × (many ≤ 1024) × (4 * many ≤ length out)
  unfolding above_terms_refusal rivals_refusal
  passed-all e =
      let first = or_else-none (owner_refusal n m owner) _ e in
      let second = or_else-none (rivals_refusal n owner rivals) last_number first.1 in
      let numbers = when_none 22 (numbers_wrong n rivals) _ second.0 in
      let own = when_none 23 (in_set rivals owner) 0 numbers.1 in
      let third = when_none 24 (ltb 1024 many) _ second.1 in
      let fourth = when_none 18 (ltb (length out) (4 * many)) 0 third.1 in
      (fits_owner n m owner first.0, numbers.0, own.0, ltb-false 1024 many third.0, ltb-false (length out) (4 * many) fourth.0)
