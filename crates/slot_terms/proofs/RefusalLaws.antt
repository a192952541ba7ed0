-- The numbers of the call: which it gives, and what a call without one is known to be. Assumes nothing.
use Prim.Native.Nat.{ℕ, zero, suc, ◌-◌, ◌*◌, ◌<◌, ◌≤◌}
use borrow.Author.Tests.{eq-eqb, ne_eqb, eqb-true, lt-ltb, le-ltb, ltb-false, not-false}
use mathlib.Core.Bool.{Bool, true, false, not, ◌||◌}
use mathlib.Core.List.{List}
use mathlib.Core.Logic.{◌⊎◌, ⊎_elim}
use mathlib.Core.Path.{◌≡◌, ◌∙◌, ap}
use native.Mathlib.Omega.{arith}
use lib.Dec.{eqb, ltb}
use lib.ListN.{length, get_or}
use Rattle.basis.specs.First.{◌when◌otherwise◌, or_else}
use Rattle.basis.specs.Tests.{any_below}
use Rattle.basis.proofs.FirstLaws.{or_else-none, or_else_right, when_none}
use Rattle.basis.proofs.NumberLaws.{outside, inside, from_inside}
use Rattle.basis.proofs.TestLaws.{or_left, or_right, or_none, or_fails, not_holds, any_at, any_none, none_any}
use Rattle.slot_terms.specs.SlotTerms.{bar_for, slot_terms_of, size_refusal, owner_refusal, profile_refusal, slot_terms_refusal, OwnerFits, TermsFit}

-- the list has a bidder's bar at the index below its number
pub bar_at : (bars : List ℕ) (i : ℕ) → 0 < i → bar_for bars i ≡ get_or bars (i - 1) 0
unfolding bar_for
bar_at bars zero some = absurd (omega arith)
bar_at bars (suc i) some = ap (λ (n : ℕ). get_or bars n 0) (let e : i ≡ suc i - 1 = omega arith in e)

-- 4 and 5
module _ (n m : ℕ) where
  pub size-four : (n ≡ 0) ⊎ (64 < n) → size_refusal n m ≡ 4
  unfolding size_refusal
  size-four bad = simp (outside n 64 bad)

  pub size-five : 0 < n → n ≤ 64 → (m ≡ 0) ⊎ (16 < m) → size_refusal n m ≡ 5
  unfolding size_refusal
  size-five some most bad = simp (inside n 64 some most, outside m 16 bad)

  pub size_none : 0 < n → n ≤ 64 → 0 < m → m ≤ 16 → size_refusal n m ≡ 0
  unfolding size_refusal
  size_none some most some-m most-m = simp (inside n 64 some most, inside m 16 some-m most-m)

  pub sized : size_refusal n m ≡ 0 → (0 < n) × (n ≤ 64) × (0 < m) × (m ≤ 16)
  unfolding size_refusal
  sized e =
      let first = when_none 3 (eqb n 0 || ltb 64 n) _ e in
      let second = when_none 4 (eqb m 0 || ltb 16 m) 0 first.1 in
      let bidders = from_inside n 64 first.0 in
      let slots = from_inside m 16 second.0 in
      (bidders.0, bidders.1, slots.0, slots.1)

-- and then 16: where one of these applies, and where n, m and the owner fit
module _ (n m owner : ℕ) where
  abbrev owner_number : ℕ
  owner_number = 16 when eqb owner 0 || ltb n owner otherwise 0

  size-before : (k : ℕ) → size_refusal n m ≡ suc k → owner_refusal n m owner ≡ suc k
  unfolding owner_refusal
  size-before k e = ap (λ (a : ℕ). or_else a owner_number) e

  pub owner-four : (n ≡ 0) ⊎ (64 < n) → owner_refusal n m owner ≡ 4
  owner-four bad = size-before 3 (size-four n m bad)

  pub owner-five : 0 < n → n ≤ 64 → (m ≡ 0) ⊎ (16 < m) → owner_refusal n m owner ≡ 5
  owner-five some most bad = size-before 4 (size-five n m some most bad)

  size-passed : 0 < n → n ≤ 64 → 0 < m → m ≤ 16 → owner_refusal n m owner ≡ owner_number
  unfolding owner_refusal
  size-passed some most some-m most-m = or_else_right (size_refusal n m) _ (size_none n m some most some-m most-m)

  pub owner-sixteen : 0 < n → n ≤ 64 → 0 < m → m ≤ 16 → (owner ≡ 0) ⊎ (n < owner) → owner_refusal n m owner ≡ 16
  owner-sixteen some most some-m most-m bad = size-passed some most some-m most-m ∙ simp (outside owner n bad)

  pub owner-none : OwnerFits n m owner → owner_refusal n m owner ≡ 0
  owner-none fits =
      size-passed fits.some_bidders fits.most_bidders fits.some_slots fits.most_slots
      ∙ simp (inside owner n fits.some_owner fits.most_owner)

  pub fits_owner : owner_refusal n m owner ≡ 0 → OwnerFits n m owner
  unfolding owner_refusal
  fits_owner e =
      let both = or_else-none (size_refusal n m) owner_number e in
      let size = sized n m both.0 in
      let own = from_inside owner n (when_none 15 (eqb owner 0 || ltb n owner) 0 both.1).0 in
      record {
        some_bidders = size.0;
        most_bidders = size.1;
        some_slots = size.2;
        most_slots = size.3;
        some_owner = own.0;
        most_owner = own.1;
      }

-- and 20 to 22: none exactly where the limit and the bars do
module _ (n m owner limit : ℕ) (bars : List ℕ) where
  abbrev bars_wrong : Bool
  bars_wrong = not (eqb (length bars) n) || any_below (λ i. ltb m (bar_for bars (suc i))) n

  bars_wrong_lem : (length bars ≡ n → ⊥) ⊎ ((j : ℕ) × (0 < j) × (j ≤ n) × (m < bar_for bars j)) → bars_wrong ≡ true
  bars_wrong_lem bad =
      ⊎_elim
      (λ (h : length bars ≡ n → ⊥). or_left (any_below (λ i. ltb m (bar_for bars (suc i))) n) (not_holds (ne_eqb (length bars) n h)))
      (λ (h : (j : ℕ) × (0 < j) × (j ≤ n) × (m < bar_for bars j)). or_right (not (eqb (length bars) n)) (above h.0 h.1 h.2 h.3))
      bad
    where
      above : (j : ℕ) → 0 < j → j ≤ n → m < bar_for bars j → any_below (λ i. ltb m (bar_for bars (suc i))) n ≡ true
      above zero some l h = absurd (omega arith)
      above (suc i) some l h = any_at (λ i. ltb m (bar_for bars (suc i))) n i l (lt-ltb m (bar_for bars (suc i)) h)

  bars_right : length bars ≡ n → ((j : ℕ) → 0 < j → j ≤ n → bar_for bars j ≤ m) → bars_wrong ≡ false
  bars_right many low =
      or_fails
      (ap not (eq-eqb (length bars) n many))
      (none_any (λ i. ltb m (bar_for bars (suc i))) n (λ i l. le-ltb m (bar_for bars (suc i)) (low (suc i) (omega arith) l)))

  profile_none : TermsFit n m owner limit bars → profile_refusal n m owner limit bars ≡ 0
  unfolding profile_refusal
  profile_none fit =
      simp (
        inside limit m fit.some_limit fit.most_limit,
        bars_right fit.as_many fit.none_above,
        eq-eqb (bar_for bars owner) 0 fit.none_against,
      )

  pub fits_terms : OwnerFits n m owner → profile_refusal n m owner limit bars ≡ 0 → TermsFit n m owner limit bars
  unfolding profile_refusal
  fits_terms fits e =
      let first = when_none 19 (eqb limit 0 || ltb m limit) _ e in
      let second = when_none 20 bars_wrong _ first.1 in
      let third = when_none 21 (not (eqb (bar_for bars owner) 0)) _ second.1 in
      let limits = from_inside limit m first.0 in
      let lists = or_none (not (eqb (length bars) n)) (any_below (λ i. ltb m (bar_for bars (suc i))) n) second.0 in
      record {
        owner_fits = fits;
        some_limit = limits.0;
        most_limit = limits.1;
        as_many = eqb-true (length bars) n (not-false (eqb (length bars) n) lists.0);
        none_above = low lists.1;
        none_against = eqb-true (bar_for bars owner) 0 (not-false (eqb (bar_for bars owner) 0) third.0);
      }
    where
      low : any_below (λ i. ltb m (bar_for bars (suc i))) n ≡ false → (j : ℕ) → 0 < j → j ≤ n → bar_for bars j ≤ m
      low none zero some l = absurd (omega arith)
      low none (suc i) some l = ltb-false m (bar_for bars (suc i)) (any_none (λ i. ltb m (bar_for bars (suc i))) n none i l)

-- so each bar is at most 16
pub fit_low : {n m owner limit : ℕ} {bars : List ℕ} → TermsFit n m owner limit bars → (i : ℕ) → i < length bars → get_or bars i 0 ≤ 16
unfolding bar_for
fit_low fit i l =
    let slots = fit.owner_fits.most_slots in
    let all = fit.as_many in
    let here = fit.none_above (suc i) (omega arith) (omega arith) in
    omega arith

-- The call's numbers.
module _ (n m owner limit : ℕ) (bars out : List ℕ) where
  abbrev room_number : ℕ
  room_number = 19 when ltb (length out) (4 * length (slot_terms_of n m owner limit bars)) otherwise 0

  pub owner-first : (k : ℕ) → owner_refusal n m owner ≡ suc k → slot_terms_refusal n m owner limit bars out ≡ suc k
  unfolding slot_terms_refusal
  owner-first k e = ap (λ (a : ℕ). or_else a (or_else (profile_refusal n m owner limit bars) room_number)) e

  owner-passed : OwnerFits n m owner → slot_terms_refusal n m owner limit bars out ≡ or_else (profile_refusal n m owner limit bars) room_number
  unfolding slot_terms_refusal
  owner-passed fits = or_else_right (owner_refusal n m owner) _ (owner-none n m owner fits)

  pub profile_first : (k : ℕ) → OwnerFits n m owner → profile_refusal n m owner limit bars ≡ suc k → slot_terms_refusal n m owner limit bars out ≡ suc k
  profile_first k fits e = owner-passed fits ∙ ap (λ (a : ℕ). or_else a room_number) e

  pub four : (n ≡ 0) ⊎ (64 < n) → slot_terms_refusal n m owner limit bars out ≡ 4
  four bad = owner-first 3 (owner-four n m owner bad)

  pub five : 0 < n → n ≤ 64 → (m ≡ 0) ⊎ (16 < m) → slot_terms_refusal n m owner limit bars out ≡ 5
  five some most bad = owner-first 4 (owner-five n m owner some most bad)

  pub sixteen : 0 < n → n ≤ 64 → 0 < m → m ≤ 16 → (owner ≡ 0) ⊎ (n < owner) → slot_terms_refusal n m owner limit bars out ≡ 16
  sixteen some most some-m most-m bad = owner-first 15 (owner-sixteen n m owner some most some-m most-m bad)

  pub twenty : OwnerFits n m owner → (limit ≡ 0) ⊎ (m < limit) → slot_terms_refusal n m owner limit bars out ≡ 20
  unfolding profile_refusal
  twenty fits bad = profile_first 19 fits (simp (outside limit m bad))

  pub twenty_one : OwnerFits n m owner → 0 < limit → limit ≤ m → (length bars ≡ n → ⊥) ⊎ ((j : ℕ) × (0 < j) × (j ≤ n) × (m < bar_for bars j)) →
      slot_terms_refusal n m owner limit bars out ≡ 21
  unfolding profile_refusal
  twenty_one fits some most bad = profile_first 20 fits (simp (inside limit m some most, bars_wrong_lem n m owner limit bars bad))

  pub twenty_two : OwnerFits n m owner → 0 < limit → limit ≤ m → length bars ≡ n → ((j : ℕ) → 0 < j → j ≤ n → bar_for bars j ≤ m) →
      (bar_for bars owner ≡ 0 → ⊥) → slot_terms_refusal n m owner limit bars out ≡ 22
  unfolding profile_refusal
  twenty_two fits some most many low against =
      profile_first 21 fits (simp (inside limit m some most, bars_right n m owner limit bars many low, ne_eqb (bar_for bars owner) 0 against))

  all-passed : TermsFit n m owner limit bars → slot_terms_refusal n m owner limit bars out ≡ room_number
  all-passed fit = owner-passed fit.owner_fits ∙ or_else_right (profile_refusal n m owner limit bars) _ (profile_none n m owner limit bars fit)

  pub nineteen : TermsFit n m owner limit bars → length out < 4 * length (slot_terms_of n m owner limit bars) → slot_terms_refusal n m owner limit bars out ≡ 19
  nineteen fit short = all-passed fit ∙ ap (λ (t : Bool). 19 when t otherwise 0) (lt-ltb (length out) _ short)

  pub answered : TermsFit n m owner limit bars → 4 * length (slot_terms_of n m owner limit bars) ≤ length out → slot_terms_refusal n m owner limit bars out ≡ 0
  answered fit room = all-passed fit ∙ ap (λ (t : Bool). 19 when t otherwise 0) (le-ltb (length out) _ room)

  pub passed-all : slot_terms_refusal n m owner limit bars out ≡ 0 → TermsFit n m owner limit bars × (4 * length (slot_terms_of n m owner limit bars) ≤ length out)
  unfolding slot_terms_refusal
  passed-all e =
      let first = or_else-none (owner_refusal n m owner) _ e in
      let second = or_else-none (profile_refusal n m owner limit bars) room_number first.1 in
      let third = when_none 18 (ltb (length out) (4 * length (slot_terms_of n m owner limit bars))) 0 second.1 in
      (fits_terms n m owner limit bars (fits_owner n m owner first.0) second.0, ltb-false (length out) _ third.0)
