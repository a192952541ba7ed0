-- An accepted sheet's round has all that the laws ask of a round; sheets with the same bids and effects have rounds with the same, and a test over a
-- round's constraints sees only which it has. Assumes nothing.
use Prim.Native.Nat.{ℕ, zero, suc, ◌%◌, ◌<◌, ◌≤◌}
use mathlib.Core.Bool.{Bool, true}
use mathlib.Core.List.{List}
use mathlib.Core.Logic.{⊎_elim}
use mathlib.Core.Path.{◌≡◌, refl, sym, ◌∙◌, ap, ap₂, subst}
use native.Mathlib.Nat.{not-suc-le-zero, zero-mod}
use native.Mathlib.Omega.{arith}
use lib.ListN.{get_or, length-replicate}
use Rattle.basis.specs.Rows.{padded}
use Rattle.basis.specs.Tests.{any_below, all_below}
use Rattle.basis.proofs.RowLaws.{length-padded, get_d_padded, get_d_padded_after, padded-same, zeros}
use Rattle.basis.proofs.TestLaws.{same_tests, any_at, any_where, all-at, at_all}
use Rattle.sheet.specs.declared.Constraint.{Constraint}
use Rattle.sheet.specs.declared.Round.{Round}
use Rattle.sheet.specs.Sheet.{
  version,
  bidder_count,
  slot_count,
  constraint_count,
  tick_field,
  effect_field,
  bid_field,
  owner_field,
  own_slot_field,
  other_field,
  other_slot_field,
}
use Rattle.sheet.specs.Refusal.{constraint_below, Accepted}
use Rattle.sheet.specs.Round.{kind_of, constraint_field, written_own, written_other, written_others, stands_below, blank, round_of, bid_of, effect_of, floor_of, constraint_at, Has, SheetHas}
use Rattle.sheet.proofs.AcceptedLaws.{accepted-sheet, constraints-rise}
use Rattle.sheet.specs.Accepted.{ConstraintAccepted, AcceptedSheet}
use Rattle.sheet.specs.Proper.{ProperKind, Proper, ProperRound}
use Rattle.basis.proofs.NumberLaws.{below_or_not}

proper_kind : (n m owner own other others : ℕ) → n ≤ 64 → m ≤ 16 → ConstraintAccepted n m owner own other others →
    ProperKind owner (kind_of own other others)
unfolding kind_of
proper_kind n m owner own zero others x y a =
    ((let h : own ≡ 0 → ⊥ = (λ z. a.not_empty z refl) in omega arith), (let h = a.most_own in omega arith))
proper_kind n m owner zero (suc other) others x y a = (
  λ e. absurd (omega arith),
  a.different,
  (let h = a.most_other in omega arith),
  (let h : others ≡ 0 → ⊥ = (λ z. absurd (let e : suc other ≡ 0 = a.together_back z in omega arith)) in omega arith),
  (let h = a.most_others in omega arith),
)
proper_kind n m owner (suc own) (suc other) others x y a = (
  λ e. absurd (omega arith),
  a.different,
  (let h = a.most_other in omega arith),
  (let h : others ≡ 0 → ⊥ = (λ z. absurd (let e : suc other ≡ 0 = a.together_back z in omega arith)) in omega arith),
  (let h = a.most_others in omega arith),
  omega arith,
  (let h = a.most_own in omega arith),
)

-- a constraint of the round is written with its fields of the sheet
pub written_fields : (n m owner own other others : ℕ) → ConstraintAccepted n m owner own other others →
    (written_own (kind_of own other others) ≡ own) × ((written_other (kind_of own other others) ≡ other) × (written_others (kind_of own other others) ≡ others))
unfolding kind_of written_own written_other written_others
written_fields n m owner own zero others a = (refl, (refl, sym (a.together refl)))
written_fields n m owner zero (suc other) others a = (refl, (refl, refl))
written_fields n m owner (suc own) (suc other) others a = (refl, (refl, refl))

-- the round's counts, its tick and its version are the sheet's
pub round_bidders : (s : List ℕ) → (round_of s).bidders ≡ bidder_count s
unfolding round_of
round_bidders s = refl

pub round_slots : (s : List ℕ) → (round_of s).slots ≡ slot_count s
unfolding round_of
round_slots s = refl

pub round_tick : (s : List ℕ) → (round_of s).tick ≡ tick_field s
unfolding round_of
round_tick s = refl

pub round_version : (s : List ℕ) → (round_of s).version ≡ version s
unfolding round_of
round_version s = refl

-- and it has no floors
pub no_floor : (s : List ℕ) (k : ℕ) → floor_of (round_of s) k ≡ 0
unfolding round_of floor_of
no_floor s zero = refl
no_floor s (suc k) = zeros 16 k

module _ (s : List ℕ) (ok : Accepted s) where
  facts : AcceptedSheet s
  facts = accepted-sheet s ok

  -- the round's constraint at an index is the sheet's
  pub round_constraint : (i : ℕ) → i < constraint_count s → constraint_at (round_of s) i ≡ constraint_field s i
  unfolding round_of constraint_at
  round_constraint i l = get_d_padded (constraint_field s) (constraint_count s) 1024 blank blank i l

  -- so are its bids and effects
  pub round_bid : (b : ℕ) → b ≤ bidder_count s → bid_of (round_of s) b ≡ bid_field s b
  unfolding round_of bid_of bid_field
  round_bid zero l = refl
  round_bid (suc i) l = get_d_padded (λ i. bid_field s (suc i)) (bidder_count s) 64 0 0 i l

  pub round_effect : (k : ℕ) → k ≤ slot_count s → effect_of (round_of s) k ≡ effect_field s k
  unfolding round_of effect_of effect_field
  round_effect zero l = refl
  round_effect (suc k) l = get_d_padded (λ k. effect_field s (suc k)) (slot_count s) 16 0 0 k l

  no_effect_after : (k : ℕ) → slot_count s < k → effect_of (round_of s) k ≡ 0
  unfolding round_of effect_of
  no_effect_after zero l = refl
  no_effect_after (suc k) l = get_d_padded_after (λ k. effect_field s (suc k)) (slot_count s) 16 0 k facts.counts.most_slots (omega arith)

  no_bid_after : (b : ℕ) → bidder_count s < b → bid_of (round_of s) b ≡ 0
  unfolding round_of bid_of
  no_bid_after zero l = refl
  no_bid_after (suc i) l = get_d_padded_after (λ i. bid_field s (suc i)) (bidder_count s) 64 0 i facts.counts.most_bidders (omega arith)

  low_bid : (b : ℕ) → bid_of (round_of s) b ≤ 1_000_000_000
  unfolding bid_of
  low_bid zero = omega arith
  low_bid (suc i) =
      ⊎_elim
      (λ (l : bidder_count s < suc i). let e = no_bid_after (suc i) l in omega arith)
      (λ (l : suc i ≤ bidder_count s). let e = round_bid (suc i) l in let h = (facts.bids (suc i) (omega arith) l).most in omega arith)
      (below_or_not (bidder_count s) (suc i))

  bid_in-ticks : (b : ℕ) → bid_of (round_of s) b % tick_field s ≡ 0
  unfolding bid_of
  bid_in-ticks zero = zero-mod (tick_field s)
  bid_in-ticks (suc i) =
      ⊎_elim
      (λ (l : bidder_count s < suc i). ap (λ (x : ℕ). x % tick_field s) (no_bid_after (suc i) l) ∙ zero-mod (tick_field s))
      (λ (l : suc i ≤ bidder_count s).
      ap (λ (x : ℕ). x % tick_field s) (round_bid (suc i) l) ∙ (facts.bids (suc i) (omega arith) l).multiple)
      (below_or_not (bidder_count s) (suc i))

  low_effect : (k : ℕ) → effect_of (round_of s) k ≤ 1_000_000
  unfolding effect_of
  low_effect zero = omega arith
  low_effect (suc k) =
      ⊎_elim
      (λ (l : slot_count s < suc k). let e = no_effect_after (suc k) l in omega arith)
      (λ (l : suc k ≤ slot_count s). let e = round_effect (suc k) l in let h = (facts.effects (suc k) (omega arith) l).most in omega arith)
      (below_or_not (slot_count s) (suc k))

  effects_fall : (k : ℕ) → 0 < k → effect_of (round_of s) (suc k) ≤ effect_of (round_of s) k
  effects_fall zero l = absurd (not-suc-le-zero l)
  effects_fall (suc k) p =
      ⊎_elim
      (λ (l : slot_count s < suc (suc k)). let e = no_effect_after (suc (suc k)) l in omega arith)
      (λ (l : suc (suc k) ≤ slot_count s).
      let e = round_effect (suc (suc k)) l in
      let e' = round_effect (suc k) (omega arith) in
      let h : effect_field s (suc (suc k)) ≤ effect_field s (suc k) = (facts.effects (suc (suc k)) (omega arith) l).no_rise in
      omega arith)
      (below_or_not (slot_count s) (suc (suc k)))

  field-proper : (i : ℕ) → i < constraint_count s → Proper (constraint_field s i)
  unfolding constraint_field
  field-proper i l =
      let a = facts.constraints i l in
      record {
        owned = λ e. absurd (let h = a.some_owner in omega arith);
        within_range = (let h = a.most_owner in let t = facts.counts.most_bidders in omega arith);
        parts =
            proper_kind (bidder_count s) (slot_count s) (owner_field s i) (own_slot_field s i) (other_field s i) (other_slot_field s i)
            facts.counts.most_bidders facts.counts.most_slots a;
      }

  -- in version 2 the constraints rise
  constraints-in_order : version s ≡ 2 → (i j : ℕ) → i < j → j < constraint_count s → stands_below (constraint_at (round_of s) i) (constraint_at (round_of s) j) ≡ true
  unfolding stands_below constraint_field constraint_below
  constraints-in_order v i j l m =
      let here = written_fields (bidder_count s) (slot_count s) (owner_field s i) (own_slot_field s i) (other_field s i) (other_slot_field s i) (facts.constraints i (omega arith)) in
      let there = written_fields (bidder_count s) (slot_count s) (owner_field s j) (own_slot_field s j) (other_field s j) (other_slot_field s j) (facts.constraints j m) in
      ap₂ stands_below (round_constraint i (omega arith)) (round_constraint j m)
      ∙ rw (here.0, here.1.0, here.1.1, there.0, there.1.0, there.1.1) (constraints-rise s facts v i j l m)

  pub round_proper : ProperRound (round_of s)
  unfolding round_of
  round_proper =
      record {
        some_bidders = facts.counts.some_bidders;
        most_bidders = facts.counts.most_bidders;
        some_slots = facts.counts.some_slots;
        most_slots = facts.counts.most_slots;
        most_used = facts.counts.most_constraints;
        known_version = facts.form.known;
        some_tick = facts.counts.some_tick;
        most_tick = facts.counts.most_tick;
        sized_effects = length-padded (λ k. effect_field s (suc k)) (slot_count s) 16 0 facts.counts.most_slots;
        sized_floors = length-replicate {A = ℕ} 16 0;
        sized_bids = length-padded (λ i. bid_field s (suc i)) (bidder_count s) 64 0 facts.counts.most_bidders;
        sized_constraints = length-padded (constraint_field s) (constraint_count s) 1024 blank facts.counts.most_constraints;
        most_bid = low_bid;
        in_ticks = bid_in-ticks;
        most_effect = low_effect;
        no_rise = effects_fall;
        most_floor = λ k. let e = no_floor s k in omega arith;
        proper = λ q h. subst Proper (sym (round_constraint h.0 h.1) ∙ h.2) (field-proper h.0 h.1);
        rising = constraints-in_order;
      }

  -- what the sheet has is what its round has
  pub sheet_round : (q : Constraint) → SheetHas s q → Has (round_of s) q
  unfolding round_of
  sheet_round q h = (h.0, h.1, round_constraint h.0 h.1 ∙ h.2)

  pub round_sheet : (q : Constraint) → Has (round_of s) q → SheetHas s q
  unfolding round_of
  round_sheet q h = (h.0, h.1, sym (round_constraint h.0 h.1) ∙ h.2)

-- sheets with the same n and bids have rounds with the same bids, and so for effects
pub bids_of : (s t : List ℕ) → bidder_count s ≡ bidder_count t → ((b : ℕ) → 0 < b → b ≤ bidder_count s → bid_field s b ≡ bid_field t b) →
    (b : ℕ) → bid_of (round_of s) b ≡ bid_of (round_of t) b
unfolding round_of bid_of
bids_of s t n f zero = refl
bids_of s t n f (suc b) =
    ap (λ (l : List ℕ). get_or l b 0)
    (padded-same (λ i. bid_field s (suc i)) (λ i. bid_field t (suc i)) (bidder_count s) 64 0 (λ i l. f (suc i) (omega arith) l)
    ∙ ap (λ (k : ℕ). padded (λ i. bid_field t (suc i)) k 64 0) n)

pub effects_of : (s t : List ℕ) → slot_count s ≡ slot_count t → ((k : ℕ) → 0 < k → k ≤ slot_count s → effect_field s k ≡ effect_field t k) →
    (k : ℕ) → effect_of (round_of s) k ≡ effect_of (round_of t) k
unfolding round_of effect_of
effects_of s t m f zero = refl
effects_of s t m f (suc k) =
    ap (λ (l : List ℕ). get_or l k 0)
    (padded-same (λ k. effect_field s (suc k)) (λ k. effect_field t (suc k)) (slot_count s) 16 0 (λ k l. f (suc k) (omega arith) l)
    ∙ ap (λ (j : ℕ). padded (λ k. effect_field t (suc k)) j 16 0) m)

-- A test over the constraints of a round sees only which it has: order and repeats are free.
module _ (r r' : Round) (there : (q : Constraint) → Has r q → Has r' q) where
  any_has : (f : Constraint → Bool) → any_below (λ i. f (constraint_at r i)) r.used ≡ true → any_below (λ i. f (constraint_at r' i)) r'.used ≡ true
  any_has f e =
      let w = any_where (λ i. f (constraint_at r i)) r.used e in
      let h = there (constraint_at r w.0) (w.0, w.1, refl) in
      any_at (λ i. f (constraint_at r' i)) r'.used h.0 h.1 (ap f h.2 ∙ w.2)

  all-has : (f : Constraint → Bool) → all_below (λ i. f (constraint_at r' i)) r'.used ≡ true → all_below (λ i. f (constraint_at r i)) r.used ≡ true
  all-has f e =
      at_all (λ i. f (constraint_at r i)) r.used
      (λ k l.
      let h = there (constraint_at r k) (k, l, refl) in
      ap f (sym h.2) ∙ all-at (λ i. f (constraint_at r' i)) r'.used e h.0 h.1)

module _ (r r' : Round) (f : Constraint → Bool) (there : (q : Constraint) → Has r q → Has r' q) (back : (q : Constraint) → Has r' q → Has r q) where
  pub any_of_set : any_below (λ i. f (constraint_at r i)) r.used ≡ any_below (λ i. f (constraint_at r' i)) r'.used
  any_of_set = same_tests _ _ (any_has r r' there f) (any_has r' r back f)

  pub all_of_set : all_below (λ i. f (constraint_at r i)) r.used ≡ all_below (λ i. f (constraint_at r' i)) r'.used
  all_of_set = same_tests _ _ (all-has r' r back f) (all-has r r' there f)
