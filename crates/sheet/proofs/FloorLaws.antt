-- Floors under a round's slots: they leave it proper and leave all else, and with none but 0 a sheet's round is as it was. Assumes nothing.
use Prim.Native.Nat.{ℕ, zero, suc, ◌<◌, ◌≤◌}
use mathlib.Core.List.{List}
use mathlib.Core.Logic.{⊎_elim}
use mathlib.Core.Path.{◌≡◌, refl, sym, ◌∙◌, ap}
use native.Mathlib.Omega.{arith}
use lib.ListN.{get_or, replicate, length-replicate}
use Rattle.basis.specs.Rows.{padded}
use Rattle.basis.proofs.NumberLaws.{below_or_not}
use Rattle.basis.proofs.RowLaws.{length-padded, get_d_padded, get_d_padded_after, padded_blanks, zeros}
use Rattle.sheet.specs.declared.Constraint.{Constraint}
use Rattle.sheet.specs.declared.Round.{Round}
use Rattle.sheet.specs.Sheet.{bidder_count, slot_count, tick_field, effect_field, bid_field}
use Rattle.sheet.specs.Round.{round_of, with_floors, bid_of, effect_of, floor_of, constraint_at, Has}
use Rattle.sheet.specs.Proper.{ProperRound, ProperFloors}
use Rattle.sheet.proofs.RoundLaws.{round_bidders, round_slots, round_tick, bids_of, effects_of}

-- The round with floors has these under its slots, and else all that it had.
module _ (r : Round) (f : List ℕ) where
  pub floor_under : (k : ℕ) → k < r.slots → floor_of (with_floors r f) (suc k) ≡ get_or f k 0
  unfolding with_floors floor_of
  floor_under k l = get_d_padded (λ k. get_or f k 0) r.slots 16 0 0 k l

  pub floors_bid : (b : ℕ) → bid_of (with_floors r f) b ≡ bid_of r b
  unfolding with_floors bid_of
  floors_bid zero = refl
  floors_bid (suc i) = refl

  pub floors_effect : (k : ℕ) → effect_of (with_floors r f) k ≡ effect_of r k
  unfolding with_floors effect_of
  floors_effect zero = refl
  floors_effect (suc k) = refl

  pub floors-slots : (with_floors r f).slots ≡ r.slots
  unfolding with_floors
  floors-slots = refl

  pub floors-bidders : (with_floors r f).bidders ≡ r.bidders
  unfolding with_floors
  floors-bidders = refl

  pub floors_tick : (with_floors r f).tick ≡ r.tick
  unfolding with_floors
  floors_tick = refl

  pub floors-has : (q : Constraint) → Has r q → Has (with_floors r f) q
  unfolding with_floors constraint_at
  floors-has q h = h

  pub has-floors : (q : Constraint) → Has (with_floors r f) q → Has r q
  unfolding with_floors constraint_at
  has-floors q h = h

  most_under : r.slots ≤ 16 → ProperFloors r.slots f → (k : ℕ) → floor_of (with_floors r f) k ≤ 1_000_000_000
  unfolding with_floors floor_of
  most_under few proper zero = omega arith
  most_under few proper (suc k) =
      ⊎_elim
      (λ (l : k < r.slots). let e = floor_under k l in let h = proper.most k in omega arith)
      (λ (l : r.slots ≤ k). let e = get_d_padded_after (λ k. get_or f k 0) r.slots 16 0 k few l in omega arith)
      (below_or_not k r.slots)

  pub floors-proper : ProperRound r → ProperFloors r.slots f → ProperRound (with_floors r f)
  unfolding with_floors constraint_at
  floors-proper c proper =
      record {
        some_bidders = c.some_bidders;
        most_bidders = c.most_bidders;
        some_slots = c.some_slots;
        most_slots = c.most_slots;
        most_used = c.most_used;
        known_version = c.known_version;
        some_tick = c.some_tick;
        most_tick = c.most_tick;
        sized_effects = c.sized_effects;
        sized_floors = length-padded (λ k. get_or f k 0) r.slots 16 0 c.most_slots;
        sized_bids = c.sized_bids;
        sized_constraints = c.sized_constraints;
        most_bid = λ b. let e = floors_bid b in let h = c.most_bid b in omega arith;
        in_ticks = λ b. rw (floors_bid b) (c.in_ticks b);
        most_effect = λ k. let e = floors_effect k in let h = c.most_effect k in omega arith;
        no_rise = λ k s. let e = floors_effect k in let e' = floors_effect (suc k) in let h = c.no_rise k s in omega arith;
        most_floor = most_under c.most_slots proper;
        proper = c.proper;
        rising = c.rising;
      }

-- rounds with as many slots have the same floors
floors_of : (f : List ℕ) (r r' : Round) → r.slots ≡ r'.slots → (k : ℕ) → floor_of (with_floors r f) k ≡ floor_of (with_floors r' f) k
unfolding with_floors floor_of
floors_of f r r' m zero = refl
floors_of f r r' m (suc k) = ap (λ (n : ℕ). get_or (padded (λ k. get_or f k 0) n 16 0) k 0) m

-- Rounds of sheets with the same n, m, tick, effects and bids, under the same floors, have all these the same.
pub record SameTerms (r r' : Round) : Type 0 where
  pub bidders : r.bidders ≡ r'.bidders
  pub slots : r.slots ≡ r'.slots
  pub ticks : r.tick ≡ r'.tick
  pub floors : (k : ℕ) → floor_of r k ≡ floor_of r' k
  pub effects : (k : ℕ) → effect_of r k ≡ effect_of r' k
  pub bids : (b : ℕ) → bid_of r b ≡ bid_of r' b

pub same-terms : (f s t : List ℕ) → bidder_count s ≡ bidder_count t → slot_count s ≡ slot_count t → tick_field s ≡ tick_field t →
    ((k : ℕ) → 0 < k → k ≤ slot_count s → effect_field s k ≡ effect_field t k) →
    ((b : ℕ) → 0 < b → b ≤ bidder_count s → bid_field s b ≡ bid_field t b) →
    SameTerms (with_floors (round_of s) f) (with_floors (round_of t) f)
same-terms f s t n m tick effects bids =
    let r = round_of s in
    let r' = round_of t in
    let slots = round_slots s ∙ m ∙ sym (round_slots t) in
    record {
      bidders = floors-bidders r f ∙ round_bidders s ∙ n ∙ sym (floors-bidders r' f ∙ round_bidders t);
      slots = floors-slots r f ∙ slots ∙ sym (floors-slots r' f);
      ticks = floors_tick r f ∙ round_tick s ∙ tick ∙ sym (floors_tick r' f ∙ round_tick t);
      floors = floors_of f r r' slots;
      effects = λ k. floors_effect r f k ∙ effects_of s t m effects k ∙ sym (floors_effect r' f k);
      bids = λ b. floors_bid r f b ∙ bids_of s t n bids b ∙ sym (floors_bid r' f b);
    }

-- with a floor of 0 under each slot the round is the sheet's own
pub without-floors : (s f : List ℕ) → slot_count s ≤ 16 → ((k : ℕ) → k < slot_count s → get_or f k 0 ≡ 0) → with_floors (round_of s) f ≡ round_of s
unfolding with_floors round_of
without-floors s f few h =
    ap
    (λ (floors : List ℕ).
    let r = round_of s in
    record {
      bidders = r.bidders;
      slots = r.slots;
      used = r.used;
      tick = r.tick;
      version = r.version;
      effects = r.effects;
      floors = floors;
      bids = r.bids;
      constraints = r.constraints;
    })
    (padded_blanks (λ k. get_or f k 0) (slot_count s) 16 0 few h)

-- sixteen zeros are floors for every page
pub zeros_proper : (m : ℕ) → m ≤ 16 → ProperFloors m (replicate 16 0)
zeros_proper m few = record { enough = (let e = length-replicate {A = ℕ} 16 0 in omega arith); most = λ k. let e = zeros 16 k in omega arith }
