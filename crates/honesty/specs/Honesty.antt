-- Demand 3, over what the calls return.
use Rattle.std.specs.Prelude.{ℕ, ◌<◌, ◌≤◌, true, List, ◌≡◌, ◌≤ℤ◌}
use Rattle.sheet.specs.declared.Constraint.{Constraint}
use Rattle.sheet.specs.Sheet.{bidder_count, slot_count, tick_field, effect_field, bid_field}
use Rattle.sheet.specs.Refusal.{Accepted}
use Rattle.sheet.specs.Round.{SheetHas, round_of}
use Rattle.downward.specs.Downward.{downward}
use Rattle.floors.specs.Floors.{floors_refusal}
use Rattle.gain.specs.Call.{gained_floors_of}

-- "Two sheets differ only in one bidder's list when n, m, effects, bids and, for each other owner, the set of conditions are equal." And "both
-- sheets have the same tick": a version 1 sheet has tick 1, so the other may then be of version 2 with tick 1.
pub record DifferOnlyInList (i : ℕ) (s t : List ℕ) : Type 0 where
  pub same_n : bidder_count s ≡ bidder_count t
  pub same_m : slot_count s ≡ slot_count t
  pub same_tick : tick_field s ≡ tick_field t
  pub same_effects : (k : ℕ) → 0 < k → k ≤ slot_count s → effect_field s k ≡ effect_field t k
  pub same_bids : (b : ℕ) → 0 < b → b ≤ bidder_count s → bid_field s b ≡ bid_field t b
  pub there : (q : Constraint) → (q.owner.0 ≡ i → ⊥) → SheetHas s q → SheetHas t q
  pub back : (q : Constraint) → (q.owner.0 ≡ i → ⊥) → SheetHas t q → SheetHas s q

-- Let an honest sheet and another differ only in bidder i's list, and let the other's list be downward monotonic, whether it was tested or not. With any floors, the same for
-- both, and at any worth from i's bid up, the gain with the other sheet played is at most the gain with the honest sheet played; the honest sheet
-- tells the truth in both.
unfoldable pub Honesty : Type 0
Honesty =
    (floors honest other : List ℕ) (i worth : ℕ) → Accepted honest → Accepted other → floors_refusal (slot_count honest) floors ≡ 0 →
    DifferOnlyInList i honest other → 0 < i → i ≤ bidder_count other → downward (round_of other) i ≡ true →
    bid_field honest i ≤ worth → worth ≤ 1_000_000_000 →
    ((gained_floors_of floors honest honest i worth).refusal ≡ 0)
    × ((gained_floors_of floors other honest i worth).refusal ≡ 0)
    × ((gained_floors_of floors other honest i worth).gain ≤ℤ (gained_floors_of floors honest honest i worth).gain)
