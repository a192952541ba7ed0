-- Demand 3: the theorem over what the calls return, from the theorem over rounds. Assumes nothing.
use Prim.Native.Nat.{ℕ, zero, suc, ◌<◌, ◌≤◌}
use borrow.Author.Tests.{eq-eqb, ne_eqb, le-ltb}
use mathlib.Core.List.{List}
use mathlib.Core.Path.{◌≡◌, refl, sym, ◌∙◌, ap, subst, subst₂}
use native.Mathlib.Omega.{arith}
use lib.IntN.{ℤ}
use lib.Signed.{◌≤ℤ◌}
use Rattle.sheet.specs.Sheet.{bidder_count, slot_count}
use Rattle.sheet.specs.Refusal.{refusal_of, Accepted}
use Rattle.sheet.specs.declared.Round.{Round}
use Rattle.sheet.specs.Round.{round_of, with_floors, constraint_at}
use Rattle.sheet.proofs.RoundLaws.{round_bidders, round_bid, sheet_round, round_sheet}
use Rattle.sheet.proofs.FloorLaws.{floors_bid, floors-bidders, floors-has, has-floors, same-terms}
use Rattle.floors.specs.Floors.{floors_refusal}
use Rattle.floors.proofs.FloorLaws.{passed_round}
use Rattle.auction.specs.Broken.{breaks_own}
use Rattle.auction.specs.Greedy.{greedy_page}
use Rattle.auction.specs.Except.{Except}
use Rattle.gain.specs.Gain.{slot_of, gain_at, gain_of}
use Rattle.gain.specs.Call.{Gained, later_refusal, gain_refusal, gained_floors_of}
use Rattle.gain.proofs.CallLaws.{for_gained, left_of_gain, floored-gains}
use Rattle.downward.specs.Downward.{list_has, asks_lower, downward}
use Rattle.honesty.specs.Honesty.{DifferOnlyInList, Honesty}
use Rattle.honesty.proofs.HonestyLaws.{honest_pays}

-- floors change neither whether a list is downward monotonic nor what a truth sheet's list is
downward-floors : (r : Round) (f : List ℕ) (i : ℕ) → downward (with_floors r f) i ≡ downward r i
unfolding downward list_has asks_lower with_floors constraint_at
downward-floors r f i = refl

truth_floors : (q t : Round) (f : List ℕ) (i v : ℕ) → gain_of q (with_floors t f) i v ≡ gain_of q t i v
unfolding gain_of gain_at breaks_own with_floors constraint_at
truth_floors q t f i v = by_slot (slot_of (greedy_page q) i)
  where
    by_slot : (k : ℕ) → gain_at k q (with_floors t f) i v ≡ gain_at k q t i v
    by_slot zero = refl
    by_slot (suc k) = refl

-- a call on accepted sheets of the same n and m, with a bidder and a worth in range, is not refused, whatever their ticks
pub none-later : (s t : List ℕ) (i v : ℕ) → Accepted t → bidder_count t ≡ bidder_count s → slot_count t ≡ slot_count s →
    0 < i → i ≤ bidder_count s → v ≤ 1_000_000_000 → later_refusal s t i v ≡ 0
unfolding later_refusal
none-later s t i v ok n m some within low =
    simp (
      eq-eqb (refusal_of t) 0 ok,
      eq-eqb (bidder_count t) (bidder_count s) n,
      eq-eqb (slot_count t) (slot_count s) m,
      ne_eqb i 0 (omega arith),
      le-ltb (bidder_count s) i within,
      le-ltb 1_000_000_000 v low,
    )

pub not_refused : (s t : List ℕ) (i v : ℕ) → Accepted s → Accepted t → bidder_count t ≡ bidder_count s → slot_count t ≡ slot_count s →
    0 < i → i ≤ bidder_count s → v ≤ 1_000_000_000 → gain_refusal s t i v ≡ 0
not_refused s t i v ok ok' n m some within low = left_of_gain s t i v ok ∙ none-later s t i v ok' n m some within low

-- the two rounds of a call with floors
module _ (f : List ℕ) where
  gained_is : (s t : List ℕ) (i v : ℕ) → Accepted s → floors_refusal (slot_count s) f ≡ 0 → later_refusal s t i v ≡ 0 →
      gained_floors_of f s t i v ≡ record { refusal = 0; gain = gain_of (with_floors (round_of s) f) (round_of t) i v }
  gained_is s t i v ok none later = sym (for_gained (later_refusal s t i v) (with_floors (round_of s) f) t i v later ∙ floored-gains f s t i v ok none)

  -- sheets that differ only in i's list have rounds that differ only there
  rounds_except : (i : ℕ) (s t : List ℕ) → Accepted s → Accepted t → DifferOnlyInList i s t → Except i (with_floors (round_of s) f) (with_floors (round_of t) f)
  rounds_except i s t ok ok' d =
      let r = round_of s in
      let r' = round_of t in
      let same = same-terms f s t d.same_n d.same_m d.same_tick d.same_effects d.same_bids in
      record {
        bidders = same.bidders;
        slots = same.slots;
        ticks = same.ticks;
        floors = same.floors;
        bids = λ a e. same.bids a;
        there = λ q e h. floors-has r' f q (sheet_round t ok' q (d.there q e (round_sheet s ok q (has-floors r f q h))));
        back = λ q e h. floors-has r f q (sheet_round s ok q (d.back q e (round_sheet t ok' q (has-floors r' f q h))));
      }

pub honesty : Honesty
unfolding Honesty
honesty f s o i v ok ok' floored d some most list low worth =
    let within : i ≤ bidder_count s = (let n = d.same_n in omega arith) in
    let floored' : floors_refusal (slot_count o) f ≡ 0 = ap (λ (m : ℕ). floors_refusal m f) (sym d.same_m) ∙ floored in
    let first = gained_is f s s i v ok floored (none-later s s i v ok refl refl some within worth) in
    let second = gained_is f o s i v ok' floored' (none-later o s i v ok d.same_n d.same_m some most worth) in
    let r = with_floors (round_of s) f in
    let r' = with_floors (round_of o) f in
    let terms = same-terms f s o d.same_n d.same_m d.same_tick d.same_effects d.same_bids in
    let pays : gain_of r' r i v ≤ℤ gain_of r r i v
    = honest_pays r r' i v (passed_round s f ok floored) (passed_round o f ok' floored') (rounds_except f i s o ok ok' d)
    (terms.bids i)
    terms.effects
    (downward-floors (round_of o) f i ∙ list) some
    (let n = round_bidders s in let e = floors-bidders (round_of s) f in omega arith)
    (subst (λ (a : ℕ). a ≤ v) (sym (floors_bid (round_of s) f i ∙ round_bid s ok i within)) low) in
    let same : (q : Round) → gain_of q r i v ≡ gain_of q (round_of s) i v = (λ q. truth_floors q (round_of s) f i v) in (
      ap (λ (g : Gained). g.refusal) first,
      ap (λ (g : Gained). g.refusal) second,
      subst₂ (λ (g h : ℤ). g ≤ℤ h) (sym (ap (λ (g : Gained). g.gain) second ∙ sym (same r'))) (sym (ap (λ (g : Gained). g.gain) first ∙ sym (same r))) pays,
    )
