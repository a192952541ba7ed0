use Prim.Native.Nat.{ℕ, suc, ◌+◌, ◌*◌, ◌-◌, ◌<◌, ◌≤◌}
use mathlib.Core.Bool.{true, false}
use mathlib.Core.List.{List}
use mathlib.Core.Path.{◌≡◌, refl, sym, ◌∙◌, ap, ap₂}
use native.Mathlib.Omega.{arith}
use lib.ListN.{get_or}
use Rattle.basis.specs.Bits.{bit_of}
use Rattle.best_seats.specs.EngineSeats.{First, Rest}
use Rattle.best_seats.proofs.SeatLaws.{rest_start, rest_here, rest_between, rest_next, rest_done}
use Rattle.best_bound.specs.EngineBound.{slot_after, add_after, gain_in}
use Rattle.best_bound.proofs.BoundLaws.{slot_taken, add_taken, slots-none, added_none, added_alike}
use Rattle.best_bound.proofs.most_left.Invariants.{Gone}
use Rattle.best_bound.proofs.most_left.Goals.{After-gain_at-sum, Start}
use Rattle.best_bound.proofs.most_left.Goals as goal

-- what a call is given
record Given (gains : List ℕ) (from : ℕ) : Type 0 where
  some : 0 < from
  low : from ≤ 9
  each : (x : ℕ) → get_or gains x 0 ≤ 1000000000000000

-- one turn
module _ (gains : List ℕ) (whole from ranks at sum rank : ℕ) (g : Given gains from) (h : Gone gains whole from ranks at sum) (f : First ranks rank) where
  abbrev slot_of : ℕ → ℕ
  slot_of = slot_after (bit_of whole) (from - 1) 16

  abbrev add_of : ℕ → ℕ
  add_of = add_after (bit_of whole) (gain_in gains) (from - 1) 16

  here : (bit_of whole rank ≡ true) × (h.passed ≤ rank)
  here = rest_here whole ranks h.passed rank h.rest f

  -- the slot has a seat in the table
  slot_low : (0 < at) × (at ≤ 16)
  slot_low =
      let n = h.near in
      let e = h.next in
      let low = f.low in
      let p = here.1 in
      let q = g.low in
      (omega arith, omega arith)

  none_between : (r : ℕ) → h.passed ≤ r → r < h.passed + (rank - h.passed) → bit_of whole r ≡ false
  none_between r l b = rest_between whole ranks h.passed rank h.rest f r l (let p = here.1 in omega arith)

  up_to : h.passed + (rank - h.passed) ≡ rank
  up_to = let p = here.1 in omega arith

  slot_now : slot_of rank ≡ slot_of h.passed
  slot_now = ap slot_of (sym up_to) ∙ slots-none (bit_of whole) (from - 1) 16 h.passed (rank - h.passed) none_between

  add_now : add_of rank ≡ add_of h.passed
  add_now = ap add_of (sym up_to) ∙ added_none (bit_of whole) (gain_in gains) (from - 1) 16 h.passed (rank - h.passed) none_between

  slot_left : slot_of rank < 16
  slot_left =
      let e = h.next in
      let s = slot_low.1 in
      let n = slot_now in
      omega arith

  one_more : (less next x : ℕ) → Rest whole less (suc rank) → next ≡ suc at → x ≡ get_or gains (8 * (at - 1) + rank) 0 →
      Gone gains whole from less next (sum + x)
  unfolding gain_in
  one_more less next x rest below adds =
      let e = h.next in
      let p = here.1 in
      let n = slot_now in
      let low = f.low in
      let index : at - 1 ≡ slot_of rank = omega arith in
      record {
        passed = suc rank;
        rest = rest;
        next = (let t = slot_taken (bit_of whole) (from - 1) 16 rank here.0 slot_left in omega arith);
        so_far =
            ap₂ ◌+◌ (h.so_far ∙ sym add_now) (adds ∙ ap (λ (k : ℕ). get_or gains (8 * k + rank) 0) index)
            ∙ sym (add_taken (bit_of whole) (gain_in gains) (from - 1) 16 rank here.0 slot_left);
        near = (let t = h.near in omega arith);
        fits = (let t = h.fits in let y = g.each (8 * (at - 1) + rank) in omega arith);
        within = omega arith;
      }

-- when none is left
all_gone : (gains : List ℕ) (whole from ranks at sum : ℕ) → Gone gains whole from ranks at sum → ranks ≡ 0 →
    sum ≡ add_after (bit_of whole) (gain_in gains) (from - 1) 16 8
all_gone gains whole from ranks at sum h e =
    let w = h.within in
    let up_to : h.passed + (8 - h.passed) ≡ 8 = omega arith in
    h.so_far
    ∙ sym (added_none (bit_of whole) (gain_in gains) (from - 1) 16 h.passed (8 - h.passed) (λ r l b. rest_done whole ranks h.passed h.rest e r (omega arith) l))
    ∙ ap (add_after (bit_of whole) (gain_in gains) (from - 1) 16) up_to

given : (c : Start) → Given c.args.gains.now c.args.slot.0
given c = record { some = c.requires.0; low = c.requires.1; each = c.requires.2 }

-- what the rank at hand adds at its slot
gain_now : (c : After-gain_at-sum) →
    c.gain_at-sum.result
    ≡ get_or
    c.args.gains.now
    (8 * (c.loop-ranks.at.0 - 1) + c.first_rank.result.0)
    0
gain_now c = c.gain_at-sum.ensures ∙ ap (λ (x : ℕ). get_or c.args.gains.now x 0) c.seat_at-seat.ensures

pub loop-ranks-init : goal.loop-ranks-init
unfolding slot_after add_after
loop-ranks-init c =
    let g = given (goal.at.loop-ranks-init c).Start in
    let few = c.somewhere-ranks.ensures.0 in
    record {
      passed = 0;
      rest = rest_start _ _ (omega arith);
      next = (let s = g.some in omega arith);
      so_far = refl;
      near = omega arith;
      fits = omega arith;
      within = omega arith;
    }

pub loop-ranks-preserved : goal.loop-ranks-preserved
loop-ranks-preserved c =
    let v = c.loop-ranks.invariant in
    let f = c.first_rank.ensures in
    let less = c.after_first-ranks.ensures in
    one_more _ _ _ _ _ _ _
    (given (goal.at.loop-ranks-preserved c).Start)
    v
    f
    _
    _
    _
    (rest_next _ _ _ _ v.rest f _ less.0 (less.1 _ f))
    c.next_slot-at.ensures
    (gain_now (goal.at.loop-ranks-preserved c).After-gain_at-sum)

pub returns : goal.returns
returns c =
    all_gone _ _ _ _ _ _ c.loop-ranks.invariant c.loop-ranks-test.false
    ∙ added_alike _ _ _ _ _ 8 c.somewhere-ranks.ensures.1
