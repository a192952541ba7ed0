use Prim.Native.Nat.{ℕ, suc, ◌+◌}
use native.Mathlib.Numerals.{add-one}
use Rattle.std.proofs.lemmas.List.{length-take-le, get_or-take}
use mathlib.Core.Path.{◌≡◌, refl, ◌∙◌, ap}
use native.Mathlib.Omega.{arith}
use Rattle.basis.specs.Rows.{padded}
use Rattle.auction.specs.Greedy.{page_up_to, greedy_page}
use Rattle.auction.specs.Price.{price}
use Rattle.greedy.specs.EngineOutcome.{outcome_of}
use Rattle.greedy.proofs.FillLaws.{filled_start, lent-few, lent-in_ticks, slot_won, slot_filled}
use Rattle.greedy.proofs.fill.Goals as goal

pub loop-k-init : goal.loop-k-init
loop-k-init c =
    record {
      size_barred = refl;
      size_held = refl;
      filled = λ r lent. rw c.empty_page-page.ensures (filled_start r lent.proper);
    }

pub award_slot-awarded-requires-clause-in_order : goal.award_slot-awarded-requires-clause-in_order
award_slot-awarded-requires-clause-in_order c = (c.ranking_of-ranked.ensures, lent-in_ticks _ _ _ _ _ _ _ _ _ _ c.requires.1)

pub settle-requires-clause-winner_bound : goal.settle-requires-clause-winner_bound
settle-requires-clause-winner_bound c =
    let p = c.requires in
    let v = c.loop-k.invariant in
    let k = c.loop-k.k in
    let few = lent-few _ _ _ _ _ _ _ _ _ _ p.1 in
    let size = length-take-le c.args.slots c.args.asks.now p.1.some_asks in
    let asked = get_or-take c.args.slots c.args.asks.now k 0 (omega arith) in
    (slot_won p.0 _ _ _ _ _ _ _ _ _ p.1 _ _ _ _ _ _ _ k (k + 1) (add-one k) (omega arith) asked (v.filled p.0 p.1) c.award_slot-awarded.ensures, omega arith)

pub loop-k-preserved : goal.loop-k-preserved
loop-k-preserved c =
    let v = c.loop-k.invariant in
    let k = c.loop-k.k in
    let size = length-take-le c.args.slots c.args.asks.now c.requires.1.some_asks in
    let asked = get_or-take c.args.slots c.args.asks.now k 0 (omega arith) in
    record {
      size_barred = c.settle.auto.barred ∙ v.size_barred;
      size_held = c.settle.auto.held ∙ v.size_held;
      filled = λ r lent.
          rw c.with_bidder-page.ensures
          (slot_filled r _ _ _ _ _ _ _ _ _ lent _ _ _ _ _ _ _ k (k + 1) (add-one k) (omega arith) asked (v.filled r lent) c.award_slot-awarded.ensures _ _ c.settle.ensures);
    }

pub returns : goal.returns
unfolding outcome_of greedy_page
returns c = λ r lent.
    let f = c.loop-k.invariant.filled r lent in
    let size = length-take-le c.args.slots c.args.asks.now lent.some_asks in
    let m = lent.slots_are in
    let end : c.loop-k.k ≡ r.slots = omega arith in
    λ i. record {
      page = (f.page_is ∙ ap (page_up_to r) end) i;
      prices = (f.prices_are ∙ ap (λ (n : ℕ). padded (λ j. price r (suc j)) n 16 0) end) i;
    }
