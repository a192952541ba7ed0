-- `greedy::award_slot` meets its contract: the first two eligible bidders in the ranking. Assumes nothing.
use Prim.Native.Nat.{ℕ, suc}
use mathlib.Core.Path.{sym, ◌∙◌, ap, subst}
use native.Mathlib.Numerals.{add-one}
use native.Mathlib.Omega.{arith}
use Rattle.sheet.specs.Round.{floor_of}
use Rattle.choice.specs.Critical.{floor_asks}
use Rattle.choice.specs.EngineRanking.{NextAt}
use Rattle.auction.specs.Eligible.{eligible}
use Rattle.greedy.proofs.EligibleLaws.{lent-reaches}
use Rattle.greedy.proofs.award_slot.Goals.{then-first-bidders, else-first-bidders}
use Rattle.greedy.proofs.award_slot.Goals as goal

pub returns : goal.returns
returns c = λ q p same far.
    let a = c.args in
    let first = c.next_eligible-first.result in
    c.placing_at.ensures (floor_of q a.slot.0) (far.asks_is ∙ ap (λ (t : ℕ). floor_asks t (floor_of q a.slot.0)) same)
    (eligible q p a.slot.0) (lent-reaches q p _ _ _ _ _ _ far)
    (c.next_eligible-first.ensures.next_at q p far)
    (λ below.
    elim c.if-first-bidders.branch [
      | then-first-bidders w ↦
          subst (λ (k : ℕ). NextAt (eligible q p a.slot.0) a.ranked.now a.bidders (suc first) k) (sym w.second-is)
          (subst (λ (s : ℕ). NextAt (eligible q p a.slot.0) a.ranked.now a.bidders s w.next_eligible-second.result) (add-one first)
          (w.next_eligible-second.ensures.next_at q p far))
      | else-first-bidders w ↦ absurd (omega arith)
    ])
