-- The greedy page is a page of the round that breaks no constraint and obeys the floors, and each of its slots is filled by the greedy rule: its first slots are
-- the page as it was filled up to there. Assumes nothing.
use Prim.Native.Nat.{ℕ, zero, suc, ◌-◌, ◌<◌, ◌≤◌}
use mathlib.Core.Logic.{⊎_elim}
use mathlib.Core.Path.{◌≡◌, refl, sym, ◌∙◌, ap, ap₂, subst}
use native.Mathlib.Nat.{not-suc-le-zero}
use native.Mathlib.Omega.{arith}
use Rattle.sheet.specs.declared.Page.{Page}
use Rattle.sheet.specs.declared.Round.{Round}
use Rattle.basis.proofs.NumberLaws.{below_or_not}
use Rattle.sheet.specs.Round.{bid_of, floor_of}
use Rattle.sheet.specs.Proper.{ProperRound}
use Rattle.choice.specs.Winner.{ranks_no_lower}
use Rattle.choice.proofs.WinnerLaws.{ranks_cases}
use Rattle.auction.specs.Page.{at, put}
use Rattle.auction.specs.Allowed.{Allowed}
use Rattle.auction.specs.Eligible.{eligible}
use Rattle.auction.specs.Greedy.{winner_at, page_up_to, greedy_page}
use Rattle.auction.specs.Filled.{first_slots, FilledGreedily}
use Rattle.auction.proofs.BrokenLaws.{eligible-reaches}
use Rattle.auction.proofs.GreedyLaws.{
  up_to-next,
  up_to-sized,
  up_to-later,
  up_to-bidders,
  slot-winner,
  winner-eligible,
  empty-nobody,
  nobody_twice_lem,
  greedy-unbroken,
}

module _ (r : Round) (c : ProperRound r) where
  -- whoever stands at a slot was eligible for it, and so reaches its floor
  greedy-reaches : (k : ℕ) → (at (greedy_page r) k ≡ 0 → ⊥) → floor_of r k ≤ bid_of r (at (greedy_page r) k)
  unfolding at
  greedy-reaches zero h = absurd (h refl)
  greedy-reaches (suc k) h =
      ⊎_elim
      (λ (l : k < r.slots).
      let won = slot-winner r c.most_slots k l in
      subst (λ (b : ℕ). floor_of r (suc k) ≤ bid_of r b) (sym won)
      (eligible-reaches r (page_up_to r k) (suc k) (winner_at r (page_up_to r k) (suc k))
      (winner-eligible r (page_up_to r k) (suc k) (λ z. h (won ∙ z))).is_eligible))
      (λ (l : r.slots ≤ k). absurd (h (unfold greedy_page in up_to-later r r.slots (suc k) (omega arith))))
      (below_or_not k r.slots)

  pub greedy-allowed : Allowed r (greedy_page r)
  unfolding greedy_page
  greedy-allowed =
      record {
        page =
            record {
              sized = up_to-sized r r.slots;
              bidders = up_to-bidders r r.slots;
              slots = up_to-later r r.slots;
              once = λ j k. nobody_twice_lem r r.slots j k c.most_slots;
            };
        unbroken = greedy-unbroken r c;
        reached = greedy-reaches;
      }

  -- the first slots of the greedy page are the page as it was filled up to there
  first_slots_lem : (j : ℕ) → j ≤ r.slots → first_slots (greedy_page r) j ≡ page_up_to r j
  unfolding first_slots page_up_to
  first_slots_lem zero l = refl
  first_slots_lem (suc j) l =
      ap₂ (λ (p : Page) (b : ℕ). put p (suc j) b) (first_slots_lem j (omega arith)) (slot-winner r c.most_slots j l)
      ∙ sym (up_to-next r j)

  pub greedy_filled : (k : ℕ) → 0 < k → k ≤ r.slots → FilledGreedily r (greedy_page r) k
  greedy_filled zero some l = absurd (not-suc-le-zero some)
  greedy_filled (suc j) some l =
      let back : suc j - 1 ≡ j = omega arith in
      let here : first_slots (greedy_page r) (suc j - 1) ≡ page_up_to r j = ap (first_slots (greedy_page r)) back ∙ first_slots_lem j (omega arith) in
      let won = slot-winner r c.most_slots j l in
      record {
        nobody = λ z b s m.
            ap (λ (p : Page). eligible r p (suc j) b) here ∙ empty-nobody r (page_up_to r j) (suc j) (sym won ∙ z) b s m;
        somebody = λ h.
            ap₂ (λ (p : Page) (b : ℕ). eligible r p (suc j) b) here won
            ∙ (winner-eligible r (page_up_to r j) (suc j) (λ z. h (won ∙ z))).is_eligible;
        highest = λ h b s m e.
            ranks_cases (bid_of r) (at (greedy_page r) (suc j)) b
            (ap (λ (w : ℕ). ranks_no_lower (bid_of r) w b) won
            ∙ (winner-eligible r (page_up_to r j) (suc j) (λ z. h (won ∙ z))).first b s m
            (ap (λ (p : Page). eligible r p (suc j) b) (sym here) ∙ e));
      }
