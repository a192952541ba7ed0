-- On a round without floors whose lists all come from the profile "above named rivals", d + 1 times the greedy page's total is at least the total of every page,
-- where nobody is named by more than d bidders. Any page is a row of bidders, all eligible for the first slot, and the greedy page's winners make up for d + 1 of
-- the row each. Assumes nothing.
use Prim.Native.Nat.{ℕ, zero, suc, ◌*◌, ◌<◌, ◌≤◌}
use mathlib.Core.Bool.{Bool}
use mathlib.Core.Logic.{⊎_elim}
use mathlib.Core.Path.{◌≡◌, refl, ◌∙◌, ap}
use native.Mathlib.Omega.{arith}
use Rattle.basis.specs.Counting.{sum_to}
use Rattle.basis.proofs.NumberLaws.{below_or_not}
use Rattle.basis.proofs.SumLaws.{sum_same}
use Rattle.sheet.specs.declared.Page.{Page}
use Rattle.sheet.specs.declared.Round.{Round}
use Rattle.sheet.specs.Round.{bid_of, effect_of, floor_of}
use Rattle.sheet.specs.Proper.{ProperRound}
use Rattle.auction.specs.Page.{at}
use Rattle.auction.specs.Allowed.{PageOf, total_up_to, total}
use Rattle.auction.specs.Greedy.{page_up_to, greedy_page}
use Rattle.auction.proofs.GreedyLaws.{slot-winner, winner-bidder}
use Rattle.greedy_loss.proofs.ExchangeLaws.{adds, row-bound}
use Rattle.greedy_loss.proofs.FromAboveLaws.{FromAbove, NamedAtMost, eligible_for, won_by, first-eligible, stays_eligible, won_no_lower, effects_fall}

-- nobody's bid is 0
bid_nobody : (r : Round) → bid_of r 0 ≡ 0
unfolding bid_of
bid_nobody r = refl

-- a page's total is the sum over its row of bidders
pub row-total : (r : Round) (p : Page) → total r p ≡ sum_to (adds (bid_of r) (λ s. effect_of r (suc s)) (λ s. at p (suc s))) r.slots
unfolding total total_up_to sum_to
row-total r p = up_to r.slots
  where
    up_to : (k : ℕ) → total_up_to r p k ≡ sum_to (adds (bid_of r) (λ s. effect_of r (suc s)) (λ s. at p (suc s))) k
    up_to zero = refl
    up_to (suc k) = let before = up_to k in omega arith

-- d + 1 times the greedy page's total is at least that of every page, be conditions broken on it or not
pub far_below :
    (r : Round) → ProperRound r → ((k : ℕ) → floor_of r k ≡ 0) → (rival : ℕ → ℕ → Bool) → FromAbove r rival → (d : ℕ) → NamedAtMost rival r.bidders d →
    (p : Page) → PageOf r p → total r p ≤ suc d * total r (greedy_page r)
far_below r c without_floors rival v d few p ok =
    let effect : ℕ → ℕ = λ s. effect_of r (suc s) in
    let bound = row-bound (bid_of r) effect (won_by r c without_floors rival v) (eligible_for r c without_floors rival v) rival r.bidders r.slots d
    (record {
      nobody = bid_nobody r;
      falls = effects_fall r c;
      within = λ k. winner-bidder r (page_up_to r k) (suc k);
      won = λ k b room. won_no_lower r c without_floors rival v k b;
      stays = stays_eligible r c without_floors rival v;
      few = few;
    })
    (λ s. at p (suc s))
    (record {
      listed = λ s. ok.bidders (suc s);
      stands = λ s h. (
        ⊎_elim (λ (x : r.slots < suc s). absurd (h (ok.slots (suc s) x))) (λ (x : suc s ≤ r.slots). x) (below_or_not r.slots (suc s)),
        first-eligible r c without_floors rival v (at p (suc s)) h,
      );
      once = λ s t h e. (let same = ok.once (suc s) (suc t) h e in omega arith);
    }) in
    let winners = sum_same (adds (bid_of r) effect (λ s. at (greedy_page r) (suc s))) (adds (bid_of r) effect (won_by r c without_floors rival v)) r.slots
    (λ s l. ap (λ (x : ℕ). bid_of r x * effect s) (slot-winner r c.most_slots s l)) in
    let mine = row-total r p in
    let greedy = ap (λ (x : ℕ). suc d * x) (row-total r (greedy_page r) ∙ winners) in
    omega arith
