-- Two rounds that differ only in one bidder's list and bid play alike until that bidder has a slot in one of them: its constraints
-- bind nobody before. Rounds with the same sets of constraints play alike throughout, break and allow the same. Assumes nothing.
use Prim.Native.Nat.{ℕ, zero, suc, ◌+◌, ◌*◌, ◌<◌, ◌≤◌}
use mathlib.Core.Bool.{true, false, ◌&&◌}
use mathlib.Core.Logic.{⊎_elim}
use mathlib.Core.Path.{◌≡◌, refl, sym, ◌∙◌, ap, ap₂, subst}
use native.Mathlib.Omega.{arith}
use lib.Dec.{eqb}
use Rattle.basis.proofs.TestLaws.{not_both, fails, same_tests}
use Rattle.sheet.specs.declared.Constraint.{Constraint}
use Rattle.sheet.specs.declared.Page.{Page}
use Rattle.sheet.specs.declared.Round.{Round}
use Rattle.choice.specs.Winner.{winner}
use Rattle.auction.specs.Page.{at, put, placed, Sized}
use Rattle.auction.specs.Broken.{broken, breaks, breaks_own}
use Rattle.auction.specs.Allowed.{Allowed, total_up_to, total}
use Rattle.auction.specs.Eligible.{eligible}
use Rattle.auction.specs.Greedy.{winner_at, page_up_to, greedy_page}
use Rattle.sheet.specs.Round.{bid_of, effect_of, Has}
use Rattle.sheet.proofs.RoundLaws.{any_of_set}
use Rattle.auction.specs.Except.{Except, SameSets}
use Rattle.choice.proofs.WinnerLaws.{winner-without}
use Rattle.auction.proofs.PageLaws.{placed-put, placed_where, put-placed, keeps_placed}
use Rattle.basis.proofs.NumberLaws.{same_or_not}
use Rattle.auction.proofs.BrokenLaws.{unplaced_unbroken, eligible-reaches, eligible_unplaced, eligible-unbroken, unbroken-eligible}
use Rattle.auction.proofs.GreedyLaws.{up_to-next, up_to-sized, up_to_keeps_next, up_to-bidders}

pub except_sym : (i : ℕ) (r r' : Round) → Except i r r' → Except i r' r
except_sym i r r' x =
    record {
      bidders = sym x.bidders;
      slots = sym x.slots;
      ticks = sym x.ticks;
      floors = λ k. sym (x.floors k);
      bids = λ b d. sym (x.bids b d);
      there = x.back;
      back = x.there;
    }

-- where i has no slot, another bidder that is eligible in one round is eligible in the other
eligible_across : (i : ℕ) (r r' : Round) → Except i r r' → (p : Page) (k b : ℕ) → Sized p → 0 < k → k ≤ 16 →
    placed p i ≡ false → (b ≡ i → ⊥) → eligible r p k b ≡ true → eligible r' p k b ≡ true
eligible_across i r r' x p k b s l m u d e =
    unbroken-eligible r' p k b
    (let reaches = eligible-reaches r p k b e in let floor = x.floors k in let bid = x.bids b d in omega arith)
    (eligible_unplaced r p k b e)
    (λ q h.
    ⊎_elim
    (λ (o : q.owner.0 ≡ i).
    unplaced_unbroken (put p k b) q
    (fails (placed (put p k b) q.owner.0)
    (λ t.
    ⊎_elim
    (λ (z : q.owner.0 ≡ b). d (sym z ∙ o))
    (λ (z : placed p q.owner.0 ≡ true). not_both (sym (ap (placed p) o) ∙ z) u)
    (placed-put p k b q.owner.0 s l m t))))
    (λ (o : q.owner.0 ≡ i → ⊥). eligible-unbroken r p k b s l m e q (x.back q o h))
    (same_or_not q.owner.0 i))

pub eligible_except : (i : ℕ) (r r' : Round) → Except i r r' → (p : Page) (k b : ℕ) → Sized p → 0 < k → k ≤ 16 →
    placed p i ≡ false → (b ≡ i → ⊥) → eligible r p k b ≡ eligible r' p k b
eligible_except i r r' x p k b s l m u d =
    same_tests (eligible r p k b) (eligible r' p k b)
    (eligible_across i r r' x p k b s l m u d)
    (eligible_across i r' r (except_sym i r r' x) p k b s l m u d)

-- a slot that i wins in neither round has the same winner in both
pub winner_except : (i : ℕ) (r r' : Round) → Except i r r' → (p : Page) (k : ℕ) → Sized p → 0 < k → k ≤ 16 → placed p i ≡ false →
    (winner_at r p k ≡ i → ⊥) → (winner_at r' p k ≡ i → ⊥) → winner_at r p k ≡ winner_at r' p k
unfolding winner_at
winner_except i r r' x p k s l m u w w' =
    let same_count = ap (winner (eligible r' p k) (bid_of r')) x.bidders in
    winner-without (eligible r p k) (eligible r' p k) (bid_of r) (bid_of r') r.bidders i
    (λ j d a z. eligible_except i r r' x p k j s l m u d)
    (λ j d a z. x.bids j d)
    w
    (λ e. w' (sym same_count ∙ e))
    ∙ same_count

-- i had no slot before the last was filled, and did not win that
pub unplaced_before : (r : Round) (i k : ℕ) → (i ≡ 0 → ⊥) → suc k ≤ 16 → placed (page_up_to r (suc k)) i ≡ false →
    (placed (page_up_to r k) i ≡ false) × (winner_at r (page_up_to r k) (suc k) ≡ i → ⊥)
unplaced_before r i k s m u = (
  fails (placed (page_up_to r k) i) (λ t. not_both (keeps_placed (page_up_to r k) (page_up_to r (suc k)) i s (up_to_keeps_next r k) t) u),
  λ e.
      not_both
      (subst (λ (x : ℕ). placed x' x ≡ true) e (put-placed (page_up_to r k) (suc k) (winner_at r (page_up_to r k) (suc k)) (up_to-sized r k) (omega arith) m))
      (ap (λ (y : Page). placed y i) (sym (up_to-next r k)) ∙ u),
)
  where
    x' : Page
    x' = put (page_up_to r k) (suc k) (winner_at r (page_up_to r k) (suc k))

-- where i has no slot in either round, the pages are the same
pub pages_agree : (i : ℕ) (r r' : Round) → Except i r r' → (i ≡ 0 → ⊥) → (k : ℕ) → k ≤ 16 →
    placed (page_up_to r k) i ≡ false → placed (page_up_to r' k) i ≡ false → page_up_to r k ≡ page_up_to r' k
unfolding page_up_to
pages_agree i r r' x s zero m u u' = refl
pages_agree i r r' x s (suc k) m u u' =
    let past = unplaced_before r i k s m u in
    let past' = unplaced_before r' i k s m u' in
    let same = pages_agree i r r' x s k (omega arith) past.0 past'.0 in
    let won = winner_except i r r' x (page_up_to r k) (suc k) (up_to-sized r k) (omega arith) m past.0 past.1
    (λ e. past'.1 (ap (λ (p : Page). winner_at r' p (suc k)) (sym same) ∙ e)) in
    up_to-next r k
    ∙ ap₂ (λ (p : Page) (w : ℕ). put p (suc k) w) same (won ∙ ap (λ (p : Page). winner_at r' p (suc k)) same)
    ∙ sym (up_to-next r' k)

-- nobody with a number above the round's bidders has a slot
pub stranger_unplaced : (r : Round) (i k : ℕ) → r.bidders < i → placed (page_up_to r k) i ≡ false
stranger_unplaced r i k l =
    fails (placed (page_up_to r k) i)
    (λ t. let w = placed_where (page_up_to r k) i t in let h = up_to-bidders r k w.0 in let e : at (page_up_to r k) w.0 ≡ i = w.3 in absurd (omega arith))

pub sets_except : (i : ℕ) (r r' : Round) → SameSets r r' → Except i r r'
sets_except i r r' x =
    record {
      bidders = x.bidders;
      slots = x.slots;
      ticks = x.ticks;
      floors = x.floors;
      bids = λ b d. x.bids b;
      there = λ q d. x.there q;
      back = λ q d. x.back q;
    }

-- the page depends on each owner's set of constraints only
pub up_to-sets : (r r' : Round) → SameSets r r' → (k : ℕ) → k ≤ 16 → page_up_to r k ≡ page_up_to r' k
up_to-sets r r' x k m =
    pages_agree (suc r.bidders) r r' (sets_except (suc r.bidders) r r' x) (λ e. absurd (omega arith)) k m
    (stranger_unplaced r (suc r.bidders) k (omega arith))
    (stranger_unplaced r' (suc r.bidders) k (let h = x.bidders in omega arith))

pub page-sets : (r r' : Round) → SameSets r r' → r.slots ≤ 16 → greedy_page r ≡ greedy_page r'
unfolding greedy_page
page-sets r r' x m = up_to-sets r r' x r.slots m ∙ ap (page_up_to r') x.slots

pub sets_sym : (r r' : Round) → SameSets r r' → SameSets r' r
sets_sym r r' x =
    record {
      bidders = sym x.bidders;
      slots = sym x.slots;
      ticks = sym x.ticks;
      floors = λ k. sym (x.floors k);
      bids = λ b. sym (x.bids b);
      there = x.back;
      back = x.there;
    }

-- so does what a page breaks, of anybody's list and of one bidder's
module _ (r r' : Round) (there : (q : Constraint) → Has r q → Has r' q) (back : (q : Constraint) → Has r' q → Has r q) (p : Page) where
  pub breaks-sets : breaks r p ≡ breaks r' p
  unfolding breaks
  breaks-sets = any_of_set r r' (broken p) there back

  pub own-sets : (i : ℕ) → breaks_own r p i ≡ breaks_own r' p i
  unfolding breaks_own
  own-sets i = any_of_set r r' (λ q. eqb q.owner.0 i && broken p q) there back

-- and which pages are allowed; with the same effects their totals are the same
pub allowed-sets : (r r' : Round) → SameSets r r' → (p : Page) → Allowed r p → Allowed r' p
allowed-sets r r' x p ok =
    record {
      page =
          record {
            sized = ok.page.sized;
            bidders = λ k. let h = ok.page.bidders k in let n = x.bidders in omega arith;
            slots = λ k l. ok.page.slots k (let m = x.slots in omega arith);
            once = ok.page.once;
          };
      unbroken = sym (breaks-sets r r' x.there x.back p) ∙ ok.unbroken;
      reached = λ k s. let h = ok.reached k s in let floor = x.floors k in let bid = x.bids (at p k) in omega arith;
    }

module _ (r r' : Round) (x : SameSets r r') (effects : (k : ℕ) → effect_of r k ≡ effect_of r' k) (p : Page) where
  total_up_to_lem : (k : ℕ) → total_up_to r p k ≡ total_up_to r' p k
  unfolding total_up_to
  total_up_to_lem zero = refl
  total_up_to_lem (suc k) = ap₂ ◌+◌ (total_up_to_lem k) (ap₂ ◌*◌ (x.bids (at p (suc k))) (effects (suc k)))

  pub total-sets : total r p ≡ total r' p
  unfolding total
  total-sets = total_up_to_lem r.slots ∙ ap (total_up_to r' p) x.slots
