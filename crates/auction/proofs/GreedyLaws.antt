-- The greedy page, slot by slot: each slot has its winner, what is filled stays, nobody stands twice, and no constraint is broken.
-- Assumes nothing.
use Prim.Native.Nat.{ℕ, zero, suc, ◌<◌, ◌≤◌}
use mathlib.Core.Bool.{false}
use mathlib.Core.Logic.{◌⊎◌, inl, inr, ⊎_elim}
use mathlib.Core.Path.{◌≡◌, refl, sym, ◌∙◌, ap, subst}
use native.Mathlib.Nat.{eq-or-lt_of_le, le_of_suc-le-suc, not-suc-le-zero}
use native.Mathlib.Omega.{arith}
use Rattle.basis.proofs.TestLaws.{not_both}
use Rattle.sheet.specs.declared.Constraint.{Constraint}
use Rattle.sheet.specs.declared.Page.{Page}
use Rattle.sheet.specs.declared.Round.{Round}
use Rattle.choice.specs.EngineBids.{bid_in}
use Rattle.auction.specs.Page.{at, put, Sized}
use Rattle.auction.specs.Broken.{broken, breaks}
use Rattle.auction.specs.Eligible.{eligible}
use Rattle.auction.specs.Greedy.{winner_at, fill_slot, page_up_to, greedy_page}
use Rattle.sheet.specs.Round.{bid_of, Has}
use Rattle.sheet.specs.Proper.{Proper, ProperRound}
use Rattle.choice.proofs.WinnerLaws.{Wins, winner-wins, winner-none, none-winner, winner-most}
use Rattle.auction.proofs.PageLaws.{put-sized, empty-sized, at-put-same, at-put-other, at-empty, at-within, placed_at, put-nobody, Keeps, keeps_refl, keeps_trans, put_keeps}
use Rattle.basis.proofs.NumberLaws.{same_or_not}
use Rattle.auction.proofs.BrokenLaws.{empty-unbroken, eligible_unplaced, eligible-unbroken, none-breaks}

-- a bid in the round's list is the bidder's
pub bid_in_lem : (r : Round) (b : ℕ) → bid_in r.bids b ≡ bid_of r b
unfolding bid_in bid_of
bid_in_lem r zero = refl
bid_in_lem r (suc i) = refl

module _ (r : Round) where
  pub up_to-next : (k : ℕ) → page_up_to r (suc k) ≡ put (page_up_to r k) (suc k) (winner_at r (page_up_to r k) (suc k))
  unfolding page_up_to fill_slot
  up_to-next k = refl

  pub up_to-sized : (k : ℕ) → Sized (page_up_to r k)
  unfolding page_up_to fill_slot
  up_to-sized zero = empty-sized
  up_to-sized (suc k) = put-sized (page_up_to r k) (suc k) (winner_at r (page_up_to r k) (suc k)) (up_to-sized k)

  -- slots after the k-th are still empty
  pub up_to-later : (k j : ℕ) → k < j → at (page_up_to r k) j ≡ 0
  unfolding page_up_to fill_slot
  up_to-later zero j l = at-empty j
  up_to-later (suc k) j l =
      at-put-other (page_up_to r k) (suc k) (winner_at r (page_up_to r k) (suc k)) j (λ e. absurd (omega arith)) ∙ up_to-later k j (omega arith)

  pub up_to-slot : (k : ℕ) → suc k ≤ 16 → at (page_up_to r (suc k)) (suc k) ≡ winner_at r (page_up_to r k) (suc k)
  unfolding page_up_to fill_slot
  up_to-slot k m = at-put-same (page_up_to r k) (suc k) (winner_at r (page_up_to r k) (suc k)) (up_to-sized k) (omega arith) m

  pub up_to_keeps_next : (k : ℕ) → Keeps (page_up_to r k) (page_up_to r (suc k))
  unfolding page_up_to fill_slot
  up_to_keeps_next k = put_keeps (page_up_to r k) (suc k) (winner_at r (page_up_to r k) (suc k)) (up_to-later k (suc k) (omega arith))

  -- what is filled stays
  pub up_to_keeps : (k l : ℕ) → k ≤ l → Keeps (page_up_to r k) (page_up_to r l)
  up_to_keeps k zero h = subst (λ (x : ℕ). Keeps (page_up_to r x) (page_up_to r 0)) (let e : 0 ≡ k = omega arith in e) (keeps_refl (page_up_to r 0))
  up_to_keeps k (suc l) h =
      ⊎_elim
      (λ (e : k ≡ suc l). subst (λ (x : ℕ). Keeps (page_up_to r x) (page_up_to r (suc l))) (sym e) (keeps_refl (page_up_to r (suc l))))
      (λ (lt : k < suc l).
      keeps_trans (page_up_to r k) (page_up_to r l) (page_up_to r (suc l)) (up_to_keeps k l (le_of_suc-le-suc lt)) (up_to_keeps_next l))
      (eq-or-lt_of_le h)

  -- a slot keeps its winner, or stays empty, to the end
  pub up_to_settled : (k l : ℕ) → k < l → l ≤ 16 → at (page_up_to r l) (suc k) ≡ winner_at r (page_up_to r k) (suc k)
  unfolding page_up_to fill_slot
  up_to_settled k zero h m = absurd (not-suc-le-zero h)
  up_to_settled k (suc l) h m =
      ⊎_elim
      (λ (e : k ≡ l). subst (λ (x : ℕ). at (page_up_to r (suc l)) (suc x) ≡ winner_at r (page_up_to r x) (suc x)) (sym e) (up_to-slot l m))
      (λ (lt : k < l).
      at-put-other (page_up_to r l) (suc l) (winner_at r (page_up_to r l) (suc l)) (suc k) (λ e. absurd (omega arith))
      ∙ up_to_settled k l lt (omega arith))
      (eq-or-lt_of_le (le_of_suc-le-suc h))

  -- the page's slot k + 1 has the winner of that slot
  pub slot-winner : r.slots ≤ 16 → (k : ℕ) → k < r.slots → at (greedy_page r) (suc k) ≡ winner_at r (page_up_to r k) (suc k)
  unfolding greedy_page
  slot-winner m k l = up_to_settled k r.slots l m

  -- a winner is eligible
  pub winner-eligible : (p : Page) (k : ℕ) → (winner_at r p k ≡ 0 → ⊥) → Wins (eligible r p k) (bid_of r) r.bidders (winner_at r p k)
  unfolding winner_at
  winner-eligible p k h = winner-wins (eligible r p k) (bid_of r) r.bidders h

  -- "A place is empty exactly when nobody is eligible."
  pub empty-nobody : (p : Page) (k : ℕ) → winner_at r p k ≡ 0 → (b : ℕ) → 0 < b → b ≤ r.bidders → eligible r p k b ≡ false
  unfolding winner_at
  empty-nobody p k e b s m = winner-none (eligible r p k) (bid_of r) r.bidders e b s m

  pub nobody-empty : (p : Page) (k : ℕ) → ((b : ℕ) → 0 < b → b ≤ r.bidders → eligible r p k b ≡ false) → winner_at r p k ≡ 0
  unfolding winner_at
  nobody-empty p k h = none-winner (eligible r p k) (bid_of r) r.bidders h

  pub winner-bidder : (p : Page) (k : ℕ) → winner_at r p k ≤ r.bidders
  unfolding winner_at
  winner-bidder p k = winner-most (eligible r p k) (bid_of r) r.bidders

  -- everybody on the page is one of the round's bidders
  pub up_to-bidders : (k j : ℕ) → at (page_up_to r k) j ≤ r.bidders
  unfolding page_up_to fill_slot
  up_to-bidders zero j = let e = at-empty j in omega arith
  up_to-bidders (suc k) j =
      ⊎_elim
      (λ (e : j ≡ suc k).
      ⊎_elim
      (λ (m : suc k ≤ 16).
      let here : at (page_up_to r (suc k)) (suc k) ≡ winner_at r (page_up_to r k) (suc k) = up_to-slot k m in
      subst (λ (x : ℕ). at (page_up_to r (suc k)) x ≤ r.bidders) (sym e)
      (subst (λ (x : ℕ). x ≤ r.bidders) (sym here) (winner-bidder (page_up_to r k) (suc k))))
      (λ (z : at (page_up_to r (suc k)) (suc k) ≡ 0).
      subst (λ (x : ℕ). at (page_up_to r (suc k)) x ≤ r.bidders) (sym e) (omega arith))
      (within_or_empty (suc k)))
      (λ (d : j ≡ suc k → ⊥).
      subst (λ (x : ℕ). x ≤ r.bidders) (sym (at-put-other (page_up_to r k) (suc k) (winner_at r (page_up_to r k) (suc k)) j d)) (up_to-bidders k j))
      (same_or_not j (suc k))
    where
      within_or_empty : (x : ℕ) → (x ≤ 16) ⊎ (at (page_up_to r (suc k)) x ≡ 0)
      within_or_empty x =
          ⊎_elim
          (λ (z : at (page_up_to r (suc k)) x ≡ 0). inr z)
          (λ (h : at (page_up_to r (suc k)) x ≡ 0 → ⊥). inl (at-within (page_up_to r (suc k)) x (up_to-sized (suc k)) h).1)
          (same_or_not (at (page_up_to r (suc k)) x) 0)

  -- "no bidder two places"
  pub nobody_twice_lem : (l j k : ℕ) → l ≤ 16 → (at (page_up_to r l) j ≡ 0 → ⊥) → at (page_up_to r l) j ≡ at (page_up_to r l) k → j ≡ k
  unfolding page_up_to fill_slot
  nobody_twice_lem zero j k m s e = absurd (s (at-empty j))
  nobody_twice_lem (suc l) j k m s e =
      ⊎_elim
      (λ (x : j ≡ suc l).
      ⊎_elim
      (λ (y : k ≡ suc l). x ∙ sym y)
      (λ (y : k ≡ suc l → ⊥). absurd (new_again k y (λ z. s (e ∙ z)) (sym (ap (at (page_up_to r (suc l))) (sym x) ∙ e))))
      (same_or_not k (suc l)))
      (λ (x : j ≡ suc l → ⊥).
      ⊎_elim
      (λ (y : k ≡ suc l). absurd (new_again j x s (e ∙ ap (at (page_up_to r (suc l))) y)))
      (λ (y : k ≡ suc l → ⊥).
      let before-j = at-put-other (page_up_to r l) (suc l) (winner_at r (page_up_to r l) (suc l)) j x in
      let before-k = at-put-other (page_up_to r l) (suc l) (winner_at r (page_up_to r l) (suc l)) k y in
      nobody_twice_lem l j k (omega arith) (λ z. s (before-j ∙ z)) (sym before-j ∙ e ∙ before-k))
      (same_or_not k (suc l)))
      (same_or_not j (suc l))
    where
      -- the new winner stood nowhere before
      new_again : (i : ℕ) → (i ≡ suc l → ⊥) → (at (page_up_to r (suc l)) i ≡ 0 → ⊥) → at (page_up_to r (suc l)) i ≡ at (page_up_to r (suc l)) (suc l) → ⊥
      new_again i d some same =
          let p = page_up_to r l in
          let w = winner_at r p (suc l) in
          let old : at (page_up_to r (suc l)) i ≡ at p i = at-put-other p (suc l) w i d in
          let new : at p i ≡ w = sym old ∙ same ∙ up_to-slot l m in
          let won = winner-eligible p (suc l) (λ z. some (old ∙ new ∙ z)) in
          let place = at-within p i (up_to-sized l) (λ z. some (old ∙ z)) in
          not_both (placed_at p w i place.0 place.1 new) (eligible_unplaced r p (suc l) w won.is_eligible)

  -- no constraint of the round is broken on the way
  pub up_to-unbroken : ((q : Constraint) → Has r q → Proper q) → (k : ℕ) → k ≤ 16 → (q : Constraint) → Has r q → broken (page_up_to r k) q ≡ false
  unfolding page_up_to fill_slot
  up_to-unbroken f zero m q h = empty-unbroken q (f q h)
  up_to-unbroken f (suc k) m q h =
      ⊎_elim
      (λ (z : winner_at r (page_up_to r k) (suc k) ≡ 0).
      ap (λ (x : ℕ). broken (put (page_up_to r k) (suc k) x) q) z
      ∙ ap (λ (x : Page). broken x q) (put-nobody (page_up_to r k) (suc k) (up_to-later k (suc k) (omega arith)))
      ∙ up_to-unbroken f k (omega arith) q h)
      (λ (s : winner_at r (page_up_to r k) (suc k) ≡ 0 → ⊥).
      eligible-unbroken r (page_up_to r k) (suc k) (winner_at r (page_up_to r k) (suc k)) (up_to-sized k) (omega arith) m
      (winner-eligible (page_up_to r k) (suc k) s).is_eligible q h)
      (same_or_not (winner_at r (page_up_to r k) (suc k)) 0)

  -- the greedy page breaks no constraint
  pub greedy-unbroken : ProperRound r → breaks r (greedy_page r) ≡ false
  unfolding greedy_page
  greedy-unbroken c = none-breaks r (page_up_to r r.slots) (up_to-unbroken c.proper r.slots c.most_slots)
