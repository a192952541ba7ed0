-- Demand 3 over rounds. Take the round with the true list and one with a downward monotonic list of bidder i instead.
--   1. In the other round i has no slot: it gains 0, and the honest gain is never below 0, since a price is at most the bid and so
--      at most the worth, and the honest page breaks no true constraint.
--   2. It has a slot where a true constraint is broken: it pays and gains nothing.
--   3. It has a slot k and no true constraint is broken. Then the honest round gives it no slot before k: if it did, i would be
--      eligible there by its true list and not by the other, and a downward monotonic list that bars it there bars it from k too. So
--      both rounds fill the slots before k alike, i is eligible for k by both lists, wins it in both, and pays the same critical bid.
--   Floors may be in any order: i bids the same in both rounds, so it reaches a slot's floor in both or in neither.
-- Assumes nothing.
use Prim.Native.Nat.{ℕ, zero, suc, ◌*◌, ◌-◌, ◌<◌, ◌≤◌}
use mathlib.Core.Bool.{Bool, true, false}
use mathlib.Core.Logic.{⊎_elim}
use mathlib.Core.Path.{◌≡◌, refl, sym, ◌∙◌, ap, ap₂, subst}
use native.Mathlib.Nat.{not-suc-le-zero}
use native.Mathlib.Omega.{arith}
use lib.IntN.{ℤ, pos, neg_ℤ}
use lib.Signed.{◌≤ℤ◌, ≤ℤ_refl}
use Rattle.basis.proofs.TestLaws.{holds_or_fails, not_both, holds, fails}
use Rattle.sheet.specs.declared.Constraint.{Constraint}
use Rattle.sheet.specs.declared.Page.{Page}
use Rattle.sheet.specs.declared.Round.{Round}
use Rattle.choice.specs.Winner.{winner}
use Rattle.choice.proofs.WinnerLaws.{winner-same}
use Rattle.auction.specs.Page.{at, put, placed, Sized}
use Rattle.auction.specs.Broken.{broken, breaks, breaks_own}
use Rattle.auction.specs.Eligible.{eligible}
use Rattle.auction.specs.Greedy.{winner_at, page_up_to, greedy_page}
use Rattle.sheet.specs.Round.{bid_of, effect_of, floor_of, Has}
use Rattle.sheet.specs.Proper.{ProperRound}
use Rattle.auction.specs.Price.{price}
use Rattle.auction.specs.Except.{Except}
use Rattle.auction.proofs.PageLaws.{placed_where, placed_at, Keeps, keeps_placed}
use Rattle.basis.proofs.NumberLaws.{same_or_not, below_or_not}
use Rattle.auction.proofs.BrokenLaws.{broken_stays, breaks_where, breaks_own-at, breaks-none, eligible-reaches, eligible_unplaced, eligible-unbroken, unbroken-eligible}
use Rattle.auction.proofs.GreedyLaws.{
  up_to-next,
  up_to-sized,
  up_to-later,
  up_to_keeps,
  up_to_settled,
  winner-eligible,
}
use Rattle.auction.proofs.ExceptLaws.{eligible_except, pages_agree}
use Rattle.auction.proofs.PriceLaws.{price-at_most_bid, price_except}
use Rattle.downward.specs.Downward.{downward}
use Rattle.gain.specs.Gain.{slot_of, gain_if, gain_at, gain_of}
use Rattle.gain.proofs.SlotLaws.{
  gain_plus,
  minus_at-most_plus,
  zero-at-most_plus,
  slot_won,
  won_slot,
  true_unbroken,
}
use Rattle.honesty.proofs.BlockedLaws.{Blocked, broken_blocks, blocked_below, blocked_ineligible}

-- an unplaced bidder that reaches the floor and is not eligible breaks a constraint there
ineligible_where : (r : Round) (p : Page) (k b : ℕ) → floor_of r k ≤ bid_of r b → placed p b ≡ false → eligible r p k b ≡ false → (q : Constraint) × Has r q × (broken (put p k b) q ≡ true)
ineligible_where r p k b reaches u e =
    breaks_where r (put p k b)
    (holds (breaks r (put p k b)) (λ f. not_both (unbroken-eligible r p k b reaches u (breaks-none r (put p k b) f)) e))

-- a bidder with a slot among the first k won it
won_among : (r : Round) (i k : ℕ) → (i ≡ 0 → ⊥) → k ≤ 16 → placed (page_up_to r k) i ≡ true → (j : ℕ) × (j < k) × (winner_at r (page_up_to r j) (suc j) ≡ i)
won_among r i k s m e = at_slot (placed_where (page_up_to r k) i e)
  where
    by_slot : (x : ℕ) → 0 < x → at (page_up_to r k) x ≡ i → (j : ℕ) × (j < k) × (winner_at r (page_up_to r j) (suc j) ≡ i)
    by_slot zero p h = absurd (not-suc-le-zero p)
    by_slot (suc j) p h =
        let inside : j < k
        = ⊎_elim
        (λ (l : j < k). l)
        (λ (l : k ≤ j). absurd (s (sym h ∙ up_to-later r k (suc j) (omega arith))))
        (below_or_not j k) in
        (j, inside, sym (up_to_settled r j k inside m) ∙ h)

    at_slot : (x : ℕ) × (0 < x) × (x ≤ 16) × (at (page_up_to r k) x ≡ i) → (j : ℕ) × (j < k) × (winner_at r (page_up_to r j) (suc j) ≡ i)
    at_slot w = by_slot w.0 w.1 w.3

-- whoever wins a slot had none before
winner_unplaced : (r : Round) (i k : ℕ) → (i ≡ 0 → ⊥) → winner_at r (page_up_to r k) (suc k) ≡ i →
    (eligible r (page_up_to r k) (suc k) i ≡ true) × (placed (page_up_to r k) i ≡ false)
winner_unplaced r i k s e =
    let may-stand : eligible r (page_up_to r k) (suc k) i ≡ true
    = subst (λ (x : ℕ). eligible r (page_up_to r k) (suc k) x ≡ true) e (winner-eligible r (page_up_to r k) (suc k) (λ z. s (sym e ∙ z))).is_eligible in
    (may-stand, eligible_unplaced r (page_up_to r k) (suc k) i may-stand)

-- The two rounds: r has i's true list, r' another.
module _ (r r' : Round) (i : ℕ) (c : ProperRound r) (c' : ProperRound r') (x : Except i r r') (same_bid : bid_of r i ≡ bid_of r' i) (some : 0 < i) where
  i_some : i ≡ 0 → ⊥
  i_some e = absurd (omega arith)

  bids-same : (b : ℕ) → bid_of r b ≡ bid_of r' b
  bids-same b = ⊎_elim (λ (e : b ≡ i). ap (bid_of r) e ∙ same_bid ∙ ap (bid_of r') (sym e)) (λ (d : b ≡ i → ⊥). x.bids b d) (same_or_not b i)

  -- where both lists let i in, the slot has the same winner
  both_eligible : (p : Page) (k : ℕ) → Sized p → 0 < k → k ≤ 16 → placed p i ≡ false → eligible r p k i ≡ true → eligible r' p k i ≡ true →
      winner_at r p k ≡ winner_at r' p k
  unfolding winner_at
  both_eligible p k s l m u e e' =
      winner-same (eligible r p k) (eligible r' p k) (bid_of r) (bid_of r') r.bidders
      (λ j a z.
      ⊎_elim
      (λ (q : j ≡ i). ap (eligible r p k) q ∙ e ∙ sym e' ∙ ap (eligible r' p k) (sym q))
      (λ (d : j ≡ i → ⊥). eligible_except i r r' x p k j s l m u d)
      (same_or_not j i))
      (λ j a z. bids-same j)
      ∙ ap (winner (eligible r' p k) (bid_of r')) x.bidders

  -- where only the true list lets i in, the other list has a constraint of i that blocks it
  blocks : (p : Page) (k : ℕ) → Sized p → 0 < k → k ≤ 16 → placed p i ≡ false → eligible r p k i ≡ true → eligible r' p k i ≡ false → Blocked r' i p k
  blocks p k s l m u e e' =
      let reaches = eligible-reaches r p k i e in
      let floor = x.floors k in
      let w = ineligible_where r' p k i (omega arith) u e' in
      ⊎_elim
      (λ (o : w.0.owner.0 ≡ i). broken_blocks p k i s l m u i_some r' w.0 w.1 (c'.proper w.0 w.1) o w.2)
      (λ (o : w.0.owner.0 ≡ i → ⊥).
      absurd (not_both w.2 (eligible-unbroken r p k i s l m e w.0 (x.back w.0 o w.1))))
      (same_or_not w.0.owner.0 i)

  few : r.slots ≤ 16
  few = c.most_slots

  -- Let the other list be downward monotonic, and give i slot k + 1.
  module _ (down : downward r' i ≡ true) (k : ℕ) (inside : k < r'.slots) (won : winner_at r' (page_up_to r' k) (suc k) ≡ i) where
    few' : r'.slots ≤ 16
    few' = c'.most_slots

    unplaced' : (j : ℕ) → j ≤ k → placed (page_up_to r' j) i ≡ false
    unplaced' j l =
        fails (placed (page_up_to r' j) i)
        (λ t.
        not_both (keeps_placed (page_up_to r' j) (page_up_to r' k) i i_some (up_to_keeps r' j k l) t) (winner_unplaced r' i k i_some won).1)

    -- the honest round gives i no slot before
    no_slot-before : placed (page_up_to r k) i ≡ false
    no_slot-before = fails (placed (page_up_to r k) i) (λ t. earlier (won_among r i k i_some (let h = few' in omega arith) t))
      where
        earlier : (j : ℕ) × (j < k) × (winner_at r (page_up_to r j) (suc j) ≡ i) → ⊥
        earlier w =
            let j = w.0 in
            let less : j < k = w.1 in
            let room : suc j ≤ 16 = (let h = few' in omega arith) in
            let p = page_up_to r j in
            let first = winner_unplaced r i j i_some w.2 in
            let same : page_up_to r j ≡ page_up_to r' j = pages_agree i r r' x i_some j (omega arith) first.1 (unplaced' j (omega arith)) in
            let lost : winner_at r' p (suc j) ≡ i → ⊥
            = (λ e.
            let e' : winner_at r' (page_up_to r' j) (suc j) ≡ i = ap (λ (q : Page). winner_at r' q (suc j)) (sym same) ∙ e in
            not_both
            (placed_at (page_up_to r' k) i (suc j) (omega arith) room (up_to_settled r' j k less (let h = few' in omega arith) ∙ e'))
            (unplaced' k (omega arith))) in
            ⊎_elim
            (λ (t : eligible r' p (suc j) i ≡ true).
            lost (sym (both_eligible p (suc j) (up_to-sized r j) (omega arith) room first.1 first.0 t) ∙ w.2))
            (λ (t : eligible r' p (suc j) i ≡ false).
            let stopped = blocks p (suc j) (up_to-sized r j) (omega arith) room first.1 first.0 t in
            let later : Blocked r' i p (suc k) = blocked_below r' i p (suc j) (suc k) down (omega arith) (omega arith) (omega arith) stopped in
            blocked_ineligible r' c' i p (page_up_to r' k) (suc k) later
            (subst (λ (q : Page). Keeps q (page_up_to r' k)) (sym same) (up_to_keeps r' j k (omega arith)))
            (up_to-sized r' k) (omega arith) (let h = few' in omega arith) (up_to-later r' k (suc k) (omega arith))
            (winner_unplaced r' i k i_some won).0)
            (holds_or_fails (eligible r' p (suc j) i))

    same-before : page_up_to r k ≡ page_up_to r' k
    same-before = pages_agree i r r' x i_some k (let h = few' in omega arith) no_slot-before (unplaced' k (omega arith))

    -- where no true constraint is broken on the other page, i wins the same slot in the honest round
    won_too : breaks_own r (greedy_page r') i ≡ false → winner_at r (page_up_to r k) (suc k) ≡ i
    unfolding greedy_page
    won_too unbroken =
        let p = page_up_to r k in
        let room : suc k ≤ 16 = (let h = few' in omega arith) in
        let may-stand' : eligible r' p (suc k) i ≡ true
        = ap (λ (q : Page). eligible r' q (suc k) i) same-before ∙ (winner_unplaced r' i k i_some won).0 in
        let may-stand : eligible r p (suc k) i ≡ true
        = holds (eligible r p (suc k) i)
        (λ f.
        let reaches = eligible-reaches r' p (suc k) i may-stand' in
        let floor = x.floors (suc k) in
        let w = ineligible_where r p (suc k) i (omega arith) no_slot-before f in
        ⊎_elim
        (λ (o : w.0.owner.0 ≡ i).
        let next : put p (suc k) i ≡ page_up_to r' (suc k)
        = ap₂ (λ (q : Page) (v : ℕ). put q (suc k) v) same-before (sym won) ∙ sym (up_to-next r' k) in
        not_both
        (breaks_own-at r (page_up_to r' r'.slots) i w.0 w.1 o
        (broken_stays (page_up_to r' (suc k)) (page_up_to r' r'.slots) w.0 (up_to_keeps r' (suc k) r'.slots inside)
        (c.proper w.0 w.1) (ap (λ (q : Page). broken q w.0) (sym next) ∙ w.2)))
        unbroken)
        (λ (o : w.0.owner.0 ≡ i → ⊥).
        not_both w.2
        (eligible-unbroken r' p (suc k) i (up_to-sized r k) (omega arith) room may-stand' w.0 (x.there w.0 o w.1)))
        (same_or_not w.0.owner.0 i)) in
        both_eligible p (suc k) (up_to-sized r k) (omega arith) room no_slot-before may-stand may-stand'
        ∙ ap (λ (q : Page). winner_at r' q (suc k)) same-before
        ∙ won

module _ (r : Round) (c : ProperRound r) (i : ℕ) (some : 0 < i) where
  -- what an honest bidder gains: nothing without a slot, and else what the worth is above the price
  pub honest-gain : (v : ℕ) → bid_of r i ≤ v → i ≤ r.bidders → (n : ℕ) × (gain_of r r i v ≡ pos n)
  unfolding gain_of gain_at
  honest-gain v low within = by_slot (slot_of (greedy_page r) i) refl
    where
      by_slot : (s : ℕ) → slot_of (greedy_page r) i ≡ s → (n : ℕ) × (gain_of r r i v ≡ pos n)
      by_slot zero e = (0, ap (λ (s : ℕ). gain_at s r r i v) e)
      by_slot (suc k) e =
          let won = slot_won r c i some k e in
          let sized = c.sized_bids in
          let many = c.most_bidders in
          let paid = price-at_most_bid r k i c won.0 (omega arith) some won.1 in (
            effect_of r (suc k) * (v - price r (suc k)),
            ap (λ (s : ℕ). gain_at s r r i v) e
                ∙ ap (λ (t : Bool). gain_if t (effect_of r (suc k)) v (price r (suc k))) (true_unbroken r c i some)
                ∙ gain_plus (effect_of r (suc k)) v (price r (suc k)) (omega arith),
          )

-- Demand 3 over rounds.
pub honest_pays : (r r' : Round) (i v : ℕ) → ProperRound r → ProperRound r' → Except i r r' → bid_of r i ≡ bid_of r' i →
    ((k : ℕ) → effect_of r k ≡ effect_of r' k) → downward r' i ≡ true → 0 < i → i ≤ r.bidders → bid_of r i ≤ v →
    gain_of r' r i v ≤ℤ gain_of r r i v
unfolding gain_of gain_at gain_if
honest_pays r r' i v c c' x same_bid same_effects down some within low = by_slot (slot_of (greedy_page r') i) refl
  where
    honest : (n : ℕ) × (gain_of r r i v ≡ pos n)
    honest = honest-gain r c i some v low within

    at_most : (z : ℤ) → gain_of r' r i v ≡ z → z ≤ℤ pos honest.0 → gain_of r' r i v ≤ℤ gain_of r r i v
    at_most z e l = subst (λ (g : ℤ). gain_of r' r i v ≤ℤ g) (sym honest.1) (subst (λ (g : ℤ). g ≤ℤ pos honest.0) (sym e) l)

    by_slot : (s : ℕ) → slot_of (greedy_page r') i ≡ s → gain_of r' r i v ≤ℤ gain_of r r i v
    by_slot zero e = at_most (pos 0) (ap (λ (s : ℕ). gain_at s r' r i v) e) (zero-at-most_plus honest.0)
    by_slot (suc k) e =
        let won = slot_won r' c' i some k e in
        let here = ap (λ (s : ℕ). gain_at s r' r i v) e in
        ⊎_elim
        (λ (t : breaks_own r (greedy_page r') i ≡ true).
        at_most (neg_ℤ (pos (effect_of r' (suc k) * price r' (suc k))))
        (here ∙ ap (λ (b : Bool). gain_if b (effect_of r' (suc k)) v (price r' (suc k))) t)
        (minus_at-most_plus (effect_of r' (suc k) * price r' (suc k)) honest.0))
        (λ (t : breaks_own r (greedy_page r') i ≡ false).
        let won-honest = won_too r r' i c c' x same_bid some down k won.0 won.1 t in
        let slots = x.slots in
        let sized = c.sized_bids in
        let sized' = c'.sized_bids in
        let many = c.most_bidders in
        let inside : k < r.slots = (let l = won.0 in omega arith) in
        let paid : price r (suc k) ≡ price r' (suc k)
        = price_except r r' k i x c c' inside some (omega arith) (omega arith)
        (same-before r r' i c c' x same_bid some down k won.0 won.1) won-honest won.1 in
        let equal : gain_of r' r i v ≡ gain_of r r i v
        = here
        ∙ ap (λ (b : Bool). gain_if b (effect_of r' (suc k)) v (price r' (suc k))) (t ∙ sym (true_unbroken r c i some))
        ∙ ap₂ (λ (a p : ℕ). gain_if (breaks_own r (greedy_page r) i) a v p) (sym (same_effects (suc k))) (sym paid)
        ∙ sym (ap (λ (s : ℕ). gain_at s r r i v) (won_slot r c i some k inside won-honest)) in
        subst (λ (g : ℤ). gain_of r' r i v ≤ℤ g) equal (≤ℤ_refl (gain_of r' r i v)))
        (holds_or_fails (breaks_own r (greedy_page r') i))
