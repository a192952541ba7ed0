-- The first two of the eligible bidders, in the order in which they win: the first is the winner, and the second sets its critical bid, or where
-- there is none the floor does.
-- Assumes nothing.
use Prim.Native.Nat.{ℕ, zero, suc, ◌+◌, ◌-◌, ◌<◌, ◌≤◌}
use borrow.Author.Tests.{ltb-true, ltb-false}
use mathlib.Core.Bool.{Bool, true, false, cond}
use mathlib.Core.List.{List}
use mathlib.Core.Logic.{⊎_elim}
use mathlib.Core.Path.{◌≡◌, sym, ◌∙◌, ap, subst}
use native.Mathlib.Nat.{eq-or-lt_of_le}
use native.Mathlib.Omega.{arith}
use lib.Dec.{ltb}
use lib.ListN.{get_or}
use Rattle.basis.proofs.NumberLaws.{multiple-above}
use Rattle.basis.proofs.TestLaws.{holds_or_fails, not_both, fails}
use Rattle.choice.specs.Winner.{ranks_no_lower, winner}
use Rattle.choice.specs.Critical.{InTicks, floor_asks, critical_against, critical_bid}
use Rattle.choice.specs.EngineBids.{bid_in}
use Rattle.choice.specs.EngineRanking.{InOrder, NextAt}
use Rattle.choice.proofs.WinnerLaws.{ranks_cases, ranks_self, wins-winner}
use Rattle.choice.proofs.CriticalLaws.{against_lower, against_higher, floor_asks-least, critical_covers, critical_within, critical_alone}

-- a bidder's bid stands at the index before its number
pub bid_index : (bids : List ℕ) (b : ℕ) → 0 < b → bid_in bids b ≡ get_or bids (b - 1) 0
unfolding bid_in
bid_index bids zero s = absurd (omega arith)
bid_index bids (suc i) s =
    let q : i ≡ suc i - 1 = omega arith in
    ap (λ (k : ℕ). get_or bids k 0) q

-- the critical bid against a rival is its bid, and one tick more where its number is lower
pub against_sum : (tick : ℕ) (bid : ℕ → ℕ) (w j : ℕ) → critical_against tick bid w j ≡ bid j + cond (ltb j w) tick 0
unfolding critical_against
against_sum tick bid w j = by_test (ltb j w)
  where
    by_test : (t : Bool) → cond t (bid j + tick) (bid j) ≡ bid j + cond t tick 0
    by_test true = omega arith
    by_test false = omega arith

-- against who ranks no lower than a rival it is no less than against the rival
critical_no_less : (tick : ℕ) (bid : ℕ → ℕ) → InTicks tick bid → (w v u : ℕ) → ranks_no_lower bid v u ≡ true →
    critical_against tick bid w u ≤ critical_against tick bid w v
critical_no_less tick bid in_ticks w v u h =
    let least = against_sum tick bid w v in
    ⊎_elim
    (λ (t : ltb u w ≡ true).
    let l : u < w = ltb-true u w t in
    let a = against_lower tick bid w u l in
    ⊎_elim
    (λ (k : bid u < bid v). let m = multiple-above tick (bid u) (bid v) (in_ticks.multiple u) (in_ticks.multiple v) k in omega arith)
    (λ (k : (bid u ≡ bid v) × (v ≤ u)). let b = against_lower tick bid w v (omega arith) in omega arith)
    (ranks_cases bid v u h))
    (λ (t : ltb u w ≡ false).
    let a = against_higher tick bid w u (ltb-false u w t) in
    ⊎_elim (λ (k : bid u < bid v). omega arith) (λ (k : (bid u ≡ bid v) × (v ≤ u)). omega arith) (ranks_cases bid v u h))
    (holds_or_fails (ltb u w))

module _ (tick : ℕ) (eligible : ℕ → Bool) (bid : ℕ → ℕ) (in_ticks : InTicks tick bid) (n : ℕ) (ranked : List ℕ) (o : InOrder bid n ranked) where
  -- the bidder at an index ranks no lower than that at any later one
  order-at : (i j : ℕ) → i ≤ j → j < n → ranks_no_lower bid (get_or ranked i 0) (get_or ranked j 0) ≡ true
  order-at i j m l =
      ⊎_elim
      (λ (q : i ≡ j). subst (λ (k : ℕ). ranks_no_lower bid (get_or ranked i 0) (get_or ranked k 0) ≡ true) q (ranks_self bid (get_or ranked i 0)))
      (λ (k : i < j). (o.order i j k l).0)
      (eq-or-lt_of_le m)

  module _ (f : ℕ) (first : NextAt eligible ranked n 0 f) where
    -- an eligible bidder stands at the first eligible index, or after it
    stands : (b : ℕ) → 0 < b → b ≤ n → eligible b ≡ true → (i : ℕ) × (i < n) × (get_or ranked i 0 ≡ b) × (f ≤ i)
    stands b s m e =
        let p = o.everybody b s m in
        let i = p.0 in
        ⊎_elim
        (λ (t : ltb i f ≡ true).
        absurd (not_both (ap eligible p.2 ∙ e) (first.passed i (omega arith) (ltb-true i f t))))
        (λ (t : ltb i f ≡ false). (i, p.1, p.2, ltb-false i f t))
        (holds_or_fails (ltb i f))

    -- where there is none, nobody is eligible
    pub none-eligible : f ≡ n → (b : ℕ) → 0 < b → b ≤ n → eligible b ≡ false
    none-eligible q b s m =
        ⊎_elim
        (λ (e : eligible b ≡ true).
        let p = stands b s m e in
        let l : p.0 < n = p.1 in
        let l' : f ≤ p.0 = p.3 in
        absurd (omega arith))
        (λ (e : eligible b ≡ false). e)
        (holds_or_fails (eligible b))

    -- the bidder there is the winner
    pub first-wins : f < n → winner eligible bid n ≡ get_or ranked f 0
    first-wins l =
        wins-winner
        eligible
        bid
        n
        (get_or ranked f 0)
        (record {
          some = (o.some f l).0;
          most = (o.some f l).1;
          is_eligible = first.here l;
          first = λ b s m e.
              let p = stands b s m e in
              subst (λ (u : ℕ). ranks_no_lower bid (get_or ranked f 0) u ≡ true) p.2 (order-at f p.0 p.3 p.1);
        })

    module _ (l : f < n) (s : ℕ) (second : NextAt eligible ranked n (suc f) s) where
      -- a rival of the winner stands at the next eligible index, or after that
      rival_stands : (b : ℕ) → 0 < b → b ≤ n → eligible b ≡ true → (b ≡ get_or ranked f 0 → ⊥) →
          (i : ℕ) × (i < n) × (get_or ranked i 0 ≡ b) × (s ≤ i)
      rival_stands b z m e d =
          let p = stands b z m e in
          let i = p.0 in
          ⊎_elim
          (λ (q : f ≡ i). absurd (d (sym p.2 ∙ ap (λ (k : ℕ). get_or ranked k 0) (sym q))))
          (λ (h : f < i).
          ⊎_elim
          (λ (t : ltb i s ≡ true). absurd (not_both (ap eligible p.2 ∙ e) (second.passed i (omega arith) (ltb-true i s t))))
          (λ (t : ltb i s ≡ false). (i, p.1, p.2, ltb-false i s t))
          (holds_or_fails (ltb i s)))
          (eq-or-lt_of_le p.3)

      -- where there is none, the floor sets the critical bid,
      pub floor_sets : (floor : ℕ) → s ≡ n → critical_bid tick floor eligible bid (get_or ranked f 0) n ≡ floor_asks tick floor
      floor_sets floor q =
          critical_alone tick floor eligible bid (get_or ranked f 0) n
          (λ b z m d.
          fails (eligible b)
          (λ e.
          let p = rival_stands b z m e d in
          let h : p.0 < n = p.1 in
          let h' : s ≤ p.0 = p.3 in
          omega arith))

      -- and else the bidder there, which reaches the floor, sets it
      pub second_sets : (floor : ℕ) → ((b : ℕ) → eligible b ≡ true → floor ≤ bid b) → s < n →
          critical_bid tick floor eligible bid (get_or ranked f 0) n ≡ critical_against tick bid (get_or ranked f 0) (get_or ranked s 0)
      second_sets floor reaches h =
          let w = get_or ranked f 0 in
          let v = get_or ranked s 0 in
          let asks : floor_asks tick floor ≤ critical_against tick bid w v =
          (let own = floor_asks-least tick floor (bid v) in_ticks.some_tick (in_ticks.multiple v) (reaches v (second.here h)) in
          let sum = against_sum tick bid w v in
          omega arith) in
          let most : critical_bid tick floor eligible bid w n ≤ critical_against tick bid w v =
          critical_within tick floor eligible bid w n (critical_against tick bid w v) asks
          (λ b z m e d.
          let p = rival_stands b z m e d in
          critical_no_less tick bid in_ticks w v b (subst (λ (u : ℕ). ranks_no_lower bid v u ≡ true) p.2 (order-at s p.0 p.3 p.1))) in
          let least : critical_against tick bid w v ≤ critical_bid tick floor eligible bid w n =
          critical_covers tick floor eligible bid w n v (o.some s h).0 (o.some s h).1 (second.here h)
          (λ q. let k = second.low in (o.order f s (omega arith) h).1 (sym q)) in
          omega arith
