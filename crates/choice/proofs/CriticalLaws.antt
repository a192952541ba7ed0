-- The critical bid is the least multiple of the tick that reaches the floor and with which the winner still wins. Assumes nothing.
use Prim.Native.Nat.{ℕ, zero, suc, ◌+◌, ◌-◌, ◌/◌, ◌%◌, ◌<◌, ◌≤◌, max}
use borrow.Author.Tests.{lt-ltb, le-ltb, eq-eqb, ne_eqb, ltb-true, ltb-false, eqb-true, eqb-false}
use mathlib.Core.Bool.{Bool, true, false, cond, not, ◌&&◌, and-false}
use mathlib.Core.Logic.{⊎_elim}
use mathlib.Core.Path.{◌≡◌, refl, sym, ◌∙◌, ap, ap₂, subst}
use native.Mathlib.Nat.{eq-or-lt_of_le, le_antisymm, le-max_left, zero-mod, mul_comm, mul-mod_left, mod-lt, div-add-mod, div-mul-le_self}
use native.Mathlib.Omega.{arith}
use lib.Dec.{eqb, ltb}
use lib.ListN.{replicate, length-replicate}
use Rattle.basis.proofs.NumberLaws.{below_or_not, multiple-above, multiple-next}
use Rattle.basis.proofs.RowLaws.{zeros}
use Rattle.basis.proofs.TestLaws.{holds_or_fails, not_both, same_tests, and_holds, not_holds}
use Rattle.sheet.proofs.FloorLaws.{zeros_proper}
use Rattle.choice.specs.Winner.{ranks_no_lower, winner}
use Rattle.choice.specs.Critical.{InTicks, floor_asks, critical_against, critical_bid, Asked}
use Rattle.choice.proofs.WinnerLaws.{Wins, ranks_higher, ranks_equal, ranks_cases, ranks_self, wins-winner, winner-wins}

-- Bids that differ at most in bidder w's.
pub record ExceptBid (bid bid' : ℕ → ℕ) (w : ℕ) : Type 0 where
  pub others : (j : ℕ) → (j ≡ w → ⊥) → bid' j ≡ bid j

-- against a rival with a lower number it is one tick more than its bid, and against one with a higher number its bid
pub against_lower : (tick : ℕ) (bid : ℕ → ℕ) (w j : ℕ) → j < w → critical_against tick bid w j ≡ bid j + tick
unfolding critical_against
against_lower tick bid w j h = ap (λ (t : Bool). cond t (bid j + tick) (bid j)) (lt-ltb j w h)

pub against_higher : (tick : ℕ) (bid : ℕ → ℕ) (w j : ℕ) → w ≤ j → critical_against tick bid w j ≡ bid j
unfolding critical_against
against_higher tick bid w j h = ap (λ (t : Bool). cond t (bid j + tick) (bid j)) (le-ltb j w h)

-- it depends on the rival's bid alone
against_same : (tick : ℕ) (bid bid' : ℕ → ℕ) (w j : ℕ) → bid j ≡ bid' j → critical_against tick bid w j ≡ critical_against tick bid' w j
unfolding critical_against
against_same tick bid bid' w j q = ap (λ (x : ℕ). cond (ltb j w) (x + tick) x) q

-- and is a multiple of the tick where that is
against_multiple : (tick : ℕ) (bid : ℕ → ℕ) (w j : ℕ) → bid j % tick ≡ 0 → critical_against tick bid w j % tick ≡ 0
unfolding critical_against
against_multiple tick bid w j e = by_test (ltb j w)
  where
    by_test : (t : Bool) → cond t (bid j + tick) (bid j) % tick ≡ 0
    by_test true = multiple-next tick (bid j) e
    by_test false = e

-- w ranks no lower than a rival exactly when its bid, a multiple of the tick, is at least the critical one against it
critical_ranks : (tick : ℕ) (bid bid' : ℕ → ℕ) (w j : ℕ) → 0 < tick → bid' j ≡ bid j → critical_against tick bid w j ≤ bid' w →
    ranks_no_lower bid' w j ≡ true
critical_ranks tick bid bid' w j some q h =
    ⊎_elim
    (λ (t : ltb j w ≡ true).
    let a = against_lower tick bid w j (ltb-true j w t) in
    ranks_higher bid' w j (omega arith))
    (λ (t : ltb j w ≡ false).
    let l : w ≤ j = ltb-false j w t in
    let a = against_higher tick bid w j l in
    let m : bid' j ≤ bid' w = omega arith in
    ⊎_elim
    (λ (k : bid' j ≡ bid' w). ranks_equal bid' w j k l)
    (λ (k : bid' j < bid' w). ranks_higher bid' w j k)
    (eq-or-lt_of_le m))
    (holds_or_fails (ltb j w))

ranks_critical : (tick : ℕ) (bid bid' : ℕ → ℕ) (w j : ℕ) → bid j % tick ≡ 0 → bid' w % tick ≡ 0 → bid' j ≡ bid j → ranks_no_lower bid' w j ≡ true →
    critical_against tick bid w j ≤ bid' w
ranks_critical tick bid bid' w j his own q h =
    ⊎_elim
    (λ (t : ltb j w ≡ true).
    let l : j < w = ltb-true j w t in
    let a = against_lower tick bid w j l in
    ⊎_elim
    (λ (k : bid' j < bid' w). let m = multiple-above tick (bid j) (bid' w) his own (omega arith) in omega arith)
    (λ (k : (bid' j ≡ bid' w) × (w ≤ j)). let z : ⊥ = omega arith in absurd z)
    (ranks_cases bid' w j h))
    (λ (t : ltb j w ≡ false).
    let a = against_higher tick bid w j (ltb-false j w t) in
    ⊎_elim (λ (k : bid' j < bid' w). omega arith) (λ (k : (bid' j ≡ bid' w) × (w ≤ j)). omega arith) (ranks_cases bid' w j h))
    (holds_or_fails (ltb j w))

-- What a floor asks is not below it, is a multiple of the tick, and is at most every multiple that is not below it.
pub floor_asks-multiple : (tick floor : ℕ) → floor_asks tick floor % tick ≡ 0
unfolding floor_asks
floor_asks-multiple tick floor = mul-mod_left ((floor + (tick - 1)) / tick) tick

pub floor_asks-reaches : (tick floor : ℕ) → 0 < tick → floor ≤ floor_asks tick floor
unfolding floor_asks
floor_asks-reaches tick floor some =
    let x = floor + (tick - 1) in
    let whole = div-add-mod x tick in
    let rest = mod-lt x some in
    let order = mul_comm tick (x / tick) in
    omega arith

pub floor_asks-least : (tick floor x : ℕ) → 0 < tick → x % tick ≡ 0 → floor ≤ x → floor_asks tick floor ≤ x
floor_asks-least tick floor x some multiple reaches =
    ⊎_elim
    (λ (l : x < floor_asks tick floor).
    let next = multiple-above tick x (floor_asks tick floor) multiple (floor_asks-multiple tick floor) l in
    let most : floor_asks tick floor ≤ floor + (tick - 1) = unfold floor_asks in div-mul-le_self (floor + (tick - 1)) tick in
    absurd (omega arith))
    (λ (l : floor_asks tick floor ≤ x). l)
    (below_or_not x (floor_asks tick floor))

-- So a bid in ticks is below a floor exactly where it is below what the floor asks, and no floor asks nothing.
pub asks_tells : (tick floor bid : ℕ) → 0 < tick → bid % tick ≡ 0 → ltb bid (floor_asks tick floor) ≡ ltb bid floor
asks_tells tick floor bid some multiple =
    same_tests (ltb bid (floor_asks tick floor)) (ltb bid floor)
    (λ t.
    lt-ltb bid floor
    (⊎_elim
    (λ (l : bid < floor). l)
    (λ (l : floor ≤ bid).
    let least = floor_asks-least tick floor bid some multiple l in
    let less = ltb-true bid (floor_asks tick floor) t in
    absurd (omega arith))
    (below_or_not bid floor)))
    (λ t.
    let less = ltb-true bid floor t in
    let reaches = floor_asks-reaches tick floor some in
    lt-ltb bid (floor_asks tick floor) (omega arith))

pub zero_asks : (tick : ℕ) → 0 < tick → floor_asks tick 0 ≡ 0
zero_asks tick some = let h = floor_asks-least tick 0 0 some (zero-mod tick) (omega arith) in omega arith

pub zeros_asked : (tick m : ℕ) → 0 < tick → m ≤ 16 → Asked tick m (replicate 16 0) (replicate 16 0)
zeros_asked tick m some few =
    record {
      proper = zeros_proper m few;
      enough = (let e = length-replicate {A = ℕ} 16 0 in omega arith);
      asks_are = λ k l. zeros 16 k ∙ sym (ap (floor_asks tick) (zeros 16 k) ∙ zero_asks tick some);
    }

module _ (tick floor : ℕ) (eligible : ℕ → Bool) (bid : ℕ → ℕ) (w : ℕ) where
  -- one bidder more: an eligible rival counts, and nobody else
  critical_rival : (i : ℕ) → eligible (suc i) ≡ true → (suc i ≡ w → ⊥) →
      critical_bid tick floor eligible bid w (suc i) ≡ max (critical_bid tick floor eligible bid w i) (critical_against tick bid w (suc i))
  unfolding critical_bid
  critical_rival i e d =
      ap
      (λ (t : Bool). max (critical_bid tick floor eligible bid w i) (cond t (critical_against tick bid w (suc i)) 0))
      (and_holds e (not_holds (ne_eqb (suc i) w d)))

  critical_barred : (i : ℕ) → eligible (suc i) ≡ false → critical_bid tick floor eligible bid w (suc i) ≡ critical_bid tick floor eligible bid w i
  unfolding critical_bid
  critical_barred i e =
      ap (λ (t : Bool). max (critical_bid tick floor eligible bid w i) (cond (t && not (eqb (suc i) w)) (critical_against tick bid w (suc i)) 0)) e ∙ omega arith

  critical_own : (i : ℕ) → suc i ≡ w → critical_bid tick floor eligible bid w (suc i) ≡ critical_bid tick floor eligible bid w i
  unfolding critical_bid
  critical_own i q =
      let no_rival : (eligible (suc i) && not (eqb (suc i) w)) ≡ false =
      ap (λ (t : Bool). eligible (suc i) && not t) (eq-eqb (suc i) w q) ∙ and-false (eligible (suc i)) in
      ap (λ (t : Bool). max (critical_bid tick floor eligible bid w i) (cond t (critical_against tick bid w (suc i)) 0)) no_rival ∙ omega arith

  critical_grows : (i : ℕ) → critical_bid tick floor eligible bid w i ≤ critical_bid tick floor eligible bid w (suc i)
  unfolding critical_bid
  critical_grows i = le-max_left (critical_bid tick floor eligible bid w i) (cond (eligible (suc i) && not (eqb (suc i) w)) (critical_against tick bid w (suc i)) 0)

  -- it is a multiple of the tick where the bids are,
  pub critical_multiple : (n : ℕ) → ((j : ℕ) → bid j % tick ≡ 0) → critical_bid tick floor eligible bid w n % tick ≡ 0
  unfolding critical_bid
  critical_multiple zero multiple = floor_asks-multiple tick floor
  critical_multiple (suc i) multiple =
      larger (critical_bid tick floor eligible bid w i) _ (critical_multiple i multiple)
      (counted (eligible (suc i) && not (eqb (suc i) w)))
    where
      larger : (a b : ℕ) → a % tick ≡ 0 → b % tick ≡ 0 → max a b % tick ≡ 0
      larger a b p q =
          ⊎_elim
          (λ (l : a < b). let m : max a b ≡ b = omega arith in ap (λ (x : ℕ). x % tick) m ∙ q)
          (λ (l : b ≤ a). let m : max a b ≡ a = omega arith in ap (λ (x : ℕ). x % tick) m ∙ p)
          (below_or_not a b)

      counted : (t : Bool) → cond t (critical_against tick bid w (suc i)) 0 % tick ≡ 0
      counted true = against_multiple tick bid w (suc i) (multiple (suc i))
      counted false = zero-mod tick

  -- it is not below what the floor asks,
  pub critical_floor : (n : ℕ) → floor_asks tick floor ≤ critical_bid tick floor eligible bid w n
  unfolding critical_bid
  critical_floor zero = omega arith
  critical_floor (suc i) = let h = critical_floor i in let g = critical_grows i in omega arith

  -- no eligible rival is above it,
  pub critical_covers : (n j : ℕ) → 0 < j → j ≤ n → eligible j ≡ true → (j ≡ w → ⊥) → critical_against tick bid w j ≤ critical_bid tick floor eligible bid w n
  critical_covers zero j s m e d = absurd (omega arith)
  critical_covers (suc i) j s m e d =
      ⊎_elim
      (λ (q : j ≡ suc i).
      let a = critical_rival i (ap eligible (sym q) ∙ e) (λ r. d (q ∙ r)) in
      let b : critical_against tick bid w j ≡ critical_against tick bid w (suc i) = ap (critical_against tick bid w) q in
      omega arith)
      (λ (l : j < suc i).
      let a = critical_covers i j s (omega arith) e d in
      let b = critical_grows i in
      omega arith)
      (eq-or-lt_of_le m)

  -- and it is above nothing that covers the floor and every eligible rival
  pub critical_within : (n most : ℕ) → floor_asks tick floor ≤ most → ((j : ℕ) → 0 < j → j ≤ n → eligible j ≡ true → (j ≡ w → ⊥) → critical_against tick bid w j ≤ most) →
      critical_bid tick floor eligible bid w n ≤ most
  unfolding critical_bid
  critical_within zero most asks h = asks
  critical_within (suc i) most asks h =
      let low : critical_bid tick floor eligible bid w i ≤ most = critical_within i most asks (λ j s m. h j s (omega arith)) in
      ⊎_elim
      (λ (e : eligible (suc i) ≡ true).
      ⊎_elim
      (λ (t : eqb (suc i) w ≡ true). let a = critical_own i (eqb-true (suc i) w t) in omega arith)
      (λ (t : eqb (suc i) w ≡ false).
      let d = eqb-false (suc i) w t in
      let a = critical_rival i e d in
      let b = h (suc i) (omega arith) (omega arith) e d in
      omega arith)
      (holds_or_fails (eqb (suc i) w)))
      (λ (e : eligible (suc i) ≡ false). let a = critical_barred i e in omega arith)
      (holds_or_fails (eligible (suc i)))

  -- where no rival is eligible it is what the floor asks
  pub critical_alone : (n : ℕ) → ((j : ℕ) → 0 < j → j ≤ n → (j ≡ w → ⊥) → eligible j ≡ false) → critical_bid tick floor eligible bid w n ≡ floor_asks tick floor
  critical_alone n h =
      le_antisymm (critical_within n (floor_asks tick floor) (omega arith) (λ j s m e d. absurd (not_both e (h j s m d)))) (critical_floor n)

module _ (tick floor : ℕ) (eligible : ℕ → Bool) (bid : ℕ → ℕ) (in_ticks : InTicks tick bid) (n w : ℕ) where
  -- with at least the critical bid, an eligible w wins
  pub enough-wins : (bid' : ℕ → ℕ) → ExceptBid bid bid' w → 0 < w → w ≤ n → eligible w ≡ true →
      critical_bid tick floor eligible bid w n ≤ bid' w → winner eligible bid' n ≡ w
  enough-wins bid' x s m e h =
      wins-winner
      eligible
      bid'
      n
      w
      (record {
        some = s;
        most = m;
        is_eligible = e;
        first = λ j s' m' a.
            ⊎_elim
            (λ (t : eqb j w ≡ true). ap (ranks_no_lower bid' w) (eqb-true j w t) ∙ ranks_self bid' w)
            (λ (t : eqb j w ≡ false).
            let d = eqb-false j w t in
            let c = critical_covers tick floor eligible bid w n j s' m' a d in
            critical_ranks tick bid bid' w j in_ticks.some_tick (x.others j d) (omega arith))
            (holds_or_fails (eqb j w));
      })

  -- a winner's critical bid is at most the multiple of the tick with which it reaches the floor and wins
  won_critical : (bid' : ℕ → ℕ) → ExceptBid bid bid' w → bid' w % tick ≡ 0 → floor ≤ bid' w → 0 < w → winner eligible bid' n ≡ w → critical_bid tick floor eligible bid w n ≤ bid' w
  won_critical bid' x own reaches s e =
      let h : Wins eligible bid' n w = subst (Wins eligible bid' n) e (winner-wins eligible bid' n (λ z. omega arith)) in
      critical_within tick floor eligible bid w n (bid' w) (floor_asks-least tick floor (bid' w) in_ticks.some_tick own reaches) (λ j s' m a d. ranks_critical tick bid bid' w j (in_ticks.multiple j) own (x.others j d) (h.first j s' m a))

  -- and with less it does not
  pub less_loses : (bid' : ℕ → ℕ) → ExceptBid bid bid' w → bid' w % tick ≡ 0 → floor ≤ bid' w → 0 < w → bid' w < critical_bid tick floor eligible bid w n → winner eligible bid' n ≡ w → ⊥
  less_loses bid' x own reaches s h e = let a = won_critical bid' x own reaches s e in omega arith

  -- so a winner's critical bid is at most its bid
  pub critical_at_most_bid : floor ≤ bid w → 0 < w → winner eligible bid n ≡ w → critical_bid tick floor eligible bid w n ≤ bid w
  critical_at_most_bid reaches s e = won_critical bid (record { others = λ j d. refl }) (in_ticks.multiple w) reaches s e

-- the critical bid does not depend on w's own bid, nor on whether w is eligible
pub critical_same : (tick floor : ℕ) (e e' : ℕ → Bool) (bid bid' : ℕ → ℕ) (n w : ℕ) →
    ((j : ℕ) → (j ≡ w → ⊥) → 0 < j → j ≤ n → e j ≡ e' j) → ((j : ℕ) → (j ≡ w → ⊥) → 0 < j → j ≤ n → bid j ≡ bid' j) →
    critical_bid tick floor e bid w n ≡ critical_bid tick floor e' bid' w n
unfolding critical_bid
critical_same tick floor e e' bid bid' zero w same same' = refl
critical_same tick floor e e' bid bid' (suc i) w same same' =
    let ih = critical_same tick floor e e' bid bid' i w (λ j d s m. same j d s (omega arith)) (λ j d s m. same' j d s (omega arith)) in
    ⊎_elim
    (λ (t : eqb (suc i) w ≡ true).
    let q = eqb-true (suc i) w t in
    critical_own tick floor e bid w i q ∙ ih ∙ sym (critical_own tick floor e' bid' w i q))
    (λ (t : eqb (suc i) w ≡ false).
    let d = eqb-false (suc i) w t in
    let is_eligible = same (suc i) d (omega arith) (omega arith) in
    let same-critical = against_same tick bid bid' w (suc i) (same' (suc i) d (omega arith) (omega arith)) in
    ap (λ (x : ℕ). max x (cond (e (suc i) && not (eqb (suc i) w)) (critical_against tick bid w (suc i)) 0)) ih
    ∙ ap₂ (λ (u : Bool) (a : ℕ). max (critical_bid tick floor e' bid' w i) (cond (u && not (eqb (suc i) w)) a 0)) is_eligible same-critical)
    (holds_or_fails (eqb (suc i) w))
