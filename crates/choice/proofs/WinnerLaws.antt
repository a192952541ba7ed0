-- The winner is the one bidder that is eligible and ranks no lower than every eligible bidder. Assumes nothing.
use Prim.Native.Nat.{ℕ, zero, suc, ◌<◌, ◌≤◌}
use borrow.Author.Tests.{ltb-true, ltb-false, leb-true, leb-false, eqb-true, lt-ltb, le-leb, eq-eqb}
use mathlib.Core.Bool.{Bool, true, false, not, ◌&&◌, ◌||◌}
use mathlib.Core.Logic.{◌⊎◌, inl, inr, ⊎_elim}
use mathlib.Core.Path.{◌≡◌, refl, sym, ◌∙◌, ap, ap₂, subst}
use native.Mathlib.Nat.{eq-or-lt_of_le}
use native.Mathlib.Omega.{arith}
use lib.Dec.{eqb, ltb, leb}
use Rattle.basis.specs.First.{◌when◌otherwise◌, first_over}
use Rattle.basis.specs.Tests.{all_below}
use Rattle.basis.proofs.FirstLaws.{first_found, first-all-none}
use Rattle.basis.proofs.TestLaws.{holds_or_fails, not_both, fails, and_holds, and_parts, or_left, or_right, or_parts, not_holds, not_fails, all-at, at_all}
use Rattle.choice.specs.Winner.{ranks_no_lower, wins, winner}

-- "The eligible bidder with the highest bid wins; equal bids go to the lower number."
pub record Wins (eligible : ℕ → Bool) (bid : ℕ → ℕ) (n w : ℕ) : Type 0 where
  pub some : 0 < w
  pub most : w ≤ n
  pub is_eligible : eligible w ≡ true
  pub first : (j : ℕ) → 0 < j → j ≤ n → eligible j ≡ true → ranks_no_lower bid w j ≡ true

module _ (bid : ℕ → ℕ) where
  -- b ranks no lower than j exactly when its bid is higher, or equal and its number not above j's
  pub ranks_higher : (b j : ℕ) → bid j < bid b → ranks_no_lower bid b j ≡ true
  unfolding ranks_no_lower
  ranks_higher b j h = or_left (eqb (bid j) (bid b) && leb b j) (lt-ltb (bid j) (bid b) h)

  pub ranks_equal : (b j : ℕ) → bid j ≡ bid b → b ≤ j → ranks_no_lower bid b j ≡ true
  unfolding ranks_no_lower
  ranks_equal b j e h = or_right (ltb (bid j) (bid b)) (and_holds (eq-eqb (bid j) (bid b) e) (le-leb b j h))

  pub ranks_cases : (b j : ℕ) → ranks_no_lower bid b j ≡ true → (bid j < bid b) ⊎ ((bid j ≡ bid b) × (b ≤ j))
  unfolding ranks_no_lower
  ranks_cases b j e =
      ⊎_elim
      (λ (h : ltb (bid j) (bid b) ≡ true). inl (ltb-true (bid j) (bid b) h))
      (λ (h : (eqb (bid j) (bid b) && leb b j) ≡ true).
      let both = and_parts (eqb (bid j) (bid b)) (leb b j) h in
      inr (eqb-true (bid j) (bid b) both.0, leb-true b j both.1))
      (or_parts (ltb (bid j) (bid b)) (eqb (bid j) (bid b) && leb b j) e)

  pub ranks_antisym : (b j : ℕ) → ranks_no_lower bid b j ≡ true → ranks_no_lower bid j b ≡ true → b ≡ j
  ranks_antisym b j p q =
      ⊎_elim
      (λ (h : bid j < bid b).
      ⊎_elim
      (λ (k : bid b < bid j). let z : ⊥ = omega arith in absurd z)
      (λ (k : (bid b ≡ bid j) × (j ≤ b)). let z : ⊥ = omega arith in absurd z)
      (ranks_cases j b q))
      (λ (h : (bid j ≡ bid b) × (b ≤ j)).
      ⊎_elim
      (λ (k : bid b < bid j). let z : ⊥ = omega arith in absurd z)
      (λ (k : (bid b ≡ bid j) × (j ≤ b)). omega arith)
      (ranks_cases j b q))
      (ranks_cases b j p)

  pub ranks_trans : (a b c : ℕ) → ranks_no_lower bid a b ≡ true → ranks_no_lower bid b c ≡ true → ranks_no_lower bid a c ≡ true
  ranks_trans a b c p q =
      ⊎_elim
      (λ (h : bid b < bid a).
      ⊎_elim
      (λ (k : bid c < bid b). ranks_higher a c (omega arith))
      (λ (k : (bid c ≡ bid b) × (b ≤ c)). ranks_higher a c (omega arith))
      (ranks_cases b c q))
      (λ (h : (bid b ≡ bid a) × (a ≤ b)).
      ⊎_elim
      (λ (k : bid c < bid b). ranks_higher a c (omega arith))
      (λ (k : (bid c ≡ bid b) × (b ≤ c)). ranks_equal a c (omega arith) (omega arith))
      (ranks_cases b c q))
      (ranks_cases a b p)

  pub ranks_total : (b j : ℕ) → ranks_no_lower bid b j ≡ false → ranks_no_lower bid j b ≡ true
  ranks_total b j p =
      ⊎_elim
      (λ (h : ltb (bid b) (bid j) ≡ true). ranks_higher j b (ltb-true (bid b) (bid j) h))
      (λ (h : ltb (bid b) (bid j) ≡ false).
      let l : bid j ≤ bid b = ltb-false (bid b) (bid j) h in
      ⊎_elim
      (λ (k : bid j ≡ bid b).
      ⊎_elim
      (λ (m : leb j b ≡ true). ranks_equal j b (sym k) (leb-true j b m))
      (λ (m : leb j b ≡ false). let o : b < j = leb-false j b m in absurd (not_both (ranks_equal b j k (omega arith)) p))
      (holds_or_fails (leb j b)))
      (λ (k : bid j < bid b). absurd (not_both (ranks_higher b j k) p))
      (eq-or-lt_of_le l))
      (holds_or_fails (ltb (bid b) (bid j)))

  -- a bidder ranks no lower than itself
  pub ranks_self : (b : ℕ) → ranks_no_lower bid b b ≡ true
  ranks_self b = ranks_equal b b refl (omega arith)

module _ (eligible : ℕ → Bool) (bid : ℕ → ℕ) where
  -- the record says what the test says
  wins_passes : (n w : ℕ) → Wins eligible bid n w → wins eligible bid n w ≡ true
  unfolding wins
  wins_passes n w h =
      and_holds
      h.is_eligible
      (at_all
      (λ i. not (eligible (suc i)) || ranks_no_lower bid w (suc i))
      n
      (λ k l.
      ⊎_elim
      (λ (e : eligible (suc k) ≡ true). or_right (not (eligible (suc k))) (h.first (suc k) (omega arith) l e))
      (λ (e : eligible (suc k) ≡ false). or_left (ranks_no_lower bid w (suc k)) (not_holds e))
      (holds_or_fails (eligible (suc k)))))

  passes_first : (n w : ℕ) → wins eligible bid n w ≡ true → (j : ℕ) → 0 < j → j ≤ n → eligible j ≡ true → ranks_no_lower bid w j ≡ true
  unfolding wins
  passes_first n w h zero s m e = absurd (omega arith)
  passes_first n w h (suc k) s m e =
      let t : ℕ → Bool = λ i. not (eligible (suc i)) || ranks_no_lower bid w (suc i) in
      let every = (and_parts (eligible w) (all_below t n) h).1 in
      ⊎_elim
      (λ (q : not (eligible (suc k)) ≡ true). absurd (not_both q (not_fails e)))
      (λ (q : ranks_no_lower bid w (suc k) ≡ true). q)
      (or_parts (not (eligible (suc k))) (ranks_no_lower bid w (suc k)) (all-at t n every k m))

  passes_eligible : (n w : ℕ) → wins eligible bid n w ≡ true → eligible w ≡ true
  unfolding wins
  passes_eligible n w h = (and_parts (eligible w) (all_below (λ i. not (eligible (suc i)) || ranks_no_lower bid w (suc i)) n) h).0

  passes_wins : (n i : ℕ) → i < n → wins eligible bid n (suc i) ≡ true → Wins eligible bid n (suc i)
  passes_wins n i l h = record { some = omega arith; most = l; is_eligible = passes_eligible n (suc i) h; first = passes_first n (suc i) h }

  wins_unique : (n v w : ℕ) → Wins eligible bid n v → Wins eligible bid n w → v ≡ w
  wins_unique n v w p q =
      ranks_antisym bid v w (p.first w q.some q.most q.is_eligible) (q.first v p.some p.most p.is_eligible)

  pub wins-winner : (n w : ℕ) → Wins eligible bid n w → winner eligible bid n ≡ w
  unfolding winner
  wins-winner n zero h = absurd (omega arith)
  wins-winner n (suc i) h =
      let f : ℕ → ℕ = λ k. suc k when wins eligible bid n (suc k) otherwise 0 in
      let here : f i ≡ suc i = ap (λ (t : Bool). suc i when t otherwise 0) (wins_passes n (suc i) h) in
      let none : first_over f i ≡ 0 =
      first-all-none
      f
      i
      (λ k l.
      ap
      (λ (t : Bool). suc k when t otherwise 0)
      (fails
      (wins eligible bid n (suc k))
      (λ p.
      let q : suc k ≡ suc i = wins_unique n (suc k) (suc i) (passes_wins n k (omega arith) p) h in
      omega arith))) in
      first_found f i n h.most none (λ z. let q : suc i ≡ 0 = sym here ∙ z in omega arith) ∙ here

  -- nobody wins exactly when nobody is eligible
  pub none-winner : (n : ℕ) → ((j : ℕ) → 0 < j → j ≤ n → eligible j ≡ false) → winner eligible bid n ≡ 0
  unfolding winner
  none-winner n h =
      first-all-none
      (λ k. suc k when wins eligible bid n (suc k) otherwise 0)
      n
      (λ k l.
      ap
      (λ (t : Bool). suc k when t otherwise 0)
      (fails (wins eligible bid n (suc k)) (λ p. not_both (passes_eligible n (suc k) p) (h (suc k) (omega arith) l))))

  -- one bidder more, in the words of the record
  wins_skips : (i w : ℕ) → eligible (suc i) ≡ false → Wins eligible bid i w → Wins eligible bid (suc i) w
  wins_skips i w e h = record {
    some = h.some;
    most = omega arith;
    is_eligible = h.is_eligible;
    first = λ j s m a.
        ⊎_elim
        (λ (q : j ≡ suc i). absurd (not_both a (ap eligible q ∙ e)))
        (λ (l : j < suc i). h.first j s (omega arith) a)
        (eq-or-lt_of_le m);
  }

  wins-starts : (i : ℕ) → eligible (suc i) ≡ true → ((j : ℕ) → 0 < j → j ≤ i → eligible j ≡ false) → Wins eligible bid (suc i) (suc i)
  wins-starts i e h = record {
    some = omega arith;
    most = omega arith;
    is_eligible = e;
    first = λ j s m a.
        ⊎_elim
        (λ (q : j ≡ suc i). ap (ranks_no_lower bid (suc i)) q ∙ ranks_self bid (suc i))
        (λ (l : j < suc i). absurd (not_both a (h j s (omega arith))))
        (eq-or-lt_of_le m);
  }

  wins_rises : (i w : ℕ) → eligible (suc i) ≡ true → Wins eligible bid i w → bid w < bid (suc i) → Wins eligible bid (suc i) (suc i)
  wins_rises i w e h r = record {
    some = omega arith;
    most = omega arith;
    is_eligible = e;
    first = λ j s m a.
        ⊎_elim
        (λ (q : j ≡ suc i). ap (ranks_no_lower bid (suc i)) q ∙ ranks_self bid (suc i))
        (λ (l : j < suc i). ranks_trans bid (suc i) w j (ranks_higher bid (suc i) w r) (h.first j s (omega arith) a))
        (eq-or-lt_of_le m);
  }

  wins_stays : (i w : ℕ) → Wins eligible bid i w → bid (suc i) ≤ bid w → Wins eligible bid (suc i) w
  wins_stays i w h r = record {
    some = h.some;
    most = omega arith;
    is_eligible = h.is_eligible;
    first = λ j s m a.
        ⊎_elim
        (λ (q : j ≡ suc i). ap (ranks_no_lower bid w) q ∙ stays_before)
        (λ (l : j < suc i). h.first j s (omega arith) a)
        (eq-or-lt_of_le m);
  }
    where
      stays_before : ranks_no_lower bid w (suc i) ≡ true
      stays_before =
          ⊎_elim
          (λ (q : bid (suc i) ≡ bid w). ranks_equal bid w (suc i) q (omega arith))
          (λ (l : bid (suc i) < bid w). ranks_higher bid w (suc i) l)
          (eq-or-lt_of_le r)

  -- nobody is eligible, or somebody wins
  none_or_wins : (n : ℕ) → ((j : ℕ) → 0 < j → j ≤ n → eligible j ≡ false) ⊎ ((w : ℕ) × Wins eligible bid n w)
  none_or_wins zero = inl (λ j s m. absurd (omega arith))
  none_or_wins (suc i) =
      ⊎_elim
      (λ (none : (j : ℕ) → 0 < j → j ≤ i → eligible j ≡ false).
      ⊎_elim
      (λ (e : eligible (suc i) ≡ true). inr (suc i, wins-starts i e none))
      (λ (e : eligible (suc i) ≡ false).
      inl
      (λ j s m.
      ⊎_elim
      (λ (q : j ≡ suc i). ap eligible q ∙ e)
      (λ (l : j < suc i). none j s (omega arith))
      (eq-or-lt_of_le m)))
      (holds_or_fails (eligible (suc i))))
      (λ (one : (w : ℕ) × Wins eligible bid i w).
      let w = one.0 in
      ⊎_elim
      (λ (e : eligible (suc i) ≡ true).
      ⊎_elim
      (λ (h : ltb (bid w) (bid (suc i)) ≡ true). inr (suc i, wins_rises i w e one.1 (ltb-true (bid w) (bid (suc i)) h)))
      (λ (h : ltb (bid w) (bid (suc i)) ≡ false). inr (w, wins_stays i w one.1 (ltb-false (bid w) (bid (suc i)) h)))
      (holds_or_fails (ltb (bid w) (bid (suc i)))))
      (λ (e : eligible (suc i) ≡ false). inr (w, wins_skips i w e one.1))
      (holds_or_fails (eligible (suc i))))
      (none_or_wins i)

  pub winner-wins : (n : ℕ) → (winner eligible bid n ≡ 0 → ⊥) → Wins eligible bid n (winner eligible bid n)
  winner-wins n h =
      ⊎_elim
      (λ (none : (j : ℕ) → 0 < j → j ≤ n → eligible j ≡ false). absurd (h (none-winner n none)))
      (λ (one : (w : ℕ) × Wins eligible bid n w). subst (Wins eligible bid n) (sym (wins-winner n one.0 one.1)) one.1)
      (none_or_wins n)

  pub winner-none : (n : ℕ) → winner eligible bid n ≡ 0 → (j : ℕ) → 0 < j → j ≤ n → eligible j ≡ false
  winner-none n e =
      ⊎_elim
      (λ (none : (j : ℕ) → 0 < j → j ≤ n → eligible j ≡ false). none)
      (λ (one : (w : ℕ) × Wins eligible bid n w).
      let q : winner eligible bid n ≡ one.0 = wins-winner n one.0 one.1 in
      let s : 0 < one.0 = one.1.some in
      let z : ⊥ = omega arith in
      absurd z)
      (none_or_wins n)

  pub winner-most : (n : ℕ) → winner eligible bid n ≤ n
  winner-most n =
      ⊎_elim
      (λ (none : (j : ℕ) → 0 < j → j ≤ n → eligible j ≡ false). let q = none-winner n none in omega arith)
      (λ (one : (w : ℕ) × Wins eligible bid n w).
      let q : winner eligible bid n ≡ one.0 = wins-winner n one.0 one.1 in
      let m : one.0 ≤ n = one.1.most in
      omega arith)
      (none_or_wins n)

-- whether b ranks no lower than j depends on their two bids alone
pub ranks_same : (bid bid' : ℕ → ℕ) (b j : ℕ) → bid b ≡ bid' b → bid j ≡ bid' j → ranks_no_lower bid b j ≡ ranks_no_lower bid' b j
unfolding ranks_no_lower
ranks_same bid bid' b j p q = ap₂ (λ (x y : ℕ). ltb y x || (eqb y x && leb b j)) p q

-- the winner depends on who is eligible among bidders 1 to n and on their bids alone
pub winner-same : (e e' : ℕ → Bool) (bid bid' : ℕ → ℕ) (n : ℕ) →
    ((j : ℕ) → 0 < j → j ≤ n → e j ≡ e' j) → ((j : ℕ) → 0 < j → j ≤ n → bid j ≡ bid' j) → winner e bid n ≡ winner e' bid' n
winner-same e e' bid bid' n same same' =
    ⊎_elim
    (λ (none : (j : ℕ) → 0 < j → j ≤ n → e j ≡ false).
    none-winner e bid n none ∙ sym (none-winner e' bid' n (λ j s m. sym (same j s m) ∙ none j s m)))
    (λ (one : (w : ℕ) × Wins e bid n w).
    let w = one.0 in
    let h = one.1 in
    wins-winner e bid n w h
    ∙ sym
    (wins-winner
    e'
    bid'
    n
    w
    (record {
      some = h.some;
      most = h.most;
      is_eligible = sym (same w h.some h.most) ∙ h.is_eligible;
      first = λ j s m a.
          sym (ranks_same bid bid' w j (same' w h.some h.most) (same' j s m)) ∙ h.first j s m (same j s m ∙ a);
    })))
    (none_or_wins e bid n)

-- where i wins neither way, the winner does not depend on whether i is eligible, nor on its bid
pub winner-without : (e e' : ℕ → Bool) (bid bid' : ℕ → ℕ) (n i : ℕ) →
    ((j : ℕ) → (j ≡ i → ⊥) → 0 < j → j ≤ n → e j ≡ e' j) → ((j : ℕ) → (j ≡ i → ⊥) → 0 < j → j ≤ n → bid j ≡ bid' j) →
    (winner e bid n ≡ i → ⊥) → (winner e' bid' n ≡ i → ⊥) → winner e bid n ≡ winner e' bid' n
winner-without e e' bid bid' n i same same' l l' =
    ⊎_elim
    (λ (none : (j : ℕ) → 0 < j → j ≤ n → e j ≡ false).
    ⊎_elim
    (λ (none' : (j : ℕ) → 0 < j → j ≤ n → e' j ≡ false). none-winner e bid n none ∙ sym (none-winner e' bid' n none'))
    (λ (one' : (w : ℕ) × Wins e' bid' n w).
    let h' = one'.1 in
    let away' : one'.0 ≡ i → ⊥ = λ q. l' (wins-winner e' bid' n one'.0 h' ∙ q) in
    absurd (not_both (same one'.0 away' h'.some h'.most ∙ h'.is_eligible) (none one'.0 h'.some h'.most)))
    (none_or_wins e' bid' n))
    (λ (one : (w : ℕ) × Wins e bid n w).
    let w = one.0 in
    let h = one.1 in
    let away : w ≡ i → ⊥ = λ q. l (wins-winner e bid n w h ∙ q) in
    let is-eligible' : e' w ≡ true = sym (same w away h.some h.most) ∙ h.is_eligible in
    ⊎_elim
    (λ (none' : (j : ℕ) → 0 < j → j ≤ n → e' j ≡ false). absurd (not_both is-eligible' (none' w h.some h.most)))
    (λ (one' : (w : ℕ) × Wins e' bid' n w).
    let w' = one'.0 in
    let h' = one'.1 in
    let away' : w' ≡ i → ⊥ = λ q. l' (wins-winner e' bid' n w' h' ∙ q) in
    let bids = same' w away h.some h.most in
    let bids' = same' w' away' h'.some h'.most in
    let ahead = h.first w' h'.some h'.most (same w' away' h'.some h'.most ∙ h'.is_eligible) in
    let ahead' = ranks_same bid bid' w' w bids' bids ∙ h'.first w h.some h.most is-eligible' in
    wins-winner e bid n w h ∙ ranks_antisym bid w w' ahead ahead' ∙ sym (wins-winner e' bid' n w' h'))
    (none_or_wins e' bid' n))
    (none_or_wins e bid n)
