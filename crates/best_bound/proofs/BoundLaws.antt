-- No assignment of bidders of eligible ranks adds more than the eligible ranks in order, which is that of falling bids. Turn by turn: the next
-- rank's bidder is put at the first slot left, and who stood there goes where it stood. That never lowers the sum, since effects do not rise; a
-- bidder whose rank is not eligible stands nowhere, and after the last one nobody is left. Assumes nothing.
use Prim.Native.Nat.{ℕ, zero, suc, ◌+◌, ◌-◌, ◌*◌, ◌<◌, ◌≤◌}
use borrow.Author.Tests.{eq-eqb, ne_eqb, eqb-true, eqb-false, lt-ltb, le-ltb}
use mathlib.Core.Bool.{Bool, true, false, cond, ◌&&◌, and-false}
use mathlib.Core.List.{List}
use mathlib.Core.Logic.{◌⊎◌, inl, inr, ⊎_elim}
use mathlib.Core.Path.{◌≡◌, refl, sym, ◌∙◌, ap, ap₂, subst, subst₂}
use native.Mathlib.Nat.{eq-or-lt_of_le, add-zero}
use native.Mathlib.Omega.{arith}
use lib.Dec.{eqb, ltb}
use lib.ListN.{get_or}
use Rattle.basis.specs.Tests.{any_below}
use Rattle.basis.proofs.TestLaws.{holds_or_fails, not_both, and_holds, any_where, any_none}
use Rattle.basis.proofs.NumberLaws.{same_or_not, below_or_not, exchange_adds}
use Rattle.choice.specs.EngineBids.{bid_in}
use Rattle.best_bound.specs.EngineBound.{sum_from, slot_after, add_after, BidsFall, NoRise, BoundHolds, bid_at_rank}

-- an assignment with one index changed
change : (ℕ → ℕ) → ℕ → ℕ → ℕ → ℕ
change f s x j = cond (eqb j s) x (f j)

changed_here : (f : ℕ → ℕ) (s x : ℕ) → change f s x s ≡ x
unfolding change
changed_here f s x = ap (λ (t : Bool). cond t x (f s)) (eq-eqb s s refl)

changed_elsewhere : (f : ℕ → ℕ) (s x j : ℕ) → (j ≡ s → ⊥) → change f s x j ≡ f j
unfolding change
changed_elsewhere f s x j d = ap (λ (t : Bool). cond t x (f j)) (ne_eqb j s d)

-- a higher bid adds no less
higher_sums : (a d e : ℕ) → a * e ≤ (a + d) * e
higher_sums a d e = omega arith

higher_adds : (a h e : ℕ) → a ≤ h → a * e ≤ h * e
higher_adds a h e p =
    let higher : a + (h - a) ≡ h = omega arith in
    subst (λ (x : ℕ). a * e ≤ x * e) higher (higher_sums a (h - a) e)

module _ (bid effect : ℕ → ℕ) where
  -- the sum with its first slot split off
  sum_first : (f : ℕ → ℕ) (s c : ℕ) → sum_from bid effect f s (suc c) ≡ bid (f s) * effect s + sum_from bid effect f (suc s) c
  unfolding sum_from
  sum_first f s zero = ap (λ (j : ℕ). 0 + bid (f j) * effect j) (add-zero s) ∙ omega arith
  sum_first f s (suc c) =
      let first = sum_first f s c in
      let last : bid (f (s + suc c)) * effect (s + suc c) ≡ bid (f (suc s + c)) * effect (suc s + c)
      = ap (λ (j : ℕ). bid (f j) * effect j) (let e : s + suc c ≡ suc s + c = omega arith in e) in
      ap₂ ◌+◌ first last ∙ omega arith

  -- a change past the slots changes nothing,
  sum_beside : (f : ℕ → ℕ) (s c j x : ℕ) → s + c ≤ j → sum_from bid effect (change f j x) s c ≡ sum_from bid effect f s c
  unfolding sum_from
  sum_beside f s zero j x l = refl
  sum_beside f s (suc c) j x l =
      ap₂
      (λ (a b : ℕ). a + bid b * effect (s + c))
      (sum_beside f s c j x (omega arith))
      (changed_elsewhere f j x (s + c) (λ e. omega arith))

  -- and a change of one of them puts what the new one adds for what the old one added
  sum_changed : (f : ℕ → ℕ) (s c j x : ℕ) → s ≤ j → j < s + c →
      sum_from bid effect (change f j x) s c + bid (f j) * effect j ≡ sum_from bid effect f s c + bid x * effect j
  unfolding sum_from
  sum_changed f s zero j x l m = absurd (omega arith)
  sum_changed f s (suc c) j x l m =
      ⊎_elim
      (λ (q : s + c ≡ j).
      let before : sum_from bid effect (change f j x) s c ≡ sum_from bid effect f s c = sum_beside f s c j x (omega arith) in
      let new : bid (change f j x (s + c)) * effect (s + c) ≡ bid x * effect j
      = ap₂ (λ (b e : ℕ). bid b * effect e) (ap (change f j x) q ∙ changed_here f j x) q in
      let old : bid (f (s + c)) * effect (s + c) ≡ bid (f j) * effect j = ap (λ (e : ℕ). bid (f e) * effect e) q in
      ap₂ (λ (a b : ℕ). a + b + bid (f j) * effect j) before new
      ∙ ap (λ (b : ℕ). sum_from bid effect f s c + bid x * effect j + b) (sym old)
      ∙ omega arith)
      (λ (d : s + c ≡ j → ⊥).
      let ih = sum_changed f s c j x l (omega arith) in
      let same : bid (change f j x (s + c)) * effect (s + c) ≡ bid (f (s + c)) * effect (s + c)
      = ap (λ (b : ℕ). bid b * effect (s + c)) (changed_elsewhere f j x (s + c) d) in
      ap (λ (b : ℕ). sum_from bid effect (change f j x) s c + b + bid (f j) * effect j) same ∙ omega arith)
      (same_or_not (s + c) j)

  -- slots where nobody stands add nothing
  pub nobody_adds : bid 0 ≡ 0 → (f : ℕ → ℕ) (s c : ℕ) → ((j : ℕ) → s ≤ j → j < s + c → f j ≡ 0) → sum_from bid effect f s c ≡ 0
  unfolding sum_from
  nobody_adds z f s zero h = refl
  nobody_adds z f s (suc c) h =
      let none : bid (f (s + c)) ≡ 0 = ap bid (h (s + c) (omega arith) (omega arith)) ∙ z in
      ap₂
      (λ (a b : ℕ). a + b * effect (s + c))
      (nobody_adds z f s c (λ j l m. h j l (omega arith)))
      none
      ∙ omega arith

module _ (eligible : ℕ → Bool) (k m : ℕ) where
  -- an eligible rank takes the next slot where there is one left,
  pub slot_taken : (i : ℕ) → eligible i ≡ true → slot_after eligible k m i < m → slot_after eligible k m (suc i) ≡ suc (slot_after eligible k m i)
  unfolding slot_after
  slot_taken i e l =
      ap
      (λ (t : Bool). cond t (suc (slot_after eligible k m i)) (slot_after eligible k m i))
      (and_holds e (lt-ltb (slot_after eligible k m i) m l))

  -- and else nothing changes
  none_taken : (i : ℕ) → (eligible i ≡ false) ⊎ (m ≤ slot_after eligible k m i) → (eligible i && ltb (slot_after eligible k m i) m) ≡ false
  none_taken i =
      ⊎_elim
      (λ (e : eligible i ≡ false). ap (λ (t : Bool). t && ltb (slot_after eligible k m i) m) e)
      (λ (l : m ≤ slot_after eligible k m i).
      ap (λ (t : Bool). eligible i && t) (le-ltb (slot_after eligible k m i) m l) ∙ and-false (eligible i))

  pub slot_kept : (i : ℕ) → (eligible i ≡ false) ⊎ (m ≤ slot_after eligible k m i) → slot_after eligible k m (suc i) ≡ slot_after eligible k m i
  unfolding slot_after
  slot_kept i h = ap (λ (t : Bool). cond t (suc (slot_after eligible k m i)) (slot_after eligible k m i)) (none_taken i h)

  -- so also for some ranks that are not eligible
  pub slots-none : (i more : ℕ) → ((r : ℕ) → i ≤ r → r < i + more → eligible r ≡ false) →
      slot_after eligible k m (i + more) ≡ slot_after eligible k m i
  slots-none i zero none = ap (slot_after eligible k m) (add-zero i)
  slots-none i (suc more) none =
      let next : i + suc more ≡ suc (i + more) = omega arith in
      ap (slot_after eligible k m) next
      ∙ slot_kept (i + more) (inl (none (i + more) (omega arith) (omega arith)))
      ∙ slots-none i more (λ r l b. none r l (omega arith))

-- what those add
module _ (eligible : ℕ → Bool) (gain : ℕ → ℕ → ℕ) (k m : ℕ) where
  pub add_taken : (i : ℕ) → eligible i ≡ true → slot_after eligible k m i < m →
      add_after eligible gain k m (suc i) ≡ add_after eligible gain k m i + gain i (slot_after eligible k m i)
  unfolding add_after
  add_taken i e l =
      ap
      (λ (t : Bool). add_after eligible gain k m i + cond t (gain i (slot_after eligible k m i)) 0)
      (and_holds e (lt-ltb (slot_after eligible k m i) m l))

  pub add_kept : (i : ℕ) → (eligible i ≡ false) ⊎ (m ≤ slot_after eligible k m i) → add_after eligible gain k m (suc i) ≡ add_after eligible gain k m i
  unfolding add_after
  add_kept i h =
      ap
      (λ (t : Bool). add_after eligible gain k m i + cond t (gain i (slot_after eligible k m i)) 0)
      (none_taken eligible k m i h)
      ∙ omega arith

  pub added_none : (i more : ℕ) → ((r : ℕ) → i ≤ r → r < i + more → eligible r ≡ false) →
      add_after eligible gain k m (i + more) ≡ add_after eligible gain k m i
  added_none i zero none = ap (add_after eligible gain k m) (add-zero i)
  added_none i (suc more) none =
      let next : i + suc more ≡ suc (i + more) = omega arith in
      ap (add_after eligible gain k m) next
      ∙ add_kept (i + more) (inl (none (i + more) (omega arith) (omega arith)))
      ∙ added_none i more (λ r l b. none r l (omega arith))

  -- each rank adds at most the most that one adds
  pub added_low : (i most : ℕ) → ((r s : ℕ) → gain r s ≤ most) → add_after eligible gain k m i ≤ i * most
  unfolding add_after
  added_low zero most low = omega arith
  added_low (suc i) most low =
      let before = added_low i most low in
      let this = by_test (eligible i && ltb (slot_after eligible k m i) m) (gain i (slot_after eligible k m i)) (low _ _) in
      let all : suc i * most ≡ i * most + most = omega arith in
      omega arith
    where
      by_test : (t : Bool) (x : ℕ) → x ≤ most → cond t x 0 ≤ most
      by_test true x l = l
      by_test false x l = omega arith

-- what the first ranks add depends on what they add at those slots alone
pub added_same : (eligible : ℕ → Bool) (gain gain' : ℕ → ℕ → ℕ) (k m i : ℕ) → ((r s : ℕ) → r < i → s < m → gain r s ≡ gain' r s) →
    add_after eligible gain k m i ≡ add_after eligible gain' k m i
unfolding add_after
added_same eligible gain gain' k m zero same = refl
added_same eligible gain gain' k m (suc i) same =
    ap₂ ◌+◌
    (added_same eligible gain gain' k m i (λ r s l b. same r s (omega arith) b))
    (⊎_elim
    (λ (b : slot_after eligible k m i < m).
    ap (λ (x : ℕ). cond (eligible i && ltb (slot_after eligible k m i) m) x 0) (same i (slot_after eligible k m i) (omega arith) b))
    (λ (b : m ≤ slot_after eligible k m i).
    let none = none_taken eligible k m i (inr b) in
    ap (λ (t : Bool). cond t (gain i (slot_after eligible k m i)) 0) none
    ∙ sym (ap (λ (t : Bool). cond t (gain' i (slot_after eligible k m i)) 0) none))
    (below_or_not (slot_after eligible k m i) m))

-- and on which of those ranks are eligible
slots_alike : (eligible eligible' : ℕ → Bool) (k m i : ℕ) → ((r : ℕ) → r < i → eligible r ≡ eligible' r) →
    slot_after eligible k m i ≡ slot_after eligible' k m i
unfolding slot_after
slots_alike eligible eligible' k m zero same = refl
slots_alike eligible eligible' k m (suc i) same =
    ap₂
    (λ (t : Bool) (s : ℕ). cond (t && ltb s m) (suc s) s)
    (same i (omega arith))
    (slots_alike eligible eligible' k m i (λ r l. same r (omega arith)))

pub added_alike : (eligible eligible' : ℕ → Bool) (gain : ℕ → ℕ → ℕ) (k m i : ℕ) → ((r : ℕ) → r < i → eligible r ≡ eligible' r) →
    add_after eligible gain k m i ≡ add_after eligible' gain k m i
unfolding add_after
added_alike eligible eligible' gain k m zero same = refl
added_alike eligible eligible' gain k m (suc i) same =
    ap₂ ◌+◌
    (added_alike eligible eligible' gain k m i (λ r l. same r (omega arith)))
    (ap₂
    (λ (t : Bool) (s : ℕ). cond (t && ltb s m) (gain i s) 0)
    (same i (omega arith))
    (slots_alike eligible eligible' k m i (λ r l. same r (omega arith))))

-- g gives each slot index from s to below m nobody, or the bidder of an eligible rank from i on, and nobody two of them
record Later (eligible : ℕ → Bool) (rank : ℕ → ℕ) (n i s m : ℕ) (g : ℕ → ℕ) : Type 0 where
  ranked : (j : ℕ) → s ≤ j → j < m → (g j ≡ 0) ⊎ ((r : ℕ) × (i ≤ r) × (r < n) × (rank r ≡ g j) × (eligible r ≡ true))
  once : (a b : ℕ) → s ≤ a → a < m → s ≤ b → b < m → (g a ≡ 0 → ⊥) → g a ≡ g b → a ≡ b

-- what the first i ranked bidders add, and an assignment of later ones to the slots left, add at least a total
record Covers (eligible : ℕ → Bool) (rank bid effect : ℕ → ℕ) (n m total i s added : ℕ) : Type 0 where
  given : ℕ → ℕ
  left : ℕ
  fits : s + left ≡ m
  later : Later eligible rank n i s m given
  enough : total ≤ added + sum_from bid effect given s left

module _ (eligible : ℕ → Bool) (rank : ℕ → ℕ) (n i s m : ℕ) (g : ℕ → ℕ) (h : Later eligible rank n i s m g) where
  -- an index that holds another than the i-th holds nobody or a later one
  not_this_one : (j : ℕ) → s ≤ j → j < m → (g j ≡ rank i → ⊥) →
      (g j ≡ 0) ⊎ ((r : ℕ) × (suc i ≤ r) × (r < n) × (rank r ≡ g j) × (eligible r ≡ true))
  not_this_one j l b d =
      ⊎_elim
      (λ (z : g j ≡ 0). inl z)
      (λ (w : (r : ℕ) × (i ≤ r) × (r < n) × (rank r ≡ g j) × (eligible r ≡ true)).
      ⊎_elim
      (λ (q : i ≡ w.0). absurd (d (sym w.3 ∙ ap rank (sym q))))
      (λ (lt : i < w.0). inr (w.0, lt, w.2, w.3, w.4))
      (eq-or-lt_of_le w.1))
      (h.ranked j l b)

  -- nobody bids more than the i-th
  none_higher : (bid : ℕ → ℕ) → bid 0 ≡ 0 → BidsFall rank bid n → (j : ℕ) → s ≤ j → j < m → bid (g j) ≤ bid (rank i)
  none_higher bid z falling j l b =
      ⊎_elim
      (λ (e : g j ≡ 0). let q : bid (g j) ≡ 0 = ap bid e ∙ z in omega arith)
      (λ (w : (r : ℕ) × (i ≤ r) × (r < n) × (rank r ≡ g j) × (eligible r ≡ true)).
      subst (λ (x : ℕ). bid x ≤ bid (rank i)) w.3 (falling i w.0 w.1 w.2))
      (h.ranked j l b)

  -- where the i-th stands nowhere, all are later
  skipped_later : ((j : ℕ) → s ≤ j → j < m → g j ≡ rank i → ⊥) → Later eligible rank n (suc i) s m g
  skipped_later none = record { ranked = λ j l b. not_this_one j l b (none j l b); once = h.once }

  -- where it stands at no index after s, all after s are later
  first-later : ((j : ℕ) → suc s ≤ j → j < m → g j ≡ rank i → ⊥) → Later eligible rank n (suc i) (suc s) m g
  first-later none = record {
    ranked = λ j l b. not_this_one j (omega arith) b (none j l b);
    once = λ a b la ma lb mb. h.once a b (omega arith) ma (omega arith) mb;
  }

  -- where it stands at j0 after s, who stood at s goes there
  module _ (j0 : ℕ) (l0 : suc s ≤ j0) (m0 : j0 < m) (here : g j0 ≡ rank i) (some : rank i ≡ 0 → ⊥) where
    moved_same : change g j0 (g s) j0 ≡ g s
    moved_same = changed_here g j0 (g s)

    moved_other : (j : ℕ) → (j ≡ j0 → ⊥) → change g j0 (g s) j ≡ g j
    moved_other j d = changed_elsewhere g j0 (g s) j d

    only_there : (j : ℕ) → s ≤ j → j < m → g j ≡ rank i → j0 ≡ j
    only_there j l b e = h.once j0 j (omega arith) m0 l b (λ z. some (sym here ∙ z)) (here ∙ sym e)

    moved_later : Later eligible rank n (suc i) (suc s) m (change g j0 (g s))
    moved_later = record {
      ranked = λ j l b.
          ⊎_elim
          (λ (q : j ≡ j0).
          let e : change g j0 (g s) j ≡ g s = ap (change g j0 (g s)) q ∙ moved_same in
          subst
          (λ (x : ℕ). (x ≡ 0) ⊎ ((r : ℕ) × (suc i ≤ r) × (r < n) × (rank r ≡ x) × (eligible r ≡ true)))
          (sym e)
          (not_this_one s (omega arith) (omega arith) (λ t. let u = only_there s (omega arith) (omega arith) t in omega arith)))
          (λ (d : j ≡ j0 → ⊥).
          subst
          (λ (x : ℕ). (x ≡ 0) ⊎ ((r : ℕ) × (suc i ≤ r) × (r < n) × (rank r ≡ x) × (eligible r ≡ true)))
          (sym (moved_other j d))
          (not_this_one j (omega arith) b (λ t. d (sym (only_there j (omega arith) b t)))))
          (same_or_not j j0);
      once = λ a b la ma lb mb some' e.
          ⊎_elim
          (λ (q : a ≡ j0).
          ⊎_elim
          (λ (p : b ≡ j0). q ∙ sym p)
          (λ (d : b ≡ j0 → ⊥).
          let ea : change g j0 (g s) a ≡ g s = ap (change g j0 (g s)) q ∙ moved_same in
          let u : s ≡ b
          = h.once s b (omega arith) (omega arith) (omega arith) mb (λ z. some' (ea ∙ z)) (sym ea ∙ e ∙ moved_other b d) in
          absurd (omega arith))
          (same_or_not b j0))
          (λ (c : a ≡ j0 → ⊥).
          let ea : change g j0 (g s) a ≡ g a = moved_other a c in
          ⊎_elim
          (λ (p : b ≡ j0).
          let eb : change g j0 (g s) b ≡ g s = ap (change g j0 (g s)) p ∙ moved_same in
          let u : a ≡ s = h.once a s (omega arith) ma (omega arith) (omega arith) (λ z. some' (ea ∙ z)) (sym ea ∙ e ∙ eb) in
          absurd (omega arith))
          (λ (d : b ≡ j0 → ⊥).
          h.once a b (omega arith) ma (omega arith) mb (λ z. some' (ea ∙ z)) (sym ea ∙ e ∙ moved_other b d))
          (same_or_not b j0))
          (same_or_not a j0);
    }

module _ (eligible : ℕ → Bool) (rank bid effect : ℕ → ℕ) (n m total : ℕ) (z : bid 0 ≡ 0) (some : (i : ℕ) → i < n → rank i ≡ 0 → ⊥)
    (once : (i j : ℕ) → i < n → j < n → rank i ≡ rank j → i ≡ j) (falling : BidsFall rank bid n) (no_rise : NoRise effect m) where
  abbrev gain : ℕ → ℕ → ℕ
  gain i j = bid (rank i) * effect j

  -- the next ranked bidder at the first slot left, and another assignment after it
  placed_covers : (i s added : ℕ) → i < n → s < m → Covers eligible rank bid effect n m total i s added →
      Covers eligible rank bid effect n m total (suc i) (suc s) (added + bid (rank i) * effect s)
  placed_covers i s added l b c = with_left c.left c.fits c.enough
    where
      g : ℕ → ℕ
      g = c.given

      with_left : (left : ℕ) → s + left ≡ m → total ≤ added + sum_from bid effect g s left →
          Covers eligible rank bid effect n m total (suc i) (suc s) (added + bid (rank i) * effect s)
      with_left zero fits enough = absurd (omega arith)
      with_left (suc left) fits enough =
          let first = sum_first bid effect g s left in
          let low : bid (g s) ≤ bid (rank i) = none_higher eligible rank n i s m g c.later bid z falling s (omega arith) b in
          ⊎_elim
          (λ (e : any_below (λ d. eqb (g (suc s + d)) (rank i)) left ≡ true).
          let w = any_where (λ d. eqb (g (suc s + d)) (rank i)) left e in
          let there : w.0 < left = w.1 in
          let j0 : ℕ = suc s + w.0 in
          let here : g j0 ≡ rank i = eqb-true (g j0) (rank i) w.2 in
          let moved = sum_changed bid effect g (suc s) left j0 (g s) (omega arith) (omega arith) in
          let its-bid : bid (g j0) * effect j0 ≡ bid (rank i) * effect j0 = ap (λ (x : ℕ). bid x * effect j0) here in
          let gain = exchange_adds (bid (g s)) (bid (rank i)) (effect s) (effect j0) low (no_rise s j0 (omega arith) (omega arith)) in
          record {
            given = change g j0 (g s);
            left = left;
            fits = omega arith;
            later = moved_later eligible rank n i s m g c.later j0 (omega arith) (omega arith) here (some i l);
            enough = omega arith;
          })
          (λ (e : any_below (λ d. eqb (g (suc s + d)) (rank i)) left ≡ false).
          let gain = higher_adds (bid (g s)) (bid (rank i)) (effect s) low in
          record {
            given = g;
            left = left;
            fits = omega arith;
            later =
                first-later
                eligible
                rank
                n
                i
                s
                m
                g
                c.later
                (λ j la ma q.
                let at : suc s + (j - suc s) ≡ j = omega arith in
                let none = any_none (λ d. eqb (g (suc s + d)) (rank i)) left e (j - suc s) (omega arith) in
                eqb-false (g (suc s + (j - suc s))) (rank i) none (ap g at ∙ q));
            enough = omega arith;
          })
          (holds_or_fails (any_below (λ d. eqb (g (suc s + d)) (rank i)) left))

  -- a bidder whose rank is not eligible, or that finds no slot, stands nowhere
  skipped_covers : (i s added : ℕ) → i < n → (eligible i ≡ false) ⊎ (m ≤ s) → Covers eligible rank bid effect n m total i s added →
      Covers eligible rank bid effect n m total (suc i) s added
  skipped_covers i s added lt why c = record {
    given = c.given;
    left = c.left;
    fits = c.fits;
    later =
        skipped_later
        eligible
        rank
        n
        i
        s
        m
        c.given
        c.later
        (λ j l b e.
        ⊎_elim
        (λ (f : eligible i ≡ false).
        ⊎_elim
        (λ (o : c.given j ≡ 0). some i lt (sym e ∙ o))
        (λ (w : (r : ℕ) × (i ≤ r) × (r < n) × (rank r ≡ c.given j) × (eligible r ≡ true)).
        not_both (ap eligible (once i w.0 lt w.2 (sym e ∙ sym w.3)) ∙ w.4) f)
        (c.later.ranked j l b))
        (λ (o : m ≤ s). omega arith)
        why);
    enough = c.enough;
  }

  covers_after : (k : ℕ) → Covers eligible rank bid effect n m total 0 k 0 → (i : ℕ) → i ≤ n →
      Covers eligible rank bid effect n m total i (slot_after eligible k m i) (add_after eligible gain k m i)
  unfolding slot_after add_after
  covers_after k c zero l = c
  covers_after k c (suc i) l =
      let ih = covers_after k c i (omega arith) in
      let s : ℕ = slot_after eligible k m i in
      let added : ℕ = add_after eligible gain k m i in
      let kept : (eligible i ≡ false) ⊎ (m ≤ s) → Covers eligible rank bid effect n m total (suc i) (slot_after eligible k m (suc i)) (add_after eligible gain k m (suc i))
      = λ why.
      subst₂
      (Covers eligible rank bid effect n m total (suc i))
      (sym (slot_kept eligible k m i why))
      (sym (add_kept eligible gain k m i why))
      (skipped_covers i s added l why ih) in
      ⊎_elim
      (λ (e : eligible i ≡ true).
      ⊎_elim
      (λ (b : s < m).
      subst₂
      (Covers eligible rank bid effect n m total (suc i))
      (sym (slot_taken eligible k m i e b))
      (sym (add_taken eligible gain k m i e b))
      (placed_covers i s added l b ih))
      (λ (b : m ≤ s). kept (inr b))
      (below_or_not s m))
      (λ (e : eligible i ≡ false). kept (inl e))
      (holds_or_fails (eligible i))

  -- after the last ranked bidder nobody is left
  all_covered : (s added : ℕ) → Covers eligible rank bid effect n m total n s added → total ≤ added
  all_covered s added c =
      let none = nobody_adds bid effect z c.given s c.left (λ j l b. nobody_left j l (let q = c.fits in omega arith)) in
      let enough = c.enough in
      omega arith
    where
      nobody_left : (j : ℕ) → s ≤ j → j < m → c.given j ≡ 0
      nobody_left j l b =
          ⊎_elim
          (λ (o : c.given j ≡ 0). o)
          (λ (w : (r : ℕ) × (n ≤ r) × (r < n) × (rank r ≡ c.given j) × (eligible r ≡ true)).
          let low : n ≤ w.0 = w.1 in
          let high : w.0 < n = w.2 in
          absurd (omega arith))
          (c.later.ranked j l b)

pub bound-holds : BoundHolds
unfolding BoundHolds
bound-holds eligible rank bid effect n k left z some once falling no_rise f h =
    let m : ℕ = k + left in
    let total : ℕ = sum_from bid effect f k left in
    all_covered eligible rank bid effect n m total z some once falling no_rise
    (slot_after eligible k m n)
    (add_after eligible (λ i j. bid (rank i) * effect j) k m n)
    (covers_after eligible rank bid effect n m total z some once falling no_rise k
    (record {
      given = f;
      left = left;
      fits = refl;
      later = record {
        ranked = λ j l b.
            ⊎_elim
            (λ (o : f j ≡ 0). inl o)
            (λ (w : (i : ℕ) × (i < n) × (rank i ≡ f j) × (eligible i ≡ true)). inr (w.0, omega arith, w.1, w.2, w.3))
            (h.ranked j l b);
        once = h.once;
      };
      enough = omega arith;
    })
    n
    (omega arith))

-- the bid at a rank is that of the bidder there, and after the last one 0
module _ (ranked bids : List ℕ) (n i : ℕ) where
  pub bid_ranked : i < n → bid_at_rank ranked bids n i ≡ bid_in bids (get_or ranked i 0)
  unfolding bid_at_rank
  bid_ranked l = ap (λ (t : Bool). cond t (bid_in bids (get_or ranked i 0)) 0) (lt-ltb i n l)

  pub bid_past : n ≤ i → bid_at_rank ranked bids n i ≡ 0
  unfolding bid_at_rank
  bid_past l = ap (λ (t : Bool). cond t (bid_in bids (get_or ranked i 0)) 0) (le-ltb i n l)
