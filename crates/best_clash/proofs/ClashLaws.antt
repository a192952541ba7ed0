-- Why a bidder added to a page breaks a constraint exactly when it clashes with itself or with one bidder that stands there: each part of
-- a constraint is one bidder at one slot, so what was not broken before is broken by the new one and at most one more. Assumes nothing.
use Prim.Native.Nat.{ℕ, zero, suc, ◌<◌, ◌≤◌}
use borrow.Author.Tests.{eq-eqb, ne_eqb, eqb-true, eqb-false, not-true}
use mathlib.Core.Bool.{true, false, not, ◌&&◌}
use mathlib.Core.Logic.{◌⊎◌, inl, inr, ⊎_elim}
use mathlib.Core.Path.{◌≡◌, refl, sym, ◌∙◌, ap}
use native.Mathlib.Nat.{not-suc-le-zero}
use native.Mathlib.Omega.{arith}
use lib.Dec.{eqb}
use Rattle.basis.specs.Tests.{any_below}
use Rattle.basis.proofs.TestLaws.{not_both, fails, same_tests, and_holds, and_parts, or_left, or_right, or_parts, not_holds, any_at, any_where}
use Rattle.sheet.specs.declared.Bidder.{Bidder}
use Rattle.sheet.specs.declared.Slot.{Slot}
use Rattle.sheet.specs.declared.Kind.{Kind}
use Rattle.sheet.specs.declared.Kind.TheVariants.{OwnSlot, OtherSlot, Pair}
use Rattle.sheet.specs.declared.Constraint.{Constraint}
use Rattle.sheet.specs.declared.Page.{Page}
use Rattle.sheet.specs.declared.Round.{Round}
use Rattle.auction.specs.Page.{at, put, empty_page, placed, Sized}
use Rattle.auction.specs.Broken.{own_holds, other_holds, broken, breaks}
use Rattle.sheet.specs.Proper.{Proper, ProperRound}
use Rattle.sheet.specs.Round.{Has}
use Rattle.auction.proofs.PageLaws.{put-sized, empty-sized, at-put-same, at-put-other, at-empty, at-within, placed_at, placed_where, placed-put, Keeps}
use Rattle.basis.proofs.NumberLaws.{same_or_not, below_or_not}
use Rattle.auction.proofs.BrokenLaws.{broken-parts, parts-broken, broken_stays, breaks-at, breaks_where, breaks-none}
use Rattle.best_clash.specs.EngineClash.{pair_page, clash, clashes}

-- The page of two: the second bidder stands at its slot, the first too where the slots differ, and nobody else.
module _ (b k j l : ℕ) (k-some : 0 < k) (k-most : k ≤ 16) (l-some : 0 < l) (l_most : l ≤ 16) where
  pub second_here : at (pair_page b k j l) l ≡ j
  unfolding pair_page
  second_here = at-put-same (put empty_page k b) l j (put-sized empty_page k b empty-sized) l-some l_most

  pub first-here : (k ≡ l → ⊥) → at (pair_page b k j l) k ≡ b
  unfolding pair_page
  first-here d = at-put-other (put empty_page k b) l j k d ∙ at-put-same empty_page k b empty-sized k-some k-most

  pub only_two : (x y : ℕ) → (y ≡ 0 → ⊥) → at (pair_page b k j l) x ≡ y → ((y ≡ b) × (x ≡ k)) ⊎ ((y ≡ j) × (x ≡ l))
  unfolding pair_page
  only_two x y some e =
      ⊎_elim
      (λ (x-l : x ≡ l). inr (sym e ∙ ap (at (pair_page b k j l)) x-l ∙ second_here, x-l))
      (λ (x-not-l : x ≡ l → ⊥).
      let before : at (put empty_page k b) x ≡ y = sym (at-put-other (put empty_page k b) l j x x-not-l) ∙ e in
      ⊎_elim
      (λ (x-k : x ≡ k). inl (sym before ∙ ap (at (put empty_page k b)) x-k ∙ at-put-same empty_page k b empty-sized k-some k-most, x-k))
      (λ (x-not-k : x ≡ k → ⊥). absurd (some (sym before ∙ at-put-other empty_page k b x x-not-k ∙ at-empty x)))
      (same_or_not x k))
      (same_or_not x l)

  -- a page that has both keeps the page of the two
  pub two_kept : (p : Page) → at p k ≡ b → at p l ≡ j → Keeps (pair_page b k j l) p
  two_kept p first second x h =
      ⊎_elim
      (λ (e : (at (pair_page b k j l) x ≡ b) × (x ≡ k)). ap (at p) e.1 ∙ first ∙ sym e.0)
      (λ (e : (at (pair_page b k j l) x ≡ j) × (x ≡ l)). ap (at p) e.1 ∙ second ∙ sym e.0)
      (only_two x (at (pair_page b k j l) x) h refl)

-- a bidder stands at a slot, by equal numbers
stands : (p : Page) (x y x' y' : ℕ) → at p x ≡ y → x' ≡ x → y' ≡ y → eqb (at p x') y' ≡ true
stands p x y x' y' here e f = eq-eqb (at p x') y' (ap (at p) e ∙ here ∙ sym f)

-- Bidder b added at slot k of the page p, past everybody.
module _ (r : Round) (proper : ProperRound r) (p : Page) (k b : ℕ) (s : Sized p) (k-some : 0 < k) (k-most : k ≤ 16)
    (later : (i : ℕ) → k ≤ i → at p i ≡ 0) (b_some : b ≡ 0 → ⊥) where
  abbrev next : Page
  next = put p k b

  new_here : at next k ≡ b
  new_here = at-put-same p k b s k-some k-most

  -- who stands on p stands before k
  stands-before : (y : ℕ) → (at p y ≡ 0 → ⊥) → y < k
  stands-before y h = ⊎_elim (λ (l : y < k). l) (λ (l : k ≤ y). absurd (h (later y l))) (below_or_not y k)

  apart : (y : ℕ) → (at p y ≡ 0 → ⊥) → k ≡ y → ⊥
  apart y h e = let l = stands-before y h in omega arith

  new_or_old : (x y : ℕ) → at next x ≡ y → ((x ≡ k) × (y ≡ b)) ⊎ (at p x ≡ y)
  new_or_old x y e =
      ⊎_elim
      (λ (x-k : x ≡ k). inl (x-k, sym e ∙ ap (at next) x-k ∙ new_here))
      (λ (x-not-k : x ≡ k → ⊥). inr (sym (at-put-other p k b x x-not-k) ∙ e))
      (same_or_not x k)

  -- what the new one breaks alone, and what it breaks with who stands at y
  alone-clashes : (q : Constraint) → Has r q → broken (pair_page b k b k) q ≡ true → clashes r p k b ≡ true
  unfolding clashes clash
  alone-clashes q h e = or_left _ (breaks-at r (pair_page b k b k) q h e)

  pair_clashes : (q : Constraint) → Has r q → (y : ℕ) → (at p y ≡ 0 → ⊥) → broken (pair_page b k (at p y) y) q ≡ true → clashes r p k b ≡ true
  unfolding clashes clash
  pair_clashes q h zero some e = absurd (not-suc-le-zero (at-within p zero s some).0)
  pair_clashes q h (suc y) some e =
      or_right (breaks r (pair_page b k b k))
      (any_at (λ i. not (eqb (at p (suc i)) 0) && breaks r (pair_page b k (at p (suc i)) (suc i))) k y
      (let l = stands-before (suc y) some in omega arith)
      (and_holds (not_holds (ne_eqb (at p (suc y)) 0 some)) (breaks-at r (pair_page b k (at p (suc y)) (suc y)) q h e)))

  -- the page of the new one and who stands at y
  module _ (y : ℕ) (some : at p y ≡ 0 → ⊥) where
    abbrev pair : Page
    pair = pair_page b k (at p y) y

    pair_new : at pair k ≡ b
    pair_new = let w = at-within p y s some in first-here b k (at p y) y k-some k-most w.0 w.1 (apart y some)

    pair_old : at pair y ≡ at p y
    pair_old = let w = at-within p y s some in second_here b k (at p y) y k-some k-most w.0 w.1

    placed_new : (o : ℕ) → o ≡ b → placed pair o ≡ true
    placed_new o e = placed_at pair o k k-some k-most (pair_new ∙ sym e)

    placed_old : (o : ℕ) → o ≡ at p y → placed pair o ≡ true
    placed_old o e = let w = at-within p y s some in placed_at pair o y w.0 w.1 (pair_old ∙ sym e)

  abbrev Clashes : Type 0
  Clashes = clashes r p k b ≡ true

  -- somebody who is not 0 at y
  somebody : (y j : ℕ) → at p y ≡ j → (j ≡ 0 → ⊥) → at p y ≡ 0 → ⊥
  somebody y j e h z = h (sym e ∙ z)

  own-clashes : (owner : Bidder) (t : Slot) → Has r (record { owner = owner; kind = OwnSlot t }) → Proper (record { owner = owner; kind = OwnSlot t }) →
      broken p (record { owner = owner; kind = OwnSlot t }) ≡ false →
      ((t.0 ≡ k) × (owner.0 ≡ b)) ⊎ (at p t.0 ≡ owner.0) → Clashes
  unfolding own_holds other_holds
  own-clashes owner t h q u (inl e) =
      let here = second_here b k b k k-some k-most k-some k-most in
      alone-clashes (record { owner = owner; kind = OwnSlot t }) h
      (parts-broken (pair_page b k b k) (record { owner = owner; kind = OwnSlot t })
      (stands (pair_page b k b k) k b t.0 owner.0 here e.0 e.1) refl
      (placed_at (pair_page b k b k) owner.0 k k-some k-most (here ∙ sym e.1)))
  own-clashes owner t h q u (inr e) =
      absurd
      (not_both
      (parts-broken p (record { owner = owner; kind = OwnSlot t }) (eq-eqb (at p t.0) owner.0 e) refl
      (placed_at p owner.0 t.0 q.parts.0 q.parts.1 e))
      u)

  other-clashes : (owner j : Bidder) (x : Slot) → Has r (record { owner = owner; kind = OtherSlot j x }) →
      Proper (record { owner = owner; kind = OtherSlot j x }) → broken p (record { owner = owner; kind = OtherSlot j x }) ≡ false →
      ((x.0 ≡ k) × (j.0 ≡ b)) ⊎ (at p x.0 ≡ j.0) → (owner.0 ≡ b) ⊎ (placed p owner.0 ≡ true) → Clashes
  unfolding own_holds other_holds
  other-clashes owner j x h q u (inl e) (inl o) = absurd (q.parts.1 (e.1 ∙ sym o))
  other-clashes owner j x h q u (inl e) (inr o) =
      let w = placed_where p owner.0 o in
      let some = somebody w.0 owner.0 w.3 q.owned in
      pair_clashes (record { owner = owner; kind = OtherSlot j x }) h w.0 some
      (parts-broken (pair w.0 some) (record { owner = owner; kind = OtherSlot j x }) refl
      (stands (pair w.0 some) k b x.0 j.0 (pair_new w.0 some) e.0 e.1)
      (placed_old w.0 some owner.0 (sym w.3)))
  other-clashes owner j x h q u (inr e) (inl o) =
      let some = somebody x.0 j.0 e q.parts.0 in
      pair_clashes (record { owner = owner; kind = OtherSlot j x }) h x.0 some
      (parts-broken (pair x.0 some) (record { owner = owner; kind = OtherSlot j x }) refl
      (eq-eqb (at (pair x.0 some) x.0) j.0 (pair_old x.0 some ∙ e))
      (placed_new x.0 some owner.0 o))
  other-clashes owner j x h q u (inr e) (inr o) =
      absurd
      (not_both (parts-broken p (record { owner = owner; kind = OtherSlot j x }) refl (eq-eqb (at p x.0) j.0 e) o) u)

  two_clash : (owner : Bidder) (t : Slot) (j : Bidder) (x : Slot) → Has r (record { owner = owner; kind = Pair t j x }) →
      Proper (record { owner = owner; kind = Pair t j x }) → broken p (record { owner = owner; kind = Pair t j x }) ≡ false →
      ((t.0 ≡ k) × (owner.0 ≡ b)) ⊎ (at p t.0 ≡ owner.0) → ((x.0 ≡ k) × (j.0 ≡ b)) ⊎ (at p x.0 ≡ j.0) → Clashes
  unfolding own_holds other_holds
  two_clash owner t j x h q u (inl o) (inl e) = absurd (q.parts.1 (e.1 ∙ sym o.1))
  two_clash owner t j x h q u (inl o) (inr e) =
      let some = somebody x.0 j.0 e q.parts.0 in
      pair_clashes (record { owner = owner; kind = Pair t j x }) h x.0 some
      (parts-broken (pair x.0 some) (record { owner = owner; kind = Pair t j x })
      (stands (pair x.0 some) k b t.0 owner.0 (pair_new x.0 some) o.0 o.1)
      (eq-eqb (at (pair x.0 some) x.0) j.0 (pair_old x.0 some ∙ e))
      (placed_new x.0 some owner.0 o.1))
  two_clash owner t j x h q u (inr o) (inl e) =
      let some = somebody t.0 owner.0 o q.owned in
      pair_clashes (record { owner = owner; kind = Pair t j x }) h t.0 some
      (parts-broken (pair t.0 some) (record { owner = owner; kind = Pair t j x })
      (eq-eqb (at (pair t.0 some) t.0) owner.0 (pair_old t.0 some ∙ o))
      (stands (pair t.0 some) k b x.0 j.0 (pair_new t.0 some) e.0 e.1)
      (placed_old t.0 some owner.0 (sym o)))
  two_clash owner t j x h q u (inr o) (inr e) =
      absurd
      (not_both
      (parts-broken p (record { owner = owner; kind = Pair t j x })
      (eq-eqb (at p t.0) owner.0 o) (eq-eqb (at p x.0) j.0 e)
      (placed_at p owner.0 t.0 q.parts.5 q.parts.6 o))
      u)

  broken-clashes : (owner : Bidder) (kind : Kind) → Has r (record { owner = owner; kind = kind }) → Proper (record { owner = owner; kind = kind }) →
      broken p (record { owner = owner; kind = kind }) ≡ false → broken next (record { owner = owner; kind = kind }) ≡ true → Clashes
  unfolding own_holds other_holds
  broken-clashes owner (OwnSlot t) h q u e =
      let parts = broken-parts next (record { owner = owner; kind = OwnSlot t }) e in
      own-clashes owner t h q u (new_or_old t.0 owner.0 (eqb-true (at next t.0) owner.0 parts.0))
  broken-clashes owner (OtherSlot j x) h q u e =
      let parts = broken-parts next (record { owner = owner; kind = OtherSlot j x }) e in
      other-clashes owner j x h q u (new_or_old x.0 j.0 (eqb-true (at next x.0) j.0 parts.1))
      (placed-put p k b owner.0 s k-some k-most parts.2)
  broken-clashes owner (Pair t j x) h q u e =
      let parts = broken-parts next (record { owner = owner; kind = Pair t j x }) e in
      two_clash owner t j x h q u (new_or_old t.0 owner.0 (eqb-true (at next t.0) owner.0 parts.0))
      (new_or_old x.0 j.0 (eqb-true (at next x.0) j.0 parts.1))

  -- what two bidders of the page break, the page breaks
  two_break : (j y : ℕ) → 0 < y → y ≤ 16 → at next y ≡ j → clash r b k j y ≡ true → breaks r next ≡ true
  unfolding clash
  two_break j y y-some y-most here e =
      let w = breaks_where r (pair_page b k j y) e in
      breaks-at r next w.0 w.1
      (broken_stays (pair_page b k j y) next w.0 (two_kept b k j y k-some k-most y-some y-most next new_here here) (proper.proper w.0 w.1) w.2)

  clashes_break : clashes r p k b ≡ true → breaks r next ≡ true
  unfolding clashes
  clashes_break e =
      ⊎_elim
      (λ (t : clash r b k b k ≡ true). two_break b k k-some k-most new_here t)
      (λ (t : any_below (λ i. not (eqb (at p (suc i)) 0) && clash r b k (at p (suc i)) (suc i)) k ≡ true).
      let w = any_where (λ i. not (eqb (at p (suc i)) 0) && clash r b k (at p (suc i)) (suc i)) k t in
      let both = and_parts (not (eqb (at p (suc w.0)) 0)) (clash r b k (at p (suc w.0)) (suc w.0)) w.2 in
      let some : at p (suc w.0) ≡ 0 → ⊥ = eqb-false (at p (suc w.0)) 0 (not-true (eqb (at p (suc w.0)) 0) both.0) in
      let inside = at-within p (suc w.0) s some in
      two_break (at p (suc w.0)) (suc w.0) inside.0 inside.1
      (at-put-other p k b (suc w.0) (λ e. apart (suc w.0) some (sym e)))
      both.1)
      (or_parts (clash r b k b k) (any_below (λ i. not (eqb (at p (suc i)) 0) && clash r b k (at p (suc i)) (suc i)) k) e)

-- a bidder added to a page that breaks nothing
pub breaks_added : (r : Round) → ProperRound r → (p : Page) (k b : ℕ) → Sized p → 0 < k → k ≤ 16 → ((i : ℕ) → k ≤ i → at p i ≡ 0) →
    placed p b ≡ false → (b ≡ 0 → ⊥) → breaks r p ≡ false → breaks r (put p k b) ≡ clashes r p k b
breaks_added r proper p k b s k-some k-most later unplaced b_some unbroken =
    same_tests (breaks r (put p k b)) (clashes r p k b)
    (λ e.
    let w = breaks_where r (put p k b) e in
    broken-clashes r proper p k b s k-some k-most later b_some w.0.owner w.0.kind w.1 (proper.proper w.0 w.1)
    (breaks-none r p unbroken w.0 w.1) w.2)
    (λ e. clashes_break r proper p k b s k-some k-most later b_some e)

-- who stands on a page that breaks nothing breaks nothing alone
pub unbroken-alone : (r : Round) → ProperRound r → (p : Page) → Sized p → breaks r p ≡ false → (y : ℕ) → (at p y ≡ 0 → ⊥) →
    clash r (at p y) y (at p y) y ≡ false
unfolding clash
unbroken-alone r proper p s unbroken y some =
    fails (breaks r (pair_page (at p y) y (at p y) y))
    (λ t.
    let w = breaks_where r (pair_page (at p y) y (at p y) y) t in
    let inside = at-within p y s some in
    not_both
    (breaks-at r p w.0 w.1
    (broken_stays (pair_page (at p y) y (at p y) y) p w.0
    (two_kept (at p y) y (at p y) y inside.0 inside.1 inside.0 inside.1 p refl refl)
    (proper.proper w.0 w.1) w.2))
    unbroken)
