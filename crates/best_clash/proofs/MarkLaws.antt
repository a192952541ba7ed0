-- Why the marks of a constraint are the pairs that break it: on a page of two a constraint is broken by one of them at its own slot, or by the owner
-- and the other in one order or the other. Assumes nothing.
use Prim.Native.Nat.{ℕ, ◌<◌, ◌≤◌}
use borrow.Author.Tests.{eq-eqb, eqb-true}
use mathlib.Core.Bool.{Bool, true, false, ◌&&◌, ◌||◌, or-false}
use mathlib.Core.Logic.{◌⊎◌, inl, inr, ⊎_elim}
use mathlib.Core.Path.{◌≡◌, refl, sym, ◌∙◌, ap, ap₂}
use native.Mathlib.Omega.{arith}
use lib.Dec.{eqb}
use Rattle.basis.proofs.TestLaws.{not_both, fails, same_tests, any_at, and_holds, and_parts, or_left, or_right, or_parts, any_same}
use Rattle.sheet.specs.declared.Bidder.{Bidder}
use Rattle.sheet.specs.declared.Slot.{Slot}
use Rattle.sheet.specs.declared.Kind.{Kind}
use Rattle.sheet.specs.declared.Kind.TheVariants.{OwnSlot, OtherSlot, Pair}
use Rattle.sheet.specs.declared.Page.{Page}
use Rattle.sheet.specs.declared.Round.{Round}
use Rattle.auction.specs.Page.{at, placed}
use Rattle.auction.specs.Broken.{own_holds, other_holds, broken, breaks}
use Rattle.sheet.specs.Round.{constraint_at}
use Rattle.sheet.specs.Proper.{Proper, ProperRound}
use Rattle.auction.proofs.PageLaws.{placed_at, placed_where}
use Rattle.auction.proofs.BrokenLaws.{broken-parts, parts-broken}
use Rattle.best_clash.specs.EngineClash.{pair_page, clash}
use Rattle.best_clash.specs.EngineMarks.{Entry, same_at, both_are, either_way, anywhere, among, pair_breaks, marks, some_marks}
use Rattle.best_clash.proofs.ClashLaws.{second_here, first-here, only_two}

same_at_lem : (b k j l : ℕ) → b ≡ j → k ≡ l → same_at b k j l ≡ true
same_at_lem b k j l e f = and_holds (eq-eqb b j e) (eq-eqb k l f)

at_same : (b k j l : ℕ) → same_at b k j l ≡ true → (b ≡ j) × (k ≡ l)
at_same b k j l e = let both = and_parts (eqb b j) (eqb k l) e in (eqb-true b j both.0, eqb-true k l both.1)

-- the same bidder twice
pub entry_twice : (b k : ℕ) → 0 < b → b ≤ 8 → 0 < k → k ≤ 8 → Entry b k b k
entry_twice b k b_some b-most k-some k-most =
    record {
      some_b = b_some;
      most_b = b-most;
      some_k = k-some;
      most_k = k-most;
      some_j = b_some;
      most_j = b-most;
      some_l = k-some;
      most_l = k-most;
    }

-- A page with b at k and j at l, and nobody else, breaks a constraint exactly when the pair breaks it.
module _ (p : Page) (b k j l : ℕ) (k-some : 0 < k) (k-most : k ≤ 16) (l-some : 0 < l) (l_most : l ≤ 16) (first : at p k ≡ b) (second : at p l ≡ j)
    (only : (x y : ℕ) → (y ≡ 0 → ⊥) → at p x ≡ y → ((y ≡ b) × (x ≡ k)) ⊎ ((y ≡ j) × (x ≡ l))) where
  at_first : (x y : ℕ) → same_at y x b k ≡ true → at p x ≡ y
  at_first x y e = let same = at_same y x b k e in ap (at p) same.1 ∙ first ∙ sym same.0

  at_second : (x y : ℕ) → same_at y x j l ≡ true → at p x ≡ y
  at_second x y e = let same = at_same y x j l e in ap (at p) same.1 ∙ second ∙ sym same.0

  first-placed : (o : ℕ) → eqb o b ≡ true → placed p o ≡ true
  first-placed o e = placed_at p o k k-some k-most (first ∙ sym (eqb-true o b e))

  second_placed : (o : ℕ) → eqb o j ≡ true → placed p o ≡ true
  second_placed o e = placed_at p o l l-some l_most (second ∙ sym (eqb-true o j e))

  one_of_two : (o : ℕ) → (o ≡ 0 → ⊥) → placed p o ≡ true → (o ≡ b) ⊎ (o ≡ j)
  one_of_two o some e =
      let w = placed_where p o e in
      ⊎_elim (λ (f : (o ≡ b) × (w.0 ≡ k)). inl f.0) (λ (f : (o ≡ j) × (w.0 ≡ l)). inr f.0) (only w.0 o some w.3)

  own-told : (owner : Bidder) (s : Slot) → Proper (record { owner = owner; kind = OwnSlot s }) →
      ((owner.0 ≡ b) × (s.0 ≡ k)) ⊎ ((owner.0 ≡ j) × (s.0 ≡ l)) → among owner.0 s.0 b k j l ≡ true
  own-told owner s q (inl e) = or_right (same_at owner.0 s.0 j l) (same_at_lem owner.0 s.0 b k e.0 e.1)
  own-told owner s q (inr e) = or_left (same_at owner.0 s.0 b k) (same_at_lem owner.0 s.0 j l e.0 e.1)

  other-told : (owner i : Bidder) (m : Slot) → Proper (record { owner = owner; kind = OtherSlot i m }) →
      ((i.0 ≡ b) × (m.0 ≡ k)) ⊎ ((i.0 ≡ j) × (m.0 ≡ l)) → (owner.0 ≡ b) ⊎ (owner.0 ≡ j) → anywhere owner.0 i.0 m.0 b k j l ≡ true
  other-told owner i m q (inl e) (inl o) = absurd (q.parts.1 (e.0 ∙ sym o))
  other-told owner i m q (inl e) (inr o) =
      or_right (eqb owner.0 b && same_at i.0 m.0 j l) (and_holds (same_at_lem i.0 m.0 b k e.0 e.1) (eq-eqb owner.0 j o))
  other-told owner i m q (inr e) (inl o) =
      or_left (same_at i.0 m.0 b k && eqb owner.0 j) (and_holds (eq-eqb owner.0 b o) (same_at_lem i.0 m.0 j l e.0 e.1))
  other-told owner i m q (inr e) (inr o) = absurd (q.parts.1 (e.0 ∙ sym o))

  pair_told : (owner : Bidder) (s : Slot) (i : Bidder) (m : Slot) → Proper (record { owner = owner; kind = Pair s i m }) →
      ((owner.0 ≡ b) × (s.0 ≡ k)) ⊎ ((owner.0 ≡ j) × (s.0 ≡ l)) → ((i.0 ≡ b) × (m.0 ≡ k)) ⊎ ((i.0 ≡ j) × (m.0 ≡ l)) →
      either_way owner.0 s.0 i.0 m.0 b k j l ≡ true
  pair_told owner s i m q (inl o) (inl e) = absurd (q.parts.1 (e.0 ∙ sym o.0))
  pair_told owner s i m q (inl o) (inr e) =
      or_left (both_are i.0 m.0 owner.0 s.0 b k j l)
      (and_holds (same_at_lem owner.0 s.0 b k o.0 o.1) (same_at_lem i.0 m.0 j l e.0 e.1))
  pair_told owner s i m q (inr o) (inl e) =
      or_right (both_are owner.0 s.0 i.0 m.0 b k j l)
      (and_holds (same_at_lem i.0 m.0 b k e.0 e.1) (same_at_lem owner.0 s.0 j l o.0 o.1))
  pair_told owner s i m q (inr o) (inr e) = absurd (q.parts.1 (e.0 ∙ sym o.0))

  broken-told : (owner : Bidder) (kind : Kind) → Proper (record { owner = owner; kind = kind }) →
      broken p (record { owner = owner; kind = kind }) ≡ true → pair_breaks kind owner.0 b k j l ≡ true
  unfolding pair_breaks own_holds other_holds
  broken-told owner (OwnSlot s) q e =
      let parts = broken-parts p (record { owner = owner; kind = OwnSlot s }) e in
      own-told owner s q (only s.0 owner.0 q.owned (eqb-true (at p s.0) owner.0 parts.0))
  broken-told owner (OtherSlot i m) q e =
      let parts = broken-parts p (record { owner = owner; kind = OtherSlot i m }) e in
      other-told owner i m q (only m.0 i.0 q.parts.0 (eqb-true (at p m.0) i.0 parts.1))
      (one_of_two owner.0 q.owned parts.2)
  broken-told owner (Pair s i m) q e =
      let parts = broken-parts p (record { owner = owner; kind = Pair s i m }) e in
      pair_told owner s i m q (only s.0 owner.0 q.owned (eqb-true (at p s.0) owner.0 parts.0))
      (only m.0 i.0 q.parts.0 (eqb-true (at p m.0) i.0 parts.1))

  own-broken : (owner : Bidder) (s : Slot) → Proper (record { owner = owner; kind = OwnSlot s }) → at p s.0 ≡ owner.0 →
      broken p (record { owner = owner; kind = OwnSlot s }) ≡ true
  unfolding own_holds other_holds
  own-broken owner s q e =
      parts-broken p (record { owner = owner; kind = OwnSlot s }) (eq-eqb (at p s.0) owner.0 e) refl
      (placed_at p owner.0 s.0 q.parts.0 q.parts.1 e)

  other-broken : (owner i : Bidder) (m : Slot) → at p m.0 ≡ i.0 → placed p owner.0 ≡ true →
      broken p (record { owner = owner; kind = OtherSlot i m }) ≡ true
  unfolding own_holds other_holds
  other-broken owner i m e o = parts-broken p (record { owner = owner; kind = OtherSlot i m }) refl (eq-eqb (at p m.0) i.0 e) o

  pair_broken : (owner : Bidder) (s : Slot) (i : Bidder) (m : Slot) → Proper (record { owner = owner; kind = Pair s i m }) →
      at p s.0 ≡ owner.0 → at p m.0 ≡ i.0 → broken p (record { owner = owner; kind = Pair s i m }) ≡ true
  unfolding own_holds other_holds
  pair_broken owner s i m q o e =
      parts-broken p (record { owner = owner; kind = Pair s i m }) (eq-eqb (at p s.0) owner.0 o) (eq-eqb (at p m.0) i.0 e)
      (placed_at p owner.0 s.0 q.parts.5 q.parts.6 o)

  told-broken : (owner : Bidder) (kind : Kind) → Proper (record { owner = owner; kind = kind }) →
      pair_breaks kind owner.0 b k j l ≡ true → broken p (record { owner = owner; kind = kind }) ≡ true
  unfolding pair_breaks
  told-broken owner (OwnSlot s) q e =
      ⊎_elim
      (λ (f : same_at owner.0 s.0 j l ≡ true). own-broken owner s q (at_second s.0 owner.0 f))
      (λ (f : same_at owner.0 s.0 b k ≡ true). own-broken owner s q (at_first s.0 owner.0 f))
      (or_parts (same_at owner.0 s.0 j l) (same_at owner.0 s.0 b k) e)
  told-broken owner (OtherSlot i m) q e =
      ⊎_elim
      (λ (f : (eqb owner.0 b && same_at i.0 m.0 j l) ≡ true).
      let both = and_parts (eqb owner.0 b) (same_at i.0 m.0 j l) f in
      other-broken owner i m (at_second m.0 i.0 both.1) (first-placed owner.0 both.0))
      (λ (f : (same_at i.0 m.0 b k && eqb owner.0 j) ≡ true).
      let both = and_parts (same_at i.0 m.0 b k) (eqb owner.0 j) f in
      other-broken owner i m (at_first m.0 i.0 both.0) (second_placed owner.0 both.1))
      (or_parts (eqb owner.0 b && same_at i.0 m.0 j l) (same_at i.0 m.0 b k && eqb owner.0 j) e)
  told-broken owner (Pair s i m) q e =
      ⊎_elim
      (λ (f : both_are owner.0 s.0 i.0 m.0 b k j l ≡ true).
      let both = and_parts (same_at owner.0 s.0 b k) (same_at i.0 m.0 j l) f in
      pair_broken owner s i m q (at_first s.0 owner.0 both.0) (at_second m.0 i.0 both.1))
      (λ (f : both_are i.0 m.0 owner.0 s.0 b k j l ≡ true).
      let both = and_parts (same_at i.0 m.0 b k) (same_at owner.0 s.0 j l) f in
      pair_broken owner s i m q (at_second s.0 owner.0 both.1) (at_first m.0 i.0 both.0))
      (or_parts (both_are owner.0 s.0 i.0 m.0 b k j l) (both_are i.0 m.0 owner.0 s.0 b k j l) e)

  pair_breaks_lem : (owner : Bidder) (kind : Kind) → Proper (record { owner = owner; kind = kind }) →
      pair_breaks kind owner.0 b k j l ≡ broken p (record { owner = owner; kind = kind })
  pair_breaks_lem owner kind q =
      same_tests (pair_breaks kind owner.0 b k j l) (broken p (record { owner = owner; kind = kind }))
      (told-broken owner kind q) (broken-told owner kind q)

-- A constraint that a pair breaks marks the pair, or one of the two alone.
own_split : (x y : Bool) → (y || x) ≡ ((x && y) || ((x && x) || (y && y)))
own_split true true = refl
own_split true false = refl
own_split false true = refl
own_split false false = refl

nothing_more : (x y z : Bool) → y ≡ false → z ≡ false → x ≡ (x || (y || z))
nothing_more x y z e f = sym (ap₂ (λ (v w : Bool). x || (v || w)) e f ∙ or-false x)

module _ (owner : Bidder) where
  pub other_not_alone : (i : Bidder) (m : Slot) → Proper (record { owner = owner; kind = OtherSlot i m }) → (b k : ℕ) →
      anywhere owner.0 i.0 m.0 b k b k ≡ false
  other_not_alone i m q b k =
      fails (anywhere owner.0 i.0 m.0 b k b k)
      (λ e.
      ⊎_elim
      (λ (f : (eqb owner.0 b && same_at i.0 m.0 b k) ≡ true).
      let both = and_parts (eqb owner.0 b) (same_at i.0 m.0 b k) f in
      q.parts.1 ((at_same i.0 m.0 b k both.1).0 ∙ sym (eqb-true owner.0 b both.0)))
      (λ (f : (same_at i.0 m.0 b k && eqb owner.0 b) ≡ true).
      let both = and_parts (same_at i.0 m.0 b k) (eqb owner.0 b) f in
      q.parts.1 ((at_same i.0 m.0 b k both.0).0 ∙ sym (eqb-true owner.0 b both.1)))
      (or_parts (eqb owner.0 b && same_at i.0 m.0 b k) (same_at i.0 m.0 b k && eqb owner.0 b) e))

  pub pair_not_alone : (s : Slot) (i : Bidder) (m : Slot) → Proper (record { owner = owner; kind = Pair s i m }) → (b k : ℕ) →
      either_way owner.0 s.0 i.0 m.0 b k b k ≡ false
  pair_not_alone s i m q b k =
      fails (either_way owner.0 s.0 i.0 m.0 b k b k)
      (λ e.
      ⊎_elim
      (λ (f : both_are owner.0 s.0 i.0 m.0 b k b k ≡ true).
      let both = and_parts (same_at owner.0 s.0 b k) (same_at i.0 m.0 b k) f in
      q.parts.1 ((at_same i.0 m.0 b k both.1).0 ∙ sym (at_same owner.0 s.0 b k both.0).0))
      (λ (f : both_are i.0 m.0 owner.0 s.0 b k b k ≡ true).
      let both = and_parts (same_at i.0 m.0 b k) (same_at owner.0 s.0 b k) f in
      q.parts.1 ((at_same i.0 m.0 b k both.0).0 ∙ sym (at_same owner.0 s.0 b k both.1).0))
      (or_parts (both_are owner.0 s.0 i.0 m.0 b k b k) (both_are i.0 m.0 owner.0 s.0 b k b k) e))

  breaks-marked : (kind : Kind) → Proper (record { owner = owner; kind = kind }) → (b k j l : ℕ) →
      pair_breaks kind owner.0 b k j l ≡ (marks kind owner.0 b k j l || (marks kind owner.0 b k b k || marks kind owner.0 j l j l))
  unfolding pair_breaks marks
  breaks-marked (OwnSlot s) q b k j l = own_split (same_at owner.0 s.0 b k) (same_at owner.0 s.0 j l)
  breaks-marked (OtherSlot i m) q b k j l =
      nothing_more (anywhere owner.0 i.0 m.0 b k j l) (anywhere owner.0 i.0 m.0 b k b k) (anywhere owner.0 i.0 m.0 j l j l)
      (other_not_alone i m q b k) (other_not_alone i m q j l)
  breaks-marked (Pair s i m) q b k j l =
      nothing_more (either_way owner.0 s.0 i.0 m.0 b k j l) (either_way owner.0 s.0 i.0 m.0 b k b k) (either_way owner.0 s.0 i.0 m.0 j l j l)
      (pair_not_alone s i m q b k) (pair_not_alone s i m q j l)

  twice_once : (x : Bool) → (x || x) ≡ (x && x)
  twice_once true = refl
  twice_once false = refl

  alone-marked : (kind : Kind) (b k : ℕ) → pair_breaks kind owner.0 b k b k ≡ marks kind owner.0 b k b k
  unfolding pair_breaks marks
  alone-marked (OwnSlot s) b k = twice_once (same_at owner.0 s.0 b k)
  alone-marked (OtherSlot i m) b k = refl
  alone-marked (Pair s i m) b k = refl

-- the marks of all constraints are the clashes, of one alone and of two at two slots, neither of whom clashes alone
module _ (r : Round) (proper : ProperRound r) where
  abbrev marks_at : ℕ → ℕ → ℕ → ℕ → ℕ → Bool
  marks_at n b k j l = marks (constraint_at r n).kind (constraint_at r n).owner.0 b k j l

  proper-at : (n : ℕ) → n < r.used → Proper (constraint_at r n)
  proper-at n below = proper.proper (constraint_at r n) (n, below, refl)

  pub alone-clash : (b k : ℕ) → Entry b k b k → some_marks r r.used b k b k ≡ clash r b k b k
  unfolding some_marks clash breaks
  alone-clash b k i =
      let k-most : k ≤ 16 = omega arith in
      let here = second_here b k b k i.some_k k-most i.some_k k-most in
      any_same (λ n. marks_at n b k b k) (λ n. broken (pair_page b k b k) (constraint_at r n)) r.used
      (λ n below.
      sym (alone-marked (constraint_at r n).owner (constraint_at r n).kind b k)
      ∙ pair_breaks_lem (pair_page b k b k) b k b k i.some_k k-most i.some_k k-most here here
      (only_two b k b k i.some_k k-most i.some_k k-most)
      (constraint_at r n).owner (constraint_at r n).kind (proper-at n below))

  unmarked : (b k : ℕ) → Entry b k b k → clash r b k b k ≡ false → (n : ℕ) → n < r.used → marks_at n b k b k ≡ false
  unfolding some_marks
  unmarked b k i none n below =
      fails (marks_at n b k b k)
      (λ t. not_both (any_at (λ x. marks_at x b k b k) r.used n below t) (alone-clash b k i ∙ none))

  pub pairs_clash : (b k j l : ℕ) → Entry b k j l → (k ≡ l → ⊥) → clash r b k b k ≡ false → clash r j l j l ≡ false →
      some_marks r r.used j l b k ≡ clash r b k j l
  unfolding some_marks clash breaks
  pairs_clash b k j l i apart first second =
      let k-most : k ≤ 16 = omega arith in
      let l_most : l ≤ 16 = omega arith in
      any_same (λ n. marks_at n j l b k) (λ n. broken (pair_page b k j l) (constraint_at r n)) r.used
      (λ n below.
      nothing_more (marks_at n j l b k) (marks_at n j l j l) (marks_at n b k b k)
      (unmarked j l (entry_twice j l i.some_j i.most_j i.some_l i.most_l) second n below)
      (unmarked b k (entry_twice b k i.some_b i.most_b i.some_k i.most_k) first n below)
      ∙ sym (breaks-marked (constraint_at r n).owner (constraint_at r n).kind (proper-at n below) j l b k)
      ∙ pair_breaks_lem (pair_page b k j l) j l b k i.some_l l_most i.some_k k-most
      (second_here b k j l i.some_k k-most i.some_l l_most)
      (first-here b k j l i.some_k k-most i.some_l l_most apart)
      (λ x y some e.
      ⊎_elim (λ (f : (y ≡ b) × (x ≡ k)). inr f) (λ (f : (y ≡ j) × (x ≡ l)). inl f)
      (only_two b k j l i.some_k k-most i.some_l l_most x y some e))
      (constraint_at r n).owner (constraint_at r n).kind (proper-at n below))
