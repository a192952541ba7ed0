-- Why a downward monotonic list that bars its owner from a slot bars it from every later one. The constraint that bars it there holds
-- for any own slot, or has that own slot, and then the list has it one slot lower too; what the other part says of the slots before
-- stays true as the page fills. Assumes nothing.
use Prim.Native.Nat.{ℕ, zero, suc, ◌<◌, ◌≤◌}
use borrow.Author.Tests.{eq-eqb, eqb-true}
use mathlib.Core.Bool.{true, false}
use mathlib.Core.Logic.{◌⊎◌, inl, inr, ⊎_elim}
use mathlib.Core.Path.{◌≡◌, refl, sym, ◌∙◌, ap, subst}
use native.Mathlib.Nat.{eq-or-lt_of_le, le_of_suc-le-suc}
use native.Mathlib.Omega.{arith}
use lib.Dec.{eqb}
use Rattle.basis.proofs.TestLaws.{not_both}
use Rattle.sheet.specs.declared.Kind.{Kind}
use Rattle.sheet.specs.declared.Kind.TheVariants.{OwnSlot, OtherSlot, Pair}
use Rattle.sheet.specs.declared.Constraint.{Constraint}
use Rattle.sheet.specs.declared.Page.{Page}
use Rattle.sheet.specs.declared.Round.{Round}
use Rattle.auction.specs.Page.{at, put, placed, Sized}
use Rattle.auction.specs.Broken.{own_holds, other_holds, broken}
use Rattle.auction.specs.Eligible.{eligible}
use Rattle.sheet.specs.Proper.{ProperKind, Proper, ProperRound}
use Rattle.sheet.specs.Round.{Has}
use Rattle.auction.proofs.PageLaws.{at-put-same, at-put-other, at-within, placed_at, put-placed, Keeps, put_keeps}
use Rattle.basis.proofs.NumberLaws.{same_or_not}
use Rattle.auction.proofs.BrokenLaws.{broken-parts, parts-broken, other_stays, eligible-unbroken}
use Rattle.downward.specs.Downward.{own_slot, one_lower, downward}
use Rattle.downward.proofs.DownwardLaws.{downward-lower}

-- the own part is true of an owner at slot l
abbrev OwnAt : Kind → ℕ → Type 0
OwnAt (OwnSlot k) l = k.0 ≡ l
OwnAt (OtherSlot j x) l = Unit {0}
OwnAt (Pair k j x) l = k.0 ≡ l

-- a constraint of i whose own part is true of slot l and whose other part is true on the page p
pub record Blocked (r : Round) (i : ℕ) (p : Page) (l : ℕ) : Type 0 where
  pub by : Constraint
  pub has : Has r by
  pub owned : by.owner.0 ≡ i
  pub own : OwnAt by.kind l
  pub other : other_holds p by.kind ≡ true

-- The page p with i at slot k, where i had no slot.
module _ (p : Page) (k i : ℕ) (s : Sized p) (k-some : 0 < k) (k-most : k ≤ 16) (unplaced : placed p i ≡ false) (i_some : i ≡ 0 → ⊥) where
  -- i stands at k alone
  only_here : (t : ℕ) → eqb (at (put p k i) t) i ≡ true → t ≡ k
  only_here t e =
      ⊎_elim
      (λ (x : t ≡ k). x)
      (λ (x : t ≡ k → ⊥).
      let there : at p t ≡ i = sym (at-put-other p k i t x) ∙ eqb-true (at (put p k i) t) i e in
      let place = at-within p t s (λ z. i_some (sym there ∙ z)) in
      absurd (not_both (placed_at p i t place.0 place.1 there) unplaced))
      (same_or_not t k)

  -- and another bidder stands where it stood
  other-before : (x j : ℕ) → (j ≡ i → ⊥) → eqb (at (put p k i) x) j ≡ true → eqb (at p x) j ≡ true
  other-before x j d e =
      ⊎_elim
      (λ (y : x ≡ k). absurd (d (sym (eqb-true (at (put p k i) x) j e) ∙ ap (at (put p k i)) y ∙ at-put-same p k i s k-some k-most)))
      (λ (y : x ≡ k → ⊥). ap (λ (z : ℕ). eqb z j) (sym (at-put-other p k i x y)) ∙ e)
      (same_or_not x k)

  block_parts : (kind : Kind) → ProperKind i kind → own_holds (put p k i) i kind ≡ true → other_holds (put p k i) kind ≡ true →
      OwnAt kind k × (other_holds p kind ≡ true)
  unfolding own_holds other_holds
  block_parts (OwnSlot t) proper own other = (only_here t.0 own, refl)
  block_parts (OtherSlot j x) proper own other = (tt, other-before x.0 j.0 proper.1 other)
  block_parts (Pair t j x) proper own other = (only_here t.0 own, other-before x.0 j.0 proper.1 other)

  -- a constraint of i that is broken with i at k blocks it there
  pub broken_blocks : (r : Round) (q : Constraint) → Has r q → Proper q → q.owner.0 ≡ i → broken (put p k i) q ≡ true → Blocked r i p k
  broken_blocks r q h proper o e =
      let parts = broken-parts (put p k i) q e in
      let both = block_parts q.kind (subst (λ (x : ℕ). ProperKind x q.kind) o proper.parts)
      (subst (λ (x : ℕ). own_holds (put p k i) x q.kind ≡ true) o parts.0) parts.1 in
      record { by = q; has = h; owned = o; own = both.0; other = both.1 }

-- one slot lower
lower-own : (kind : Kind) (l : ℕ) → OwnAt kind l → OwnAt (one_lower kind) (suc l)
unfolding one_lower
lower-own (OwnSlot k) l e = ap suc e
lower-own (OtherSlot j x) l e = tt
lower-own (Pair k j x) l e = ap suc e

lower-other : (p : Page) (kind : Kind) → other_holds p kind ≡ true → other_holds p (one_lower kind) ≡ true
unfolding other_holds one_lower
lower-other p (OwnSlot k) e = refl
lower-other p (OtherSlot j x) e = e
lower-other p (Pair k j x) e = e

-- a kind with an own slot has it at l; the kind without one needs no other
own_slot-at : (kind : Kind) (l : ℕ) → OwnAt kind l → (own_slot kind ≡ l) ⊎ (one_lower kind ≡ kind)
unfolding own_slot one_lower
own_slot-at (OwnSlot k) l e = inl e
own_slot-at (OtherSlot j x) l e = inr refl
own_slot-at (Pair k j x) l e = inl e

pub blocked_lower : (r : Round) (i : ℕ) (p : Page) (l : ℕ) → downward r i ≡ true → 0 < l → l < r.slots → Blocked r i p l → Blocked r i p (suc l)
blocked_lower r i p l down some less b =
    let q = b.by in
    let has' : Has r (record { owner = q.owner; kind = one_lower q.kind })
    = ⊎_elim
    (λ (e : own_slot q.kind ≡ l). downward-lower r i down q b.has b.owned (omega arith) (omega arith))
    (λ (e : one_lower q.kind ≡ q.kind). subst (λ (x : Kind). Has r (record { owner = q.owner; kind = x })) (sym e) b.has)
    (own_slot-at q.kind l b.own) in
    record {
      by = record { owner = q.owner; kind = one_lower q.kind };
      has = has';
      owned = b.owned;
      own = lower-own q.kind l b.own;
      other = lower-other p q.kind b.other;
    }

-- and so every lower slot
pub blocked_below : (r : Round) (i : ℕ) (p : Page) (k l : ℕ) → downward r i ≡ true → 0 < k → k ≤ l → l ≤ r.slots → Blocked r i p k → Blocked r i p l
blocked_below r i p k zero down some h m b = absurd (omega arith)
blocked_below r i p k (suc l) down some h m b =
    ⊎_elim
    (λ (e : k ≡ suc l). subst (Blocked r i p) e b)
    (λ (lt : k < suc l).
    blocked_lower r i p l down (omega arith) (omega arith) (blocked_below r i p k l down some (le_of_suc-le-suc lt) (omega arith) b))
    (eq-or-lt_of_le h)

own_holds_lem : (p : Page) (kind : Kind) (i l : ℕ) → at p l ≡ i → OwnAt kind l → own_holds p i kind ≡ true
unfolding own_holds
own_holds_lem p (OwnSlot k) i l h e = eq-eqb (at p k.0) i (ap (at p) e ∙ h)
own_holds_lem p (OtherSlot j x) i l h e = refl
own_holds_lem p (Pair k j x) i l h e = eq-eqb (at p k.0) i (ap (at p) e ∙ h)

-- A blocked bidder is not eligible, on the page or on any that has filled further.
pub blocked_ineligible : (r : Round) → ProperRound r → (i : ℕ) (p p' : Page) (l : ℕ) → Blocked r i p l → Keeps p p' → Sized p' → 0 < l → l ≤ 16 →
    at p' l ≡ 0 → eligible r p' l i ≡ true → ⊥
blocked_ineligible r c i p p' l b keeps s some most empty may-stand =
    let q = b.by in
    let two = put p' l i in
    let here : at two l ≡ i = at-put-same p' l i s some most in
    let proper = c.proper q b.has in
    not_both
    (parts-broken two q
    (subst (λ (x : ℕ). own_holds two x q.kind ≡ true) (sym b.owned) (own_holds_lem two q.kind i l here b.own))
    (other_stays p' two q.owner.0 q.kind (put_keeps p' l i empty) proper.parts
    (other_stays p p' q.owner.0 q.kind keeps proper.parts b.other))
    (ap (placed two) b.owned ∙ put-placed p' l i s some most))
    (eligible-unbroken r p' l i s some most may-stand q b.has)
