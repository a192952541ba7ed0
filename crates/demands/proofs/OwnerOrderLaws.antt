-- Request S-5: the order that an accepted sheet of version 2 has, and what the calls for one bidder's part say. Assumes nothing.
use Prim.Native.Nat.{ℕ, zero, suc, ◌+◌, ◌<◌, ◌≤◌}
use borrow.Author.Tests.{eq-eqb, ne_eqb, lt-ltb, le-ltb}
use mathlib.Core.Bool.{Bool, true, false, not}
use mathlib.Core.List.{List, []}
use mathlib.Core.Logic.{◌⊎◌, inl, inr, ⊎_elim}
use mathlib.Core.Path.{◌≡◌, refl, sym, ◌∙◌, ap, ap₂}
use native.Mathlib.Nat.{eq-or-lt_of_le}
use native.Mathlib.Omega.{arith}
use lib.Dec.{eqb, ltb}
use lib.ListN.{take, drop}
use denote.Ref.{Bor}
use Rattle.basis.specs.First.{◌when◌otherwise◌, or_else}
use Rattle.basis.proofs.FirstLaws.{or_else_left, or_else_right, answered-gives}
use Rattle.basis.proofs.TestLaws.{or_left, or_right}
use Rattle.sheet.specs.Sheet.{version, bidder_count, constraint_count, owner_field}
use Rattle.sheet.specs.Refusal.{constraint_below, above_before, terms_refusal, order_refusal, constraint_refusal, refusal_of, Accepted}
use Rattle.sheet.proofs.AcceptedLaws.{accepted-sheet, constraints-rise}
use Rattle.sheet.proofs.OrderLaws.{order-free}
use Rattle.sheet.proofs.RoundLaws.{round_proper}
use Rattle.owner_part.specs.OwnerPart.{
  Before,
  Bounds,
  call_refusal,
  part_refusal,
  first_from,
  bytes_before,
  part_length,
  bounds_of,
  before_for,
  before_of,
  constraints_of,
  PartHanded,
}
use Rattle.owner_part.proofs.OwnerLaws.{first-at-most, before-first, from_first}
use Rattle.owner_part.proofs.HeldLaws.{none_of_its_own, part-holds}
use Rattle.owner_part.proofs.CallLaws.{by_check, answered, refused-bounds, given-bounds, part-within}
use Rattle.pas.specs.Calls.{PartGiven}
use Rattle.demands.specs.Demands.{Exactly, HandedRight, StartsRight, CheckedRight, PointedRight, RequestFive}

in_order : (s : List ℕ) → Accepted s → version s ≡ 2 → (j k : ℕ) → j < k → k < constraint_count s → constraint_below s j k ≡ true
in_order s ok = constraints-rise s (accepted-sheet s ok)

free : (s : List ℕ) → version s ≡ 1 → (k : ℕ) → constraint_refusal s k ≡ terms_refusal s k
unfolding constraint_refusal
free s one k = ap (or_else (terms_refusal s k)) (order-free s k (λ z. absurd (omega arith))) ∙ or_nothing (terms_refusal s k)
  where
    or_nothing : (a : ℕ) → or_else a 0 ≡ a
    or_nothing zero = refl
    or_nothing (suc a) = refl

twenty_eight : (s : List ℕ) (k : ℕ) → version s ≡ 2 → terms_refusal s k ≡ 0 → Exactly (constraint_refusal s k ≡ 28) (above_before s k ≡ false)
unfolding constraint_refusal order_refusal
twenty_eight s k two none = (
  λ e. by_test (above_before s k) (sym order ∙ e),
  λ e. order ∙ ap (λ (t : Bool). 28 when not t otherwise 0) e,
)
  where
    order : constraint_refusal s k ≡ (28 when not (above_before s k) otherwise 0)
    order = or_else_right (terms_refusal s k) (order_refusal s k) none ∙ simp (eq-eqb (version s) 2 two)

    by_test : (t : Bool) → (28 when not t otherwise 0) ≡ 28 → t ≡ false
    by_test true e = absurd (let none : 0 ≡ 28 = e in omega arith)
    by_test false e = refl

after_thirteen : (s : List ℕ) (k : ℕ) → (terms_refusal s k ≡ 0 → ⊥) → constraint_refusal s k ≡ terms_refusal s k
unfolding constraint_refusal
after_thirteen s k = or_else_left (terms_refusal s k) (order_refusal s k)

-- a refused call's bounds are 0 and 0
nothing : (s : List ℕ) (i : ℕ) → (part_refusal s i ≡ 0 → ⊥) → ((bounds_of s i).start ≡ 0) × ((bounds_of s i).length ≡ 0)
nothing s i h =
    let e = refused-bounds s i (part_refusal s i) refl h in
    (sym (ap (λ (b : Bounds). b.start) e), sym (ap (λ (b : Bounds). b.length) e))

-- any other's part is the bidder's conditions
constraints-there : (s : List ℕ) (i start size : ℕ) → part_refusal s i ≡ 0 → start ≡ bytes_before s i → size ≡ part_length s i →
    take size (drop start s) ≡ constraints_of s i
constraints-there s i start size none e f =
    let known = answered s i none in
    ap₂ (λ (a b : ℕ). take a (drop b s)) f e ∙ part-holds s known.accepted known.two i

handed : (sheet part : Bor (List ℕ)) (i : ℕ) → PartHanded sheet i part → HandedRight sheet part i
handed sheet part i p =
    record {
      own_memory = p.same_memory;
      refused = λ h.
          let bounds = nothing sheet.now i h in (
            (let place = p.stands in let zero-start = bounds.0 in omega arith),
            p.holds ∙ ap (λ (n : ℕ). take n (drop (bounds_of sheet.now i).start sheet.now)) bounds.1,
          );
      stands = λ none. p.stands ∙ ap (λ (b : Bounds). sheet.ref_ptr.1 + b.start) (given-bounds sheet.now i none);
      conditions = λ none.
          p.holds
          ∙ constraints-there sheet.now i _ _ none
          (ap (λ (b : Bounds). b.start) (given-bounds sheet.now i none))
          (ap (λ (b : Bounds). b.length) (given-bounds sheet.now i none));
    }

starts : (s : List ℕ) (i : ℕ) → part_refusal s i ≡ 0 → StartsRight s i
unfolding bytes_before
starts s i none =
    let known = answered s i none in
    let whole = (accepted-sheet s known.accepted).counts.whole in
    let most = first-at-most s i in
    record {
      index = first_from s i;
      before = refl;
      lower = before-first s i;
      here =
          ⊎_elim
          (λ (e : first_from s i ≡ constraint_count s). inl (e, omega arith))
          (λ (l : first_from s i < constraint_count s). inr (l, from_first s known.accepted known.two i (first_from s i) (omega arith) l))
          (eq-or-lt_of_le most);
    }

empty : (s : List ℕ) (i : ℕ) → ((k : ℕ) → k < constraint_count s → owner_field s k ≡ i → ⊥) → constraints_of s i ≡ []
empty = none_of_its_own

checks : (s : List ℕ) (i : ℕ) (answer : Before) → answer ≡ before_of s i → CheckedRight s i answer
unfolding before_of before_for
checks s i answer e =
    record {
      first_number = ap (λ (b : Before). b.refusal) e ∙ number (part_refusal s i);
      answered = λ none. ap (λ (b : Before). b.bytes) e ∙ ap (λ (n : ℕ). (before_for n s i).bytes) none;
      refused = λ h. ap (λ (b : Before). b.bytes) e ∙ nothing-before (part_refusal s i) h;
    }
  where
    number : (n : ℕ) → (before_for n s i).refusal ≡ n
    number zero = refl
    number (suc n) = refl

    nothing-before : (n : ℕ) → (n ≡ 0 → ⊥) → (before_for n s i).bytes ≡ 0
    nothing-before zero h = absurd (h refl)
    nothing-before (suc n) h = refl

edge : (s : List ℕ) (i start size start' size' : ℕ) → PartGiven s i start size 0 start' size' → PointedRight s i start' size'
edge s i start size start' size' g =
    let none = sym g.number in
    let place : start' ≡ bytes_before s i = g.starts ∙ sym (answered-gives (part_refusal s i) (bytes_before s i) start none) in
    let bytes : size' ≡ part_length s i = g.sized ∙ sym (answered-gives (part_refusal s i) (part_length s i) size none) in
    record {
      within = (let inside = part-within s i none in omega arith);
      conditions = constraints-there s i start' size' none place bytes;
    }

sheet_first : (s : List ℕ) (i : ℕ) → (refusal_of s ≡ 0 → ⊥) → part_refusal s i ≡ refusal_of s
sheet_first s i h = sym (by_check s i (refusal_of s) refl h)

twenty_nine : (s : List ℕ) (i : ℕ) → Accepted s → version s ≡ 1 → part_refusal s i ≡ 29
unfolding part_refusal call_refusal
twenty_nine s i ok one = or_else_right (refusal_of s) _ ok ∙ simp (eq-eqb (version s) 1 one)

-- the call's own tests of a sheet of version 2
module _ (s : List ℕ) (i : ℕ) (ok : Accepted s) (two : version s ≡ 2) where
  not_one : version s ≡ 1 → ⊥
  not_one e = absurd (omega arith)

  sixteen : (i ≡ 0) ⊎ (bidder_count s < i) → part_refusal s i ≡ 16
  unfolding part_refusal call_refusal
  sixteen wrong =
      or_else_right (refusal_of s) _ ok
      ∙ simp (
        ne_eqb (version s) 1 not_one,
        ⊎_elim
            (λ (e : i ≡ 0). or_left (ltb (bidder_count s) i) (eq-eqb i 0 e))
            (λ (l : bidder_count s < i). or_right (eqb i 0) (lt-ltb (bidder_count s) i l))
            wrong,
      )

  answers : 0 < i → i ≤ bidder_count s → part_refusal s i ≡ 0
  unfolding part_refusal call_refusal
  answers some most =
      or_else_right (refusal_of s) _ ok
      ∙ simp (ne_eqb (version s) 1 not_one, ne_eqb i 0 (λ e. absurd (omega arith)), le-ltb (bidder_count s) i most)

pub request_five-holds : RequestFive
request_five-holds =
    record {
      in_order = in_order;
      round_in_order = λ s ok. (round_proper s ok).rising;
      free = free;
      twenty_eight = twenty_eight;
      after_thirteen = after_thirteen;
      part = handed;
      starts = starts;
      empty = empty;
      checks = checks;
      edge = edge;
      sheet_first = sheet_first;
      twenty_nine = twenty_nine;
      sixteen = sixteen;
      answered = answers;
    }
