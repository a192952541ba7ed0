use Prim.Native.Nat.{ℕ, ◌+◌, ◌*◌, ◌<◌, ◌≤◌}
use Rattle.std.proofs.Common.{nat_cmp, is_le}
use Rattle.std.proofs.lemmas.Bool.Decides.{nat_tests}
use Rattle.std.proofs.lemmas.Map.Keys.{le_from_is_le}
use mathlib.Core.Bool.{false, false≢true}
use mathlib.Core.List.{List}
use mathlib.Core.Path.{◌≡◌, refl, sym, ◌∙◌, ap, subst}
use native.Mathlib.Numerals.{add-one}
use native.Mathlib.Omega.{arith}
use lib.ListN.{length, get_or}
use Rattle.basis.specs.Tests.{all_below}
use Rattle.sheet.specs.Sheet.{bidder_count, slot_count, constraint_count, owner_field, own_slot_field, other_field, other_slot_field}
use Rattle.sheet.specs.Accepted.{ConstraintAccepted}
use Rattle.sheet.proofs.AcceptedLaws.{accepted-sheet}
use Rattle.loss_bound.specs.LossBound.{names_rival, rival_above}
use Rattle.loss_bound.specs.EngineNaming.{names_among, Noted}
use Rattle.loss_bound.proofs.NamingLaws.{rival_some, named-few, none_noted, next_noted, above-next, no_other, not_above}
use Rattle.loss_bound.proofs.note_all.Goals.{In-loop-k}
use Rattle.loss_bound.proofs.note_all.Goals as goal

lt_from_not_le : (a b : ℕ) → is_le (nat_cmp a b) ≡ false → b < a
lt_from_not_le a b e = grind (arith, nat_tests)

-- the sheet, and the index of a turn
abbrev sheet : In-loop-k → List ℕ
sheet c = c.args.sheet.now

abbrev index : In-loop-k → ℕ
index c = c.loop-k.k

-- the constraint at the index is one of the sheet's,
index_below : (c : In-loop-k) → index c < constraint_count (sheet c)
index_below c = let same = c.requires.2 in let below = c.loop-k-test.true in omega arith

accepted : (c : In-loop-k) →
    ConstraintAccepted (bidder_count (sheet c)) (slot_count (sheet c)) (owner_field (sheet c) (index c)) (own_slot_field (sheet c) (index c))
    (other_field (sheet c) (index c)) (other_slot_field (sheet c) (index c))
accepted c = (accepted-sheet _ c.requires.0).constraints (index c) (index_below c)

-- its bytes lie within the sheet,
room : (c : In-loop-k) → c.args.start + 4 * index c + 4 ≤ length (sheet c)
room c =
    let p = c.requires in
    let counts = (accepted-sheet _ p.0).counts in
    let many = index_below c in
    let at = p.1 in
    omega arith

-- and are its fields
owner_read : (c : In-loop-k) → get_or (sheet c) (c.args.start + 4 * index c) 0 ≡ owner_field (sheet c) (index c)
unfolding owner_field
owner_read c = ap (λ (x : ℕ). get_or (sheet c) (x + 4 * index c) 0) c.requires.1

own_read : (c : In-loop-k) → get_or (sheet c) (c.args.start + 4 * index c + 1) 0 ≡ own_slot_field (sheet c) (index c)
unfolding own_slot_field
own_read c = ap (λ (x : ℕ). get_or (sheet c) (x + 4 * index c + 1) 0) c.requires.1

other_read : (c : In-loop-k) → get_or (sheet c) (c.args.start + 4 * index c + 2) 0 ≡ other_field (sheet c) (index c)
unfolding other_field
other_read c = ap (λ (x : ℕ). get_or (sheet c) (x + 4 * index c + 2) 0) c.requires.1

others_read : (c : In-loop-k) → get_or (sheet c) (c.args.start + 4 * index c + 3) 0 ≡ other_slot_field (sheet c) (index c)
unfolding other_slot_field
others_read c = ap (λ (x : ℕ). get_or (sheet c) (x + 4 * index c + 3) 0) c.requires.1

pub loop-k-init : goal.loop-k-init
unfolding all_below
loop-k-init c =
    let p = c.requires in
    (refl, none_noted _ _ _ _ (accepted-sheet _ p.0).counts.most_bidders p.3 p.4 p.5 p.6)

pub overflow_mul-at : goal.overflow_mul-at
overflow_mul-at c = let inside = room (goal.at.overflow_mul-at c).In-loop-k in omega arith

pub overflow_add-at : goal.overflow_add-at
overflow_add-at c = let inside = room (goal.at.overflow_add-at c).In-loop-k in omega arith

pub overflow_add-own : goal.overflow_add-own
overflow_add-own c = let inside = room (goal.at.overflow_add-own c).In-loop-k in omega arith

pub bounds-sheet-at : goal.bounds-sheet-at
bounds-sheet-at c = let inside = room (goal.at.bounds-sheet-at c).In-loop-k in omega arith

pub overflow_add-others : goal.overflow_add-others
overflow_add-others c = let inside = room (goal.at.overflow_add-others c).In-loop-k in omega arith

pub bounds-sheet-at-in-loop-k : goal.bounds-sheet-at-in-loop-k
bounds-sheet-at-in-loop-k c = let inside = room (goal.at.bounds-sheet-at-in-loop-k c).In-loop-k in omega arith

pub returns-then-others-eq0 : goal.returns-then-others-eq0
returns-then-others-eq0 c =
    let t = (goal.at.returns-then-others-eq0 c).In-loop-k in
    (sym (no_other (sheet t) (index t) _ (index_below t) (sym (others_read t) ∙ c.if-others-eq0.true)), λ e. absurd (false≢true e))

pub returns-then-le : goal.returns-then-le
returns-then-le c =
    let t = (goal.at.returns-then-le c).In-loop-k in
    let less = sym c.le.ensures ∙ c.if-le.true in
    let same = others_read t in
    let same' = own_read t in
    (sym (not_above (sheet t) (index t) _ (index_below t) (omega (arith, le_from_is_le))), λ e. absurd (false≢true e))

-- past both tests it is a pair in which the rival stands above the owner
pub note-requires : goal.note-requires
note-requires c =
    let t = (goal.at.note-requires c).In-loop-k in
    let facts = accepted t in
    let owner = owner_read t in
    let other = other_read t in
    let others = others_read t in
    let some' : 0 < other_slot_field (sheet t) (index t) = omega arith in
    let some = rival_some facts some' in
    let v = c.loop-k.invariant.1 in
    let few = v.few in
    (omega arith, omega arith, omega arith, omega arith, v.sized_words, v.sized_counts, λ j. let named = named-few _ _ _ _ v j in omega arith)

pub loop-k-preserved : goal.loop-k-preserved
loop-k-preserved c =
    let t = (goal.at.loop-k-preserved c).In-loop-k in
    let facts = accepted t in
    let v = c.loop-k.invariant in
    let owner = owner_read t in
    let other = other_read t in
    let others = others_read t in
    let own = own_read t in
    let less = sym c.le.ensures ∙ c.if-le.false in
    let some : 0 < other_slot_field (sheet t) (index t) = omega arith in
    let above : other_slot_field (sheet t) (index t) < own_slot_field (sheet t) (index t) = omega (arith, lt_from_not_le) in
    rw (add-one (index t)) (
      above-next (sheet t) (index t) v.0 some above,
      next_noted (sheet t) _ _ _ (index t)
          (rw (c.from.ensures ∙ owner, c.from-in-loop-k.ensures ∙ other) at (c.note.ensures (bidder_count (sheet t)) (names_among (sheet t) (index t)) (omega arith) (omega arith) v.1)),
    )

pub returns : goal.returns
unfolding names_rival names_among
returns c =
    let v = c.loop-k.invariant in
    let s = c.args.sheet.now in
    let all : c.loop-k.k ≡ constraint_count s = omega arith in (
      sym (ap (all_below (rival_above s)) (sym all) ∙ v.0),
      λ e. subst (λ (k : ℕ). Noted (bidder_count s) (names_among s k) c.loop-k.words c.loop-k.counts) all v.1,
    )
