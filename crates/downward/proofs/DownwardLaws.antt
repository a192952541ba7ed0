-- What the downward test says of a list: two kinds are the same exactly when they are equal, and a list that passes has each constraint
-- one lower; that it sees only which constraints there are; and what the call's answer says. Assumes nothing.
use Prim.Native.Nat.{ℕ, zero, suc, ◌<◌, ◌≤◌}
use borrow.Author.Tests.{eq-eqb, eqb-true, eqb-false, lt-ltb, ltb-true, ltb-false}
use mathlib.Core.Bool.{Bool, true, false, not, ◌&&◌, ◌||◌, false≢true}
use mathlib.Core.List.{List}
use mathlib.Core.Path.{◌≡◌, refl, sym, ◌∙◌, ap, ap₂}
use native.Mathlib.Omega.{arith}
use lib.Dec.{eqb, ltb}
use Rattle.basis.specs.Tests.{all_below}
use Rattle.basis.proofs.FirstLaws.{or_else-none, when_none}
use Rattle.basis.proofs.TestLaws.{and_holds, and_parts, or_none, any_at, any_where, all-at, at_all}
use Rattle.sheet.specs.declared.Kind.{Kind}
use Rattle.sheet.specs.declared.Kind.TheVariants.{OwnSlot, OtherSlot, Pair}
use Rattle.sheet.specs.declared.Constraint.{Constraint}
use Rattle.sheet.specs.declared.Round.{Round}
use Rattle.sheet.specs.Refusal.{refusal_of}
use Rattle.sheet.specs.Sheet.{bidder_count}
use Rattle.sheet.specs.Round.{bidder, slot, round_of, constraint_at, Has}
use Rattle.sheet.proofs.RoundLaws.{any_of_set, all_of_set}
use Rattle.downward.specs.Downward.{own_slot, one_lower, same_kind, list_has, asks_lower, downward}
use Rattle.downward.specs.Call.{Tested, test_refusal, tested_for, tested_of}

-- kinds that pass the test are equal,
pub same_kind_lem : (a b : Kind) → same_kind a b ≡ true → a ≡ b
unfolding same_kind
same_kind_lem (OwnSlot k) (OwnSlot k') e = ap (λ (x : ℕ). OwnSlot (slot x)) (eqb-true k.0 k'.0 e)
same_kind_lem (OwnSlot k) (OtherSlot j l) e = absurd (false≢true e)
same_kind_lem (OwnSlot k) (Pair k' j l) e = absurd (false≢true e)
same_kind_lem (OtherSlot j l) (OwnSlot k) e = absurd (false≢true e)
same_kind_lem (OtherSlot j l) (OtherSlot j' l') e =
    let parts = and_parts (eqb j.0 j'.0) (eqb l.0 l'.0) e in
    ap₂ (λ (x y : ℕ). OtherSlot (bidder x) (slot y)) (eqb-true j.0 j'.0 parts.0) (eqb-true l.0 l'.0 parts.1)
same_kind_lem (OtherSlot j l) (Pair k j' l') e = absurd (false≢true e)
same_kind_lem (Pair k j l) (OwnSlot k') e = absurd (false≢true e)
same_kind_lem (Pair k j l) (OtherSlot j' l') e = absurd (false≢true e)
same_kind_lem (Pair k j l) (Pair k' j' l') e =
    let parts = and_parts (eqb k.0 k'.0) (eqb j.0 j'.0 && eqb l.0 l'.0) e in
    let others = and_parts (eqb j.0 j'.0) (eqb l.0 l'.0) parts.1 in
    let own = eqb-true k.0 k'.0 parts.0 in
    let other = eqb-true j.0 j'.0 others.0 in
    let at = eqb-true l.0 l'.0 others.1 in
    λ x. Pair (slot (own x)) (bidder (other x)) (slot (at x))

-- and a kind passes it with itself
pub kind_same : (a : Kind) → same_kind a a ≡ true
unfolding same_kind
kind_same (OwnSlot k) = eq-eqb k.0 k.0 refl
kind_same (OtherSlot j l) = and_holds (eq-eqb j.0 j.0 refl) (eq-eqb l.0 l.0 refl)
kind_same (Pair k j l) =
    and_holds (eq-eqb k.0 k.0 refl) (and_holds (eq-eqb j.0 j.0 refl) (eq-eqb l.0 l.0 refl))

-- a test "where the first holds, so does the second" says so, and is passed so
pub implied : (a b : Bool) → (not a || b) ≡ true → a ≡ true → b ≡ true
implied true b e h = e
implied false b e h = absurd (false≢true h)

pub implies : (a b : Bool) → (a ≡ true → b ≡ true) → (not a || b) ≡ true
implies true b f = f refl
implies false b f = refl

module _ (r : Round) (i : ℕ) where
  -- bidder i's list has a kind exactly when the round has a constraint of that owner and kind
  pub list_where : (kind : Kind) → list_has r i kind ≡ true →
      (a : ℕ) × (a < r.used) × ((constraint_at r a).owner.0 ≡ i) × ((constraint_at r a).kind ≡ kind)
  unfolding list_has
  list_where kind e =
      let w = any_where (λ a. eqb (constraint_at r a).owner.0 i && same_kind (constraint_at r a).kind kind) r.used e in
      let parts = and_parts (eqb (constraint_at r w.0).owner.0 i) (same_kind (constraint_at r w.0).kind kind) w.2 in
      (w.0, w.1, eqb-true (constraint_at r w.0).owner.0 i parts.0, same_kind_lem (constraint_at r w.0).kind kind parts.1)

  pub list_at : (kind : Kind) (a : ℕ) → a < r.used → (constraint_at r a).owner.0 ≡ i → (constraint_at r a).kind ≡ kind → list_has r i kind ≡ true
  unfolding list_has
  list_at kind a l own same =
      any_at (λ x. eqb (constraint_at r x).owner.0 i && same_kind (constraint_at r x).kind kind) r.used a l
      (and_holds (eq-eqb (constraint_at r a).owner.0 i own) (ap (λ (k : Kind). same_kind k kind) same ∙ kind_same kind))

  -- in a list that passes, what an index asks for is there
  pub downward-at : downward r i ≡ true → (a : ℕ) → a < r.used → (constraint_at r a).owner.0 ≡ i →
      asks_lower r (constraint_at r a).kind ≡ true → list_has r i (one_lower (constraint_at r a).kind) ≡ true
  unfolding downward
  downward-at e a l own asks =
      implied (eqb (constraint_at r a).owner.0 i && asks_lower r (constraint_at r a).kind) (list_has r i (one_lower (constraint_at r a).kind))
      (all-at
      (λ x.
      not (eqb (constraint_at r x).owner.0 i && asks_lower r (constraint_at r x).kind) || list_has r i (one_lower (constraint_at r x).kind))
      r.used e a l)
      (and_holds (eq-eqb (constraint_at r a).owner.0 i own) asks)

-- a list that passes has each of its constraints one lower too
pub downward-lower : (r : Round) (i : ℕ) → downward r i ≡ true → (q : Constraint) → Has r q → q.owner.0 ≡ i → 0 < own_slot q.kind →
    own_slot q.kind < r.slots → Has r (record { owner = q.owner; kind = one_lower q.kind })
unfolding asks_lower
downward-lower r i e q h own some less =
    let here = h.2 in
    let asks : asks_lower r (constraint_at r h.0).kind ≡ true
    = ap (λ (x : Constraint). asks_lower r x.kind) here
    ∙ and_holds (lt-ltb 0 (own_slot q.kind) some) (lt-ltb (own_slot q.kind) r.slots less) in
    let w = list_where r i _ (downward-at r i e h.0 h.1 (ap (λ (x : Constraint). x.owner.0) here ∙ own) asks) in
    let owner : (constraint_at r w.0).owner.0 ≡ q.owner.0 = w.2 ∙ sym own in
    let kind : (constraint_at r w.0).kind ≡ one_lower q.kind = w.3 ∙ ap (λ (x : Constraint). one_lower x.kind) here in
    (w.0, w.1, λ x. record { owner = bidder (owner x); kind = kind x })

-- and a list that has each of them passes
pub downward_where : (r : Round) (i : ℕ) →
    ((q : Constraint) → Has r q → q.owner.0 ≡ i → 0 < own_slot q.kind → own_slot q.kind < r.slots → Has r (record { owner = q.owner; kind = one_lower q.kind })) →
    downward r i ≡ true
unfolding downward asks_lower
downward_where r i lower =
    at_all
    (λ a.
    not (eqb (constraint_at r a).owner.0 i && asks_lower r (constraint_at r a).kind) || list_has r i (one_lower (constraint_at r a).kind))
    r.used
    (λ a l.
    let q = constraint_at r a in
    implies (eqb q.owner.0 i && asks_lower r q.kind) (list_has r i (one_lower q.kind))
    (λ h.
    let own = and_parts (eqb q.owner.0 i) (asks_lower r q.kind) h in
    let asks = and_parts (ltb 0 (own_slot q.kind)) (ltb (own_slot q.kind) r.slots) own.1 in
    let mine = eqb-true q.owner.0 i own.0 in
    let w = lower q (a, l, refl) mine (ltb-true 0 (own_slot q.kind) asks.0) (ltb-true (own_slot q.kind) r.slots asks.1) in
    list_at r i (one_lower q.kind) w.0 w.1 (ap (λ (x : Constraint). x.owner.0) w.2 ∙ mine) (ap (λ (x : Constraint). x.kind) w.2)))

-- the test sees only which constraints the round has, and how many slots
module _ (r r' : Round) (i : ℕ) (slots : r.slots ≡ r'.slots)
    (there : (q : Constraint) → Has r q → Has r' q) (back : (q : Constraint) → Has r' q → Has r q) where
  list_sets : (kind : Kind) → list_has r i kind ≡ list_has r' i kind
  unfolding list_has
  list_sets kind = any_of_set r r' (λ q. eqb q.owner.0 i && same_kind q.kind kind) there back

  asks_sets : (kind : Kind) → asks_lower r kind ≡ asks_lower r' kind
  unfolding asks_lower
  asks_sets kind = ap (λ (m : ℕ). ltb 0 (own_slot kind) && ltb (own_slot kind) m) slots

  pub downward-sets : downward r i ≡ downward r' i
  unfolding downward
  downward-sets =
      all_of_set r r' (λ q. not (eqb q.owner.0 i && asks_lower r q.kind) || list_has r i (one_lower q.kind)) there back
      ∙ (λ x.
      all_below
      (λ a.
      not (eqb (constraint_at r' a).owner.0 i && asks_sets (constraint_at r' a).kind x) || list_sets (one_lower (constraint_at r' a).kind) x)
      r'.used)

-- an answer "0 and yes" says that the call broke no rule and that the list passes,
answer-yes : (k : ℕ) (s : List ℕ) (i : ℕ) → tested_for k s i ≡ record { refusal = 0; yes = true } → (k ≡ 0) × (downward (round_of s) i ≡ true)
unfolding tested_for
answer-yes zero s i e = (refl, ap (λ (x : Tested). x.yes) e)
answer-yes (suc k) s i e = absurd (let z : suc k ≡ 0 = ap (λ (x : Tested). x.refusal) e in omega arith)

-- so that the bidder is one of the sheet's
pub tested-yes : (s : List ℕ) (i : ℕ) → tested_of s i ≡ record { refusal = 0; yes = true } →
    (0 < i) × ((i ≤ bidder_count s) × (downward (round_of s) i ≡ true))
unfolding tested_of test_refusal
tested-yes s i e =
    let answer = answer-yes (test_refusal s i) s i e in
    let none = when_none 15 (eqb i 0 || ltb (bidder_count s) i) 0 (or_else-none (refusal_of s) _ answer.0).1 in
    let parts = or_none (eqb i 0) (ltb (bidder_count s) i) none.0 in
    let some : i ≡ 0 → ⊥ = eqb-false i 0 parts.0 in
    (omega arith, (ltb-false (bidder_count s) i parts.1, answer.1))
