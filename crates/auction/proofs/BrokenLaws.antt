-- What a broken constraint says, that it stays broken as the page fills, and who is eligible. Assumes nothing.
use Prim.Native.Nat.{ℕ, zero, suc, ◌<◌, ◌≤◌}
use borrow.Author.Tests.{eq-eqb, eqb-true, le-ltb, ltb-true, ltb-false, not-true}
use mathlib.Core.Bool.{Bool, true, false, not, ◌&&◌, ◌||◌, and-true}
use mathlib.Core.Logic.{⊎_elim}
use mathlib.Core.Path.{◌≡◌, refl, sym, ◌∙◌, ap, ap₂}
use native.Mathlib.Omega.{arith}
use lib.Dec.{eqb, ltb}
use Rattle.basis.specs.First.{◌when◌otherwise◌}
use Rattle.basis.specs.Tests.{any_below}
use Rattle.basis.proofs.TestLaws.{same_tests, not_both, fails, and_holds, and_parts, or_left, or_right, not_holds, any_at, any_where}
use Rattle.sheet.specs.declared.Bidder.{Bidder}
use Rattle.sheet.specs.declared.Slot.{Slot}
use Rattle.sheet.specs.declared.Kind.{Kind}
use Rattle.sheet.specs.declared.Kind.TheVariants.{OwnSlot, OtherSlot, Pair}
use Rattle.sheet.specs.declared.Constraint.{Constraint}
use Rattle.sheet.specs.declared.Page.{Page}
use Rattle.sheet.specs.declared.Round.{Round}
use Rattle.auction.specs.Page.{at, put, empty_page, placed, Sized}
use Rattle.auction.specs.Broken.{own_holds, other_holds, broken, breaks, breaks_own}
use Rattle.sheet.specs.Round.{kind_of, bid_of, floor_of, constraint_at, Has}
use Rattle.sheet.specs.Proper.{ProperKind, Proper}
use Rattle.sheet.specs.Encoded.{on}
use Rattle.sheet.proofs.EncodedLaws.{as_constraint}
use Rattle.auction.specs.Eligible.{breaks_earlier, first_failed, eligible}
use Rattle.auction.proofs.PageLaws.{Keeps, keeps_placed, placed_at, placed-put, empty-placed}

-- a broken constraint's parts are true, and its owner has a slot
pub broken-parts : (p : Page) (q : Constraint) → broken p q ≡ true →
    (own_holds p q.owner.0 q.kind ≡ true) × (other_holds p q.kind ≡ true) × (placed p q.owner.0 ≡ true)
unfolding broken
broken-parts p q e =
    let a = and_parts (own_holds p q.owner.0 q.kind && other_holds p q.kind) (placed p q.owner.0) e in
    let b = and_parts (own_holds p q.owner.0 q.kind) (other_holds p q.kind) a.0 in
    (b.0, b.1, a.1)

pub parts-broken : (p : Page) (q : Constraint) → own_holds p q.owner.0 q.kind ≡ true → other_holds p q.kind ≡ true →
    placed p q.owner.0 ≡ true → broken p q ≡ true
unfolding broken
parts-broken p q o t l = and_holds (and_holds o t) l

-- "A condition binds only if its owner has a place."
pub unplaced_unbroken : (p : Page) (q : Constraint) → placed p q.owner.0 ≡ false → broken p q ≡ false
unplaced_unbroken p q h = fails (broken p q) (λ e. not_both (broken-parts p q e).2 h)

-- "A pair naming the same place twice is accepted and never broken."
pub same-slot-unbroken : (p : Page) (owner : Bidder) (k : Slot) (j : Bidder) (l : Slot) → k.0 ≡ l.0 → (j.0 ≡ owner.0 → ⊥) →
    broken p (record { owner = owner; kind = Pair k j l }) ≡ false
unfolding own_holds other_holds
same-slot-unbroken p owner k j l same other =
    fails (broken p (record { owner = owner; kind = Pair k j l }))
    (λ e.
    let parts = broken-parts p (record { owner = owner; kind = Pair k j l }) e in
    other (sym (eqb-true (at p l.0) j.0 parts.1) ∙ ap (at p) (sym same) ∙ eqb-true (at p k.0) owner.0 parts.0))

-- an equation between a slot and a bidder stays as the page fills
stays : (p p' : Page) (k b : ℕ) → Keeps p p' → (b ≡ 0 → ⊥) → eqb (at p k) b ≡ true → eqb (at p' k) b ≡ true
stays p p' k b f s e =
    let here = eqb-true (at p k) b e in
    eq-eqb (at p' k) b (f k (λ z. s (sym here ∙ z)) ∙ here)

own_stays : (p p' : Page) (o : ℕ) (kind : Kind) → Keeps p p' → (o ≡ 0 → ⊥) → own_holds p o kind ≡ true → own_holds p' o kind ≡ true
unfolding own_holds
own_stays p p' o (OwnSlot k) f s e = stays p p' k.0 o f s e
own_stays p p' o (OtherSlot j l) f s e = refl
own_stays p p' o (Pair k j l) f s e = stays p p' k.0 o f s e

pub other_stays : (p p' : Page) (o : ℕ) (kind : Kind) → Keeps p p' → ProperKind o kind → other_holds p kind ≡ true → other_holds p' kind ≡ true
unfolding other_holds
other_stays p p' o (OwnSlot k) f s e = refl
other_stays p p' o (OtherSlot j l) f s e = stays p p' l.0 j.0 f s.0 e
other_stays p p' o (Pair k j l) f s e = stays p p' l.0 j.0 f s.0 e

-- what is broken stays broken as the page fills
pub broken_stays : (p p' : Page) (q : Constraint) → Keeps p p' → Proper q → broken p q ≡ true → broken p' q ≡ true
broken_stays p p' q f s e =
    let parts = broken-parts p q e in
    parts-broken p' q
    (own_stays p p' q.owner.0 q.kind f s.owned parts.0)
    (other_stays p p' q.owner.0 q.kind f s.parts parts.1)
    (keeps_placed p p' q.owner.0 s.owned f parts.2)

pub empty-unbroken : (q : Constraint) → Proper q → broken empty_page q ≡ false
empty-unbroken q s = unplaced_unbroken empty_page q (empty-placed q.owner.0 s.owned)

-- a page breaks the round exactly when it breaks a constraint that the round has
pub breaks-at : (r : Round) (p : Page) (q : Constraint) → Has r q → broken p q ≡ true → breaks r p ≡ true
unfolding breaks
breaks-at r p q h e = any_at (λ i. broken p (constraint_at r i)) r.used h.0 h.1 (ap (broken p) h.2 ∙ e)

pub breaks_where : (r : Round) (p : Page) → breaks r p ≡ true → (q : Constraint) × Has r q × (broken p q ≡ true)
unfolding breaks
breaks_where r p e =
    let w = any_where (λ i. broken p (constraint_at r i)) r.used e in
    (constraint_at r w.0, (w.0, w.1, refl), w.2)

pub breaks-none : (r : Round) (p : Page) → breaks r p ≡ false → (q : Constraint) → Has r q → broken p q ≡ false
breaks-none r p e q h = fails (broken p q) (λ t. not_both (breaks-at r p q h t) e)

pub none-breaks : (r : Round) (p : Page) → ((q : Constraint) → Has r q → broken p q ≡ false) → breaks r p ≡ false
none-breaks r p f = fails (breaks r p) (λ e. let w = breaks_where r p e in not_both w.2 (f w.0 w.1))

-- some constraint is broken whose owner passes a test: the bidder itself, or an earlier winner
module _ (whose : ℕ → Bool) (r : Round) (p : Page) where
  owned_at : (q : Constraint) → Has r q → whose q.owner.0 ≡ true → broken p q ≡ true →
      any_below (λ a. whose (constraint_at r a).owner.0 && broken p (constraint_at r a)) r.used ≡ true
  owned_at q h o e =
      any_at (λ a. whose (constraint_at r a).owner.0 && broken p (constraint_at r a)) r.used h.0 h.1
      (and_holds (ap (λ (x : Constraint). whose x.owner.0) h.2 ∙ o) (ap (broken p) h.2 ∙ e))

  owned_where : any_below (λ a. whose (constraint_at r a).owner.0 && broken p (constraint_at r a)) r.used ≡ true →
      (q : Constraint) × Has r q × (broken p q ≡ true)
  owned_where e =
      let w = any_where (λ a. whose (constraint_at r a).owner.0 && broken p (constraint_at r a)) r.used e in
      (constraint_at r w.0, (w.0, w.1, refl), (and_parts (whose (constraint_at r w.0).owner.0) (broken p (constraint_at r w.0)) w.2).1)

pub breaks_own-at : (r : Round) (p : Page) (i : ℕ) (q : Constraint) → Has r q → q.owner.0 ≡ i → broken p q ≡ true → breaks_own r p i ≡ true
unfolding breaks_own
breaks_own-at r p i q h o e = owned_at (λ b. eqb b i) r p q h (eq-eqb q.owner.0 i o) e

pub breaks_own_where : (r : Round) (p : Page) (i : ℕ) → breaks_own r p i ≡ true → (q : Constraint) × Has r q × (broken p q ≡ true)
unfolding breaks_own
breaks_own_where r p i = owned_where (λ b. eqb b i) r p

pub breaks_earlier-at : (r : Round) (p p' : Page) (q : Constraint) → Has r q → placed p q.owner.0 ≡ true → broken p' q ≡ true → breaks_earlier r p p' ≡ true
unfolding breaks_earlier
breaks_earlier-at r p p' = owned_at (placed p) r p'

pub breaks_earlier_where : (r : Round) (p p' : Page) → breaks_earlier r p p' ≡ true → (q : Constraint) × Has r q × (broken p' q ≡ true)
unfolding breaks_earlier
breaks_earlier_where r p p' = owned_where (placed p) r p'

-- none of four tests fails
none_of_four : (x y z t : Bool) → eqb (1 when x otherwise 2 when y otherwise 3 when z otherwise 4 when t otherwise 0) 0 ≡ ((not x && not (z || y)) && not t)
none_of_four true y z t = refl
none_of_four false true true t = refl
none_of_four false true false t = refl
none_of_four false false true t = refl
none_of_four false false false true = refl
none_of_four false false false false = refl

-- the fourth test is the first that fails exactly where the three before it pass
pub first_is_four : (x y z t : Bool) → (1 when x otherwise 2 when y otherwise 3 when z otherwise 4 when t otherwise 0) ≡ 4 →
    (x ≡ false) × (y ≡ false) × (z ≡ false) × (t ≡ true)
first_is_four true y z t e = absurd (omega arith)
first_is_four false true z t e = absurd (omega arith)
first_is_four false false true t e = absurd (omega arith)
first_is_four false false false true e = (refl, refl, refl, refl)
first_is_four false false false false e = absurd (omega arith)

-- What being eligible says.
module _ (r : Round) (p : Page) (k b : ℕ) where
  -- the four tests
  eligible_tests : eligible r p k b ≡ ((not (placed p b) && not (breaks_own r (put p k b) b || breaks_earlier r p (put p k b))) && not (ltb (bid_of r b) (floor_of r k)))
  unfolding eligible first_failed
  eligible_tests = none_of_four (placed p b) (breaks_earlier r p (put p k b)) (breaks_own r (put p k b) b) (ltb (bid_of r b) (floor_of r k))

  -- "A bidder is eligible for a place only with a bid at or above its floor"
  pub eligible-reaches : eligible r p k b ≡ true → floor_of r k ≤ bid_of r b
  eligible-reaches e =
      ltb-false (bid_of r b) (floor_of r k)
      (not-true (ltb (bid_of r b) (floor_of r k))
      (and_parts (not (placed p b) && not (breaks_own r (put p k b) b || breaks_earlier r p (put p k b))) (not (ltb (bid_of r b) (floor_of r k))) (sym eligible_tests ∙ e)).1)

  -- "An unplaced bidder is eligible for place k if, with the places already filled and it at k, neither its own conditions nor those of an
  -- earlier winner are broken": wherever its bid reaches the floor.
  pub eligible-sentence : floor_of r k ≤ bid_of r b → eligible r p k b ≡ (not (placed p b) && not (breaks_own r (put p k b) b || breaks_earlier r p (put p k b)))
  eligible-sentence reaches =
      eligible_tests
      ∙ ap (λ (t : Bool). (not (placed p b) && not (breaks_own r (put p k b) b || breaks_earlier r p (put p k b))) && not t) (le-ltb (bid_of r b) (floor_of r k) reaches)
      ∙ and-true (not (placed p b) && not (breaks_own r (put p k b) b || breaks_earlier r p (put p k b)))

  -- its three parts besides
  eligible-parts : eligible r p k b ≡ true →
      (placed p b ≡ false) × (breaks_own r (put p k b) b ≡ false) × (breaks_earlier r p (put p k b) ≡ false)
  eligible-parts e =
      let own = breaks_own r (put p k b) b in
      let earlier = breaks_earlier r p (put p k b) in
      let both = and_parts (not (placed p b)) (not (own || earlier)) (sym (eligible-sentence (eligible-reaches e)) ∙ e) in
      let neither = not-true (own || earlier) both.1 in (
        not-true (placed p b) both.0,
        fails own (λ t. not_both (or_left earlier t) neither),
        fails earlier (λ t. not_both (or_right own t) neither),
      )

  -- who fails the fourth test alone is below the floor
  pub fourth_below : first_failed r p k b ≡ 4 → bid_of r b < floor_of r k
  unfolding first_failed
  fourth_below e =
      ltb-true (bid_of r b) (floor_of r k)
      (first_is_four (placed p b) (breaks_earlier r p (put p k b)) (breaks_own r (put p k b) b) (ltb (bid_of r b) (floor_of r k)) e).3

  pub eligible_unplaced : eligible r p k b ≡ true → placed p b ≡ false
  eligible_unplaced e = (eligible-parts e).0

  -- No constraint of the round is broken: one that is neither the candidate's own nor an earlier winner's does not bind, since its owner has
  -- no slot.
  pub eligible-unbroken : Sized p → 0 < k → k ≤ 16 → eligible r p k b ≡ true → (q : Constraint) → Has r q → broken (put p k b) q ≡ false
  eligible-unbroken s l m e q h =
      let parts = eligible-parts e in
      fails (broken (put p k b) q)
      (λ t.
      ⊎_elim
      (λ (x : q.owner.0 ≡ b). not_both (breaks_own-at r (put p k b) b q h x t) parts.1)
      (λ (x : placed p q.owner.0 ≡ true). not_both (breaks_earlier-at r p (put p k b) q h x t) parts.2)
      (placed-put p k b q.owner.0 s l m (broken-parts (put p k b) q t).2))

  pub unbroken-eligible : floor_of r k ≤ bid_of r b → placed p b ≡ false → ((q : Constraint) → Has r q → broken (put p k b) q ≡ false) → eligible r p k b ≡ true
  unbroken-eligible reaches u f =
      let own : breaks_own r (put p k b) b ≡ false
      = fails (breaks_own r (put p k b) b) (λ t. let w = breaks_own_where r (put p k b) b t in not_both w.2 (f w.0 w.1)) in
      let earlier : breaks_earlier r p (put p k b) ≡ false
      = fails (breaks_earlier r p (put p k b)) (λ t. let w = breaks_earlier_where r p (put p k b) t in not_both w.2 (f w.0 w.1)) in
      eligible-sentence reaches ∙ and_holds (not_holds u) (ap₂ (λ (x y : Bool). not (x || y)) own earlier)

-- A constraint's own test, kind by kind: an owner at its own slot has a slot, so `placed` adds nothing there.
module _ (p : Page) (owner : Bidder) where
  abbrev with_kind : Kind → Constraint
  with_kind kind = record { owner = owner; kind = kind }

  here-placed : (k : ℕ) → 0 < k → k ≤ 16 → eqb (at p k) owner.0 ≡ true → placed p owner.0 ≡ true
  here-placed k s m e = placed_at p owner.0 k s m (eqb-true (at p k) owner.0 e)

  pub pair_broken : (k : Slot) (j : Bidder) (l : Slot) → 0 < k.0 → k.0 ≤ 16 → eqb (at p k.0) owner.0 ≡ true →
      eqb (at p l.0) j.0 ≡ broken p (with_kind (Pair k j l))
  unfolding own_holds other_holds
  pair_broken k j l s m e =
      same_tests (eqb (at p l.0) j.0) (broken p (with_kind (Pair k j l)))
      (λ t. parts-broken p (with_kind (Pair k j l)) e t (here-placed k.0 s m e))
      (λ t. (broken-parts p (with_kind (Pair k j l)) t).1)

-- A condition that is a pair is broken exactly where both stand at their places.
pub pair_where : (p : Page) (owner own other others : ℕ) → 0 < own → 0 < other → broken p (as_constraint (on owner own other others)) ≡ true →
    (at p own ≡ owner) × (at p others ≡ other)
unfolding as_constraint kind_of own_holds other_holds
pair_where p owner own zero others a b e = absurd (omega arith)
pair_where p owner zero (suc other) others a b e = absurd (omega arith)
pair_where p owner (suc own) (suc other) others a b e =
    let both = broken-parts p (as_constraint (on owner (suc own) (suc other) others)) e in
    (eqb-true (at p (suc own)) owner both.0, eqb-true (at p others) (suc other) both.1)

pub pair_there : (p : Page) (owner own other others : ℕ) → 0 < own → own ≤ 16 → 0 < other → at p own ≡ owner → at p others ≡ other →
    broken p (as_constraint (on owner own other others)) ≡ true
unfolding as_constraint kind_of own_holds other_holds
pair_there p owner own zero others a c b e e' = absurd (omega arith)
pair_there p owner zero (suc other) others a c b e e' = absurd (omega arith)
pair_there p owner (suc own) (suc other) others a c b e e' =
    parts-broken p (as_constraint (on owner (suc own) (suc other) others))
    (eq-eqb (at p (suc own)) owner e) (eq-eqb (at p others) (suc other) e') (placed_at p owner (suc own) a c e)
