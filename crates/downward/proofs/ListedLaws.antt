-- The sets of listed slots: the bits of one slot's set and of what a set lacks, what a store enters, how the sets of a loop add up, and why
-- the test over the sets is the test over the list: the other part and the own slot say a proper kind. Assumes nothing.
use Prim.Native.Nat.{ℕ, zero, suc, ◌+◌, ◌*◌, ◌-◌, ◌/◌, ◌%◌, ◌^◌, ◌<◌, ◌≤◌}
use borrow.Author.Tests.{eq-eqb, ne_eqb, eqb-true, eqb-false, lt-ltb, ltb-true, le-leb, not-true}
use mathlib.Core.Bool.{Bool, true, false, not, ◌&&◌, ◌||◌, false≢true, or-false}
use mathlib.Core.List.{List}
use mathlib.Core.Path.{◌≡◌, refl, sym, ◌∙◌, ap, ap₂}
use native.Mathlib.Omega.{arith}
use lib.Bits.{bit_and, bit_or, bit_xor}
use lib.Dec.{eqb, ltb}
use lib.ListN.{length, get_or, set, take, length-take}
use lib.Seq.{get_or-take}
use Rattle.basis.specs.Bits.{bit_of}
use Rattle.basis.specs.Tests.{any_below, all_below}
use Rattle.basis.proofs.BitLaws.{bit_of-bit_and, bit_without, bit_shl, bit_shr, bit_single, bit_zero, no_bits, store_or}
use Rattle.basis.proofs.NumberLaws.{eqb_turned}
use Rattle.basis.proofs.TestLaws.{not_both, holds, fails, same_tests, and_holds, and_parts, not_holds, any_at, any_where, none_any, at_all, tried}
use Rattle.sheet.specs.declared.Kind.{Kind}
use Rattle.sheet.specs.declared.Kind.TheVariants.{OwnSlot, OtherSlot, Pair}
use Rattle.sheet.specs.declared.Round.{Round}
use Rattle.sheet.specs.Accepted.{ConstraintAccepted}
use Rattle.sheet.specs.Refusal.{Accepted}
use Rattle.sheet.specs.Round.{bidder, slot, kind_of, constraint_field, round_of, constraint_at}
use Rattle.sheet.specs.Sheet.{bidder_count, constraint_count}
use Rattle.sheet.specs.Proper.{ProperKind, ProperRound}
use Rattle.sheet.proofs.AcceptedLaws.{accepted-sheet}
use Rattle.sheet.proofs.RoundLaws.{round_constraint}
use Rattle.downward.specs.Downward.{own_slot, one_lower, list_has, asks_lower, downward}
use Rattle.downward.specs.EngineListed.{other_part, KindInRange, owns_with, Listed, misses_next, some_missing}
use Rattle.downward.proofs.DownwardLaws.{implies, list_where, list_at, downward-at}

-- The bits of one slot's set: slot k + 1 at bit k.
pub slot_bits : (s k : ℕ) → k < 16 → bit_of (1 * 2 ^ s % 2 ^ 32 / 2 ^ 1) k ≡ eqb s (suc k)
slot_bits s k l =
    bit_shr (1 * 2 ^ s % 2 ^ 32) 1 k
    ∙ bit_single s 32 (1 + k) (omega arith)
    ∙ same_tests (eqb (1 + k) s) (eqb s (suc k))
    (λ e. eq-eqb s (suc k) (let h = eqb-true (1 + k) s e in omega arith))
    (λ e. eq-eqb (1 + k) s (let h = eqb-true s (suc k) e in omega arith))

-- The bits of the slots that ask, 1 to m - 1: each m and each bit is tried.
abbrev asking : ℕ → ℕ
asking m = 1 * 2 ^ m % 2 ^ 32 / 2 - 1

asking_bits : (m k : ℕ) → m ≤ 16 → k < 16 → bit_of (asking m) k ≡ ltb (suc k) m
unfolding all_below bit_of
asking_bits m k l h = tried (λ n i. bit_of (asking n) i) (λ n i. ltb (suc i) n) 17 16 refl m (omega arith) k h

-- what a set asks for and does not have
pub missing_bits : (had m k : ℕ) → m ≤ 16 → k < 16 →
    bit_of (bit_xor (bit_or (bit_and had (asking m) * 2 ^ 1 % 2 ^ 16) had) had) k ≡ misses_next m had k
unfolding misses_next
missing_bits had m zero l h =
    bit_without (bit_and had (asking m) * 2 ^ 1 % 2 ^ 16) had 0
    ∙ ap (λ (t : Bool). t && not (bit_of had 0)) (bit_shl (bit_and had (asking m)) 1 16 0 h)
missing_bits had m (suc k) l h =
    bit_without (bit_and had (asking m) * 2 ^ 1 % 2 ^ 16) had (suc k)
    ∙ ap (λ (t : Bool). t && not (bit_of had (suc k)))
    (bit_shl (bit_and had (asking m)) 1 16 (suc k) h
    ∙ ap₂ (λ (t : Bool) (n : ℕ). t && bit_of (bit_and had (asking m)) n) (le-leb 1 (suc k) (omega arith)) (let e : suc k - 1 ≡ k = omega arith in e)
    ∙ bit_of-bit_and had (asking m) k
    ∙ ap (λ (t : Bool). bit_of had k && t) (asking_bits m k l (omega arith)))

-- A store enters one slot in the set of one other part.
pub store_lists : (listed : List ℕ) (at own s : ℕ) → at < length listed → ((k : ℕ) → k < 16 → bit_of own k ≡ eqb s (suc k)) →
    (part k : ℕ) → k < 16 →
    bit_of (get_or (set listed at (bit_or (get_or listed at 0) own)) part 0) k ≡ (bit_of (get_or listed part 0) k || (eqb at part && eqb s (suc k)))
store_lists listed at own s inside told part k l =
    store_or listed at own part k inside
    ∙ ap₂ (λ (x y : Bool). bit_of (get_or listed part 0) k || (x && y)) (eqb_turned part at) (told k l)

-- Empty sets list none,
pub none_listed : (r : Round) (i : ℕ) (listed : List ℕ) → length listed ≡ 1041 → ((part : ℕ) → get_or listed part 0 ≡ 0) → Listed r i 0 listed
unfolding owns_with any_below
none_listed r i listed size empty =
    record { sized = size; told = λ part k l. ap (λ (n : ℕ). bit_of n k) (empty part) ∙ bit_zero k }

-- the next constraint is entered if it is the bidder's, and else passed by
module _ (r : Round) (i n : ℕ) (listed : List ℕ) (g : Listed r i n listed) where
  pub own_listed : (after : List ℕ) → length after ≡ 1041 → (constraint_at r n).owner.0 ≡ i →
      ((part k : ℕ) → k < 16 →
      bit_of (get_or after part 0) k
      ≡ (bit_of (get_or listed part 0) k || (eqb (other_part (constraint_at r n).kind) part && eqb (own_slot (constraint_at r n).kind) (suc k)))) →
      Listed r i (suc n) after
  unfolding owns_with any_below
  own_listed after size own entered =
      record {
        sized = size;
        told = λ part k l.
            let here = eqb (other_part (constraint_at r n).kind) part && eqb (own_slot (constraint_at r n).kind) (suc k) in
            entered part k l
            ∙ ap₂ (λ (s t : Bool). s || (t && here)) (g.told part k l) (sym (eq-eqb (constraint_at r n).owner.0 i own));
      }

  pub other-passed : ((constraint_at r n).owner.0 ≡ i → ⊥) → Listed r i (suc n) listed
  unfolding owns_with any_below
  other-passed other =
      record {
        sized = g.sized;
        told = λ part k l.
            let here = eqb (other_part (constraint_at r n).kind) part && eqb (own_slot (constraint_at r n).kind) (suc k) in
            g.told part k l
            ∙ sym
            (ap (λ (t : Bool). owns_with r i n part (suc k) || (t && here)) (ne_eqb (constraint_at r n).owner.0 i other)
            ∙ or-false (owns_with r i n part (suc k)));
      }

-- Some set lacks a slot exactly when what all of them lack is not 0.
pub missing_some : (m missing n : ℕ) (listed : List ℕ) → missing < 2 ^ 16 →
    ((k : ℕ) → k < 16 → bit_of missing k ≡ any_below (λ part. misses_next m (get_or listed part 0) k) n) →
    not (eqb missing 0) ≡ some_missing m listed n
unfolding some_missing
missing_some m missing n listed fits told =
    same_tests (not (eqb missing 0)) (any_below (λ part. any_below (λ k. misses_next m (get_or listed part 0) k) 16) n)
    (λ e.
    holds (any_below (λ part. any_below (λ k. misses_next m (get_or listed part 0) k) 16) n)
    (λ none.
    eqb-false missing 0 (not-true (eqb missing 0) e)
    (no_bits 16 missing fits
    (λ k l.
    told k l
    ∙ none_any (λ part. misses_next m (get_or listed part 0) k) n
    (λ part inside.
    fails (misses_next m (get_or listed part 0) k)
    (λ h.
    not_both
    (any_at (λ x. any_below (λ y. misses_next m (get_or listed x 0) y) 16) n part inside (any_at (λ y. misses_next m (get_or listed part 0) y) 16 k l h))
    none))))))
    (λ e.
    let w = any_where (λ part. any_below (λ k. misses_next m (get_or listed part 0) k) 16) n e in
    let v = any_where (λ k. misses_next m (get_or listed w.0 0) k) 16 w.2 in
    let set-bit = told v.0 v.1 ∙ any_at (λ part. misses_next m (get_or listed part 0) v.0) n w.0 w.1 v.2 in
    not_holds
    (ne_eqb missing 0
    (λ z. not_both set-bit (ap (λ (x : ℕ). bit_of x v.0) z ∙ bit_zero v.0))))

-- A proper kind is in range, and so is its other part.
pub kind_in_range : (o : ℕ) (a : Kind) → ProperKind o a → KindInRange a
kind_in_range o (OwnSlot k) p = omega arith
kind_in_range o (OtherSlot j l) p = omega arith
kind_in_range o (Pair k j l) p = omega arith

pub own-in_range : (a : Kind) → KindInRange a → own_slot a ≤ 16
unfolding own_slot
own-in_range (OwnSlot k) p = p
own-in_range (OtherSlot j l) p = omega arith
own-in_range (Pair k j l) p = p.0

part-below : (n m owner own other others : ℕ) → m ≤ 16 → ConstraintAccepted n m owner own other others →
    other_part (kind_of own other others) < 16 * n + 17
unfolding kind_of other_part
part-below n m owner own zero others few a = omega arith
part-below n m owner zero (suc other) others few a = (let h = a.most_other in let l = a.most_others in omega arith)
part-below n m owner (suc own) (suc other) others few a = (let h = a.most_other in let l = a.most_others in omega arith)

pub sheet-part-below : (s : List ℕ) → Accepted s → (a : ℕ) → a < constraint_count s →
    other_part (constraint_at (round_of s) a).kind < 16 * bidder_count s + 17
unfolding constraint_field
sheet-part-below s ok a l =
    let facts = accepted-sheet s ok in
    rw (round_constraint s ok a l) (part-below _ _ _ _ _ _ facts.counts.most_slots (facts.constraints a l))

-- The other part and the own slot say a kind whose own slot and other are not 0 and whose other's slot is 1 to 16.
abbrev Ranged : Kind → Type 0
Ranged (OwnSlot k) = 0 < k.0
Ranged (OtherSlot j l) = (0 < j.0) × (0 < l.0) × (l.0 ≤ 16)
Ranged (Pair k j l) = (0 < k.0) × (0 < j.0) × (0 < l.0) × (l.0 ≤ 16)

proper_ranged : (o : ℕ) (a : Kind) → ProperKind o a → Ranged a
proper_ranged o (OwnSlot k) p = omega arith
proper_ranged o (OtherSlot j l) p = (let h = p.0 in omega arith)
proper_ranged o (Pair k j l) p = (let h = p.0 in omega arith)

lower_ranged : (o : ℕ) (a : Kind) → ProperKind o a → Ranged (one_lower a)
unfolding one_lower
lower_ranged o (OwnSlot k) p = omega arith
lower_ranged o (OtherSlot j l) p = (let h = p.0 in omega arith)
lower_ranged o (Pair k j l) p = (let h = p.0 in omega arith)

parts_kind : (a b : Kind) → Ranged a → Ranged b → other_part a ≡ other_part b → own_slot a ≡ own_slot b → a ≡ b
unfolding other_part own_slot
parts_kind (OwnSlot k) (OwnSlot k') x y other own = ap (λ (z : ℕ). OwnSlot (slot z)) own
parts_kind (OwnSlot k) (OtherSlot j l) x y other own = absurd (omega arith)
parts_kind (OwnSlot k) (Pair k' j l) x y other own = absurd (omega arith)
parts_kind (OtherSlot j l) (OwnSlot k) x y other own = absurd (omega arith)
parts_kind (OtherSlot j l) (OtherSlot j' l') x y other own =
    let by : j.0 ≡ j'.0 = omega arith in
    let at : l.0 ≡ l'.0 = omega arith in
    ap₂ (λ (z w : ℕ). OtherSlot (bidder z) (slot w)) by at
parts_kind (OtherSlot j l) (Pair k j' l') x y other own = absurd (omega arith)
parts_kind (Pair k j l) (OwnSlot k') x y other own = absurd (omega arith)
parts_kind (Pair k j l) (OtherSlot j' l') x y other own = absurd (omega arith)
parts_kind (Pair k j l) (Pair k' j' l') x y other own =
    let by : j.0 ≡ j'.0 = omega arith in
    let at : l.0 ≡ l'.0 = omega arith in
    λ z. Pair (slot (own z)) (bidder (by z)) (slot (at z))

-- one lower has the same other part and the next own slot
lower-part : (a : Kind) → other_part (one_lower a) ≡ other_part a
unfolding other_part one_lower
lower-part (OwnSlot k) = refl
lower-part (OtherSlot j l) = refl
lower-part (Pair k j l) = refl

lower-own : (a : Kind) (k : ℕ) → own_slot a ≡ suc k → own_slot (one_lower a) ≡ suc (suc k)
unfolding own_slot one_lower
lower-own (OwnSlot own) k e = ap suc e
lower-own (OtherSlot j l) k e = absurd (omega arith)
lower-own (Pair own j l) k e = ap suc e

-- the sets of the first n other parts
pub first-sets : (n : ℕ) (listed : List ℕ) → length listed ≡ 1041 → n ≤ 1041 → length (take n listed) ≡ n
first-sets n listed size few = simp length-take (omega arith)

-- The test over the sets of the first n other parts, which are all that the round has, is the test over the list.
module _ (r : Round) (i n : ℕ) (listed : List ℕ) (ok : ProperRound r) (g : Listed r i r.used listed) (few : n ≤ 1041)
    (parts : (a : ℕ) → a < r.used → other_part (constraint_at r a).kind < n) where
  proper-at : (a : ℕ) → a < r.used → ProperKind (constraint_at r a).owner.0 (constraint_at r a).kind
  proper-at a l = (ok.proper (constraint_at r a) (a, l, refl)).parts

  -- a slot is in a set exactly when a constraint is listed for it
  bit_at : (part k a : ℕ) → k < 16 → a < r.used → (constraint_at r a).owner.0 ≡ i → other_part (constraint_at r a).kind ≡ part →
      own_slot (constraint_at r a).kind ≡ suc k → bit_of (get_or listed part 0) k ≡ true
  unfolding owns_with
  bit_at part k a h l own other slot_is =
      g.told part k h
      ∙ any_at
      (λ x.
      eqb (constraint_at r x).owner.0 i
      && (eqb (other_part (constraint_at r x).kind) part && eqb (own_slot (constraint_at r x).kind) (suc k)))
      r.used a l
      (and_holds (eq-eqb (constraint_at r a).owner.0 i own)
      (and_holds (eq-eqb (other_part (constraint_at r a).kind) part other) (eq-eqb (own_slot (constraint_at r a).kind) (suc k) slot_is)))

  bit_where : (part k : ℕ) → k < 16 → bit_of (get_or listed part 0) k ≡ true →
      (a : ℕ) × (a < r.used) × ((constraint_at r a).owner.0 ≡ i) × (other_part (constraint_at r a).kind ≡ part) × (own_slot (constraint_at r a).kind ≡ suc k)
  unfolding owns_with
  bit_where part k h e =
      let w
      = any_where
      (λ x.
      eqb (constraint_at r x).owner.0 i
      && (eqb (other_part (constraint_at r x).kind) part && eqb (own_slot (constraint_at r x).kind) (suc k)))
      r.used (sym (g.told part k h) ∙ e) in
      let q = constraint_at r w.0 in
      let own = and_parts (eqb q.owner.0 i) (eqb (other_part q.kind) part && eqb (own_slot q.kind) (suc k)) w.2 in
      let both = and_parts (eqb (other_part q.kind) part) (eqb (own_slot q.kind) (suc k)) own.1 in
      (w.0, w.1, eqb-true q.owner.0 i own.0, eqb-true (other_part q.kind) part both.0, eqb-true (own_slot q.kind) (suc k) both.1)

  -- a set that lacks the next of a slot that asks
  lacks : (part k : ℕ) → part < n → suc k < 16 → suc k < r.slots → bit_of (get_or listed part 0) k ≡ true →
      bit_of (get_or listed part 0) (suc k) ≡ false → some_missing r.slots (take n listed) n ≡ true
  unfolding some_missing misses_next
  lacks part k inside h less had none =
      any_at (λ x. any_below (λ y. misses_next r.slots (get_or (take n listed) x 0) y) 16) n part inside
      (any_at (λ y. misses_next r.slots (get_or (take n listed) part 0) y) 16 (suc k) h
      (ap (λ (s : ℕ). misses_next r.slots s (suc k)) (get_or-take n listed part 0 inside)
      ∙ and_holds (and_holds had (lt-ltb (suc k) r.slots less)) (not_holds none)))

  -- a constraint that asks has its next one where no set lacks a slot
  has-next : some_missing r.slots (take n listed) n ≡ false → (a k : ℕ) → a < r.used → (constraint_at r a).owner.0 ≡ i →
      own_slot (constraint_at r a).kind ≡ suc k → suc k < r.slots → list_has r i (one_lower (constraint_at r a).kind) ≡ true
  has-next none a k l own slot_is less =
      let most = ok.most_slots in
      let q = constraint_at r a in
      let part = other_part q.kind in
      let had = bit_at part k a (omega arith) l own refl slot_is in
      let next
      = holds (bit_of (get_or listed part 0) (suc k)) (λ lost. not_both (lacks part k (parts a l) (omega arith) less had lost) none) in
      let b = bit_where part (suc k) (omega arith) next in
      list_at r i (one_lower q.kind) b.0 b.1 b.2
      (parts_kind (constraint_at r b.0).kind (one_lower q.kind)
      (proper_ranged _ (constraint_at r b.0).kind (proper-at b.0 b.1))
      (lower_ranged _ q.kind (proper-at a l))
      (b.3 ∙ sym (lower-part q.kind))
      (b.4 ∙ sym (lower-own q.kind k slot_is)))

  list_passes : some_missing r.slots (take n listed) n ≡ false → downward r i ≡ true
  unfolding downward asks_lower
  list_passes none =
      at_all
      (λ a.
      not (eqb (constraint_at r a).owner.0 i && asks_lower r (constraint_at r a).kind) || list_has r i (one_lower (constraint_at r a).kind))
      r.used
      (λ a l.
      let q = constraint_at r a in
      implies (eqb q.owner.0 i && asks_lower r q.kind) (list_has r i (one_lower q.kind))
      (λ asked.
      let own = and_parts (eqb q.owner.0 i) (asks_lower r q.kind) asked in
      let range = and_parts (ltb 0 (own_slot q.kind)) (ltb (own_slot q.kind) r.slots) own.1 in
      let some = ltb-true 0 (own_slot q.kind) range.0 in
      let less = ltb-true (own_slot q.kind) r.slots range.1 in
      has-next none a (own_slot q.kind - 1) l (eqb-true q.owner.0 i own.0) (omega arith) (omega arith)))

  -- where a constraint is listed one lower, the next slot is in the set
  next-at : (part k a b : ℕ) → suc k < 16 → other_part (constraint_at r a).kind ≡ part → own_slot (constraint_at r a).kind ≡ suc k → b < r.used →
      (constraint_at r b).owner.0 ≡ i → (constraint_at r b).kind ≡ one_lower (constraint_at r a).kind → bit_of (get_or listed part 0) (suc k) ≡ true
  next-at part k a b h other slot_is l own lower =
      bit_at part (suc k) b h l own
      (ap other_part lower ∙ lower-part (constraint_at r a).kind ∙ other)
      (ap own_slot lower ∙ lower-own (constraint_at r a).kind k slot_is)

  -- so no set lacks a slot where each constraint that asks has its next one
  none_lacks : downward r i ≡ true → (part k : ℕ) → k < 16 → misses_next r.slots (get_or listed part 0) k ≡ true → ⊥
  unfolding misses_next asks_lower
  none_lacks e part zero h t = false≢true t
  none_lacks e part (suc k) h t =
      let asks = and_parts (bit_of (get_or listed part 0) k && ltb (suc k) r.slots) (not (bit_of (get_or listed part 0) (suc k))) t in
      let had = and_parts (bit_of (get_or listed part 0) k) (ltb (suc k) r.slots) asks.0 in
      let less = ltb-true (suc k) r.slots had.1 in
      let a = bit_where part k (omega arith) had.0 in
      let q = constraint_at r a.0 in
      let slot_is : own_slot q.kind ≡ suc k = a.4 in
      let asked : asks_lower r q.kind ≡ true
      = and_holds (lt-ltb 0 (own_slot q.kind) (omega arith)) (lt-ltb (own_slot q.kind) r.slots (omega arith)) in
      let b = list_where r i (one_lower q.kind) (downward-at r i e a.0 a.1 a.2 asked) in
      not_both (next-at part k a.0 b.0 h a.3 slot_is b.1 b.2 b.3) (not-true (bit_of (get_or listed part 0) (suc k)) asks.1)

  sets-pass : downward r i ≡ true → some_missing r.slots (take n listed) n ≡ false
  unfolding some_missing
  sets-pass e =
      none_any (λ x. any_below (λ y. misses_next r.slots (get_or (take n listed) x 0) y) 16) n
      (λ part inside.
      none_any (λ y. misses_next r.slots (get_or (take n listed) part 0) y) 16
      (λ k h.
      fails (misses_next r.slots (get_or (take n listed) part 0) k)
      (λ t.
      none_lacks e part k h (sym (ap (λ (s : ℕ). misses_next r.slots s k) (get_or-take n listed part 0 inside)) ∙ t))))

  pub downward_listed : not (some_missing r.slots (take n listed) (length (take n listed))) ≡ downward r i
  downward_listed =
      ap (λ (m : ℕ). not (some_missing r.slots (take n listed) m)) (first-sets n listed g.sized few)
      ∙ same_tests (not (some_missing r.slots (take n listed) n)) (downward r i)
      (λ e. list_passes (not-true (some_missing r.slots (take n listed) n) e))
      (λ e. not_holds (sets-pass e))
