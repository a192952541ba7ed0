-- "Downward monotonic lists." Source definition 2.
use Rattle.std.specs.Prelude.{ℕ, suc, Bool, false, not, ◌&&◌, ◌||◌, eqb, ltb}
use Rattle.basis.specs.Tests.{any_below, all_below}
use Rattle.sheet.specs.declared.Kind.{Kind}
use Rattle.sheet.specs.declared.Kind.TheVariants.{OwnSlot, OtherSlot, Pair}
use Rattle.sheet.specs.declared.Round.{Round}
use Rattle.sheet.specs.Round.{slot, constraint_at}

-- the own slot, 0 for any
unfoldable pub own_slot : Kind → ℕ
own_slot (OwnSlot k) = k.0
own_slot (OtherSlot j l) = 0
own_slot (Pair k j l) = k.0

-- "with own place k + 1 and the same other part"
unfoldable pub one_lower : Kind → Kind
one_lower (OwnSlot k) = OwnSlot (slot (suc k.0))
one_lower (OtherSlot j l) = OtherSlot j l
one_lower (Pair k j l) = Pair (slot (suc k.0)) j l

-- two kinds are the same
unfoldable pub same_kind : Kind → Kind → Bool
same_kind (OwnSlot k) (OwnSlot k') = eqb k.0 k'.0
same_kind (OwnSlot k) (OtherSlot j l) = false
same_kind (OwnSlot k) (Pair k' j l) = false
same_kind (OtherSlot j l) (OwnSlot k) = false
same_kind (OtherSlot j l) (OtherSlot j' l') = eqb j.0 j'.0 && eqb l.0 l'.0
same_kind (OtherSlot j l) (Pair k j' l') = false
same_kind (Pair k j l) (OwnSlot k') = false
same_kind (Pair k j l) (OtherSlot j' l') = false
same_kind (Pair k j l) (Pair k' j' l') = eqb k.0 k'.0 && (eqb j.0 j'.0 && eqb l.0 l'.0)

-- "A bidder's list is the set of conditions that it owns": bidder i's list has the kind
unfoldable pub list_has : Round → ℕ → Kind → Bool
list_has r i kind = any_below (λ a. eqb (constraint_at r a).owner.0 i && same_kind (constraint_at r a).kind kind) r.used

-- own slot k from 1 to m - 1
unfoldable pub asks_lower : Round → Kind → Bool
asks_lower r kind = ltb 0 (own_slot kind) && ltb (own_slot kind) r.slots

-- "A bidder's list is downward monotonic when, for every condition with own place k from 1 to m − 1, the list also has the
-- condition with own place k + 1 and the same other part." Own slot 0 asks nothing, and an empty list qualifies.
unfoldable pub downward : Round → ℕ → Bool
downward r i =
    all_below
    (λ a.
    not (eqb (constraint_at r a).owner.0 i && asks_lower r (constraint_at r a).kind) || list_has r i (one_lower (constraint_at r a).kind))
    r.used
