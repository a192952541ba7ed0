-- The round that a sheet's bytes say, in the types of the source.
use Rattle.std.specs.Prelude.{ℕ, zero, suc, ◌<◌, Bool, List, ◌≡◌, get_or, replicate}
use Rattle.basis.specs.Rows.{padded}
use Rattle.sheet.specs.Sheet.{
  version,
  bidder_count,
  slot_count,
  constraint_count,
  tick_field,
  effect_field,
  bid_field,
  owner_field,
  own_slot_field,
  other_field,
  other_slot_field,
}
use Rattle.sheet.specs.Refusal.{fields_below}
use Rattle.sheet.specs.declared.Bidder.{Bidder}
use Rattle.sheet.specs.declared.Slot.{Slot}
use Rattle.sheet.specs.declared.Kind.{Kind}
use Rattle.sheet.specs.declared.Kind.TheVariants.{OwnSlot, OtherSlot, Pair}
use Rattle.sheet.specs.declared.Constraint.{Constraint}
use Rattle.sheet.specs.declared.Round.{Round}

abbrev pub bidder : ℕ → Bidder
bidder k = record { 0 = k }

abbrev pub slot : ℕ → Slot
slot k = record { 0 = k }

-- "Own place 0 means any. Other bidder 0 together with other's place 0 means no other." So no other leaves the own place
-- alone, own place 0 leaves the other's place alone, and else it is the pair of them.
unfoldable pub kind_of : (own other others : ℕ) → Kind
kind_of own zero others = OwnSlot (slot own)
kind_of zero (suc other) others = OtherSlot (bidder (suc other)) (slot others)
kind_of (suc own) (suc other) others = Pair (slot (suc own)) (bidder (suc other)) (slot others)

-- the constraint at index k of the sheet
unfoldable pub constraint_field : List ℕ → ℕ → Constraint
constraint_field s k =
    record { owner = bidder (owner_field s k); kind = kind_of (own_slot_field s k) (other_field s k) (other_slot_field s k) }

-- the own place, other bidder and other's place that a constraint of a kind is written with, 0 for any and for none
unfoldable pub written_own : Kind → ℕ
written_own (OwnSlot k) = k.0
written_own (OtherSlot j l) = 0
written_own (Pair k j l) = k.0

unfoldable pub written_other : Kind → ℕ
written_other (OwnSlot k) = 0
written_other (OtherSlot j l) = j.0
written_other (Pair k j l) = j.0

unfoldable pub written_others : Kind → ℕ
written_others (OwnSlot k) = 0
written_others (OtherSlot j l) = l.0
written_others (Pair k j l) = l.0

-- of two constraints the first stands below the second in the order of "owner, own place, other bidder, other's place"
unfoldable pub stands_below : Constraint → Constraint → Bool
stands_below q r =
    fields_below
    q.owner.0 (written_own q.kind) (written_other q.kind) (written_others q.kind)
    r.owner.0 (written_own r.kind) (written_other r.kind) (written_others r.kind)

-- "unused ones blank"
abbrev pub blank : Constraint
blank = record { owner = bidder 0; kind = OwnSlot (slot 0) }

-- n, m, c, the tick, the version, the effects, the bids and the constraints in sheet order, with 0 and blank ones after them; every floor is 0
unfoldable pub round_of : List ℕ → Round
round_of s =
    record {
      bidders = bidder_count s;
      slots = slot_count s;
      used = constraint_count s;
      tick = tick_field s;
      version = version s;
      effects = padded (λ k. effect_field s (suc k)) (slot_count s) 16 0;
      floors = replicate 16 0;
      bids = padded (λ i. bid_field s (suc i)) (bidder_count s) 64 0;
      constraints = padded (constraint_field s) (constraint_count s) 1024 blank;
    }

-- the bid of bidder b in a round
unfoldable pub bid_of : Round → ℕ → ℕ
bid_of r zero = 0
bid_of r (suc i) = get_or r.bids i 0

-- the effect of slot k in a round
unfoldable pub effect_of : Round → ℕ → ℕ
effect_of r zero = 0
effect_of r (suc k) = get_or r.effects k 0

-- S-7, "a lent list of m floors": the round with the list's floors under slots 1 to m, and all else as it was
unfoldable pub with_floors : Round → List ℕ → Round
with_floors r floors =
    record {
      bidders = r.bidders;
      slots = r.slots;
      used = r.used;
      tick = r.tick;
      version = r.version;
      effects = r.effects;
      floors = padded (λ k. get_or floors k 0) r.slots 16 0;
      bids = r.bids;
      constraints = r.constraints;
    }

-- the floor under slot k in a round
unfoldable pub floor_of : Round → ℕ → ℕ
floor_of r zero = 0
floor_of r (suc k) = get_or r.floors k 0

-- the round's constraint at index i
unfoldable pub constraint_at : Round → ℕ → Constraint
constraint_at r i = get_or r.constraints i blank

-- the round has the constraint q: all that the laws see of the list, so that order and repeats never come up
abbrev pub Has : Round → Constraint → Type 0
Has r q = (i : ℕ) × (i < r.used) × (constraint_at r i ≡ q)

-- the sheet has the constraint q
abbrev pub SheetHas : List ℕ → Constraint → Type 0
SheetHas s q = (i : ℕ) × (i < constraint_count s) × (constraint_field s i ≡ q)
