-- The engine's own: nothing here need be believed.
-- Which bidders at which slots a constraint marks: who breaks it alone, and which two break it together; and the bits in which the table keeps that.
use Rattle.std.specs.Prelude.{ℕ, ◌+◌, ◌*◌, ◌-◌, ◌%◌, ◌^◌, ◌<◌, ◌≤◌, Bool, not, ◌&&◌, ◌||◌, List, ◌≡◌, eqb, ltb, leb, length, get_or}
use Rattle.basis.specs.Bits.{bit_of}
use Rattle.basis.specs.Tests.{any_below}
use Rattle.sheet.specs.declared.Kind.{Kind}
use Rattle.sheet.specs.declared.Kind.TheVariants.{OwnSlot, OtherSlot, Pair}
use Rattle.sheet.specs.declared.Constraint.{Constraint}
use Rattle.sheet.specs.declared.Round.{Round}
use Rattle.sheet.specs.Round.{constraint_at}
use Rattle.choice.specs.EngineBids.{bid_in}

-- two bidders of at most 8, each at a slot of at most 8
pub record Entry (b k j l : ℕ) : Type 0 where
  pub some_b : 0 < b
  pub most_b : b ≤ 8
  pub some_k : 0 < k
  pub most_k : k ≤ 8
  pub some_j : 0 < j
  pub most_j : j ≤ 8
  pub some_l : 0 < l
  pub most_l : l ≤ 8

-- bidder b at slot k is bidder j at slot l
abbrev pub same_at : ℕ → ℕ → ℕ → ℕ → Bool
same_at b k j l = eqb b j && eqb k l

-- x at s and y at t are b at k and j at l
abbrev pub both_are : ℕ → ℕ → ℕ → ℕ → ℕ → ℕ → ℕ → ℕ → Bool
both_are x s y t b k j l = same_at x s b k && same_at y t j l

-- the same in either order
abbrev pub either_way : ℕ → ℕ → ℕ → ℕ → ℕ → ℕ → ℕ → ℕ → Bool
either_way x s y t b k j l = both_are x s y t b k j l || both_are y t x s b k j l

-- one of the two is x at any slot, and the other y at t
abbrev pub anywhere : ℕ → ℕ → ℕ → ℕ → ℕ → ℕ → ℕ → Bool
anywhere x y t b k j l = (eqb x b && same_at y t j l) || (same_at y t b k && eqb x j)

-- one of the two is x at s
abbrev pub among : ℕ → ℕ → ℕ → ℕ → ℕ → ℕ → Bool
among x s b k j l = same_at x s j l || same_at x s b k

-- b at k and j at l, and nobody else, break the constraint
unfoldable pub pair_breaks : Kind → ℕ → ℕ → ℕ → ℕ → ℕ → Bool
pair_breaks (OwnSlot s) o b k j l = among o s.0 b k j l
pair_breaks (OtherSlot i m) o b k j l = anywhere o i.0 m.0 b k j l
pair_breaks (Pair s i m) o b k j l = either_way o s.0 i.0 m.0 b k j l

-- the constraint marks the two: as above, but an own-slot constraint marks its owner at that slot alone, and no pair
unfoldable pub marks : Kind → ℕ → ℕ → ℕ → ℕ → ℕ → Bool
marks (OwnSlot s) o b k j l = both_are o s.0 o s.0 b k j l
marks (OtherSlot i m) o b k j l = anywhere o i.0 m.0 b k j l
marks (Pair s i m) o b k j l = either_way o s.0 i.0 m.0 b k j l

-- one of the first n constraints marks them
unfoldable pub some_marks : Round → (n b k j l : ℕ) → Bool
some_marks r n b k j l = any_below (λ a. marks (constraint_at r a).kind (constraint_at r a).owner.0 b k j l) n

-- the seat of a bidder at a slot, by its rank
abbrev pub seat_of : (ranks : List ℕ) → (b k : ℕ) → ℕ
seat_of ranks b k = 8 * (k - 1) + get_or ranks b 0

-- the parts of a constraint of a round of at most 8 bidders and 8 slots
abbrev pub SmallKind : Kind → Type 0
SmallKind (OwnSlot s) = (0 < s.0) × (s.0 ≤ 8)
SmallKind (OtherSlot i m) = (i.0 ≤ 8) × (0 < m.0) × (m.0 ≤ 8)
SmallKind (Pair s i m) = (0 < s.0) × (s.0 ≤ 8) × (i.0 ≤ 8) × (0 < m.0) × (m.0 ≤ 8)

-- and the constraint
pub record Small (q : Constraint) : Type 0 where
  pub owner_low : q.owner.0 ≤ 8
  pub parts : SmallKind q.kind

-- the constraint shuts seat y in line x of the table: once the seat x is taken, for x below 64; from the start, for 64; and once the rank x - 65
-- stands anywhere
unfoldable pub shuts : (ranks : List ℕ) → Kind → (owner x y : ℕ) → Bool
shuts ranks (OwnSlot s) o x y = eqb x 64 && eqb y (seat_of ranks o s.0)
shuts ranks (OtherSlot i m) o x y =
    (eqb x (seat_of ranks i.0 m.0) && eqb (y % 8) (get_or ranks o 0)) || (eqb x (65 + get_or ranks o 0) && eqb y (seat_of ranks i.0 m.0))
shuts ranks (Pair s i m) o x y =
    (eqb x (seat_of ranks i.0 m.0) && eqb y (seat_of ranks o s.0)) || (eqb x (seat_of ranks o s.0) && eqb y (seat_of ranks i.0 m.0))

-- one of the first n constraints does
unfoldable pub some_shuts : (ranks : List ℕ) → Round → (n x y : ℕ) → Bool
some_shuts ranks r n x y = any_below (λ a. shuts ranks (constraint_at r a).kind (constraint_at r a).owner.0 x y) n

-- the table has, line by line, what the round's constraints shut
pub record FilledBy (ranks : List ℕ) (r : Round) (table : List ℕ) : Type 0 where
  pub told : (x y : ℕ) → y < 64 → bit_of (get_or table x 0) y ≡ some_shuts ranks r r.used x y

-- the words have, for each rank i at the slot with index k, all that is shut once it stands there, that slot's byte first: what the seat's line tells, what the
-- rank's line tells, and the rank's own seats
pub record WordsOf (table shut : List ℕ) : Type 0 where
  pub told : (k i z : ℕ) → k < 8 → i < 8 → 8 * k + z < 64 →
      bit_of (get_or shut (8 * k + i) 0) z
      ≡ ((bit_of (get_or table (8 * k + i) 0) (8 * k + z) || bit_of (get_or table (65 + i) 0) (8 * k + z)) || eqb (z % 8) i)

-- the list has n bidders of the bids in another, in falling order of these
pub record RankedBids (bids : List ℕ) (n : ℕ) (ranked : List ℕ) : Type 0 where
  pub room : n ≤ length ranked
  pub named : (i : ℕ) → i < n → (0 < get_or ranked i 0) × (get_or ranked i 0 ≤ length bids)
  pub falls : (i j : ℕ) → i ≤ j → j < n → bid_in bids (get_or ranked j 0) ≤ bid_in bids (get_or ranked i 0)

-- the bidder of rank i, of n, reaches a floor
abbrev pub reaches : (bids ranked : List ℕ) → (n floor i : ℕ) → Bool
reaches bids ranked n floor i = ltb i n && leb floor (bid_in bids (get_or ranked i 0))

-- the seats of so many bidders and slots where the bidder reaches the slot's floor, and that the table does not shut from the start
pub record LeftBy (table ranked bids floors : List ℕ) (bidders slots free : ℕ) : Type 0 where
  pub low : free < 2 ^ (8 * slots)
  pub told : (l i : ℕ) → l < 8 → i < 8 →
      bit_of free (8 * l + i) ≡ ((ltb l slots && reaches bids ranked bidders (get_or floors l 0) i) && not (bit_of (get_or table 64 0) (8 * l + i)))
