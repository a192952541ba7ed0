-- The engine's own: nothing here need be believed.
-- A bidder's constraints by their other part: for each the own slots that are listed with it, as the bits of a word, slot 1 in the lowest.
use Rattle.std.specs.Prelude.{ℕ, zero, suc, ◌+◌, ◌*◌, ◌<◌, ◌≤◌, Bool, false, not, ◌&&◌, List, ◌≡◌, eqb, ltb, length, get_or}
use Rattle.basis.specs.Bits.{bit_of}
use Rattle.basis.specs.Tests.{any_below}
use Rattle.sheet.specs.declared.Kind.{Kind}
use Rattle.sheet.specs.declared.Kind.TheVariants.{OwnSlot, OtherSlot, Pair}
use Rattle.sheet.specs.declared.Round.{Round}
use Rattle.sheet.specs.Round.{constraint_at}
use Rattle.downward.specs.Downward.{own_slot}

-- the other part in one number: 16 × the other bidder and its slot, 0 for no other
unfoldable pub other_part : Kind → ℕ
other_part (OwnSlot k) = 0
other_part (OtherSlot j l) = 16 * j.0 + l.0
other_part (Pair k j l) = 16 * j.0 + l.0

-- a kind's bidder is at most 64 and its slots at most 16
abbrev pub KindInRange : Kind → Type 0
KindInRange (OwnSlot k) = k.0 ≤ 16
KindInRange (OtherSlot j l) = (j.0 ≤ 64) × (l.0 ≤ 16)
KindInRange (Pair k j l) = (k.0 ≤ 16) × (j.0 ≤ 64) × (l.0 ≤ 16)

-- one of the round's first n constraints is bidder i's, with this other part and this own slot
unfoldable pub owns_with : Round → (i n part own : ℕ) → Bool
owns_with r i n part own =
    any_below
    (λ a.
    eqb (constraint_at r a).owner.0 i
    && (eqb (other_part (constraint_at r a).kind) part && eqb (own_slot (constraint_at r a).kind) own))
    n

-- the sets hold the own slots of bidder i's among the round's first n constraints, by their other part
pub record Listed (r : Round) (i n : ℕ) (listed : List ℕ) : Type 0 where
  pub sized : length listed ≡ 1041
  pub told : (part k : ℕ) → k < 16 → bit_of (get_or listed part 0) k ≡ owns_with r i n part (suc k)

-- slot k + 1 of 1 to m is not in the set, and the slot before it is
unfoldable pub misses_next : (m set k : ℕ) → Bool
misses_next m set zero = false
misses_next m set (suc k) = (bit_of set k && ltb (suc k) m) && not (bit_of set (suc k))

-- one of the first n sets lacks a slot that it asks for
unfoldable pub some_missing : (m : ℕ) → List ℕ → ℕ → Bool
some_missing m listed n = any_below (λ part. any_below (λ k. misses_next m (get_or listed part 0) k) 16) n
