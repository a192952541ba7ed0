-- The engine's own: nothing here need be believed.
-- A key says that a bidder stands at a slot, or at any slot, in one number; key 0 is always so. A constraint has two keys, its chain's and its
-- owner's, and is broken exactly when both are true of the page.
use Rattle.std.specs.Prelude.{ℕ, zero, suc, ◌+◌, ◌*◌, Bool, true, not, ◌||◌, List, eqb, get_or}
use Rattle.sheet.specs.declared.Kind.{Kind}
use Rattle.sheet.specs.declared.Kind.TheVariants.{OwnSlot, OtherSlot, Pair}
use Rattle.sheet.specs.declared.Constraint.{Constraint}
use Rattle.sheet.specs.declared.Page.{Page}
use Rattle.auction.specs.Page.{at, placed}

-- bidder b at slot l, or at any slot where l is 0; nobody at any slot is key 0
abbrev pub key : ℕ → ℕ → ℕ
key b l = 64 * l + b

-- whose chain a constraint is in: the other bidder's at the other's slot, or its owner's at the own slot where there is no other
unfoldable pub chain_bidder : ℕ → Kind → ℕ
chain_bidder owner (OwnSlot k) = owner
chain_bidder owner (OtherSlot j x) = j.0
chain_bidder owner (Pair k j x) = j.0

unfoldable pub chain_slot : Kind → ℕ
chain_slot (OwnSlot k) = k.0
chain_slot (OtherSlot j x) = x.0
chain_slot (Pair k j x) = x.0

-- where its owner must stand for it to be broken besides: at the own slot, at any slot, or nowhere in particular
unfoldable pub owner_bidder : ℕ → Kind → ℕ
owner_bidder owner (OwnSlot k) = 0
owner_bidder owner (OtherSlot j x) = owner
owner_bidder owner (Pair k j x) = owner

unfoldable pub owner_slot : Kind → ℕ
owner_slot (OwnSlot k) = 0
owner_slot (OtherSlot j x) = 0
owner_slot (Pair k j x) = k.0

-- b at l is true of a page
unfoldable pub is_so : Page → ℕ → ℕ → Bool
is_so p zero l = true
is_so p (suc b) zero = placed p (suc b)
is_so p (suc b) (suc l) = eqb (at p (suc l)) (suc b)

-- the two keys of a constraint are true of a page
abbrev pub chain_so : Page → Constraint → Bool
chain_so p q = is_so p (chain_bidder q.owner.0 q.kind) (chain_slot q.kind)

abbrev pub owner_so : Page → Constraint → Bool
owner_so p q = is_so p (owner_bidder q.owner.0 q.kind) (owner_slot q.kind)

-- the key x is one of those that w at slot k makes true: w at any slot, and w at k
abbrev pub made_so : ℕ → ℕ → ℕ → Bool
made_so w k x = eqb x w || eqb x (key w k)

-- the key x is marked in a list of marks
unfoldable pub is_marked : List ℕ → ℕ → Bool
is_marked marks x = not (eqb (get_or marks x 0) 0)
