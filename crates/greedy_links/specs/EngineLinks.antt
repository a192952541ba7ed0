-- The engine's own: nothing here need be believed.
-- The links of a round's constraints, chain by chain.
use Rattle.std.specs.Prelude.{ℕ, zero, suc, ◌≤◌, ◌<◌, Bool, cond, not, ◌&&◌, List, ◌≡◌, eqb, length, get_or}
use Rattle.basis.specs.Tests.{any_below}
use Rattle.sheet.specs.declared.Round.{Round}
use Rattle.sheet.specs.Sheet.{constraints_start}
use Rattle.sheet.specs.Refusal.{Accepted}
use Rattle.sheet.specs.Round.{constraint_at, round_of}
use Rattle.greedy_links.specs.declared.Named.{Named}
use Rattle.greedy_links.specs.EngineKeys.{key, chain_bidder, chain_slot, owner_bidder, owner_slot}

-- the two keys of the constraint at index i
abbrev pub link_key : Round → ℕ → ℕ
link_key r i = key (chain_bidder (constraint_at r i).owner.0 (constraint_at r i).kind) (chain_slot (constraint_at r i).kind)

abbrev pub link_owner : Round → ℕ → ℕ
link_owner r i = key (owner_bidder (constraint_at r i).owner.0 (constraint_at r i).kind) (owner_slot (constraint_at r i).kind)

-- the last of the first n that passes, counted from 1; 0 where none does
unfoldable pub last_of : (ℕ → Bool) → ℕ → ℕ
last_of f zero = 0
last_of f (suc n) = cond (f n) (suc n) (last_of f n)

-- the first n constraints of a round are in the chains of their keys
pub record Linked (r : Round) (n : ℕ) (last links : List ℕ) : Type 0 where
  pub sized_last : length last ≡ 1089
  pub sized_links : length links ≡ 1024
  pub few : n ≤ 1024
  pub last_is : (x : ℕ) → x ≤ 1088 → get_or last x 0 ≡ last_of (λ i. eqb (link_key r i) x) n
  pub link_is : (i : ℕ) → i < n → get_or links i 0 ≡ last_of (λ j. eqb (link_key r j) (link_key r i)) i

-- the lists have the links of an accepted sheet, whose constraints start at `start`
pub record Kept (s : List ℕ) (start : ℕ) (last links : List ℕ) : Type 0 where
  pub accepted : Accepted s
  pub starts : start ≡ constraints_start s
  pub linked : Linked (round_of s) (round_of s).used last links

-- some link of the chain x among the first n has an owner whose key passes the test
unfoldable pub some_owner_of : Round → ℕ → (ℕ → Bool) → ℕ → Bool
some_owner_of r x test n = any_below (λ i. eqb (link_key r i) x && test (link_owner r i)) n

-- by whose constraints a candidate is named: an earlier winner's; where there is none, an own-slot constraint of its own
unfoldable pub named_for : (earlier itself : Bool) → Named
named_for earlier itself = record { earlier = earlier; itself = not earlier && itself }
