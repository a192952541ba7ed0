-- The engine's own: nothing here need be believed.
-- What the engine's marks know of a page so far, and what the functions that fill it are lent and leave.
use Rattle.std.specs.Prelude.{ℕ, suc, ◌<◌, ◌≤◌, false, ◌&&◌, ◌||◌, List, ◌≡◌, eqb, length, get_or}
use Rattle.basis.specs.Tests.{any_below}
use Rattle.sheet.specs.declared.Constraint.{Constraint}
use Rattle.sheet.specs.declared.Page.{Page}
use Rattle.sheet.specs.declared.Round.{Round}
use Rattle.sheet.specs.Round.{constraint_at, floor_of, Has, round_of}
use Rattle.sheet.specs.Proper.{ProperRound}
use Rattle.choice.specs.Critical.{floor_asks}
use Rattle.auction.specs.Page.{at, Sized}
use Rattle.auction.specs.Broken.{broken}
use Rattle.greedy_links.specs.EngineKeys.{key, is_so, chain_so, made_so, is_marked}
use Rattle.greedy_links.specs.EngineLinks.{link_owner, Kept, some_owner_of}

-- the marks know a page: `held` who stands where, and `barred` the owners of links whose chain's key is true
pub record Known (r : Round) (p : Page) (barred held : List ℕ) : Type 0 where
  pub stands : (b l : ℕ) → 0 < b → b ≤ 64 → l ≤ 16 → is_marked held (key b l) ≡ is_so p b l
  pub nobody : is_marked held 0 ≡ false
  pub bars : (y : ℕ) → is_marked barred y ≡ any_below (λ i. eqb (link_owner r i) y && chain_so p (constraint_at r i)) r.used

-- a round with the lent sheet's constraints, the lent bids and a floor under slot l that asks what is lent, its page so far, which breaks none and has nobody at l
-- yet, and the marks that know it
pub record SoFar (r : Round) (p : Page) (s barred held bids : List ℕ) (asks l : ℕ) : Type 0 where
  pub proper : ProperRound r
  pub constraints_are : r.constraints ≡ (round_of s).constraints
  pub used_are : r.used ≡ (round_of s).used
  pub bids_are : bids ≡ r.bids
  pub asks_is : asks ≡ floor_asks r.tick (floor_of r l)
  pub sized : Sized p
  pub unbroken : (q : Constraint) → Has r q → broken p q ≡ false
  pub vacant : at p l ≡ 0
  pub known : Known r p barred held

-- the marks before and after w, or nobody, gets slot k
pub record Settled (r : Round) (w k : ℕ) (barred held barred' held' : List ℕ) : Type 0 where
  pub nobody : w ≡ 0 → (barred' ≡ barred) × (held' ≡ held)
  pub somebody : (w ≡ 0 → ⊥) →
      ((x : ℕ) → is_marked held' x ≡ (is_marked held x || made_so w k x))
      × ((y : ℕ) → is_marked barred' y ≡ (is_marked barred y || some_owner_of r (key w k) (λ z. eqb z y) r.used))

-- what the page is filled from is the round's: its constraints are those of the lent sheet, whose links are lent too
pub record Lent (r : Round) (s : List ℕ) (start : ℕ) (last links bids asks : List ℕ) (bidders slots tick : ℕ) : Type 0 where
  pub proper : ProperRound r
  pub kept : Kept s start last links
  pub constraints_are : r.constraints ≡ (round_of s).constraints
  pub used_are : r.used ≡ (round_of s).used
  pub bids_are : bids ≡ r.bids
  pub some_asks : slots ≤ length asks
  pub asks_are : (k : ℕ) → k < slots → get_or asks k 0 ≡ floor_asks r.tick (floor_of r (suc k))
  pub bidders_are : bidders ≡ r.bidders
  pub slots_are : slots ≡ r.slots
  pub tick_is : tick ≡ r.tick
