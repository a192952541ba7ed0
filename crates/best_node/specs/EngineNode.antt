-- The engine's own: nothing here need be believed.
-- A node of the search, a page whose first k slots are settled; the tables of a round; and what a choice for the next slot leads to.
use Rattle.std.specs.Prelude.{ℕ, suc, ◌+◌, ◌*◌, ◌^◌, ◌<◌, ◌≤◌, false, not, ◌&&◌, List, ◌≡◌, get_or}
use Rattle.basis.specs.Bits.{bit_of}
use Rattle.sheet.specs.declared.Page.{Page}
use Rattle.sheet.specs.declared.Round.{Round}
use Rattle.sheet.specs.Proper.{ProperRound}
use Rattle.sheet.specs.Round.{bid_of, effect_of, floor_of}
use Rattle.auction.specs.Allowed.{PageOf, total_up_to}
use Rattle.auction.specs.Broken.{breaks}
use Rattle.auction.specs.Page.{at}
use Rattle.best_seats.specs.EngineSeats.{somewhere}
use Rattle.best_bound.specs.EngineBound.{add_after, gain_in}
use Rattle.best_clash.specs.EngineClash.{ShutOf}
use Rattle.best_node.specs.declared.Ahead.{Ahead}

-- the list names the bidders 1 to n, each once, in falling order of their bids
pub record RankedBy (bid : ℕ → ℕ) (n : ℕ) (ranked : List ℕ) : Type 0 where
  pub some : (i : ℕ) → i < n → (0 < get_or ranked i 0) × (get_or ranked i 0 ≤ n)
  pub once : (i j : ℕ) → i < n → j < n → get_or ranked i 0 ≡ get_or ranked j 0 → i ≡ j
  pub everybody : (b : ℕ) → 0 < b → b ≤ n → (i : ℕ) × (i < n) × (get_or ranked i 0 ≡ b)
  pub falls : (i j : ℕ) → i ≤ j → j < n → bid (get_or ranked j 0) ≤ bid (get_or ranked i 0)

-- the tables that the search is lent are those of the round
pub record TablesOf (r : Round) (ranked shut gains : List ℕ) : Type 0 where
  pub proper : ProperRound r
  pub few_bidders : r.bidders ≤ 8
  pub few_slots : r.slots ≤ 8
  pub ranking : RankedBy (bid_of r) r.bidders ranked
  pub gains_are : (i k : ℕ) → i < r.bidders → k < 16 → gain_in gains i k ≡ bid_of r (get_or ranked i 0) * effect_of r (suc k)
  pub shuts : ShutOf r ranked shut

-- slots 1 to k are settled, the later ones are empty, no constraint is broken, the floors are reached, and what the settled ones add is known
pub record Node (r : Round) (p : Page) (k had : ℕ) : Type 0 where
  pub page : PageOf r p
  pub room : k ≤ r.slots
  pub later : (j : ℕ) → k < j → at p j ≡ 0
  pub unbroken : breaks r p ≡ false
  pub reached : (j : ℕ) → (at p j ≡ 0 → ⊥) → floor_of r j ≤ bid_of r (at p j)
  pub had_is : had ≡ total_up_to r p k

-- what the rank i at the slot with index k leads to: what is free then, what is had then, and the most that can be had
pub record Leads (shut gains : List ℕ) (k free had i : ℕ) (next : Ahead) : Type 0 where
  pub free_is : (z : ℕ) → bit_of next.free.0 z ≡ (bit_of free (8 + z) && not (bit_of (get_or shut (8 * k + i) 0) (8 + z)))
  pub free_low : (w : ℕ) → free < 2 ^ (8 + w) → next.free.0 < 2 ^ w
  pub had_is : next.had ≡ had + gain_in gains i k
  pub most_is : next.most ≡ next.had + add_after (somewhere next.free.0) (gain_in gains) (suc k) 16 8

-- and what nobody there leads to
pub record Passes (gains : List ℕ) (k free had : ℕ) (next : Ahead) : Type 0 where
  pub free_is : (z : ℕ) → bit_of next.free.0 z ≡ bit_of free (8 + z)
  pub free_low : (w : ℕ) → free < 2 ^ (8 + w) → next.free.0 < 2 ^ w
  pub had_is : next.had ≡ had
  pub most_is : next.most ≡ next.had + add_after (somewhere next.free.0) (gain_in gains) (suc k) 16 8
