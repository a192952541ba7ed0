-- The laws' own: proved from the definitions, and nothing here need be believed.
-- The critical bid of a winner, the least that its eligible rivals and the slot's floor leave it: the handier form of the price, over any test of who is
-- eligible and any bids in ticks. That it is the price of documents 01 and 02, the smallest legal bid that still wins, is a theorem.
use Rattle.std.specs.Prelude.{ℕ, zero, suc, ◌+◌, ◌*◌, ◌-◌, ◌/◌, ◌%◌, ◌<◌, ◌≤◌, max, Bool, cond, not, ◌&&◌, List, ◌≡◌, eqb, ltb, length, get_or}
use Rattle.sheet.specs.Proper.{ProperFloors}
use Rattle.choice.specs.Winner.{winner}

-- a tick of 1 to 1,000,000,000, and bids up to 1,000,000,000 that are multiples of it
pub record InTicks (tick : ℕ) (bid : ℕ → ℕ) : Type 0 where
  pub some_tick : 0 < tick
  pub most_tick : tick ≤ 1_000_000_000
  pub most_bid : (b : ℕ) → bid b ≤ 1_000_000_000
  pub multiple : (b : ℕ) → bid b % tick ≡ 0

-- the least bid with which w ranks no lower than j: one tick more than j's where j has the lower number, and else as much
unfoldable pub critical_against : ℕ → (ℕ → ℕ) → ℕ → ℕ → ℕ
critical_against tick bid w j = cond (ltb j w) (bid j + tick) (bid j)

-- what a floor asks: the least multiple of the tick that is not below it
unfoldable pub floor_asks : (tick floor : ℕ) → ℕ
floor_asks tick floor = (floor + (tick - 1)) / tick * tick

-- the least bid that the floor asks and with which w ranks no lower than every eligible rival among bidders 1 to n
unfoldable pub critical_bid : (tick floor : ℕ) → (ℕ → Bool) → (ℕ → ℕ) → ℕ → ℕ → ℕ
critical_bid tick floor eligible bid w zero = floor_asks tick floor
critical_bid tick floor eligible bid w (suc i) =
    max (critical_bid tick floor eligible bid w i) (cond (eligible (suc i) && not (eqb (suc i) w)) (critical_against tick bid w (suc i)) 0)

-- a slot's winner and what it must bid, from who is eligible and the bids; nobody pays 0
pub record Awarded (tick floor : ℕ) (eligible : ℕ → Bool) (bid : ℕ → ℕ) (n won paid : ℕ) : Type 0 where
  pub won_by : won ≡ winner eligible bid n
  pub nobody_pays : won ≡ 0 → paid ≡ 0
  pub paid_as : (won ≡ 0 → ⊥) → paid ≡ critical_bid tick floor eligible bid won n

-- what the floors of m slots ask, slot by slot
pub record Asked (tick m : ℕ) (floors asks : List ℕ) : Type 0 where
  pub proper : ProperFloors m floors
  pub enough : m ≤ length asks
  pub asks_are : (k : ℕ) → k < m → get_or asks k 0 ≡ floor_asks tick (get_or floors k 0)
