-- The engine's own: nothing here need be believed.
-- Bids in a list, bidder by bidder from bidder 1.
use Rattle.std.specs.Prelude.{ℕ, zero, suc, List, get_or}

-- the bid of bidder b
unfoldable pub bid_in : List ℕ → ℕ → ℕ
bid_in bids zero = 0
bid_in bids (suc i) = get_or bids i 0
