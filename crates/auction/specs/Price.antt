-- "The price": "the smallest whole bid from 0 which, written in the sheet for the winner of place k, still wins place k"; with ticks, "the smallest
-- bid that the sheet would accept and that still wins the place".
use Rattle.std.specs.Prelude.{ℕ, zero, suc, Bool, ◌&&◌, eqb, set}
use Rattle.basis.specs.Tests.{least}
use Rattle.sheet.specs.declared.Round.{Round}
use Rattle.auction.specs.Page.{at}
use Rattle.auction.specs.Greedy.{greedy_page}
use Rattle.sheet.specs.Refusal.{legal_bid}
use Rattle.sheet.specs.Round.{bid_of}

-- the round with the bid x written for bidder b
unfoldable pub with_bid : Round → ℕ → ℕ → Round
with_bid r zero x = r
with_bid r (suc i) x =
    record {
      bidders = r.bidders;
      slots = r.slots;
      used = r.used;
      tick = r.tick;
      version = r.version;
      effects = r.effects;
      floors = r.floors;
      bids = set r.bids i x;
      constraints = r.constraints;
    }

-- with the bid x, b wins slot k when the round is replayed
unfoldable pub wins_with : Round → ℕ → ℕ → ℕ → Bool
wins_with r k b x = eqb (at (greedy_page (with_bid r b x)) k) b

-- what the bidder b at slot k pays a click: the smallest legal bid that wins it; an empty slot costs 0
unfoldable pub price_for : Round → ℕ → ℕ → ℕ
price_for r k zero = 0
price_for r k (suc i) = least (λ x. legal_bid r.tick x && wins_with r k (suc i) x) (bid_of r (suc i))

-- "An empty place has price 0."
unfoldable pub price : Round → ℕ → ℕ
price r k = price_for r k (at (greedy_page r) k)
