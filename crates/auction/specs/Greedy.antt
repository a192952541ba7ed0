-- "Filling the page." Source section 3.1.
use Rattle.std.specs.Prelude.{ℕ, zero, suc}
use Rattle.sheet.specs.declared.Page.{Page}
use Rattle.sheet.specs.declared.Round.{Round}
use Rattle.sheet.specs.Round.{bid_of}
use Rattle.choice.specs.Winner.{winner}
use Rattle.auction.specs.Page.{put, empty_page}
use Rattle.auction.specs.Eligible.{eligible}

-- the winner of slot k, with the slots before it filled
unfoldable pub winner_at : Round → Page → ℕ → ℕ
winner_at r p k = winner (eligible r p k) (bid_of r) r.bidders

-- slot k filled: its winner stands there, or nobody, "and the next place is still tried"
unfoldable pub fill_slot : Round → ℕ → Page → Page
fill_slot r k p = put p k (winner_at r p k)

-- "Take places 1 to m in order": slots 1 to k are filled
unfoldable pub page_up_to : Round → ℕ → Page
page_up_to r zero = empty_page
page_up_to r (suc k) = fill_slot r (suc k) (page_up_to r k)

-- the greedy page
unfoldable pub greedy_page : Round → Page
greedy_page r = page_up_to r r.slots
