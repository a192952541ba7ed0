-- The engine's own: nothing here need be believed.
-- What playing a round gives: its page and the price of each slot.
use Rattle.std.specs.Prelude.{suc}
use Rattle.basis.specs.Rows.{padded}
use Rattle.sheet.specs.declared.Round.{Round}
use Rattle.auction.specs.Greedy.{greedy_page}
use Rattle.auction.specs.Price.{price}
use Rattle.greedy.specs.declared.Outcome.{Outcome}

unfoldable pub outcome_of : Round → Outcome
outcome_of r = record { page = greedy_page r; prices = padded (λ k. price r (suc k)) r.slots 16 0 }
