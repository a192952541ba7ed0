-- `check_numbers::check_bids` meets its contract: the number is 9 where any bid is above the limit. Assumes nothing.
use mathlib.Core.Path.{sym, ◌∙◌}
use Rattle.check_numbers.proofs.RefusalLaws.{bids-number}
use Rattle.check_numbers.proofs.check_bids.Goals as goal

pub returns-then-any_bid_high : goal.returns-then-any_bid_high
returns-then-any_bid_high c = bids-number _ _ (sym c.if-any_bid_high.true ∙ c.any_bid_high.ensures)

pub returns : goal.returns
returns c = bids-number _ _ (sym c.if-any_bid_high.false ∙ c.any_bid_high.ensures)
