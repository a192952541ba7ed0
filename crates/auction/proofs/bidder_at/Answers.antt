-- `auction::bidder_at` meets its contract. Assumes nothing.
use Rattle.auction.proofs.PageLaws.{at-index}
use Rattle.auction.proofs.bidder_at.Goals as goal

pub returns : goal.returns
returns c = at-index c.args.page c.args.slot.0 c.requires.0
