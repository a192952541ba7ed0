-- `auction::with_bidder` meets its contract. Assumes nothing.
use Rattle.auction.proofs.PageLaws.{put-index}
use Rattle.auction.proofs.with_bidder.Goals as goal

pub returns : goal.returns
returns c = put-index c.args.page c.args.slot.0 c.args.bidder.0 c.requires.0
