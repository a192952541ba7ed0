-- `best_seats::first_rank` meets its contract: the zeros below the lowest bit tell where it is. Assumes nothing.
use Rattle.best_seats.proofs.SeatLaws.{first-here}
use Rattle.best_seats.proofs.first_rank.Goals as goal

pub returns : goal.returns
returns c = first-here c.args.ranks.0 c.requires.0 c.requires.1
