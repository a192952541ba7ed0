-- `best_seats::only` meets its contract: one bit. Assumes nothing.
use Rattle.basis.proofs.BitLaws.{bit_single}
use Rattle.best_seats.proofs.only.Goals as goal

pub returns : goal.returns
returns c = λ i l. bit_single c.args.seat.0 64 i l
