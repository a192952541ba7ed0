-- `sheet_read::constraint_count` meets its contract: an accepted sheet has a whole header. Assumes nothing.
use native.Mathlib.Omega.{arith}
use Rattle.sheet_read.proofs.RoomLaws.{room}
use Rattle.sheet_read.proofs.constraint_count.Goals as goal

pub word16-requires : goal.word16-requires
word16-requires c = omega (arith, room _ c.requires)
