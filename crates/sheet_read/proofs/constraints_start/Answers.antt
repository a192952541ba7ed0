-- `sheet_read::constraints_start` meets its contract: an accepted sheet has a whole header and counts that are small. Assumes nothing.
use native.Mathlib.Omega.{arith}
use Rattle.sheet_read.proofs.RoomLaws.{room}
use Rattle.sheet_read.proofs.constraints_start.Goals as goal

pub effects_start-requires : goal.effects_start-requires
effects_start-requires c = omega (arith, room _ c.requires)

pub bounds-sheet-6 : goal.bounds-sheet-6
bounds-sheet-6 c = omega (arith, room _ c.requires)

pub overflow_add-result : goal.overflow_add-result
overflow_add-result c = omega (arith, room _ c.requires)

pub bounds-sheet-5 : goal.bounds-sheet-5
bounds-sheet-5 c = omega (arith, room _ c.requires)

pub overflow_add-result-2 : goal.overflow_add-result-2
overflow_add-result-2 c = omega (arith, room _ c.requires)
