-- `owner_part::check_call` meets its contract: the check's number, and for an accepted sheet the call's own. Assumes nothing.
use mathlib.Core.Path.{sym}
use native.Mathlib.Omega.{arith}
use Rattle.sheet_read.proofs.RoomLaws.{room}
use Rattle.owner_part.proofs.check_call.Goals as goal

pub bounds-sheet-5 : goal.bounds-sheet-5
bounds-sheet-5 c = omega (arith, room _ (sym c.in_ok-check.ensures))
