-- `downward::list_all` meets its contract: the constraint read at an index is the round's there, and after n turns the bidder's own among
-- the first n constraints are entered. Assumes nothing.
use Rattle.sheet.specs.Round.{round_of}
use Rattle.downward.specs.EngineListed.{Listed}
use Rattle.downward.proofs.list_all.Given as goal

abbrev pub invariant-loop-i : goal.invariant-loop-i
invariant-loop-i l = Listed (round_of l.sheet) l.bidder.0 l.i l.listed
