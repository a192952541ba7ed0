-- `check_constraints::check_free` meets its contract: in version 1 the order gives no number, so the quick pass says 0 only where no constraint
-- is refused, and otherwise the number is the first. Assumes nothing.
use mathlib.Core.Path.{sym}
use Rattle.check_constraints.proofs.RisingLaws.{free-number}
use Rattle.check_constraints.proofs.check_free.Goals as goal

pub returns : goal.returns
returns c = sym (free-number _ _ c.requires.bidders_value.2 (c.any_faulty.ensures c.if-any_faulty.false))
