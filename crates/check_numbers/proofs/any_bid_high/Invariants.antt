-- `check_numbers::any_bid_high` meets its contract: what is found after a turn is what was found before it, or the turn's own bid.
-- Assumes nothing.
use mathlib.Core.Path.{◌≡◌}
use Rattle.basis.specs.Tests.{any_below}
use Rattle.check_numbers.proofs.RefusalLaws.{bid_high}
use Rattle.check_numbers.proofs.any_bid_high.Given as goal

abbrev pub invariant-loop-i : goal.invariant-loop-i
invariant-loop-i l = l.found ≡ any_below (bid_high l.sheet) l.i
