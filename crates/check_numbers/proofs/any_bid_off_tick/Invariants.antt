-- `check_numbers::any_bid_off_tick` meets its contract: what is found after a turn is what was found before it, or the turn's own bid; the share is made
-- once. Assumes nothing.
use mathlib.Core.Path.{◌≡◌}
use Rattle.basis.specs.Tests.{any_below}
use Rattle.check_numbers.proofs.RefusalLaws.{bid_off}
use Rattle.check_numbers.proofs.any_bid_off_tick.Given as goal

abbrev pub invariant-loop-tested : goal.invariant-loop-tested
invariant-loop-tested l = l.found ≡ any_below (bid_off l.sheet) l.tested
