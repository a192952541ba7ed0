-- Each slot adds at most 10 to the 15th.
use Rattle.std.proofs.Common.{◌+◌, ◌*◌, ◌≤◌}
use Rattle.test_plain.proofs.amounts.total.Given as goal

abbrev pub invariant-loop-slot : goal.invariant-loop-slot
invariant-loop-slot l = l.sum + 1000000000000000 ≤ 1000000000000000 * l.slot
