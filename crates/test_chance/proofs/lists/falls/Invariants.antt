-- At most the constraints that have passed are counted.
use Rattle.std.proofs.Common.{◌≤◌}
use Rattle.test_chance.proofs.lists.falls.Given as goal

abbrev pub invariant-loop-constraint : goal.invariant-loop-constraint
invariant-loop-constraint l = l.found ≤ l.constraint
