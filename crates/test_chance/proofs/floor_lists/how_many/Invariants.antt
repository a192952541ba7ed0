-- At most the floors that have passed are counted.
use Rattle.std.proofs.Common.{◌≤◌}
use Rattle.test_chance.proofs.floor_lists.how_many.Given as goal

abbrev pub invariant-loop-at : goal.invariant-loop-at
invariant-loop-at l = l.found ≤ l.at
