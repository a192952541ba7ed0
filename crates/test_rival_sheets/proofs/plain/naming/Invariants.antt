use Rattle.std.proofs.Common.{◌≤◌}
use Rattle.test_rival_sheets.proofs.plain.naming.Given as goal

abbrev pub invariant-loop-constraint : goal.invariant-loop-constraint
invariant-loop-constraint l = l.found ≤ l.constraint
