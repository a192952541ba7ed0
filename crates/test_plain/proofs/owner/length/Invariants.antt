-- Each constraint adds at most 4 bytes.
use Rattle.std.proofs.Common.{◌*◌, ◌≤◌}
use Rattle.test_plain.proofs.owner.length.Given as goal

abbrev pub invariant-loop-index : goal.invariant-loop-index
invariant-loop-index l = l.bytes ≤ 4 * l.index
