-- `canonical::read_numbers` meets its contract: after k turns the first k numbers are those of the sheet's constraints. Assumes nothing.
use Rattle.std.proofs.Common.{◌≡◌, ℕ, ◌<◌, get_or}
use Rattle.sheet.specs.Accepted.{order_number}
use Rattle.canonical.proofs.read_numbers.Given as goal

abbrev pub invariant-loop-k : goal.invariant-loop-k
invariant-loop-k l = (i : ℕ) → i < l.k → get_or l.numbers i 0 ≡ order_number l.sheet i
