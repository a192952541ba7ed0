-- `check_constraints::any_faulty` meets its contract: while no fault is found, none of the constraints seen is refused. A byte is below 256,
-- so the number that a turn reads has the constraint's four bytes for its remainders. Assumes nothing.
use mathlib.Core.Bool.{false}
use mathlib.Core.Path.{◌≡◌}
use Rattle.basis.specs.First.{first_over}
use Rattle.sheet.specs.Refusal.{terms_refusal}
use Rattle.check_constraints.proofs.any_faulty.Given as goal

abbrev pub invariant-loop-seen : goal.invariant-loop-seen
invariant-loop-seen l =
    l.found ≡ false → first_over (terms_refusal l.sheet) l.seen ≡ 0
