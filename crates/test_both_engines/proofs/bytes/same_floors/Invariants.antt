use Rattle.std.proofs.Common.{◌≡◌, ℕ, ◌<◌, true}
use Rattle.test_both_engines.specs.Bytes.{same_at}
use Rattle.test_both_engines.proofs.bytes.same_floors.Given as goal

abbrev pub invariant-loop-at : goal.invariant-loop-at
invariant-loop-at l = (k : ℕ) → k < l.at → same_at l.first l.second k ≡ true
