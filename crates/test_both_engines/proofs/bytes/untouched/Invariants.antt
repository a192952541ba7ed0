use Rattle.std.proofs.Common.{◌≡◌, ℕ, ◌<◌, true}
use Rattle.test_both_engines.specs.Bytes.{kept_at}
use Rattle.test_both_engines.proofs.bytes.untouched.Given as goal

abbrev pub invariant-loop-at : goal.invariant-loop-at
invariant-loop-at l = (k : ℕ) → k < l.at → kept_at l.after l.before l.start l.written k ≡ true
