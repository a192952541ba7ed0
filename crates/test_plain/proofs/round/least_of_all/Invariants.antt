-- `test_plain::round::least_of_all` is safe and ends: each bid is above the one before, and none is above the own bid. Assumes nothing.
use Prim.Native.Nat.{◌≤◌, ◌-◌}
use Rattle.test_plain.proofs.round.least_of_all.Given as goal

abbrev pub invariant-loop-bid : goal.invariant-loop-bid
invariant-loop-bid l = l.bid ≤ l.own

abbrev pub decreases-loop-bid : goal.decreases-loop-bid
decreases-loop-bid l = l.own - l.bid
