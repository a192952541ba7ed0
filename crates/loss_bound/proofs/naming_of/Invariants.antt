-- `loss_bound::naming_of` meets its contract: after some turns the sum and the largest value are those of the counts passed. Assumes nothing.
use Rattle.std.proofs.Common.{◌≡◌, get_or}
use Rattle.basis.specs.Counting.{sum_to, most_to}
use Rattle.loss_bound.proofs.naming_of.Given as goal

abbrev pub invariant-loop-here : goal.invariant-loop-here
invariant-loop-here l = (l.all ≡ sum_to (λ i. get_or l.counts i 0) l.here-index) × (l.most ≡ most_to (λ i. get_or l.counts i 0) l.here-index)
