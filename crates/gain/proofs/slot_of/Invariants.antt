-- `gain::slot_of` meets its contract: a turn that goes on has not found the bidder at the slots before. Assumes nothing.
use mathlib.Core.Path.{◌≡◌}
use Rattle.basis.specs.First.{first_over}
use Rattle.gain.proofs.SlotLaws.{seen}
use Rattle.gain.proofs.slot_of.Given as goal

abbrev pub invariant-loop-k : goal.invariant-loop-k
invariant-loop-k l = first_over (seen l.page l.bidder.0) l.k ≡ 0
