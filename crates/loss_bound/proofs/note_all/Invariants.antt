-- `loss_bound::note_all` meets its contract: after k turns the first k constraints are pairs in which the rival stands above the owner, and their pairs are
-- noted. Assumes nothing.
use mathlib.Core.Bool.{true}
use mathlib.Core.Path.{◌≡◌}
use Rattle.basis.specs.Tests.{all_below}
use Rattle.sheet.specs.Sheet.{bidder_count}
use Rattle.loss_bound.specs.LossBound.{rival_above}
use Rattle.loss_bound.specs.EngineNaming.{names_among, Noted}
use Rattle.loss_bound.proofs.note_all.Given as goal

abbrev pub invariant-loop-k : goal.invariant-loop-k
invariant-loop-k l = (all_below (rival_above l.sheet) l.k ≡ true) × Noted (bidder_count l.sheet) (names_among l.sheet l.k) l.words l.counts
