-- `share_page::first_in` meets its contract: none of the members before the turn's is in the set. Assumes nothing.
use Prim.Native.Nat.{ℕ, ◌<◌}
use mathlib.Core.Bool.{false}
use mathlib.Core.Path.{◌≡◌}
use lib.ListN.{get_or}
use Rattle.bidder_sets.specs.EngineSets.{in_word}
use Rattle.share_page.proofs.first_in.Given as goal

abbrev pub invariant-loop-member : goal.invariant-loop-member
invariant-loop-member l = (j : ℕ) → j < l.member-index → in_word l.set.0 (get_or l.members j 0) ≡ false
