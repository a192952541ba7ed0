-- `share_page::rivals_of` meets its contract: after k turns the word has whom the first k members name, of those that are left. Assumes nothing.
use Prim.Native.Nat.{ℕ}
use mathlib.Core.Bool.{Bool, ◌&&◌}
use mathlib.Core.List.{List}
use mathlib.Core.Path.{◌≡◌}
use lib.ListN.{get_or}
use Rattle.basis.specs.Tests.{any_below}
use Rattle.bidder_sets.specs.EngineSets.{in_word}
use Rattle.share_page.specs.EngineShare.{in_table}
use Rattle.share_page.proofs.rivals_of.Given as goal

-- the member at an index is left and names x, and one of the first k members does
abbrev pub naming : (table members : List ℕ) (left x j : ℕ) → Bool
naming table members left x j = in_word left (get_or members j 0) && in_table table (get_or members j 0) x

abbrev pub rivals_to : (table members : List ℕ) (left k x : ℕ) → Bool
rivals_to table members left k x = any_below (naming table members left x) k

abbrev pub invariant-loop-member : goal.invariant-loop-member
invariant-loop-member l = (x : ℕ) → in_word l.rivals.0 x ≡ rivals_to l.table l.members l.left.0 l.member-index x
