-- `share_page::put_in_order` meets its contract: after k turns those that were found stand at the front and the word has who is left; the next is the first
-- member that is left and that nobody left names. Assumes nothing.
use Prim.Native.Nat.{ℕ}
use mathlib.Core.Bool.{true}
use mathlib.Core.List.{List}
use mathlib.Core.Path.{◌≡◌}
use lib.Seq.{sets}
use Rattle.bidder_sets.specs.EngineSets.{Holds, in_word}
use Rattle.share_page.specs.EngineShare.{in_table, left_after, turns, all_found_to}
use Rattle.share_page.proofs.put_in_order.Given as goal

pub record Ordered (order₀ table members : List ℕ) (set : ℕ) (order : List ℕ) (left k : ℕ) : Type 0 where
  pub rest : Holds left (left_after (in_table table) members (in_word set) k)
  pub found : all_found_to (in_table table) members (in_word set) k ≡ true
  pub run : order ≡ sets order₀ 0 (turns (in_table table) members (in_word set) k)

abbrev pub invariant-loop-k : goal.invariant-loop-k
invariant-loop-k l = Ordered l.initial.order l.table l.members l.initial.left.0 l.order l.left.0 l.k
