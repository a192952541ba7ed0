-- `bidder_sets::list` meets its contract: after i turns those of the first i bidders that are members stand at the front. Assumes nothing.
use Prim.Native.Nat.{ℕ, ◌≤◌}
use mathlib.Core.List.{List}
use mathlib.Core.Path.{◌≡◌}
use lib.ListN.{length}
use lib.Seq.{sets}
use Rattle.bidder_sets.specs.EngineSets.{in_word, rising_members}
use Rattle.bidder_sets.proofs.list.Given as goal

pub record Put (word : ℕ) (space₀ space : List ℕ) (count i : ℕ) : Type 0 where
  pub few : count ≤ i
  pub size : count ≡ length (rising_members (in_word word) i)
  pub front : space ≡ sets space₀ 0 (rising_members (in_word word) i)

abbrev pub invariant-loop-i : goal.invariant-loop-i
invariant-loop-i l = Put l.set.0 l.initial.space l.space l.count l.i
