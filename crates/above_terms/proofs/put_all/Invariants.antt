-- `above_terms::put_all` meets its contract: after k turns the conditions with the owner at places 1 to k stand at the front, and those of the next place are
-- stored where they end. Assumes nothing.
use Prim.Native.Nat.{ℕ, ◌*◌}
use mathlib.Core.List.{List}
use mathlib.Core.Path.{◌≡◌}
use lib.ListN.{length}
use lib.Seq.{sets}
use Rattle.sheet.specs.Encoded.{quads}
use Rattle.above_terms.specs.EngineAbove.{all_pairs}
use Rattle.above_terms.proofs.put_all.Given as goal

pub record Put (result₀ : List ℕ) (owner : ℕ) (others result : List ℕ) (at k : ℕ) : Type 0 where
  pub size : length result ≡ length result₀
  pub end : at ≡ 4 * length (all_pairs owner others k)
  pub run : result ≡ sets result₀ 0 (quads (all_pairs owner others k))

abbrev pub invariant-loop-k : goal.invariant-loop-k
invariant-loop-k l = Put l.initial.res l.owner.0 l.others l.res l.at l.k
