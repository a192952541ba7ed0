-- `above_terms::put_slot` meets its contract: after j turns the conditions of the first j rivals stand at the offset, and those of the next are stored where
-- they end. Assumes nothing.
use Prim.Native.Nat.{ℕ, ◌+◌, ◌*◌}
use mathlib.Core.List.{List}
use mathlib.Core.Path.{◌≡◌}
use lib.ListN.{length}
use lib.Seq.{sets}
use Rattle.sheet.specs.Encoded.{quads}
use Rattle.above_terms.specs.EngineAbove.{slot_pairs}
use Rattle.above_terms.proofs.put_slot.Given as goal

pub record Put (result₀ : List ℕ) (start owner own : ℕ) (others result : List ℕ) (at j : ℕ) : Type 0 where
  pub size : length result ≡ length result₀
  pub end : at ≡ start + 4 * length (slot_pairs owner own others j)
  pub run : result ≡ sets result₀ start (quads (slot_pairs owner own others j))

abbrev pub invariant-loop-other : goal.invariant-loop-other
invariant-loop-other l = Put l.initial.res l.start l.owner.0 l.own.0 l.others l.res l.at l.other-index
