-- `slot_terms::put_all_barred` meets its contract: after i turns the conditions of the first i bars stand at the offset, and those of the next are stored
-- where they end. Assumes nothing.
use Prim.Native.Nat.{ℕ, ◌+◌, ◌*◌}
use mathlib.Core.List.{List}
use mathlib.Core.Path.{◌≡◌}
use lib.ListN.{length}
use lib.Seq.{sets}
use Rattle.sheet.specs.Encoded.{quads}
use Rattle.slot_terms.specs.EngineTerms.{bars_to}
use Rattle.slot_terms.proofs.WriteLaws.{all_barred}
use Rattle.slot_terms.proofs.put_all_barred.Given as goal

pub record Put (result₀ : List ℕ) (start owner : ℕ) (bars result : List ℕ) (at i : ℕ) : Type 0 where
  pub size : length result ≡ length result₀
  pub end : at ≡ start + 4 * bars_to bars i
  pub run : result ≡ sets result₀ start (quads (all_barred owner bars i))

abbrev pub invariant-loop-i : goal.invariant-loop-i
invariant-loop-i l = Put l.initial.res l.start l.owner.0 l.bars l.res l.at l.i
