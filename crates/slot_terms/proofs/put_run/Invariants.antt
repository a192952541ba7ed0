-- `slot_terms::put_run` meets its contract: after k turns the first k numbers stand at the offset, and the next is stored after them. Assumes nothing.
use Prim.Native.Nat.{ℕ, ◌+◌, ◌*◌}
use mathlib.Core.List.{List}
use mathlib.Core.Path.{◌≡◌}
use lib.ListN.{length}
use lib.Seq.{sets}
use Rattle.basis.specs.Bytes.{bytes32}
use Rattle.basis.specs.Rows.{joined}
use Rattle.slot_terms.proofs.put_run.Given as goal

pub record Put (result₀ : List ℕ) (at first step : ℕ) (result : List ℕ) (word k : ℕ) : Type 0 where
  pub size : length result ≡ length result₀
  pub next : word ≡ first + step * k
  pub run : result ≡ sets result₀ at (joined (λ i. bytes32 (first + step * i)) k)

abbrev pub invariant-loop-k : goal.invariant-loop-k
invariant-loop-k l = Put l.initial.res l.at l.first l.step l.res l.word l.k
