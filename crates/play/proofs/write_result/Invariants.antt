-- `play::write_result` meets its contract: after k turns the entries of the first k slots stand at the front. Assumes nothing.
use Prim.Native.Nat.{ℕ, ◌*◌}
use mathlib.Core.List.{List, ◌++◌}
use mathlib.Core.Path.{◌≡◌}
use lib.ListN.{length, drop}
use Rattle.basis.specs.Rows.{joined}
use Rattle.greedy.specs.declared.Outcome.{Outcome}
use Rattle.play.specs.EngineEntries.{entry_in}
use Rattle.play.proofs.write_result.Given as goal

-- the entries of the first k slots stand at the front, and the rest is as it was
pub record Going (o : Outcome) (result₀ result : List ℕ) (k : ℕ) : Type 0 where
  pub size : length result ≡ length result₀
  pub front : result ≡ joined (entry_in o) k ++ drop (5 * k) result₀

abbrev pub invariant-loop-k : goal.invariant-loop-k
invariant-loop-k l = Going l.outcome l.initial.res l.res l.k
