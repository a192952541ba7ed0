-- `page_lines::slot_lines` meets its contract: after k turns the lines of the first k slots stand at the front, at most 18 bytes each,
-- so the next line has room, and it is put where they end. Assumes nothing.
use Prim.Native.Nat.{ℕ, ◌*◌, ◌≤◌}
use mathlib.Core.List.{List}
use Rattle.page_lines.specs.Lines.{result_lines}
use Rattle.page_lines.specs.Put.{Put}
use Rattle.page_lines.proofs.slot_lines.Given as goal

-- the lines of the first k slots stand at the front, at most 18 bytes each, and the rest is as it was
pub record Going (result text₀ text : List ℕ) (at k : ℕ) : Type 0 where
  pub short : at ≤ 18 * k
  pub put : Put text₀ 0 (result_lines result k) at text

abbrev pub invariant-loop-k : goal.invariant-loop-k
invariant-loop-k l = Going l.res l.initial.text l.text l.at l.k
