-- `best_clash::fill_table` meets its contract: the constraint read at an index is the round's there, so after n turns the table has what the round's
-- first n constraints shut. Assumes nothing.
use Prim.Native.Nat.{ℕ, ◌<◌}
use mathlib.Core.List.{List}
use mathlib.Core.Path.{◌≡◌}
use lib.ListN.{length, get_or}
use Rattle.basis.specs.Bits.{bit_of}
use Rattle.sheet.specs.declared.Round.{Round}
use Rattle.sheet.specs.Round.{round_of}
use Rattle.best_clash.specs.EngineMarks.{some_shuts}
use Rattle.best_clash.proofs.fill_table.Given as goal

-- the table has what the first n constraints shut, and nothing else
pub record Going (ranks : List ℕ) (r : Round) (table : List ℕ) (n : ℕ) : Type 0 where
  pub size : length table ≡ 73
  pub told : (x y : ℕ) → y < 64 → bit_of (get_or table x 0) y ≡ some_shuts ranks r n x y

abbrev pub invariant-loop-i : goal.invariant-loop-i
invariant-loop-i l = Going l.ranks (round_of l.sheet) l.table l.i
