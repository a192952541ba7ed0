-- `sheet_read::read_words` meets its contract: after k turns the array is the row of the first k numbers with blanks after it.
-- Assumes nothing.
use Prim.Native.Nat.{◌+◌, ◌*◌}
use mathlib.Core.Path.{◌≡◌}
use Rattle.basis.specs.Bytes.{word32_at}
use Rattle.basis.specs.Rows.{padded}
use Rattle.sheet_read.proofs.read_words.Given as goal

abbrev pub invariant-loop-k : goal.invariant-loop-k
invariant-loop-k g l = l.words ≡ padded (λ k. word32_at l.sheet (l.start + 4 * k)) l.k g.row.N 0
