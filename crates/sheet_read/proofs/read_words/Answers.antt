use Prim.Native.Nat.{◌+◌, ◌*◌}
use mathlib.Core.Path.{sym}
use native.Mathlib.Numerals.{add-one}
use native.Mathlib.Omega.{arith}
use Rattle.basis.specs.Bytes.{word32_at}
use Rattle.basis.proofs.RowLaws.{padded-none, padded-next}
use Rattle.sheet_read.proofs.read_words.Goals as goal

pub loop-k-init : goal.loop-k-init
loop-k-init g c = sym (padded-none (λ k. word32_at c.args.sheet.now (c.args.start + 4 * k)) g.row.N 0)

pub loop-k-preserved : goal.loop-k-preserved
loop-k-preserved g c =
    rw (c.loop-k.invariant, c.word32.ensures, add-one) (padded-next (λ k. word32_at c.args.sheet.now (c.args.start + 4 * k)) c.loop-k.k g.row.N 0 (omega arith))
