-- `canonical::copy_whole` meets its contract: what is written for a sheet of version 2 is the sheet itself. Assumes nothing.
use Prim.Native.Nat.{ℕ, ◌<◌}
use mathlib.Core.Path.{sym, ◌∙◌, ap}
use native.Mathlib.Omega.{arith}
use lib.ListN.{length}
use lib.Seq.{sets}
use Rattle.basis.specs.Bytes.{byte_at}
use Rattle.canonical.proofs.WrittenLaws.{written_two}
use Rattle.canonical.proofs.PartLaws.{copied, buffer_short, sheet-written}
use Rattle.canonical.proofs.copy_whole.Goals as goal

pub returns-then-res-size : goal.returns-then-res-size
returns-then-res-size c =
    let s = c.args.sheet.now in
    let low : (i : ℕ) → byte_at s i < 256 = λ i. omega (arith, c.type_inv.sheet i) in
    let size = ap length (written_two s c.requires.0 c.requires.1 low) in
    buffer_short s c.args.res.now c.requires.0 (omega (arith, c.if-res-size.true))

pub returns : goal.returns
returns c =
    let s = c.args.sheet.now in
    let out = c.args.res.now in
    let low : (i : ℕ) → byte_at s i < 256 = λ i. omega (arith, c.type_inv.sheet i) in
    let same = written_two s c.requires.0 c.requires.1 low in
    let after = c.copy.ensures in
    sheet-written s out _ _ c.requires.0 (sym (ap length same)) c.if-res-size.false
    (copied out _ 0 _ (omega (arith, ap length after)) c.if-res-size.false ∙ ap (sets out 0) (after ∙ sym same))
