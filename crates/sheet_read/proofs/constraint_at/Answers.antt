-- `sheet_read::constraint_at` meets its contract: the number that it reads has the constraint's four bytes for its remainders.
-- Assumes nothing.
use Prim.Native.Nat.{ℕ, ◌<◌}
use native.Mathlib.Omega.{arith}
use Rattle.basis.specs.Bytes.{byte_at}
use Rattle.sheet_read.proofs.WordLaws.{word_constraint}
use Rattle.sheet_read.proofs.constraint_at.Goals as goal

pub returns : goal.returns
returns c =
    let s = c.args.sheet.now in
    let low : (i : ℕ) → byte_at s i < 256 = λ i. omega (arith, c.type_inv.sheet i) in
    word_constraint s low c.args.start _ c.args.index _ c.requires.0 c.word32-word.ensures c.kind_of-kind.ensures
