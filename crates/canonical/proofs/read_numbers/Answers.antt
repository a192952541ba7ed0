use Rattle.std.proofs.Common.{ℕ, ◌<◌, ◌∙◌, arith}
use Rattle.std.proofs.lemmas.List.Edits.{fill_by_more}
use Rattle.basis.specs.Bytes.{byte_at}
use Rattle.sheet.specs.Accepted.{order_number}
use Rattle.check_constraints.proofs.FaultLaws.{word_number}
use Rattle.canonical.proofs.read_numbers.Goals as goal

pub loop-k-preserved : goal.loop-k-preserved
loop-k-preserved c =
    let s = c.args.sheet.now in
    let k = c.loop-k.k in
    let low : (i : ℕ) → byte_at s i < 256 = λ i. omega (arith, c.type_inv.sheet i) in
    let number = c.order_number.ensures ∙ word_number s low _ _ k c.requires.0 c.word32.ensures in
    rw number (fill_by_more (order_number s) c.loop-k.numbers k 0 (omega arith) c.loop-k.invariant)
