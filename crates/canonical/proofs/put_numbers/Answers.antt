use Rattle.std.proofs.Common.{ℕ, ◌+◌, ◌*◌, ◌^◌, ◌<◌, List, get_or, refl, sym, ◌∙◌, ap, add-one, arith}
use mathlib.Core.Path.{ap₂}
use Rattle.std.proofs.lemmas.List.Edits.{sets}
use Rattle.basis.specs.Bytes.{bytes32}
use Rattle.basis.specs.Rows.{joined}
use Rattle.canonical.specs.EngineParts.{numbers_bytes}
use Rattle.canonical.proofs.PartLaws.{turned_bytes, numbers_next}
use Rattle.canonical.proofs.put_numbers.Goals as goal

pub loop-k-init : goal.loop-k-init
unfolding numbers_bytes joined
loop-k-init c = refl

pub loop-k-preserved : goal.loop-k-preserved
loop-k-preserved c =
    let turn = c.loop-k in
    let start = c.args in
    let numbers = start.numbers.now in
    let k = turn.k in
    let low : get_or numbers k 0 < 2 ^ 32 = omega (arith, c.type_inv.numbers k) in
    c.put_word32.ensures
    ∙ ap₂ (λ (l bytes : List ℕ). sets l (start.at + 4 * k) bytes)
    turn.invariant
    (ap bytes32 c.order_number.ensures ∙ turned_bytes (get_or numbers k 0) low)
    ∙ numbers_next numbers start.res.now start.at k
    ∙ ap (λ (n : ℕ). sets start.res.now start.at (numbers_bytes numbers n)) (sym (add-one k))
