-- `canonical::write` meets its contract, by the cases of the call: a refused sheet, and an accepted one of either version. Assumes nothing.
use mathlib.Core.Path.{sym, ◌∙◌}
use native.Mathlib.Omega.{arith}
use Rattle.std.proofs.lemmas.Result.{err_from_is_err_and}
use Rattle.refusal.proofs.NumberLaws.{number_of-ne0}
use Rattle.sheet.proofs.AcceptedLaws.{accepted-sheet}
use Rattle.canonical.proofs.PartLaws.{version_one, sheet-refused}
use Rattle.canonical.proofs.write.Goals as goal

pub returns-in_err-check : goal.returns-in_err-check
returns-in_err-check c =
    let p = err_from_is_err_and c.from_residual.result c.from_residual.ensures.1 in
    rw (p.1, p.2) (sheet-refused c.args.sheet.now c.args.res.now _ c.in_err-check.ensures (number_of-ne0 _))

-- past the check the sheet is accepted
pub word16-requires : goal.word16-requires
word16-requires c = let header = (accepted-sheet _ (sym c.in_ok-check.ensures)).form.header in omega arith

pub write_ordered-requires : goal.write_ordered-requires
write_ordered-requires c =
    let accepted = sym c.in_ok-check.ensures in
    (accepted, version_one _ accepted (λ e. c.if-word16-eq2.false (c.word16.ensures.0 ∙ e)))
