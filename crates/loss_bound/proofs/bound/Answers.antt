-- `loss_bound::bound` meets its contract: a refused sheet, and an accepted one. Assumes nothing.
use mathlib.Core.Path.{sym}
use Rattle.std.proofs.lemmas.Result.{err_from_is_err_and}
use Rattle.refusal.proofs.NumberLaws.{number_of-ne0}
use Rattle.loss_bound.proofs.FactorLaws.{sheet-refused, sheet_bounded}
use Rattle.loss_bound.proofs.bound.Goals as goal

pub returns-in_err-check : goal.returns-in_err-check
returns-in_err-check c =
    let p = err_from_is_err_and c.from_residual.result c.from_residual.ensures.1 in
    rw (p.1, p.2) (sheet-refused c.args.sheet.now _ c.in_err-check.ensures (number_of-ne0 _))

pub returns : goal.returns
returns c = sheet_bounded c.args.sheet.now _ (sym c.in_ok-check.ensures) c.factor_of.ensures
