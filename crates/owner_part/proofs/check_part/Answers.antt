-- `owner_part::check_part` meets its contract: it says the number and the start of the bounds. Assumes nothing.
use Rattle.std.proofs.lemmas.Result.{err_from_is_err_and}
use Rattle.owner_part.proofs.CallLaws.{before-bounds}
use Rattle.owner_part.proofs.check_part.Goals as goal

pub returns-in_err-span : goal.returns-in_err-span
returns-in_err-span c =
    let p = err_from_is_err_and c.from_residual.result c.from_residual.ensures.1 in
    rw (p.1, p.2) (before-bounds _ _ _ c.in_err-span.ensures)

pub returns : goal.returns
returns c = before-bounds _ _ _ c.in_ok-span.ensures
