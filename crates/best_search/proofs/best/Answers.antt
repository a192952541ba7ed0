-- `best_search::best` meets its contract, by the cases of the call; the best page of an accepted sheet is sought with floors of 0. Assumes nothing.
use mathlib.Core.Path.{sym}
use Rattle.basis.proofs.RowLaws.{zeros}
use Rattle.refusal.proofs.NumberLaws.{number_of-ne0}
use Rattle.sheet.specs.Refusal.{Accepted}
use Rattle.sheet.proofs.AcceptedLaws.{accepted-sheet}
use Rattle.sheet.proofs.FloorLaws.{zeros_proper, without-floors}
use Rattle.best_search.proofs.CallLaws.{alone, sheet-refused, accepted-gives}
use Rattle.best_search.proofs.best.Goals.{In_ok-check}
use Rattle.best_search.proofs.best.Goals as goal

-- past the check the sheet is accepted
accepted : (c : In_ok-check) → Accepted c.args.sheet.now
accepted c = sym c.in_ok-check.ensures

pub returns-in_err-check : goal.returns-in_err-check
returns-in_err-check c =
    let given = c.args in
    sheet-refused given.sheet.now given.res.now _ _ (alone _ _ c.from_residual.ensures.1) c.in_err-check.ensures (number_of-ne0 _)

pub best_accepted-requires : goal.best_accepted-requires
best_accepted-requires c =
    let ok = accepted (goal.at.best_accepted-requires c).In_ok-check in
    (ok, zeros_proper _ (accepted-sheet _ ok).counts.most_slots)

pub returns : goal.returns
returns c =
    let ok = accepted (goal.at.returns c).In_ok-check in
    accepted-gives _ _ _ _ _ ok (without-floors _ _ (accepted-sheet _ ok).counts.most_slots (λ k l. zeros 16 k)) c.best_accepted.ensures
