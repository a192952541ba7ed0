-- `best_search::best_floors` meets its contract, by the cases of the call. Assumes nothing.
use mathlib.Core.Path.{◌≡◌, sym}
use native.Mathlib.Omega.{arith}
use Rattle.refusal.proofs.NumberLaws.{number_of-ne0}
use Rattle.sheet.specs.Refusal.{Accepted}
use Rattle.sheet.specs.Sheet.{slot_count}
use Rattle.sheet.proofs.AcceptedLaws.{accepted-sheet}
use Rattle.floors.specs.Floors.{floors_refusal}
use Rattle.floors.proofs.FloorLaws.{passed-proper}
use Rattle.best_search.proofs.CallLaws.{alone, floors-sheet-refused, floors-refused, floored-gives}
use Rattle.best_search.proofs.best_floors.Goals.{In_ok-check, In_ok-check_floors}
use Rattle.best_search.proofs.best_floors.Goals as goal

-- past the check the sheet is accepted
accepted : (c : In_ok-check) → Accepted c.args.sheet.now
accepted c = sym c.in_ok-check.ensures

-- and past 30 and 31 so are the floors
floored : (c : In_ok-check_floors) → floors_refusal (slot_count c.args.sheet.now) c.args.floors.now ≡ 0
floored c = sym c.in_ok-check_floors.ensures

pub returns-in_err-check : goal.returns-in_err-check
returns-in_err-check c =
    let given = c.args in
    floors-sheet-refused given.floors.now given.sheet.now given.res.now _ _ (alone _ _ c.from_residual.ensures.1) c.in_err-check.ensures (number_of-ne0 _)

pub bounds-sheet-6 : goal.bounds-sheet-6
bounds-sheet-6 c = omega (arith, (accepted-sheet _ (accepted (goal.at.bounds-sheet-6 c).In_ok-check)).counts)

pub returns-in_err-check_floors : goal.returns-in_err-check_floors
returns-in_err-check_floors c =
    let given = c.args in
    floors-refused given.floors.now given.sheet.now given.res.now _ _ (alone _ _ c.from_residual-in_err-check_floors.ensures.1)
    (accepted (goal.at.returns-in_err-check_floors c).In_ok-check) c.in_err-check_floors.ensures (number_of-ne0 _)

pub best_accepted-requires : goal.best_accepted-requires
best_accepted-requires c = (accepted (goal.at.best_accepted-requires c).In_ok-check, passed-proper _ _ (floored (goal.at.best_accepted-requires c).In_ok-check_floors))

pub returns : goal.returns
returns c =
    floored-gives _ _ _ _ _ (accepted (goal.at.returns c).In_ok-check) (floored (goal.at.returns c).In_ok-check_floors) c.best_accepted.ensures
