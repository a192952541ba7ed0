-- `play::play_floors` meets its contract, by the cases of the call. Assumes nothing.
use mathlib.Core.Path.{◌≡◌, sym, ◌∙◌}
use native.Mathlib.Omega.{arith}
use Rattle.refusal.proofs.NumberLaws.{number_of-ne0}
use Rattle.std.proofs.lemmas.Result.{err_from_is_err_and}
use Rattle.sheet.specs.Refusal.{Accepted}
use Rattle.sheet.specs.Sheet.{slot_count, tick_field}
use Rattle.choice.specs.Critical.{Asked}
use Rattle.sheet.proofs.AcceptedLaws.{accepted-sheet}
use Rattle.floors.specs.Floors.{floors_refusal}
use Rattle.floors.proofs.FloorLaws.{passed-proper}
use Rattle.play.proofs.PlayLaws.{floors-sheet-refused, floors-refused, floored-plays}
use Rattle.play.proofs.play_floors.Goals.{After-asked-asks, In_ok-check, In_ok-check_floors}
use Rattle.play.proofs.play_floors.Goals as goal

-- past the check the sheet is accepted
accepted : (c : In_ok-check) → Accepted c.args.sheet.now
accepted c = sym c.in_ok-check.ensures

-- and past 30 and 31 so are the floors
floored : (c : In_ok-check_floors) → floors_refusal (slot_count c.args.sheet.now) c.args.floors.now ≡ 0
floored c = sym c.in_ok-check_floors.ensures

-- what the floors ask is theirs, by the sheet's tick
asked_is : (c : After-asked-asks) → Asked (tick_field c.args.sheet.now) (slot_count c.args.sheet.now) c.args.floors.now c.asked-asks.result
asked_is c = rw (sym c.tick_of.ensures) c.asked-asks.ensures

pub returns-in_err-check : goal.returns-in_err-check
returns-in_err-check c =
    let given = c.args in
    let p = err_from_is_err_and c.from_residual.result c.from_residual.ensures.1 in
    rw (p.1, p.2) (floors-sheet-refused given.floors.now given.sheet.now given.res.now _ c.in_err-check.ensures (number_of-ne0 _))

pub bounds-sheet-6 : goal.bounds-sheet-6
bounds-sheet-6 c = let known = (accepted-sheet _ (accepted (goal.at.bounds-sheet-6 c).In_ok-check)).counts in omega arith

pub returns-in_err-check_floors : goal.returns-in_err-check_floors
returns-in_err-check_floors c =
    let given = c.args in
    let p = err_from_is_err_and c.from_residual-in_err-check_floors.result c.from_residual-in_err-check_floors.ensures.1 in
    rw (p.1, p.2) (floors-refused given.floors.now given.sheet.now given.res.now _ (accepted (goal.at.returns-in_err-check_floors c).In_ok-check) c.in_err-check_floors.ensures (number_of-ne0 _))

pub tick_of-requires : goal.tick_of-requires
tick_of-requires c =
    let form = (accepted-sheet _ (accepted (goal.at.tick_of-requires c).In_ok-check)).form in
    (form.header, form.whole_header)

pub asked-asks-requires : goal.asked-asks-requires
asked-asks-requires c =
    let counts = (accepted-sheet _ (accepted (goal.at.asked-asks-requires c).In_ok-check)).counts in
    let tick = c.tick_of.ensures in
    (counts.most_slots, passed-proper _ _ (floored (goal.at.asked-asks-requires c).In_ok-check_floors), omega arith, omega arith)

pub returns : goal.returns
returns c =
    floored-plays _ _ _ _ _ (accepted (goal.at.returns c).In_ok-check) (floored (goal.at.returns c).In_ok-check_floors) (c.play_accepted.ensures _ (asked_is (goal.at.returns c).After-asked-asks))
