-- `downward::test` meets its contract, by the cases of the call: a bidder within the sheet's is below 256, so it is not cut.
-- Assumes nothing.
use mathlib.Core.Bool.{Bool}
use mathlib.Core.Path.{sym, ◌∙◌, ap}
use native.Mathlib.Omega.{arith}
use Rattle.refusal.proofs.NumberLaws.{number_of-ne0}
use Rattle.sheet.specs.Refusal.{Accepted}
use Rattle.sheet_read.proofs.RoomLaws.{room}
use Rattle.downward.proofs.CallLaws.{alone, sheet-refused, no_bidder, bidder-above, list_tested}
use Rattle.downward.proofs.test.Goals.{In_ok-check, then-bidder-eq0-via-then-bidder-eq0, then-bidder-eq0-via-else-bidder-eq0+then-from-bidder}
use Rattle.downward.proofs.test.Goals as goal

-- past the check the sheet is accepted
accepted : (c : In_ok-check) → Accepted c.args.sheet.now
accepted c = sym c.in_ok-check.ensures

pub returns-in_err-check : goal.returns-in_err-check
returns-in_err-check c =
    alone _ _ c.from_residual.ensures.1 ∙ sheet-refused c.args.sheet.now c.args.bidder _ c.in_err-check.ensures (number_of-ne0 _)

pub bounds-sheet-5 : goal.bounds-sheet-5
bounds-sheet-5 c = omega (arith, room _ (accepted (goal.at.bounds-sheet-5 c).In_ok-check))

pub returns-then-bidder-eq0 : goal.returns-then-bidder-eq0
returns-then-bidder-eq0 c =
    let s = c.args.sheet.now in
    let ok = accepted (goal.at.returns-then-bidder-eq0 c).In_ok-check in
    elim c.then-bidder-eq0.branch [
      | then-bidder-eq0-via-then-bidder-eq0 w ↦ no_bidder s c.args.bidder ok w.if-bidder-eq0.true
      | then-bidder-eq0-via-else-bidder-eq0+then-from-bidder w ↦ bidder-above s c.args.bidder ok (omega arith)
    ]

pub returns : goal.returns
returns c =
    ap (λ (t : Bool). record { refusal = 0; yes = t }) c.is_downward.ensures
    ∙ list_tested c.args.sheet.now c.args.bidder (accepted (goal.at.returns c).In_ok-check) (omega arith) (omega arith)
