-- `play::play` meets its contract, by the cases of the call; an accepted sheet is played with floors of 0. Assumes nothing.
use mathlib.Core.Path.{sym, ◌∙◌}
use Rattle.basis.proofs.RowLaws.{zeros}
use Rattle.refusal.proofs.NumberLaws.{number_of-ne0}
use Rattle.std.proofs.lemmas.Result.{err_from_is_err_and}
use Rattle.sheet.specs.Refusal.{Accepted}
use Rattle.sheet.proofs.AcceptedLaws.{accepted-sheet}
use Rattle.sheet.proofs.FloorLaws.{without-floors}
use Rattle.floors.proofs.FloorLaws.{none-asked}
use Rattle.play.proofs.PlayLaws.{sheet-refused, accepted-plays}
use Rattle.play.proofs.play.Goals.{In_ok-check}
use Rattle.play.proofs.play.Goals as goal

-- past the check the sheet is accepted
accepted : (c : In_ok-check) → Accepted c.args.sheet.now
accepted c = sym c.in_ok-check.ensures

pub returns-in_err-check : goal.returns-in_err-check
returns-in_err-check c =
    let p = err_from_is_err_and c.from_residual.result c.from_residual.ensures.1 in
    rw (p.1, p.2) (sheet-refused c.args.sheet.now c.args.res.now _ c.in_err-check.ensures (number_of-ne0 _))

pub play_accepted-requires : goal.play_accepted-requires
play_accepted-requires c =
    let ok = accepted (goal.at.play_accepted-requires c).In_ok-check in
    (ok, (_, none-asked _ ok))

pub returns : goal.returns
returns c =
    let ok = accepted (goal.at.returns c).In_ok-check in
    accepted-plays _ _ _ _ _ ok (without-floors _ _ (accepted-sheet _ ok).counts.most_slots (λ k l. zeros 16 k)) (c.play_accepted.ensures _ (none-asked _ ok))
