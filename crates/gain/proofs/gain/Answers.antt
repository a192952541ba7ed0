-- `gain::gain` meets its contract, by the cases of the call; an accepted sheet is played with floors of 0. Assumes nothing.
use mathlib.Core.Path.{sym, ◌∙◌}
use Rattle.basis.proofs.RowLaws.{zeros}
use Rattle.refusal.proofs.NumberLaws.{number_of-ne0}
use Rattle.sheet.specs.Refusal.{Accepted}
use Rattle.sheet.proofs.AcceptedLaws.{accepted-sheet}
use Rattle.sheet.proofs.FloorLaws.{without-floors}
use Rattle.floors.proofs.FloorLaws.{none-asked}
use Rattle.gain.proofs.CallLaws.{alone, played-refused, accepted-gains}
use Rattle.gain.proofs.gain.Goals.{In_ok-check}
use Rattle.gain.proofs.gain.Goals as goal

-- past the check the played sheet is accepted
accepted : (c : In_ok-check) → Accepted c.args.played.now
accepted c = sym c.in_ok-check.ensures

pub returns-in_err-check : goal.returns-in_err-check
returns-in_err-check c = alone _ _ c.from_residual.ensures.1 ∙ played-refused _ _ _ _ _ c.in_err-check.ensures (number_of-ne0 _)

pub gain_accepted-requires : goal.gain_accepted-requires
gain_accepted-requires c =
    let ok = accepted (goal.at.gain_accepted-requires c).In_ok-check in
    (ok, (_, none-asked _ ok))

pub returns : goal.returns
returns c =
    let ok = accepted (goal.at.returns c).In_ok-check in
    c.gain_accepted.ensures _ (none-asked _ ok) ∙ accepted-gains _ _ _ _ _ ok (without-floors _ _ (accepted-sheet _ ok).counts.most_slots (λ k l. zeros 16 k))
