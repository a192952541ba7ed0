-- `page_job::page_text` meets its contract, by the two cases of the call: a refused sheet's line is put by its number, and an
-- accepted one's lines are read off the result that playing wrote. Assumes nothing.
use Rattle.std.proofs.Common.{ℕ, List, refl, ◌∙◌, ap, subst, arith}
use Rattle.refusal.proofs.NumberLaws.{number_of-ne0}
use Rattle.sheet.specs.Refusal.{Accepted}
use Rattle.sheet.proofs.AcceptedLaws.{accepted-sheet}
use Rattle.page_lines.specs.Lines.{refused_line}
use Rattle.page_lines.specs.Put.{Written}
use Rattle.page_job.proofs.PageTextLaws.{text-refused, answer-accepted, text-played}
use Rattle.page_job.proofs.page_text.Goals.{In-Ok}
use Rattle.page_job.proofs.page_text.Goals as goal

accepted : (c : In-Ok) → Accepted c.args.sheet.now
accepted c = answer-accepted _ _ _ 0 refl c.in-Ok.ensures refl

pub bounds-sheet-6 : goal.bounds-sheet-6
bounds-sheet-6 c = let known = (accepted-sheet _ (accepted (goal.at.bounds-sheet-6 c).In-Ok)).counts in omega arith

pub slot_lines-requires : goal.slot_lines-requires
slot_lines-requires c =
    let few = (accepted-sheet _ (accepted (goal.at.slot_lines-requires c).In-Ok)).counts.most_slots in
    (few, omega (arith, c.play.auto.res), omega arith)

pub returns-in-Ok : goal.returns-in-Ok
returns-in-Ok c =
    subst (λ (bytes : List ℕ). Written c.args.text.now bytes c.slot_lines.result c.slot_lines.new.text)
    (text-played c.args.sheet.now _ _ 0 refl c.in-Ok.ensures refl)
    c.slot_lines.ensures

pub returns-in-Err : goal.returns-in-Err
returns-in-Err c =
    subst (λ (bytes : List ℕ). Written c.args.text.now bytes c.refused_line.result c.refused_line.new.text)
    (ap refused_line c.number.ensures ∙ text-refused c.args.sheet.now _ _ _ refl c.in-Err.ensures (number_of-ne0 _))
    c.refused_line.ensures
