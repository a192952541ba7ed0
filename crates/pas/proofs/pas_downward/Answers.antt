-- `pas::pas_downward` meets its contract: the test's number decides whether its answer is written. Assumes nothing.
use mathlib.Core.Bool.{false}
use mathlib.Core.Path.{◌∙◌, refl, sym, ap}
use Rattle.refusal.specs.Numbers.{number_of}
use Rattle.refusal.proofs.NumberLaws.{number_of-ne0}
use Rattle.downward.specs.Call.{tested_in}
use Rattle.pas.specs.Calls.{DownwardGiven}
use Rattle.pas.proofs.AnswerLaws.{told_yes, test-refused, test-answered}
use Rattle.pas.proofs.pas_downward.Goals as goal

pub returns : goal.returns
returns c =
    let start = c.args in
    rw (c.tell.ensures.told, c.tell.ensures.written, c.in_number.ensures)
    (told_yes c.test.result start.answer.now (λ n a. DownwardGiven start.sheet.now start.bidder start.answer.now n a)
    (λ v e. test-answered start.sheet.now start.bidder start.answer.now (record { refusal = 0; yes = v }) (ap tested_in (sym e) ∙ c.test.ensures) refl _ refl)
    (λ x e. test-refused start.sheet.now start.bidder start.answer.now (record { refusal = number_of x; yes = false }) (ap tested_in (sym e) ∙ c.test.ensures) (number_of-ne0 x)))
