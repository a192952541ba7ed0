-- `pas::pas_best_floors` meets its contract: the best-page call's number decides whether the total is written; the buffer is what the call left. Assumes nothing.
use mathlib.Core.Path.{refl, subst}
use Rattle.refusal.specs.Numbers.{number_of}
use Rattle.refusal.proofs.NumberLaws.{number_of-ne0}
use Rattle.best_search.specs.Call.{chosen_in, BestFloorsGiven}
use Rattle.pas.specs.Calls.{BestFloorsPageGiven}
use Rattle.pas.proofs.AnswerLaws.{told, floors-best-refused, floors-best-answered}
use Rattle.pas.proofs.pas_best_floors.Goals as goal

pub returns : goal.returns
returns c =
    let start = c.args in
    rw (c.tell.ensures.told, c.tell.ensures.written)
    (told c.best_floors.result start.total.now (λ n a. BestFloorsPageGiven start.floors.now start.sheet.now start.res.now start.total.now n c.best_floors.new.res a)
    (λ v e. floors-best-answered start.floors.now start.sheet.now start.res.now start.total.now (record { refusal = 0; total = v }) _ (subst (λ r. BestFloorsGiven start.floors.now start.sheet.now start.res.now (chosen_in r) c.best_floors.new.res) e c.best_floors.ensures) refl)
    (λ x e. floors-best-refused start.floors.now start.sheet.now start.res.now start.total.now (record { refusal = number_of x; total = 0 }) _ (subst (λ r. BestFloorsGiven start.floors.now start.sheet.now start.res.now (chosen_in r) c.best_floors.new.res) e c.best_floors.ensures) (number_of-ne0 x)))
