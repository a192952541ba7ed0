-- `pas::pas_best` meets its contract: the best-page call's number decides whether the total is written; the buffer is what the call left. Assumes nothing.
use mathlib.Core.Path.{refl, subst}
use Rattle.refusal.specs.Numbers.{number_of}
use Rattle.refusal.proofs.NumberLaws.{number_of-ne0}
use Rattle.best_search.specs.Call.{chosen_in, BestGiven}
use Rattle.pas.specs.Calls.{BestPageGiven}
use Rattle.pas.proofs.AnswerLaws.{told, best-refused, best-answered}
use Rattle.pas.proofs.pas_best.Goals as goal

pub returns : goal.returns
returns c =
    let start = c.args in
    rw (c.tell.ensures.told, c.tell.ensures.written)
    (told c.best.result start.total.now (λ n a. BestPageGiven start.sheet.now start.res.now start.total.now n c.best.new.res a)
    (λ v e. best-answered start.sheet.now start.res.now start.total.now (record { refusal = 0; total = v }) _ (subst (λ r. BestGiven start.sheet.now start.res.now (chosen_in r) c.best.new.res) e c.best.ensures) refl)
    (λ x e. best-refused start.sheet.now start.res.now start.total.now (record { refusal = number_of x; total = 0 }) _ (subst (λ r. BestGiven start.sheet.now start.res.now (chosen_in r) c.best.new.res) e c.best.ensures) (number_of-ne0 x)))
