-- `pas::pas_loss_bound` meets its contract: the call's number decides whether the factor is written. Assumes nothing.
use mathlib.Core.Path.{refl, subst}
use Rattle.refusal.specs.Numbers.{number_of}
use Rattle.refusal.proofs.NumberLaws.{number_of-ne0}
use Rattle.loss_bound.specs.LossBound.{loss_in, LossBounded}
use Rattle.pas.specs.Calls.{LossBoundGiven}
use Rattle.pas.proofs.AnswerLaws.{told, loss_refused, loss_answered}
use Rattle.pas.proofs.pas_loss_bound.Goals as goal

pub returns : goal.returns
returns c =
    let start = c.args in
    rw (c.tell.ensures.told, c.tell.ensures.written)
    (told c.bound.result start.factor.now (λ n a. LossBoundGiven start.sheet.now start.factor.now n a)
    (λ v e. loss_answered start.sheet.now start.factor.now (record { refusal = 0; factor = v }) (subst (λ r. LossBounded start.sheet.now (loss_in r)) e c.bound.ensures) refl)
    (λ x e. loss_refused start.sheet.now start.factor.now (record { refusal = number_of x; factor = 0 }) (subst (λ r. LossBounded start.sheet.now (loss_in r)) e c.bound.ensures) (number_of-ne0 x)))
