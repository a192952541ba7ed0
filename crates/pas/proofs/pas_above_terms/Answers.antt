-- `pas::pas_above_terms` meets its contract: the writer's number decides whether the count is written; the buffer is what the writer left. Assumes nothing.
use mathlib.Core.Path.{refl, subst}
use Rattle.refusal.specs.Numbers.{number_of}
use Rattle.refusal.proofs.NumberLaws.{number_of-ne0}
use Rattle.slot_terms.specs.SlotTerms.{written_in}
use Rattle.above_terms.specs.AboveTerms.{AboveTermsWritten}
use Rattle.pas.specs.Calls.{AboveTermsGiven}
use Rattle.pas.proofs.AnswerLaws.{told, above_terms-refused, above_terms-answered}
use Rattle.pas.proofs.pas_above_terms.Goals as goal

pub returns : goal.returns
returns c =
    let start = c.args in
    rw (c.tell.ensures.told, c.tell.ensures.written)
    (told c.write.result start.count.now (λ n a. AboveTermsGiven start.n start.m start.owner start.rivals.now start.res.now start.count.now n c.write.new.res a)
    (λ v e. above_terms-answered start.n start.m start.owner start.rivals.now start.res.now start.count.now (record { refusal = 0; count = v }) _ (subst (λ r. AboveTermsWritten start.n start.m start.owner start.rivals.now start.res.now (written_in r) c.write.new.res) e c.write.ensures) refl)
    (λ x e. above_terms-refused start.n start.m start.owner start.rivals.now start.res.now start.count.now (record { refusal = number_of x; count = 0 }) _ (subst (λ r. AboveTermsWritten start.n start.m start.owner start.rivals.now start.res.now (written_in r) c.write.new.res) e c.write.ensures) (number_of-ne0 x)))
