-- `pas::pas_canonical` meets its contract: the writer's number decides whether the length is written; the buffer is what the writer left. Assumes nothing.
use mathlib.Core.Path.{refl, subst}
use Rattle.refusal.specs.Numbers.{number_of}
use Rattle.refusal.proofs.NumberLaws.{number_of-ne0}
use Rattle.canonical.specs.Canonical.{rewritten_in, CanonicalWritten}
use Rattle.pas.specs.Calls.{CanonicalGiven}
use Rattle.pas.proofs.AnswerLaws.{told, canonical-refused, canonical-answered}
use Rattle.pas.proofs.pas_canonical.Goals as goal

pub returns : goal.returns
returns c =
    let start = c.args in
    rw (c.tell.ensures.told, c.tell.ensures.written)
    (told c.write.result start.written.now (λ n a. CanonicalGiven start.sheet.now start.res.now start.written.now n c.write.new.res a)
    (λ v e. canonical-answered start.sheet.now start.res.now start.written.now (record { refusal = 0; length = v }) _ (subst (λ r. CanonicalWritten start.sheet.now start.res.now (rewritten_in r) c.write.new.res) e c.write.ensures) refl)
    (λ x e. canonical-refused start.sheet.now start.res.now start.written.now (record { refusal = number_of x; length = 0 }) _ (subst (λ r. CanonicalWritten start.sheet.now start.res.now (rewritten_in r) c.write.new.res) e c.write.ensures) (number_of-ne0 x)))
