-- `pas::pas_share_page` meets its contract: the call's number decides whether the answer is written; the buffer is what the call left.
-- Assumes nothing.
use mathlib.Core.Bool.{Bool, false}
use Rattle.std.specs.Prelude.{Result}
use Rattle.refusal.specs.declared.Refusal.{Refusal}
use mathlib.Core.Path.{refl, subst}
use Rattle.refusal.specs.Numbers.{number_of}
use Rattle.refusal.proofs.NumberLaws.{number_of-ne0}
use Rattle.share_page.specs.SharePage.{shared_in, PageShared}
use Rattle.pas.specs.Calls.{SharePageGiven}
use Rattle.pas.proofs.AnswerLaws.{told_yes, share_refused, share_answered}
use Rattle.pas.proofs.pas_share_page.Goals as goal

pub returns : goal.returns
returns c =
    let start = c.args in
    let given = λ (r : Result Bool Refusal). PageShared start.n start.m start.members.now start.sets.now start.res.now (shared_in r) c.share.new.res in
    rw (c.tell.ensures.told, c.tell.ensures.written, c.in_number.ensures)
    (told_yes c.share.result start.answer.now (λ n a. SharePageGiven start.n start.m start.members.now start.sets.now start.res.now start.answer.now n c.share.new.res a)
    (λ v e. share_answered start.n start.m start.members.now start.sets.now start.res.now start.answer.now (record { refusal = 0; yes = v }) _ (subst given e c.share.ensures) refl _ refl)
    (λ x e. share_refused start.n start.m start.members.now start.sets.now start.res.now start.answer.now (record { refusal = number_of x; yes = false }) _ (subst given e c.share.ensures) (number_of-ne0 x)))
