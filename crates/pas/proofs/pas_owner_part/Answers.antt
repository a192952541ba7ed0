-- `pas::pas_owner_part` meets its contract: the call's number decides whether the bounds of the part are written. Assumes nothing.
use mathlib.Core.Path.{refl}
use Rattle.refusal.proofs.NumberLaws.{number_of-ne0}
use Rattle.pas.proofs.AnswerLaws.{part-refused, part-answered}
use Rattle.pas.proofs.pas_owner_part.Goals as goal

pub returns-in-Ok : goal.returns-in-Ok
returns-in-Ok c = let start = c.args in part-answered start.sheet.now start.bidder start.start.now start.length.now _ c.in-Ok.ensures refl

pub returns-in-Err : goal.returns-in-Err
returns-in-Err c =
    let start = c.args in
    rw c.number.ensures (part-refused start.sheet.now start.bidder start.start.now start.length.now _ c.in-Err.ensures (number_of-ne0 _))
