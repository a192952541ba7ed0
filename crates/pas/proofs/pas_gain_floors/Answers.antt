-- `pas::pas_gain_floors` meets its contract: the gain call's number decides whether the gain is written. Assumes nothing.
use mathlib.Core.Path.{◌∙◌, refl, sym, ap}
use Rattle.std.specs.Prelude.{pos}
use Rattle.refusal.specs.Numbers.{number_of}
use Rattle.refusal.proofs.NumberLaws.{number_of-ne0}
use Rattle.gain.specs.Call.{gained_in}
use Rattle.pas.specs.Calls.{GainFloorsGiven}
use Rattle.pas.proofs.AnswerLaws.{told, floors-gain-refused, floors-gain-answered}
use Rattle.pas.proofs.pas_gain_floors.Goals as goal

pub returns : goal.returns
returns c =
    let start = c.args in
    rw (c.tell.ensures.told, c.tell.ensures.written)
    (told c.gain_floors.result start.gain.now (λ n a. GainFloorsGiven start.floors.now start.played.now start.truth.now start.bidder start.worth start.gain.now n a)
    (λ v e. floors-gain-answered start.floors.now start.played.now start.truth.now start.bidder start.worth start.gain.now (record { refusal = 0; gain = v }) (ap gained_in (sym e) ∙ c.gain_floors.ensures) refl v refl)
    (λ x e. floors-gain-refused start.floors.now start.played.now start.truth.now start.bidder start.worth start.gain.now (record { refusal = number_of x; gain = pos 0 }) (ap gained_in (sym e) ∙ c.gain_floors.ensures) (number_of-ne0 x)))
