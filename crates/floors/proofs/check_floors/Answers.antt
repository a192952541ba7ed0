-- `floors::check_floors` meets its contract: its two tests are the definition's, in its order. Assumes nothing.
use mathlib.Core.Bool.{true, false}
use mathlib.Core.Path.{sym, ◌∙◌}
use Rattle.floors.proofs.FloorLaws.{any_too_high, thirty, past_thirty}
use Rattle.floors.proofs.check_floors.Goals as goal

pub returns-then-floors-slots : goal.returns-then-floors-slots
returns-then-floors-slots c = sym (thirty _ _ c.if-floors-slots.true)

pub returns-then-some_too_high : goal.returns-then-some_too_high
returns-then-some_too_high c =
    sym (past_thirty _ _ true c.if-floors-slots.false (sym (any_too_high _) ∙ sym c.some_too_high.ensures ∙ c.if-some_too_high.true))

pub returns : goal.returns
returns c = sym (past_thirty _ _ false c.if-floors-slots.false (sym (any_too_high _) ∙ sym c.some_too_high.ensures ∙ c.if-some_too_high.false))
