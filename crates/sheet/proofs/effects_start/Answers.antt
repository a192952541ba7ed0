-- `sheet::effects_start` meets its contract: the version decides. Assumes nothing.
use mathlib.Core.Path.{sym, ◌∙◌}
use Rattle.sheet.proofs.HeaderLaws.{start_two, start_other}
use Rattle.sheet.proofs.effects_start.Goals as goal

pub returns-then-word16-eq2 : goal.returns-then-word16-eq2
returns-then-word16-eq2 c = sym (start_two _ (sym c.word16.ensures.0 ∙ c.if-word16-eq2.true))

pub returns : goal.returns
returns c = sym (start_other _ (λ e. c.if-word16-eq2.false (c.word16.ensures.0 ∙ e)))
