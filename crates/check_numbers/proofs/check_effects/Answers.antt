-- `check_numbers::check_effects` meets its contract: the number is 8 where any effect is at fault. Assumes nothing.
use mathlib.Core.Path.{sym, ◌∙◌}
use Rattle.check_numbers.proofs.RefusalLaws.{effects-number}
use Rattle.check_numbers.proofs.check_effects.Goals as goal

pub returns-then-any_effect_faulty : goal.returns-then-any_effect_faulty
returns-then-any_effect_faulty c = effects-number _ _ (sym c.if-any_effect_faulty.true ∙ c.any_effect_faulty.ensures)

pub returns : goal.returns
returns c = effects-number _ _ (sym c.if-any_effect_faulty.false ∙ c.any_effect_faulty.ensures)
