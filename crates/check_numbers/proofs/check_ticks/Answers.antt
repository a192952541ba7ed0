-- `check_numbers::check_ticks` meets its contract: the number is 27 where any bid is no multiple of the tick, and every bid is one
-- of 1. Assumes nothing.
use mathlib.Core.Path.{sym, ◌∙◌}
use Rattle.check_numbers.proofs.RefusalLaws.{ticks-number, no_ticks}
use Rattle.check_numbers.proofs.check_ticks.Goals as goal

pub returns-then-tick-eq1 : goal.returns-then-tick-eq1
returns-then-tick-eq1 c = sym (no_ticks _ _ (sym c.requires.2 ∙ c.if-tick-eq1.true))

pub returns-then-any_bid_off_tick : goal.returns-then-any_bid_off_tick
returns-then-any_bid_off_tick c = ticks-number _ _ (sym c.if-any_bid_off_tick.true ∙ c.any_bid_off_tick.ensures)

pub returns : goal.returns
returns c = ticks-number _ _ (sym c.if-any_bid_off_tick.false ∙ c.any_bid_off_tick.ensures)
