-- `downward::missing_from` meets its contract: the set's slots below the last, each shifted to the next one, without those that the set has.
-- Assumes nothing.
use native.Mathlib.Omega.{arith}
use lib.Pow.{pow_mono}
use Rattle.downward.proofs.ListedLaws.{missing_bits}
use Rattle.downward.proofs.missing_from.Goals as goal

pub overflow_sub-asking : goal.overflow_sub-asking
overflow_sub-asking c = omega (arith, pow_mono c.requires.0, pow_mono c.requires.1)

pub returns : goal.returns
returns c =
    λ k l. missing_bits c.args.had.0 c.args.slots k c.requires.1 l
