-- `above_terms::slots_above` meets its contract: the product is twice the number of pairs. Assumes nothing.
use Rattle.above_terms.proofs.AboveLaws.{slots_half}
use Rattle.above_terms.proofs.slots_above.Goals as goal

pub returns : goal.returns
returns c = slots_half c.args.m
