-- `greedy_links::mark` meets its contract: one store is one mark more. Assumes nothing.
use Rattle.greedy_links.proofs.LinkLaws.{mark_more}
use Rattle.greedy_links.proofs.mark.Goals as goal

pub returns : goal.returns
returns c = λ x. mark_more c.args.marks.now c.args.owner.0 x c.requires
