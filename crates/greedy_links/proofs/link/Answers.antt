-- `greedy_links::link` meets its contract: two stores are one link more. Assumes nothing.
use native.Mathlib.Numerals.{add-one}
use Rattle.greedy_links.proofs.LinkLaws.{linked-next}
use Rattle.greedy_links.proofs.link.Goals as goal

pub returns : goal.returns
returns c = λ q chain h. rw add-one (linked-next q c.args.number c.args.chain.0 c.args.last.now c.args.links.now c.requires.2 c.requires.3 chain h)
