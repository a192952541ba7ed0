-- `greedy_links::link_all` meets its contract: after i turns the first i constraints are linked. Assumes nothing.
use Rattle.sheet.specs.Round.{round_of}
use Rattle.greedy_links.specs.EngineLinks.{Linked}
use Rattle.greedy_links.proofs.link_all.Given as goal

abbrev pub invariant-loop-i : goal.invariant-loop-i
invariant-loop-i l = Linked (round_of l.sheet) l.i l.last l.links
