-- `share_page::read_sets` meets its contract: after each turn one set more is read, and the number follows from what is then known. Assumes nothing.
use Rattle.share_page.proofs.SetsLaws.{SetsRead}
use Rattle.share_page.proofs.read_sets.Given as goal

abbrev pub invariant-loop-i : goal.invariant-loop-i
invariant-loop-i l = SetsRead l.n l.sets l.table l.own l.at l.i
