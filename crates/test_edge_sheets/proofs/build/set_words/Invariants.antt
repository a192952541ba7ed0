use Rattle.test_edge_sheets.proofs.build.set_words.Given as goal

abbrev pub decreases-loop-left : goal.decreases-loop-left
decreases-loop-left l = l.left
