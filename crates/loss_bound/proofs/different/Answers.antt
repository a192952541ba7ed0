-- `loss_bound::different` meets its contract: in version 2, and where they rise, the conditions in order are all constraints; others are put in
-- order and counted. Assumes nothing.
use mathlib.Core.Path.{sym, ◌∙◌, ap}
use native.Mathlib.Omega.{arith}
use lib.ListN.{length}
use Rattle.basis.proofs.RowLaws.{length-row}
use Rattle.sheet.proofs.AcceptedLaws.{accepted-sheet}
use Rattle.canonical.proofs.OrderedLaws.{conditions-rising, conditions_two}
use Rattle.loss_bound.proofs.different.Goals as goal

pub word16-requires : goal.word16-requires
word16-requires c = let header = (accepted-sheet _ c.requires.0).form.header in omega arith

pub returns-then-word16-eq2 : goal.returns-then-word16-eq2
returns-then-word16-eq2 c =
    let p = c.requires in
    p.2
    ∙ sym (ap length (conditions_two _ p.0 (sym c.word16.ensures.0 ∙ c.if-word16-eq2.true)) ∙ length-row _ _)

pub returns-then-rises : goal.returns-then-rises
returns-then-rises c =
    let p = c.requires in
    p.2 ∙ sym (ap length (conditions-rising _ p.0 (c.rises.ensures c.if-rises.true)) ∙ length-row _ _)
