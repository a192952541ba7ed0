-- `sheet_read::kind_of` meets its contract, by the laws of the three kinds: the last test that holds says which kind it is.
-- Assumes nothing.
use mathlib.Core.Path.{sym, ◌∙◌}
use Rattle.sheet_read.proofs.KindLaws.{kind_own, kind_other, kind_pair}
use Rattle.sheet_read.proofs.kind_of.Goals.{then-own-eq0, else-own-eq0}
use Rattle.sheet_read.proofs.kind_of.Goals as goal

pub returns-then-other-eq0 : goal.returns-then-other-eq0
returns-then-other-eq0 c = sym (kind_own _ _ _ c.if-other-eq0.true)

pub returns-else-other-eq0 : goal.returns-else-other-eq0
returns-else-other-eq0 c =
    elim c.if-own-eq0.branch [
      | then-own-eq0 w ↦ w.kind-is ∙ sym (kind_other _ _ _ c.if-other-eq0.false w.if-own-eq0.true)
      | else-own-eq0 w ↦ w.kind-is ∙ sym (kind_pair _ _ _ c.if-other-eq0.false w.if-own-eq0.false)
    ]
