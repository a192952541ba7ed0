-- `loss_bound::note` meets its contract: a pair that is there leaves all as it was, and a new one is set in the owner's word and counted once more for the
-- other. Assumes nothing.
use mathlib.Core.Path.{sym, ◌∙◌}
use Rattle.loss_bound.proofs.NamingLaws.{noted_new}
use Rattle.loss_bound.proofs.note.Goals as goal

pub returns : goal.returns
returns c =
    let p = c.requires in
    λ n rival own named h.
    noted_new n rival _ _ h _ _ p.0 own p.2 named _ (sym c.has.ensures ∙ c.if-has.false) c.with-more.ensures
