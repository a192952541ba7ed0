-- `sheet::tick_of` meets its contract: the version decides whether four bytes are read. Assumes nothing.
use mathlib.Core.Path.{sym, ◌∙◌}
use native.Mathlib.Omega.{arith}
use Rattle.sheet.proofs.HeaderLaws.{start_two, tick_two, tick_other}
use Rattle.sheet.proofs.tick_of.Goals as goal

pub word32-requires : goal.word32-requires
word32-requires c =
    let start = start_two _ (sym c.word16.ensures.0 ∙ c.if-word16-eq2.true) in
    let p = c.requires in
    omega arith

pub returns-then-word16-eq2 : goal.returns-then-word16-eq2
returns-then-word16-eq2 c = c.word32.ensures ∙ sym (tick_two _ (sym c.word16.ensures.0 ∙ c.if-word16-eq2.true))

pub returns : goal.returns
returns c = sym (tick_other _ (λ e. c.if-word16-eq2.false (c.word16.ensures.0 ∙ e)))
