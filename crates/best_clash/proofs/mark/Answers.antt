-- `best_clash::mark` meets its contract: a store of the or at one index. Assumes nothing.
use mathlib.Core.Path.{◌∙◌}
use native.Mathlib.Omega.{arith}
use lib.ListN.{length-set}
use Rattle.basis.proofs.BitLaws.{store_or}
use Rattle.best_clash.proofs.mark.Goals as goal

pub returns : goal.returns
returns c =
    let a = c.args in
    let size = c.requires.0 in
    let low = c.requires.1 in (
      length-set a.table.now a.line.0 _ ∙ size,
      λ x y inside. store_or a.table.now a.line.0 a.shut.0 x y (omega arith),
    )
