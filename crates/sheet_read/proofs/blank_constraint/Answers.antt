-- `sheet_read::blank_constraint` meets its contract: three zero bytes are of the kind that has an own slot alone. Assumes nothing.
use mathlib.Core.Path.{◌∙◌, refl}
use Rattle.sheet.specs.Round.{bidder}
use Rattle.sheet_read.proofs.KindLaws.{kind_own}
use Rattle.sheet_read.proofs.blank_constraint.Goals as goal

pub returns : goal.returns
returns c = λ i. record { owner = bidder 0; kind = (c.kind_of-kind.ensures ∙ kind_own 0 0 0 refl) i }
