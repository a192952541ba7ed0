-- `bidder_sets::but` meets its contract: the or of the two without the second. Assumes nothing.
use Prim.Native.Nat.{◌-◌}
use Rattle.basis.proofs.BitLaws.{bit_without}
use Rattle.bidder_sets.proofs.but.Goals as goal

pub returns : goal.returns
returns c = let a = c.args in λ b. bit_without a.set.0 a.others.0 (b - 1)
