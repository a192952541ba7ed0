-- `bidder_sets::has` meets its contract: a digit that is not 0 is a bit that is set. Assumes nothing.
use Prim.Native.Nat.{◌-◌}
use Rattle.basis.proofs.BitLaws.{bit_set}
use Rattle.bidder_sets.proofs.has.Goals as goal

pub returns : goal.returns
returns c = let a = c.args in bit_set a.set.0 (a.bidder.0 - 1)
