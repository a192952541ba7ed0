-- `bidder_sets::either` meets its contract: the or of the two words. Assumes nothing.
use Prim.Native.Nat.{◌-◌}
use Rattle.basis.proofs.BitLaws.{bit_of-bit_or}
use Rattle.bidder_sets.proofs.either.Goals as goal

pub returns : goal.returns
returns c = let a = c.args in λ b. bit_of-bit_or a.set.0 a.more.0 (b - 1)
