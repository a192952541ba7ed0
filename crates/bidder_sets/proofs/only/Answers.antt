-- `bidder_sets::only` meets its contract: one bit. Assumes nothing.
use Prim.Native.Nat.{◌-◌}
use mathlib.Core.Path.{◌∙◌}
use native.Mathlib.Omega.{arith}
use Rattle.basis.proofs.BitLaws.{bit_single}
use Rattle.bidder_sets.proofs.SetLaws.{same_bit}
use Rattle.bidder_sets.proofs.only.Goals as goal

pub returns : goal.returns
returns c =
    let a = c.args in
    λ b some most. bit_single (a.bidder.0 - 1) 64 (b - 1) (omega arith) ∙ same_bit b a.bidder.0 some c.requires.0
