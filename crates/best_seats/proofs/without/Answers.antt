-- `best_seats::without` meets its contract: the bits of the first that the second lacks. Assumes nothing.
use mathlib.Core.Path.{◌≡◌, ◌∙◌, sym}
use Prim.Native.Nat.{ℕ, ◌-◌}
use mathlib.Core.Bool.{not, ◌&&◌}
use lib.Bits.{bit_and}
use native.Mathlib.Omega.{arith}
use Rattle.basis.specs.Bits.{bit_of}
use Rattle.best_seats.proofs.WordLaws.{bit_and_not}
use Rattle.basis.proofs.TestLaws.{and_parts}
use Rattle.best_seats.proofs.SeatLaws.{bits_low}
use Rattle.best_seats.proofs.without.Goals as goal

pub returns : goal.returns
returns c =
    let a = c.args.free.0 in
    let each : (i : ℕ) → bit_of (bit_and a (18446744073709551615 - c.args.shut.0)) i ≡ (bit_of a i && not (bit_of c.args.shut.0 i)) =
    λ i. bit_and_not a c.args.shut.0 i (omega arith) (omega arith) in
    (each, λ w l. bits_low _ a w l (λ i e. (and_parts _ _ (sym (each i) ∙ e)).0))
