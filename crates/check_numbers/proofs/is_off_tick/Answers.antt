-- `check_numbers::is_off_tick` meets its contract: a multiple of the tick is told by a multiplication (`multiple-told`), and with a tick of 2 at least
-- every product fits. Assumes nothing.
use Prim.Native.Nat.{ℕ, ◌*◌, ◌/◌}
use mathlib.Core.Bool.{not}
use mathlib.Core.Path.{◌∙◌, ap}
use native.Mathlib.Omega.{arith}
use lib.Dec.{eqb}
use Rattle.basis.proofs.NumberLaws.{multiple-told}
use Rattle.check_numbers.proofs.is_off_tick.Goals as goal

pub returns : goal.returns
returns c =
    let bid = c.args.bid in
    let tick = c.args.tick in
    ap (λ (share : ℕ). not (eqb (bid * share / 4294967296 * tick) bid)) c.requires.1
    ∙ ap not (multiple-told 4294967296 tick bid (omega arith) (let some = c.requires.0 in omega arith) (omega arith))
