use Prim.Native.Nat.{ℕ, ◌+◌, ◌*◌, ◌%◌}
use mathlib.Core.Bool.{not, ◌||◌}
use mathlib.Core.Path.{refl, ◌∙◌, ap, ap₂}
use native.Mathlib.Numerals.{add-one}
use native.Mathlib.Omega.{arith}
use lib.Dec.{eqb}
use Rattle.basis.specs.Bytes.{word32_at}
use Rattle.basis.specs.Tests.{any_below}
use Rattle.sheet.specs.Sheet.{bid_field}
use Rattle.check_numbers.proofs.any_bid_off_tick.Goals as goal

pub loop-tested-init : goal.loop-tested-init
unfolding any_below
loop-tested-init c = refl

pub loop-tested-preserved : goal.loop-tested-preserved
unfolding any_below bid_field
loop-tested-preserved c =
    let i = c.loop-tested.tested in
    let bid = c.word32-bid.ensures ∙ ap (λ (start : ℕ). word32_at c.args.sheet.now (start + 4 * i)) c.requires.0 in
    let off = c.is_off_tick-found.ensures ∙ ap₂ (λ (x t : ℕ). not (eqb (x % t) 0)) bid c.requires.2 in
    rw add-one (ap₂ ◌||◌ c.loop-tested.invariant off)
