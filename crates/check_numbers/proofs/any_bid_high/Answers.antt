use Prim.Native.Nat.{ℕ, ◌+◌, ◌*◌}
use mathlib.Core.Bool.{◌||◌}
use mathlib.Core.Path.{refl, ◌∙◌, ap, ap₂}
use native.Mathlib.Numerals.{add-one}
use native.Mathlib.Omega.{arith}
use lib.Dec.{ltb}
use Rattle.basis.specs.Bytes.{word32_at}
use Rattle.basis.specs.Tests.{any_below}
use Rattle.sheet.specs.Sheet.{bid_field}
use Rattle.check_numbers.proofs.any_bid_high.Goals as goal

pub loop-i-init : goal.loop-i-init
unfolding any_below
loop-i-init c = refl

pub loop-i-preserved : goal.loop-i-preserved
unfolding any_below bid_field
loop-i-preserved c =
    let i = c.loop-i.i in
    let bid = c.word32-bid.ensures ∙ ap (λ (start : ℕ). word32_at c.args.sheet.now (start + 4 * i)) c.requires.0 in
    rw add-one (ap₂ ◌||◌ c.loop-i.invariant (ap (ltb 1_000_000_000) bid))
