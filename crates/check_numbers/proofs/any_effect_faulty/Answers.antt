use Prim.Native.Nat.{ℕ, ◌+◌, ◌*◌}
use mathlib.Core.Bool.{◌||◌}
use mathlib.Core.Path.{refl, ◌∙◌, ap, ap₂}
use native.Mathlib.Numerals.{add-one}
use native.Mathlib.Omega.{arith}
use lib.Dec.{eqb, ltb}
use Rattle.basis.specs.Bytes.{word32_at}
use Rattle.basis.specs.Tests.{any_below}
use Rattle.sheet.specs.Sheet.{effect_field}
use Rattle.check_numbers.proofs.any_effect_faulty.Goals as goal

pub loop-k-init : goal.loop-k-init
unfolding any_below
loop-k-init c = record { any = refl; last = refl }

pub loop-k-preserved : goal.loop-k-preserved
unfolding any_below effect_field
loop-k-preserved c =
    let v = c.loop-k.invariant in
    let k = c.loop-k.k in
    let effect = c.word32-effect.ensures ∙ ap (λ (start : ℕ). word32_at c.args.sheet.now (start + 4 * k)) c.requires.0 in
    let fault = ap₂ (λ (effect before : ℕ). eqb effect 0 || ltb before effect) effect v.last in
    record { any = rw add-one (ap₂ ◌||◌ v.any fault); last = rw add-one effect }
