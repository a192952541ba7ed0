use Prim.Native.Nat.{ℕ, ◌<◌}
use mathlib.Core.Bool.{◌||◌}
use mathlib.Core.Path.{◌≡◌, ◌∙◌, ap₂, subst}
use native.Mathlib.Nat.{le_antisymm}
use native.Mathlib.Numerals.{add-one}
use native.Mathlib.Omega.{arith}
use lib.Bits.{or_lt}
use lib.ListN.{get_or}
use Rattle.basis.specs.Bits.{bit_of}
use Rattle.basis.specs.Tests.{any_below}
use Rattle.basis.proofs.BitLaws.{bit_of-bit_or, bit_zero}
use Rattle.downward.specs.EngineListed.{misses_next}
use Rattle.downward.proofs.ListedLaws.{missing_some}
use Rattle.downward.proofs.any_missing.Goals as goal

pub loop-had-init : goal.loop-had-init
unfolding any_below
loop-had-init c = record { fits = omega arith; told = λ k l. bit_zero k }

pub loop-had-preserved : goal.loop-had-preserved
unfolding any_below
loop-had-preserved c =
    let v = c.loop-had.invariant in
    rw (add-one c.loop-had.had-index)
    (record {
      fits = or_lt 16 _ _ v.fits (omega (arith, c.missing_from-more.type_inv));
      told = λ k l. bit_of-bit_or _ _ k ∙ ap₂ ◌||◌ (v.told k l) (c.missing_from-more.ensures k l);
    })

pub returns : goal.returns
returns c =
    let v = c.loop-had.invariant in
    c.ne.ensures
    ∙ missing_some _ _ _ _ v.fits
    (subst
    (λ (n : ℕ). (k : ℕ) → k < 16 → bit_of c.loop-had.missing.0 k ≡ any_below (λ part. misses_next c.args.slots (get_or c.args.listed.now part 0) k) n)
    (le_antisymm c.loop-had.auto.had-index-end c.loop-had-test.false) v.told)
