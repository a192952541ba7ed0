use Prim.Native.Nat.{ℕ, ◌+◌, ◌*◌, ◌-◌, ◌/◌}
use mathlib.Core.List.{List}
use mathlib.Core.Path.{◌≡◌, sym, ap}
use native.Mathlib.Omega.{arith}
use Rattle.basis.specs.Bytes.{byte_at}
use Rattle.sheet.specs.Sheet.{constraints_start, owner_field}
use Rattle.owner_part.proofs.OwnerLaws.{owners_rise, first_is}
use Rattle.owner_part.proofs.first_from.Goals as goal

-- the byte that a turn reads is the middle constraint's owner
owner_read : (s : List ℕ) (start k : ℕ) → start ≡ constraints_start s → byte_at s (start + 4 * k) ≡ owner_field s k
unfolding owner_field
owner_read s start k e = ap (λ (x : ℕ). byte_at s (x + 4 * k)) e

pub loop-low-preserved-then-from-owner : goal.loop-low-preserved-then-from-owner
loop-low-preserved-then-from-owner c =
    let l = c.loop-low in
    let s = c.args.sheet.now in
    let middle = l.low + (l.high - l.low) / 2 in
    let here = owner_read s c.args.start middle c.requires.2 in
    let count = c.requires.3 in (
      omega arith,
      omega arith,
      (λ j h. let up = owners_rise s c.requires.0 c.requires.1 j middle (omega arith) (omega arith) in omega arith),
      l.invariant.3,
    )

pub loop-low-preserved : goal.loop-low-preserved
loop-low-preserved c =
    let l = c.loop-low in
    let s = c.args.sheet.now in
    let middle = l.low + (l.high - l.low) / 2 in
    let here = owner_read s c.args.start middle c.requires.2 in
    let count = c.requires.3 in (
      omega arith,
      omega arith,
      l.invariant.2,
      (λ j h m. let up = owners_rise s c.requires.0 c.requires.1 middle j (omega arith) (omega arith) in omega arith),
    )

pub returns : goal.returns
returns c =
    let l = c.loop-low in
    let count = c.requires.3 in (
      sym (first_is c.args.sheet.now c.args.owner l.low (omega arith) l.invariant.2 (λ j h m. l.invariant.3 j (omega arith) (omega arith))),
      omega arith,
    )
