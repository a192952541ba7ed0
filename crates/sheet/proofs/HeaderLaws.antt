-- What the version decides: where the effects start, and the tick. Assumes nothing.
use Prim.Native.Nat.{ℕ, ◌≤◌}
use borrow.Author.Tests.{eq-eqb, ne_eqb}
use mathlib.Core.Bool.{Bool, true, false, cond}
use mathlib.Core.List.{List}
use mathlib.Core.Path.{◌≡◌, ap, ap₂}
use native.Mathlib.Omega.{arith}
use lib.Dec.{eqb}
use Rattle.basis.specs.Bytes.{word32_at}
use Rattle.sheet.specs.Sheet.{version, tick_field, effects_start}

-- in version 2
pub start_two : (s : List ℕ) → version s ≡ 2 → effects_start s ≡ 13
unfolding effects_start
start_two s e = ap (λ (t : Bool). cond t 13 9) (eq-eqb (version s) 2 e)

pub tick_two : (s : List ℕ) → version s ≡ 2 → tick_field s ≡ word32_at s 9
unfolding tick_field
tick_two s e = ap (λ (t : Bool). cond t (word32_at s 9) 1) (eq-eqb (version s) 2 e)

-- and in any other
pub start_other : (s : List ℕ) → (version s ≡ 2 → ⊥) → effects_start s ≡ 9
unfolding effects_start
start_other s h = ap (λ (t : Bool). cond t 13 9) (ne_eqb (version s) 2 h)

pub tick_other : (s : List ℕ) → (version s ≡ 2 → ⊥) → tick_field s ≡ 1
unfolding tick_field
tick_other s h = ap (λ (t : Bool). cond t (word32_at s 9) 1) (ne_eqb (version s) 2 h)

-- the header has 9 bytes at least and 13 at most
one_of_two : (t : Bool) → (9 ≤ cond t 13 9) × (cond t 13 9 ≤ 13)
one_of_two true = (omega arith, omega arith)
one_of_two false = (omega arith, omega arith)

pub start_least : (s : List ℕ) → 9 ≤ effects_start s
unfolding effects_start
start_least s = (one_of_two (eqb (version s) 2)).0

pub start_most : (s : List ℕ) → effects_start s ≤ 13
unfolding effects_start
start_most s = (one_of_two (eqb (version s) 2)).1

-- sheets of one version and, in version 2, with the same 4 bytes after the counts
pub start_same : (s t : List ℕ) → version s ≡ version t → effects_start s ≡ effects_start t
unfolding effects_start
start_same s t e = ap (λ (v : ℕ). cond (eqb v 2) 13 9) e

pub tick_same : (s t : List ℕ) → version s ≡ version t → word32_at s 9 ≡ word32_at t 9 → tick_field s ≡ tick_field t
unfolding tick_field
tick_same s t e w = ap₂ (λ (v x : ℕ). cond (eqb v 2) x 1) e w
