-- An element of the first so many of a list is the list's. Assumes nothing.
use Prim.Native.Nat.{ℕ, ◌<◌}
use mathlib.Core.List.{List}
use mathlib.Core.Path.{◌≡◌}
use native.Mathlib.Omega.{arith}
use lib.ListN.{length, get_or, take, length-take}
use Rattle.std.proofs.lemmas.List.{get_or-take}

module _ {A : Type 0} (n : ℕ) (l : List A) (i : ℕ) (inside : i < length (take n l)) where
  pub taken_below : i < n
  taken_below = omega (arith, length-take n l)

  pub taken_is : (d : A) → get_or (take n l) i d ≡ get_or l i d
  taken_is d = get_or-take n l i d taken_below
