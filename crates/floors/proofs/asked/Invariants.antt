-- `floors::asked` meets its contract: after k turns the array is the row of what the first k floors ask, with zeros after it. Assumes nothing.
use Prim.Native.Nat.{ℕ}
use mathlib.Core.List.{List}
use mathlib.Core.Path.{◌≡◌}
use lib.ListN.{get_or}
use Rattle.basis.specs.Rows.{padded}
use Rattle.choice.specs.Critical.{floor_asks}
use Rattle.floors.proofs.asked.Given as goal

-- what the floor at an index asks
abbrev pub asks_at : (tick : ℕ) → List ℕ → ℕ → ℕ
asks_at tick floors k = floor_asks tick (get_or floors k 0)

abbrev pub invariant-loop-k : goal.invariant-loop-k
invariant-loop-k l = l.asks ≡ padded (asks_at l.tick l.floors) l.k 16 0
