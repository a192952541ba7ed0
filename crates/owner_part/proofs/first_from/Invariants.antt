-- `owner_part::first_from` meets its contract: below `low` every owner is lower than the one sought, from `high` on none is, and where the two meet is
-- the first from it. The owners do not fall, so the middle one tells of all on one side of it. Assumes nothing.
use Prim.Native.Nat.{ℕ, ◌-◌, ◌<◌, ◌≤◌}
use Rattle.sheet.specs.Sheet.{owner_field}
use Rattle.owner_part.proofs.first_from.Given as goal

abbrev pub invariant-loop-low : goal.invariant-loop-low
invariant-loop-low l =
    (l.low ≤ l.high) × (l.high ≤ l.constraints) × ((j : ℕ) → j < l.low → owner_field l.sheet j < l.owner)
    × ((j : ℕ) → l.high ≤ j → j < l.constraints → l.owner ≤ owner_field l.sheet j)

abbrev pub decreases-loop-low : goal.decreases-loop-low
decreases-loop-low l = l.high - l.low
