-- How far an accepted sheet's bytes reach: its counts with its length, and a header of 9 bytes at least. Assumes nothing.
use Prim.Native.Nat.{ℕ, ◌≤◌}
use mathlib.Core.List.{List}
use Rattle.sheet.specs.Sheet.{effects_start}
use Rattle.sheet.specs.Refusal.{Accepted}
use Rattle.sheet.specs.Accepted.{Counts}
use Rattle.sheet.proofs.HeaderLaws.{start_least}
use Rattle.sheet.proofs.AcceptedLaws.{accepted-sheet}

pub room : (s : List ℕ) → Accepted s → Counts s × (9 ≤ effects_start s)
room s a = ((accepted-sheet s a).counts, start_least s)
