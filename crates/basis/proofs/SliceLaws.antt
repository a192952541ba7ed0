-- A part of a slice that is written in one piece. Assumes nothing.
use Prim.Native.Nat.{ℕ, ◌+◌, ◌≤◌}
use borrow.Rule.Slice.PartMut.{put_mid}
use mathlib.Core.List.{List}
use mathlib.Core.Path.{◌≡◌, sym}
use Rattle.std.proofs.Common.{length, append_assoc}
use Rattle.std.proofs.lemmas.List.{drop-drop}
use Rattle.std.proofs.lemmas.List.Edits.{sets, sets-eq}

-- values written to the part from an index on are a run of stores there
pub put_mid-sets : {X : Type 0} (whole part : List X) (at k : ℕ) → k ≡ length part → at + length part ≤ length whole → put_mid at k whole part ≡ sets whole at part
put_mid-sets whole part at k size room = rw (drop-drop k at whole, size, ← append_assoc) (sym (sets-eq part whole at room))
