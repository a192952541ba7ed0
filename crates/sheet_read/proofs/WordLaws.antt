-- A constraint read as one number is the constraint of its four bytes: each is below 256, so divisions by powers of 256 leave them.
-- Assumes nothing.
use Prim.Native.Nat.{ℕ, ◌+◌, ◌*◌, ◌/◌, ◌%◌, ◌<◌}
use mathlib.Core.List.{List}
use mathlib.Core.Path.{◌≡◌}
use Rattle.basis.specs.Bytes.{byte_at, word32_at}
use Rattle.basis.proofs.BytesLaws.{word_bytes}
use Rattle.sheet.specs.Sheet.{constraints_start, owner_field, own_slot_field, other_field, other_slot_field}
use Rattle.sheet.specs.Round.{bidder, kind_of, constraint_field}
use Rattle.sheet.specs.declared.Kind.{Kind}

pub word_constraint : (s : List ℕ) → ((i : ℕ) → byte_at s i < 256) → (start w k : ℕ) (kind : Kind) →
    start ≡ constraints_start s → w ≡ word32_at s (start + 4 * k) → kind ≡ kind_of (w / 256 % 256) (w / 65536 % 256) (w / 16777216) →
    record { owner = bidder (w % 256); kind = kind } ≡ constraint_field s k
unfolding constraint_field owner_field own_slot_field other_field other_slot_field word32_at
word_constraint s low start w k kind p e h =
    let at = start + 4 * k in
    let bytes =
    word_bytes (byte_at s at) (byte_at s (at + 1)) (byte_at s (at + 2)) (byte_at s (at + 3))
    (low at) (low (at + 1)) (low (at + 2)) (low (at + 3)) in
    rw (h, e, bytes.0, bytes.1.0, bytes.1.1.0, bytes.1.1.1, p)
