-- What the quick pass over the constraints rests on: tests that each find nothing leave no rule broken, and a constraint's four bytes
-- are the remainders of the number that they make. Assumes nothing.
use Prim.Native.Nat.{ℕ, ◌+◌, ◌*◌, ◌/◌, ◌%◌, ◌<◌}
use mathlib.Core.Bool.{Bool, true, false, not, ◌&&◌, ◌||◌, beq, and-false, false≢true}
use mathlib.Core.List.{List}
use mathlib.Core.Path.{◌≡◌, refl, sym}
use lib.Dec.{eqb, ltb}
use Rattle.basis.specs.Bytes.{byte_at, word32_at}
use Rattle.basis.proofs.BytesLaws.{word_bytes}
use Rattle.basis.proofs.TestLaws.{or_none}
use Rattle.sheet.specs.Sheet.{bidder_count, slot_count, constraints_start, owner_field, own_slot_field, other_field, other_slot_field}
use Rattle.sheet.specs.Refusal.{in_range, fields_refusal, terms_refusal}
use Rattle.sheet.specs.Accepted.{fields_number, order_number}

-- all that the quick pass tests of one constraint
abbrev pub any_fault : (n m owner own other others : ℕ) → Bool
any_fault n m owner own other others =
    (((((((eqb owner 0 || ltb n owner) || ltb n other) || ltb m own) || ltb m others) || eqb other owner)
    || not (beq (eqb other 0) (eqb others 0)))
    || (eqb own 0 && eqb other 0))

-- the rules 12 and 13 over the three tests that they are made of
rest_none : (own other others : Bool) → not (beq other others) ≡ false → (own && other) ≡ false →
    ((other && not others || not other && others) ≡ false) × ((own && (other && others)) ≡ false)
rest_none own true true e f = (refl, f)
rest_none own true false e f = absurd (false≢true (sym e))
rest_none own false true e f = absurd (false≢true (sym e))
rest_none own false false e f = (refl, and-false own)

pub no_fault : (n m owner own other others : ℕ) → any_fault n m owner own other others ≡ false → fields_refusal n m owner own other others ≡ 0
unfolding fields_refusal in_range
no_fault n m owner own other others e =
    let a = or_none _ (eqb own 0 && eqb other 0) e in
    let b = or_none _ (not (beq (eqb other 0) (eqb others 0))) a.0 in
    let c = or_none _ (eqb other owner) b.0 in
    let d = or_none _ (ltb m others) c.0 in
    let f = or_none _ (ltb m own) d.0 in
    let g = or_none _ (ltb n other) f.0 in
    let h = or_none (eqb owner 0) (ltb n owner) g.0 in
    let r = rest_none (eqb own 0) (eqb other 0) (eqb others 0) b.1 a.1 in
    simp (h.0, h.1, g.1, f.1, d.1, c.1, r.0, r.1)

-- A constraint read as one number w:
module _ (s : List ℕ) (low : (i : ℕ) → byte_at s i < 256) (start w k : ℕ) (from : start ≡ constraints_start s) (read : w ≡ word32_at s (start + 4 * k)) where
  -- its four fields are what divisions leave of w,
  word_fields : (w % 256 ≡ owner_field s k) × ((w / 256 % 256 ≡ own_slot_field s k) × ((w / 65536 % 256 ≡ other_field s k) × (w / 16777216 ≡ other_slot_field s k)))
  unfolding owner_field own_slot_field other_field other_slot_field word32_at
  word_fields =
      let at = constraints_start s + 4 * k in
      rw (read, from) (
      word_bytes (byte_at s at) (byte_at s (at + 1)) (byte_at s (at + 2)) (byte_at s (at + 3))
      (low at) (low (at + 1)) (low (at + 2)) (low (at + 3)))

  -- so it is refused as they are,
  pub word_refusal : (n m : ℕ) → n ≡ bidder_count s → m ≡ slot_count s →
      fields_refusal n m (w % 256) (w / 256 % 256) (w / 65536 % 256) (w / 16777216) ≡ terms_refusal s k
  unfolding terms_refusal
  word_refusal n m p q = rw (word_fields.0, word_fields.1.0, word_fields.1.1.0, word_fields.1.1.1, p, q)

  -- and its place in the order is theirs
  pub word_number : fields_number (w % 256) (w / 256 % 256) (w / 65536 % 256) (w / 16777216) ≡ order_number s k
  unfolding order_number
  word_number = rw (word_fields.0, word_fields.1.0, word_fields.1.1.0, word_fields.1.1.1)
