-- The part holds exactly one bidder's conditions, all of them, in sheet order. Before the part owners are lower and behind it they are higher, so the
-- bidder's conditions are those in between; they stand one after another, 4 bytes each, and so they are a part of the sheet's bytes. Assumes nothing.
use Prim.Native.Nat.{ℕ, zero, suc, ◌+◌, ◌*◌, ◌-◌, ◌<◌, ◌≤◌}
use borrow.Author.Tests.{eq-eqb, ne_eqb}
use mathlib.Core.Bool.{Bool, cond}
use mathlib.Core.List.{List, [], ◌++◌, append-nil}
use mathlib.Core.Path.{◌≡◌, sym, ◌∙◌, ap, ap₂}
use native.Mathlib.Omega.{arith}
use lib.Dec.{eqb}
use lib.ListN.{length, take, drop, length-drop}
use lib.Seq.{drop-drop, take-add, length-take-le}
use Rattle.basis.specs.Rows.{joined}
use Rattle.basis.proofs.BytesLaws.{four_stand}
use Rattle.sheet.specs.Sheet.{
  version,
  constraint_count,
  constraints_start,
  owner_field,
  own_slot_field,
  other_field,
  other_slot_field,
}
use Rattle.sheet.specs.Refusal.{Accepted}
use Rattle.sheet.proofs.AcceptedLaws.{accepted-sheet}
use Rattle.owner_part.specs.OwnerPart.{first_from, bytes_before, part_length, constraint_bytes, constraints_of}
use Rattle.owner_part.proofs.OwnerLaws.{first-at-most, before-first, from_first, first_no_later}

-- what each condition adds to the conditions of i
abbrev adds : List ℕ → ℕ → ℕ → List ℕ
adds s i k = cond (eqb (owner_field s k) i) (constraint_bytes s k) []

own_adds : (s : List ℕ) (i k : ℕ) → owner_field s k ≡ i → adds s i k ≡ constraint_bytes s k
own_adds s i k e = ap (λ (t : Bool). cond t (constraint_bytes s k) []) (eq-eqb (owner_field s k) i e)

other_adds : (s : List ℕ) (i k : ℕ) → (owner_field s k ≡ i → ⊥) → adds s i k ≡ []
other_adds s i k h = ap (λ (t : Bool). cond t (constraint_bytes s k) []) (ne_eqb (owner_field s k) i h)

append-none : (xs ys : List ℕ) → ys ≡ [] → xs ++ ys ≡ xs
append-none xs ys e = ap (λ (l : List ℕ). xs ++ l) e ∙ append-nil xs

-- lists from a on that are empty add nothing
joined_no_more : (f : ℕ → List ℕ) (a d : ℕ) → ((k : ℕ) → a ≤ k → k < a + d → f k ≡ []) → joined f (a + d) ≡ joined f a
unfolding joined
joined_no_more f a zero none = ap (joined f) (let e : a + 0 ≡ a = omega arith in e)
joined_no_more f a (suc d) none =
    ap (joined f) (let e : a + suc d ≡ suc (a + d) = omega arith in e)
    ∙ append-none (joined f (a + d)) (f (a + d)) (none (a + d) (omega arith) (omega arith))
    ∙ joined_no_more f a d (λ k l m. none k l (omega arith))

-- a bidder that owns none has none
pub none_of_its_own : (s : List ℕ) (i : ℕ) → ((k : ℕ) → k < constraint_count s → owner_field s k ≡ i → ⊥) → constraints_of s i ≡ []
unfolding constraints_of joined
none_of_its_own s i nowhere =
    ap (joined (adds s i)) (let e : constraint_count s ≡ 0 + constraint_count s = omega arith in e)
    ∙ joined_no_more (adds s i) 0 (constraint_count s) (λ k l m. other_adds s i k (nowhere k (omega arith)))

module _ (s : List ℕ) (ok : Accepted s) where
  -- a condition's bytes stand within the sheet
  within : (k : ℕ) → k < constraint_count s → constraints_start s + 4 * k + 4 ≤ length s
  within k l = let whole = (accepted-sheet s ok).counts.whole in omega arith

  constraint_stands : (k : ℕ) → k < constraint_count s → take 4 (drop (constraints_start s + 4 * k) s) ≡ constraint_bytes s k
  unfolding constraint_bytes owner_field own_slot_field other_field other_slot_field
  constraint_stands k l = four_stand s (constraints_start s + 4 * k) (within k l)

  -- d conditions of i from index a on, with none before them
  stretch : (i a d : ℕ) → a + d ≤ constraint_count s → ((k : ℕ) → k < a → owner_field s k ≡ i → ⊥) → ((k : ℕ) → a ≤ k → k < a + d → owner_field s k ≡ i) →
      joined (adds s i) (a + d) ≡ take (4 * d) (drop (constraints_start s + 4 * a) s)
  unfolding joined
  stretch i a zero most none all =
      ap (joined (adds s i)) (let e : a + 0 ≡ 0 + a = omega arith in e)
      ∙ joined_no_more (adds s i) 0 a (λ k l m. other_adds s i k (none k (omega arith)))
  stretch i a (suc d) most none all =
      let start = constraints_start s + 4 * a in
      let step : a + suc d ≡ suc (a + d) = omega arith in
      let size : 4 * suc d ≡ 4 * d + 4 = omega arith in
      let place : start + 4 * d ≡ constraints_start s + 4 * (a + d) = omega arith in
      ap (joined (adds s i)) step
      ∙ ap₂ ◌++◌
      (stretch i a d (omega arith) none (λ k l m. all k l (omega arith)))
      (own_adds s i (a + d) (all (a + d) (omega arith) (omega arith))
      ∙ sym (constraint_stands (a + d) (omega arith))
      ∙ ap (λ (n : ℕ). take 4 (drop n s)) (sym place)
      ∙ ap (take 4) (sym (drop-drop (4 * d) start s)))
      ∙ sym (take-add (4 * d) 4 (drop start s))
      ∙ ap (λ (n : ℕ). take n (drop start s)) (sym size)

  -- so the bytes from the first constraint of i or a higher owner to the first of a higher one are the bidder's constraints,
  module _ (two : version s ≡ 2) (i : ℕ) where
    bytes : ℕ
    bytes = 4 * (first_from s (suc i) - first_from s i)

    held : take bytes (drop (bytes_before s i) s) ≡ constraints_of s i
    unfolding bytes_before constraints_of bytes
    held =
        let a = first_from s i in
        let b = first_from s (suc i) in
        let c = constraint_count s in
        let order = first_no_later s ok two i in
        let most = first-at-most s (suc i) in
        let up-to-b : a + (b - a) ≡ b = omega arith in
        let up-to-c : b + (c - b) ≡ c = omega arith in
        sym
        (ap (joined (adds s i)) (sym up-to-c)
        ∙ joined_no_more (adds s i) b (c - b)
        (λ k l m. other_adds s i k (λ e. let h = from_first s ok two (suc i) k l (omega arith) in absurd (omega arith)))
        ∙ ap (joined (adds s i)) (sym up-to-b)
        ∙ stretch i a (b - a) (omega arith)
        (λ k l e. let h = before-first s i k l in absurd (omega arith))
        (λ k l m.
        let low = from_first s ok two i k l (omega arith) in
        let high = before-first s (suc i) k (omega arith) in
        omega arith))

    -- which are as many as there are of them,
    pub part_bytes : part_length s i ≡ 4 * (first_from s (suc i) - first_from s i)
    unfolding part_length bytes_before bytes
    part_bytes =
        let order = first_no_later s ok two i in
        let most = first-at-most s (suc i) in
        let whole = (accepted-sheet s ok).counts.whole in
        let rest = length-drop (constraints_start s + 4 * first_from s i) s in
        sym (ap length held) ∙ length-take-le (4 * (first_from s (suc i) - first_from s i)) (drop (constraints_start s + 4 * first_from s i) s) (omega arith)

    -- and the part holds just these
    pub part-holds : take (part_length s i) (drop (bytes_before s i) s) ≡ constraints_of s i
    unfolding bytes
    part-holds = ap (λ (n : ℕ). take n (drop (bytes_before s i) s)) part_bytes ∙ held
