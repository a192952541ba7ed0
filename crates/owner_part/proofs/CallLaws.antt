-- The call's number, way by way, what a call without one is known to have, and what the answers are then. Assumes nothing.
use Prim.Native.Nat.{ℕ, zero, suc, ◌+◌, ◌<◌, ◌≤◌}
use borrow.Author.Tests.{eqb-false, ltb-false}
use mathlib.Core.Bool.{◌||◌}
use mathlib.Core.List.{List}
use mathlib.Core.Logic.{⊎_elim}
use mathlib.Core.Path.{◌≡◌, refl, sym, ◌∙◌, ap, subst}
use native.Mathlib.Omega.{arith}
use lib.Dec.{eqb, ltb}
use lib.ListN.{length}
use Rattle.basis.proofs.FirstLaws.{or_else-none, or_else_left, when_none}
use Rattle.basis.proofs.TestLaws.{or_none}
use Rattle.sheet.specs.Sheet.{version, bidder_count}
use Rattle.sheet.specs.Refusal.{refusal_of, Accepted}
use Rattle.sheet.proofs.AcceptedLaws.{accepted-sheet}
use Rattle.owner_part.specs.OwnerPart.{call_refusal, part_refusal, bytes_before, part_length, Bounds, bounds_for, bounds_of, before_for, before_of}
use Rattle.owner_part.proofs.OwnerLaws.{first-at-most, first_no_later}
use Rattle.owner_part.proofs.HeldLaws.{part_bytes}

pub by_check : (s : List ℕ) (i k : ℕ) → k ≡ refusal_of s → (k ≡ 0 → ⊥) → k ≡ part_refusal s i
unfolding part_refusal
by_check s i k e h = e ∙ sym (or_else_left (refusal_of s) _ (λ z. h (e ∙ z)))

-- what a call that is not refused is known to have
pub record Answered (s : List ℕ) (i : ℕ) : Type 0 where
  pub accepted : Accepted s
  pub two : version s ≡ 2
  pub some : 0 < i
  pub most : i ≤ bidder_count s

pub answered : (s : List ℕ) (i : ℕ) → part_refusal s i ≡ 0 → Answered s i
unfolding part_refusal call_refusal
answered s i e =
    let parts = or_else-none (refusal_of s) _ e in
    let one = when_none 28 (eqb (version s) 1) _ parts.1 in
    let number = when_none 15 (eqb i 0 || ltb (bidder_count s) i) 0 one.1 in
    let range = or_none (eqb i 0) (ltb (bidder_count s) i) number.0 in
    record {
      accepted = parts.0;
      two =
          ⊎_elim
          (λ (v : version s ≡ 1). absurd (eqb-false (version s) 1 one.0 v))
          (λ (v : version s ≡ 2). v)
          (accepted-sheet s parts.0).form.known;
      some = (let h = eqb-false i 0 range.0 in omega arith);
      most = ltb-false (bidder_count s) i range.1;
    }

-- a refused call's answers,
module _ (s : List ℕ) (i k : ℕ) (number : k ≡ part_refusal s i) (refused : k ≡ 0 → ⊥) where
  pub refused-bounds : record { refusal = k; start = 0; length = 0 } ≡ bounds_of s i
  unfolding bounds_of bounds_for
  refused-bounds = by_cases k refused ∙ ap (λ (n : ℕ). bounds_for n s i) number
    where
      by_cases : (n : ℕ) → (n ≡ 0 → ⊥) → record { refusal = n; start = 0; length = 0 } ≡ bounds_for n s i
      by_cases zero h = absurd (h refl)
      by_cases (suc n) h = refl

-- and those of one that is not
module _ (s : List ℕ) (i : ℕ) (none : part_refusal s i ≡ 0) where
  pub given-bounds : bounds_of s i ≡ record { refusal = 0; start = bytes_before s i; length = part_length s i }
  unfolding bounds_of bounds_for
  given-bounds = ap (λ (n : ℕ). bounds_for n s i) none

  -- the part lies within the sheet
  pub part-within : bytes_before s i + part_length s i ≤ length s
  unfolding bytes_before
  part-within =
      let known = answered s i none in
      let order = first_no_later s known.accepted known.two i in
      let most = first-at-most s (suc i) in
      let whole = (accepted-sheet s known.accepted).counts.whole in
      let bytes = part_bytes s known.accepted known.two i in
      omega arith

-- the bounds lie within the sheet, refused or not
pub bounds_within : (s : List ℕ) (i : ℕ) (b : Bounds) → b ≡ bounds_of s i → b.start + b.length ≤ length s
unfolding bounds_of bounds_for
bounds_within s i b e = subst (λ (q : Bounds). q.start + q.length ≤ length s) (sym e) (by_cases (part_refusal s i) refl)
  where
    by_cases : (n : ℕ) → part_refusal s i ≡ n → (bounds_for n s i).start + (bounds_for n s i).length ≤ length s
    by_cases zero e = part-within s i e
    by_cases (suc n) e = omega arith

-- the call that only checks says the number and the start of these bounds
pub before-bounds : (s : List ℕ) (i : ℕ) (b : Bounds) → b ≡ bounds_of s i → record { refusal = b.refusal; bytes = b.start } ≡ before_of s i
unfolding bounds_of bounds_for before_of before_for
before-bounds s i b e = ap (λ (q : Bounds). record { refusal = q.refusal; bytes = q.start }) e ∙ by_cases (part_refusal s i)
  where
    by_cases : (n : ℕ) → record { refusal = (bounds_for n s i).refusal; bytes = (bounds_for n s i).start } ≡ before_for n s i
    by_cases zero = refl
    by_cases (suc n) = refl
