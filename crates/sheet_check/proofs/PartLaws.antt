-- Part by part: a part that gives a number gives the sheet's, and one that gives none leaves it to the next. And what a sheet's first bytes say of
-- its version and its header. Assumes nothing.
use Prim.Native.Nat.{ℕ, suc, ◌-◌, ◌<◌, ◌≤◌}
use borrow.Author.Tests.{eqb-true, eq-eqb, ne_eqb, le-ltb}
use mathlib.Core.List.{List}
use mathlib.Core.Logic.{⊎_elim}
use mathlib.Core.Path.{◌≡◌, sym, ◌∙◌}
use native.Mathlib.Omega.{arith}
use lib.Dec.{eqb}
use lib.ListN.{length, take}
use lib.Seq.{take_all}
use Rattle.basis.specs.Bytes.{byte_at, word16_at, word32_at}
use Rattle.basis.specs.First.{or_else, first_over}
use Rattle.basis.proofs.FirstLaws.{or_else_left, or_else_right}
use Rattle.basis.proofs.TestLaws.{and_parts}
use Rattle.sheet.specs.Sheet.{version, bidder_count, slot_count, constraint_count, tick_field, effects_start}
use Rattle.sheet.specs.Refusal.{form_refusal, counts_refusal, effect_refusal, bid_refusal, tick_refusal, constraint_refusal, refusal_of}
use Rattle.sheet.specs.Accepted.{Counts}
use Rattle.sheet.proofs.HeaderLaws.{start_two, start_other, tick_other}
use Rattle.sheet.proofs.AcceptedLaws.{form-accepted, counts-accepted}

-- the numbers of the parts after the header
abbrev pub effects_number : List ℕ → ℕ
effects_number s = first_over (λ k. effect_refusal s (suc k)) (slot_count s)

abbrev pub bids_number : List ℕ → ℕ
bids_number s = first_over (λ i. bid_refusal s (suc i)) (bidder_count s)

abbrev pub ticks_number : List ℕ → ℕ
ticks_number s = first_over (λ i. tick_refusal s (suc i)) (bidder_count s)

abbrev pub constraints_number : List ℕ → ℕ
constraints_number s = first_over (constraint_refusal s) (constraint_count s)

module _ (s : List ℕ) where
  pub by_form : (k : ℕ) → k ≡ form_refusal s → (k ≡ 0 → ⊥) → k ≡ refusal_of s
  unfolding refusal_of
  by_form k e h = e ∙ sym (or_else_left (form_refusal s) _ (λ z. h (e ∙ z)))

  module _ (form : form_refusal s ≡ 0) where
    pub by_counts : (k : ℕ) → k ≡ counts_refusal s → (k ≡ 0 → ⊥) → k ≡ refusal_of s
    unfolding refusal_of
    by_counts k e h = e ∙ sym (or_else_right (form_refusal s) _ form ∙ or_else_left (counts_refusal s) _ (λ z. h (e ∙ z)))

    module _ (counts : counts_refusal s ≡ 0) where
      after_header : refusal_of s ≡ or_else (effects_number s) (or_else (bids_number s) (or_else (ticks_number s) (constraints_number s)))
      unfolding refusal_of
      after_header = or_else_right (form_refusal s) _ form ∙ or_else_right (counts_refusal s) _ counts

      pub by_effects : (k : ℕ) → k ≡ effects_number s → (k ≡ 0 → ⊥) → k ≡ refusal_of s
      by_effects k e h = e ∙ sym (after_header ∙ or_else_left (effects_number s) _ (λ z. h (e ∙ z)))

      module _ (effects : effects_number s ≡ 0) where
        after_effects : refusal_of s ≡ or_else (bids_number s) (or_else (ticks_number s) (constraints_number s))
        after_effects = after_header ∙ or_else_right (effects_number s) _ effects

        pub by_bids : (k : ℕ) → k ≡ bids_number s → (k ≡ 0 → ⊥) → k ≡ refusal_of s
        by_bids k e h = e ∙ sym (after_effects ∙ or_else_left (bids_number s) _ (λ z. h (e ∙ z)))

        module _ (bids : bids_number s ≡ 0) where
          after_bids : refusal_of s ≡ or_else (ticks_number s) (constraints_number s)
          after_bids = after_effects ∙ or_else_right (bids_number s) _ bids

          pub by_ticks : (k : ℕ) → k ≡ ticks_number s → (k ≡ 0 → ⊥) → k ≡ refusal_of s
          by_ticks k e h = e ∙ sym (after_bids ∙ or_else_left (ticks_number s) _ (λ z. h (e ∙ z)))

          pub by_constraints : ticks_number s ≡ 0 → (k : ℕ) → k ≡ constraints_number s → k ≡ refusal_of s
          by_constraints ticks k e = e ∙ sym (after_bids ∙ or_else_right (ticks_number s) _ ticks)

-- the part of a sheet from the first byte on is the sheet
pub whole-sheet : (s : List ℕ) → take (length s - 0) s ≡ s
whole-sheet s = take_all (length s - 0) s (omega arith)

-- the header of version 1
pub start_one : (s : List ℕ) → version s ≡ 1 → effects_start s ≡ 9
start_one s e = start_other s (λ z. absurd (omega arith))

pub tick_one : (s : List ℕ) → version s ≡ 1 → tick_field s ≡ 1
tick_one s e = tick_other s (λ z. absurd (omega arith))

-- What the header's tests leave for the parts after it: a sheet of version v, with its effects from a known byte.
pub record Header (s : List ℕ) (v start : ℕ) : Type 0 where
  pub form : form_refusal s ≡ 0
  pub none : counts_refusal s ≡ 0
  pub of_version : version s ≡ v
  pub from : effects_start s ≡ start
  pub counts : Counts s

pub header_two : (s : List ℕ) → version s ≡ 2 → form_refusal s ≡ 0 → counts_refusal s ≡ 0 → Header s 2 13
header_two s two form none =
    record { form = form; none = none; of_version = two; from = start_two s two; counts = counts-accepted s none }

-- A sheet that begins with P A S and a version 1 has the form of a sheet,
module _ (s : List ℕ) (low : (i : ℕ) → byte_at s i < 256) (letters : word32_at s 0 ≡ 22233424) (fifth : byte_at s 4 ≡ 0) where
  first-four : (byte_at s 0 ≡ 80) × ((byte_at s 1 ≡ 65) × ((byte_at s 2 ≡ 83) × (byte_at s 3 ≡ 1)))
  unfolding word32_at
  first-four =
      let a = low 0 in
      let b = low 1 in
      let c = low 2 in
      let d = low 3 in
      (omega arith, (omega arith, (omega arith, omega arith)))

  pub version_one : version s ≡ 1
  unfolding word16_at
  version_one = let d = first-four.1.1.1 in omega arith

  pub form_one : 9 ≤ length s → form_refusal s ≡ 0
  unfolding form_refusal
  form_one l =
      simp (
        le-ltb (length s) 9 l,
        eq-eqb (byte_at s 0) 80 first-four.0,
        eq-eqb (byte_at s 1) 65 first-four.1.0,
        eq-eqb (byte_at s 2) 83 first-four.1.1.0,
        eq-eqb (version s) 1 version_one,
        ne_eqb (version s) 2 (let e = version_one in λ z. absurd (omega arith)),
      )

  pub header_one : 9 ≤ length s → counts_refusal s ≡ 0 → Header s 1 9
  header_one l none =
      record {
        form = form_one l;
        none = none;
        of_version = version_one;
        from = start_one s version_one;
        counts = counts-accepted s none;
      }

-- and a sheet with the form of a sheet that does not begin so is of version 2.
pub version_two : (s : List ℕ) → (9 ≤ length s → word32_at s 0 ≡ 22233424 → byte_at s 4 ≡ 0 → ⊥) → form_refusal s ≡ 0 → version s ≡ 2
unfolding word16_at word32_at
version_two s other e =
    let form = form-accepted s e in
    let p = and_parts (eqb (byte_at s 0) 80) _ form.mark in
    let q = and_parts (eqb (byte_at s 1) 65) (eqb (byte_at s 2) 83) p.1 in
    let first = eqb-true (byte_at s 0) 80 p.0 in
    let second = eqb-true (byte_at s 1) 65 q.0 in
    let third = eqb-true (byte_at s 2) 83 q.1 in
    ⊎_elim
    (λ (one : version s ≡ 1). absurd (other form.header (omega arith) (omega arith)))
    (λ (two : version s ≡ 2). two)
    form.known
