-- The first 4,430 or more bytes of a longer input are refused with the number of the whole: the header's tests read 13 bytes at most,
-- and no length that rule 7 asks for, at most 4,429, is that of either. Assumes nothing.
use Prim.Native.Nat.{ℕ, ◌+◌, ◌*◌, ◌<◌, ◌≤◌}
use borrow.Author.Tests.{le-ltb, ltb-true, ltb-false, ne_eqb}
use mathlib.Core.Bool.{Bool, true, false, not, ◌||◌}
use mathlib.Core.List.{List}
use mathlib.Core.Logic.{⊎_elim}
use mathlib.Core.Path.{◌≡◌, refl, sym, ◌∙◌, ap, ap₂}
use native.Mathlib.Omega.{arith}
use lib.Dec.{eqb, ltb}
use lib.ListN.{length, take}
use lib.Seq.{take_all, get_or-take, length-take-le}
use Rattle.basis.specs.Bytes.{byte_at, word16_at, word32_at}
use Rattle.basis.specs.First.{◌when◌otherwise◌, or_else}
use Rattle.basis.proofs.FirstLaws.{or_else_left, or_else-none}
use Rattle.basis.proofs.TestLaws.{holds_or_fails, or_none}
use Rattle.sheet.specs.Sheet.{bidder_count, slot_count, constraint_count, tick_field, sheet_length}
use Rattle.sheet.specs.Refusal.{form_refusal, counts_refusal, refusal_of}
use Rattle.sheet.specs.Round.{round_of}
use Rattle.sheet.proofs.HeaderLaws.{start_same, start_most, tick_same}
use Rattle.sheet.proofs.AcceptedLaws.{counts-accepted}
use Rattle.page_lines.specs.Lines.{refused_line}
use Rattle.page_job.specs.PageText.{page_text, FirstBytesDecide}
use Rattle.page_job.proofs.PageTextLaws.{refused_for}

-- two rows of tests 4 to 6, 26 and 7 that differ only in the last, where it matters only if those of the counts fail
last_test : (a b c t d e : Bool) → (a ≡ false → b ≡ false → c ≡ false → d ≡ e) →
    (4 when a otherwise 5 when b otherwise 6 when c otherwise 26 when t otherwise 7 when d otherwise 0)
    ≡ (4 when a otherwise 5 when b otherwise 6 when c otherwise 26 when t otherwise 7 when e otherwise 0)
last_test true b c t d e h = refl
last_test false true c t d e h = refl
last_test false false true t d e h = refl
last_test false false false t d e h = ap (λ (x : Bool). 26 when t otherwise 7 when x otherwise 0) (h refl refl refl)

-- rule 7 refuses an input of so many bytes, if no rule before it does
counts-refused : (t : List ℕ) → 4430 ≤ length t → counts_refusal t ≡ 0 → ⊥
counts-refused t more e =
    let counts = counts-accepted t e in
    let n = counts.most_bidders in
    let m = counts.most_slots in
    let c = counts.most_constraints in
    let header = start_most t in
    let whole = counts.whole in
    omega arith

module _ (room : ℕ) (enough : 4430 ≤ room) (s : List ℕ) (long : room ≤ length s) where
  front_length : length (take room s) ≡ room
  front_length = length-take-le room s long

  same_byte : (i : ℕ) → i < 13 → byte_at (take room s) i ≡ byte_at s i
  same_byte i l = get_or-take room s i 0 (omega arith)

  same_word : (i : ℕ) → i < 8 → word16_at (take room s) i ≡ word16_at s i
  unfolding word16_at
  same_word i l = ap₂ (λ (a b : ℕ). a + 256 * b) (same_byte i (omega arith)) (same_byte (i + 1) (omega arith))

  same-form : form_refusal (take room s) ≡ form_refusal s
  unfolding form_refusal
  same-form =
      let a = same_byte 0 (omega arith) in
      let b = same_byte 1 (omega arith) in
      let d = same_byte 2 (omega arith) in
      let v = same_word 3 (omega arith) in
      let size = front_length in
      let nine : ltb (length (take room s)) 9 ≡ ltb (length s) 9
      = le-ltb (length (take room s)) 9 (omega arith) ∙ sym (le-ltb (length s) 9 (omega arith)) in
      let thirteen : ltb (length (take room s)) 13 ≡ ltb (length s) 13
      = le-ltb (length (take room s)) 13 (omega arith) ∙ sym (le-ltb (length s) 13 (omega arith)) in
      cc

  same_tick-bytes : word32_at (take room s) 9 ≡ word32_at s 9
  unfolding word32_at
  same_tick-bytes =
      let a = same_byte 9 (omega arith) in
      let b = same_byte 10 (omega arith) in
      let d = same_byte 11 (omega arith) in
      let e = same_byte 12 (omega arith) in
      cc

  -- where rules 4 to 6 hold, neither length is the one that rule 7 asks for
  same-counts : counts_refusal (take room s) ≡ counts_refusal s
  unfolding counts_refusal
  same-counts =
      let v = same_word 3 (omega arith) in
      let n = same_byte 5 (omega arith) in
      let m = same_byte 6 (omega arith) in
      let w = same_word 7 (omega arith) in
      let start = start_same (take room s) s v in
      let tick = tick_same (take room s) s v same_tick-bytes in
      let size = front_length in
      ◌∙◌ {b =
      4 when eqb (bidder_count s) 0 || ltb 64 (bidder_count s) otherwise
      5 when eqb (slot_count s) 0 || ltb 16 (slot_count s) otherwise
      6 when ltb 1024 (constraint_count s) otherwise
      26 when eqb (tick_field s) 0 || ltb 1_000_000_000 (tick_field s) otherwise
      7 when not (eqb (length (take room s)) (sheet_length s)) otherwise
      0}
      (cc)
      (last_test _ _ _ (eqb (tick_field s) 0 || ltb 1_000_000_000 (tick_field s)) _ _
      (λ a b c.
      let bidders = ltb-false 64 (bidder_count s) (or_none (eqb (bidder_count s) 0) _ a).1 in
      let slots = ltb-false 16 (slot_count s) (or_none (eqb (slot_count s) 0) _ b).1 in
      let constraints = ltb-false 1024 (constraint_count s) c in
      let header = start_most s in
      ap not
      (ne_eqb (length (take room s)) (sheet_length s) (λ e. absurd (omega arith))
      ∙ sym (ne_eqb (length s) (sheet_length s) (λ e. absurd (omega arith))))))

  -- so the two numbers are one
  same_refusal : refusal_of (take room s) ≡ refusal_of s
  unfolding refusal_of
  same_refusal =
      let size = front_length in
      ap₂ or_else same-form
      (or_else_left (counts_refusal (take room s)) _ (counts-refused (take room s) (omega arith))
      ∙ same-counts
      ∙ sym (or_else_left (counts_refusal s) _ (counts-refused s (omega arith))))

  is_refused : refusal_of s ≡ 0 → ⊥
  unfolding refusal_of
  is_refused e =
      let later = (or_else-none (form_refusal s) _ e).1 in
      counts-refused s (omega arith) (or_else-none (counts_refusal s) _ later).0

  same_text : page_text (take room s) ≡ page_text s
  unfolding page_text
  same_text =
      refused_for (refusal_of (take room s)) (round_of (take room s)) (λ e. is_refused (sym same_refusal ∙ e))
      ∙ ap refused_line same_refusal
      ∙ sym (refused_for (refusal_of s) (round_of s) is_refused)

pub first-bytes_decide : FirstBytesDecide
first-bytes_decide room s enough =
    ⊎_elim
    (λ (t : ltb (length s) room ≡ true). ap page_text (take_all room s (let h = ltb-true (length s) room t in omega arith)))
    (λ (t : ltb (length s) room ≡ false). same_text room enough s (ltb-false (length s) room t))
    (holds_or_fails (ltb (length s) room))
