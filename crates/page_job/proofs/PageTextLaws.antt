-- The two cases of the text. A buffer of 80 bytes is never too short, so the call's number is the sheet's; a refused sheet's text
-- is its number's line, and an accepted one's lines say what the result's bytes say, the page and the prices. Assumes nothing.
use Prim.Native.Nat.{ℕ, zero, suc, ◌*◌}
use borrow.Author.Tests.{le-ltb}
use mathlib.Core.List.{List}
use mathlib.Core.Logic.{⊎_elim}
use mathlib.Core.Path.{◌≡◌, refl, sym, ◌∙◌, ap, ap₂}
use native.Mathlib.Omega.{arith}
use lib.ListN.{length}
use Rattle.basis.proofs.FirstLaws.{or_else_left, or_else_right, answered-gives}
use Rattle.basis.proofs.NumberLaws.{same_or_not}
use Rattle.basis.proofs.RowLaws.{joined_same}
use Rattle.sheet.specs.declared.Round.{Round}
use Rattle.sheet.specs.Sheet.{slot_count}
use Rattle.sheet.specs.Refusal.{refusal_of, Accepted}
use Rattle.sheet.specs.Round.{round_of}
use Rattle.sheet.proofs.AcceptedLaws.{accepted-sheet}
use Rattle.sheet.proofs.RoundLaws.{round_proper}
use Rattle.play.specs.Play.{room_refusal, play_refusal, played_buffer, Played}
use Rattle.page_lines.specs.Lines.{line, refused_line, result_line, result_lines}
use Rattle.page_job.specs.PageText.{slot_line, text_for, page_text}
use Rattle.play.proofs.SaidLaws.{entry_bidder, entry_price}

-- 80 bytes are enough for every accepted sheet: 19 never comes up
room-enough : (s out : List ℕ) → length out ≡ 80 → play_refusal s out ≡ refusal_of s
unfolding play_refusal room_refusal
room-enough s out size =
    ⊎_elim
    (λ (ok : Accepted s).
    let few = (accepted-sheet s ok).counts.most_slots in
    or_else_right (refusal_of s) _ ok ∙ simp (le-ltb (length out) (5 * slot_count s) (omega arith)) (sym ok))
    (λ (h : refusal_of s ≡ 0 → ⊥). or_else_left (refusal_of s) _ h)
    (same_or_not (refusal_of s) 0)

-- a refused sheet's text
pub refused_for : (n : ℕ) (r : Round) → (n ≡ 0 → ⊥) → text_for n r ≡ refused_line n
unfolding text_for
refused_for zero r h = absurd (h refl)
refused_for (suc n) r h = refl

module _ (s out out' : List ℕ) (answer : ℕ) (size : length out ≡ 80) (played : Played s out answer out') where
  number_is : answer ≡ refusal_of s
  number_is = played.number ∙ room-enough s out size

  pub text-refused : (answer ≡ 0 → ⊥) → refused_line answer ≡ page_text s
  unfolding page_text
  text-refused h = sym (refused_for answer (round_of s) h) ∙ ap (λ (n : ℕ). text_for n (round_of s)) number_is

  pub answer-accepted : answer ≡ 0 → Accepted s
  answer-accepted e = sym number_is ∙ e

  result_is : answer ≡ 0 → out' ≡ played_buffer (round_of s) out
  result_is e = played.buffer ∙ sym (answered-gives (play_refusal s out) (played_buffer (round_of s) out) out (sym played.number ∙ e))

  pub text-played : answer ≡ 0 → result_lines out' (slot_count s) ≡ page_text s
  unfolding page_text text_for result_lines result_line slot_line round_of
  text-played e =
      let proper = round_proper s (answer-accepted e) in
      let r = round_of s in
      ap (λ (result : List ℕ). result_lines result (slot_count s)) (result_is e)
      ∙ joined_same (λ k. result_line (played_buffer r out) (suc k)) (λ k. slot_line r (suc k)) (slot_count s)
      (λ k l. ap₂ (λ (b p : ℕ). line (suc k) b p) (entry_bidder r out k l) (entry_price r out k l proper))
      ∙ ap (λ (n : ℕ). text_for n r) (sym (answer-accepted e))
