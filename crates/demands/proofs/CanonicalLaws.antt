-- Request S-6: what is written of an accepted sheet stands at the front of the buffer, and is one sheet for each round (the laws of the written sheet,
-- canonical/proofs/WrittenLaws.antt); the call's numbers. Assumes nothing.
use Prim.Native.Nat.{ℕ, ◌+◌, ◌<◌, ◌≤◌}
use borrow.Author.Tests.{lt-ltb, le-ltb}
use mathlib.Core.Bool.{Bool}
use mathlib.Core.List.{List}
use mathlib.Core.Logic.{⊎_elim}
use mathlib.Core.Path.{◌≡◌, sym, ◌∙◌, ap, subst}
use native.Mathlib.Omega.{arith}
use lib.Dec.{ltb}
use lib.ListN.{length, take, drop, get_or}
use lib.Seq.{take_at, drop-append_seam}
use Rattle.basis.specs.First.{◌when◌otherwise◌}
use Rattle.basis.proofs.FirstLaws.{or_else-none, or_else_left, or_else_right, answered-gives}
use Rattle.sheet.specs.Sheet.{version}
use Rattle.sheet.specs.Refusal.{refusal_of, Accepted}
use Rattle.sheet.proofs.AcceptedLaws.{accepted-sheet, constraints-rise}
use Rattle.canonical.specs.Canonical.{canonical_sheet, canonical_refusal, canonical_buffer, SameRound}
use Rattle.canonical.proofs.OrderedLaws.{few-conditions}
use Rattle.canonical.proofs.WrittenLaws.{
  written-length,
  written-version,
  written-accepted,
  written_same,
  same-written,
  written_equal,
  written-again,
  written_two,
}
use Rattle.pas.specs.Calls.{CanonicalGiven}
use Rattle.demands.specs.Demands.{Exactly, WrittenRight, RequestSix}
use Rattle.demands.proofs.TickLaws.{lengths}
use Rattle.demands.proofs.SameRoundLaws.{same_round_answers}

-- the call's numbers, in their order
sheet_first : (s out : List ℕ) → (refusal_of s ≡ 0 → ⊥) → canonical_refusal s out ≡ refusal_of s
unfolding canonical_refusal
sheet_first s out h = or_else_left (refusal_of s) _ h

room_decides : (s out : List ℕ) (t : Bool) → Accepted s →
    ltb (length out) (length (canonical_sheet s)) ≡ t → canonical_refusal s out ≡ (19 when t otherwise 0)
unfolding canonical_refusal
room_decides s out t ok e = or_else_right (refusal_of s) _ ok ∙ ap (λ (u : Bool). 19 when u otherwise 0) e

nineteen : (s out : List ℕ) → Accepted s → length out < length (canonical_sheet s) → canonical_refusal s out ≡ 19
nineteen s out ok short = room_decides s out _ ok (lt-ltb (length out) (length (canonical_sheet s)) short)

answered : (s out : List ℕ) → Accepted s → length (canonical_sheet s) ≤ length out → canonical_refusal s out ≡ 0
answered s out ok room = room_decides s out _ ok (le-ltb (length out) (length (canonical_sheet s)) room)

-- A call that is not refused was given an accepted sheet, and says the written sheet.
module _ (s out out' : List ℕ) (before after : ℕ) (g : CanonicalGiven s out before 0 out' after) where
  unrefused : canonical_refusal s out ≡ 0
  unrefused = sym g.number

  pub given-accepted : Accepted s
  unfolding canonical_refusal
  given-accepted = (or_else-none (refusal_of s) _ unrefused).0

  sized : after ≡ length (canonical_sheet s)
  sized = g.written ∙ sym (answered-gives (canonical_refusal s out) (length (canonical_sheet s)) before unrefused)

  stands : out' ≡ canonical_buffer s out
  stands = g.buffer ∙ sym (answered-gives (canonical_refusal s out) (canonical_buffer s out) out unrefused)

  pub says-written : take after out' ≡ canonical_sheet s
  unfolding canonical_buffer
  says-written = ap (take after) stands ∙ take_at (canonical_sheet s) _ after (sym sized)

  leaves_later : drop after out' ≡ drop after out
  unfolding canonical_buffer
  leaves_later =
      ap (λ (n : ℕ). drop n out') sized
      ∙ ap (drop (length (canonical_sheet s))) stands
      ∙ drop-append_seam (canonical_sheet s) (drop (length (canonical_sheet s)) out)
      ∙ ap (λ (n : ℕ). drop n out) (sym sized)

-- an accepted sheet that is what is written of it is written as it stands, where there is room
writes_itself : (w into into' : List ℕ) (before number after : ℕ) → Accepted w → canonical_sheet w ≡ w → length w ≤ length into →
    CanonicalGiven w into before number into' after → (number ≡ 0) × (after ≡ length w) × (take after into' ≡ w)
writes_itself w into into' before number after ok own room g =
    let size = ap length own in
    let none : number ≡ 0 = g.number ∙ answered w into ok (omega arith) in
    let given : CanonicalGiven w into before 0 into' after = subst (λ (n : ℕ). CanonicalGiven w into before n into' after) none g in
    (none, sized w into into' before after given ∙ size, says-written w into into' before after given ∙ own)

written : (s out out' : List ℕ) (before after : ℕ) → CanonicalGiven s out before 0 out' after → WrittenRight s out out' after
written s out out' before after g =
    let ok = given-accepted s out out' before after g in
    let says = says-written s out out' before after g in
    let size = sized s out out' before after g in
    let accepted : Accepted (take after out') = subst Accepted (sym says) (written-accepted s ok) in
    let two : version (take after out') ≡ 2 = ap version says ∙ written-version s in
    let same : SameRound s (take after out') = subst (SameRound s) (sym says) (written_same s ok) in
    let as_long : length (take after out') ≡ after = ap length says ∙ sym size in
    record {
      accepted = accepted;
      as_long = as_long;
      version_two = two;
      in_order = constraints-rise (take after out') (accepted-sheet (take after out') accepted) two;
      same_round = same;
      same_answers = same_round_answers s (take after out') ok accepted same;
      later = leaves_later s out out' before after g;
      again = λ into into' before' number after' room g'.
          let own = ap canonical_sheet says ∙ written-again s ok ∙ sym says in
          let itself = writes_itself (take after out') into into' before' number after' accepted own (omega arith) g' in
          (itself.0, itself.1 ∙ as_long, itself.2);
    }

-- equal bytes exactly where the rounds are the same
one_sheet : (s t out out' into into' : List ℕ) (before after before-t after-t : ℕ) →
    CanonicalGiven s out before 0 out' after → CanonicalGiven t into before-t 0 into' after-t → Exactly (take after out' ≡ take after-t into') (SameRound s t)
one_sheet s t out out' into into' before after before-t after-t g h =
    let ok = given-accepted s out out' before after g in
    let ok' = given-accepted t into into' before-t after-t h in
    let says = says-written s out out' before after g in
    let says' = says-written t into into' before-t after-t h in (
      λ e. written_equal s t ok ok' (sym says ∙ e ∙ says'),
      λ same. says ∙ same-written s t ok ok' same ∙ sym says',
    )

own_form : (s out out' : List ℕ) (before after : ℕ) → version s ≡ 2 → ((k : ℕ) → get_or s k 0 < 256) → CanonicalGiven s out before 0 out' after →
    take after out' ≡ s
own_form s out out' before after two small g =
    says-written s out out' before after g ∙ written_two s (given-accepted s out out' before after g) two small

at_most_longer : (s : List ℕ) → Accepted s → length (canonical_sheet s) ≤ length s + 4
at_most_longer s ok =
    let size = written-length s in
    let few = few-conditions s ok in
    ⊎_elim (λ one. let whole = one.1 in omega arith) (λ two. let whole = two.1 in omega arith) (lengths s ok)

any_accepted : (s out out' : List ℕ) (before number after : ℕ) → Accepted s → length s + 4 ≤ length out → CanonicalGiven s out before number out' after →
    (number ≡ 0) × WrittenRight s out out' after
any_accepted s out out' before number after ok room g =
    let longer = at_most_longer s ok in
    let none : number ≡ 0 = g.number ∙ answered s out ok (omega arith) in
    (none, written s out out' before after (subst (λ (n : ℕ). CanonicalGiven s out before n out' after) none g))

pub request_six_holds : RequestSix
request_six_holds =
    record {
      any_accepted = any_accepted;
      written = written;
      one_sheet = one_sheet;
      same_answers = same_round_answers;
      own_form = own_form;
      sheet_first = sheet_first;
      nineteen = nineteen;
      answered = answered;
      at_most_longer = at_most_longer;
    }
