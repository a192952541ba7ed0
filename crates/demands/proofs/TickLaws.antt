-- Request S-4: what the tick of a sheet means for its bids, for a bid written into it, and for a truth sheet. Assumes nothing.
use Prim.Native.Nat.{ℕ, ◌+◌, ◌*◌, ◌%◌, ◌<◌, ◌≤◌}
use borrow.Author.Tests.{ne_eqb}
use mathlib.Core.List.{List}
use mathlib.Core.Logic.{◌⊎◌, inl, inr, ⊎_elim}
use mathlib.Core.Path.{◌≡◌, ◌∙◌}
use native.Mathlib.Omega.{arith}
use lib.IntN.{ℤ}
use lib.ListN.{length}
use Rattle.basis.proofs.FirstLaws.{or_else_right}
use Rattle.sheet.specs.Sheet.{version, bidder_count, slot_count, constraint_count, tick_field, bid_field}
use Rattle.sheet.specs.Refusal.{refusal_of, Accepted}
use Rattle.sheet.proofs.HeaderLaws.{start_two, start_other, tick_two, tick_other}
use Rattle.sheet.proofs.AcceptedLaws.{accepted-sheet, legal_parts, parts_legal}
use Rattle.auction.specs.Write.{write_bid}
use Rattle.auction.proofs.WriteLaws.{write_accepted, accepted_legal}
use Rattle.gain.specs.Call.{later_refusal, gain_refusal}
use Rattle.honesty.proofs.Honesty.{not_refused}
use Rattle.pas.specs.Calls.{GainGiven}
use Rattle.demands.specs.Demands.{Exactly, RequestFour}

version_one : (s : List ℕ) → version s ≡ 1 → tick_field s ≡ 1
version_one s e = tick_other s (λ z. absurd (omega arith))

pub lengths : (s : List ℕ) → Accepted s →
    ((version s ≡ 1) × (length s ≡ 9 + 4 * (slot_count s + bidder_count s + constraint_count s)))
    ⊎ ((version s ≡ 2) × (length s ≡ 13 + 4 * (slot_count s + bidder_count s + constraint_count s)))
lengths s ok =
    let facts = accepted-sheet s ok in
    let whole = facts.counts.whole in
    ⊎_elim
    (λ (e : version s ≡ 1). let start = start_other s (λ z. absurd (omega arith)) in inl (e, omega arith))
    (λ (e : version s ≡ 2). let start = start_two s e in inr (e, omega arith))
    facts.form.known

in_ticks : (s : List ℕ) → Accepted s →
    (0 < tick_field s) × (tick_field s ≤ 1_000_000_000) × ((i : ℕ) → 0 < i → i ≤ bidder_count s → bid_field s i % tick_field s ≡ 0)
in_ticks s ok =
    let facts = accepted-sheet s ok in
    (facts.counts.some_tick, facts.counts.most_tick, λ i some most. (facts.bids i some most).multiple)

would_accept : (s : List ℕ) (i x : ℕ) → Accepted s → 0 < i → i ≤ bidder_count s → x < 4_294_967_296 →
    Exactly (Accepted (write_bid s i x)) ((x ≤ 1_000_000_000) × (x % tick_field s ≡ 0))
would_accept s i x ok some most fits = (
  λ accepted. legal_parts (tick_field s) x (accepted_legal s ok i x some most fits accepted),
  λ legal. write_accepted s ok i x some most fits (parts_legal (tick_field s) x legal.0 legal.1),
)

truth_refused : (s t : List ℕ) (i worth : ℕ) (before : ℤ) (number : ℕ) (after : ℤ) → GainGiven s t i worth before number after →
    Accepted s → (refusal_of t ≡ 0 → ⊥) → number ≡ 14
unfolding gain_refusal later_refusal
truth_refused s t i worth before number after g ok broken =
    g.number ∙ or_else_right (refusal_of s) (later_refusal s t i worth) ok ∙ simp (ne_eqb (refusal_of t) 0 broken)

another_tick : (s t : List ℕ) (i worth : ℕ) (before : ℤ) (number : ℕ) (after : ℤ) → GainGiven s t i worth before number after →
    Accepted s → Accepted t → bidder_count t ≡ bidder_count s → slot_count t ≡ slot_count s → 0 < i → i ≤ bidder_count s → worth ≤ 1_000_000_000 →
    number ≡ 0
another_tick s t i worth before number after g ok truth n m some most low =
    g.number ∙ not_refused s t i worth ok truth n m some most low

pub request_four-holds : RequestFour
request_four-holds =
    record {
      version_one = version_one;
      version_two = tick_two;
      lengths = lengths;
      in_ticks = in_ticks;
      would_accept = would_accept;
      truth_refused = truth_refused;
      another_tick = another_tick;
    }
