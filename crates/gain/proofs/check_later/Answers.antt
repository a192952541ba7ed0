-- `gain::check_later` meets its contract: each way out rewrites the definition with the tests that led there.
-- Assumes nothing.
use borrow.Author.Tests.{eq-eqb, ne_eqb, lt-ltb, le-ltb}
use mathlib.Core.Path.{sym, ◌∙◌}
use native.Mathlib.Omega.{arith}
use Rattle.sheet.specs.Sheet.{bidder_count, slot_count}
use Rattle.sheet.specs.Refusal.{refusal_of, Accepted}
use Rattle.sheet.proofs.AcceptedLaws.{accepted-sheet}
use Rattle.gain.specs.Call.{later_refusal}
use Rattle.gain.proofs.CallLaws.{was_err, was_ok}
use Rattle.gain.proofs.check_later.Goals.{Else-is_err}
use Rattle.gain.proofs.check_later.Goals as goal

-- past the check the truth sheet is accepted
accepted : (c : Else-is_err) → Accepted c.args.truth.now
accepted c = sym c.check.ensures ∙ was_ok _ (sym c.is_err.ensures.value ∙ c.if-is_err.false)

pub returns-then-is_err : goal.returns-then-is_err
unfolding later_refusal
returns-then-is_err c =
    let t = c.args.truth.now in
    simp (ne_eqb (refusal_of t) 0 (λ z. was_err _ (sym c.is_err.ensures.value ∙ c.if-is_err.true) (c.check.ensures ∙ z)))

pub bounds-truth-5 : goal.bounds-truth-5
bounds-truth-5 c =
    let ok = accepted (goal.at.bounds-truth-5 c).Else-is_err in
    let size = (accepted-sheet c.args.truth.now ok).form.header in
    omega arith

pub bounds-played-5 : goal.bounds-played-5
bounds-played-5 c =
    let size = (accepted-sheet c.args.played.now c.requires).form.header in
    omega arith

pub returns-then-truth-played : goal.returns-then-truth-played
unfolding later_refusal
returns-then-truth-played c =
    let s = c.args.played.now in
    let t = c.args.truth.now in
    let ok = accepted (goal.at.returns-then-truth-played c).Else-is_err in
    simp (eq-eqb (refusal_of t) 0 ok, ne_eqb (bidder_count t) (bidder_count s) (omega arith))

pub bounds-truth-6 : goal.bounds-truth-6
bounds-truth-6 c =
    let ok = accepted (goal.at.bounds-truth-6 c).Else-is_err in
    let size = (accepted-sheet c.args.truth.now ok).form.header in
    omega arith

pub bounds-played-6 : goal.bounds-played-6
bounds-played-6 c =
    let size = (accepted-sheet c.args.played.now c.requires).form.header in
    omega arith

pub returns-then-truth-played-2 : goal.returns-then-truth-played-2
unfolding later_refusal
returns-then-truth-played-2 c =
    let s = c.args.played.now in
    let t = c.args.truth.now in
    let ok = accepted (goal.at.returns-then-truth-played-2 c).Else-is_err in
    simp (eq-eqb (refusal_of t) 0 ok, eq-eqb (bidder_count t) (bidder_count s) (omega arith), ne_eqb (slot_count t) (slot_count s) (omega arith))

pub returns-then-bidder-eq0 : goal.returns-then-bidder-eq0
unfolding later_refusal
returns-then-bidder-eq0 c =
    let s = c.args.played.now in
    let t = c.args.truth.now in
    let i = c.args.bidder in
    let ok = accepted (goal.at.returns-then-bidder-eq0 c).Else-is_err in
    simp (eq-eqb (refusal_of t) 0 ok, eq-eqb (bidder_count t) (bidder_count s) (omega arith), eq-eqb (slot_count t) (slot_count s) (omega arith), eq-eqb i 0 (omega arith))

pub bounds-played-5-2 : goal.bounds-played-5-2
bounds-played-5-2 c =
    let size = (accepted-sheet c.args.played.now c.requires).form.header in
    omega arith

pub returns-then-from-bidder : goal.returns-then-from-bidder
unfolding later_refusal
returns-then-from-bidder c =
    let s = c.args.played.now in
    let t = c.args.truth.now in
    let i = c.args.bidder in
    let ok = accepted (goal.at.returns-then-from-bidder c).Else-is_err in
    simp (eq-eqb (refusal_of t) 0 ok, eq-eqb (bidder_count t) (bidder_count s) (omega arith), eq-eqb (slot_count t) (slot_count s) (omega arith), ne_eqb i 0 (omega arith), lt-ltb (bidder_count s) i (omega arith))

pub returns-then-worth-gt-MAX_WORTH : goal.returns-then-worth-gt-MAX_WORTH
unfolding later_refusal
returns-then-worth-gt-MAX_WORTH c =
    let s = c.args.played.now in
    let t = c.args.truth.now in
    let i = c.args.bidder in
    let v = c.args.worth in
    let ok = accepted (goal.at.returns-then-worth-gt-MAX_WORTH c).Else-is_err in
    simp (eq-eqb (refusal_of t) 0 ok, eq-eqb (bidder_count t) (bidder_count s) (omega arith), eq-eqb (slot_count t) (slot_count s) (omega arith), ne_eqb i 0 (omega arith), le-ltb (bidder_count s) i (omega arith), lt-ltb 1000000000 v (omega arith))

pub returns : goal.returns
unfolding later_refusal
returns c =
    let s = c.args.played.now in
    let t = c.args.truth.now in
    let i = c.args.bidder in
    let v = c.args.worth in
    let ok = accepted (goal.at.returns c).Else-is_err in
    simp (eq-eqb (refusal_of t) 0 ok, eq-eqb (bidder_count t) (bidder_count s) (omega arith), eq-eqb (slot_count t) (slot_count s) (omega arith), ne_eqb i 0 (omega arith), le-ltb (bidder_count s) i (omega arith), le-ltb 1000000000 v (omega arith))
