-- `sheet_check::version_two::check` meets its contract: a sheet with the form of a sheet is of version 2, so its effects start at byte 13 and its tick
-- stands at byte 9. A part that gives a number gives the sheet's, and one that gives none leaves it to the next; the counts that a part accepts keep
-- the next within the sheet. Assumes nothing.
use Prim.Native.Nat.{ℕ, suc, ◌-◌}
use mathlib.Core.List.{List}
use mathlib.Core.Path.{◌≡◌, sym, ◌∙◌, ap, ap₂}
use native.Mathlib.Omega.{arith}
use lib.ListN.{length, take}
use Rattle.basis.specs.First.{first_over}
use Rattle.sheet.specs.Sheet.{bidder_count}
use Rattle.refusal.proofs.NumberLaws.{number_of-ne0, passed_on}
use Rattle.sheet.specs.Refusal.{tick_refusal, constraint_refusal}
use Rattle.sheet.proofs.HeaderLaws.{start_two, tick_two}
use Rattle.sheet.proofs.AcceptedLaws.{form-accepted}
use Rattle.sheet_check.proofs.PartLaws.{Header, header_two, by_form, by_counts, by_effects, by_bids, by_ticks, by_constraints, whole-sheet}
use Rattle.sheet_check.proofs.version_two.check.Goals as goal
use Rattle.sheet_check.proofs.version_two.check.Goals.{In_ok-check_counts}

-- after the header's tests
header : (c : In_ok-check_counts) → Header c.args.sheet.now 2 13
header c =
    let form = sym c.in_ok-check_form.ensures in
    header_two _ (c.requires form) form (sym c.in_ok-check_counts.ensures)

-- the bids of the slice made anew are the sheet's
ticks_of_whole : (s : List ℕ) →
    first_over (λ i. tick_refusal (take (length s - 0) s) (suc i)) (bidder_count s) ≡ first_over (λ i. tick_refusal s (suc i)) (bidder_count s)
ticks_of_whole s = ap (λ (l : List ℕ). first_over (λ i. tick_refusal l (suc i)) (bidder_count s)) (whole-sheet s)

pub returns-in_err-check_form : goal.returns-in_err-check_form
returns-in_err-check_form c = passed_on _ _ c.from_residual.ensures.1 (by_form _ _ c.in_err-check_form.ensures (number_of-ne0 _))

pub word32-tick-requires : goal.word32-tick-requires
word32-tick-requires c =
    let s = c.args.sheet.now in
    let none = sym c.in_ok-check_form.ensures in
    let form = form-accepted s none in
    let start = start_two s (c.requires none) in
    omega arith

pub check_counts-requires : goal.check_counts-requires
check_counts-requires c =
    let s = c.args.sheet.now in
    let none = sym c.in_ok-check_form.ensures in
    let two = c.requires none in
    ((form-accepted s none).header, sym (start_two s two), c.word32-tick.ensures ∙ sym (tick_two s two))

pub returns-in_err-check_counts : goal.returns-in_err-check_counts
returns-in_err-check_counts c = passed_on _ _ c.from_residual-in_err-check_counts.ensures.1 (by_counts _ (sym c.in_ok-check_form.ensures) _ c.in_err-check_counts.ensures (number_of-ne0 _))

pub bounds-sheet-5 : goal.bounds-sheet-5
bounds-sheet-5 c = let known = header (goal.at.bounds-sheet-5 c).In_ok-check_counts in omega arith

pub bounds-sheet-6 : goal.bounds-sheet-6
bounds-sheet-6 c = let known = header (goal.at.bounds-sheet-6 c).In_ok-check_counts in omega arith

pub word16-constraints-requires : goal.word16-constraints-requires
word16-constraints-requires c = let known = header (goal.at.word16-constraints-requires c).In_ok-check_counts in omega arith

pub check_effects-requires : goal.check_effects-requires
check_effects-requires c = let known = header (goal.at.check_effects-requires c).In_ok-check_counts in (sym known.from, omega arith)

pub returns-in_err-check_effects : goal.returns-in_err-check_effects
returns-in_err-check_effects c = let known = header (goal.at.returns-in_err-check_effects c).In_ok-check_counts in passed_on _ _ c.from_residual-in_err-check_effects.ensures.1 (by_effects _ known.form known.none _ c.in_err-check_effects.ensures (number_of-ne0 _))

pub check_bids-requires : goal.check_bids-requires
check_bids-requires c = let known = header (goal.at.check_bids-requires c).In_ok-check_counts in omega arith

pub returns-in_err-check_bids : goal.returns-in_err-check_bids
returns-in_err-check_bids c =
    let known = header (goal.at.returns-in_err-check_bids c).In_ok-check_counts in
    passed_on _ _ c.from_residual-in_err-check_bids.ensures.1 (
    by_bids _ known.form known.none
    (sym c.in_ok-check_effects.ensures)
    _ c.in_err-check_bids.ensures (number_of-ne0 _)
    )

pub check_ticks-requires : goal.check_ticks-requires
check_ticks-requires c =
    let known = header (goal.at.check_ticks-requires c).In_ok-check_counts in
    let tick = c.word32-tick.ensures ∙ sym (tick_two _ known.of_version) in
    rw (whole-sheet c.args.sheet.now) (omega arith, omega arith, tick, omega arith)

pub returns-in_err-check_ticks : goal.returns-in_err-check_ticks
returns-in_err-check_ticks c =
    let known = header (goal.at.returns-in_err-check_ticks c).In_ok-check_counts in
    passed_on _ _ c.from_residual-in_err-check_ticks.ensures.1 (
    by_ticks _ known.form known.none
    (sym c.in_ok-check_effects.ensures)
    (sym c.in_ok-check_bids.ensures)
    _ (c.in_err-check_ticks.ensures ∙ ticks_of_whole _) (number_of-ne0 _)
    )

pub check_rising-requires-clause-start_value : goal.check_rising-requires-clause-start_value
check_rising-requires-clause-start_value c =
    let known = header (goal.at.check_rising-requires-clause-start_value c).In_ok-check_counts in
    rw (whole-sheet c.args.sheet.now) (omega arith)

pub returns : goal.returns
returns c =
    let known = header (goal.at.returns c).In_ok-check_counts in
    by_constraints _ known.form known.none
    (sym c.in_ok-check_effects.ensures)
    (sym c.in_ok-check_bids.ensures)
    (sym (c.in_ok-check_ticks.ensures ∙ ticks_of_whole _))
    _
    (c.check_rising.ensures
    ∙ ap₂ (λ (l : List ℕ) (n : ℕ). first_over (constraint_refusal l) n) (whole-sheet _) c.word16-constraints.ensures.0)
