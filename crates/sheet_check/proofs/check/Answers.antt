-- `sheet_check::check` meets its contract: where the first bytes say version 1, the effects start at byte 9, the tick is 1, and a part that gives a
-- number gives the sheet's; and a sheet with the form of a sheet that does not begin so is of version 2. Assumes nothing.
use Prim.Native.Nat.{ℕ, ◌<◌}
use mathlib.Core.List.{List}
use mathlib.Core.Path.{sym, ◌∙◌, ap₂}
use native.Mathlib.Omega.{arith}
use Rattle.basis.specs.Bytes.{byte_at}
use Rattle.basis.specs.First.{first_over}
use Rattle.check_numbers.proofs.RefusalLaws.{no_ticks}
use Rattle.refusal.proofs.NumberLaws.{number_of-ne0, passed_on}
use Rattle.sheet.specs.Refusal.{constraint_refusal}
use Rattle.sheet_check.proofs.PartLaws.{start_one, tick_one, Header, header_one, version_one, form_one, version_two, by_counts, by_effects, by_bids, by_constraints, whole-sheet}
use Rattle.sheet_check.proofs.check.Goals as goal
use Rattle.sheet_check.proofs.check.Goals.{In_ok-check_counts}

-- after the header's tests
header : (c : In_ok-check_counts) → Header c.args.sheet.now 1 9
header c =
    let s = c.args.sheet.now in
    let low : (i : ℕ) → byte_at s i < 256 = λ i. omega (arith, c.type_inv.sheet i) in
    header_one s low (sym c.word32.ensures ∙ c.if-word32-ne-FIRST_BYTES.false) c.if-sheet-ne0.false (omega arith)
    (sym c.in_ok-check_counts.ensures)

pub check-requires : goal.check-requires
check-requires c = rw (whole-sheet c.args.sheet.now) (version_two _ (λ long letters fifth. absurd (omega arith)))

pub check-requires-then-word32-ne-FIRST_BYTES : goal.check-requires-then-word32-ne-FIRST_BYTES
check-requires-then-word32-ne-FIRST_BYTES c = rw (whole-sheet c.args.sheet.now) (version_two _ (λ long letters fifth. c.if-word32-ne-FIRST_BYTES.true (c.word32.ensures ∙ letters)))

pub check-requires-then-sheet-ne0 : goal.check-requires-then-sheet-ne0
check-requires-then-sheet-ne0 c = rw (whole-sheet c.args.sheet.now) (version_two _ (λ long letters fifth. c.if-sheet-ne0.true fifth))

pub check_counts-requires : goal.check_counts-requires
check_counts-requires c =
    let s = c.args.sheet.now in
    let low : (i : ℕ) → byte_at s i < 256 = λ i. omega (arith, c.type_inv.sheet i) in
    let one = version_one s low (sym c.word32.ensures ∙ c.if-word32-ne-FIRST_BYTES.false) c.if-sheet-ne0.false in
    (omega arith, sym (start_one s one), sym (tick_one s one))

pub returns-in_err-check_counts : goal.returns-in_err-check_counts
returns-in_err-check_counts c =
    let s = c.args.sheet.now in
    let low : (i : ℕ) → byte_at s i < 256 = λ i. omega (arith, c.type_inv.sheet i) in
    let form = form_one s low (sym c.word32.ensures ∙ c.if-word32-ne-FIRST_BYTES.false) c.if-sheet-ne0.false (omega arith) in
    passed_on _ _ c.from_residual.ensures.1 (
    by_counts s form _ c.in_err-check_counts.ensures (number_of-ne0 _)
    )

pub check_effects-requires : goal.check_effects-requires
check_effects-requires c = let known = header (goal.at.check_effects-requires c).In_ok-check_counts in (sym known.from, omega arith)

pub returns-in_err-check_effects : goal.returns-in_err-check_effects
returns-in_err-check_effects c = let known = header (goal.at.returns-in_err-check_effects c).In_ok-check_counts in passed_on _ _ c.from_residual-in_err-check_effects.ensures.1 (by_effects _ known.form known.none _ c.in_err-check_effects.ensures (number_of-ne0 _))

pub check_bids-requires : goal.check_bids-requires
check_bids-requires c = let known = header (goal.at.check_bids-requires c).In_ok-check_counts in omega arith

pub returns-in_err-check_bids : goal.returns-in_err-check_bids
returns-in_err-check_bids c =
    let known = header (goal.at.returns-in_err-check_bids c).In_ok-check_counts in
    passed_on _ _ c.from_residual-in_err-check_bids.ensures.1 (
    by_bids _ known.form known.none
    (sym c.in_ok-check_effects.ensures)
    _ c.in_err-check_bids.ensures (number_of-ne0 _)
    )

pub check_free-requires-clause-start_value : goal.check_free-requires-clause-start_value
check_free-requires-clause-start_value c =
    let known = header (goal.at.check_free-requires-clause-start_value c).In_ok-check_counts in
    rw (whole-sheet c.args.sheet.now) (omega arith)

pub check_free-requires-clause-bidders_value : goal.check_free-requires-clause-bidders_value
check_free-requires-clause-bidders_value c =
    let known = header (goal.at.check_free-requires-clause-bidders_value c).In_ok-check_counts in
    rw (whole-sheet c.args.sheet.now) (omega arith)

pub returns : goal.returns
returns c =
    let known = header (goal.at.returns c).In_ok-check_counts in
    by_constraints _ known.form known.none
    (sym c.in_ok-check_effects.ensures)
    (sym c.in_ok-check_bids.ensures)
    (no_ticks _ _ (tick_one _ known.of_version))
    _
    (c.check_free.ensures
    ∙ ap₂ (λ (l : List ℕ) (n : ℕ). first_over (constraint_refusal l) n) (whole-sheet _) c.word16-constraints.ensures.0)
