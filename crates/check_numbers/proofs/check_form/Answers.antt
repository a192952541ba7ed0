-- `check_numbers::check_form` meets its contract: each way out rewrites the definition with the tests that led there.
-- Assumes nothing.
use borrow.Author.Tests.{eq-eqb, ne_eqb, lt-ltb, le-ltb}
use native.Mathlib.Omega.{arith}
use lib.ListN.{length}
use Rattle.basis.specs.Bytes.{byte_at}
use Rattle.sheet.specs.Sheet.{version}
use Rattle.sheet.specs.Refusal.{form_refusal}
use Rattle.check_numbers.proofs.check_form.Goals as goal

pub returns-then-sheet-lt9 : goal.returns-then-sheet-lt9
unfolding form_refusal
returns-then-sheet-lt9 c = let s = c.args.sheet.now in simp (lt-ltb (length s) 9 (omega arith))

pub returns-then-sheet-ne80 : goal.returns-then-sheet-ne80
unfolding form_refusal
returns-then-sheet-ne80 c = let s = c.args.sheet.now in simp (le-ltb (length s) 9 (omega arith), ne_eqb (byte_at s 0) 80 (omega arith))

pub returns-then-sheet-ne65 : goal.returns-then-sheet-ne65
unfolding form_refusal
returns-then-sheet-ne65 c = let s = c.args.sheet.now in simp (le-ltb (length s) 9 (omega arith), eq-eqb (byte_at s 0) 80 (omega arith), ne_eqb (byte_at s 1) 65 (omega arith))

pub returns-then-sheet-ne83 : goal.returns-then-sheet-ne83
unfolding form_refusal
returns-then-sheet-ne83 c = let s = c.args.sheet.now in simp (le-ltb (length s) 9 (omega arith), eq-eqb (byte_at s 0) 80 (omega arith), eq-eqb (byte_at s 1) 65 (omega arith), ne_eqb (byte_at s 2) 83 (omega arith))

pub returns-then-version-eq1 : goal.returns-then-version-eq1
unfolding form_refusal
returns-then-version-eq1 c = let s = c.args.sheet.now in simp (le-ltb (length s) 9 (omega arith), eq-eqb (byte_at s 0) 80 (omega arith), eq-eqb (byte_at s 1) 65 (omega arith), eq-eqb (byte_at s 2) 83 (omega arith), eq-eqb (version s) 1 (omega arith), ne_eqb (version s) 2 (omega arith))

pub returns-then-version-ne2 : goal.returns-then-version-ne2
unfolding form_refusal
returns-then-version-ne2 c = let s = c.args.sheet.now in simp (le-ltb (length s) 9 (omega arith), eq-eqb (byte_at s 0) 80 (omega arith), eq-eqb (byte_at s 1) 65 (omega arith), eq-eqb (byte_at s 2) 83 (omega arith), ne_eqb (version s) 1 (omega arith), ne_eqb (version s) 2 (omega arith))

pub returns-then-sheet-lt13 : goal.returns-then-sheet-lt13
unfolding form_refusal
returns-then-sheet-lt13 c = let s = c.args.sheet.now in simp (le-ltb (length s) 9 (omega arith), eq-eqb (byte_at s 0) 80 (omega arith), eq-eqb (byte_at s 1) 65 (omega arith), eq-eqb (byte_at s 2) 83 (omega arith), ne_eqb (version s) 1 (omega arith), eq-eqb (version s) 2 (omega arith), lt-ltb (length s) 13 (omega arith))

pub returns : goal.returns
unfolding form_refusal
returns c = let s = c.args.sheet.now in simp (le-ltb (length s) 9 (omega arith), eq-eqb (byte_at s 0) 80 (omega arith), eq-eqb (byte_at s 1) 65 (omega arith), eq-eqb (byte_at s 2) 83 (omega arith), ne_eqb (version s) 1 (omega arith), eq-eqb (version s) 2 (omega arith), le-ltb (length s) 13 (omega arith))
