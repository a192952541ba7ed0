-- `check_numbers::check_counts` meets its contract: each way out rewrites the definition with the tests that led there.
-- Assumes nothing.
use Prim.Native.Nat.{ℕ}
use borrow.Author.Tests.{eq-eqb, ne_eqb, lt-ltb, le-ltb}
use mathlib.Core.Bool.{Bool, ◌||◌}
use mathlib.Core.Path.{◌≡◌, sym, ◌∙◌, ap}
use native.Mathlib.Omega.{arith}
use lib.Dec.{eqb, ltb}
use lib.ListN.{length}
use Rattle.sheet.specs.Sheet.{bidder_count, slot_count, constraint_count, sheet_length}
use Rattle.sheet.specs.Refusal.{counts_refusal}
use Rattle.sheet.proofs.HeaderLaws.{start_most}
use Rattle.check_numbers.proofs.check_counts.Goals as goal

-- the test of a tick that is the sheet's
same_tick : {tick field : ℕ} {found : Bool} → tick ≡ field → (eqb tick 0 || ltb 1_000_000_000 tick) ≡ found →
    (eqb field 0 || ltb 1_000_000_000 field) ≡ found
same_tick e t = sym (ap (λ (x : ℕ). eqb x 0 || ltb 1_000_000_000 x) e) ∙ t

pub returns-then-bidders-eq0 : goal.returns-then-bidders-eq0
unfolding counts_refusal
returns-then-bidders-eq0 c = let s = c.args.sheet.now in simp (eq-eqb (bidder_count s) 0 (omega arith))

pub returns-then-bidders-gt-MAX_BIDDERS : goal.returns-then-bidders-gt-MAX_BIDDERS
unfolding counts_refusal
returns-then-bidders-gt-MAX_BIDDERS c = let s = c.args.sheet.now in simp (ne_eqb (bidder_count s) 0 (omega arith), lt-ltb 64 (bidder_count s) (omega arith))

pub returns-then-slots-eq0 : goal.returns-then-slots-eq0
unfolding counts_refusal
returns-then-slots-eq0 c = let s = c.args.sheet.now in simp (ne_eqb (bidder_count s) 0 (omega arith), le-ltb 64 (bidder_count s) (omega arith), eq-eqb (slot_count s) 0 (omega arith))

pub returns-then-slots-gt-MAX_SLOTS : goal.returns-then-slots-gt-MAX_SLOTS
unfolding counts_refusal
returns-then-slots-gt-MAX_SLOTS c = let s = c.args.sheet.now in simp (ne_eqb (bidder_count s) 0 (omega arith), le-ltb 64 (bidder_count s) (omega arith), ne_eqb (slot_count s) 0 (omega arith), lt-ltb 16 (slot_count s) (omega arith))

pub returns-then-constraints-gt-MAX_CONSTRAINTS : goal.returns-then-constraints-gt-MAX_CONSTRAINTS
unfolding counts_refusal
returns-then-constraints-gt-MAX_CONSTRAINTS c = let s = c.args.sheet.now in simp (ne_eqb (bidder_count s) 0 (omega arith), le-ltb 64 (bidder_count s) (omega arith), ne_eqb (slot_count s) 0 (omega arith), le-ltb 16 (slot_count s) (omega arith), lt-ltb 1024 (constraint_count s) (omega arith))

pub overflow_add-length-3 : goal.overflow_add-length-3
overflow_add-length-3 c = let most = start_most c.args.sheet.now in omega arith

pub returns-then-tick : goal.returns-then-tick
unfolding counts_refusal
returns-then-tick c = let s = c.args.sheet.now in simp (ne_eqb (bidder_count s) 0 (omega arith), le-ltb 64 (bidder_count s) (omega arith), ne_eqb (slot_count s) 0 (omega arith), le-ltb 16 (slot_count s) (omega arith), le-ltb 1024 (constraint_count s) (omega arith), same_tick c.requires.2 c.if-tick.true)

pub returns-then-sheet-length : goal.returns-then-sheet-length
unfolding counts_refusal
returns-then-sheet-length c = let s = c.args.sheet.now in simp (ne_eqb (bidder_count s) 0 (omega arith), le-ltb 64 (bidder_count s) (omega arith), ne_eqb (slot_count s) 0 (omega arith), le-ltb 16 (slot_count s) (omega arith), le-ltb 1024 (constraint_count s) (omega arith), same_tick c.requires.2 c.if-tick.false, ne_eqb (length s) (sheet_length s) (omega arith))

pub returns : goal.returns
unfolding counts_refusal
returns c = let s = c.args.sheet.now in simp (ne_eqb (bidder_count s) 0 (omega arith), le-ltb 64 (bidder_count s) (omega arith), ne_eqb (slot_count s) 0 (omega arith), le-ltb 16 (slot_count s) (omega arith), le-ltb 1024 (constraint_count s) (omega arith), same_tick c.requires.2 c.if-tick.false, eq-eqb (length s) (sheet_length s) (omega arith))
