-- `canonical::order_constraints` meets its contract: the numbers read are the constraints', sorted they are these in order, and each once they are
-- those of the conditions in order. Assumes nothing.
use Rattle.std.proofs.Common.{◌≡◌, ℕ, ◌≤◌, List, sym, arith}
use lib.ListN.{length-replicate}
use Rattle.sheet.specs.Sheet.{constraint_count}
use Rattle.sheet.specs.Refusal.{Accepted}
use Rattle.sheet.proofs.AcceptedLaws.{accepted-sheet}
use Rattle.canonical.proofs.PartLaws.{front-size, front_within, read_sized, read_front, read_low, sorted_some, sorted_order}
use Rattle.canonical.proofs.order_constraints.Goals as goal

few : (s : List ℕ) (count : ℕ) → Accepted s → count ≡ constraint_count s → count ≤ 1024
few s count ok many = let known = (accepted-sheet s ok).counts in omega arith

pub word16-count-requires : goal.word16-count-requires
word16-count-requires c = let header = (accepted-sheet _ c.requires.1).form.header in omega arith

pub slice_bounds-numbers-end : goal.slice_bounds-numbers-end
slice_bounds-numbers-end c = few c.args.sheet.now _ c.requires.1 c.word16-count.ensures.0

pub slice_bounds-read_numbers-end : goal.slice_bounds-read_numbers-end
slice_bounds-read_numbers-end c = sym (front-size _ _ (length-replicate {A = ℕ} 1024 0) (few c.args.sheet.now _ c.requires.1 c.word16-count.ensures.0))

pub read_numbers-requires : goal.read_numbers-requires
read_numbers-requires c =
    let known = (accepted-sheet _ c.requires.1).counts in
    let many = c.word16-count.ensures.0 in
    (c.requires.2, front_within _ _ (length-replicate {A = ℕ} 1024 0) (omega arith) _ _ (omega arith))

pub bounds-sheet-5 : goal.bounds-sheet-5
bounds-sheet-5 c = let header = (accepted-sheet _ c.requires.1).form.header in omega arith

pub bounds-sheet-6 : goal.bounds-sheet-6
bounds-sheet-6 c = let header = (accepted-sheet _ c.requires.1).form.header in omega arith

pub sort-requires-clause-numbers_len : goal.sort-requires-clause-numbers_len
sort-requires-clause-numbers_len c =
    let known = (accepted-sheet _ c.requires.1).counts in
    let many = c.word16-count.ensures.0 in
    (read_sized _ _ (length-replicate {A = ℕ} 1024 0) (omega arith) _ c.read_numbers.auto.numbers, c.requires.0, omega arith, omega arith, omega arith)

pub sort-requires-clause-digits_below : goal.sort-requires-clause-digits_below
sort-requires-clause-digits_below c =
    let many = c.word16-count.ensures.0 in
    let s = c.args.sheet.now in
    read_low s _ _ c.requires.1 many
    (read_front _ _ (length-replicate {A = ℕ} 1024 0) (few s _ c.requires.1 many) _ c.read_numbers.auto.numbers s c.read_numbers.ensures)

pub drop_repeats-requires : goal.drop_repeats-requires
drop_repeats-requires c =
    let sorted = c.sort.ensures in
    let many = c.word16-count.ensures.0 in
    let s = c.args.sheet.now in (
      sorted.0.sized,
      sorted.1,
      few s _ c.requires.1 many,
      sorted.0.no_fall,
      sorted_some s _ _ c.requires.1 many
          (read_front _ _ (length-replicate {A = ℕ} 1024 0) (few s _ c.requires.1 many) _ c.read_numbers.auto.numbers s c.read_numbers.ensures)
          _ sorted.0,
    )

pub returns : goal.returns
returns c =
    let kept = c.drop_repeats.ensures in
    let many = c.word16-count.ensures.0 in
    let s = c.args.sheet.now in
    let most = few s _ c.requires.1 many in (
      omega (arith, kept.0),
      sorted_order s _ _ c.requires.1 many
          (read_front _ _ (length-replicate {A = ℕ} 1024 0) most _ c.read_numbers.auto.numbers s c.read_numbers.ensures)
          _ c.sort.ensures.0 _ _ kept.1,
    )
