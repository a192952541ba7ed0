-- `downward::is_downward` meets its contract: the test over the sets of listed slots is the test over the list, and the sheet's other parts
-- are those up to bidder n at slot 16. Assumes nothing.
use Prim.Native.Nat.{ℕ, ◌+◌, ◌*◌}
use mathlib.Core.Bool.{not}
use mathlib.Core.Path.{sym, ◌∙◌, ap}
use native.Mathlib.Omega.{arith}
use lib.ListN.{length-replicate}
use Rattle.sheet.specs.Sheet.{bidder_count}
use Rattle.sheet.specs.Round.{round_of}
use Rattle.sheet.proofs.AcceptedLaws.{accepted-sheet}
use Rattle.sheet.proofs.RoundLaws.{round_proper}
use Rattle.sheet_read.proofs.RoomLaws.{room}
use Rattle.basis.proofs.RowLaws.{zeros}
use Rattle.downward.proofs.ListedLaws.{sheet-part-below, first-sets, downward_listed}
use Rattle.downward.proofs.is_downward.Goals as goal

pub bounds-sheet-5 : goal.bounds-sheet-5
bounds-sheet-5 c = omega (arith, room _ c.requires)

pub bounds-sheet-6 : goal.bounds-sheet-6
bounds-sheet-6 c = omega (arith, room _ c.requires)

pub list_all-requires : goal.list_all-requires
list_all-requires c = (length-replicate {A = ℕ} 1041 0, zeros 1041, c.requires)

pub slice_bounds-listed-end : goal.slice_bounds-listed-end
slice_bounds-listed-end c =
    let few = (accepted-sheet _ c.requires).counts.most_bidders in
    let size = c.list_all.ensures.sized in
    omega arith

pub slice_bounds-any_missing-end : goal.slice_bounds-any_missing-end
slice_bounds-any_missing-end c =
    let few = (accepted-sheet _ c.requires).counts.most_bidders in
    sym (first-sets _ _ c.list_all.ensures.sized (omega arith))

pub any_missing-requires : goal.any_missing-requires
any_missing-requires c =
    let counts = (accepted-sheet _ c.requires).counts in
    (counts.some_slots, counts.most_slots)

pub returns : goal.returns
unfolding round_of
returns c =
    let s = c.args.sheet.now in
    let few = (accepted-sheet s c.requires).counts.most_bidders in
    ap not c.any_missing.ensures
    ∙ downward_listed (round_of s) c.args.bidder.0 (16 * bidder_count s + 17) c.list_all.new.listed
    (round_proper s c.requires) c.list_all.ensures (omega arith) (sheet-part-below s c.requires)
