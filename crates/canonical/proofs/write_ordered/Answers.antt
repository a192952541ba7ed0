-- `canonical::write_ordered` meets its contract: what is stored is the header, the effects and bids as they stand and the constraints in order, one
-- after another, and so the written sheet; its length is theirs. Assumes nothing.
use Rattle.std.proofs.Common.{ℕ, ◌+◌, ◌*◌, ◌<◌, get_or, ◌∙◌, ap}
use native.Mathlib.Omega.{arith}
use lib.ListN.{length-replicate}
use Rattle.std.proofs.lemmas.List.Edits.{sets}
use Rattle.basis.specs.Bytes.{byte_at}
use Rattle.sheet.proofs.AcceptedLaws.{accepted-sheet}
use Rattle.canonical.proofs.PartLaws.{numbers_front, copied_from, body_end, body_room, ordered_size, ordered_written, buffer_short, sheet-written}
use Rattle.canonical.proofs.write_ordered.Goals as goal

pub bounds-sheet-5 : goal.bounds-sheet-5
bounds-sheet-5 c = let header = (accepted-sheet _ c.requires.0).form.header in omega arith

pub bounds-sheet-6 : goal.bounds-sheet-6
bounds-sheet-6 c = let header = (accepted-sheet _ c.requires.0).form.header in omega arith

pub order_constraints-constraints-requires : goal.order_constraints-constraints-requires
order_constraints-constraints-requires c =
    (length-replicate {A = ℕ} 1024 0, c.requires.0, body_end _ c.requires.0 c.requires.1)

pub returns-then-res-length : goal.returns-then-res-length
returns-then-res-length c =
    let size = ordered_size _ _ _ c.order_constraints-constraints.ensures.1 in
    buffer_short c.args.sheet.now c.args.res.now c.requires.0 (omega (arith, c.if-res-length.true))

pub bounds-sheet-5-2 : goal.bounds-sheet-5-2
bounds-sheet-5-2 c = let header = (accepted-sheet _ c.requires.0).form.header in omega arith

pub bounds-sheet-6-2 : goal.bounds-sheet-6-2
bounds-sheet-6-2 c = let header = (accepted-sheet _ c.requires.0).form.header in omega arith

pub slice_bounds-copy-end-2 : goal.slice_bounds-copy-end-2
slice_bounds-copy-end-2 c = body_room _ c.requires.0 c.requires.1

pub returns : goal.returns
returns c =
    let s = c.args.sheet.now in
    let out = c.args.res.now in
    let order = c.order_constraints-constraints.ensures.1 in
    let low : (i : ℕ) → byte_at s i < 256 = λ i. omega (arith, c.type_inv.sheet i) in
    let room = body_room s c.requires.0 c.requires.1 in
    let end = 13 + 4 * (get_or s 5 0 + get_or s 6 0) in
    let copy = copied_from _ _ s 13 9 _ c.copy.ensures room (omega arith) in
    let numbers = numbers_front c.order_constraints-constraints.new.ordered _ (omega arith) in
    sheet-written s out _ _ c.requires.0 (ordered_size s _ _ order) c.if-res-length.false
    (ordered_written s out _ _ _ _ _ c.requires.0 c.requires.1 low order
    c.put_header.ensures copy (c.put_numbers.ensures ∙ ap (sets _ end) numbers))
