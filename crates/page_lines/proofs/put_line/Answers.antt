-- `page_lines::put_line` meets its contract: three fields, each put where the one before it ends. Assumes nothing.
use native.Mathlib.Omega.{arith}
use Rattle.page_lines.specs.Lines.{space, newline, field, line}
use Rattle.page_lines.proofs.LinesLaws.{line-length}
use Rattle.page_lines.proofs.PutLaws.{put_third}
use Rattle.page_lines.proofs.put_line.Goals as goal

pub put_field-after_slot-requires : goal.put_field-after_slot-requires
put_field-after_slot-requires c =
    let room = line-length c.args.slot c.args.bidder c.args.price in
    omega arith

pub put_field-after_bidder-requires : goal.put_field-after_bidder-requires
put_field-after_bidder-requires c =
    let args = c.args in
    let room = line-length args.slot args.bidder args.price in
    let first = c.put_field-after_slot.ensures in
    omega (arith, c.put_field-after_slot.auto.text)

pub put_field-requires : goal.put_field-requires
put_field-requires c =
    let args = c.args in
    let put-field = c.put_field-after_slot in
    let room = line-length args.slot args.bidder args.price in
    let first = put-field.ensures in
    let second = c.put_field-after_bidder.ensures in
    omega (arith, put-field.auto.text, c.put_field-after_bidder.auto.text)

pub returns : goal.returns
unfolding line
returns c =
    let args = c.args in
    let put-field = c.put_field-after_slot in
    let put_field2 = c.put_field-after_bidder in
    put_third (field args.slot space) (field args.bidder space) (field args.price newline)
    args.text.now put-field.new.text put_field2.new.text c.put_field.new.text
    args.at put-field.result put_field2.result c.put_field.result
    put-field.ensures put_field2.ensures c.put_field.ensures
