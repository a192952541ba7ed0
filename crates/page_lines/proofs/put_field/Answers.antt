-- `page_lines::put_field` meets its contract: the end byte is stored where the decimal text ends. Assumes nothing.
use native.Mathlib.Omega.{arith}
use Rattle.page_lines.specs.Decimal.{decimal}
use Rattle.page_lines.specs.Lines.{field}
use Rattle.page_lines.proofs.LinesLaws.{field-length}
use Rattle.page_lines.proofs.PutLaws.{put_byte_after}
use Rattle.page_lines.proofs.put_field.Goals as goal

pub put_decimal-after-requires : goal.put_decimal-after-requires
put_decimal-after-requires c =
    let room = field-length c.args.value c.args.end in
    omega arith

pub bounds-text-after : goal.bounds-text-after
bounds-text-after c =
    let args = c.args in
    let room = field-length args.value args.end in
    let put = c.put_decimal-after.ensures in
    omega (arith, c.put_decimal-after.auto.text)

pub overflow_add-result : goal.overflow_add-result
overflow_add-result c =
    let args = c.args in
    let room = field-length args.value args.end in
    let put = c.put_decimal-after.ensures in
    omega arith

pub returns : goal.returns
unfolding field
returns c =
    let args = c.args in
    put_byte_after (decimal args.value) args.text.now c.put_decimal-after.new.text args.at
    c.put_decimal-after.result args.end c.put_decimal-after.ensures
