-- `page_lines::refused_line` meets its contract: the word, and the number's field where it ends, both at the front. Assumes nothing.
use Rattle.std.proofs.Common.{ℕ, length, ap, length-append, length-drop, arith}
use Rattle.page_lines.specs.Lines.{newline, field, refused_word, refused_line}
use Rattle.page_lines.proofs.LinesLaws.{refused-length, refused_short}
use Rattle.page_lines.proofs.PutLaws.{front_put, put_after, put_in_front}
use Rattle.page_lines.proofs.refused_line.Goals as goal

pub put_field-requires : goal.put_field-requires
put_field-requires c =
    let room = refused_short c.args.number (omega arith) in
    let whole = refused-length c.args.number in
    let word = ap length c.copy_from_slice.ensures.after in
    omega (arith, length-append {A = ℕ}, length-drop {A = ℕ})

pub returns : goal.returns
unfolding refused_line
returns c =
    let args = c.args in
    let room = refused_short args.number (omega arith) in
    let word = front_put refused_word _ args.text.now c.copy_from_slice.ensures.after (omega arith) in
    put_in_front (refused_line args.number) args.text.now c.put_field.new.text c.put_field.result (omega arith)
    (put_after refused_word (field args.number newline) args.text.now _ c.put_field.new.text 0 8 c.put_field.result word c.put_field.ensures)
