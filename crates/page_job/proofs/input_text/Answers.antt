-- `page_job::input_text` meets its contract: the text of the bytes kept is written, and since the room has 4,430 bytes or more, that is
-- the whole input's. Assumes nothing.
use Prim.Native.Nat.{ℕ}
use mathlib.Core.List.{List}
use mathlib.Core.Path.{◌∙◌, ap, subst}
use native.Mathlib.Omega.{arith}
use lib.ListN.{length}
use Rattle.page_lines.specs.Put.{Written}
use Rattle.page_job.specs.PageText.{page_text}
use Rattle.page_job.proofs.LongInputLaws.{first-bytes_decide}
use Rattle.page_job.proofs.input_text.Goals as goal

pub returns : goal.returns
returns c =
    let args = c.args in
    record {
      of_whole =
          λ input first.
          subst (λ (bytes : List ℕ). Written args.text.now bytes c.page_text.result c.page_text.new.text)
          (ap page_text first ∙ first-bytes_decide (length args.room.now) input (omega arith))
          c.page_text.ensures;
    }
