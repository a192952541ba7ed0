-- The bytes that were read are themselves an input of which they are the first bytes, so what holds for every such input holds for
-- them. Assumes nothing.
use Prim.Native.Nat.{ℕ, ◌≤◌}
use mathlib.Core.List.{List}
use mathlib.Core.Path.{sym}
use native.Mathlib.Omega.{arith}
use lib.ListN.{length, take, length-take}
use lib.Seq.{take_all}
use Rattle.page_lines.proofs.PutLaws.{written-within}
use Rattle.page_job.specs.PageText.{page_text}
use Rattle.page_job.specs.Input.{FirstBytes, TextOfInput}

read-bytes-first : (room : List ℕ) (count : ℕ) → FirstBytes (take count room) room count
read-bytes-first room count =
    let size = length-take count room in
    sym (take_all (length room) (take count room) (omega arith))

-- an input's text ends within its buffer
pub text-within : (room : List ℕ) (count : ℕ) (text : List ℕ) (answer : ℕ) (text' : List ℕ) →
    TextOfInput room count text answer text' → answer ≤ length text'
text-within room count text answer text' w =
    written-within text (page_text (take count room)) text' answer (w.of_whole (take count room) (read-bytes-first room count))
