-- `canonical::put_header` meets its contract: the bytes copied and those of the tick are the header's. Assumes nothing.
use Rattle.std.proofs.Common.{ℕ, List, length, ◌∙◌, ap, arith}
use Rattle.std.proofs.lemmas.List.Edits.{sets}
use Rattle.basis.specs.Bytes.{bytes32}
use Rattle.canonical.specs.EngineParts.{header_of}
use Rattle.canonical.proofs.PartLaws.{copied}
use Rattle.canonical.proofs.put_header.Goals as goal

pub returns : goal.returns
unfolding header_of bytes32
returns c =
    let after = c.copy_from_slice.ensures.after in
    c.put_word32.ensures
    ∙ ap (λ (l : List ℕ). sets l 9 (bytes32 1))
    (copied c.args.res.now _ 0 9 (omega (arith, ap length after)) (omega arith) ∙ ap (sets c.args.res.now 0) after)
