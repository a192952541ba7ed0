-- `canonical::put_numbers` meets its contract: after k turns the bytes of the first k numbers stand at the offset, and the next are stored after
-- them. Assumes nothing.
use Rattle.std.proofs.Common.{◌≡◌}
use Rattle.std.proofs.lemmas.List.Edits.{sets}
use Rattle.canonical.specs.EngineParts.{numbers_bytes}
use Rattle.canonical.proofs.put_numbers.Given as goal

abbrev pub invariant-loop-k : goal.invariant-loop-k
invariant-loop-k l = l.res ≡ sets l.initial.res l.at (numbers_bytes l.numbers l.k)
