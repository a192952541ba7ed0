-- `basis::word32` meets its contract: each byte is below 256, so the sum fits, and it is the definition's. Assumes nothing.
use borrow.Author.Rules.{rules}
use Rattle.basis.specs.Bytes.{word32_at}
use Rattle.basis.proofs.word32.Goals as goal

pub returns : goal.returns
unfolding word32_at
returns c = search rules
