-- Sets of laws that functions name for their proofs. Assumes nothing.
use Rattle.basis.proofs.BitLaws.{bit_of-bit_or, bit_shr}
use Rattle.sheet.proofs.AcceptedLaws.{accepted-sheet}
use Rattle.best_clash.proofs.TableLaws.{no_shuts}

-- the bits of an or, and of what is shifted down
pub ruleset words = (bit_of-bit_or, bit_shr)

-- what an accepted sheet has, and what shuts nothing
pub ruleset tables = (accepted-sheet, no_shuts)
