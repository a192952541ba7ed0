-- `check_constraints::is_faulty` meets its contract: tests that each find nothing leave no rule broken. Assumes nothing.
use Prim.Native.Nat.{◌/◌, ◌%◌}
use Rattle.check_constraints.proofs.FaultLaws.{no_fault}
use Rattle.check_constraints.proofs.is_faulty.Goals as goal

pub returns : goal.returns
returns c =
    let w = c.args.constraint in
    no_fault c.args.bidders c.args.slots (w % 256) (w / 256 % 256) (w / 65536 % 256) (w / 16777216)
