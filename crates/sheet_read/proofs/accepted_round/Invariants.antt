-- `sheet_read::accepted_round` meets its contract: acceptance keeps each read within the sheet, the effects and the bids are their readers',
-- and after k turns the constraints are the row of the first k with blanks after it. Assumes nothing.
use Prim.Native.Nat.{ℕ, suc}
use mathlib.Core.List.{List}
use mathlib.Core.Path.{◌≡◌}
use lib.ListN.{replicate}
use Rattle.basis.specs.Rows.{padded}
use Rattle.sheet.specs.declared.Constraint.{Constraint}
use Rattle.sheet.specs.declared.Round.{Round}
use Rattle.sheet.specs.Sheet.{version, bidder_count, slot_count, constraint_count, tick_field, effect_field, bid_field}
use Rattle.sheet.specs.Round.{blank, constraint_field}
use Rattle.sheet_read.proofs.accepted_round.Given as goal

-- the sheet's round but for its constraints
abbrev pub round_with : List ℕ → List Constraint → Round
round_with s constraints =
    record {
      bidders = bidder_count s;
      slots = slot_count s;
      used = constraint_count s;
      tick = tick_field s;
      version = version s;
      effects = padded (λ k. effect_field s (suc k)) (slot_count s) 16 0;
      floors = replicate 16 0;
      bids = padded (λ i. bid_field s (suc i)) (bidder_count s) 64 0;
      constraints = constraints;
    }

-- the round whose first k constraints are read
abbrev pub read_to : List ℕ → ℕ → Round
read_to s k = round_with s (padded (constraint_field s) k 1024 blank)

abbrev pub invariant-loop-k : goal.invariant-loop-k
invariant-loop-k l =
    l.round ≡ read_to l.sheet l.k
