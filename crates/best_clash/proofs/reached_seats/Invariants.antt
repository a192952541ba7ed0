-- `best_clash::reached_seats` meets its contract: each turn adds the seats of one slot, those of the ranks that reach its floor. Assumes nothing.
use Prim.Native.Nat.{ℕ}
use mathlib.Core.Bool.{Bool}
use mathlib.Core.List.{List}
use lib.ListN.{get_or}
use Rattle.best_clash.specs.EngineMarks.{reaches}
use Rattle.best_clash.proofs.RowLaws.{SeatsTo}
use Rattle.best_clash.proofs.reached_seats.Given as goal

-- who reaches the floor of the slot with index l
abbrev pub open' : (ranked bids floors : List ℕ) → ℕ → ℕ → ℕ → Bool
open' ranked bids floors n l i = reaches bids ranked n (get_or floors l 0) i

-- the seats of the slots before this one
abbrev pub invariant-loop-k : goal.invariant-loop-k
invariant-loop-k l = SeatsTo (open' l.ranked l.bids l.floors l.bidders) l.all.0 l.k
