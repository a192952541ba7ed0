-- `best_clash::reaching` meets its contract: the ranks are gone through from the last, and the ones passed do not reach the floor; who reaches it first bids no
-- more than those before it. Assumes nothing.
use Prim.Native.Nat.{ℕ, ◌<◌, ◌≤◌}
use lib.ListN.{get_or}
use Rattle.choice.specs.EngineBids.{bid_in}
use Rattle.best_clash.proofs.reaching.Given as goal

-- the ranks from `rank` on do not reach the floor
abbrev pub invariant-loop-rank : goal.invariant-loop-rank
invariant-loop-rank l = (i : ℕ) → l.rank ≤ i → i < l.bidders → bid_in l.bids (get_or l.ranked i 0) < l.floor
