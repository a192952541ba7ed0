use Prim.Native.Nat.{◌+◌, ◌-◌, ◌<◌, ◌≤◌}
use mathlib.Core.Path.{◌≡◌, sym, ◌∙◌, ap}
use native.Mathlib.Omega.{arith}
use lib.ListN.{length, get_or}
use Rattle.choice.specs.EngineBids.{bid_in}
use Rattle.choice.proofs.PlacingLaws.{bid_index}
use Rattle.best_clash.proofs.RowLaws.{reach_first}
use Rattle.best_clash.proofs.reaching.Goals.{After-ranked_at-bidder}
use Rattle.best_clash.proofs.reaching.Goals as goal

-- the bidder that a turn reads has a bid, which is that of its rank
read : (c : After-ranked_at-bidder) →
    (0 < c.ranked_at-bidder.result.0) × (c.ranked_at-bidder.result.0 ≤ length c.args.bids.now)
read c =
    let within = c.loop-rank.auto.rank in
    let named = c.requires.1.named (c.loop-rank.rank - 1) (omega arith) in
    let e = c.ranked_at-bidder.ensures in
    (omega arith, omega arith)

bid_read : (c : After-ranked_at-bidder) →
    get_or c.args.bids.now (c.ranked_at-bidder.result.0 - 1) 0
    ≡ bid_in c.args.bids.now (get_or c.args.ranked.now (c.loop-rank.rank - 1) 0)
bid_read c = sym (bid_index _ _ (read c).0) ∙ ap (bid_in _) c.ranked_at-bidder.ensures

pub returns-then-floor-bids : goal.returns-then-floor-bids
returns-then-floor-bids c =
    let a = c.args in
    let some = c.loop-rank-test.true in
    let within = c.loop-rank.auto.rank in
    let bid = bid_read (goal.at.returns-then-floor-bids c).After-ranked_at-bidder in
    let count : c.loop-rank.rank - 1 + 1 ≡ c.loop-rank.rank = omega arith in
    rw count (within, reach_first a.bids.now a.ranked.now a.bidders a.floor c.loop-rank.rank within (λ i l. (let more = c.requires.1.falls i (c.loop-rank.rank - 1) (omega arith) (omega arith) in let high = c.if-floor-bids.true in omega arith)) c.loop-rank.invariant)
