-- `greedy::is_below` meets its contract: the candidate's bid stands at the index before its number. Assumes nothing.
use Prim.Native.Nat.{ℕ}
use mathlib.Core.Path.{sym, ap}
use lib.Dec.{ltb}
use Rattle.choice.proofs.PlacingLaws.{bid_index}
use Rattle.greedy.proofs.is_below.Goals as goal

pub returns : goal.returns
returns c =
    let a = c.args in
    ap (λ (x : ℕ). ltb x a.asks) (sym (bid_index a.bids.now a.bidder.0 c.requires.0))
