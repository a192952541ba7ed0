use Prim.Native.Nat.{ℕ, ◌+◌, ◌*◌, ◌-◌, ◌%◌, ◌^◌}
use mathlib.Core.Path.{◌≡◌, ◌∙◌, ap, ap₂}
use native.Mathlib.Omega.{arith}
use lib.Bits.{bit_or}
use Rattle.best_clash.specs.EngineMarks.{reaches}
use native.Mathlib.Numerals.{add-one}
use Rattle.best_seats.proofs.TakeLaws.{taken_below, taken_is}
use Rattle.best_clash.proofs.RowLaws.{no_seats, seats_more}
use Rattle.best_clash.proofs.reached_seats.Invariants.{open'}
use Rattle.best_clash.proofs.reached_seats.Goals as goal

pub loop-k-init : goal.loop-k-init
loop-k-init c = no_seats _

pub loop-k-preserved : goal.loop-k-preserved
loop-k-preserved c =
    let k = c.loop-k.k in
    let inside = taken_below _ _ _ c.loop-k-test.true in
    let test = open' c.args.ranked.now c.args.bids.now c.args.floors.now c.args.bidders in
    let floor = taken_is _ _ _ c.loop-k-test.true 0 in
    let few = c.requires.0 in
    let short = c.requires.1 in
    let low = c.reaching.ensures.0 in
    let next : k + 1 - 1 ≡ k = omega arith in
    let more = c.either-all.ensures
    ∙ ap (bit_or c.loop-k.all.0) (c.at_slot.ensures ∙ ap₂ (λ (n l : ℕ). n * 2 ^ (8 * l) % 2 ^ 64) c.first_ranks-ranks.ensures next) in
    rw (add-one, more)
    (seats_more test c.loop-k.all.0 k c.reaching.result (omega arith) (omega arith)
    (λ i. c.reaching.ensures.1 i ∙ ap (λ (f : ℕ). reaches c.args.bids.now c.args.ranked.now c.args.bidders f i) floor)
    c.loop-k.invariant)
