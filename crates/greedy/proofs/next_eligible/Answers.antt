use Prim.Native.Nat.{ℕ, ◌<◌, ◌≤◌}
use mathlib.Core.Bool.{false}
use mathlib.Core.List.{List}
use mathlib.Core.Logic.{⊎_elim}
use mathlib.Core.Path.{◌≡◌, sym, ◌∙◌, ap}
use borrow.Author.Tests.{eq-eqb}
use native.Mathlib.Nat.{eq-or-lt_of_le}
use native.Mathlib.Omega.{arith}
use lib.ListN.{get_or}
use lib.Dec.{eqb}
use Rattle.sheet.specs.declared.Page.{Page}
use Rattle.sheet.specs.declared.Round.{Round}
use Rattle.basis.proofs.NumberLaws.{below_or_not}
use Rattle.basis.proofs.TestLaws.{fails}
use Rattle.sheet.specs.Round.{bid_of, floor_of}
use Rattle.choice.specs.EngineBids.{bid_in}
use Rattle.choice.specs.EngineRanking.{InOrder}
use Rattle.choice.proofs.RankingLaws.{ranked-falls}
use Rattle.auction.specs.declared.Eligibility.{Eligibility}
use Rattle.auction.specs.declared.Eligibility.TheVariants.{Eligible, Placed, EarlierWinners, Own, BelowFloor}
use Rattle.auction.specs.Eligible.{first_failed, failed_test, eligible}
use Rattle.auction.proofs.BrokenLaws.{eligible-reaches, fourth_below}
use Rattle.greedy.specs.EngineEligible.{SoFar}
use Rattle.greedy.proofs.EligibleLaws.{lent_bid}
use Rattle.greedy.proofs.next_eligible.Goals.{After-eligibility-answer}
use Rattle.greedy.proofs.next_eligible.Goals as goal

-- what the step said of the bidder at this rank
answered : (c : After-eligibility-answer) (q : Round) (p : Page) →
    let given = c.args in
    SoFar q p given.sheet.now given.barred.now given.held.now given.bids.now given.asks given.slot.0 →
    (a : Eligibility) → c.eligibility-answer.result ≡ a → failed_test a ≡ first_failed q p given.slot.0 (get_or given.ranked.now c.loop-rank.rank 0)
answered c q p far a e =
    ap failed_test (sym e)
    ∙ c.eligibility-answer.ensures q p far
    ∙ ap (first_failed q p c.args.slot.0) c.ranked_at-bidder.ensures

-- from a bidder below the floor on nobody is eligible
below_from : (q : Round) (p : Page) (s ranked barred held bids : List ℕ) (asks bidders slot i j : ℕ) → SoFar q p s barred held bids asks slot →
    InOrder (bid_in bids) bidders ranked → bid_of q (get_or ranked i 0) < floor_of q slot → i ≤ j → j < bidders → eligible q p slot (get_or ranked j 0) ≡ false
below_from q p s ranked barred held bids asks bidders slot i j far o below m l =
    let b = get_or ranked j 0 in
    let no_more : bid_in bids b ≤ bid_in bids (get_or ranked i 0) = ranked-falls (bid_in bids) bidders ranked o i j m l in
    let lower = lent_bid q bids far.bids_are (get_or ranked i 0) in
    let bid = lent_bid q bids far.bids_are b in
    fails (eligible q p slot b) (λ e. let reaches = eligible-reaches q p slot b e in absurd (omega arith))

pub returns-in-Eligible-clause-next_at : goal.returns-in-Eligible-clause-next_at
unfolding failed_test eligible
returns-in-Eligible-clause-next_at c = λ q p far.
    record {
      low = omega arith;
      high = omega arith;
      passed = c.loop-rank.invariant q p far;
      here = λ below. eq-eqb _ 0 (sym (answered (goal.at.returns-in-Eligible-clause-next_at c).After-eligibility-answer q p far Eligible c.in-Eligible.is));
    }

pub returns-in-BelowFloor-clause-next_at : goal.returns-in-BelowFloor-clause-next_at
unfolding failed_test
returns-in-BelowFloor-clause-next_at c = λ q p far.
    let rank = c.loop-rank.rank in
    let below = fourth_below q p c.args.slot.0 _ (sym (answered (goal.at.returns-in-BelowFloor-clause-next_at c).After-eligibility-answer q p far BelowFloor c.in-BelowFloor.is)) in
    record {
      low = omega arith;
      high = omega arith;
      passed = λ j from under.
          ⊎_elim
          (λ (l : j < rank). c.loop-rank.invariant q p far j from l)
          (λ (l : rank ≤ j). below_from q p _ _ _ _ _ _ _ _ _ j far c.requires.in_order below l under)
          (below_or_not j rank);
      here = λ more. absurd (omega arith);
    }

pub loop-rank-preserved : goal.loop-rank-preserved
unfolding failed_test eligible
loop-rank-preserved c = λ q p far.
    let rank = c.loop-rank.rank in
    let told = answered (goal.at.loop-rank-preserved c).After-eligibility-answer q p far in
    let out : eligible q p c.args.slot.0 (get_or c.args.ranked.now rank 0) ≡ false =
    ⊎_elim
    (λ e. ap (λ (x : ℕ). eqb x 0) (sym (told Placed e)))
    (λ o. ⊎_elim (λ e. ap (λ (x : ℕ). eqb x 0) (sym (told EarlierWinners e))) (λ e. ap (λ (x : ℕ). eqb x 0) (sym (told Own e))) o)
    c.in-Placed.is in
    λ j from under.
    ⊎_elim
    (λ (e : j ≡ rank). ap (λ (z : ℕ). eligible q p c.args.slot.0 (get_or c.args.ranked.now z 0)) e ∙ out)
    (λ (lt : j < rank). c.loop-rank.invariant q p far j from lt)
    (eq-or-lt_of_le (let s : j ≤ rank = omega arith in s))
