-- `greedy::eligibility` meets its contract: who stands where, then the chain of the candidate at the slot, then the bars, then the
-- floor. Assumes nothing.
use Prim.Native.Nat.{ℕ}
use mathlib.Core.Bool.{Bool, ◌||◌}
use mathlib.Core.Path.{◌≡◌, sym, ◌∙◌, ap, ap₂}
use native.Mathlib.Omega.{arith}
use lib.Dec.{eqb, ltb}
use Rattle.basis.specs.First.{◌when◌otherwise◌}
use Rattle.sheet.specs.declared.Page.{Page}
use Rattle.sheet.specs.declared.Round.{Round}
use Rattle.sheet.specs.Round.{round_of}
use Rattle.choice.specs.EngineBids.{bid_in}
use Rattle.auction.specs.Eligible.{first_failed, failed_test}
use Rattle.greedy.specs.EngineEligible.{SoFar}
use Rattle.greedy_links.specs.EngineKeys.{key, is_marked}
use Rattle.greedy_links.specs.EngineLinks.{some_owner_of, named_for}
use Rattle.greedy.proofs.EligibleLaws.{first-placed, first_unplaced}
use Rattle.greedy.proofs.eligibility.Goals.{After-is_marked, After-is_marked-not_here}
use Rattle.greedy.proofs.eligibility.Goals as goal

-- who stands where was asked by the candidate's number
held_told : (c : After-is_marked) → c.is_marked.result ≡ is_marked c.args.held.now c.args.bidder.0
held_told c =
    let e = c.owner_key-anywhere.ensures in
    let any : c.owner_key-anywhere.result.0 ≡ c.args.bidder.0 = omega arith in
    c.is_marked.ensures ∙ ap (is_marked c.args.held.now) any

-- whom the bars keep from the slot, or from any, was asked by the candidate's two keys
bars_told : (c : After-is_marked-not_here) →
    (c.is_marked-never.result || c.is_marked-not_here.result)
    ≡ (is_marked c.args.barred.now c.args.bidder.0 || is_marked c.args.barred.now (key c.args.bidder.0 c.args.slot.0))
bars_told c =
    let a = c.args in
    let e = c.owner_key-anywhere.ensures in
    let any : c.owner_key-anywhere.result.0 ≡ a.bidder.0 = omega arith in
    ap₂ ◌||◌
    (c.is_marked-never.ensures ∙ ap (is_marked a.barred.now) any)
    (c.is_marked-not_here.ensures ∙ ap (is_marked a.barred.now) c.owner_key-here.ensures)

-- the tests after the first, in their order, are the step's
later_tests : (c : After-is_marked-not_here) (q : Round) (p : Page) →
    let a = c.args in
    let named = c.named_by-named.result in
    SoFar q p a.sheet.now a.barred.now a.held.now a.bids.now a.asks a.slot.0 →
    (2 when named.earlier otherwise
    3 when named.itself || (c.is_marked-never.result || c.is_marked-not_here.result) otherwise
    4 when ltb (bid_in a.bids.now a.bidder.0) a.asks otherwise
    0)
    ≡ first_failed q p a.slot.0 a.bidder.0
later_tests c q p far =
    let a = c.args in
    let e = c.owner_key-anywhere.ensures in
    let any : c.owner_key-anywhere.result.0 ≡ a.bidder.0 = omega arith in
    let held : c.is_marked.result ≡ is_marked a.held.now a.bidder.0 = c.is_marked.ensures ∙ ap (is_marked a.held.now) any in
    let range = c.requires.bidder_nonzero in
    let named = c.named_by-named.result in
    let s = round_of a.sheet.now in
    ap
    (λ (t : Bool). 2 when named.earlier otherwise 3 when named.itself || t otherwise 4 when ltb (bid_in a.bids.now a.bidder.0) a.asks otherwise 0)
    (bars_told c)
    ∙ first_unplaced q p a.sheet.now a.barred.now a.held.now a.bids.now a.asks a.slot.0 a.bidder.0 far range.0.0 range.0.1 range.1.0 range.1.1
    (sym held ∙ c.if-is_marked.false)
    named
    (c.named_by-named.ensures
    ∙ ap (λ (x : ℕ). named_for (some_owner_of s x (is_marked a.held.now) s.used) (some_owner_of s x (λ y. eqb y 0) s.used)) c.chain_key-chain.ensures)

pub returns-then-is_marked : goal.returns-then-is_marked
unfolding failed_test
returns-then-is_marked c = λ q p far.
    let a = c.args in
    let range = c.requires.bidder_nonzero in
    first-placed q p a.sheet.now a.barred.now a.held.now a.bids.now a.asks a.slot.0 a.bidder.0 far range.0.0 range.0.1 range.1.0 range.1.1
    (sym (held_told (goal.at.returns-then-is_marked c).After-is_marked) ∙ c.if-is_marked.true)

pub returns-then-earlier : goal.returns-then-earlier
unfolding failed_test
returns-then-earlier c = λ q p far. sym (simp c.if-earlier.true) ∙ later_tests (goal.at.returns-then-earlier c).After-is_marked-not_here q p far

pub returns-then-own : goal.returns-then-own
unfolding failed_test
returns-then-own c = λ q p far. sym (simp (c.if-earlier.false, c.if-own.true)) ∙ later_tests (goal.at.returns-then-own c).After-is_marked-not_here q p far

pub returns-then-is_below : goal.returns-then-is_below
unfolding failed_test
returns-then-is_below c = λ q p far.
    sym (simp (c.if-earlier.false, c.if-own.false, sym c.is_below.ensures ∙ c.if-is_below.true)) ∙ later_tests (goal.at.returns-then-is_below c).After-is_marked-not_here q p far

pub returns : goal.returns
unfolding failed_test
returns c = λ q p far.
    sym (simp (c.if-earlier.false, c.if-own.false, sym c.is_below.ensures ∙ c.if-is_below.false)) ∙ later_tests (goal.at.returns c).After-is_marked-not_here q p far
