use Prim.Native.Nat.{ℕ}
use borrow.Author.Count.{below_more}
use mathlib.Core.Bool.{true≢false}
use mathlib.Core.Logic.{inl, inr}
use mathlib.Core.Path.{◌≡◌, refl, sym, subst}
use native.Mathlib.Numerals.{add-one}
use native.Mathlib.Omega.{arith}
use lib.ListN.{length}
use Rattle.basis.proofs.TestLaws.{not_both}
use Rattle.bidder_sets.specs.BidderSets.{in_set}
use Rattle.bidder_sets.specs.EngineSets.{Holds}
use Rattle.bidder_sets.proofs.NumberedLaws.{wrong_at_lem, numbered_right}
use Rattle.bidder_sets.proofs.SetLaws.{among, none-among, next-among}
use Rattle.bidder_sets.proofs.read.Goals.{then-number-eq0-via-then-number-eq0, then-number-eq0-via-else-number-eq0+then-n-from}
use Rattle.bidder_sets.proofs.read.Goals as goal

pub loop-number-init : goal.loop-number-init
loop-number-init c = record { right = λ j l. absurd (omega arith); held = none-among c.args.set.now }

pub returns-then-number-eq0-clause-wrong : goal.returns-then-number-eq0-clause-wrong
returns-then-number-eq0-clause-wrong c =
    let told = wrong_at_lem c.args.n c.args.set.now c.loop-number.number-index c.loop-number-test.true in
    elim c.then-number-eq0.branch [
      | then-number-eq0-via-then-number-eq0 w ↦ (λ _. told (inl w.if-number-eq0.true), λ _. refl)
      | then-number-eq0-via-else-number-eq0+then-n-from w ↦ (λ _. told (inr (omega arith)), λ _. refl)
    ]

pub loop-number-preserved : goal.loop-number-preserved
loop-number-preserved c =
    let turn = c.loop-number in
    record {
      right = below_more _ _ turn.invariant.right (omega arith, omega arith);
      held =
          subst (λ (k : ℕ). Holds c.with-bidders.result.0 (among c.args.set.now k)) (sym (add-one turn.number-index))
          (next-among c.args.set.now turn.number-index turn.bidders.0 c.with-bidders.result.0 turn.invariant.held
          (rw c.from-in-loop-number.ensures at c.with-bidders.ensures));
    }

pub returns-clause-wrong : goal.returns-clause-wrong
returns-clause-wrong c =
    let right = numbered_right c.args.n c.args.set.now (λ j l. c.loop-number.invariant.right j (omega arith)) in
    (λ z. absurd (true≢false z), λ t. absurd (not_both t right))

pub returns-clause-named : goal.returns-clause-named
unfolding in_set
returns-clause-named c =
    let all : c.loop-number.number-index ≡ length c.args.set.now = omega arith in
    subst (λ (k : ℕ). Holds c.loop-number.bidders.0 (among c.args.set.now k)) all c.loop-number.invariant.held
