use mathlib.Core.Path.{◌≡◌, refl, sym, ◌∙◌, ap, subst}
use native.Mathlib.Nat.{le_antisymm}
use native.Mathlib.Numerals.{add-one}
use native.Mathlib.Omega.{arith}
use Rattle.basis.specs.Tests.{any_below}
use Rattle.basis.proofs.TestLaws.{any_at, or_fails}
use Rattle.sheet.specs.Round.{round_of, constraint_at}
use Rattle.sheet.specs.Proper.{Proper}
use Rattle.sheet.proofs.AcceptedLaws.{accepted-sheet}
use Rattle.sheet.proofs.RoundLaws.{round_constraint, round_proper}
use Rattle.auction.specs.Broken.{breaks_own}
use Rattle.gain.proofs.breaks_own.Invariants.{broken_at, ownBroken}
use Rattle.gain.proofs.breaks_own.Goals.{After-constraint_at-constraint, After-own_broken}
use Rattle.gain.proofs.breaks_own.Goals as goal

-- the constraint that a turn reads is the round's
read : (c : After-constraint_at-constraint) →
    c.constraint_at-constraint.result ≡ constraint_at (round_of c.args.truth.now) c.loop-a.a
read c = c.constraint_at-constraint.ensures ∙ sym (round_constraint _ c.requires.0 _ (omega arith))

-- and what it tests is the round's too
tested : (c : After-own_broken) → c.own_broken.result ≡ broken_at c.args.truth.now c.args.page c.args.bidder.0 c.loop-a.a
tested c =
    c.own_broken.ensures
    ∙ ap (ownBroken _ _) (c.constraint_at-constraint.ensures ∙ sym (round_constraint _ c.requires.0 _ (omega arith)))

pub loop-a-init : goal.loop-a-init
unfolding any_below
loop-a-init c = refl

pub constraint_at-constraint-requires : goal.constraint_at-constraint-requires
constraint_at-constraint-requires c = (c.constraints_start-start.ensures, omega (arith, (accepted-sheet _ c.requires.0).counts))

pub own_broken-requires : goal.own_broken-requires
unfolding round_of
own_broken-requires c = (
  subst Proper (sym (read (goal.at.own_broken-requires c).After-constraint_at-constraint)) ((round_proper _ c.requires.0).proper _ (c.loop-a.a, omega arith, refl)),
  c.requires.1,
)

pub returns-then-own_broken : goal.returns-then-own_broken
unfolding breaks_own round_of
returns-then-own_broken c = sym (any_at _ _ c.loop-a.a (omega arith) (sym (tested (goal.at.returns-then-own_broken c).After-own_broken) ∙ c.if-own_broken.true))

pub loop-a-preserved : goal.loop-a-preserved
unfolding any_below
loop-a-preserved c = rw (add-one c.loop-a.a) (or_fails c.loop-a.invariant (sym (tested (goal.at.loop-a-preserved c).After-own_broken) ∙ c.if-own_broken.false))

pub returns : goal.returns
unfolding breaks_own round_of
returns c =
    let v = c.loop-a.invariant in
    let all = sym c.constraint_count-used.ensures ∙ le_antisymm c.loop-a-test.false c.loop-a.auto.a-end in
    sym (ap (any_below _) all ∙ v)
