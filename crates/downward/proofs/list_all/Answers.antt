use Prim.Native.Nat.{ℕ}
use borrow.Author.Tests.{eqb-true, eqb-false}
use mathlib.Core.Path.{◌≡◌, refl, sym, ◌∙◌, ap, subst}
use native.Mathlib.Nat.{le_antisymm}
use native.Mathlib.Numerals.{add-one}
use native.Mathlib.Omega.{arith}
use Rattle.sheet.specs.declared.Constraint.{Constraint}
use Rattle.sheet.specs.Round.{round_of, constraint_at}
use Rattle.sheet.specs.Proper.{Proper}
use Rattle.sheet.proofs.AcceptedLaws.{accepted-sheet}
use Rattle.sheet.proofs.RoundLaws.{round_constraint, round_proper}
use Rattle.downward.specs.EngineListed.{Listed}
use Rattle.downward.proofs.ListedLaws.{kind_in_range, none_listed, own_listed, other-passed}
use Rattle.downward.proofs.list_all.Goals.{After-constraint_at-constraint, then-eq, else-eq}
use Rattle.downward.proofs.list_all.Goals as goal

-- the constraint that a turn reads is the round's
read : (c : After-constraint_at-constraint) →
    c.constraint_at-constraint.result ≡ constraint_at (round_of c.args.sheet.now) c.loop-i.i
read c = c.constraint_at-constraint.ensures ∙ sym (round_constraint _ c.requires.2 _ (omega arith))

-- and proper
read_proper : (c : After-constraint_at-constraint) → Proper c.constraint_at-constraint.result
unfolding round_of
read_proper c =
    subst Proper (sym (read c)) ((round_proper _ c.requires.2).proper _ (c.loop-i.i, omega arith, refl))

pub loop-i-init : goal.loop-i-init
loop-i-init c = (let p = c.requires in none_listed _ _ _ p.0 p.1)

pub constraint_at-constraint-requires : goal.constraint_at-constraint-requires
constraint_at-constraint-requires c = (c.constraints_start-start.ensures, omega (arith, (accepted-sheet _ c.requires.2).counts))

pub list-requires : goal.list-requires
list-requires c =
    let q = c.constraint_at-constraint.result in
    (c.loop-i.invariant.sized, kind_in_range q.owner.0 q.kind (read_proper (goal.at.list-requires c).After-constraint_at-constraint).parts)

pub loop-i-preserved : goal.loop-i-preserved
loop-i-preserved c =
    let v = c.loop-i.invariant in
    let same = read (goal.at.loop-i-preserved c).After-constraint_at-constraint in
    let owner = ap (λ (q : Constraint). q.owner.0) same in
    let next = add-one c.loop-i.i in
    elim c.if-eq.branch [
      | then-eq w ↦
          rw (w.listed-is, next)
          (own_listed _ _ _ _ v _ w.list.ensures.0 (sym owner ∙ eqb-true _ _ (sym c.eq.ensures ∙ w.if-eq.true))
          (rw same at w.list.ensures.1))
      | else-eq w ↦ rw (w.listed-is, next) (other-passed _ _ _ _ v (λ own. eqb-false _ _ (sym c.eq.ensures ∙ w.if-eq.false) (owner ∙ own)))
    ]

pub returns : goal.returns
unfolding round_of
returns c =
    subst (λ (n : ℕ). Listed (round_of c.args.sheet.now) c.args.bidder.0 n c.loop-i.listed) (le_antisymm c.loop-i.auto.i-end c.loop-i-test.false ∙ c.constraint_count-used.ensures) c.loop-i.invariant
