-- `check_constraints::in_range` meets its contract: each way out rewrites the definition with the tests that led there.
-- Assumes nothing.
use borrow.Author.Tests.{eq-eqb, ne_eqb, lt-ltb, le-ltb}
use Rattle.sheet.specs.Refusal.{in_range}
use Rattle.check_constraints.proofs.in_range.Goals as goal

pub returns-then-owner-eq0 : goal.returns-then-owner-eq0
unfolding in_range
returns-then-owner-eq0 c = simp (eq-eqb _ _ c.if-owner-eq0.true)

pub returns-then-bidders-owner : goal.returns-then-bidders-owner
unfolding in_range
returns-then-bidders-owner c = simp (ne_eqb _ _ c.if-owner-eq0.false, lt-ltb _ _ c.if-bidders-owner.true)

pub returns-then-bidders-other : goal.returns-then-bidders-other
unfolding in_range
returns-then-bidders-other c = simp (ne_eqb _ _ c.if-owner-eq0.false, le-ltb _ _ c.if-bidders-owner.false, lt-ltb _ _ c.if-bidders-other.true)

pub returns-then-slots-own : goal.returns-then-slots-own
unfolding in_range
returns-then-slots-own c = simp (ne_eqb _ _ c.if-owner-eq0.false, le-ltb _ _ c.if-bidders-owner.false, le-ltb _ _ c.if-bidders-other.false, lt-ltb _ _ c.if-slots-own.true)

pub returns-then-slots-others : goal.returns-then-slots-others
unfolding in_range
returns-then-slots-others c = simp (ne_eqb _ _ c.if-owner-eq0.false, le-ltb _ _ c.if-bidders-owner.false, le-ltb _ _ c.if-bidders-other.false, le-ltb _ _ c.if-slots-own.false, lt-ltb _ _ c.if-slots-others.true)

pub returns : goal.returns
unfolding in_range
returns c = simp (ne_eqb _ _ c.if-owner-eq0.false, le-ltb _ _ c.if-bidders-owner.false, le-ltb _ _ c.if-bidders-other.false, le-ltb _ _ c.if-slots-own.false, le-ltb _ _ c.if-slots-others.false)
