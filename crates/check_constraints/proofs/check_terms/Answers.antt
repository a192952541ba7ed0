-- `check_constraints::check_terms` meets its contract: each way out rewrites the definition with the tests that led there.
-- Assumes nothing.
use mathlib.Core.Bool.{and-false}
use borrow.Author.Tests.{eq-eqb, ne_eqb}
use Rattle.sheet.specs.Refusal.{fields_refusal}
use Rattle.check_constraints.proofs.check_terms.Goals as goal

pub returns-then-not-in_range : goal.returns-then-not-in_range
unfolding fields_refusal
returns-then-not-in_range c = simp (← c.in_range.ensures, c.if-not-in_range.true)

pub returns-then-other-owner : goal.returns-then-other-owner
unfolding fields_refusal
returns-then-other-owner c = simp (← c.in_range.ensures, c.if-not-in_range.false, eq-eqb _ _ c.if-other-owner.true)

pub returns-then-others-ne0 : goal.returns-then-others-ne0
unfolding fields_refusal
returns-then-others-ne0 c = simp (← c.in_range.ensures, c.if-not-in_range.false, ne_eqb _ _ c.if-other-owner.false, eq-eqb _ _ c.if-other-eq0.true, ne_eqb _ _ c.if-others-ne0.true)

pub returns-then-own-eq0 : goal.returns-then-own-eq0
unfolding fields_refusal
returns-then-own-eq0 c = simp (← c.in_range.ensures, c.if-not-in_range.false, ne_eqb _ _ c.if-other-owner.false, eq-eqb _ _ c.if-other-eq0.true, eq-eqb _ _ c.if-others-ne0.false, eq-eqb _ _ c.if-own-eq0.true)

pub returns-then-other-eq0 : goal.returns-then-other-eq0
unfolding fields_refusal
returns-then-other-eq0 c = simp (← c.in_range.ensures, c.if-not-in_range.false, ne_eqb _ _ c.if-other-owner.false, eq-eqb _ _ c.if-other-eq0.true, eq-eqb _ _ c.if-others-ne0.false, ne_eqb _ _ c.if-own-eq0.false)

pub returns-then-others-eq0 : goal.returns-then-others-eq0
unfolding fields_refusal
returns-then-others-eq0 c = simp (← c.in_range.ensures, c.if-not-in_range.false, ne_eqb _ _ c.if-other-owner.false, ne_eqb _ _ c.if-other-eq0.false, eq-eqb _ _ c.if-others-eq0.true)

pub returns : goal.returns
unfolding fields_refusal
returns c = simp (← c.in_range.ensures, c.if-not-in_range.false, ne_eqb _ _ c.if-other-owner.false, ne_eqb _ _ c.if-other-eq0.false, ne_eqb _ _ c.if-others-eq0.false, and-false)
