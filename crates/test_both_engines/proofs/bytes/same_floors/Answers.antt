-- The floors that have passed are the same.
use Rattle.std.proofs.Common.{sym, ◌∙◌, arith, below_more}
use Rattle.basis.proofs.TestLaws.{at_all}
use Rattle.test_both_engines.specs.Bytes.{same_at, same_bytes}
use Rattle.test_both_engines.proofs.BytesLaws.{one_failed, is_same, is_other}
use Rattle.test_both_engines.proofs.bytes.same_floors.Goals as goal

pub returns-then-of : goal.returns-then-of
unfolding same_bytes
returns-then-of c =
    sym
    (one_failed (same_at c.args.first.now c.args.second.now) c.args.count c.loop-at.at (omega arith)
    (is_other _ _ c.loop-at.at (λ q. c.if-of.true (c.of.ensures ∙ q ∙ sym c.of-in-loop-at.ensures))))

pub loop-at-preserved : goal.loop-at-preserved
loop-at-preserved c =
    below_more _ _ c.loop-at.invariant
    (is_same _ _ c.loop-at.at (sym c.of.ensures ∙ c.if-of.false ∙ c.of-in-loop-at.ensures))

pub returns : goal.returns
unfolding same_bytes
returns c = sym (at_all (same_at c.args.first.now c.args.second.now) c.args.count (λ k l. c.loop-at.invariant k (omega arith)))
