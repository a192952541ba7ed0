-- The bytes that have passed are the same.
use Rattle.std.proofs.Common.{sym, ◌∙◌, arith, below_more}
use Rattle.basis.proofs.TestLaws.{at_all}
use Rattle.test_both_engines.specs.Bytes.{same_at, same_bytes}
use Rattle.test_both_engines.proofs.BytesLaws.{one_failed, is_same, is_other}
use Rattle.test_both_engines.proofs.bytes.same.Goals as goal

pub returns-then-byte : goal.returns-then-byte
unfolding same_bytes
returns-then-byte c =
    sym
    (one_failed (same_at c.args.first.now c.args.second.now) c.args.count c.loop-at.at (omega arith)
    (is_other _ _ c.loop-at.at (λ q. c.if-byte.true (c.byte.ensures.0 ∙ q ∙ sym c.byte-in-loop-at.ensures.0))))

pub loop-at-preserved : goal.loop-at-preserved
loop-at-preserved c =
    below_more _ _ c.loop-at.invariant
    (is_same _ _ c.loop-at.at (sym c.byte.ensures.0 ∙ c.if-byte.false ∙ c.byte-in-loop-at.ensures.0))

pub returns : goal.returns
unfolding same_bytes
returns c = sym (at_all (same_at c.args.first.now c.args.second.now) c.args.count (λ k l. c.loop-at.invariant k (omega arith)))
