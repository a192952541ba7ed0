-- The bytes that have passed are what they were, or in the part that may have been written.
use Rattle.std.proofs.Common.{length, sym, ◌∙◌, arith, below_more}
use Rattle.basis.proofs.TestLaws.{at_all}
use Rattle.test_both_engines.specs.Bytes.{kept_at, untouched_bytes}
use Rattle.test_both_engines.proofs.BytesLaws.{one_failed, is_same, is_other, kept_same, kept-part, not_kept}
use Rattle.test_both_engines.proofs.bytes.untouched.Goals as goal
use Rattle.test_both_engines.proofs.bytes.untouched.Goals.{else-byte-via-then-byte+else-not-within, else-byte-via-else-byte}

pub returns-then-not-within : goal.returns-then-not-within
unfolding untouched_bytes
returns-then-not-within c =
    sym
    (one_failed (kept_at c.args.after.now c.args.before.now c.args.start c.args.written) (length c.args.before.now)
    c.loop-at.at (omega arith)
    (not_kept _ _ _ _ c.loop-at.at
    (is_other _ _ c.loop-at.at (λ q. c.if-byte.true (c.byte.ensures.0 ∙ q ∙ sym c.byte-in-loop-at.ensures.0)))
    (sym c.within.ensures ∙ c.if-not-within.true)))

pub loop-at-preserved : goal.loop-at-preserved
loop-at-preserved c =
    below_more _ _ c.loop-at.invariant
    (elim c.else-byte.branch [
      | else-byte-via-then-byte+else-not-within w ↦
          kept-part c.args.after.now c.args.before.now _ _ c.loop-at.at (sym w.within.ensures ∙ w.if-not-within.false)
      | else-byte-via-else-byte w ↦
          kept_same _ _ c.args.start c.args.written c.loop-at.at
          (is_same _ _ c.loop-at.at (sym c.byte.ensures.0 ∙ w.if-byte.false ∙ c.byte-in-loop-at.ensures.0))
    ])

pub returns : goal.returns
unfolding untouched_bytes
returns c =
    sym
    (at_all (kept_at c.args.after.now c.args.before.now c.args.start c.args.written) (length c.args.before.now)
    (λ k l. c.loop-at.invariant k (omega arith)))
