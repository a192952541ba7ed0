use Prim.Native.Nat.{ℕ, suc, ◌<◌, ◌≤◌}
use mathlib.Core.Logic.{⊎_elim}
use mathlib.Core.Path.{◌≡◌, sym, ◌∙◌, ap}
use native.Mathlib.Nat.{eq-or-lt_of_le}
use native.Mathlib.Omega.{arith}
use Rattle.basis.specs.Bytes.{byte_at}
use Rattle.sheet.specs.Accepted.{order_number, Counts}
use Rattle.sheet.proofs.AcceptedLaws.{accepted-sheet}
use Rattle.check_constraints.proofs.FaultLaws.{word_number}
use Rattle.loss_bound.proofs.rises.Goals.{At-loop-k}
use Rattle.loss_bound.proofs.rises.Goals as goal

-- what the sheet is known to be
facts : (c : At-loop-k) → Counts c.args.sheet.now
facts c = (accepted-sheet _ c.requires.0).counts

pub overflow_mul-k : goal.overflow_mul-k
overflow_mul-k c = let known = facts (goal.at.overflow_mul-k c).At-loop-k in omega arith

pub overflow_add-start : goal.overflow_add-start
overflow_add-start c = let known = facts (goal.at.overflow_add-start c).At-loop-k in omega arith

pub word32-requires : goal.word32-requires
word32-requires c = let known = facts (goal.at.word32-requires c).At-loop-k in omega arith

pub loop-k-preserved : goal.loop-k-preserved
loop-k-preserved c =
    let s = c.args.sheet.now in
    let k = c.loop-k.k in
    let low : (i : ℕ) → byte_at s i < 256 = λ i. omega (arith, c.type_inv.sheet i) in
    let number : c.order_number-number.result ≡ order_number s k = c.order_number-number.ensures ∙ word_number s low _ _ k c.requires.1 c.word32.ensures in
    record {
      last = λ i e. ap (order_number s) (let same : i ≡ k = omega arith in same) ∙ sym number;
      rise = λ i l.
          ⊎_elim
          (λ (e : suc i ≡ k).
          let above = c.if-number-before.false in
          let last = c.loop-k.invariant.last i e in
          let next = ap (order_number s) e in
          omega arith)
          (λ (h : suc i < k). c.loop-k.invariant.rise i h)
          (eq-or-lt_of_le (let most : suc i ≤ k = omega arith in most));
    }
