use Rattle.std.proofs.Common.{◌≡◌, length, get_or, refl, sym, ◌∙◌, ap, add-one, arith}
use Rattle.std.specs.Ordering.{ord_max}
use Rattle.std.proofs.Common.{ℕ, max, nat_cmp}
use Rattle.std.proofs.lemmas.Bool.Decides.{nat_tests}
use Rattle.basis.specs.Counting.{sum_to, most_to}
use Rattle.basis.proofs.SumLaws.{sum_next, sum_at-most, most-next, most-at-most}
use Rattle.loss_bound.proofs.naming_of.Goals as goal

larger : (a b : ℕ) → ord_max nat_cmp a b ≡ max a b
larger a b = grind (arith, nat_tests)

pub loop-here-init : goal.loop-here-init
unfolding sum_to most_to
loop-here-init c = (refl, refl)

pub overflow_add-all : goal.overflow_add-all
overflow_add-all c =
    let j = c.loop-here.here-index in
    let low = c.requires.low in
    let sum = sum_at-most (λ i. get_or c.args.counts.now i 0) 64 j (λ i l. low i (omega arith)) in
    let here = low j (omega arith) in
    omega arith

pub loop-here-preserved : goal.loop-here-preserved
loop-here-preserved c =
    let j = c.loop-here.here-index in
    let v = c.loop-here.invariant in
    let sum = sum_next (λ i. get_or c.args.counts.now i 0) j in
    let most = most-next (λ i. get_or c.args.counts.now i 0) j in
    (rw (add-one j) (omega arith), rw (add-one j) (c.max-most.ensures ∙ larger c.loop-here.most (get_or c.args.counts.now j 0) ∙ ap (λ (x : ℕ). max x (get_or c.args.counts.now j 0)) v.1 ∙ sym most))

pub returns-clause-sum : goal.returns-clause-sum
returns-clause-sum c =
    let all : length c.args.counts.now ≡ c.loop-here.here-index = omega arith in
    let low = c.requires.low in
    let few = sum_at-most (λ i. get_or c.args.counts.now i 0) 64 (length c.args.counts.now) low in
    let sum = c.loop-here.invariant.0 ∙ ap (sum_to (λ i. get_or c.args.counts.now i 0)) (sym all) in
    (sum, omega arith)

pub returns-clause-largest : goal.returns-clause-largest
returns-clause-largest c =
    let all : length c.args.counts.now ≡ c.loop-here.here-index = omega arith in
    let low = c.requires.low in
    let few = most-at-most (λ i. get_or c.args.counts.now i 0) 64 (length c.args.counts.now) low in
    let most = c.loop-here.invariant.1 ∙ ap (most_to (λ i. get_or c.args.counts.now i 0)) (sym all) in
    (most, omega arith)
