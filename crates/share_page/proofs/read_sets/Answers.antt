use Prim.Native.Nat.{ℕ, ◌+◌}
use mathlib.Core.Bool.{◌||◌}
use mathlib.Core.Path.{◌≡◌, refl, sym, ◌∙◌, ap, subst}
use native.Mathlib.Numerals.{add-one}
use native.Mathlib.Omega.{arith}
use lib.Dec.{ltb}
use lib.ListN.{length, set}
use Rattle.std.proofs.lemmas.Result.{err_from_is_err_and}
use Rattle.refusal.specs.declared.Refusal.TheVariants.{WrongSet}
use Rattle.basis.proofs.TestLaws.{or_none}
use Rattle.bidder_sets.specs.BidderSets.{numbers_wrong, set_at, end_at}
use Rattle.bidder_sets.specs.EngineSets.{in_word}
use Rattle.bidder_sets.proofs.NumberedLaws.{told_right}
use Rattle.share_page.proofs.SetsLaws.{SetsRead, set_wrong, none_read, one_read, not_all, own-there, all_right}
use Rattle.share_page.proofs.read_sets.Goals.{After-loop-i}
use Rattle.share_page.proofs.read_sets.Goals as goal

-- past the loop all sets are read
all_read : (c : After-loop-i) → SetsRead c.args.n c.args.sets.now c.loop-i.table c.loop-i.own c.loop-i.at c.args.n
all_read c =
    let all : c.loop-i.i ≡ c.args.n = omega arith in
    subst (SetsRead c.args.n c.args.sets.now c.loop-i.table c.loop-i.own c.loop-i.at) all c.loop-i.invariant

pub loop-i-init : goal.loop-i-init
loop-i-init c = none_read c.args.n c.args.sets.now c.args.table.now c.told-table

pub returns-in_err-lent-clause-number : goal.returns-in_err-lent-clause-number
returns-in_err-lent-clause-number c =
    let p = err_from_is_err_and c.from_residual.result c.from_residual.ensures.1 in
    let told = rw c.in_err-lent.ensures.ok_part at c.read_at.ensures.wrong in
    let value = rw c.in_err-lent.ensures.ok_part at c.in_err-lent.ensures.value in
    let is : c.in_err-lent.field-0.0 ≡ WrongSet = cc in
    rw (p.1, p.2, is) (sym (set_wrong c.args.n c.args.sets.now c.loop-i.i c.loop-i.at c.loop-i-test.true c.loop-i.invariant.end (told.0 refl)))

pub loop-i-preserved : goal.loop-i-preserved
loop-i-preserved c =
    let lent = c.in_ok-lent.lent in
    let n = c.args.n in
    let sets = c.args.sets.now in
    let turn = c.loop-i in
    let named = rw c.in_ok-lent.ensures.ok_part at c.read_at.ensures.named in
    let told = rw c.in_ok-lent.ensures.ok_part at c.read_at.ensures.wrong in
    let parts = or_none (ltb (length sets) (end_at sets turn.at)) (numbers_wrong n (set_at sets turn.at)) (told_right told.1) in
    let own = turn.own || c.has-own.result in
    let table = set turn.table turn.i lent.bidders.0 in
    subst (λ (e : ℕ). SetsRead n sets table own e (turn.i + 1)) (sym named.0)
    (subst (SetsRead n sets table own (end_at sets turn.at)) (sym (add-one turn.i))
    (one_read n sets turn.table turn.own turn.at turn.i turn.invariant lent.bidders.0 c.has-own.result
    (omega arith)
    parts.1
    named.1
    (c.has-own.ensures ∙ ap (in_word lent.bidders.0) (add-one turn.i))))

pub returns-then-at-sets-clause-number : goal.returns-then-at-sets-clause-number
returns-then-at-sets-clause-number c =
    sym (not_all c.args.n c.args.sets.now c.loop-i.table c.loop-i.own c.loop-i.at (all_read (goal.at.returns-then-at-sets-clause-number c).After-loop-i) c.if-at-sets.true)

pub returns-then-own-clause-number : goal.returns-then-own-clause-number
returns-then-own-clause-number c =
    sym (own-there c.args.n c.args.sets.now c.loop-i.table c.loop-i.own c.loop-i.at (all_read (goal.at.returns-then-own-clause-number c).After-loop-i) c.if-at-sets.false c.if-own.true)

pub returns-clause-number : goal.returns-clause-number
returns-clause-number c =
    sym (all_right c.args.n c.args.sets.now c.loop-i.table c.loop-i.own c.loop-i.at (all_read (goal.at.returns-clause-number c).After-loop-i) c.if-at-sets.false c.if-own.false)
