-- `loss_bound::factor_of` meets its contract, by what each of its calls tells. Assumes nothing.
use Prim.Native.Nat.{ℕ}
use mathlib.Core.Path.{sym, ◌∙◌, ap}
use native.Mathlib.Nat.{mul-le-mul}
use native.Mathlib.Omega.{arith}
use lib.ListN.{length-replicate}
use lib.Seq.{length-take-le, get_or-take}
use Rattle.basis.proofs.RowLaws.{zeros}
use Rattle.sheet.specs.Sheet.{bidder_count, slot_count}
use Rattle.sheet.proofs.AcceptedLaws.{accepted-sheet}
use Rattle.above_terms.specs.EngineAbove.{slots_above}
use Rattle.above_terms.proofs.AboveLaws.{slots-most}
use Rattle.loss_bound.proofs.NamingLaws.{named-few}
use Rattle.loss_bound.proofs.FactorLaws.{other_kinds, some_missing_lem, none_missing, front_sum, front-most}
use Rattle.loss_bound.proofs.factor_of.Goals as goal

pub note_all-above-requires : goal.note_all-above-requires
note_all-above-requires c = (
  c.requires,
  c.constraints_start-start.ensures,
  c.constraint_count-count.ensures,
  length-replicate {A = ℕ} 64 0,
  length-replicate {A = ℕ} 64 0,
  zeros 64,
  zeros 64,
)

pub returns-then-not-above : goal.returns-then-not-above
returns-then-not-above c = other_kinds c.args.sheet.now (sym c.note_all-above.ensures.0 ∙ c.if-not-above.true)

pub bounds-sheet-5 : goal.bounds-sheet-5
bounds-sheet-5 c = let header = (accepted-sheet _ c.requires).form.header in omega arith

pub naming_of-naming-requires-clause-low : goal.naming_of-naming-requires-clause-low
naming_of-naming-requires-clause-low c =
    λ j l.
    let few = (accepted-sheet _ c.requires).counts.most_bidders in
    let noted = c.note_all-above.ensures.1 (c.if-not-above.false) in
    let size = length-take-le (bidder_count c.args.sheet.now) c.note_all-above.new.counts (omega arith) in
    let here = get_or-take (bidder_count c.args.sheet.now) c.note_all-above.new.counts j 0 (omega arith) in
    let low = named-few _ _ _ _ noted j in
    omega arith

pub bounds-sheet-6 : goal.bounds-sheet-6
bounds-sheet-6 c = let header = (accepted-sheet _ c.requires).form.header in omega arith

pub slots_above-each-requires : goal.slots_above-each-requires
slots_above-each-requires c =
    let known = (accepted-sheet _ c.requires).counts in
    let same = c.from.ensures in
    (omega arith, omega arith)

pub overflow_mul-whole : goal.overflow_mul-whole
overflow_mul-whole c =
    let s = c.args.sheet.now in
    let slots = (accepted-sheet s c.requires).counts.most_slots in
    let most = slots-most (slot_count s) (omega arith) in
    let each = c.slots_above-each.ensures ∙ ap slots_above c.from.ensures in
    let product = mul-le-mul {n₁ = c.naming_of-naming.result.all} {m₁ = c.slots_above-each.result} {n₂ = 4096} {m₂ = 120} c.naming_of-naming.ensures.sum.1 (omega arith) in
    omega arith

pub returns-then-had-whole : goal.returns-then-had-whole
returns-then-had-whole c =
    let few = (accepted-sheet _ c.requires).counts.most_bidders in
    let sum = c.naming_of-naming.ensures.sum.0 ∙ front_sum _ _ (omega arith) in
    some_missing_lem c.args.sheet.now _ _ c.requires (sym c.note_all-above.ensures.0 ∙ c.if-not-above.false) (c.note_all-above.ensures.1 (c.if-not-above.false))
    _ _ _ sum (c.slots_above-each.ensures ∙ ap slots_above c.from.ensures) c.different-had.ensures
    (λ e. let fewer = c.if-had-whole.true in absurd (omega arith))

pub returns : goal.returns
returns c =
    let few = (accepted-sheet _ c.requires).counts.most_bidders in
    let sum = c.naming_of-naming.ensures.sum.0 ∙ front_sum _ _ (omega arith) in
    none_missing c.args.sheet.now _ _ c.requires (sym c.note_all-above.ensures.0 ∙ c.if-not-above.false) (c.note_all-above.ensures.1 (c.if-not-above.false))
    _ _ _ sum (c.slots_above-each.ensures ∙ ap slots_above c.from.ensures) c.different-had.ensures
    (let enough = c.if-had-whole.false in omega arith)
    _ (c.naming_of-naming.ensures.largest.0 ∙ front-most _ _ (omega arith))
