use Prim.Native.Nat.{ℕ, ◌+◌, ◌-◌, ◌*◌, ◌≤◌}
use mathlib.Core.List.{List}
use mathlib.Core.Path.{refl, ◌∙◌, ap, ap₂}
use native.Mathlib.Omega.{arith}
use lib.ListN.{get_or}
use lib.Seq.{sets}
use Rattle.basis.specs.Bytes.{bytes32}
use Rattle.basis.specs.Rows.{joined}
use Rattle.sheet.specs.Encoded.{quads}
use Rattle.slot_terms.specs.EngineTerms.{word_of}
use Rattle.above_terms.specs.EngineAbove.{slot_pairs}
use Rattle.above_terms.proofs.AboveLaws.{slot_pairs_more, slot_pairs-room, pairs_words, slot_pairs-next}
use Rattle.above_terms.proofs.put_slot.Goals.{In-loop-other}
use Rattle.above_terms.proofs.put_slot.Goals as goal

-- the rival of a turn
low_rival : (c : In-loop-other) → get_or c.args.others.now c.loop-other.other-index 0 ≤ 64
low_rival c = c.requires.low c.loop-other.other-index c.loop-other-test.true

pub loop-other-init : goal.loop-other-init
unfolding slot_pairs joined quads
loop-other-init c = record { size = refl; end = omega arith; run = refl }

pub put_run-requires : goal.put_run-requires
put_run-requires c =
    let a = c.args in
    let more = slot_pairs-room a.owner.0 a.own.0 a.others.now c.loop-other.other-index c.loop-other-test.true in
    let low = low_rival (goal.at.put_run-requires c).In-loop-other in
    (omega arith, omega arith)

pub overflow_add-at : goal.overflow_add-at
overflow_add-at c =
    let a = c.args in
    let more = slot_pairs-room a.owner.0 a.own.0 a.others.now c.loop-other.other-index c.loop-other-test.true in
    omega arith

pub loop-other-preserved : goal.loop-other-preserved
loop-other-preserved c =
    let turn = c.loop-other in
    let a = c.args in
    let owner = a.owner.0 in
    let own = a.own.0 in
    let others = a.others.now in
    record {
      size = c.put_run.auto.res ∙ turn.invariant.size;
      end = omega (arith, slot_pairs_more owner own others turn.other-index);
      run =
          c.put_run.ensures
          ∙ ap (λ (n : ℕ). sets turn.res turn.at (joined (λ k. bytes32 (c.word_of-top.result + 16777216 * k)) (n - 1))) c.from.ensures
          ∙ ap₂ (λ (l : List ℕ) (w : ℕ). sets l turn.at (joined (λ k. bytes32 (w + 16777216 * k)) (own - 1)))
          turn.invariant.run
          (c.word_of-top.ensures ∙ ap (λ (j : ℕ). word_of owner own j 1) c.from-in-loop-other.ensures)
          ∙ ap (sets (sets a.res.now a.start (quads (slot_pairs owner own others turn.other-index))) turn.at)
          (pairs_words owner own (get_or others turn.other-index 0) c.requires.bidder c.requires.last (low_rival (goal.at.loop-other-preserved c).In-loop-other))
          ∙ slot_pairs-next owner own others a.res.now a.start turn.at turn.other-index turn.invariant.end;
    }
