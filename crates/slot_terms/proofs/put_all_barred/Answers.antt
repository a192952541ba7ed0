use Prim.Native.Nat.{ℕ, suc, ◌+◌, ◌*◌, ◌<◌, ◌≤◌}
use mathlib.Core.List.{List}
use mathlib.Core.Path.{refl, ◌∙◌, ap, ap₂}
use native.Mathlib.Numerals.{add-one}
use native.Mathlib.Omega.{arith}
use lib.ListN.{length, get_or}
use lib.Seq.{sets}
use Rattle.basis.specs.Bytes.{bytes32}
use Rattle.basis.specs.Rows.{joined}
use Rattle.sheet.specs.Encoded.{quads}
use Rattle.slot_terms.specs.EngineTerms.{bars_to}
use Rattle.slot_terms.proofs.WriteLaws.{all_barred, bars-next, bars-within, barred-words, barred-next}
use Rattle.slot_terms.proofs.put_all_barred.Goals.{In-loop-i}
use Rattle.slot_terms.proofs.put_all_barred.Goals as goal

-- the bars up to the next are no more than all
next_within : (bars : List ℕ) (i : ℕ) → i < length bars → bars_to bars i + get_or bars i 0 ≤ bars_to bars (length bars)
next_within bars i l = omega (arith, bars-next bars i, bars-within bars (suc i) (length bars) l)

-- the bar of a turn
low_bar : (c : In-loop-i) → get_or c.args.bars.now c.loop-i.i 0 ≤ 16
low_bar c = c.requires.low c.loop-i.i c.loop-i-test.true

pub loop-i-init : goal.loop-i-init
unfolding bars_to joined quads
loop-i-init c = record { size = refl; end = omega arith; run = refl }

pub put_run-requires : goal.put_run-requires
put_run-requires c =
    let more = next_within c.args.bars.now c.loop-i.i c.loop-i-test.true in
    let low = low_bar (goal.at.put_run-requires c).In-loop-i in
    (omega arith, omega arith)

pub overflow_add-at : goal.overflow_add-at
overflow_add-at c =
    let more = next_within c.args.bars.now c.loop-i.i c.loop-i-test.true in
    omega arith

pub loop-i-preserved : goal.loop-i-preserved
loop-i-preserved c =
    let turn = c.loop-i in
    let a = c.args in
    let bars = a.bars.now in
    let bar = get_or bars turn.i 0 in
    record {
      size = c.put_run.auto.res ∙ turn.invariant.size;
      end =
          (let next = ap (bars_to bars) (add-one turn.i) ∙ bars-next bars turn.i in
          omega arith);
      run =
          (rw c.from-bar.ensures at c.put_run.ensures)
          ∙ ap₂ (λ (l : List ℕ) (w : ℕ). sets l turn.at (joined (λ k. bytes32 (w + 16777216 * k)) bar)) turn.invariant.run c.word_of-top.ensures
          ∙ ap (sets (sets a.res.now a.start (quads (all_barred a.owner.0 bars turn.i))) turn.at)
          (barred-words a.owner.0 (turn.i + 1) bar c.requires.bidder (omega arith) (low_bar (goal.at.loop-i-preserved c).In-loop-i))
          ∙ barred-next a.owner.0 bars a.res.now a.start turn.at turn.i turn.invariant.end;
    }
