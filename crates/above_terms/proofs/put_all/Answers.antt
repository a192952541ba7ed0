use Prim.Native.Nat.{ℕ, ◌+◌}
use mathlib.Core.List.{List}
use mathlib.Core.Path.{refl, ◌∙◌, ap}
use native.Mathlib.Omega.{arith}
use lib.ListN.{length}
use lib.Seq.{sets}
use Rattle.basis.specs.Rows.{joined}
use Rattle.sheet.specs.Encoded.{quads}
use Rattle.above_terms.specs.EngineAbove.{slot_pairs, all_pairs}
use Rattle.above_terms.proofs.AboveLaws.{all_pairs_more, all_pairs-room, all_pairs-next}
use Rattle.above_terms.proofs.put_all.Goals as goal

pub loop-k-init : goal.loop-k-init
unfolding all_pairs joined quads
loop-k-init c = record { size = refl; end = omega arith; run = refl }

pub put_slot-at-requires-clause-room : goal.put_slot-at-requires-clause-room
put_slot-at-requires-clause-room c =
    let turn = c.loop-k in
    let more = all_pairs-room c.args.owner.0 c.args.others.now turn.k c.args.m c.loop-k-test.true in
    omega arith

pub loop-k-preserved : goal.loop-k-preserved
loop-k-preserved c =
    let turn = c.loop-k in
    let a = c.args in
    let owner = a.owner.0 in
    let others = a.others.now in
    record {
      size = c.put_slot-at.auto.res ∙ turn.invariant.size;
      end = omega (arith, all_pairs_more owner others turn.k);
      run =
          c.put_slot-at.ensures.written
          ∙ ap (λ (l : List ℕ). sets l turn.at (quads (slot_pairs owner (turn.k + 1) others (length others)))) turn.invariant.run
          ∙ all_pairs-next owner others a.res.now turn.at turn.k turn.invariant.end;
    }
