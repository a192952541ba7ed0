use Prim.Native.Nat.{ℕ, ◌<◌}
use mathlib.Core.Bool.{Bool, ◌&&◌, and-false}
use mathlib.Core.Path.{refl, sym, ◌∙◌, ap}
use native.Mathlib.Numerals.{add-one}
use native.Mathlib.Omega.{arith}
use lib.Dec.{eqb, leb}
use Rattle.basis.specs.Bytes.{byte_at}
use Rattle.basis.specs.First.{first_over}
use Rattle.basis.proofs.FirstLaws.{first_next}
use Rattle.basis.proofs.TestLaws.{or_none}
use Rattle.sheet.specs.Sheet.{version}
use Rattle.sheet.specs.Refusal.{constraint_refusal}
use Rattle.check_constraints.proofs.FaultLaws.{word_refusal, word_number}
use Rattle.check_constraints.proofs.RisingLaws.{order_refusal_lem}
use Rattle.check_constraints.proofs.any_unfit.Goals as goal

pub loop-seen-init : goal.loop-seen-init
unfolding first_over
loop-seen-init c = record { none = λ e. refl; last = refl }

pub loop-seen-preserved : goal.loop-seen-preserved
loop-seen-preserved c =
    let s = c.args.sheet.now in
    let k = c.loop-seen.seen in
    let v = c.loop-seen.invariant in
    let low : (i : ℕ) → byte_at s i < 256 = λ i. omega (arith, c.type_inv.sheet i) in
    let read = c.word32-constraint.ensures in
    let number = c.order_number-number.ensures ∙ word_number s low _ _ k c.requires.start_value.0 read in
    record {
      none = λ e.
          let both = or_none c.loop-seen.found _ e in
          let fits = or_none c.is_faulty.result (leb c.order_number-number.result c.loop-seen.before) both.1 in
          let terms = sym (word_refusal s low _ _ k c.requires.start_value.0 read _ _ (c.from-most_bidder.ensures ∙ c.requires.bidders_value.0) (c.from-most_slot.ensures ∙ c.requires.bidders_value.1)) ∙ c.is_faulty.ensures fits.0 in
          let tested = ap (λ (x : Bool). eqb (version s) 2 && x) fits.1 ∙ and-false (eqb (version s) 2) in
          rw add-one (first_next (constraint_refusal s) k (v.none both.0) (order_refusal_lem s low k terms refl number v.last tested));
      last = rw add-one number;
    }
