use Prim.Native.Nat.{ℕ, ◌<◌}
use mathlib.Core.Path.{refl, sym, ◌∙◌}
use native.Mathlib.Numerals.{add-one}
use native.Mathlib.Omega.{arith}
use Rattle.basis.specs.Bytes.{byte_at}
use Rattle.basis.specs.First.{first_over}
use Rattle.basis.proofs.FirstLaws.{first_next}
use Rattle.basis.proofs.TestLaws.{or_none}
use Rattle.sheet.specs.Refusal.{terms_refusal}
use Rattle.check_constraints.proofs.FaultLaws.{word_refusal}
use Rattle.check_constraints.proofs.any_faulty.Goals as goal

pub loop-seen-init : goal.loop-seen-init
unfolding first_over
loop-seen-init c = λ e. refl

pub loop-seen-preserved : goal.loop-seen-preserved
loop-seen-preserved c e =
    let s = c.args.sheet.now in
    let k = c.loop-seen.seen in
    let both = or_none c.loop-seen.found c.is_faulty-found.result e in
    let none = c.loop-seen.invariant both.0 in
    let low : (i : ℕ) → byte_at s i < 256 = λ i. omega (arith, c.type_inv.sheet i) in
    let same = word_refusal s low _ _ k c.requires.start_value.0 c.word32-constraint.ensures _ _ (c.from-most_bidder.ensures ∙ c.requires.bidders_value.0) (c.from-most_slot.ensures ∙ c.requires.bidders_value.1) in
    rw add-one (first_next (terms_refusal s) k none (sym same ∙ c.is_faulty-found.ensures both.1))
