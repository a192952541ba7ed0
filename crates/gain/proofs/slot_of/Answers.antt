use Prim.Native.Nat.{ℕ, suc}
use borrow.Author.Tests.{eqb-true, eqb-false}
use mathlib.Core.Path.{◌≡◌, refl, sym, ◌∙◌, ap}
use native.Mathlib.Numerals.{add-one}
use lib.Dec.{eqb}
use Rattle.basis.specs.First.{first_over}
use Rattle.basis.proofs.FirstLaws.{first_next, first_ended}
use Rattle.auction.specs.Page.{at}
use Rattle.gain.specs.Gain.{slot_of}
use Rattle.gain.proofs.SlotLaws.{seen, seen_not, found_at}
use Rattle.gain.proofs.slot_of.Goals as goal

pub loop-k-init : goal.loop-k-init
unfolding first_over
loop-k-init c = refl

pub returns-then-stands : goal.returns-then-stands
unfolding slot_of
returns-then-stands c =
    let p = c.args.page in
    let i = c.args.bidder.0 in
    let k = c.loop-k.k in
    let here : at p (suc k) ≡ i = eqb-true (at p (suc k)) i (ap (λ (x : ℕ). eqb (at p x) i) (sym (add-one k)) ∙ sym c.stands.ensures ∙ c.if-stands.true) in
    add-one k ∙ sym (found_at p i k c.loop-k-test.true c.loop-k.invariant here)

pub loop-k-preserved : goal.loop-k-preserved
loop-k-preserved c =
    let p = c.args.page in
    let i = c.args.bidder.0 in
    let k = c.loop-k.k in
    let not_here : at p (suc k) ≡ i → ⊥ = eqb-false (at p (suc k)) i (ap (λ (x : ℕ). eqb (at p x) i) (sym (add-one k)) ∙ sym c.stands.ensures ∙ c.if-stands.false) in
    rw (add-one k) (first_next (seen p i) k c.loop-k.invariant (seen_not p i k not_here))

pub returns : goal.returns
unfolding slot_of
returns c =
    let p = c.args.page in
    let i = c.args.bidder.0 in
    let v = c.loop-k.invariant in
    first_ended (seen p i) c.loop-k.k 16 c.loop-k.auto.k-end c.loop-k-test.false v
