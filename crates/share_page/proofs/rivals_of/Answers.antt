use Prim.Native.Nat.{ℕ, ◌+◌, ◌-◌}
use mathlib.Core.Bool.{Bool, false, ◌&&◌, ◌||◌, or-false}
use mathlib.Core.Path.{◌≡◌, sym, ◌∙◌, ap, ap₂}
use native.Mathlib.Numerals.{add-one}
use native.Mathlib.Omega.{arith}
use lib.ListN.{length, get_or}
use Rattle.basis.specs.Tests.{any_below}
use Rattle.basis.proofs.BitLaws.{bit_zero}
use Rattle.bidder_sets.specs.EngineSets.{in_word}
use Rattle.bidder_sets.specs.declared.Bidders.{Bidders}
use Rattle.share_page.specs.EngineShare.{in_table, rival_in}
use Rattle.share_page.proofs.rivals_of.Invariants.{rivals_to, naming}
use Rattle.share_page.proofs.rivals_of.Goals.{then-has, else-has}
use Rattle.share_page.proofs.rivals_of.Goals as goal

one_more : (test : ℕ → Bool) (k : ℕ) (a b : Bool) → a ≡ any_below test k → b ≡ test k → (a || b) ≡ any_below test (k + 1)
unfolding any_below
one_more test k a b p q = ap₂ ◌||◌ p q ∙ ap (any_below test) (sym (add-one k))

pub loop-member-init : goal.loop-member-init
unfolding any_below
loop-member-init c = λ x. bit_zero (x - 1)

pub loop-member-preserved : goal.loop-member-preserved
loop-member-preserved c =
    let turn = c.loop-member in
    let k = turn.member-index in
    let table = c.args.table.now in
    let members = c.args.members.now in
    let left = c.args.left.0 in
    let here = rw c.from.ensures at c.has.ensures in
    λ x.
    elim c.if-has.branch [
      | then-has w ↦
          ap (λ (r : Bidders). in_word r.0 x) w.rivals-is
          ∙ (rw c.from.ensures at (w.either-rivals.ensures x))
          ∙ one_more (naming table members left x) k _ _ (turn.invariant x)
          (sym (ap (λ (t : Bool). t && in_table table (get_or members k 0) x) (sym here ∙ w.if-has.true)))
      | else-has w ↦
          ap (λ (r : Bidders). in_word r.0 x) w.rivals-is
          ∙ sym (or-false (in_word turn.rivals.0 x))
          ∙ one_more (naming table members left x) k _ false (turn.invariant x)
          (sym (ap (λ (t : Bool). t && in_table table (get_or members k 0) x) (sym here ∙ w.if-has.false)))
    ]

pub returns : goal.returns
unfolding rival_in
returns c =
    let all : c.loop-member.member-index ≡ length c.args.members.now = omega arith in
    λ x. c.loop-member.invariant x ∙ ap (λ (n : ℕ). rivals_to c.args.table.now c.args.members.now c.args.left.0 n x) all
