use Prim.Native.Nat.{ℕ}
use mathlib.Core.Bool.{not, ◌&&◌}
use mathlib.Core.List.{List}
use mathlib.Core.Path.{◌≡◌, refl, sym, ◌∙◌, ap₂, subst}
use native.Mathlib.Numerals.{add-one}
use native.Mathlib.Omega.{arith}
use lib.Dec.{eqb}
use lib.ListN.{length, set}
use Rattle.basis.specs.Rows.{row}
use Rattle.basis.specs.Tests.{all_below}
use Rattle.bidder_sets.specs.EngineSets.{Holds, in_word}
use Rattle.share_page.specs.EngineShare.{in_table, first_in, left_after, turns, all_found_to}
use Rattle.share_page.proofs.TableLaws.{turn_of, words-next, one_left, one_found, one_turned, none_found}
use Rattle.share_page.proofs.put_in_order.Invariants.{Ordered}
use Rattle.share_page.proofs.put_in_order.Goals.{After-first_in}
use Rattle.share_page.proofs.put_in_order.Goals as goal

-- the first of those that are free is the turn's
turn_is : (c : After-first_in) → first_in c.args.members.now (in_word c.but-free.result.0)
    ≡ turn_of (in_table c.args.table.now) c.args.members.now (in_word c.args.set.0) c.loop-k.k
turn_is c =
    words-next (in_table c.args.table.now) c.args.members.now c.requires.bidders _ _ _ _ c.loop-k.invariant.rest c.rivals_of-rivals.ensures c.but-free.ensures

pub loop-k-init : goal.loop-k-init
unfolding left_after all_found_to all_below turns row
loop-k-init c = record { rest = λ b some most. refl; found = refl; run = refl }

pub returns-in_default-clause-all : goal.returns-in_default-clause-all
returns-in_default-clause-all c =
    sym
    (none_found (in_table c.args.table.now) c.args.members.now (in_word c.args.set.0) c.loop-k.k (length c.args.members.now) c.loop-k-test.true
    (sym (turn_is (goal.at.returns-in_default-clause-all c).After-first_in) ∙ c.in_default.ensures))

pub loop-k-preserved : goal.loop-k-preserved
loop-k-preserved c =
    let turn = c.loop-k in
    let rival = in_table c.args.table.now in
    let members = c.args.members.now in
    let held = in_word c.args.set.0 in
    let found = c.in-Some.ensures in
    let next = found.0 ∙ turn_is (goal.at.loop-k-preserved c).After-first_in in
    subst (Ordered c.args.order.now c.args.table.now members c.args.set.0 _ _) (sym (add-one turn.k))
    (record {
      rest =
          one_left rival members held turn.k turn.left.0 _ turn.invariant.rest
          (subst (λ (x : ℕ). Holds c.without-left.result.0 (λ b. in_word turn.left.0 b && not (eqb b x))) (c.from.ensures ∙ next) c.without-left.ensures);
      found = one_found rival members held turn.k turn.invariant.found (λ e. let some = found.1 in omega arith);
      run = ap₂ (λ (l : List ℕ) (x : ℕ). set l turn.k x) turn.invariant.run next ∙ one_turned rival members held c.args.order.now turn.k;
    })
