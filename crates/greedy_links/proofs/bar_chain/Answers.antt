use Prim.Native.Nat.{ℕ, ◌-◌, ◌<◌, ◌≤◌}
use mathlib.Core.Bool.{Bool, ◌||◌, or-false}
use mathlib.Core.Path.{sym, ◌∙◌, ap}
use native.Mathlib.Omega.{arith}
use lib.Dec.{eqb}
use lib.ListN.{get_or}
use Rattle.basis.proofs.NumberLaws.{eqb_turned}
use Rattle.basis.proofs.TestLaws.{or_assoc}
use Rattle.sheet.specs.Sheet.{constraint_count}
use Rattle.sheet.specs.Round.{round_of}
use Rattle.greedy_links.specs.EngineKeys.{is_marked}
use Rattle.greedy_links.specs.EngineLinks.{link_owner, some_owner_of}
use Rattle.greedy_links.proofs.KeyLaws.{owner-within}
use Rattle.greedy_links.proofs.LinkLaws.{walk_start, all_from_last, link_here, walk_next, one_then_rest, none_left}
use Rattle.greedy_links.proofs.bar_chain.Goals.{In-loop-next}
use Rattle.greedy_links.proofs.bar_chain.Goals as goal

-- where the walk stands: its link is one of the sheet's, and the one before it has a lower number
here : (c : In-loop-next) →
    (c.loop-next.next - 1 < constraint_count c.args.sheet.now)
    × (constraint_count c.args.sheet.now ≤ 1024)
    × (get_or c.args.links.now (c.loop-next.next - 1) 0 ≤ c.loop-next.next - 1)
here c = link_here _ _ _ _ _ _ c.requires.1 c.requires.2 c.loop-next-test.true c.loop-next.invariant.walks

pub loop-next-init : goal.loop-next-init
loop-next-init c =
    record {
      size = c.requires.0;
      walks = walk_start (round_of c.args.sheet.now) c.args.chain.0 _ _ c.requires.1 c.requires.2.linked;
      left = λ y.
          ap (λ (t : Bool). is_marked c.args.barred.now y || t)
          (all_from_last (round_of c.args.sheet.now) c.args.chain.0 _ _ c.requires.1 c.requires.2.linked (λ z. eqb z y));
    }

pub owner_at-owner-requires : goal.owner_at-owner-requires
owner_at-owner-requires c = (c.requires.2.accepted, c.requires.2.starts, (here (goal.at.owner_at-owner-requires c).In-loop-next).0)

pub mark-requires : goal.mark-requires
mark-requires c =
    let s = c.loop-next.invariant.size in
    let e = c.owner_at-owner.ensures in
    let most = owner-within c.args.sheet.now c.requires.2.accepted (c.loop-next.next - 1) (here (goal.at.mark-requires c).In-loop-next).0 in
    omega arith

pub loop-next-smaller : goal.loop-next-smaller
loop-next-smaller c = let going = c.loop-next-test.true in omega (arith, here (goal.at.loop-next-smaller c).In-loop-next)

pub loop-next-preserved : goal.loop-next-preserved
loop-next-preserved c =
    let r = round_of c.args.sheet.now in
    let v = c.loop-next.invariant in
    let barred = c.loop-next.barred in
    let next = c.loop-next.next in
    let going = c.loop-next-test.true in
    let x = c.args.chain.0 in
    let most = c.requires.1 in
    let linked = c.requires.2.linked in
    record {
      size = c.mark.auto.marks ∙ v.size;
      walks = walk_next r x _ _ most linked next (next - 1) (omega arith) v.walks;
      left = λ y.
          let rest = some_owner_of r x (λ z. eqb z y) (get_or c.args.links.now (next - 1) 0) in
          v.left y
          ∙ ap (λ (t : Bool). is_marked barred y || t) (one_then_rest r x _ _ most linked next (next - 1) (omega arith) v.walks (λ z. eqb z y))
          ∙ sym (or_assoc (is_marked barred y) (eqb (link_owner r (next - 1)) y) rest)
          ∙ ap (λ (t : Bool). t || rest)
          (sym
          (c.mark.ensures y
          ∙ ap (λ (t : Bool). is_marked barred y || t) (eqb_turned y c.owner_at-owner.result.0 ∙ ap (λ (z : ℕ). eqb z y) c.owner_at-owner.ensures)));
    }

pub returns : goal.returns
returns c = λ y.
    let r = round_of c.args.sheet.now in
    let barred = c.loop-next.barred in
    sym
    (c.loop-next.invariant.left y
    ∙ ap (λ (t : Bool). is_marked barred y || t) (none_left r c.args.chain.0 c.loop-next.next (λ z. eqb z y) c.loop-next-test.false)
    ∙ or-false (is_marked barred y))
