use Prim.Native.Nat.{ℕ, ◌-◌, ◌<◌, ◌≤◌}
use mathlib.Core.Bool.{Bool, ◌||◌, or-false}
use mathlib.Core.Path.{sym, ◌∙◌, ap, ap₂}
use native.Mathlib.Omega.{arith}
use lib.Dec.{eqb}
use lib.ListN.{get_or}
use Rattle.basis.proofs.TestLaws.{or_assoc}
use Rattle.sheet.specs.Sheet.{constraint_count}
use Rattle.sheet.specs.Round.{round_of}
use Rattle.greedy_links.specs.EngineKeys.{is_marked}
use Rattle.greedy_links.specs.EngineLinks.{link_owner, some_owner_of, named_for}
use Rattle.greedy_links.proofs.KeyLaws.{owner-within}
use Rattle.greedy_links.proofs.LinkLaws.{walk_start, all_from_last, link_here, walk_next, one_then_rest, none_left}
use Rattle.greedy_links.proofs.named_by.Goals.{In-loop-next}
use Rattle.greedy_links.proofs.named_by.Goals as goal

-- where the walk stands: its link is one of the sheet's, and the one before it has a lower number
here : (c : In-loop-next) →
    (c.loop-next.next - 1 < constraint_count c.args.sheet.now)
    × (constraint_count c.args.sheet.now ≤ 1024)
    × (get_or c.args.links.now (c.loop-next.next - 1) 0 ≤ c.loop-next.next - 1)
here c = link_here _ _ _ _ _ _ c.requires.1 c.requires.2 c.loop-next-test.true c.loop-next.invariant.walks

pub loop-next-init : goal.loop-next-init
loop-next-init c =
    let r = round_of c.args.sheet.now in
    let most = c.requires.1 in
    let linked = c.requires.2.linked in
    record {
      walks = walk_start r c.args.chain.0 _ _ most linked;
      left = all_from_last r c.args.chain.0 _ _ most linked (is_marked c.args.held.now);
      itself = all_from_last r c.args.chain.0 _ _ most linked (λ y. eqb y 0);
    }

pub owner_at-owner-requires : goal.owner_at-owner-requires
owner_at-owner-requires c = (c.requires.2.accepted, c.requires.2.starts, (here (goal.at.owner_at-owner-requires c).In-loop-next).0)

pub is_marked-requires : goal.is_marked-requires
is_marked-requires c =
    let s = c.requires.0 in
    let e = c.owner_at-owner.ensures in
    let most = owner-within c.args.sheet.now c.requires.2.accepted (c.loop-next.next - 1) (here (goal.at.is_marked-requires c).In-loop-next).0 in
    omega arith

pub returns-then-is_marked : goal.returns-then-is_marked
unfolding named_for
returns-then-is_marked c =
    let r = round_of c.args.sheet.now in
    let v = c.loop-next.invariant in
    let next = c.loop-next.next in
    let going = c.loop-next-test.true in
    let x = c.args.chain.0 in
    sym
    (ap (λ (t : Bool). named_for t (some_owner_of r x (λ z. eqb z 0) r.used))
    (v.left
    ∙ one_then_rest r x _ _ c.requires.1 c.requires.2.linked next (next - 1) (omega arith) v.walks (is_marked c.args.held.now)
    ∙ ap (λ (t : Bool). t || some_owner_of r x (is_marked c.args.held.now) (get_or c.args.links.now (next - 1) 0))
    (ap (is_marked c.args.held.now) (sym c.owner_at-owner.ensures) ∙ sym c.is_marked.ensures ∙ c.if-is_marked.true)))

pub loop-next-smaller : goal.loop-next-smaller
loop-next-smaller c = let going = c.loop-next-test.true in omega (arith, here (goal.at.loop-next-smaller c).In-loop-next)

pub loop-next-preserved : goal.loop-next-preserved
loop-next-preserved c =
    let r = round_of c.args.sheet.now in
    let v = c.loop-next.invariant in
    let met = c.loop-next.itself in
    let next = c.loop-next.next in
    let going = c.loop-next-test.true in
    let x = c.args.chain.0 in
    let most = c.requires.1 in
    let linked = c.requires.2.linked in
    let earlier = get_or c.args.links.now (next - 1) 0 in
    record {
      walks = walk_next r x _ _ most linked next (next - 1) (omega arith) v.walks;
      left =
          v.left
          ∙ one_then_rest r x _ _ most linked next (next - 1) (omega arith) v.walks (is_marked c.args.held.now)
          ∙ ap (λ (t : Bool). t || some_owner_of r x (is_marked c.args.held.now) earlier)
          (ap (is_marked c.args.held.now) (sym c.owner_at-owner.ensures) ∙ sym c.is_marked.ensures ∙ c.if-is_marked.false);
      itself =
          v.itself
          ∙ ap (λ (t : Bool). met || t) (one_then_rest r x _ _ most linked next (next - 1) (omega arith) v.walks (λ y. eqb y 0))
          ∙ sym (or_assoc met (eqb (link_owner r (next - 1)) 0) (some_owner_of r x (λ y. eqb y 0) earlier))
          ∙ ap (λ (t : Bool). (met || t) || some_owner_of r x (λ y. eqb y 0) earlier)
          (sym (c.eq-itself.ensures ∙ ap (λ (z : ℕ). eqb z 0) c.owner_at-owner.ensures));
    }

pub returns : goal.returns
unfolding named_for
returns c =
    let r = round_of c.args.sheet.now in
    let v = c.loop-next.invariant in
    let x = c.args.chain.0 in
    let done = c.loop-next-test.false in
    sym
    (ap₂ named_for
    (v.left ∙ none_left r x c.loop-next.next (is_marked c.args.held.now) done)
    (v.itself ∙ ap (λ (t : Bool). c.loop-next.itself || t) (none_left r x c.loop-next.next (λ y. eqb y 0) done) ∙ or-false c.loop-next.itself))
