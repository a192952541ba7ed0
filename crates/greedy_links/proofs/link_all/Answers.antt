use Rattle.std.proofs.Common.{ℕ, ◌<◌, List, arith, sym, ◌∙◌, ap, subst, ◌≡◌, get_or, take, add-one}
use Rattle.std.proofs.lemmas.List.{length-take-le, get_or-take}
use Rattle.sheet.specs.declared.Round.{Round}
use Rattle.sheet.specs.Proper.{ProperRound}
use Rattle.sheet.specs.Round.{blank, constraint_at, round_of}
use Rattle.sheet.proofs.RoundLaws.{round_proper}
use Rattle.greedy_links.proofs.link_all.Goals.{After-accepted_round-round}
use Rattle.greedy_links.proofs.link_all.Goals as goal

-- the round that was made is a proper one, and its first constraints are those of the sheet's round
proper : (c : After-accepted_round-round) → ProperRound c.accepted_round-round.result
proper c = subst ProperRound (sym c.accepted_round-round.ensures) (round_proper c.args.sheet.now c.requires.0)

same : (s : List ℕ) (r : Round) (i : ℕ) → r ≡ round_of s → i < r.used → constraint_at (round_of s) i ≡ get_or (take r.used r.constraints) i blank
unfolding constraint_at
same s r i e below = ap (λ (q : Round). constraint_at q i) (sym e) ∙ sym (get_or-take r.used r.constraints i blank below)

pub shared_ref_as_front-constraints : goal.shared_ref_as_front-constraints
shared_ref_as_front-constraints c = (proper (goal.at.shared_ref_as_front-constraints c).After-accepted_round-round).most_used

pub enter-requires : goal.enter-requires
enter-requires c =
    let r = c.accepted_round-round.result in
    let p = proper (goal.at.enter-requires c).After-accepted_round-round in
    let v = c.loop-i.invariant in
    let most = p.most_used in
    let size = length-take-le r.used r.constraints (omega arith) in
    let below : c.loop-i.i < r.used = omega arith in
    (v.sized_last, v.sized_links, p.proper _ (c.loop-i.i, below, ap (λ (q : Round). constraint_at q c.loop-i.i) c.accepted_round-round.ensures ∙ same _ r _ c.accepted_round-round.ensures below), omega arith)

pub loop-i-preserved : goal.loop-i-preserved
loop-i-preserved c =
    let r = c.accepted_round-round.result in
    let p = proper (goal.at.loop-i-preserved c).After-accepted_round-round in
    let size = length-take-le r.used r.constraints (omega arith) in
    rw add-one (c.enter.ensures (round_of c.args.sheet.now) (same _ r _ c.accepted_round-round.ensures (omega arith)) c.loop-i.invariant)
