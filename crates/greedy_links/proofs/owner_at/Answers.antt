-- `greedy_links::owner_at` meets its contract: the constraint is the round's, and so are the two parts of its owner's key. Assumes nothing.
use mathlib.Core.Path.{◌≡◌, sym, ◌∙◌, ap, ap₂}
use native.Mathlib.Omega.{arith}
use Rattle.sheet.specs.declared.Constraint.{Constraint}
use Rattle.sheet.specs.Round.{round_of, constraint_at}
use Rattle.sheet.proofs.AcceptedLaws.{accepted-sheet}
use Rattle.sheet.proofs.RoundLaws.{round_constraint}
use Rattle.greedy_links.specs.EngineKeys.{key, owner_bidder, owner_slot}
use Rattle.greedy_links.proofs.KeyLaws.{round_fits}
use Rattle.greedy_links.proofs.owner_at.Goals.{After-constraint_at-constraint}
use Rattle.greedy_links.proofs.owner_at.Goals as goal

-- the constraint is the round's
read : (c : After-constraint_at-constraint) → c.constraint_at-constraint.result ≡ constraint_at (round_of c.args.sheet.now) c.args.number
read c = c.constraint_at-constraint.ensures ∙ sym (round_constraint c.args.sheet.now c.requires.0 c.args.number c.requires.2)

pub constraint_at-constraint-requires : goal.constraint_at-constraint-requires
constraint_at-constraint-requires c =
    let known = (accepted-sheet c.args.sheet.now c.requires.0).counts in
    let e = c.requires.1 in
    (e, omega arith)

pub owner_key-requires : goal.owner_key-requires
owner_key-requires c =
    let fit = round_fits c.args.sheet.now c.requires.0 c.args.number c.requires.2 in
    let b = c.owner_bidder.ensures ∙ ap (λ (x : Constraint). owner_bidder x.owner.0 x.kind) (read (goal.at.owner_key-requires c).After-constraint_at-constraint) in
    let l = c.owner_slot.ensures ∙ ap (λ (x : Constraint). owner_slot x.kind) (read (goal.at.owner_key-requires c).After-constraint_at-constraint) in
    (omega arith, omega arith)

pub returns : goal.returns
returns c =
    c.owner_key.ensures
    ∙ ap₂ key
    (c.owner_bidder.ensures ∙ ap (λ (x : Constraint). owner_bidder x.owner.0 x.kind) (read (goal.at.returns c).After-constraint_at-constraint))
    (c.owner_slot.ensures ∙ ap (λ (x : Constraint). owner_slot x.kind) (read (goal.at.returns c).After-constraint_at-constraint))
