use mathlib.Core.Bool.{Bool, ◌||◌}
use mathlib.Core.Path.{◌≡◌, sym, ◌∙◌, ap, subst}
use native.Mathlib.Numerals.{add-one}
use native.Mathlib.Omega.{arith}
use lib.ListN.{get_or}
use Rattle.basis.specs.Bits.{bit_of}
use Rattle.sheet.specs.declared.Constraint.{Constraint}
use Rattle.sheet.specs.Round.{round_of, constraint_at}
use Rattle.sheet.proofs.RoundLaws.{round_constraint}
use Rattle.best_clash.specs.EngineMarks.{Small, shuts}
use Rattle.best_clash.proofs.TableLaws.{shuts_more, within-at, within-small}
use Rattle.best_clash.proofs.fill_table.Goals.{After-constraint_at}
use Rattle.best_clash.proofs.fill_table.Goals as goal

-- the constraint that a turn reads is the round's
read : (c : After-constraint_at) →
    c.constraint_at.result ≡ constraint_at (round_of c.args.sheet.now) c.loop-i.i
read c = c.constraint_at.ensures ∙ sym (round_constraint _ c.requires.accepted.0 _ (omega arith))

pub mark_constraint-requires : goal.mark_constraint-requires
mark_constraint-requires c =
    let small = within-small _ _ _ c.requires.accepted.1 c.requires.accepted.2 (within-at _ c.requires.accepted.0 c.loop-i.i (omega arith)) in
    (c.loop-i.invariant.size, subst Small (sym (read (goal.at.mark_constraint-requires c).After-constraint_at)) small, c.requires.table_len.2)

pub loop-i-preserved : goal.loop-i-preserved
loop-i-preserved c =
    let v = c.loop-i.invariant in
    let r = round_of c.args.sheet.now in
    let n = c.loop-i.i in
    let ranks = c.args.ranks.now in
    record {
      size = c.mark_constraint.ensures.0;
      told = λ x y inside.
          rw (add-one n)
          (c.mark_constraint.ensures.1 x y inside
          ∙ ap (λ (q : Constraint). bit_of (get_or c.loop-i.table x 0) y || shuts ranks q.kind q.owner.0 x y) (read (goal.at.loop-i-preserved c).After-constraint_at)
          ∙ ap (λ (t : Bool). t || shuts ranks (constraint_at r n).kind (constraint_at r n).owner.0 x y) (v.told x y inside)
          ∙ shuts_more ranks r n x y);
    }
