use mathlib.Core.Path.{sym, ◌∙◌}
use native.Mathlib.Omega.{arith}
use lib.ListN.{get_or-eq_default}
use Rattle.bidder_sets.specs.EngineSets.{in_word}
use Rattle.share_page.proofs.TableLaws.{first-at}
use Rattle.share_page.proofs.first_in.Goals as goal

pub returns-then-has : goal.returns-then-has
returns-then-has c =
    let members = c.args.members.now in
    let k = c.loop-member.member-index in
    let here = rw c.from.ensures at c.has.ensures in
    let inside = c.requires k c.loop-member-test.true in
    (sym (first-at members (in_word c.args.set.0) k (omega arith) c.loop-member.invariant (λ l. sym here ∙ c.if-has.true)), inside.0, inside.1)

pub returns : goal.returns
returns c =
    let members = c.args.members.now in
    let k = c.loop-member.member-index in
    first-at members (in_word c.args.set.0) k (omega arith) c.loop-member.invariant (λ l. absurd (omega arith))
    ∙ get_or-eq_default members 0 (omega arith)
