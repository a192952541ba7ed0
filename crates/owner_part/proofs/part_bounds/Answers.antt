-- `owner_part::part_bounds` meets its contract: where nothing is refused the sheet is accepted and of version 2; the part starts at the first condition
-- from the bidder and ends before the first from the next. Assumes nothing.
use Prim.Native.Nat.{ℕ, suc, ◌+◌, ◌*◌, ◌-◌, ◌≤◌}
use mathlib.Core.Path.{◌≡◌, sym, ◌∙◌, ap, ap₂}
use native.Mathlib.Numerals.{add-one}
use native.Mathlib.Omega.{arith}
use Rattle.std.proofs.lemmas.Result.{err_from_is_err_and}
use Rattle.refusal.proofs.NumberLaws.{number_of-ne0}
use Rattle.owner_part.specs.OwnerPart.{part_refusal, first_from, bytes_before}
use Rattle.owner_part.proofs.OwnerLaws.{first_no_later}
use Rattle.owner_part.proofs.HeldLaws.{part_bytes}
use Rattle.owner_part.proofs.CallLaws.{Answered, answered, refused-bounds, given-bounds}
use Rattle.owner_part.proofs.part_bounds.Goals.{After-first_from-next, In_ok-check_call}
use Rattle.owner_part.proofs.part_bounds.Goals as goal

-- nothing is refused where the call went on
unrefused : (c : In_ok-check_call) → part_refusal c.args.sheet.now c.args.bidder ≡ 0
unrefused c = sym c.in_ok-check_call.ensures

known : (c : In_ok-check_call) → Answered c.args.sheet.now c.args.bidder
known c = answered _ _ (unrefused c)

-- the end's index is the next bidder's first
end_is : (c : After-first_from-next) →
    c.first_from-next.result ≡ first_from c.args.sheet.now (suc c.args.bidder)
end_is c = c.first_from-next.ensures.0 ∙ ap (first_from _) (add-one _)

in_order : (c : After-first_from-next) → c.first_from-first.result ≤ c.first_from-next.result
in_order c =
    let k = answered _ _ (sym c.in_ok-check_call.ensures) in
    let first = c.first_from-first.ensures.0 in
    let end = end_is c in
    omega (arith, first_no_later _ k.accepted k.two c.args.bidder)

pub returns-in_err-check_call : goal.returns-in_err-check_call
returns-in_err-check_call c =
    let p = err_from_is_err_and c.from_residual.result c.from_residual.ensures.1 in
    rw (p.1, p.2) (refused-bounds _ _ _ c.in_err-check_call.ensures (number_of-ne0 _))

pub overflow_sub-result : goal.overflow_sub-result
overflow_sub-result c = in_order (goal.at.overflow_sub-result c).After-first_from-next

pub returns : goal.returns
unfolding bytes_before
returns c =
    let first = c.first_from-first.ensures.0 in
    let stands = ap₂ (λ (a b : ℕ). a + 4 * b) c.constraints_start-start.ensures first in
    let k = known (goal.at.returns c).In_ok-check_call in
    let size = ap₂ (λ (a b : ℕ). 4 * (a - b)) (end_is (goal.at.returns c).After-first_from-next) first ∙ sym (part_bytes _ k.accepted k.two _) in
    ap₂ (λ (a b : ℕ). record { refusal = 0; start = a; length = b }) stands size
    ∙ sym (given-bounds _ _ (unrefused (goal.at.returns c).In_ok-check_call))
