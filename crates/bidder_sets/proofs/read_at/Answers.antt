-- `bidder_sets::read_at` meets its contract: a set that ends within the bytes is the part after its length byte. Assumes nothing.
use Prim.Native.Nat.{ℕ, ◌+◌, ◌-◌, ◌<◌}
use borrow.Author.Tests.{ltb-false, lt-ltb, le-ltb}
use mathlib.Core.Bool.{true, false, ◌||◌, true≢false}
use mathlib.Core.List.{List}
use mathlib.Core.Path.{◌≡◌, refl, sym, ◌∙◌, ap, ap₂}
use native.Mathlib.Numerals.{add-one}
use native.Mathlib.Omega.{arith}
use lib.Dec.{ltb}
use lib.ListN.{length, get_or, take, drop, length-drop}
use lib.Seq.{take-length}
use Rattle.basis.proofs.TestLaws.{or_left, or_right, or_fails, not_both}
use Rattle.bidder_sets.specs.BidderSets.{numbers_wrong, set_at, end_at}
use Rattle.bidder_sets.proofs.NumberedLaws.{told_right}
use Rattle.bidder_sets.proofs.read_at.Goals.{In_ok-set}
use Rattle.bidder_sets.proofs.read_at.Goals as goal

-- the bytes after the length byte
abbrev after : List ℕ → ℕ → List ℕ
after sets at = take (length sets - (at + 1)) (drop (at + 1) sets)

after-drop : (sets : List ℕ) (at : ℕ) → after sets at ≡ drop (at + 1) sets
after-drop sets at = ap (λ (k : ℕ). take k (drop (at + 1) sets)) (sym (length-drop (at + 1) sets)) ∙ take-length (drop (at + 1) sets)

-- a set that runs past the bytes
past : (sets : List ℕ) (at n size : ℕ) → size ≡ get_or sets at 0 → length (after sets at) < size →
    (ltb (length sets) (end_at sets at) || numbers_wrong n (set_at sets at)) ≡ true
unfolding end_at
past sets at n size same less =
    let long = ap length (after-drop sets at) ∙ length-drop (at + 1) sets in
    or_left _ (lt-ltb (length sets) (end_at sets at) (omega arith))

-- one that does not
part : (c : In_ok-set) → c.in_ok-set.set.now ≡ set_at c.args.sets.now c.args.at
unfolding set_at
part c =
    let sets = c.args.sets.now in
    let start = c.args.at + 1 in
    let size = c.from-length.ensures ∙ c.in_ok-get.ensures.lookup.3.1 0 in
    c.in_ok-set.ensures.lookup.0.2
    ∙ ap₂ (λ (k : ℕ) (l : List ℕ). take k l) (let same : c.from-length.result - 0 ≡ get_or sets c.args.at 0 = omega arith in same)
    (after-drop sets c.args.at ∙ ap (λ (k : ℕ). drop k sets) (add-one c.args.at))

within : (c : In_ok-set) → ltb (length c.args.sets.now) (end_at c.args.sets.now c.args.at) ≡ false
unfolding end_at
within c =
    let long = ap length (after-drop c.args.sets.now c.args.at) ∙ length-drop (c.args.at + 1) c.args.sets.now in
    let inside = c.in_ok-get.ensures.lookup.3.0 in
    let size = c.from-length.ensures ∙ c.in_ok-get.ensures.lookup.3.1 0 in
    let room = c.in_ok-set.ensures.lookup.0.1 in
    le-ltb _ _ (omega arith)

pub returns-in_err-get-clause-wrong : goal.returns-in_err-get-clause-wrong
unfolding end_at
returns-in_err-get-clause-wrong c =
    let sets = c.args.sets.now in
    let past = ltb-false c.args.at (length sets) (sym c.in_err-get.ensures.lookup.0) in
    rw c.from_residual.ensures (λ _. or_left _ (lt-ltb (length sets) (end_at sets c.args.at) (omega arith)), λ _. refl)

pub returns-in_err-set-clause-wrong : goal.returns-in_err-set-clause-wrong
returns-in_err-set-clause-wrong c =
    let size = c.in_ok-get.ensures.lookup.3.1 0 in
    let less = c.in_err-set.ensures.lookup.0 in
    rw c.from_residual-in_err-set.ensures
    (λ _. past c.args.sets.now c.args.at c.args.n c.from-length.result (c.from-length.ensures ∙ size) (omega arith), λ _. refl)

pub returns-in_err-bidders-clause-wrong : goal.returns-in_err-bidders-clause-wrong
returns-in_err-bidders-clause-wrong c =
    let same = part (goal.at.returns-in_err-bidders-clause-wrong c).In_ok-set in
    rw (c.from_residual-in_err-bidders.ensures)
    (λ _. or_right _ (rw same at (c.in_err-bidders.ensures.wrong.0 refl)), λ _. refl)

pub returns-clause-wrong : goal.returns-clause-wrong
returns-clause-wrong c =
    let set = (goal.at.returns-clause-wrong c).In_ok-set in
    let same = part set in
    let right = told_right c.in_ok-bidders.ensures.wrong.1 in
    (λ z. absurd (true≢false z), λ t. absurd (not_both t (or_fails (within set) (rw same at right))))

pub returns-clause-named : goal.returns-clause-named
unfolding end_at
returns-clause-named c =
    let same = part (goal.at.returns-clause-named c).In_ok-set in
    let size = c.from-length.ensures ∙ c.in_ok-get.ensures.lookup.3.1 0 in
    (omega arith, rw same at c.in_ok-bidders.ensures.named)
