-- `share_page::share` meets its contract: each number and each no come before anything is written, and what is written is the order that the turns give.
-- Assumes nothing.
use Prim.Native.Nat.{ℕ, ◌≤◌}
use mathlib.Core.Bool.{Bool, true, false}
use mathlib.Core.List.{List, ◌++◌}
use mathlib.Core.Path.{◌≡◌, refl, sym, ◌∙◌, ap, ap₂}
use native.Mathlib.Omega.{arith}
use lib.ListN.{length, get_or, take, drop, replicate}
use lib.Seq.{sets, length-sets}
use Rattle.std.proofs.lemmas.Result.{err_from_is_err_and}
use Rattle.refusal.proofs.NumberLaws.{number_of-ne0}
use Rattle.refusal.specs.declared.Refusal.TheVariants.{WrongSet}
use Rattle.bidder_sets.specs.BidderSets.{numbers_wrong}
use Rattle.bidder_sets.specs.EngineSets.{in_word, rising_members}
use Rattle.bidder_sets.proofs.NumberedLaws.{told_right}
use Rattle.bidder_sets.proofs.SetLaws.{members-at, members-few, list_front}
use Rattle.share_page.specs.SharePage.{names, puts_above, first_of, member_orders, can_share}
use Rattle.share_page.specs.EngineShare.{in_table, turns, all_found_to}
use Rattle.share_page.proofs.WriteLaws.{Words, size-refused, members-refused, sets-refused, no_answered, buffer_short, order_written_lem, turns-first, turns-many, too_many, none_passes, one_passes}
use Rattle.share_page.proofs.share.Goals.{After-list-count}
use Rattle.share_page.proofs.share.Goals as goal

-- what is known where the members are listed
right : (c : After-list-count) → numbers_wrong c.args.n c.args.members.now ≡ false
right c = let told = rw c.in_ok-set.ensures.ok_part at c.read.ensures.wrong in told_right told.1

-- the members in rising order, at the front of the space
abbrev rising : After-list-count → List ℕ
rising c = take c.list-count.result c.list-count.new.space

listed_most : (c : After-list-count) → length (rising_members (in_word c.in_ok-set.set.0) c.args.n) ≤ 64
listed_most c = let most = members-few (in_word c.in_ok-set.set.0) c.args.n in let size = c.in_ok-check_size.ensures.fits in omega arith

rising_is : (c : After-list-count) → rising c ≡ rising_members (in_word c.in_ok-set.set.0) c.args.n
rising_is c =
    ap (take c.list-count.result) c.list-count.ensures.1
    ∙ list_front (replicate 64 0) (rising_members (in_word c.in_ok-set.set.0) c.args.n) c.list-count.result c.list-count.ensures.0 (listed_most c)

words : (c : After-list-count) → Words c.args.n c.args.members.now c.args.sets.now c.read_sets.new.table c.in_ok-set.set.0 (rising c)
words c =
    record {
      few = c.in_ok-check_size.ensures.fits.1;
      right = right c;
      tabled = c.in_ok-read_sets.ensures.tabled;
      held = rw c.in_ok-set.ensures.ok_part at c.read.ensures.named;
      listing = rising_is c;
    }

rising_many : (c : After-list-count) → length (rising c) ≡ c.list-count.result
rising_many c = ap length (rising_is c) ∙ sym c.list-count.ensures.0

-- and in the order of the turns, where each finds one
abbrev order : After-list-count → List ℕ
order c = turns (in_table c.read_sets.new.table) (rising c) (in_word c.in_ok-set.set.0) (length (rising c))

abbrev Found : After-list-count → Bool → Type 0
Found c t = t ≡ all_found_to (in_table c.read_sets.new.table) (rising c) (in_word c.in_ok-set.set.0) (length (rising c))

order_many : (c : After-list-count) → length (order c) ≡ c.list-count.result
order_many c = turns-many (in_table c.read_sets.new.table) (rising c) (in_word c.in_ok-set.set.0) (length (rising c)) ∙ rising_many c

order_front : (c : After-list-count) (put : List ℕ) → put ≡ sets (replicate 64 0) 0 (order c) → take c.list-count.result put ≡ order c
order_front c put e =
    ap (take c.list-count.result) e
    ∙ list_front (replicate 64 0) (order c) c.list-count.result (sym (order_many c))
    (let size = order_many c in let count = c.list-count.ensures.0 in let most = listed_most c in omega arith)

-- the answer
can : (c : After-list-count) (all : Bool) → Found c all → all ≡ true → c.list-count.result ≤ c.args.m →
    can_share c.args.n c.args.m c.args.members.now c.args.sets.now ≡ true
can c all e found fit =
    let a = c.args in
    one_passes a.n a.m a.members.now a.sets.now c.read_sets.new.table c.in_ok-set.set.0 (rising c) (words c) (let size = rising_many c in omega arith) (sym e ∙ found)

order_first : (c : After-list-count) (all : Bool) → Found c all → all ≡ true →
    order c ≡ first_of (puts_above (names c.args.sets.now)) (member_orders c.args.n c.args.members.now)
order_first c all e found =
    let a = c.args in
    turns-first a.n a.m a.members.now a.sets.now c.read_sets.new.table c.in_ok-set.set.0 (rising c) (words c) (sym e ∙ found)

pub returns-in_err-check_size : goal.returns-in_err-check_size
returns-in_err-check_size c =
    let a = c.args in
    let p = err_from_is_err_and c.from_residual.result c.from_residual.ensures.1 in
    rw (p.1, p.2) (size-refused a.n a.m a.members.now a.sets.now a.res.now _ c.in_err-check_size.ensures.number (number_of-ne0 _))

pub returns-in_err-set : goal.returns-in_err-set
returns-in_err-set c =
    let a = c.args in
    let p = err_from_is_err_and c.from_residual-in_err-set.result c.from_residual-in_err-set.ensures.1 in
    let told = rw c.in_err-set.ensures.ok_part at c.read.ensures.wrong in
    let value = rw c.in_err-set.ensures.ok_part at c.in_err-set.ensures.value in
    let is : c.in_err-set.field-0.0 ≡ WrongSet = cc in
    rw (p.1, p.2, is) (members-refused a.n a.m a.members.now a.sets.now a.res.now (sym c.in_ok-check_size.ensures.number) (told.0 refl))

pub returns-in_err-read_sets : goal.returns-in_err-read_sets
returns-in_err-read_sets c =
    let a = c.args in
    let p = err_from_is_err_and c.from_residual-in_err-read_sets.result c.from_residual-in_err-read_sets.ensures.1 in
    let told = rw c.in_ok-set.ensures.ok_part at c.read.ensures.wrong in
    rw (p.1, p.2)
    (sets-refused a.n a.m a.members.now a.sets.now a.res.now (sym c.in_ok-check_size.ensures.number) (told_right told.1) _ c.in_err-read_sets.ensures.number (number_of-ne0 _))

pub slice_bounds-space-end : goal.slice_bounds-space-end
slice_bounds-space-end c =
    let l = (goal.at.slice_bounds-space-end c).After-list-count in
    let size = ap length c.list-count.ensures.1 ∙ length-sets (replicate 64 0) 0 (rising_members (in_word c.in_ok-set.set.0) c.args.n) in
    let most = listed_most l in
    omega arith

pub slice_bounds-rising-end : goal.slice_bounds-rising-end
slice_bounds-rising-end c = sym (rising_many (goal.at.slice_bounds-rising-end c).After-list-count)

pub overflow_cast-count : goal.overflow_cast-count
overflow_cast-count c = let most = listed_most (goal.at.overflow_cast-count c).After-list-count in omega arith

pub returns-then-m-count : goal.returns-then-m-count
returns-then-m-count c =
    let l = (goal.at.returns-then-m-count c).After-list-count in
    let a = c.args in
    no_answered a.n a.m a.members.now a.sets.now a.res.now (sym c.in_ok-check_size.ensures.number) (right l) (sym c.in_ok-read_sets.ensures.number)
    (too_many a.n a.m a.members.now a.sets.now c.read_sets.new.table c.in_ok-set.set.0 (rising l) (words l) (let size = rising_many l in omega arith))

pub put_in_order-requires-clause-bidders : goal.put_in_order-requires-clause-bidders
put_in_order-requires-clause-bidders c =
    let l = (goal.at.put_in_order-requires-clause-bidders c).After-list-count in
    let size = c.in_ok-check_size.ensures.fits in
    let many = ap length (rising_is l) in
    λ k less.
    let at = members-at (in_word c.in_ok-set.set.0) c.args.n k (omega arith) in
    let same = ap (λ (x : List ℕ). get_or x k 0) (rising_is l) in
    (let some = at.0 in omega arith, let last = at.1 in omega arith)

pub returns-then-not-put_in_order : goal.returns-then-not-put_in_order
returns-then-not-put_in_order c =
    let l = (goal.at.returns-then-not-put_in_order c).After-list-count in
    let a = c.args in
    no_answered a.n a.m a.members.now a.sets.now a.res.now (sym c.in_ok-check_size.ensures.number) (right l) (sym c.in_ok-read_sets.ensures.number)
    (none_passes a.n a.m a.members.now a.sets.now c.read_sets.new.table c.in_ok-set.set.0 (rising l) (words l)
    (sym c.put_in_order.ensures.all ∙ c.if-not-put_in_order.true))

pub returns-then-res-count : goal.returns-then-res-count
returns-then-res-count c =
    let l = (goal.at.returns-then-res-count c).After-list-count in
    let a = c.args in
    buffer_short a.n a.m a.members.now a.sets.now a.res.now (sym c.in_ok-check_size.ensures.number) (right l) (sym c.in_ok-read_sets.ensures.number)
    (order l)
    (can l _ c.put_in_order.ensures.all c.if-not-put_in_order.false c.if-m-count.false)
    (order_first l _ c.put_in_order.ensures.all c.if-not-put_in_order.false)
    (let size = order_many l in omega arith)

pub returns : goal.returns
returns c =
    let l = (goal.at.returns c).After-list-count in
    let a = c.args in
    let size = order_many l in
    let front = c.copy_from_slice.ensures.after ∙ order_front l _ (c.put_in_order.ensures.put c.if-not-put_in_order.false) in
    order_written_lem a.n a.m a.members.now a.sets.now a.res.now (sym c.in_ok-check_size.ensures.number) (right l) (sym c.in_ok-read_sets.ensures.number)
    (order l)
    (can l _ c.put_in_order.ensures.all c.if-not-put_in_order.false c.if-m-count.false)
    (order_first l _ c.put_in_order.ensures.all c.if-not-put_in_order.false)
    _
    (omega arith)
    (ap₂ (λ (o : List ℕ) (k : ℕ). o ++ drop k a.res.now) front (sym size))
