-- `above_terms::write` meets its contract: each refusal comes before anything is written, and what is written are the conditions of the set's list.
-- Assumes nothing.
use Prim.Native.Nat.{ℕ, suc, ◌*◌, ◌<◌, ◌≤◌}
use mathlib.Core.Bool.{false}
use mathlib.Core.List.{List}
use mathlib.Core.Path.{◌≡◌, refl, sym, ◌∙◌, ap, subst}
use native.Mathlib.Nat.{mul-le-mul}
use native.Mathlib.Omega.{arith}
use lib.ListN.{length, get_or, take, replicate}
use lib.Seq.{sets, length-sets}
use Rattle.std.proofs.lemmas.Result.{err_from_is_err_and}
use Rattle.refusal.proofs.NumberLaws.{number_of-ne0}
use Rattle.refusal.specs.declared.Refusal.TheVariants.{WrongSet}
use Rattle.sheet.specs.Encoded.{Condition, quads}
use Rattle.bidder_sets.specs.BidderSets.{in_set, numbers_wrong}
use Rattle.bidder_sets.specs.EngineSets.{in_word, Holds, rising_members}
use Rattle.bidder_sets.proofs.NumberedLaws.{told_right}
use Rattle.bidder_sets.proofs.SetLaws.{members-few, members-at, list_front}
use Rattle.above_terms.specs.AboveTerms.{above_terms_of}
use Rattle.above_terms.specs.EngineAbove.{all_pairs, slots_above}
use Rattle.above_terms.proofs.AboveLaws.{slots-most, all_pairs-many, set_pairs}
use Rattle.above_terms.proofs.WriteLaws.{owner-refused, numbers_refused, own-refused, too_many, buffer_short, terms-written}
use Rattle.above_terms.proofs.write.Goals.{After-list-count}
use Rattle.above_terms.proofs.write.Goals as goal

-- what is known where the set is listed
right : (c : After-list-count) → numbers_wrong c.args.n c.args.rivals.now ≡ false
right c = let told = rw c.in_ok-set.ensures.ok_part at c.read.ensures.wrong in told_right told.1

held : (c : After-list-count) → Holds c.in_ok-set.set.0 (in_set c.args.rivals.now)
held c = rw c.in_ok-set.ensures.ok_part at c.read.ensures.named

other : (c : After-list-count) → in_set c.args.rivals.now c.args.owner ≡ false
other c =
    let is = c.in_ok-check_owner.ensures.fits in
    sym (c.has.ensures ∙ held c _ is.some_owner (omega arith)) ∙ c.if-has.false

-- what the space holds after its listing: the bidders of the set
abbrev others : After-list-count → List ℕ
others c = rising_members (in_word c.in_ok-set.set.0) c.args.n

abbrev taken : After-list-count → List ℕ
taken c = take c.list-count.result c.list-count.new.space

few : (c : After-list-count) → length (others c) ≤ 64
few c = let most = members-few (in_word c.in_ok-set.set.0) c.args.n in let is = c.in_ok-check_owner.ensures.fits in omega arith

front : (c : After-list-count) → taken c ≡ others c
front c =
    ap (take c.list-count.result) c.list-count.ensures.1
    ∙ list_front (replicate 64 0) (others c) c.list-count.result c.list-count.ensures.0 (few c)

-- so their pairs are the conditions to be written,
pairs : (c : After-list-count) →
    all_pairs c.args.owner (taken c) c.args.m ≡ above_terms_of c.args.n c.args.m c.args.owner c.args.rivals.now
pairs c =
    let a = c.args in
    ap (λ (l : List ℕ). all_pairs a.owner l a.m) (front c)
    ∙ set_pairs a.n a.m a.owner (in_word c.in_ok-set.set.0) a.rivals.now
    (λ j l. (let is = c.in_ok-check_owner.ensures.fits in held c (suc j) (omega arith) (omega arith)))

-- and their number is known before
counted : (c : After-list-count) (each : ℕ) → each ≡ slots_above c.args.m →
    length (taken c) * each ≡ length (all_pairs c.args.owner (taken c) c.args.m)
counted c each e =
    let a = c.args in
    ap (λ (k : ℕ). length (taken c) * k) e ∙ sym (all_pairs-many a.owner (taken c) a.m)

many : (c : After-list-count) (each : ℕ) → each ≡ slots_above c.args.m →
    length (taken c) * each ≡ length (above_terms_of c.args.n c.args.m c.args.owner c.args.rivals.now)
many c each e = counted c each e ∙ ap length (pairs c)

pub returns-in_err-check_owner : goal.returns-in_err-check_owner
returns-in_err-check_owner c =
    let a = c.args in
    let p = err_from_is_err_and c.from_residual.result c.from_residual.ensures.1 in
    rw (p.1, p.2) (owner-refused a.n a.m a.owner a.rivals.now a.res.now _ c.in_err-check_owner.ensures.number (number_of-ne0 _))

pub returns-in_err-set : goal.returns-in_err-set
returns-in_err-set c =
    let a = c.args in
    let p = err_from_is_err_and c.from_residual-in_err-set.result c.from_residual-in_err-set.ensures.1 in
    let told = rw c.in_err-set.ensures.ok_part at c.read.ensures.wrong in
    let value = rw c.in_err-set.ensures.ok_part at c.in_err-set.ensures.value in
    let is : c.in_err-set.field-0.0 ≡ WrongSet = cc in
    rw (p.1, p.2, is) (numbers_refused a.n a.m a.owner a.rivals.now a.res.now c.in_ok-check_owner.ensures.fits (told.0 refl))

pub returns-then-has : goal.returns-then-has
returns-then-has c =
    let a = c.args in
    let is = c.in_ok-check_owner.ensures.fits in
    let told = rw c.in_ok-set.ensures.ok_part at c.read.ensures.wrong in
    let holds = rw c.in_ok-set.ensures.ok_part at c.read.ensures.named in
    own-refused a.n a.m a.owner a.rivals.now a.res.now is (told_right told.1)
    (sym (c.has.ensures ∙ holds _ is.some_owner (omega arith)) ∙ c.if-has.true)

pub slice_bounds-space-end : goal.slice_bounds-space-end
slice_bounds-space-end c =
    let set = (goal.at.slice_bounds-space-end c).After-list-count in
    let long = ap length c.list-count.ensures.1 ∙ length-sets (replicate 64 0) 0 (others set) in
    let most = few set in
    omega arith

pub slice_bounds-others-end : goal.slice_bounds-others-end
slice_bounds-others-end c = c.list-count.ensures.0 ∙ sym (ap length (front (goal.at.slice_bounds-others-end c).After-list-count))

pub overflow_mul-pairs : goal.overflow_mul-pairs
overflow_mul-pairs c =
    let set = (goal.at.overflow_mul-pairs c).After-list-count in
    let is = c.in_ok-check_owner.ensures.fits in
    let places = slots-most c.args.m (omega arith) in
    let same = ap length (front set) in
    let most = few set in
    let product = mul-le-mul {n₁ = length (taken set)} {m₁ = c.slots_above-each.result} {n₂ = 64} {m₂ = 120} (omega arith) (omega arith) in
    omega arith

pub returns-then-pairs-gt1024 : goal.returns-then-pairs-gt1024
returns-then-pairs-gt1024 c =
    let a = c.args in
    let set = (goal.at.returns-then-pairs-gt1024 c).After-list-count in
    too_many a.n a.m a.owner a.rivals.now a.res.now c.in_ok-check_owner.ensures.fits (right set) (other set) _ (many set _ c.slots_above-each.ensures)
    c.if-pairs-gt1024.true

pub returns-then-res-pairs : goal.returns-then-res-pairs
returns-then-res-pairs c =
    let a = c.args in
    let set = (goal.at.returns-then-res-pairs c).After-list-count in
    buffer_short a.n a.m a.owner a.rivals.now a.res.now c.in_ok-check_owner.ensures.fits (right set) (other set) _ (many set _ c.slots_above-each.ensures)
    c.if-pairs-gt1024.false
    c.if-res-pairs.true

pub put_all-requires-clause-low : goal.put_all-requires-clause-low
put_all-requires-clause-low c =
    let set = (goal.at.put_all-requires-clause-low c).After-list-count in
    let is = c.in_ok-check_owner.ensures.fits in
    subst (λ (l : List ℕ). (j : ℕ) → j < length l → get_or l j 0 ≤ 64) (sym (front set))
    (λ j l. let member = (members-at (in_word c.in_ok-set.set.0) c.args.n j l).1 in omega arith)

pub put_all-requires-clause-room : goal.put_all-requires-clause-room
put_all-requires-clause-room c =
    let size = counted (goal.at.put_all-requires-clause-room c).After-list-count _ c.slots_above-each.ensures in
    omega arith

pub returns : goal.returns
returns c =
    let a = c.args in
    let set = (goal.at.returns c).After-list-count in
    terms-written a.n a.m a.owner a.rivals.now a.res.now c.in_ok-check_owner.ensures.fits (right set) (other set) _ (many set _ c.slots_above-each.ensures)
    c.if-pairs-gt1024.false _
    c.if-res-pairs.false
    (c.put_all.ensures ∙ ap (λ (t : List Condition). sets a.res.now 0 (quads t)) (pairs set))
