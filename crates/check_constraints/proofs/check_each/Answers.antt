use Prim.Native.Nat.{ℕ, ◌+◌, ◌*◌, ◌<◌}
use mathlib.Core.List.{List}
use mathlib.Core.Path.{◌≡◌, refl, sym, ◌∙◌}
use native.Mathlib.Numerals.{add-one}
use native.Mathlib.Omega.{arith}
use Rattle.basis.specs.Bytes.{byte_at}
use Rattle.basis.specs.First.{first_over}
use Rattle.basis.proofs.FirstLaws.{first_next, first_found}
use Rattle.sheet.specs.Sheet.{bidder_count, slot_count, constraints_start, owner_field, own_slot_field, other_field, other_slot_field}
use Rattle.sheet.specs.Refusal.{fields_refusal, terms_refusal, constraint_refusal}
use Rattle.check_constraints.proofs.FaultLaws.{word_number}
use Rattle.check_constraints.proofs.RisingLaws.{order_refusal_lem, terms-first}
use Rattle.refusal.specs.Numbers.{number_of}
use Rattle.refusal.proofs.NumberLaws.{number_of-ne0}
use Rattle.std.proofs.lemmas.Result.{err_from_is_err_and}
use Rattle.check_constraints.proofs.check_each.Goals as goal

-- the four bytes that a turn reads are the constraint's fields
read_terms : (s : List ℕ) {start bidders slots : ℕ} (k : ℕ) → start ≡ constraints_start s → bidders ≡ bidder_count s → slots ≡ slot_count s →
    let at = start + 4 * k in
    fields_refusal bidders slots (byte_at s at) (byte_at s (at + 1)) (byte_at s (at + 2)) (byte_at s (at + 3)) ≡ terms_refusal s k
unfolding terms_refusal owner_field own_slot_field other_field other_slot_field
read_terms s k p q r = rw (p, q, r)

pub loop-k-init : goal.loop-k-init
unfolding first_over
loop-k-init c = record { none = refl; last = refl }

pub returns-in_err-check_terms : goal.returns-in_err-check_terms
returns-in_err-check_terms c =
    let s = c.args.sheet.now in
    let k = c.loop-k.k in
    let e = c.in_err-check_terms.field-0.0 in
    let terms : number_of e ≡ terms_refusal s k = c.in_err-check_terms.ensures ∙ read_terms s k c.requires.start_value.0 c.requires.bidders_value.0 c.requires.bidders_value.1 in
    let refused : terms_refusal s k ≡ 0 → ⊥ = λ z. number_of-ne0 e (terms ∙ z) in
    let first = terms-first s k refused in
    let p = err_from_is_err_and c.from_residual.result c.from_residual.ensures.1 in
    rw (p.1, p.2) (terms ∙ sym first ∙ sym (first_found (constraint_refusal s) k _ c.loop-k-test.true c.loop-k.invariant.none (λ z. refused (sym first ∙ z))))

pub returns-then-rising-number : goal.returns-then-rising-number
returns-then-rising-number c =
    let s = c.args.sheet.now in
    let k = c.loop-k.k in
    let low : (i : ℕ) → byte_at s i < 256 = λ i. omega (arith, c.type_inv.sheet i) in
    let terms = sym (c.in_ok-check_terms.ensures ∙ read_terms s k c.requires.start_value.0 c.requires.bidders_value.0 c.requires.bidders_value.1) in
    let number = c.order_number-number.ensures ∙ word_number s low _ _ k c.requires.start_value.0 c.word32.ensures in
    let is = order_refusal_lem s low k terms c.requires.bidders_value.2 number c.loop-k.invariant.last c.if-rising-number.true in
    sym (first_found (constraint_refusal s) k _ c.loop-k-test.true c.loop-k.invariant.none (λ z. absurd (let no : 28 ≡ 0 = sym is ∙ z in omega arith)) ∙ is)

pub loop-k-preserved : goal.loop-k-preserved
loop-k-preserved c =
    let s = c.args.sheet.now in
    let k = c.loop-k.k in
    let low : (i : ℕ) → byte_at s i < 256 = λ i. omega (arith, c.type_inv.sheet i) in
    let terms = sym (c.in_ok-check_terms.ensures ∙ read_terms s k c.requires.start_value.0 c.requires.bidders_value.0 c.requires.bidders_value.1) in
    let number = c.order_number-number.ensures ∙ word_number s low _ _ k c.requires.start_value.0 c.word32.ensures in
    let is = order_refusal_lem s low k terms c.requires.bidders_value.2 number c.loop-k.invariant.last c.if-rising-number.false in
    record { none = rw add-one (first_next (constraint_refusal s) k c.loop-k.invariant.none is); last = rw add-one number }
