-- What acceptance means: an accepted sheet has every fact of specs/Accepted.antt, and a sheet with these facts is accepted. Rule by rule,
-- a test that fails says its fact, and a fact makes its test fail. Assumes nothing.
use Prim.Native.Nat.{ℕ, zero, suc, ◌%◌, ◌<◌, ◌≤◌}
use borrow.Author.Tests.{eqb-true, eqb-false, ltb-true, ltb-false, eq-eqb, ne_eqb, lt-ltb, le-ltb, not-true, not-false}
use mathlib.Core.Bool.{Bool, true, false, not, ◌&&◌, ◌||◌, and-false, false≢true}
use mathlib.Core.List.{List}
use mathlib.Core.Logic.{◌⊎◌, inl, inr, ⊎_elim}
use mathlib.Core.Path.{◌≡◌, refl, sym, ◌∙◌, ap, ap₂}
use native.Mathlib.Nat.{not-suc-le-zero}
use native.Mathlib.Omega.{arith}
use lib.Dec.{eqb, ltb}
use lib.ListN.{length}
use Rattle.basis.specs.First.{first_over}
use Rattle.basis.proofs.FirstLaws.{or_else-none, or_else_right, when_none, first-none, first-all-none}
use Rattle.basis.proofs.NumberLaws.{same_or_not}
use Rattle.basis.proofs.RisingLaws.{rising_over}
use Rattle.basis.proofs.TestLaws.{or_none, or_parts, or_left, or_right, and_holds, and_parts}
use Rattle.sheet.specs.Sheet.{
  version,
  bidder_count,
  slot_count,
  constraint_count,
  tick_field,
  effects_start,
  sheet_length,
  effect_field,
  bid_field,
  owner_field,
  own_slot_field,
  other_field,
  other_slot_field,
}
use Rattle.sheet.specs.Refusal.{
  marked,
  form_refusal,
  counts_refusal,
  effect_before,
  effect_refusal,
  bid_refusal,
  tick_refusal,
  legal_bid,
  in_range,
  fields_refusal,
  terms_refusal,
  constraint_below,
  above_before,
  order_refusal,
  constraint_refusal,
  refusal_of,
  Accepted,
}
use Rattle.sheet.proofs.HeaderLaws.{start_two, start_other}
use Rattle.sheet.proofs.OrderLaws.{SmallFields, constraint_below_lem, order-free, order-kept, order-above}
use Rattle.sheet.specs.Accepted.{Form, Counts, EffectAccepted, BidAccepted, ConstraintAccepted, order_number, AcceptedSheet}

-- 1 to 3, and 1 again
known_version : (s : List ℕ) → (eqb (version s) 1 || eqb (version s) 2) ≡ true → (version s ≡ 1) ⊎ (version s ≡ 2)
known_version s e =
    ⊎_elim
    (λ (t : eqb (version s) 1 ≡ true). inl (eqb-true (version s) 1 t))
    (λ (t : eqb (version s) 2 ≡ true). inr (eqb-true (version s) 2 t))
    (or_parts (eqb (version s) 1) (eqb (version s) 2) e)

version-known : (s : List ℕ) → (version s ≡ 1) ⊎ (version s ≡ 2) → (eqb (version s) 1 || eqb (version s) 2) ≡ true
version-known s known =
    ⊎_elim
    (λ (e : version s ≡ 1). or_left (eqb (version s) 2) (eq-eqb (version s) 1 e))
    (λ (e : version s ≡ 2). or_right (eqb (version s) 1) (eq-eqb (version s) 2 e))
    known

start_within : (s : List ℕ) → 9 ≤ length s → (eqb (version s) 2 && ltb (length s) 13) ≡ false → effects_start s ≤ length s
start_within s nine e =
    ⊎_elim
    (λ (v : version s ≡ 2).
    let start = start_two s v in
    let enough : 13 ≤ length s = ltb-false (length s) 13 (sym (ap (λ (t : Bool). t && ltb (length s) 13) (eq-eqb (version s) 2 v)) ∙ e) in
    omega arith)
    (λ (h : version s ≡ 2 → ⊥). let start = start_other s h in omega arith)
    (same_or_not (version s) 2)

within_start : (s : List ℕ) → effects_start s ≤ length s → (eqb (version s) 2 && ltb (length s) 13) ≡ false
within_start s enough =
    ⊎_elim
    (λ (v : version s ≡ 2).
    let start = start_two s v in
    ap (λ (t : Bool). eqb (version s) 2 && t) (le-ltb (length s) 13 (omega arith)) ∙ and-false (eqb (version s) 2))
    (λ (h : version s ≡ 2 → ⊥). ap (λ (t : Bool). t && ltb (length s) 13) (ne_eqb (version s) 2 h))
    (same_or_not (version s) 2)

pub form-accepted : (s : List ℕ) → form_refusal s ≡ 0 → Form s
unfolding form_refusal
form-accepted s e =
    let one = when_none 0 (ltb (length s) 9) _ e in
    let two = when_none 1 (not (marked s)) _ one.1 in
    let three = when_none 2 (not (eqb (version s) 1 || eqb (version s) 2)) _ two.1 in
    let again = when_none 0 (eqb (version s) 2 && ltb (length s) 13) 0 three.1 in
    record {
      header = ltb-false (length s) 9 one.0;
      whole_header = start_within s (ltb-false (length s) 9 one.0) again.0;
      mark = not-false (marked s) two.0;
      known = known_version s (not-false (eqb (version s) 1 || eqb (version s) 2) three.0);
    }

form-back : (s : List ℕ) → Form s → form_refusal s ≡ 0
unfolding form_refusal
form-back s f =
    simp (le-ltb (length s) 9 f.header, f.mark, version-known s f.known, within_start s f.whole_header)

-- 4 to 6, 26 and 7
positive : (x : ℕ) → eqb x 0 ≡ false → 0 < x
positive x e = let h = eqb-false x 0 e in omega arith

not_zero : (x : ℕ) → 0 < x → eqb x 0 ≡ false
not_zero x l = ne_eqb x 0 (omega arith)

pub counts-accepted : (s : List ℕ) → counts_refusal s ≡ 0 → Counts s
unfolding counts_refusal
counts-accepted s e =
    let four = when_none 3 (eqb (bidder_count s) 0 || ltb 64 (bidder_count s)) _ e in
    let n = or_none (eqb (bidder_count s) 0) _ four.0 in
    let five = when_none 4 (eqb (slot_count s) 0 || ltb 16 (slot_count s)) _ four.1 in
    let m = or_none (eqb (slot_count s) 0) _ five.0 in
    let six = when_none 5 (ltb 1024 (constraint_count s)) _ five.1 in
    let twenty-six = when_none 25 (eqb (tick_field s) 0 || ltb 1_000_000_000 (tick_field s)) _ six.1 in
    let t = or_none (eqb (tick_field s) 0) _ twenty-six.0 in
    let seven = when_none 6 (not (eqb (length s) (sheet_length s))) 0 twenty-six.1 in
    record {
      some_bidders = positive (bidder_count s) n.0;
      most_bidders = ltb-false 64 (bidder_count s) n.1;
      some_slots = positive (slot_count s) m.0;
      most_slots = ltb-false 16 (slot_count s) m.1;
      most_constraints = ltb-false 1024 (constraint_count s) six.0;
      some_tick = positive (tick_field s) t.0;
      most_tick = ltb-false 1_000_000_000 (tick_field s) t.1;
      whole = eqb-true (length s) (sheet_length s) (not-false (eqb (length s) (sheet_length s)) seven.0);
    }

counts-back : (s : List ℕ) → Counts s → counts_refusal s ≡ 0
unfolding counts_refusal
counts-back s c =
    simp (
      not_zero (bidder_count s) c.some_bidders,
      le-ltb 64 (bidder_count s) c.most_bidders,
      not_zero (slot_count s) c.some_slots,
      le-ltb 16 (slot_count s) c.most_slots,
      le-ltb 1024 (constraint_count s) c.most_constraints,
      not_zero (tick_field s) c.some_tick,
      le-ltb 1_000_000_000 (tick_field s) c.most_tick,
      eq-eqb (length s) (sheet_length s) c.whole,
    )

-- 8
effect_of : (s : List ℕ) (k : ℕ) → effect_refusal s k ≡ 0 → EffectAccepted s k
unfolding effect_refusal
effect_of s k e =
    let eight = when_none 7 (eqb (effect_field s k) 0 || (ltb 1_000_000 (effect_field s k) || ltb (effect_before s k) (effect_field s k))) 0 e in
    let zero_or = or_none (eqb (effect_field s k) 0) _ eight.0 in
    let above-or = or_none (ltb 1_000_000 (effect_field s k)) _ zero_or.1 in
    record {
      some = positive (effect_field s k) zero_or.0;
      most = ltb-false 1_000_000 (effect_field s k) above-or.0;
      no_rise = ltb-false (effect_before s k) (effect_field s k) above-or.1;
    }

effect_back : (s : List ℕ) (k : ℕ) → EffectAccepted s k → effect_refusal s k ≡ 0
unfolding effect_refusal
effect_back s k f =
    simp (
      not_zero (effect_field s k) f.some,
      le-ltb 1_000_000 (effect_field s k) f.most,
      le-ltb (effect_before s k) (effect_field s k) f.no_rise,
    )

-- 9 and 27
bid_of_lem : (s : List ℕ) (i : ℕ) → bid_refusal s i ≡ 0 → tick_refusal s i ≡ 0 → BidAccepted s i
unfolding bid_refusal tick_refusal
bid_of_lem s i e e' =
    record {
      most = ltb-false 1_000_000_000 (bid_field s i) (when_none 8 (ltb 1_000_000_000 (bid_field s i)) 0 e).0;
      multiple =
          eqb-true (bid_field s i % tick_field s) 0
          (not-false (eqb (bid_field s i % tick_field s) 0) (when_none 26 (not (eqb (bid_field s i % tick_field s) 0)) 0 e').0);
    }

bid_back : (s : List ℕ) (i : ℕ) → BidAccepted s i → bid_refusal s i ≡ 0
unfolding bid_refusal
bid_back s i f = simp (le-ltb 1_000_000_000 (bid_field s i) f.most)

tick_back : (s : List ℕ) (i : ℕ) → BidAccepted s i → tick_refusal s i ≡ 0
unfolding tick_refusal
tick_back s i f = simp (eq-eqb (bid_field s i % tick_field s) 0 f.multiple)

-- a legal bid is at most 1,000,000,000 and a multiple of the tick, and such a bid is legal
pub legal_parts : (t x : ℕ) → legal_bid t x ≡ true → (x ≤ 1_000_000_000) × (x % t ≡ 0)
unfolding legal_bid
legal_parts t x e =
    let both = and_parts (not (ltb 1_000_000_000 x)) (eqb (x % t) 0) e in
    (ltb-false 1_000_000_000 x (not-true (ltb 1_000_000_000 x) both.0), eqb-true (x % t) 0 both.1)

pub parts_legal : (t x : ℕ) → x ≤ 1_000_000_000 → x % t ≡ 0 → legal_bid t x ≡ true
unfolding legal_bid
parts_legal t x low e = and_holds (ap not (le-ltb 1_000_000_000 x low)) (eq-eqb (x % t) 0 e)

-- 10 to 13
same_test : (a b : Bool) → (a && not b || not a && b) ≡ false → a ≡ b
same_test true true e = refl
same_test true false e = absurd (false≢true (sym e))
same_test false true e = absurd (false≢true (sym e))
same_test false false e = refl

range_of : (n m owner own other others : ℕ) → not (in_range n m owner own other others) ≡ false →
    (0 < owner) × ((owner ≤ n) × ((other ≤ n) × ((own ≤ m) × (others ≤ m))))
unfolding in_range
range_of n m owner own other others e =
    let any = not-false (in_range n m owner own other others) e in
    let fails = not-true _ any in
    let a = or_none (eqb owner 0) _ fails in
    let b = or_none (ltb n owner) _ a.1 in
    let c = or_none (ltb n other) _ b.1 in
    let d = or_none (ltb m own) _ c.1 in (
      positive owner a.0,
      (ltb-false n owner b.0, (ltb-false n other c.0, (ltb-false m own d.0, ltb-false m others d.1))),
    )

pub fields_of : (n m owner own other others : ℕ) → fields_refusal n m owner own other others ≡ 0 → ConstraintAccepted n m owner own other others
unfolding fields_refusal
fields_of n m owner own other others e =
    let ten = when_none 9 (not (in_range n m owner own other others)) _ e in
    let eleven = when_none 10 (eqb other owner) _ ten.1 in
    let twelve = when_none 11 (eqb other 0 && not (eqb others 0) || not (eqb other 0) && eqb others 0) _ eleven.1 in
    let thirteen = when_none 12 (eqb own 0 && (eqb other 0 && eqb others 0)) 0 twelve.1 in
    let ranges = range_of n m owner own other others ten.0 in
    let both = same_test (eqb other 0) (eqb others 0) twelve.0 in
    record {
      some_owner = ranges.0;
      most_owner = ranges.1.0;
      most_other = ranges.1.1.0;
      most_own = ranges.1.1.1.0;
      most_others = ranges.1.1.1.1;
      different = eqb-false other owner eleven.0;
      together = λ z. eqb-true others 0 (sym both ∙ eq-eqb other 0 z);
      together_back = λ z. eqb-true other 0 (both ∙ eq-eqb others 0 z);
      not_empty = λ p q.
          false≢true
          (sym thirteen.0
          ∙ ap₂ ◌&&◌ (eq-eqb own 0 p) (ap₂ ◌&&◌ (eq-eqb other 0 q) (sym both ∙ eq-eqb other 0 q)));
    }

pub fields_back : (n m owner own other others : ℕ) → ConstraintAccepted n m owner own other others → fields_refusal n m owner own other others ≡ 0
unfolding fields_refusal in_range
fields_back n m owner own other others f =
    let owned = not_zero owner f.some_owner in
    let owner_low = le-ltb n owner f.most_owner in
    let other-low = le-ltb n other f.most_other in
    let own-low = le-ltb m own f.most_own in
    let others-low = le-ltb m others f.most_others in
    let apart = ne_eqb other owner f.different in
    ⊎_elim
    (λ (z : other ≡ 0).
    simp (
      owned,
      owner_low,
      other-low,
      own-low,
      others-low,
      apart,
      eq-eqb other 0 z,
      eq-eqb others 0 (f.together z),
      ne_eqb own 0 (λ q. f.not_empty q z),
    ))
    (λ (h : other ≡ 0 → ⊥).
    simp (
      owned,
      owner_low,
      other-low,
      own-low,
      others-low,
      apart,
      ne_eqb other 0 h,
      ne_eqb others 0 (λ z. h (f.together_back z)),
      and-false (eqb own 0),
    ))
    (same_or_not other 0)

terms_of : (s : List ℕ) (k : ℕ) → terms_refusal s k ≡ 0 →
    ConstraintAccepted (bidder_count s) (slot_count s) (owner_field s k) (own_slot_field s k) (other_field s k) (other_slot_field s k)
unfolding terms_refusal
terms_of s k e = fields_of (bidder_count s) (slot_count s) (owner_field s k) (own_slot_field s k) (other_field s k) (other_slot_field s k) e

terms-back : (s : List ℕ) (k : ℕ) →
    ConstraintAccepted (bidder_count s) (slot_count s) (owner_field s k) (own_slot_field s k) (other_field s k) (other_slot_field s k) →
    terms_refusal s k ≡ 0
unfolding terms_refusal
terms-back s k f = fields_back (bidder_count s) (slot_count s) (owner_field s k) (own_slot_field s k) (other_field s k) (other_slot_field s k) f

-- 28: the fields of an accepted condition are small, so that its place in the order is that of its number
small_fields : (s : List ℕ) (k : ℕ) → Counts s →
    ConstraintAccepted (bidder_count s) (slot_count s) (owner_field s k) (own_slot_field s k) (other_field s k) (other_slot_field s k) → SmallFields s k
small_fields s k c f =
    let n = c.most_bidders in
    let m = c.most_slots in
    record {
      own = (let h = f.most_own in omega arith);
      other = (let h = f.most_other in omega arith);
      others = (let h = f.most_others in omega arith);
    }

rising_of : (s : List ℕ) (k : ℕ) → SmallFields s k → SmallFields s (suc k) → version s ≡ 2 → order_refusal s (suc k) ≡ 0 → order_number s k < order_number s (suc k)
unfolding above_before
rising_of s k p q v e =
    ltb-true (order_number s k) (order_number s (suc k)) (sym (constraint_below_lem s k (suc k) p q) ∙ order-above s (suc k) v e)

order-back : (s : List ℕ) (k : ℕ) → ((j : ℕ) → j ≤ k → SmallFields s j) → (version s ≡ 2 → (j : ℕ) → suc j ≤ k → order_number s j < order_number s (suc j)) → order_refusal s k ≡ 0
unfolding above_before
order-back s zero small rising = order-kept s zero refl
order-back s (suc k) small rising =
    ⊎_elim
    (λ (v : version s ≡ 2).
    order-kept s (suc k)
    (constraint_below_lem s k (suc k) (small k (omega arith)) (small (suc k) (omega arith))
    ∙ lt-ltb (order_number s k) (order_number s (suc k)) (rising v k (omega arith))))
    (order-free s (suc k))
    (same_or_not (version s) 2)

-- a condition gives no number where neither its terms nor its place in the order do
both_none : (s : List ℕ) (k : ℕ) → constraint_refusal s k ≡ 0 → (terms_refusal s k ≡ 0) × (order_refusal s k ≡ 0)
unfolding constraint_refusal
both_none s k e = or_else-none (terms_refusal s k) (order_refusal s k) e

none_both : (s : List ℕ) (k : ℕ) → terms_refusal s k ≡ 0 → order_refusal s k ≡ 0 → constraint_refusal s k ≡ 0
unfolding constraint_refusal
none_both s k e f = or_else_right (terms_refusal s k) (order_refusal s k) e ∙ f

-- what holds of each number below n, counted from 1, holds of each from 1 to n
from_one : (P : ℕ → Type 0) (n : ℕ) → ((i : ℕ) → i < n → P (suc i)) → (k : ℕ) → 0 < k → k ≤ n → P k
from_one P n h zero l m = absurd (not-suc-le-zero l)
from_one P n h (suc i) l m = h i m

-- An accepted sheet has the facts,
pub accepted-sheet : (s : List ℕ) → Accepted s → AcceptedSheet s
unfolding refusal_of
accepted-sheet s e =
    let a = or_else-none (form_refusal s) _ e in
    let b = or_else-none (counts_refusal s) _ a.1 in
    let c = or_else-none (first_over (λ k. effect_refusal s (suc k)) (slot_count s)) _ b.1 in
    let d = or_else-none (first_over (λ i. bid_refusal s (suc i)) (bidder_count s)) _ c.1 in
    let t = or_else-none (first_over (λ i. tick_refusal s (suc i)) (bidder_count s)) _ d.1 in
    let counts : Counts s = counts-accepted s b.0 in
    let none : (k : ℕ) → k < constraint_count s → (terms_refusal s k ≡ 0) × (order_refusal s k ≡ 0) =
    (λ k l. both_none s k (first-none (constraint_refusal s) (constraint_count s) t.1 k l)) in
    let small : (k : ℕ) → k < constraint_count s → SmallFields s k = (λ k l. small_fields s k counts (terms_of s k (none k l).0)) in
    record {
      form = form-accepted s a.0;
      counts = counts;
      effects = from_one (EffectAccepted s) (slot_count s) (λ k l. effect_of s (suc k) (first-none (λ k. effect_refusal s (suc k)) (slot_count s) c.0 k l));
      bids = from_one (BidAccepted s) (bidder_count s)
          (λ i l.
          bid_of_lem s (suc i)
          (first-none (λ i. bid_refusal s (suc i)) (bidder_count s) d.0 i l)
          (first-none (λ i. tick_refusal s (suc i)) (bidder_count s) t.0 i l));
      constraints = λ k l. terms_of s k (none k l).0;
      rising = λ v k l. rising_of s k (small k (omega arith)) (small (suc k) l) v (none (suc k) l).1;
    }

-- in version 2 each condition is above every one before it
pub constraints-rise : (s : List ℕ) → AcceptedSheet s → version s ≡ 2 → (j k : ℕ) → j < k → k < constraint_count s → constraint_below s j k ≡ true
constraints-rise s facts two j k l m =
    constraint_below_lem s j k
    (small_fields s j facts.counts (facts.constraints j (omega arith)))
    (small_fields s k facts.counts (facts.constraints k m))
    ∙ lt-ltb (order_number s j) (order_number s k) (rising_over (order_number s) (constraint_count s) (facts.rising two) j k l m)

-- and a sheet with the facts is accepted.
pub sheet-accepted : (s : List ℕ) → AcceptedSheet s → Accepted s
unfolding refusal_of
sheet-accepted s f =
    or_else_right (form_refusal s) _ (form-back s f.form)
    ∙ or_else_right (counts_refusal s) _ (counts-back s f.counts)
    ∙ or_else_right (first_over (λ k. effect_refusal s (suc k)) (slot_count s)) _
    (first-all-none (λ k. effect_refusal s (suc k)) (slot_count s) (λ k l. effect_back s (suc k) (f.effects (suc k) (omega arith) l)))
    ∙ or_else_right (first_over (λ i. bid_refusal s (suc i)) (bidder_count s)) _
    (first-all-none (λ i. bid_refusal s (suc i)) (bidder_count s) (λ i l. bid_back s (suc i) (f.bids (suc i) (omega arith) l)))
    ∙ or_else_right (first_over (λ i. tick_refusal s (suc i)) (bidder_count s)) _
    (first-all-none (λ i. tick_refusal s (suc i)) (bidder_count s) (λ i l. tick_back s (suc i) (f.bids (suc i) (omega arith) l)))
    ∙ first-all-none (constraint_refusal s) (constraint_count s)
    (λ k l.
    none_both s k
    (terms-back s k (f.constraints k l))
    (order-back s k
    (λ j m. small_fields s j f.counts (f.constraints j (omega arith)))
    (λ v j m. f.rising v j (omega arith))))
