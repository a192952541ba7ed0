-- Where a bidder stands, and what it gains there; on which parts of the rounds that depends. Assumes nothing.
use Prim.Native.Nat.{ℕ, zero, suc, ◌+◌, ◌*◌, ◌-◌, ◌<◌, ◌≤◌}
use borrow.Author.Tests.{eq-eqb, ne_eqb, lt-ltb, le-ltb}
use mathlib.Core.Bool.{Bool, false, cond}
use mathlib.Core.Logic.{⊎_elim}
use mathlib.Core.Path.{◌≡◌, refl, sym, ◌∙◌, ap, ap₂}
use native.Mathlib.Nat.{not-suc-le-zero, eq-or-lt_of_le, mul-zero, sub-zero, mul-le-mul}
use native.Mathlib.Omega.{arith}
use lib.Dec.{T, eqb, leb, le→leb}
use lib.Signed.{◌≤ℤ◌, mag}
use lib.IntN.{ℤ, pos, negsuc, neg_ℤ, ◌-ℤ◌, ◌*ℤ◌}
use Rattle.basis.specs.First.{◌when◌otherwise◌, first_over}
use Rattle.basis.proofs.FirstLaws.{first_found, first-none, or_else_left, or_else_right, first-all-none}
use Rattle.basis.proofs.TestLaws.{not_both, fails}
use Rattle.sheet.specs.declared.Constraint.{Constraint}
use Rattle.sheet.specs.declared.Page.{Page}
use Rattle.sheet.specs.declared.Round.{Round}
use Rattle.sheet.specs.Round.{effect_of, Has}
use Rattle.auction.specs.Page.{at, placed}
use Rattle.auction.specs.Broken.{breaks_own}
use Rattle.auction.specs.Greedy.{winner_at, page_up_to, greedy_page}
use Rattle.auction.specs.Price.{price}
use Rattle.auction.specs.Except.{SameSets}
use Rattle.sheet.specs.Proper.{ProperRound}
use Rattle.auction.proofs.PageLaws.{placed_where}
use Rattle.auction.proofs.BrokenLaws.{breaks-none, breaks_own_where}
use Rattle.auction.proofs.GreedyLaws.{up_to-later, slot-winner, nobody_twice_lem, greedy-unbroken}
use Rattle.auction.proofs.ExceptLaws.{page-sets, own-sets}
use Rattle.auction.proofs.PriceLaws.{price-sets}
use Rattle.basis.proofs.NumberLaws.{same_or_not, below_or_not}
use Rattle.gain.specs.Gain.{slot_of, gain_if, gain_at, gain_of}

abbrev pub seen : Page → ℕ → ℕ → ℕ
seen p i k = suc k when eqb (at p (suc k)) i otherwise 0

seen_here : (p : Page) (i k : ℕ) → at p (suc k) ≡ i → seen p i k ≡ suc k
seen_here p i k e = simp (eq-eqb (at p (suc k)) i e)

pub seen_not : (p : Page) (i k : ℕ) → (at p (suc k) ≡ i → ⊥) → seen p i k ≡ 0
seen_not p i k d = simp (ne_eqb (at p (suc k)) i d)

first-at : (p : Page) (i k n : ℕ) → first_over (seen p i) n ≡ suc k → n ≤ 16 → (at p (suc k) ≡ i) × (k < 16)
unfolding first_over
first-at p i k zero e m = absurd (omega arith)
first-at p i k (suc n) e m =
    ⊎_elim
    (λ (z : first_over (seen p i) n ≡ 0).
    let last : seen p i n ≡ suc k = sym (or_else_right (first_over (seen p i) n) (seen p i n) z) ∙ e in
    ⊎_elim
    (λ (h : at p (suc n) ≡ i).
    let same : k ≡ n = (let q : suc k ≡ suc n = sym last ∙ seen_here p i n h in omega arith) in
    (ap (λ (x : ℕ). at p (suc x)) same ∙ h, omega arith))
    (λ (h : at p (suc n) ≡ i → ⊥). absurd (let q : suc k ≡ 0 = sym last ∙ seen_not p i n h in omega arith))
    (same_or_not (at p (suc n)) i))
    (λ (z : first_over (seen p i) n ≡ 0 → ⊥).
    first-at p i k n (sym (or_else_left (first_over (seen p i) n) (seen p i n) z) ∙ e) (omega arith))
    (same_or_not (first_over (seen p i) n) 0)

-- the bidder has no slot exactly when it is at none
pub slot-none : (p : Page) (i : ℕ) → slot_of p i ≡ 0 → placed p i ≡ false
unfolding slot_of
slot-none p i e = fails (placed p i) (λ t. found (placed_where p i t))
  where
    found : (k : ℕ) × (0 < k) × (k ≤ 16) × (at p k ≡ i) → ⊥
    found w = at_slot w.0 w.1 w.2 w.3
      where
        at_slot : (k : ℕ) → 0 < k → k ≤ 16 → at p k ≡ i → ⊥
        at_slot zero s m h = absurd (not-suc-le-zero s)
        at_slot (suc k) s m h = let z : suc k ≡ 0 = sym (seen_here p i k h) ∙ first-none (seen p i) 16 e k m in absurd (omega arith)

-- a slot that is found is one where the bidder stands
pub slot_found : (p : Page) (i k : ℕ) → slot_of p i ≡ suc k → (at p (suc k) ≡ i) × (k < 16)
unfolding slot_of
slot_found p i k e = first-at p i k 16 e (omega arith)

pub found_at : (p : Page) (i k : ℕ) → k < 16 → first_over (seen p i) k ≡ 0 → at p (suc k) ≡ i → slot_of p i ≡ suc k
unfolding slot_of
found_at p i k m none e =
    first_found (seen p i) k 16 m none (λ z. absurd (let q : suc k ≡ 0 = sym (seen_here p i k e) ∙ z in omega arith)) ∙ seen_here p i k e

-- the slot where the bidder stands, and nowhere before it, is the one that is found
pub slot-here : (p : Page) (i k : ℕ) → k < 16 → at p (suc k) ≡ i → ((j : ℕ) → j < k → at p (suc j) ≡ i → ⊥) → slot_of p i ≡ suc k
slot-here p i k m e before = found_at p i k m (first-all-none (seen p i) k (λ j l. seen_not p i j (before j l))) e

-- a difference of two numbers, by which is larger
less_from : (v p : ℕ) → p ≤ v → pos v -ℤ pos p ≡ pos (v - p)
less_from v zero l = ap pos (let e : v + 0 ≡ v - 0 = omega arith in e)
less_from v (suc p) l = ap (λ (t : Bool). cond t (negsuc (suc p - suc v)) (pos (v - suc p))) (le-ltb v (suc p) l)

more_from : (v p : ℕ) → v ≤ p → pos v -ℤ pos p ≡ neg_ℤ (pos (p - v))
more_from v zero l =
    ap pos (let e : v + 0 ≡ 0 = omega arith in e) ∙ ap (λ (n : ℕ). neg_ℤ (pos n)) (let e : 0 ≡ 0 - v = omega arith in e)
more_from v (suc p) l =
    ⊎_elim
    (λ (e : v ≡ suc p).
    ap (λ (t : Bool). cond t (negsuc (suc p - suc v)) (pos (v - suc p))) (le-ltb v (suc p) (omega arith))
    ∙ ap pos (let d : v - suc p ≡ 0 = omega arith in d)
    ∙ ap (λ (n : ℕ). neg_ℤ (pos n)) (let d : 0 ≡ suc p - v = omega arith in d))
    (λ (e : v < suc p).
    ap (λ (t : Bool). cond t (negsuc (suc p - suc v)) (pos (v - suc p))) (lt-ltb v (suc p) e)
    ∙ ap (λ (n : ℕ). neg_ℤ (pos n)) (let d : suc (suc p - suc v) ≡ suc p - v = omega arith in d))
    (eq-or-lt_of_le l)

times_negative : (e n : ℕ) → pos e *ℤ neg_ℤ (pos n) ≡ neg_ℤ (pos (e * n))
times_negative e zero = ap pos (mul-zero e) ∙ ap (λ (n : ℕ). neg_ℤ (pos n)) (sym (mul-zero e))
times_negative e (suc n) = refl

-- the gain by its sign
pub gain_plus : (e v p : ℕ) → p ≤ v → gain_if false e v p ≡ pos (e * (v - p))
unfolding gain_if
gain_plus e v p l = ap (λ (z : ℤ). pos e *ℤ z) (less_from v p l)

pub gain_minus : (e v p : ℕ) → v ≤ p → gain_if false e v p ≡ neg_ℤ (pos (e * (p - v)))
unfolding gain_if
gain_minus e v p l = ap (λ (z : ℤ). pos e *ℤ z) (more_from v p l) ∙ times_negative e (p - v)

-- a number below 0 or 0 is at most one above
pub minus_at-most_plus : (m n : ℕ) → neg_ℤ (pos m) ≤ℤ pos n
minus_at-most_plus zero n = record { le = zero-least n }
  where
    zero-least : (n : ℕ) → T (leb 0 n)
    zero-least n = le→leb 0 n (omega arith)
minus_at-most_plus (suc m) n = record { le = tt }

pub zero-at-most_plus : (n : ℕ) → pos 0 ≤ℤ pos n
zero-at-most_plus n = record { le = le→leb 0 n (omega arith) }

-- a negative number from 0, and its size
pub zero_minus : (n : ℕ) → pos 0 -ℤ pos n ≡ neg_ℤ (pos n)
zero_minus n = more_from 0 n (omega arith) ∙ ap (λ (k : ℕ). neg_ℤ (pos k)) (sub-zero n)

pub minus_size : (n : ℕ) → mag (neg_ℤ (pos n)) ≤ n
minus_size zero = omega arith
minus_size (suc n) = omega arith

-- a product of two numbers in range is in range
pub product_fits : (a b m n : ℕ) → a ≤ m → b ≤ n → a * b ≤ m * n
product_fits a b m n h k = mul-le-mul h k

-- The slot where a bidder stands on the greedy page is the one that it wins.
module _ (r : Round) (c : ProperRound r) (i : ℕ) (some : 0 < i) where
  pub slot_won : (k : ℕ) → slot_of (greedy_page r) i ≡ suc k → (k < r.slots) × (winner_at r (page_up_to r k) (suc k) ≡ i)
  unfolding greedy_page
  slot_won k e =
      let here = (slot_found (page_up_to r r.slots) i k e).0 in
      let inside : k < r.slots
      = ⊎_elim
      (λ (l : k < r.slots). l)
      (λ (l : r.slots ≤ k). absurd (let z : i ≡ 0 = sym here ∙ up_to-later r r.slots (suc k) (omega arith) in omega arith))
      (below_or_not k r.slots) in
      (inside, sym (slot-winner r c.most_slots k inside) ∙ here)

  pub won_slot : (k : ℕ) → k < r.slots → winner_at r (page_up_to r k) (suc k) ≡ i → slot_of (greedy_page r) i ≡ suc k
  unfolding greedy_page
  won_slot k inside won =
      let page = page_up_to r r.slots in
      let few = c.most_slots in
      let here : at page (suc k) ≡ i = slot-winner r few k inside ∙ won in
      slot-here page i k (omega arith) here
      (λ j l e.
      let same = nobody_twice_lem r r.slots (suc j) (suc k) few (λ z. absurd (let q : i ≡ 0 = sym e ∙ z in omega arith)) (e ∙ sym here) in
      absurd (omega arith))

  -- the greedy page breaks no true constraint of anybody
  pub true_unbroken : breaks_own r (greedy_page r) i ≡ false
  true_unbroken =
      fails (breaks_own r (greedy_page r) i)
      (λ t.
      let w = breaks_own_where r (greedy_page r) i t in
      not_both w.2 (breaks-none r (greedy_page r) (greedy-unbroken r c) w.0 w.1))

-- The gain depends on each owner's set of constraints only: of the played round with its effects,
module _ (r r' : Round) (x : SameSets r r') (proper : ProperRound r) (proper' : ProperRound r') (effects : (k : ℕ) → effect_of r k ≡ effect_of r' k)
    (t : Round) (i v : ℕ) where
  gain_at-sets : (k : ℕ) → gain_at k r t i v ≡ gain_at k r' t i v
  unfolding gain_at
  gain_at-sets zero = refl
  gain_at-sets (suc k) =
      let page = page-sets r r' x proper.most_slots in
      let paid = price-sets r r' x proper proper' k in
      ap₂ (λ (p : Page) (e : ℕ). gain_if (breaks_own t p i) e v (price r (suc k))) page (effects (suc k))
      ∙ ap (gain_if (breaks_own t (greedy_page r') i) (effect_of r' (suc k)) v) paid

  pub gain-sets : gain_of r t i v ≡ gain_of r' t i v
  unfolding gain_of
  gain-sets = ap (λ (p : Page). gain_at (slot_of p i) r t i v) (page-sets r r' x proper.most_slots) ∙ gain_at-sets (slot_of (greedy_page r') i)

-- and of the round that tells the truth
module _ (r t t' : Round) (there : (q : Constraint) → Has t q → Has t' q) (back : (q : Constraint) → Has t' q → Has t q) (i v : ℕ) where
  truth-at-sets : (k : ℕ) → gain_at k r t i v ≡ gain_at k r t' i v
  unfolding gain_at
  truth-at-sets zero = refl
  truth-at-sets (suc k) = ap (λ (b : Bool). gain_if b (effect_of r (suc k)) v (price r (suc k))) (own-sets t t' there back (greedy_page r) i)

  pub truth-sets : gain_of r t i v ≡ gain_of r t' i v
  unfolding gain_of
  truth-sets = truth-at-sets (slot_of (greedy_page r) i)
