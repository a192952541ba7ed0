-- How a page is read after a bidder is put on it, and what stays as a page fills. Assumes nothing.
use Prim.Native.Nat.{ℕ, zero, suc, ◌-◌, ◌<◌, ◌≤◌}
use borrow.Author.Tests.{eq-eqb, eqb-true}
use mathlib.Core.Bool.{true, false}
use mathlib.Core.Logic.{◌⊎◌, inl, inr, ⊎_elim}
use mathlib.Core.Path.{◌≡◌, refl, sym, ◌∙◌, ap}
use native.Mathlib.Nat.{not-suc-le-zero}
use native.Mathlib.Omega.{arith}
use lib.Dec.{eqb}
use lib.ListN.{length, get_or, set, replicate, length-set, length-replicate, get_or-replicate, get_or-eq_default}
use lib.Seq.{get_or-set_same, get_or-set_other, set-get_or, ext_get_or}
use Rattle.basis.proofs.NumberLaws.{same_or_not, below_or_not}
use Rattle.basis.proofs.TestLaws.{any_at, any_where, fails}
use Rattle.sheet.specs.declared.Bidder.{Bidder}
use Rattle.sheet.specs.declared.Page.{Page}
use Rattle.sheet.specs.Round.{bidder}
use Rattle.auction.specs.Page.{at, put, empty_page, placed, Sized}

pub at_zero : (p : Page) → at p 0 ≡ 0
unfolding at
at_zero p = refl

pub put-sized : (p : Page) (k b : ℕ) → Sized p → Sized (put p k b)
unfolding put
put-sized p zero b s = s
put-sized p (suc k) b s = length-set p.bidders k (bidder b) ∙ s

pub empty-sized : Sized empty_page
unfolding empty_page
empty-sized = length-replicate 16 (bidder 0)

pub at-put-same : (p : Page) (k b : ℕ) → Sized p → 0 < k → k ≤ 16 → at (put p k b) k ≡ b
unfolding at put
at-put-same p zero b s l m = absurd (not-suc-le-zero l)
at-put-same p (suc k) b s l m =
    ap (λ (x : Bidder). x.0) (get_or-set_same p.bidders k (bidder b) (bidder 0) (let h : length p.bidders ≡ 16 = s in omega arith))

pub at-put-other : (p : Page) (k b j : ℕ) → (j ≡ k → ⊥) → at (put p k b) j ≡ at p j
unfolding at put
at-put-other p zero b j d = refl
at-put-other p (suc k) b zero d = refl
at-put-other p (suc k) b (suc j) d =
    ap (λ (x : Bidder). x.0) (get_or-set_other p.bidders k j (bidder b) (bidder 0) (λ e. d (ap suc e)))

pub at-empty : (k : ℕ) → at empty_page k ≡ 0
unfolding at empty_page
at-empty zero = refl
at-empty (suc k) =
    ⊎_elim
    (λ (l : k < 16). ap (λ (x : Bidder). x.0) (get_or-replicate 16 k (bidder 0) (bidder 0) l))
    (λ (l : 16 ≤ k). ap (λ (x : Bidder). x.0) (get_or-eq_default (replicate 16 (bidder 0)) (bidder 0) l))
    (below_or_not k 16)

-- nobody stands past the last slot
pub at_past : (p : Page) (k : ℕ) → Sized p → 16 < k → at p k ≡ 0
unfolding at
at_past p zero s l = refl
at_past p (suc k) s l =
    ap (λ (x : Bidder). x.0) (get_or-eq_default p.bidders (bidder 0) (let h : length p.bidders ≡ 16 = s in omega arith))

-- a slot where somebody stands is one of the 16
pub at-within : (p : Page) (k : ℕ) → Sized p → (at p k ≡ 0 → ⊥) → (0 < k) × (k ≤ 16)
at-within p zero s h = absurd (h (at_zero p))
at-within p (suc k) s h = (
  omega arith,
  ⊎_elim (λ (l : 16 < suc k). absurd (h (at_past p (suc k) s l))) (λ (l : suc k ≤ 16). l) (below_or_not 16 (suc k)),
)

pub placed_at : (p : Page) (b k : ℕ) → 0 < k → k ≤ 16 → at p k ≡ b → placed p b ≡ true
unfolding placed
placed_at p b zero l m e = absurd (not-suc-le-zero l)
placed_at p b (suc k) l m e = any_at (λ k. eqb (at p (suc k)) b) 16 k m (eq-eqb (at p (suc k)) b e)

pub placed_where : (p : Page) (b : ℕ) → placed p b ≡ true → (k : ℕ) × (0 < k) × (k ≤ 16) × (at p k ≡ b)
unfolding placed
placed_where p b e =
    let w = any_where (λ k. eqb (at p (suc k)) b) 16 e in
    (suc w.0, omega arith, w.1, eqb-true (at p (suc w.0)) b w.2)

-- a bidder on the page with b at k is b, or was on the page
pub placed-put : (p : Page) (k b o : ℕ) → Sized p → 0 < k → k ≤ 16 → placed (put p k b) o ≡ true → (o ≡ b) ⊎ (placed p o ≡ true)
placed-put p k b o s l m e =
    let w = placed_where (put p k b) o e in
    ⊎_elim
    (λ (q : w.0 ≡ k). inl (sym w.3 ∙ ap (at (put p k b)) q ∙ at-put-same p k b s l m))
    (λ (d : w.0 ≡ k → ⊥). inr (placed_at p o w.0 w.1 w.2 (sym (at-put-other p k b w.0 d) ∙ w.3)))
    (same_or_not w.0 k)

pub put-placed : (p : Page) (k b : ℕ) → Sized p → 0 < k → k ≤ 16 → placed (put p k b) b ≡ true
put-placed p k b s l m = placed_at (put p k b) b k l m (at-put-same p k b s l m)

-- nobody put where nobody stands: the same page
pub put-nobody : (p : Page) (k : ℕ) → at p k ≡ 0 → put p k 0 ≡ p
unfolding at put
put-nobody p zero e = refl
put-nobody p (suc k) e =
    λ i. record { bidders = (ap (set p.bidders k) (λ j. record { 0 = sym e j }) ∙ set-get_or p.bidders k (bidder 0)) i }

-- pages with the same bidder at each slot are the same page
pub page-same : (p q : Page) → Sized p → Sized q → ((k : ℕ) → at p k ≡ at q k) → p ≡ q
unfolding at
page-same p q s t f =
    λ i. record {
      bidders =
          ext_get_or (bidder 0) p.bidders q.bidders (s ∙ sym t) (λ k l. λ j. record { 0 = f (suc k) j }) i;
    }

-- a slot by its index in the page's array
pub at-index : (p : Page) (k : ℕ) → 0 < k → (get_or p.bidders (k - 1) (bidder 0)).0 ≡ at p k
unfolding at
at-index p zero l = absurd (not-suc-le-zero l)
at-index p (suc k) l = ap (λ (i : ℕ). (get_or p.bidders i (bidder 0)).0) (let e : suc k - 1 ≡ k = omega arith in e)

pub put-index : (p : Page) (k b : ℕ) → 0 < k → record { bidders = set p.bidders (k - 1) (bidder b) } ≡ put p k b
unfolding put
put-index p zero b l = absurd (not-suc-le-zero l)
put-index p (suc k) b l =
    λ i. record { bidders = ap (λ (j : ℕ). set p.bidders j (bidder b)) (let e : suc k - 1 ≡ k = omega arith in e) i }

-- p' has everybody of p, each at its slot
abbrev pub Keeps : Page → Page → Type 0
Keeps p p' = (k : ℕ) → (at p k ≡ 0 → ⊥) → at p' k ≡ at p k

pub keeps_refl : (p : Page) → Keeps p p
keeps_refl p k h = refl

pub keeps_trans : (p p' p'' : Page) → Keeps p p' → Keeps p' p'' → Keeps p p''
keeps_trans p p' p'' f g k h = g k (λ z. h (sym (f k h) ∙ z)) ∙ f k h

-- a bidder put where nobody stands leaves everybody
pub put_keeps : (p : Page) (k b : ℕ) → at p k ≡ 0 → Keeps p (put p k b)
put_keeps p k b e j h = at-put-other p k b j (λ q. h (ap (at p) q ∙ e))

pub keeps_placed : (p p' : Page) (b : ℕ) → (b ≡ 0 → ⊥) → Keeps p p' → placed p b ≡ true → placed p' b ≡ true
keeps_placed p p' b s f e =
    let w = placed_where p b e in
    placed_at p' b w.0 w.1 w.2 (f w.0 (λ z. s (sym w.3 ∙ z)) ∙ w.3)

pub empty-placed : (b : ℕ) → (b ≡ 0 → ⊥) → placed empty_page b ≡ false
empty-placed b s = fails (placed empty_page b) (λ e. let w = placed_where empty_page b e in s (sym w.3 ∙ at-empty w.0))
