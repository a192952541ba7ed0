-- What "the first number that applies" says: it is none exactly when each gives none, and a search that has found none below k
-- and one at k has found it for any longer row. Assumes nothing.
use Prim.Native.Nat.{ℕ, zero, suc, ◌<◌, ◌≤◌}
use mathlib.Core.Bool.{Bool, true, false, ◌||◌}
use mathlib.Core.Logic.{⊎_elim}
use mathlib.Core.Path.{◌≡◌, refl, sym, ◌∙◌, ap, ap₂}
use native.Mathlib.Nat.{eq-or-lt_of_le, le_of_suc-le-suc, not-suc-le-zero}
use native.Mathlib.Omega.{arith}
use Rattle.basis.specs.First.{◌when◌otherwise◌, or_else, first_over, unless_refused}
use Rattle.basis.specs.Tests.{any_below}

pub or_else-none : (a b : ℕ) → or_else a b ≡ 0 → (a ≡ 0) × (b ≡ 0)
or_else-none zero b e = (refl, e)
or_else-none (suc a) b e = absurd (let h : suc a ≡ 0 = e in omega arith)

pub or_else_left : (a b : ℕ) → (a ≡ 0 → ⊥) → or_else a b ≡ a
or_else_left zero b h = absurd (h refl)
or_else_left (suc a) b h = refl

pub or_else_right : (a b : ℕ) → a ≡ 0 → or_else a b ≡ b
or_else_right zero b h = refl
or_else_right (suc a) b h = absurd (omega arith)

-- a row that gives none: its first test fails, and the rest gives none
pub when_none : (k : ℕ) (t : Bool) (rest : ℕ) → (suc k when t otherwise rest) ≡ 0 → (t ≡ false) × (rest ≡ 0)
when_none k true rest e = absurd (let h : suc k ≡ 0 = e in omega arith)
when_none k false rest e = (refl, e)

pub first_next : (f : ℕ → ℕ) (k : ℕ) → first_over f k ≡ 0 → f k ≡ 0 → first_over f (suc k) ≡ 0
unfolding first_over
first_next f k e h = or_else_right (first_over f k) (f k) e ∙ h

pub first_found : (f : ℕ → ℕ) (k n : ℕ) → k < n → first_over f k ≡ 0 → (f k ≡ 0 → ⊥) → first_over f n ≡ f k
unfolding first_over
first_found f k zero l e h = absurd (not-suc-le-zero l)
first_found f k (suc n) l e h =
    ⊎_elim
    (λ q. ap (λ (x : ℕ). or_else (first_over f x) (f x)) (sym q) ∙ or_else_right (first_over f k) (f k) e)
    (λ (lt : k < n).
    let found = first_found f k n lt e h in
    ap (λ (x : ℕ). or_else x (f n)) found ∙ or_else_left (f k) (f n) h)
    (eq-or-lt_of_le (le_of_suc-le-suc l))

-- none over the row is none at each index
pub first-none : (f : ℕ → ℕ) (n : ℕ) → first_over f n ≡ 0 → (k : ℕ) → k < n → f k ≡ 0
unfolding first_over
first-none f zero e k l = absurd (not-suc-le-zero l)
first-none f (suc n) e k l =
    let both = or_else-none (first_over f n) (f n) e in
    ⊎_elim (λ q. ap f q ∙ both.1) (λ lt. first-none f n both.0 k lt) (eq-or-lt_of_le (le_of_suc-le-suc l))

-- a search that has come to the end of the row and found none
pub first_ended : (f : ℕ → ℕ) (k n : ℕ) → k ≤ n → n ≤ k → first_over f k ≡ 0 → 0 ≡ first_over f n
first_ended f k n l g e = sym (ap (first_over f) (let q : n ≡ k = omega arith in q) ∙ e)

-- rows that agree at each index give the same first number
pub first-same : (f g : ℕ → ℕ) (n : ℕ) → ((k : ℕ) → k < n → f k ≡ g k) → first_over f n ≡ first_over g n
unfolding first_over
first-same f g zero h = refl
first-same f g (suc n) h = ap₂ or_else (first-same f g n (λ k l. h k (omega arith))) (h n (omega arith))

-- a row of nothing gives none
pub first-all-none : (f : ℕ → ℕ) (n : ℕ) → ((k : ℕ) → k < n → f k ≡ 0) → first_over f n ≡ 0
unfolding first_over
first-all-none f zero h = refl
first-all-none f (suc n) h = ap₂ or_else (first-all-none f n (λ k l. h k (omega arith))) (h n (omega arith))

-- one number for a test at each index: the first is that number where any index passes
pub first_of_tests : (v : ℕ) (test : ℕ → Bool) (n : ℕ) →
    first_over (λ k. v when test k otherwise 0) n ≡ (v when any_below test n otherwise 0)
unfolding first_over any_below
first_of_tests v test zero = refl
first_of_tests v test (suc n) =
    ap (λ (x : ℕ). or_else x (v when test n otherwise 0)) (first_of_tests v test n) ∙ either v (any_below test n) (test n)
  where
    either : (v : ℕ) (a b : Bool) → or_else (v when a otherwise 0) (v when b otherwise 0) ≡ (v when a || b otherwise 0)
    either v false b = refl
    either (suc v) true b = refl
    either zero true true = refl
    either zero true false = refl

-- a refused call leaves what stood there
pub refused_leaves : {A : Type 0} (k n : ℕ) (given before : A) → n ≡ k → (n ≡ 0 → ⊥) → before ≡ unless_refused k given before
unfolding unless_refused
refused_leaves zero n given before e h = absurd (h e)
refused_leaves (suc k) n given before e h = refl

-- a call that is not refused gives its answer
pub answered-gives : {A : Type 0} (k : ℕ) (given before : A) → k ≡ 0 → given ≡ unless_refused k given before
unfolding unless_refused
answered-gives k given before z = sym (ap (λ (n : ℕ). unless_refused n given before) z)
