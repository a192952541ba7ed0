-- What a test over the indices below a count says, and what the least number that passes says. Assumes nothing.
use Prim.Native.Nat.{ℕ, zero, suc, ◌+◌, ◌-◌, ◌<◌, ◌≤◌}
use borrow.Author.Tests.{ltb-true, ltb-false, lt-ltb, le-ltb}
use mathlib.Core.Bool.{Bool, true, false, cond, not, ◌&&◌, ◌||◌, false≢true, or-true}
use mathlib.Core.Logic.{◌⊎◌, inl, inr, ⊎_elim}
use mathlib.Core.Path.{◌≡◌, refl, sym, ◌∙◌, ap, ap₂}
use native.Mathlib.Nat.{eq-or-lt_of_le, le_of_suc-le-suc, not-suc-le-zero}
use native.Mathlib.Omega.{arith}
use lib.Dec.{ltb}
use Rattle.basis.specs.Tests.{any_below, all_below, least}

-- a test holds or fails
pub holds_or_fails : (b : Bool) → (b ≡ true) ⊎ (b ≡ false)
holds_or_fails true = inl refl
holds_or_fails false = inr refl

pub not_both : {b : Bool} → b ≡ true → b ≡ false → ⊥
not_both p q = false≢true (sym q ∙ p)

-- a test that cannot fail holds, and one that cannot hold fails
pub holds : (b : Bool) → (b ≡ false → ⊥) → b ≡ true
holds true h = refl
holds false h = absurd (h refl)

pub fails : (b : Bool) → (b ≡ true → ⊥) → b ≡ false
fails true h = absurd (h refl)
fails false h = refl

-- two tests that hold together are equal
pub same_tests : (a b : Bool) → (a ≡ true → b ≡ true) → (b ≡ true → a ≡ true) → a ≡ b
same_tests true b f g = sym (f refl)
same_tests false true f g = g refl
same_tests false false f g = refl

pub and_holds : {a b : Bool} → a ≡ true → b ≡ true → (a && b) ≡ true
and_holds p q = ap₂ ◌&&◌ p q

pub and_parts : (a b : Bool) → (a && b) ≡ true → (a ≡ true) × (b ≡ true)
and_parts true b e = (refl, e)
and_parts false b e = absurd (false≢true e)

pub or_parts : (a b : Bool) → (a || b) ≡ true → (a ≡ true) ⊎ (b ≡ true)
or_parts true b e = inl refl
or_parts false b e = inr e

pub or_left : {a : Bool} (b : Bool) → a ≡ true → (a || b) ≡ true
or_left b p = ap (λ (x : Bool). x || b) p

pub or_right : (a : Bool) {b : Bool} → b ≡ true → (a || b) ≡ true
or_right a p = ap (λ (x : Bool). a || x) p ∙ or-true a

pub or_none : (a b : Bool) → (a || b) ≡ false → (a ≡ false) × (b ≡ false)
or_none true b e = absurd (false≢true (sym e))
or_none false b e = (refl, e)

pub or_fails : {a b : Bool} → a ≡ false → b ≡ false → (a || b) ≡ false
or_fails p q = ap₂ ◌||◌ p q

pub or_assoc : (a b c : Bool) → ((a || b) || c) ≡ (a || (b || c))
or_assoc true b c = refl
or_assoc false b c = refl

pub not_holds : {b : Bool} → b ≡ false → not b ≡ true
not_holds p = ap not p

pub not_fails : {b : Bool} → b ≡ true → not b ≡ false
not_fails p = ap not p

module _ (f : ℕ → Bool) where
  pub any_at : (n k : ℕ) → k < n → f k ≡ true → any_below f n ≡ true
  unfolding any_below
  any_at zero k l e = absurd (not-suc-le-zero l)
  any_at (suc n) k l e =
      ⊎_elim
      (λ (q : k ≡ n). or_right (any_below f n) (ap f (sym q) ∙ e))
      (λ (lt : k < n). or_left (f n) (any_at n k lt e))
      (eq-or-lt_of_le (le_of_suc-le-suc l))

  pub any_where : (n : ℕ) → any_below f n ≡ true → (k : ℕ) × (k < n) × (f k ≡ true)
  unfolding any_below
  any_where zero e = absurd (false≢true e)
  any_where (suc n) e =
      ⊎_elim
      (λ (h : any_below f n ≡ true). let w = any_where n h in (w.0, (let l : w.0 < n = w.1 in omega arith), w.2))
      (λ (h : f n ≡ true). (n, omega arith, h))
      (or_parts (any_below f n) (f n) e)

  pub any_none : (n : ℕ) → any_below f n ≡ false → (k : ℕ) → k < n → f k ≡ false
  any_none n e k l = fails (f k) (λ h. not_both (any_at n k l h) e)

  pub none_any : (n : ℕ) → ((k : ℕ) → k < n → f k ≡ false) → any_below f n ≡ false
  none_any n h = fails (any_below f n) (λ e. let w = any_where n e in not_both w.2 (h w.0 w.1))

  pub all-at : (n : ℕ) → all_below f n ≡ true → (k : ℕ) → k < n → f k ≡ true
  unfolding all_below
  all-at zero e k l = absurd (not-suc-le-zero l)
  all-at (suc n) e k l =
      let both = and_parts (all_below f n) (f n) e in
      ⊎_elim (λ (q : k ≡ n). ap f q ∙ both.1) (λ (lt : k < n). all-at n both.0 k lt) (eq-or-lt_of_le (le_of_suc-le-suc l))

  pub at_all : (n : ℕ) → ((k : ℕ) → k < n → f k ≡ true) → all_below f n ≡ true
  unfolding all_below
  at_all zero h = refl
  at_all (suc n) h = and_holds (at_all n (λ k l. h k (omega arith))) (h n (omega arith))

  pub least-at-most : (n : ℕ) → least f n ≤ n
  unfolding least
  least-at-most zero = omega arith
  least-at-most (suc n) = least_step n (least f n) (least-at-most n) (ltb (least f n) n) (f n)
    where
      least_step : (n l : ℕ) → l ≤ n → (t u : Bool) → cond t l (cond u n (suc n)) ≤ suc n
      least_step n l h true u = omega arith
      least_step n l h false true = omega arith
      least_step n l h false false = omega arith

  -- the least number as its definition finds it: below n, at n, or n + 1
  least_cases : (n : ℕ) → ((ltb (least f n) n ≡ true) × (least f (suc n) ≡ least f n))
      ⊎ ((n ≤ least f n) × (((f n ≡ true) × (least f (suc n) ≡ n)) ⊎ ((f n ≡ false) × (least f (suc n) ≡ suc n))))
  unfolding least
  least_cases n =
      ⊎_elim
      (λ (h : ltb (least f n) n ≡ true). inl (h, ap (λ (t : Bool). cond t (least f n) (cond (f n) n (suc n))) h))
      (λ (h : ltb (least f n) n ≡ false).
      let e = ap (λ (t : Bool). cond t (least f n) (cond (f n) n (suc n))) h in
      inr (
        ltb-false (least f n) n h,
        ⊎_elim
            (λ (u : f n ≡ true). inl (u, e ∙ ap (λ (t : Bool). cond t n (suc n)) u))
            (λ (u : f n ≡ false). inr (u, e ∙ ap (λ (t : Bool). cond t n (suc n)) u))
            (holds_or_fails (f n)),
      ))
      (holds_or_fails (ltb (least f n) n))

  -- nothing below the least number passes,
  pub least-before : (n j : ℕ) → j < least f n → f j ≡ false
  least-before zero j l = absurd (let e = least-at-most 0 in omega arith)
  least-before (suc n) j l =
      ⊎_elim
      (λ h. let e = h.1 in least-before n j (omega arith))
      (λ h.
      let above = h.0 in
      ⊎_elim
      (λ u. let e = u.1 in least-before n j (omega arith))
      (λ u.
      let e = u.1 in
      let within : j ≤ n = omega arith in
      ⊎_elim
      (λ (q : j ≡ n). ap f q ∙ u.0)
      (λ (below : j < n). least-before n j (omega arith))
      (eq-or-lt_of_le within))
      h.1)
      (least_cases n)

  -- and it passes itself, where there is one
  pub least_passes : (n : ℕ) → least f n < n → f (least f n) ≡ true
  least_passes zero l = absurd (omega arith)
  least_passes (suc n) l =
      ⊎_elim
      (λ h. ap f h.1 ∙ least_passes n (ltb-true (least f n) n h.0))
      (λ h. ⊎_elim (λ u. ap f u.1 ∙ u.0) (λ u. absurd (let e = u.1 in omega arith)) h.1)
      (least_cases n)

  -- the least number is the one that passes, with none that passes below it
  pub least_is : (n k : ℕ) → k ≤ n → ((j : ℕ) → j < k → f j ≡ false) → ((k < n) → f k ≡ true) → least f n ≡ k
  unfolding least
  least_is zero k l none here = omega arith
  least_is (suc n) k l none here =
      ⊎_elim
      (λ (q : k ≡ suc n).
      let e : least f n ≡ n = least_is n n (omega arith) (λ j h. none j (omega arith)) (λ h. absurd (omega arith)) in
      let fn : f n ≡ false = none n (omega arith) in
      ap₂ (λ (a : ℕ) (t : Bool). cond (ltb a n) a (cond t n (suc n))) e fn
      ∙ ap (λ (t : Bool). cond t n (suc n)) (le-ltb n n (omega arith))
      ∙ sym q)
      (λ (lt : k < suc n).
      ⊎_elim
      (λ (q : k ≡ n).
      let e : least f n ≡ n = least_is n n (omega arith) (λ j h. none j (omega arith)) (λ h. absurd (omega arith)) in
      let fn : f n ≡ true = ap f (sym q) ∙ here (omega arith) in
      ap₂ (λ (a : ℕ) (t : Bool). cond (ltb a n) a (cond t n (suc n))) e fn
      ∙ ap (λ (t : Bool). cond t n n) (le-ltb n n (omega arith))
      ∙ sym q)
      (λ (lt' : k < n).
      let e : least f n ≡ k = least_is n k (omega arith) none (λ h. here (omega arith)) in
      ap (λ (a : ℕ). cond (ltb a n) a (cond (f n) n (suc n))) e
      ∙ ap (λ (t : Bool). cond t k (cond (f n) n (suc n))) (lt-ltb k n lt'))
      (eq-or-lt_of_le (le_of_suc-le-suc lt)))
      (eq-or-lt_of_le l)

-- a test of all, the first apart
pub all_head : (f : ℕ → Bool) (k : ℕ) → all_below f (suc k) ≡ (f 0 && all_below (λ i. f (suc i)) k)
unfolding all_below
all_head f zero = one_only (f 0)
  where
    one_only : (x : Bool) → x ≡ (x && true)
    one_only true = refl
    one_only false = refl
all_head f (suc k) = ap (λ (x : Bool). x && f (suc k)) (all_head f k) ∙ regroup (f 0) (all_below (λ i. f (suc i)) k) (f (suc k))
  where
    regroup : (x y z : Bool) → ((x && y) && z) ≡ (x && (y && z))
    regroup true y z = refl
    regroup false y z = refl

-- tests that agree below a count
module _ (f g : ℕ → Bool) (n : ℕ) where
  pub any_same : ((i : ℕ) → i < n → f i ≡ g i) → any_below f n ≡ any_below g n
  any_same h =
      same_tests (any_below f n) (any_below g n)
      (λ e. let w = any_where f n e in any_at g n w.0 w.1 (sym (h w.0 w.1) ∙ w.2))
      (λ e. let w = any_where g n e in any_at f n w.0 w.1 (h w.0 w.1 ∙ w.2))

  pub all_same : ((i : ℕ) → i < n → f i ≡ g i) → all_below f n ≡ all_below g n
  all_same h =
      same_tests (all_below f n) (all_below g n)
      (λ e. at_all g n (λ k l. sym (h k l) ∙ all-at f n e k l))
      (λ e. at_all f n (λ k l. h k l ∙ all-at g n e k l))

  -- one of two tests
  pub any_or : any_below (λ i. f i || g i) n ≡ (any_below f n || any_below g n)
  any_or =
      same_tests (any_below (λ i. f i || g i) n) (any_below f n || any_below g n)
      (λ e.
      let w = any_where (λ i. f i || g i) n e in
      ⊎_elim
      (λ (t : f w.0 ≡ true). or_left (any_below g n) (any_at f n w.0 w.1 t))
      (λ (t : g w.0 ≡ true). or_right (any_below f n) (any_at g n w.0 w.1 t))
      (or_parts (f w.0) (g w.0) w.2))
      (λ e.
      ⊎_elim
      (λ (t : any_below f n ≡ true). let w = any_where f n t in any_at (λ i. f i || g i) n w.0 w.1 (or_left (g w.0) w.2))
      (λ (t : any_below g n ≡ true). let w = any_where g n t in any_at (λ i. f i || g i) n w.0 w.1 (or_right (f w.0) w.2))
      (or_parts (any_below f n) (any_below g n) e))

-- a test over twice as many indices is one of pairs, n apart
pub any_pairs : (f g : ℕ → Bool) (n : ℕ) → ((l : ℕ) → l < n → g l ≡ (f l || f (n + l))) → any_below f (n + n) ≡ any_below g n
any_pairs f g n pair =
    same_tests
    (any_below f (n + n))
    (any_below g n)
    (λ e.
    let w = any_where f (n + n) e in
    let there : w.0 < n + n = w.1 in
    ⊎_elim
    (λ (t : ltb w.0 n ≡ true).
    let low = ltb-true w.0 n t in
    any_at g n w.0 low (pair w.0 low ∙ or_left (f (n + w.0)) w.2))
    (λ (t : ltb w.0 n ≡ false).
    let high = ltb-false w.0 n t in
    let inside : w.0 - n < n = omega arith in
    let at : n + (w.0 - n) ≡ w.0 = omega arith in
    any_at g n (w.0 - n) inside (pair (w.0 - n) inside ∙ or_right (f (w.0 - n)) (ap f at ∙ w.2)))
    (holds_or_fails (ltb w.0 n)))
    (λ e.
    let w = any_where g n e in
    let there : w.0 < n = w.1 in
    ⊎_elim
    (λ (t : f w.0 ≡ true). any_at f (n + n) w.0 (omega arith) t)
    (λ (t : f (n + w.0) ≡ true). any_at f (n + n) (n + w.0) (omega arith) t)
    (or_parts (f w.0) (f (n + w.0)) (sym (pair w.0 there) ∙ w.2)))

-- Two tests of two small numbers that agree wherever they are tried: of a row of numbers below m and a column below n each pair is tried.
abbrev pub agree : Bool → Bool → Bool
agree s t = cond s t (not t)

agree_same : (s t : Bool) → agree s t ≡ true → s ≡ t
agree_same true t e = sym e
agree_same false true e = absurd (false≢true e)
agree_same false false e = refl

pub tried : (f g : ℕ → ℕ → Bool) (m n : ℕ) → all_below (λ x. all_below (λ i. agree (f x i) (g x i)) n) m ≡ true →
    (x : ℕ) → x < m → (i : ℕ) → i < n → f x i ≡ g x i
tried f g m n e x below i inside =
    agree_same (f x i) (g x i)
    (all-at (λ j. agree (f x j) (g x j)) n (all-at (λ y. all_below (λ j. agree (f y j) (g y j)) n) m e x below) i inside)
