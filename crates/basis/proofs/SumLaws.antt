-- Laws of sums and largest values over the first numbers: values that are equal or small, a factor taken out, a sum of counts taken the other way round; the lengths of
-- joined lists; and that the largest is reached and not passed. Each by one number more. Assumes nothing.
use Prim.Native.Nat.{ℕ, zero, suc, ◌+◌, ◌*◌, ◌<◌, ◌≤◌, max}
use mathlib.Core.Bool.{Bool, cond}
use mathlib.Core.List.{List}
use mathlib.Core.Logic.{⊎_elim}
use mathlib.Core.Path.{◌≡◌, refl, sym, ◌∙◌, ap}
use native.Mathlib.Nat.{eq-or-lt_of_le, le_of_suc-le-suc, not-suc-le-zero, suc-mul}
use native.Mathlib.Omega.{arith}
use lib.ListN.{length, length-append}
use Rattle.basis.specs.Counting.{count_to, sum_to, most_to}
use Rattle.basis.specs.Rows.{joined}

pub sum_next : (f : ℕ → ℕ) (n : ℕ) → sum_to f (suc n) ≡ sum_to f n + f n
unfolding sum_to
sum_next f n = refl

pub sum_same : (f g : ℕ → ℕ) (n : ℕ) → ((i : ℕ) → i < n → f i ≡ g i) → sum_to f n ≡ sum_to g n
unfolding sum_to
sum_same f g zero h = refl
sum_same f g (suc n) h =
    let before = sum_same f g n (λ i l. h i (omega arith)) in
    let here = h n (omega arith) in
    omega arith

pub sum_at-most : (f : ℕ → ℕ) (most n : ℕ) → ((j : ℕ) → j < n → f j ≤ most) → sum_to f n ≤ n * most
unfolding sum_to
sum_at-most f most zero h = omega arith
sum_at-most f most (suc n) h =
    let before = sum_at-most f most n (λ j l. h j (omega arith)) in
    let here = h n (omega arith) in
    let product = suc-mul n most in
    omega arith

-- a factor taken out
pub sum_times : (f : ℕ → ℕ) (c n : ℕ) → sum_to (λ i. f i * c) n ≡ sum_to f n * c
unfolding sum_to
sum_times f c zero = omega arith
sum_times f c (suc n) = let before = sum_times f c n in omega arith

-- what each of n tests adds to each of n numbers
sum_counted : (f : ℕ → ℕ) (test : ℕ → Bool) (n : ℕ) → sum_to (λ i. f i + cond (test i) 1 0) n ≡ sum_to f n + count_to test n
unfolding sum_to count_to
sum_counted f test zero = refl
sum_counted f test (suc n) = let before = sum_counted f test n in omega arith

sum_none : (n : ℕ) → sum_to (λ i. 0) n ≡ 0
unfolding sum_to
sum_none zero = refl
sum_none (suc n) = let before = sum_none n in omega arith

-- the same pairs counted by their second and by their first
pub sum_turned : (test : ℕ → ℕ → Bool) (n m : ℕ) → sum_to (λ j. count_to (λ i. test i j) n) m ≡ sum_to (λ i. count_to (test i) m) n
unfolding sum_to count_to
sum_turned test n zero = sym (sum_none n)
sum_turned test n (suc m) =
    let before = sum_turned test n m in
    let more = sum_counted (λ i. count_to (test i) m) (λ i. test i m) n in
    omega arith

-- joined lists are as long as all of them together
pub joined_long : {A : Type 0} (f : ℕ → List A) (n : ℕ) → length (joined f n) ≡ sum_to (λ i. length (f i)) n
unfolding joined sum_to
joined_long f zero = refl
joined_long f (suc n) = length-append (joined f n) (f n) ∙ ap (λ (x : ℕ). x + length (f n)) (joined_long f n)

pub most-next : (f : ℕ → ℕ) (n : ℕ) → most_to f (suc n) ≡ max (most_to f n) (f n)
unfolding most_to
most-next f n = refl

-- the largest value is not below any,
pub most-at : (f : ℕ → ℕ) (n i : ℕ) → i < n → f i ≤ most_to f n
unfolding most_to
most-at f zero i l = absurd (not-suc-le-zero l)
most-at f (suc n) i l =
    ⊎_elim
    (λ (e : i ≡ n). let here = ap f e in omega arith)
    (λ (h : i < n). let before = most-at f n i h in omega arith)
    (eq-or-lt_of_le (le_of_suc-le-suc l))

-- and not above a number that none is above
pub most-at-most : (f : ℕ → ℕ) (most n : ℕ) → ((j : ℕ) → j < n → f j ≤ most) → most_to f n ≤ most
unfolding most_to
most-at-most f most zero h = omega arith
most-at-most f most (suc n) h =
    let before = most-at-most f most n (λ j l. h j (omega arith)) in
    let here = h n (omega arith) in
    omega arith

pub most-same : (f g : ℕ → ℕ) (n : ℕ) → ((i : ℕ) → i < n → f i ≡ g i) → most_to f n ≡ most_to g n
unfolding most_to
most-same f g zero h = refl
most-same f g (suc n) h =
    let before = most-same f g n (λ i l. h i (omega arith)) in
    let here = h n (omega arith) in
    omega arith
