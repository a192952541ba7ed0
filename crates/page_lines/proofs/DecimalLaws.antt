-- What the decimal text of a number is: one digit below 10, and else the text of its tenth part with its last digit after it.
-- So it has as many digits as the number needs, it says the number, and no zero stands in front. Assumes nothing.
use Prim.Native.Nat.{ℕ, zero, suc, ◌+◌, ◌*◌, ◌-◌, ◌/◌, ◌%◌, ◌^◌, ◌<◌, ◌≤◌}
use borrow.Author.Tests.{lt-ltb, le-ltb, ltb-true, ltb-false}
use mathlib.Core.Bool.{Bool, true, false}
use mathlib.Core.List.{List, [], ◌∷◌, ◌++◌}
use mathlib.Core.Logic.{◌⊎◌, inl, inr, ⊎_elim}
use mathlib.Core.Path.{◌≡◌, refl, sym, ◌∙◌, ap}
use native.Mathlib.Nat.{not-suc-le-zero, pow-suc}
use native.Mathlib.Omega.{arith}
use lib.Dec.{ltb}
use lib.ListN.{length, get_or, length-append, get_or-append}
use Rattle.basis.proofs.TestLaws.{holds_or_fails}
use Rattle.page_lines.specs.Decimal.{digit, digits_within, decimal, number_after, SaysNumber, NoZeroInFront}

-- as many calls as the number itself are enough: with more the digits are the same
enough-calls : (c d : ℕ) (small : Bool) (n : ℕ) → ltb n 10 ≡ small → n ≤ c → n ≤ d → digits_within c small n ≡ digits_within d small n
unfolding digits_within
enough-calls zero zero small n t l m = refl
enough-calls zero (suc d) true n t l m = refl
enough-calls zero (suc d) false n t l m = absurd (let h = ltb-false n 10 t in omega arith)
enough-calls (suc c) zero true n t l m = refl
enough-calls (suc c) zero false n t l m = absurd (let h = ltb-false n 10 t in omega arith)
enough-calls (suc c) (suc d) true n t l m = refl
enough-calls (suc c) (suc d) false n t l m =
    let h = ltb-false n 10 t in
    ap (λ (front : List ℕ). front ++ (digit (n % 10) ∷ []))
    (enough-calls c d (ltb (n / 10) 10) (n / 10) refl (omega arith) (omega arith))

pub decimal-small : (n : ℕ) → n < 10 → decimal n ≡ digit n ∷ []
unfolding decimal digits_within
decimal-small zero h = refl
decimal-small (suc n) h = ap (λ (small : Bool). digits_within (suc n) small (suc n)) (lt-ltb (suc n) 10 h)

pub decimal_large : (n : ℕ) → 10 ≤ n → decimal n ≡ decimal (n / 10) ++ (digit (n % 10) ∷ [])
unfolding decimal digits_within
decimal_large zero h = absurd (not-suc-le-zero h)
decimal_large (suc n) h =
    ap (λ (small : Bool). digits_within (suc n) small (suc n)) (le-ltb (suc n) 10 h)
    ∙ ap (λ (front : List ℕ). front ++ (digit (suc n % 10) ∷ []))
    (enough-calls n (suc n / 10) (ltb (suc n / 10) 10) (suc n / 10) refl (omega arith) (omega arith))

below_ten_or_not : (n : ℕ) → (n < 10) ⊎ (10 ≤ n)
below_ten_or_not n = ⊎_elim (λ t. inl (ltb-true n 10 t)) (λ t. inr (ltb-false n 10 t)) (holds_or_fails (ltb n 10))

-- the digits of a number of 10 and more are one more than those of its tenth part
pub large_length : (n : ℕ) → 10 ≤ n → length (decimal n) ≡ length (decimal (n / 10)) + 1
large_length n h = ap length (decimal_large n h) ∙ length-append (decimal (n / 10)) (digit (n % 10) ∷ [])

-- a number below ten, a hundred, .. has at most one digit, two, ..
pub decimal-length : (d n : ℕ) → n < 10 ^ suc d → length (decimal n) ≤ suc d
decimal-length zero n h = let e = ap length (decimal-small n h) in omega arith
decimal-length (suc d) n h =
    let less = decimal-length d (n / 10) (let p = pow-suc 10 (suc d) in omega arith) in
    ⊎_elim
    (λ (low : n < 10). let e = ap length (decimal-small n low) in omega arith)
    (λ (high : 10 ≤ n). let e = large_length n high in omega arith)
    (below_ten_or_not n)

-- some digit there is
pub some-digit : (n : ℕ) → 0 < length (decimal n)
some-digit n =
    ⊎_elim
    (λ (low : n < 10). let e = ap length (decimal-small n low) in omega arith)
    (λ (high : 10 ≤ n). let e = large_length n high in omega arith)
    (below_ten_or_not n)

pub number_append : (before : ℕ) (front back : List ℕ) →
    number_after before (front ++ back) ≡ number_after (number_after before front) back
unfolding number_after
number_append before [] back = refl
number_append before (d ∷ front) back = number_append (10 * before + (d - 48)) front back

says-small : (n : ℕ) → n < 10 → number_after 0 (decimal n) ≡ n
unfolding number_after
says-small n h = ap (number_after 0) (decimal-small n h) ∙ (let e : 10 * 0 + (48 + n - 48) ≡ n = omega arith in e)

says_large : (n : ℕ) → 10 ≤ n → number_after 0 (decimal (n / 10)) ≡ n / 10 → number_after 0 (decimal n) ≡ n
unfolding number_after
says_large n h tenth =
    ap (number_after 0) (decimal_large n h)
    ∙ number_append 0 (decimal (n / 10)) (digit (n % 10) ∷ [])
    ∙ ap (λ (before : ℕ). 10 * before + (48 + n % 10 - 48)) tenth
    ∙ (let e : 10 * (n / 10) + (48 + n % 10 - 48) ≡ n = omega arith in e)

says-within : (most n : ℕ) → n ≤ most → number_after 0 (decimal n) ≡ n
says-within zero n l = says-small n (omega arith)
says-within (suc most) n l =
    ⊎_elim
    (λ (low : n < 10). says-small n low)
    (λ (high : 10 ≤ n). says_large n high (says-within most (n / 10) (omega arith)))
    (below_ten_or_not n)

-- the text of a number says that number
pub decimal-says : SaysNumber
decimal-says n = says-within n n (omega arith)

first-within : (most n : ℕ) → n ≤ most → 0 < n → get_or (decimal n) 0 0 ≡ digit 0 → ⊥
first-within zero n l some e = absurd (omega arith)
first-within (suc most) n l some e =
    ⊎_elim
    (λ (low : n < 10). let one = sym (ap (λ (t : List ℕ). get_or t 0 0) (decimal-small n low)) ∙ e in let h : 48 + n ≡ 48 = one in omega arith)
    (λ (high : 10 ≤ n).
    first-within most (n / 10) (omega arith) (omega arith)
    (sym
    (ap (λ (t : List ℕ). get_or t 0 0) (decimal_large n high)
    ∙ get_or-append (decimal (n / 10)) (digit (n % 10) ∷ []) 0 0 (some-digit (n / 10)))
    ∙ e))
    (below_ten_or_not n)

-- and no zero stands in front
pub no_zero_in_front : NoZeroInFront
no_zero_in_front n some e = first-within n n (omega arith) some e
