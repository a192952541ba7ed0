-- Two numbers compared, by cases; multiples of one number, and how a multiplication tells them; two products exchanged; numbers of two digits. Assumes nothing.
use Prim.Native.Nat.{ℕ, suc, ◌+◌, ◌-◌, ◌*◌, ◌/◌, ◌%◌, ◌<◌, ◌≤◌}
use borrow.Author.Tests.{eqb-true, eqb-false, ltb-true, ltb-false, lt-ltb, le-ltb, eq-eqb, ne_eqb}
use mathlib.Core.Bool.{true, false, ◌&&◌, ◌||◌}
use mathlib.Core.Logic.{◌⊎◌, inl, inr, ⊎_elim}
use mathlib.Core.Path.{◌≡◌, sym, ◌∙◌, ap, subst₂}
use native.Mathlib.Decide.{ℕ_discrete}
use native.Mathlib.Nat.{
  div-add-mod,
  div-add-mod',
  div-eq_of_lt-le,
  lt-mul-div-succ,
  mul-div-le,
  mul-mod_left,
  mul-le-mul_left,
  mul-suc,
  suc-mul,
  mul-add,
  mul_assoc,
  add-mod_right,
}
use native.Mathlib.Numerals.{add-one}
use native.Mathlib.Omega.{arith}
use lib.Dec.{eqb, ltb}
use Rattle.basis.proofs.TestLaws.{holds_or_fails, same_tests, or_left, or_right, or_none, or_fails}

-- two numbers are equal or not
pub same_or_not : (a b : ℕ) → (a ≡ b) ⊎ (a ≡ b → ⊥)
same_or_not a b = decided (ℕ_discrete a b)
  where
    decided : Dec (a ≡ b) → (a ≡ b) ⊎ (a ≡ b → ⊥)
    decided (yes e) = inl e
    decided (no h) = inr h

-- and are so told either way round
pub eqb_turned : (a b : ℕ) → eqb a b ≡ eqb b a
eqb_turned a b = same_tests (eqb a b) (eqb b a) (λ e. eq-eqb b a (sym (eqb-true a b e))) (λ e. eq-eqb a b (sym (eqb-true b a e)))

-- one number is below another or not
pub below_or_not : (a b : ℕ) → (a < b) ⊎ (b ≤ a)
below_or_not a b =
    ⊎_elim (λ (t : ltb a b ≡ true). inl (ltb-true a b t)) (λ (t : ltb a b ≡ false). inr (ltb-false a b t)) (holds_or_fails (ltb a b))

-- a number from 1 to a largest one, and any other
pub outside : (x most : ℕ) → (x ≡ 0) ⊎ (most < x) → (eqb x 0 || ltb most x) ≡ true
outside x most bad =
    ⊎_elim (λ (e : x ≡ 0). or_left (ltb most x) (eq-eqb x 0 e)) (λ (l : most < x). or_right (eqb x 0) (lt-ltb most x l)) bad

pub inside : (x most : ℕ) → 0 < x → x ≤ most → (eqb x 0 || ltb most x) ≡ false
inside x most some within = or_fails (ne_eqb x 0 (omega arith)) (le-ltb most x within)

pub from_inside : (x most : ℕ) → (eqb x 0 || ltb most x) ≡ false → (0 < x) × (x ≤ most)
from_inside x most e =
    let parts = or_none (eqb x 0) (ltb most x) e in
    let some : x ≡ 0 → ⊥ = eqb-false x 0 parts.0 in
    (omega arith, ltb-false most x parts.1)

-- of two multiples of t, the larger is larger by t at least
pub multiple-above : (t a b : ℕ) → a % t ≡ 0 → b % t ≡ 0 → a < b → a + t ≤ b
multiple-above t a b p q l =
    let a-is : t * (a / t) + a % t ≡ a = div-add-mod a t in
    let b-is : t * (b / t) + b % t ≡ b = div-add-mod b t in
    ⊎_elim
    (λ (h : a / t < b / t).
    let more : t * suc (a / t) ≤ t * (b / t) = mul-le-mul_left t h in
    let sum = mul-suc t (a / t) in
    omega arith)
    (λ (h : b / t ≤ a / t).
    let more : t * (b / t) ≤ t * (a / t) = mul-le-mul_left t h in
    absurd (omega arith))
    (below_or_not (a / t) (b / t))

-- and t more than a multiple of t is one
pub multiple-next : (t a : ℕ) → a % t ≡ 0 → (a + t) % t ≡ 0
multiple-next t a p = add-mod_right a t ∙ p

-- the higher of two bids at the higher of two effects adds at least as much as the other way round
exchanged_sums : (a d e g : ℕ) → a * (e + g) + (a + d) * e ≤ (a + d) * (e + g) + a * e
exchanged_sums a d e g = omega arith

pub exchange_adds : (a h e e' : ℕ) → a ≤ h → e' ≤ e → a * e + h * e' ≤ h * e + a * e'
exchange_adds a h e e' p q =
    let higher : a + (h - a) ≡ h = omega arith in
    let more : e' + (e - e') ≡ e = omega arith in
    subst₂ (λ (x y : ℕ). a * y + x * e' ≤ x * y + a * e') higher more (exchanged_sums a (h - a) e' (e - e'))

-- numbers of two digits, the second below w, are compared by the first digit and then by the second
pub digits_compared : (w a x b y : ℕ) → x < w → y < w → (ltb a b || (eqb a b && ltb x y)) ≡ ltb (w * a + x) (w * b + y)
digits_compared w a x b y low low' =
    ⊎_elim
    (λ (l : a < b).
    let more : w * suc a ≤ w * b = mul-le-mul_left w l in
    let sum = mul-suc w a in
    simp (lt-ltb a b l, lt-ltb (w * a + x) (w * b + y) (omega arith)))
    (λ (l : b ≤ a).
    ⊎_elim
    (λ (e : a ≡ b).
    let same : w * a ≡ w * b = ap (λ (z : ℕ). w * z) e in
    ⊎_elim
    (λ (m : x < y). simp (le-ltb a b l, eq-eqb a b e, lt-ltb x y m, lt-ltb (w * a + x) (w * b + y) (omega arith)))
    (λ (m : y ≤ x). simp (le-ltb a b l, eq-eqb a b e, le-ltb x y m, le-ltb (w * a + x) (w * b + y) (omega arith)))
    (below_or_not x y))
    (λ (h : a ≡ b → ⊥).
    let more : w * suc b ≤ w * a = mul-le-mul_left w (omega arith) in
    let sum = mul-suc w b in
    simp (le-ltb a b l, ne_eqb a b h, le-ltb (w * a + x) (w * b + y) (omega arith)))
    (same_or_not a b))
    (below_or_not a b)

-- a multiple of t below w is told by a multiplication: with the share w / t + 1 of w, the product of k times t is k times w and a rest below w
times_told : (w t x : ℕ) → 0 < w → 0 < t → x < w → x % t ≡ 0 → x * (w / t + 1) / w ≡ x / t
times_told w t x some ticks low e =
    let k = x / t in
    let m = w / t + 1 in
    let x-is : k * t ≡ x = (let sum = div-add-mod' x t in omega arith) in
    let product : x * m ≡ k * (t * m) = ap (λ (y : ℕ). y * m) (sym x-is) ∙ mul_assoc k t m in
    let above : w ≤ t * m = (let h : w < t * m = lt-mul-div-succ w ticks in omega arith) in
    let below : t * m ≤ w + t = (let share = mul-div-le w t in let sum : t * m ≡ t * (w / t) + t = ap (λ (y : ℕ). t * y) (add-one (w / t)) ∙ mul-suc t (w / t) in omega arith) in
    let least : k * w ≤ k * (t * m) = mul-le-mul_left k above in
    let most : k * (t * m) ≤ k * (w + t) = mul-le-mul_left k below in
    let parts : k * (w + t) ≡ k * w + k * t = mul-add k w t in
    let next : (k + 1) * w ≡ k * w + w = ap (λ (y : ℕ). y * w) (add-one k) ∙ suc-mul k w in
    div-eq_of_lt-le w (omega arith) (omega arith)

pub multiple-told : (w t x : ℕ) → 0 < w → 0 < t → x < w → eqb (x * (w / t + 1) / w * t) x ≡ eqb (x % t) 0
multiple-told w t x some ticks low =
    same_tests (eqb (x * (w / t + 1) / w * t) x) (eqb (x % t) 0)
    (λ h.
    let whole : x * (w / t + 1) / w * t ≡ x = eqb-true (x * (w / t + 1) / w * t) x h in
    eq-eqb (x % t) 0 (ap (λ (y : ℕ). y % t) (sym whole) ∙ mul-mod_left (x * (w / t + 1) / w) t))
    (λ h.
    let none : x % t ≡ 0 = eqb-true (x % t) 0 h in
    eq-eqb (x * (w / t + 1) / w * t) x
    (ap (λ (y : ℕ). y * t) (times_told w t x some ticks low none) ∙ (let sum = div-add-mod' x t in omega arith)))
