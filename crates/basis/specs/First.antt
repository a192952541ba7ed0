-- The first number that applies, with 0 for none.
use Rattle.std.specs.Prelude.{ℕ, zero, suc, Bool, true, false}

infixr 4 ◌when◌otherwise◌
-- `k when test otherwise rest`: the number k where the test holds, and else the rest of the row
abbrev pub ◌when◌otherwise◌ : ℕ → Bool → ℕ → ℕ
◌when◌otherwise◌ k true rest = k
◌when◌otherwise◌ k false rest = rest

-- the first number where there is one, and else the second
abbrev pub or_else : ℕ → ℕ → ℕ
or_else zero b = b
or_else (suc a) b = suc a

-- the first number that f gives over 0, .., k - 1
unfoldable pub first_over : (ℕ → ℕ) → ℕ → ℕ
first_over f zero = 0
first_over f (suc k) = or_else (first_over f k) (f k)

-- what stands in lent memory after a call: what the call gives there, or, where it is refused with a number, what stood there before
unfoldable pub unless_refused {ℓ} : {A : Type ℓ} → ℕ → (given before : A) → A
unless_refused zero given before = given
unless_refused (suc k) given before = before
