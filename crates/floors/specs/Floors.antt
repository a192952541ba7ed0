-- The rules for a lent list of floors, S-7: "after 28 and before 14, 30 for a list that is not m long and 31 for a floor above 1,000,000,000".
use Rattle.std.specs.Prelude.{ℕ, Bool, not, List, eqb, ltb, length, get_or}
use Rattle.basis.specs.First.{◌when◌otherwise◌}
use Rattle.basis.specs.Tests.{any_below}

-- some floor of the list is above 1,000,000,000
unfoldable pub some_too_high : List ℕ → Bool
some_too_high floors = any_below (λ k. ltb 1_000_000_000 (get_or floors k 0)) (length floors)

-- of a list of floors for a page of m slots
unfoldable pub floors_refusal : (m : ℕ) → List ℕ → ℕ
floors_refusal m floors =
    30 when not (eqb (length floors) m) otherwise
    31 when some_too_high floors otherwise
    0
