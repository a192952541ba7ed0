-- The engine's own: nothing here need be believed.
-- The pairs of rivals that stand in a list, one own place after another, and how many pairs one rival has.
use Rattle.std.specs.Prelude.{ℕ, zero, suc, ◌+◌, List, length, get_or}
use Rattle.basis.specs.Rows.{joined}
use Rattle.sheet.specs.Encoded.{Condition}
use Rattle.above_terms.specs.AboveTerms.{pairs_at}

-- those of the first j rivals of a list, with the owner at one place
unfoldable pub slot_pairs : (owner own : ℕ) → List ℕ → ℕ → List Condition
slot_pairs owner own others j = joined (λ i. pairs_at owner own (get_or others i 0)) j

-- those of all of them, with the owner at places 1 to k
unfoldable pub all_pairs : (owner : ℕ) → List ℕ → ℕ → List Condition
all_pairs owner others k = joined (λ i. slot_pairs owner (suc i) others (length others)) k

-- how many pairs of places 1 to m there are with one above the other
unfoldable pub slots_above : ℕ → ℕ
slots_above zero = 0
slots_above (suc k) = slots_above k + k
