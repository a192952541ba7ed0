-- The engine's own: nothing here need be believed.
-- A set of bidders 1 to 64 as one word, and as a list in rising order.
use Rattle.std.specs.Prelude.{ℕ, suc, ◌-◌, ◌<◌, ◌≤◌, Bool, cond, List, [], ◌∷◌, ◌≡◌}
use Rattle.basis.specs.Bits.{bit_of}
use Rattle.basis.specs.Rows.{joined}

-- bidder b is in the word
abbrev pub in_word : ℕ → ℕ → Bool
in_word word b = bit_of word (b - 1)

-- the word holds a set
abbrev pub Holds : ℕ → (ℕ → Bool) → Type 0
Holds word member = (b : ℕ) → 0 < b → b ≤ 64 → in_word word b ≡ member b

-- those of bidders 1 to n that are members, in rising order
unfoldable pub rising_members : (ℕ → Bool) → ℕ → List ℕ
rising_members member n = joined (λ i. cond (member (suc i)) (suc i ∷ []) []) n
