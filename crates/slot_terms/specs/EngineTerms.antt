-- The engine's own: nothing here need be believed.
-- A condition as the number of its four bytes, low byte first: the owner is the lowest. And how many conditions the first bars give.
use Rattle.std.specs.Prelude.{ℕ, zero, suc, ◌+◌, ◌*◌, List}
use Rattle.slot_terms.specs.SlotTerms.{bar_for}

abbrev pub word_of : (owner own other others : ℕ) → ℕ
word_of owner own other others = owner + 256 * own + 65536 * other + 16777216 * others

-- the bars for bidders 1 to n together
unfoldable pub bars_to : List ℕ → ℕ → ℕ
bars_to bars zero = 0
bars_to bars (suc n) = bars_to bars n + bar_for bars (suc n)
