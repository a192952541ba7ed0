-- The engine's own: nothing here need be believed.
-- A played round's page and prices as bytes.
use Rattle.std.specs.Prelude.{ℕ, List, ◌∷◌, get_or}
use Rattle.basis.specs.Bytes.{bytes32}
use Rattle.sheet.specs.Round.{bidder}
use Rattle.greedy.specs.declared.Outcome.{Outcome}

-- the 5 bytes for index k
unfoldable pub entry_in : Outcome → ℕ → List ℕ
entry_in o k = (get_or o.page.bidders k (bidder 0)).0 ∷ bytes32 (get_or o.prices k 0)
