-- The engine's own: nothing here need be believed.
-- How the order is found: again and again the first of the members, in rising order, that is left and that nobody left names.
use Rattle.std.specs.Prelude.{ℕ, zero, suc, ◌-◌, Bool, not, ◌&&◌, List, eqb, length, get_or}
use Rattle.basis.specs.Rows.{row}
use Rattle.basis.specs.Tests.{any_below, all_below, least}
use Rattle.bidder_sets.specs.EngineSets.{in_word}
use Rattle.share_page.specs.SharePage.{without}

-- bidder b's word in a table has x
abbrev pub in_table : List ℕ → ℕ → ℕ → Bool
in_table table b x = in_word (get_or table (b - 1) 0) x

-- some of the members that are left names x
unfoldable pub rival_in : (ℕ → ℕ → Bool) → List ℕ → (ℕ → Bool) → ℕ → Bool
rival_in rival members left x = any_below (λ k. left (get_or members k 0) && rival (get_or members k 0) x) (length members)

-- the first of the members that passes, and 0 where none does
unfoldable pub first_in : List ℕ → (ℕ → Bool) → ℕ
first_in members test = get_or members (least (λ k. test (get_or members k 0)) (length members)) 0

-- the first that is left and that nobody left names
unfoldable pub next_in : (ℕ → ℕ → Bool) → List ℕ → (ℕ → Bool) → ℕ
next_in rival members left = first_in members (λ x. left x && not (rival_in rival members left x))

-- who is left after k turns
unfoldable pub left_after : (ℕ → ℕ → Bool) → List ℕ → (ℕ → Bool) → ℕ → ℕ → Bool
left_after rival members left zero = left
left_after rival members left (suc k) = without (left_after rival members left k) (next_in rival members (left_after rival members left k))

-- those of the first k turns, and whether each of these found one
unfoldable pub turns : (ℕ → ℕ → Bool) → List ℕ → (ℕ → Bool) → ℕ → List ℕ
turns rival members left k = row (λ i. next_in rival members (left_after rival members left i)) k

unfoldable pub all_found_to : (ℕ → ℕ → Bool) → List ℕ → (ℕ → Bool) → ℕ → Bool
all_found_to rival members left k = all_below (λ i. not (eqb (next_in rival members (left_after rival members left i)) 0)) k
