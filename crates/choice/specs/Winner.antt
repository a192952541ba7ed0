-- "The eligible bidder with the highest bid wins; equal bids go to the lower number." Over any test of who is eligible and any
-- bids, for bidders 1 to n; 0 where nobody is eligible.
use Rattle.std.specs.Prelude.{ℕ, suc, Bool, not, ◌&&◌, ◌||◌, eqb, ltb, leb}
use Rattle.basis.specs.First.{◌when◌otherwise◌, first_over}
use Rattle.basis.specs.Tests.{all_below}

-- b ranks no lower than j: its bid is higher, or equal and its number is not above j's
unfoldable pub ranks_no_lower : (ℕ → ℕ) → ℕ → ℕ → Bool
ranks_no_lower bid b j = ltb (bid j) (bid b) || (eqb (bid j) (bid b) && leb b j)

-- b is eligible and ranks no lower than every eligible bidder
unfoldable pub wins : (ℕ → Bool) → (ℕ → ℕ) → ℕ → ℕ → Bool
wins eligible bid n b = eligible b && all_below (λ i. not (eligible (suc i)) || ranks_no_lower bid b (suc i)) n

-- the bidder that wins
unfoldable pub winner : (ℕ → Bool) → (ℕ → ℕ) → ℕ → ℕ
winner eligible bid n = first_over (λ i. suc i when wins eligible bid n (suc i) otherwise 0) n
