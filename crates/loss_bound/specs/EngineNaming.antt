-- The engine's own: nothing here need be believed.
-- Who names whom among the first constraints of a sheet: for each bidder whom it names as the bits of a word, and for each bidder how many name it.
use Rattle.std.specs.Prelude.{ℕ, suc, ◌<◌, ◌≤◌, Bool, ◌&&◌, ◌||◌, List, ◌≡◌, eqb, length, get_or}
use Rattle.basis.specs.Counting.{count_to}
use Rattle.basis.specs.Tests.{any_below}
use Rattle.sheet.specs.Sheet.{owner_field, other_field}
use Rattle.bidder_sets.specs.EngineSets.{Holds}

-- one of the first c constraints is bidder i's, with j for the other bidder
unfoldable pub names_among : List ℕ → (c i j : ℕ) → Bool
names_among s c i j = any_below (λ k. eqb (owner_field s k) i && eqb (other_field s k) j) c

-- a relation with one pair more
abbrev pub with_name : (ℕ → ℕ → Bool) → (owner other i j : ℕ) → Bool
with_name rival owner other i j = rival i j || (eqb owner i && eqb other j)

-- how many bidders, of n, name j
abbrev pub named_by : (ℕ → ℕ → Bool) → (n j : ℕ) → ℕ
named_by rival n j = count_to (λ i. rival (suc i) j) n

-- the words and counts of n bidders say who names whom
pub record Noted (n : ℕ) (rival : ℕ → ℕ → Bool) (words counts : List ℕ) : Type 0 where
  pub few : n ≤ 64
  pub sized_words : length words ≡ 64
  pub sized_counts : length counts ≡ 64
  pub told : (i : ℕ) → i < n → Holds (get_or words i 0) (rival (suc i))
  pub counted : (j : ℕ) → get_or counts j 0 ≡ named_by rival n (suc j)
