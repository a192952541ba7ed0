-- "The best page", as document 01 has it.
use Rattle.std.specs.Prelude.{ℕ, ◌<◌, ◌≤◌, ◌⊎◌, ◌≡◌}
use Rattle.sheet.specs.declared.Page.{Page}
use Rattle.sheet.specs.declared.Round.{Round}
use Rattle.auction.specs.Page.{at}
use Rattle.auction.specs.Allowed.{Allowed, total}

-- "comes first in dictionary order": the lists of bidder numbers by slot are the same before slot k, and smaller there
pub record Precedes (p q : Page) : Type 0 where
  pub slot : ℕ
  pub smaller : at p slot < at q slot
  pub same : (j : ℕ) → j < slot → at p j ≡ at q j

-- "among pages breaking no condition, one with the largest total; among those, the one whose list of bidder numbers by place (0 for
-- empty) comes first in dictionary order"
pub record Best (r : Round) (p : Page) : Type 0 where
  pub allowed : Allowed r p
  pub largest : (q : Page) → Allowed r q → total r q ≤ total r p
  pub first : (q : Page) → Allowed r q → total r q ≡ total r p → (p ≡ q) ⊎ Precedes p q
