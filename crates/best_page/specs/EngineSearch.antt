-- The laws' own: nothing here need be believed.
-- What trying the pages of a set has found, when totals of at least `need` are looked for: nothing, where no page of the set has so
-- large a total; or the best of them, and then one more is needed from there on.
use Rattle.std.specs.Prelude.{ℕ, suc, ◌<◌, ◌≤◌, ◌⊎◌, ◌≡◌}
use Rattle.sheet.specs.declared.Page.{Page}
use Rattle.sheet.specs.declared.Round.{Round}
use Rattle.auction.specs.Page.{at}
use Rattle.best_page.specs.Best.{Precedes}
use Rattle.auction.specs.Allowed.{Allowed, total}

pub record Nothing (r : Round) (D : Page → Type 0) (need : ℕ) (page : Page) (need' : ℕ) (page' : Page) : Type 0 where
  pub same_need : need' ≡ need
  pub same_page : page' ≡ page
  pub small : (q : Page) → D q → Allowed r q → total r q < need

pub record Found (r : Round) (D : Page → Type 0) (need : ℕ) (need' : ℕ) (page' : Page) : Type 0 where
  pub within : D page'
  pub allowed : Allowed r page'
  pub enough : need ≤ total r page'
  pub next : need' ≡ suc (total r page')
  pub largest : (q : Page) → D q → Allowed r q → total r q ≤ total r page'
  pub first : (q : Page) → D q → Allowed r q → total r q ≡ total r page' → (page' ≡ q) ⊎ Precedes page' q

abbrev pub Searched : Round → (Page → Type 0) → (need : ℕ) (page : Page) (need' : ℕ) (page' : Page) → Type 0
Searched r D need page need' page' = Nothing r D need page need' page' ⊎ Found r D need need' page'

-- Sets of pages: q has the slots 1 to k of p,
abbrev pub Agrees : Page → ℕ → Page → Type 0
Agrees p k q = (j : ℕ) → j ≤ k → at q j ≡ at p j

-- and one of the first b choices, 0 to b - 1, at the next slot
abbrev pub Tried : Page → ℕ → ℕ → Page → Type 0
Tried p k b q = Agrees p k q × (at q (suc k) < b)
