-- The engine's own: nothing here need be believed.
-- What the two searches give: the largest total, and the first page in dictionary order that has it.
use Rattle.std.specs.Prelude.{ℕ, suc, ◌≤◌, Option, Some, None, Bool, true, false, List, ◌⊎◌, ◌≡◌}
use Rattle.sheet.specs.declared.Page.{Page}
use Rattle.sheet.specs.declared.Round.{Round}
use Rattle.auction.specs.Allowed.{Allowed, total}
use Rattle.best_page.specs.Best.{Precedes}
use Rattle.best_page.specs.EngineSearch.{Agrees}
use Rattle.best_clash.specs.EngineClash.{FreeFor, RanksOf}
use Rattle.best_node.specs.EngineNode.{TablesOf, Node}

-- the largest of what was known and of the totals of a set's allowed pages
pub record Largest (r : Round) (D : Page → Type 0) (known best : ℕ) : Type 0 where
  pub no_less : known ≤ best
  pub most : (q : Page) → D q → Allowed r q → total r q ≤ best
  pub reached : (best ≡ known) ⊎ ((q : Page) × D q × Allowed r q × (total r q ≡ best))

-- of a set's allowed pages with a total the first in dictionary order, or that there is none
pub record FirstWith (r : Round) (D : Page → Type 0) (sum : ℕ) (found : Bool) (page : Page) : Type 0 where
  pub none : found ≡ false → (q : Page) → D q → Allowed r q → total r q ≡ sum → ⊥
  pub within : found ≡ true → D page
  pub allowed : found ≡ true → Allowed r page
  pub has : found ≡ true → total r page ≡ sum
  pub first : found ≡ true → (q : Page) → D q → Allowed r q → total r q ≡ sum → (page ≡ q) ⊎ Precedes page q

-- what the first search gives, from a page with the slots before index k settled, for every round of which the lent tables are
abbrev pub Raised : (shut gains : List ℕ) (slot free had known best : ℕ) → Type 0
Raised shut gains slot free had known best =
    (r : Round) (ranked : List ℕ) (p : Page) (k : ℕ) → suc k ≡ slot → TablesOf r ranked shut gains → Node r p k had → FreeFor r ranked p k free →
    Largest r (Agrees p k) known best

-- and the second
abbrev pub Sought : (shut gains ranks : List ℕ) (bidders slot : ℕ) (p : Page) (free had sum : ℕ) (found : Bool) (page : Page) → Type 0
Sought shut gains ranks bidders slot p free had sum found page =
    (r : Round) (ranked : List ℕ) (k : ℕ) → suc k ≡ slot → r.bidders ≡ bidders → TablesOf r ranked shut gains → RanksOf r.bidders ranked ranks →
    Node r p k had → FreeFor r ranked p k free → FirstWith r (Agrees p k) sum found page

-- the first such page, or none
abbrev pub SoughtIn : (shut gains ranks : List ℕ) (bidders slot : ℕ) (p : Page) (free had sum : ℕ) → Option Page → Type 0
SoughtIn shut gains ranks bidders slot p free had sum (Some page) = Sought shut gains ranks bidders slot p free had sum true page
SoughtIn shut gains ranks bidders slot p free had sum None = Sought shut gains ranks bidders slot p free had sum false p
