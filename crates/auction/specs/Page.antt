-- "A page gives each place one bidder or none, and no bidder two places."
-- A page has 16 slots, counted from 1; nobody stands past the round's last one. Everything else reads a page by `at`,
-- and makes a page by `put`.
use Rattle.std.specs.Prelude.{ℕ, zero, suc, Bool, ◌≡◌, eqb, length, get_or, set, replicate}
use Rattle.basis.specs.Tests.{any_below}
use Rattle.sheet.specs.declared.Page.{Page}
use Rattle.sheet.specs.Round.{bidder}

-- the bidder at slot k, 0 for nobody
unfoldable pub at : Page → ℕ → ℕ
at p zero = 0
at p (suc k) = (get_or p.bidders k (bidder 0)).0

-- the page with bidder b at slot k
unfoldable pub put : Page → ℕ → ℕ → Page
put p zero b = p
put p (suc k) b = record { bidders = set p.bidders k (bidder b) }

-- nobody anywhere
unfoldable pub empty_page : Page
empty_page = record { bidders = replicate 16 (bidder 0) }

-- bidder b has a slot
unfoldable pub placed : Page → ℕ → Bool
placed p b = any_below (λ k. eqb (at p (suc k)) b) 16

-- a page of 16 slots
abbrev pub Sized : Page → Type 0
Sized p = length p.bidders ≡ 16
