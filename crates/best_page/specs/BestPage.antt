-- The best page, found by trying every page: all choices of nobody or a bidder for slots 1 to m, in dictionary order, keeping the first
-- allowed one with the largest total. It computes the worked rounds; that it is `Best`, and that `Best` names one page only, are theorems.
use Rattle.std.specs.Prelude.{ℕ, zero, suc, Bool, cond, not, ◌&&◌, ◌||◌, eqb, leb}
use Rattle.basis.specs.Tests.{all_below}
use Rattle.sheet.specs.declared.Page.{Page}
use Rattle.sheet.specs.declared.Round.{Round}
use Rattle.sheet.specs.Round.{bid_of, floor_of}
use Rattle.auction.specs.Page.{at, put, empty_page}
use Rattle.auction.specs.Broken.{breaks}
use Rattle.auction.specs.Allowed.{total}
use Rattle.best_page.specs.declared.Answer.{Answer}

-- no bidder has two slots among the first m
unfoldable pub nobody_twice : Page → ℕ → Bool
nobody_twice p m =
    all_below (λ i. all_below (λ j. (eqb (at p (suc i)) 0 || not (eqb (at p (suc i)) (at p (suc j)))) || eqb i j) m) m

-- every filled slot has a bid at or above its floor
unfoldable pub reaches_floors : Round → Page → Bool
reaches_floors r p = all_below (λ k. eqb (at p (suc k)) 0 || leb (floor_of r (suc k)) (bid_of r (at p (suc k)))) r.slots

-- no bidder twice, no constraint broken, and every floor reached
unfoldable pub is_allowed : Round → Page → Bool
is_allowed r p = (nobody_twice p r.slots && not (breaks r p)) && reaches_floors r p

-- a page is kept where it is allowed and has the total that is needed; then one more is needed
unfoldable pub keep : Round → Page → Answer → Answer
keep r p a = cond (is_allowed r p && leb a.need (total r p)) (record { page = p; need = suc (total r p) }) a

-- each choice 0, .., n - 1 in turn
unfoldable pub each_choice : (ℕ → Answer → Answer) → ℕ → Answer → Answer
each_choice f zero a = a
each_choice f (suc n) a = f n (each_choice f n a)

-- every page that has p's first k slots, with `left` slots to choose
unfoldable pub try_all : Round → (left k : ℕ) → Page → Answer → Answer
try_all r zero k p a = keep r p a
try_all r (suc left) k p a = each_choice (λ b. try_all r left (suc k) (put p (suc k) b)) (suc r.bidders) a

unfoldable pub best_page_of : Round → Page
best_page_of r = (try_all r r.slots 0 empty_page (record { page = empty_page; need = 0 })).page
