-- The engine's own: nothing here need be believed.
-- Each constraint concerns at most two bidders, so a page breaks one exactly when two of its bidders, or one alone, do.
use Rattle.std.specs.Prelude.{ℕ, suc, ◌+◌, ◌*◌, ◌-◌, ◌^◌, ◌<◌, ◌≤◌, Bool, not, ◌&&◌, ◌||◌, List, ◌≡◌, eqb, ltb, leb, get_or}
use Rattle.basis.specs.Bits.{bit_of}
use Rattle.basis.specs.Tests.{any_below}
use Rattle.sheet.specs.declared.Page.{Page}
use Rattle.sheet.specs.declared.Round.{Round}
use Rattle.sheet.specs.Round.{bid_of, floor_of}
use Rattle.auction.specs.Page.{at, put, empty_page, placed}
use Rattle.auction.specs.Broken.{breaks}
use Rattle.best_clash.specs.EngineMarks.{some_marks}

-- the page with bidder b at slot k and bidder j at slot l, and nobody else
unfoldable pub pair_page : ℕ → ℕ → ℕ → ℕ → Page
pair_page b k j l = put (put empty_page k b) l j

-- bidder b at slot k and bidder j at slot l break a constraint of the round
unfoldable pub clash : Round → ℕ → ℕ → ℕ → ℕ → Bool
clash r b k j l = breaks r (pair_page b k j l)

-- bidder b at slot k clashes with itself, or with a bidder that stands on the page at a slot before k
unfoldable pub clashes : Round → Page → ℕ → ℕ → Bool
clashes r p k b =
    clash r b k b k || any_below (λ i. not (eqb (at p (suc i)) 0) && clash r b k (at p (suc i)) (suc i)) k

-- bidder b may stand at slot k of the page, where nobody stands yet: it has no slot, and breaks nothing there
unfoldable pub may_stand : Round → Page → ℕ → ℕ → Bool
may_stand r p k b = not (placed p b) && not (breaks r (put p k b))

-- and its bid reaches the slot's floor
unfoldable pub may_have : Round → Page → ℕ → ℕ → Bool
may_have r p k b = leb (floor_of r k) (bid_of r b) && may_stand r p k b

-- the word tells, for the slots after the first k and the first eight ranks, who may stand there: the bidders of the ranks below n may or may not, and
-- no other rank and no slot after the last has a bit
pub record FreeFor (r : Round) (ranked : List ℕ) (p : Page) (k free : ℕ) : Type 0 where
  pub low : free < 2 ^ (8 * (r.slots - k))
  pub told : (l i : ℕ) → k + l < r.slots → i < 8 →
      bit_of free (8 * l + i) ≡ (ltb i r.bidders && may_have r p (suc (k + l)) (get_or ranked i 0))

-- the list by bidder number tells each bidder's rank in the list by rank
pub record RanksOf (n : ℕ) (ranked ranks : List ℕ) : Type 0 where
  pub named : (i : ℕ) → i < n → (0 < get_or ranked i 0) × (get_or ranked i 0 ≤ n)
  pub back : (i : ℕ) → i < n → get_or ranks (get_or ranked i 0) 0 ≡ i
  pub low : (b : ℕ) → 0 < b → b ≤ n → get_or ranks b 0 < n
  pub there : (b : ℕ) → 0 < b → b ≤ n → get_or ranked (get_or ranks b 0) 0 ≡ b

-- what the words by seat tell of a later slot: rank j is shut there once rank i stands at the slot with index k, since it is the same rank or since a constraint marks the two
abbrev pub ShutOf : Round → (ranked shut : List ℕ) → Type 0
ShutOf r ranked shut =
    (k l i j : ℕ) → k < l → l < 8 → i < r.bidders → j < r.bidders →
    bit_of (get_or shut (8 * k + i) 0) (8 * (l - k) + j)
    ≡ (some_marks r r.used (get_or ranked i 0) (suc k) (get_or ranked j 0) (suc l) || eqb j i)
