-- Who is eligible for a slot, and which test a candidate fails first. "Filling the page"; source section 3.1; document 02, S-3 and S-7.
use Rattle.std.specs.Prelude.{ℕ, Bool, ◌&&◌, eqb, ltb}
use Rattle.basis.specs.First.{◌when◌otherwise◌}
use Rattle.basis.specs.Tests.{any_below}
use Rattle.sheet.specs.declared.Page.{Page}
use Rattle.sheet.specs.declared.Round.{Round}
use Rattle.sheet.specs.Round.{constraint_at, bid_of, floor_of}
use Rattle.auction.specs.declared.Eligibility.{Eligibility}
use Rattle.auction.specs.declared.Eligibility.TheVariants.{Eligible, Placed, EarlierWinners, Own, BelowFloor}
use Rattle.auction.specs.Page.{put, placed}
use Rattle.auction.specs.Broken.{broken, breaks_own}

-- "those of an earlier winner": a constraint whose owner stands on the page p already is broken on the page p'
unfoldable pub breaks_earlier : Round → Page → Page → Bool
breaks_earlier r p p' = any_below (λ i. placed p (constraint_at r i).owner.0 && broken p' (constraint_at r i)) r.used

-- S-3: "the first of these tests that fails, or that none does: not yet placed, then earlier winners' conditions, then the candidate's own."
-- S-7: "eligible for a place only with a bid at or above its floor, tested after S-3's three".
-- The number of the first that the candidate b fails at slot k, with the slots of p filled, and 0 where it fails none.
unfoldable pub first_failed : Round → Page → ℕ → ℕ → ℕ
first_failed r p k b =
    1 when placed p b otherwise
    2 when breaks_earlier r p (put p k b) otherwise
    3 when breaks_own r (put p k b) b otherwise
    4 when ltb (bid_of r b) (floor_of r k) otherwise
    0

-- each answer of the eligibility step by that number
unfoldable pub failed_test : Eligibility → ℕ
failed_test Eligible = 0
failed_test Placed = 1
failed_test EarlierWinners = 2
failed_test Own = 3
failed_test BelowFloor = 4

-- "An unplaced bidder is eligible for place k if, with the places already filled and it at k, neither its own conditions nor those of an
-- earlier winner are broken", and it bids at least the floor: it fails none of the tests. `eligible-sentence` (proofs/BrokenLaws.antt) has the
-- sentence word by word, for every bid that reaches the floor; a floor of 0 is always reached.
unfoldable pub eligible : Round → Page → ℕ → ℕ → Bool
eligible r p k b = eqb (first_failed r p k b) 0
