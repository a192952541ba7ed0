-- The call: the best page of a lent sheet, in a lent buffer.
use Rattle.std.specs.Prelude.{ℕ, zero, suc, ◌||◌, List, Result, Ok, Err, ◌++◌, ◌≡◌, ltb, length, drop}
use Rattle.basis.specs.First.{◌when◌otherwise◌, or_else, unless_refused}
use Rattle.basis.specs.Rows.{row}
use Rattle.sheet.specs.declared.Round.{Round}
use Rattle.sheet.specs.Sheet.{bidder_count, slot_count}
use Rattle.sheet.specs.Refusal.{refusal_of}
use Rattle.sheet.specs.Round.{round_of, with_floors}
use Rattle.floors.specs.Floors.{floors_refusal}
use Rattle.auction.specs.Page.{at}
use Rattle.best_page.specs.BestPage.{best_page_of}
use Rattle.auction.specs.Allowed.{total}
use Rattle.refusal.specs.declared.Refusal.{Refusal}
use Rattle.refusal.specs.Numbers.{number_of}

-- 18. The best page is sought with n above 8 or m above 8.  19. The result buffer is shorter than the bytes to be written.
unfoldable pub bounds_refusal : List ℕ → List ℕ → ℕ
bounds_refusal s out =
    18 when ltb 8 (bidder_count s) || ltb 8 (slot_count s) otherwise
    19 when ltb (length out) (slot_count s) otherwise
    0

-- the check's numbers, then 18, then 19
unfoldable pub best_refusal : List ℕ → List ℕ → ℕ
best_refusal s out = or_else (refusal_of s) (bounds_refusal s out)

-- with floors: the check's numbers, then 30 and 31, then 18, then 19
unfoldable pub best_floors_refusal : (floors s out : List ℕ) → ℕ
best_floors_refusal floors s out = or_else (refusal_of s) (or_else (floors_refusal (slot_count s) floors) (bounds_refusal s out))

-- "It writes m bytes of bidder numbers, later bytes untouched, and returns the total."
unfoldable pub best_buffer : Round → List ℕ → List ℕ
best_buffer r out = row (λ k. at (best_page_of r) (suc k)) r.slots ++ drop r.slots out

-- what a call tells: a refusal's number, or 0 and the best page's total
pub record Chosen : Type 0 where
  pub refusal : ℕ
  pub total : ℕ

abbrev pub chosen_in : Result ℕ Refusal → Chosen
chosen_in (Ok total) = record { refusal = 0; total = total }
chosen_in (Err refusal) = record { refusal = number_of refusal; total = 0 }

unfoldable pub chosen_for : ℕ → Round → Chosen
chosen_for zero r = record { refusal = 0; total = total r (best_page_of r) }
chosen_for (suc k) r = record { refusal = suc k; total = 0 }

-- All that the call returns and leaves; a refused call leaves every byte.
pub record BestGiven (s out : List ℕ) (given : Chosen) (out' : List ℕ) : Type 0 where
  pub returned : given ≡ chosen_for (best_refusal s out) (round_of s)
  pub buffer : out' ≡ unless_refused (best_refusal s out) (best_buffer (round_of s) out) out

-- The same of the call with floors: the round is the sheet's with these floors.
pub record BestFloorsGiven (floors s out : List ℕ) (given : Chosen) (out' : List ℕ) : Type 0 where
  pub returned : given ≡ chosen_for (best_floors_refusal floors s out) (with_floors (round_of s) floors)
  pub buffer : out' ≡ unless_refused (best_floors_refusal floors s out) (best_buffer (with_floors (round_of s) floors) out) out
