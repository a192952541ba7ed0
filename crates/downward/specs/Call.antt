-- The call: one bidder's list of a sheet is tested.
use Rattle.std.specs.Prelude.{ℕ, zero, suc, Bool, false, ◌||◌, List, Result, Ok, Err, eqb, ltb}
use Rattle.basis.specs.First.{◌when◌otherwise◌, or_else}
use Rattle.sheet.specs.Sheet.{bidder_count}
use Rattle.sheet.specs.Refusal.{refusal_of}
use Rattle.sheet.specs.Round.{round_of}
use Rattle.downward.specs.Downward.{downward}
use Rattle.refusal.specs.declared.Refusal.{Refusal}
use Rattle.refusal.specs.Numbers.{number_of}

-- the check's numbers, and then 16. The bidder named in the call is 0 or above n.
unfoldable pub test_refusal : List ℕ → ℕ → ℕ
test_refusal s i = or_else (refusal_of s) (16 when eqb i 0 || ltb (bidder_count s) i otherwise 0)

-- what a call tells: a refusal's number, or 0 and whether the list is downward monotonic
pub record Tested : Type 0 where
  pub refusal : ℕ
  pub yes : Bool

abbrev pub tested_in : Result Bool Refusal → Tested
tested_in (Ok answer) = record { refusal = 0; yes = answer }
tested_in (Err refusal) = record { refusal = number_of refusal; yes = false }

-- a refused call returns its number alone
unfoldable pub tested_for : ℕ → List ℕ → ℕ → Tested
tested_for zero s i = record { refusal = 0; yes = downward (round_of s) i }
tested_for (suc k) s i = record { refusal = suc k; yes = false }

-- all that the call returns
unfoldable pub tested_of : List ℕ → ℕ → Tested
tested_of s i = tested_for (test_refusal s i) s i
