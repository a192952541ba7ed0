-- The gain call over two lent sheets.
use Rattle.std.specs.Prelude.{ℕ, zero, suc, not, ◌||◌, List, Result, Ok, Err, eqb, ltb, ℤ, pos}
use Rattle.basis.specs.First.{◌when◌otherwise◌, or_else}
use Rattle.sheet.specs.declared.Round.{Round}
use Rattle.sheet.specs.Sheet.{bidder_count, slot_count}
use Rattle.sheet.specs.Refusal.{refusal_of}
use Rattle.sheet.specs.Round.{round_of, with_floors}
use Rattle.floors.specs.Floors.{floors_refusal}
use Rattle.gain.specs.Gain.{gain_of}
use Rattle.refusal.specs.declared.Refusal.{Refusal}
use Rattle.refusal.specs.Numbers.{number_of}

-- 14. The truth sheet breaks any of the check's rules (1 to 13 and 26 to 28).  15. The truth sheet has another n or m.
-- 16. The bidder named in the call is 0 or above n.  17. The worth is above 1,000,000,000.
unfoldable pub later_refusal : List ℕ → List ℕ → ℕ → ℕ → ℕ
later_refusal s t i worth =
    14 when not (eqb (refusal_of t) 0) otherwise
    15 when not (eqb (bidder_count t) (bidder_count s)) || not (eqb (slot_count t) (slot_count s)) otherwise
    16 when eqb i 0 || ltb (bidder_count s) i otherwise
    17 when ltb 1_000_000_000 worth otherwise
    0

-- the check's numbers of the played sheet, and then 14 to 17
unfoldable pub gain_refusal : List ℕ → List ℕ → ℕ → ℕ → ℕ
gain_refusal s t i worth = or_else (refusal_of s) (later_refusal s t i worth)

-- with floors: the check's numbers of the played sheet, then 30 and 31, and then 14 to 17
unfoldable pub gain_floors_refusal : (floors s t : List ℕ) → ℕ → ℕ → ℕ
gain_floors_refusal floors s t i worth = or_else (refusal_of s) (or_else (floors_refusal (slot_count s) floors) (later_refusal s t i worth))

-- what a call tells: a refusal's number, or 0 and the gain
pub record Gained : Type 0 where
  pub refusal : ℕ
  pub gain : ℤ

abbrev pub gained_in : Result ℤ Refusal → Gained
gained_in (Ok amount) = record { refusal = 0; gain = amount }
gained_in (Err refusal) = record { refusal = number_of refusal; gain = pos 0 }

-- a refused call returns its number alone
unfoldable pub gained_for : ℕ → Round → List ℕ → ℕ → ℕ → Gained
gained_for zero played t i worth = record { refusal = 0; gain = gain_of played (round_of t) i worth }
gained_for (suc k) played t i worth = record { refusal = suc k; gain = pos 0 }

-- all that the call returns: s is played, t tells the truth
unfoldable pub gained_of : List ℕ → List ℕ → ℕ → ℕ → Gained
gained_of s t i worth = gained_for (gain_refusal s t i worth) (round_of s) t i worth

-- and the call with floors
unfoldable pub gained_floors_of : (floors s t : List ℕ) → ℕ → ℕ → Gained
gained_floors_of floors s t i worth = gained_for (gain_floors_refusal floors s t i worth) (with_floors (round_of s) floors) t i worth
