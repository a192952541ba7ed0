-- Playing a round over a lent sheet and a lent result buffer.
use Rattle.std.specs.Prelude.{ℕ, zero, suc, ◌+◌, ◌*◌, List, ◌∷◌, ◌++◌, ◌≡◌, ltb, length, drop}
use Rattle.basis.specs.Bytes.{byte_at, word32_at, bytes32}
use Rattle.basis.specs.First.{◌when◌otherwise◌, or_else, unless_refused}
use Rattle.basis.specs.Rows.{joined}
use Rattle.sheet.specs.declared.Round.{Round}
use Rattle.sheet.specs.Sheet.{slot_count}
use Rattle.sheet.specs.Refusal.{refusal_of}
use Rattle.sheet.specs.Round.{round_of, with_floors}
use Rattle.floors.specs.Floors.{floors_refusal}
use Rattle.auction.specs.Page.{at}
use Rattle.auction.specs.Greedy.{greedy_page}
use Rattle.auction.specs.Price.{price}

-- 19. The result buffer is shorter than the bytes to be written.
unfoldable pub room_refusal : List ℕ → List ℕ → ℕ
room_refusal s out = 19 when ltb (length out) (5 * slot_count s) otherwise 0

-- the check's numbers, and then 19
unfoldable pub play_refusal : List ℕ → List ℕ → ℕ
play_refusal s out = or_else (refusal_of s) (room_refusal s out)

-- with floors: the check's numbers, then 30 and 31, and then 19
unfoldable pub play_floors_refusal : (floors s out : List ℕ) → ℕ
play_floors_refusal floors s out = or_else (refusal_of s) (or_else (floors_refusal (slot_count s) floors) (room_refusal s out))

-- 5 bytes for slot k: "bidder (0 if empty) and 4 bytes of price"
unfoldable pub slot_entry : Round → ℕ → List ℕ
slot_entry r k = at (greedy_page r) k ∷ bytes32 (price r k)

-- "Playing writes 5 bytes a place to the result buffer", slots 1 to m. "Bytes after 5 × m are untouched."
unfoldable pub played_buffer : Round → List ℕ → List ℕ
played_buffer r out = joined (λ k. slot_entry r (suc k)) r.slots ++ drop (5 * r.slots) out

-- All that the call returns and leaves: the first number that applies, or 0, and each byte of the buffer; a refused call leaves every byte.
pub record Played (s out : List ℕ) (returned : ℕ) (out' : List ℕ) : Type 0 where
  pub number : returned ≡ play_refusal s out
  pub buffer : out' ≡ unless_refused (play_refusal s out) (played_buffer (round_of s) out) out

-- The same of the call with floors: the round is the sheet's with these floors.
pub record PlayedFloors (floors s out : List ℕ) (returned : ℕ) (out' : List ℕ) : Type 0 where
  pub number : returned ≡ play_floors_refusal floors s out
  pub buffer : out' ≡ unless_refused (play_floors_refusal floors s out) (played_buffer (with_floors (round_of s) floors) out) out

-- What a result says of slot k: its bidder, and its price.
unfoldable pub bidder_said : List ℕ → ℕ → ℕ
bidder_said out zero = 0
bidder_said out (suc k) = byte_at out (5 * k)

unfoldable pub price_said : List ℕ → ℕ → ℕ
price_said out zero = 0
price_said out (suc k) = word32_at out (5 * k + 1)
