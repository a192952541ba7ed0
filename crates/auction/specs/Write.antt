-- A bid written into a sheet's bytes: what the price's replay means on paper.
use Rattle.std.specs.Prelude.{ℕ, zero, suc, ◌+◌, ◌*◌, List}
use Rattle.std.proofs.lemmas.List.Edits.{sets}
use Rattle.basis.specs.Bytes.{bytes32}
use Rattle.sheet.specs.Sheet.{bids_start}

-- the sheet with the bid x written for bidder b, low byte first
unfoldable pub write_bid : List ℕ → ℕ → ℕ → List ℕ
write_bid s zero x = s
write_bid s (suc i) x = sets s (bids_start s + 4 * i) (bytes32 x)
