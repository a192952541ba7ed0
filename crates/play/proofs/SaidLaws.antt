-- What stands where in a played result: the bidder in the first byte of each slot's five, and the price in the four after it.
-- Assumes nothing.
use Prim.Native.Nat.{ℕ, zero, suc, ◌+◌, ◌*◌, ◌<◌, ◌≤◌}
use mathlib.Core.List.{List}
use mathlib.Core.Path.{◌≡◌, sym, ◌∙◌, ap}
use native.Mathlib.Nat.{add-zero, not-suc-le-zero}
use native.Mathlib.Omega.{arith}
use lib.ListN.{length}
use Rattle.basis.specs.Bytes.{byte_at, word32_at}
use Rattle.basis.proofs.BytesLaws.{length-bytes32, word_is, joined_byte}
use Rattle.sheet.specs.declared.Round.{Round}
use Rattle.sheet.specs.Proper.{ProperRound}
use Rattle.auction.specs.Page.{at}
use Rattle.auction.specs.Greedy.{greedy_page}
use Rattle.auction.specs.Price.{price}
use Rattle.auction.proofs.PriceLaws.{price-low}
use Rattle.play.specs.Play.{slot_entry, played_buffer, bidder_said, price_said}

entry_length : (r : Round) (k : ℕ) → length (slot_entry r k) ≡ 5
unfolding slot_entry
entry_length r k = ap suc (length-bytes32 (price r k))

module _ (r : Round) (out : List ℕ) (k : ℕ) (inside : k < r.slots) where
  -- byte j of slot k + 1's five
  entry_byte : (j : ℕ) → j < 5 → byte_at (played_buffer r out) (5 * k + j) ≡ byte_at (slot_entry r (suc k)) j
  unfolding played_buffer
  entry_byte j b = joined_byte (λ k. slot_entry r (suc k)) 5 (λ k. entry_length r (suc k)) r.slots k j _ inside b

  pub entry_bidder : byte_at (played_buffer r out) (5 * k) ≡ at (greedy_page r) (suc k)
  unfolding slot_entry
  entry_bidder = ap (byte_at (played_buffer r out)) (sym (add-zero (5 * k))) ∙ entry_byte 0 (omega arith)

  pub entry_price : ProperRound r → word32_at (played_buffer r out) (5 * k + 1) ≡ price r (suc k)
  unfolding slot_entry
  entry_price proper =
      let low = price-low r (suc k) proper in
      word_is (played_buffer r out) (5 * k + 1) (price r (suc k)) (omega arith)
      (λ j b. ap (byte_at (played_buffer r out)) (let e : 5 * k + 1 + j ≡ 5 * k + suc j = omega arith in e) ∙ entry_byte (suc j) (omega arith))

-- the same by slot
module _ (r : Round) (out : List ℕ) where
  pub bidder_said_lem : (k : ℕ) → 0 < k → k ≤ r.slots → bidder_said (played_buffer r out) k ≡ at (greedy_page r) k
  unfolding bidder_said
  bidder_said_lem zero some l = absurd (not-suc-le-zero some)
  bidder_said_lem (suc k) some l = entry_bidder r out k l

  pub price_said_lem : ProperRound r → (k : ℕ) → 0 < k → k ≤ r.slots → price_said (played_buffer r out) k ≡ price r k
  unfolding price_said
  price_said_lem proper zero some l = absurd (not-suc-le-zero some)
  price_said_lem proper (suc k) some l = entry_price r out k l proper
