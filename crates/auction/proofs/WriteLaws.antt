-- A bid written into the sheet's bytes is the replay's round: the other fields stay, and the four bytes say the bid. The bytes lie
-- after the effects and before the constraints, so every fact of acceptance, and every field of the round but that bid, is as before:
-- the sheet is accepted exactly when the bid is legal. Assumes nothing.
use Prim.Native.Nat.{ℕ, zero, suc, ◌+◌, ◌*◌, ◌%◌, ◌<◌, ◌≤◌}
use mathlib.Core.List.{List}
use mathlib.Core.Logic.{inl, inr, ⊎_elim}
use mathlib.Core.Bool.{true}
use mathlib.Core.Path.{◌≡◌, refl, sym, ◌∙◌, ap, ap₂, subst}
use native.Mathlib.Nat.{not-suc-le-zero}
use native.Mathlib.Omega.{arith}
use lib.ListN.{length, set, replicate}
use lib.Seq.{sets, length-sets}
use Rattle.basis.specs.Bytes.{byte_at, word32_at, bytes32}
use Rattle.basis.specs.Rows.{padded}
use Rattle.basis.proofs.BytesLaws.{byte_elsewhere, word16_elsewhere, word32_elsewhere, word_of-bytes}
use Rattle.basis.proofs.NumberLaws.{same_or_not, below_or_not}
use Rattle.basis.proofs.RowLaws.{padded-same, padded_stored}
use Rattle.sheet.specs.Sheet.{
  version,
  bidder_count,
  slot_count,
  constraint_count,
  tick_field,
  effects_start,
  bids_start,
  constraints_start,
  effect_field,
  bid_field,
  owner_field,
  own_slot_field,
  other_field,
  other_slot_field,
}
use Rattle.sheet.specs.Refusal.{effect_before, legal_bid, Accepted}
use Rattle.sheet.specs.Accepted.{Form, Counts, EffectAccepted, BidAccepted, ConstraintAccepted, order_number, AcceptedSheet}
use Rattle.sheet.specs.Round.{bidder, kind_of, constraint_field, blank, round_of}
use Rattle.sheet.proofs.HeaderLaws.{start_least, start_same, tick_same}
use Rattle.sheet.proofs.AcceptedLaws.{accepted-sheet, sheet-accepted, legal_parts, parts_legal}
use Rattle.auction.specs.Price.{with_bid}
use Rattle.auction.specs.Write.{write_bid}

-- the sheet with the bid x written for bidder i + 1, as its four bytes
abbrev written : List ℕ → ℕ → ℕ → List ℕ
written s i x = sets s (bids_start s + 4 * i) (bytes32 x)

-- What an accepted sheet s says after a bid that four bytes hold is written for bidder i + 1.
module _ (s : List ℕ) (ok : Accepted s) (i x : ℕ) (most : i < bidder_count s) (fits : x < 4_294_967_296) where
  facts : AcceptedSheet s
  facts = accepted-sheet s ok

  -- the bids stand after the header and an effect at least
  after_header : 13 ≤ bids_start s
  after_header = let least = start_least s in let some = facts.counts.some_slots in omega arith

  -- the header is as it was
  same_length : length (written s i x) ≡ length s
  same_length = length-sets s (bids_start s + 4 * i) (bytes32 x)

  same_byte : (k : ℕ) → k < 9 → byte_at (written s i x) k ≡ byte_at s k
  same_byte k l = byte_elsewhere s (bids_start s + 4 * i) x k (inl (let h = after_header in omega arith))

  same_version : version (written s i x) ≡ version s
  same_version = word16_elsewhere s (bids_start s + 4 * i) x 3 (inl (let h = after_header in omega arith))

  same-bidders : bidder_count (written s i x) ≡ bidder_count s
  same-bidders = same_byte 5 (omega arith)

  same-slots : slot_count (written s i x) ≡ slot_count s
  same-slots = same_byte 6 (omega arith)

  same_used : constraint_count (written s i x) ≡ constraint_count s
  same_used = word16_elsewhere s (bids_start s + 4 * i) x 7 (inl (let h = after_header in omega arith))

  same_tick : tick_field (written s i x) ≡ tick_field s
  same_tick =
      tick_same (written s i x) s same_version
      (word32_elsewhere s (bids_start s + 4 * i) x 9 (inl (let h = after_header in omega arith)))

  same_start : effects_start (written s i x) ≡ effects_start s
  same_start = start_same (written s i x) s same_version

  same_bids_start : bids_start (written s i x) ≡ bids_start s
  same_bids_start = let start = same_start in let slots = same-slots in omega arith

  same-constraints_start : constraints_start (written s i x) ≡ constraints_start s
  same-constraints_start = let start = same_bids_start in let bidders = same-bidders in omega arith

  -- so are the effects, which stand before the bids,
  same_effect : (k : ℕ) → k ≤ slot_count s → effect_field (written s i x) k ≡ effect_field s k
  unfolding effect_field
  same_effect zero l = refl
  same_effect (suc k) l =
      ap (λ (start : ℕ). word32_at (written s i x) (start + 4 * k)) same_start
      ∙ word32_elsewhere s (bids_start s + 4 * i) x (effects_start s + 4 * k) (inl (omega arith))

  same-effect_before : (k : ℕ) → k ≤ slot_count s → effect_before (written s i x) k ≡ effect_before s k
  same-effect_before zero l = refl
  same-effect_before (suc zero) l = refl
  same-effect_before (suc (suc k)) l = same_effect (suc k) (omega arith)

  -- the other bids,
  same_bid : (b : ℕ) → (b ≡ suc i → ⊥) → bid_field (written s i x) b ≡ bid_field s b
  unfolding bid_field
  same_bid zero other = refl
  same_bid (suc j) other =
      ap (λ (start : ℕ). word32_at (written s i x) (start + 4 * j)) same_bids_start
      ∙ word32_elsewhere s (bids_start s + 4 * i) x (bids_start s + 4 * j)
      (⊎_elim
      (λ (l : j < i). inl (omega arith))
      (λ (l : i ≤ j). let apart : j ≡ i → ⊥ = (λ e. other (ap suc e)) in inr (omega arith))
      (below_or_not j i))

  -- and the constraints, which stand after the bids.
  same_after : (offset : ℕ → ℕ) → ((start : ℕ) → start ≤ offset start) →
      byte_at (written s i x) (offset (constraints_start (written s i x))) ≡ byte_at s (offset (constraints_start s))
  same_after offset after =
      let later = after (constraints_start s) in
      ap (λ (start : ℕ). byte_at (written s i x) (offset start)) same-constraints_start
      ∙ byte_elsewhere s (bids_start s + 4 * i) x (offset (constraints_start s)) (inr (omega arith))

  same-owner : (k : ℕ) → owner_field (written s i x) k ≡ owner_field s k
  unfolding owner_field
  same-owner k = same_after (λ start. start + 4 * k) (λ start. omega arith)

  same-own_slot : (k : ℕ) → own_slot_field (written s i x) k ≡ own_slot_field s k
  unfolding own_slot_field
  same-own_slot k = same_after (λ start. start + 4 * k + 1) (λ start. omega arith)

  same-other : (k : ℕ) → other_field (written s i x) k ≡ other_field s k
  unfolding other_field
  same-other k = same_after (λ start. start + 4 * k + 2) (λ start. omega arith)

  same-other-slot : (k : ℕ) → other_slot_field (written s i x) k ≡ other_slot_field s k
  unfolding other_slot_field
  same-other-slot k = same_after (λ start. start + 4 * k + 3) (λ start. omega arith)

  same_constraint : (k : ℕ) → constraint_field (written s i x) k ≡ constraint_field s k
  unfolding constraint_field
  same_constraint k = λ j.
      record {
        owner = bidder (same-owner k j);
        kind = kind_of (same-own_slot k j) (same-other k j) (same-other-slot k j);
      }

  same-order : (k : ℕ) → order_number (written s i x) k ≡ order_number s k
  unfolding order_number
  same-order k =
      let owner = same-owner k in
      let own = same-own_slot k in
      let other = same-other k in
      let others = same-other-slot k in
      omega arith

  -- The bid written reads back.
  own_bid : bid_field (written s i x) (suc i) ≡ x
  unfolding bid_field
  own_bid =
      let whole = facts.counts.whole in
      ap (λ (start : ℕ). word32_at (written s i x) (start + 4 * i)) same_bids_start
      ∙ word_of-bytes s (bids_start s + 4 * i) x (omega arith) (omega arith)

  -- So each fact of acceptance is as it was:
  form-written : Form (written s i x)
  form-written =
      record {
        header = (let e = same_length in let h = facts.form.header in omega arith);
        whole_header = (let e = same_length in let start = same_start in let h = facts.form.whole_header in omega arith);
        mark = simp (same_byte 0 (omega arith), same_byte 1 (omega arith), same_byte 2 (omega arith)) facts.form.mark;
        known = ⊎_elim (λ (e : version s ≡ 1). inl (same_version ∙ e)) (λ (e : version s ≡ 2). inr (same_version ∙ e)) facts.form.known;
      }

  counts-written : Counts (written s i x)
  counts-written =
      let f = facts.counts in
      let bidders = same-bidders in
      let slots = same-slots in
      let used = same_used in
      let size = same_length in
      let tick = same_tick in
      let start = same_start in
      let whole = f.whole in
      record {
        some_bidders = omega arith;
        most_bidders = omega arith;
        some_slots = omega arith;
        most_slots = omega arith;
        most_constraints = omega arith;
        some_tick = omega arith;
        most_tick = omega arith;
        whole = omega arith;
      }

  effect_written : (k : ℕ) → 0 < k → k ≤ slot_count s → EffectAccepted (written s i x) k
  effect_written k some l =
      let f = facts.effects k some l in
      let here = same_effect k l in
      let before = same-effect_before k l in
      record { some = omega arith; most = omega arith; no_rise = omega arith }

  bid_written : legal_bid (tick_field s) x ≡ true → (b : ℕ) → 0 < b → b ≤ bidder_count s → BidAccepted (written s i x) b
  bid_written legal b some l =
      let parts = legal_parts (tick_field s) x legal in
      ⊎_elim
      (λ (q : b ≡ suc i).
      let e = ap (bid_field (written s i x)) q ∙ own_bid in
      record { most = (let low = parts.0 in omega arith); multiple = ap₂ (λ (y t : ℕ). y % t) e same_tick ∙ parts.1 })
      (λ (other : b ≡ suc i → ⊥).
      let e = same_bid b other in
      let f = facts.bids b some l in
      record { most = (let low = f.most in omega arith); multiple = ap₂ (λ (y t : ℕ). y % t) e same_tick ∙ f.multiple })
      (same_or_not b (suc i))

  constraint_written : (k : ℕ) → k < constraint_count s →
      ConstraintAccepted (bidder_count (written s i x)) (slot_count (written s i x)) (owner_field (written s i x) k) (own_slot_field (written s i x) k) (other_field (written s i x) k) (other_slot_field (written s i x) k)
  constraint_written k l =
      rw (same-bidders, same-slots, same-owner k, same-own_slot k, same-other k, same-other-slot k) (facts.constraints k l)

  rising-written : version s ≡ 2 → (k : ℕ) → suc k < constraint_count s → order_number (written s i x) k < order_number (written s i x) (suc k)
  rising-written two k l =
      let here = same-order k in
      let next = same-order (suc k) in
      let h = facts.rising two k l in
      omega arith

  facts_written : legal_bid (tick_field s) x ≡ true → AcceptedSheet (written s i x)
  facts_written legal =
      record {
        form = form-written;
        counts = counts-written;
        effects = λ k some l. effect_written k some (subst (λ (m : ℕ). k ≤ m) same-slots l);
        bids = λ b some l. bid_written legal b some (subst (λ (n : ℕ). b ≤ n) same-bidders l);
        constraints = λ k l. constraint_written k (subst (λ (c : ℕ). k < c) same_used l);
        rising = λ two k l. rising-written (sym same_version ∙ two) k (subst (λ (c : ℕ). suc k < c) same_used l);
      }

  -- and where the sheet is accepted, the bid is legal.
  legal_written : Accepted (written s i x) → legal_bid (tick_field s) x ≡ true
  legal_written accepted =
      let bidders = same-bidders in
      let f = (accepted-sheet (written s i x) accepted).bids (suc i) (omega arith) (omega arith) in
      let own = own_bid in
      parts_legal (tick_field s) x (let low = f.most in omega arith) (ap₂ (λ (y t : ℕ). y % t) (sym own_bid) (sym same_tick) ∙ f.multiple)

  -- The round that the sheet says then is the one with the bid in its row.
  round_written : round_of (written s i x) ≡ with_bid (round_of s) (suc i) x
  unfolding round_of with_bid
  round_written =
      let s' = written s i x in
      let effects : padded (λ k. effect_field s' (suc k)) (slot_count s') 16 0 ≡ padded (λ k. effect_field s (suc k)) (slot_count s) 16 0
      = ap (λ (m : ℕ). padded (λ k. effect_field s' (suc k)) m 16 0) same-slots
      ∙ padded-same (λ k. effect_field s' (suc k)) (λ k. effect_field s (suc k)) (slot_count s) 16 0 (λ k l. same_effect (suc k) l) in
      let bids : padded (λ b. bid_field s' (suc b)) (bidder_count s') 64 0 ≡ set (padded (λ b. bid_field s (suc b)) (bidder_count s) 64 0) i x
      = ap (λ (n : ℕ). padded (λ b. bid_field s' (suc b)) n 64 0) same-bidders
      ∙ sym
      (padded_stored (λ b. bid_field s (suc b)) (λ b. bid_field s' (suc b)) (bidder_count s) 64 0 i most
      (λ j l other. sym (same_bid (suc j) (λ e. other (let h : suc j ≡ suc i = e in omega arith)))))
      ∙ ap (set (padded (λ b. bid_field s (suc b)) (bidder_count s) 64 0) i) own_bid in
      let constraints : padded (constraint_field s') (constraint_count s') 1024 blank ≡ padded (constraint_field s) (constraint_count s) 1024 blank
      = ap (λ (c : ℕ). padded (constraint_field s') c 1024 blank) same_used
      ∙ padded-same (constraint_field s') (constraint_field s) (constraint_count s) 1024 blank (λ k l. same_constraint k) in
      λ j.
      record {
        bidders = same-bidders j;
        slots = same-slots j;
        used = same_used j;
        tick = same_tick j;
        version = same_version j;
        effects = effects j;
        floors = replicate 16 0;
        bids = bids j;
        constraints = constraints j;
      }

module _ (s : List ℕ) (ok : Accepted s) (b x : ℕ) (some : 0 < b) (most : b ≤ bidder_count s) (fits : x < 4_294_967_296) where
  -- a legal bid leaves the sheet accepted,
  pub write_accepted : legal_bid (tick_field s) x ≡ true → Accepted (write_bid s b x)
  unfolding write_bid
  write_accepted legal = by_number b some most
    where
      by_number : (b : ℕ) → 0 < b → b ≤ bidder_count s → Accepted (write_bid s b x)
      by_number zero above within = absurd (not-suc-le-zero above)
      by_number (suc i) above within = sheet-accepted (written s i x) (facts_written s ok i x within fits legal)

  -- and no other does
  pub accepted_legal : Accepted (write_bid s b x) → legal_bid (tick_field s) x ≡ true
  unfolding write_bid
  accepted_legal = by_number b some most
    where
      by_number : (b : ℕ) → 0 < b → b ≤ bidder_count s → Accepted (write_bid s b x) → legal_bid (tick_field s) x ≡ true
      by_number zero above within = absurd (not-suc-le-zero above)
      by_number (suc i) above within = legal_written s ok i x within fits

  -- the round is then the round with that bid
  pub write_round : round_of (write_bid s b x) ≡ with_bid (round_of s) b x
  unfolding write_bid
  write_round = by_number b some most
    where
      by_number : (b : ℕ) → 0 < b → b ≤ bidder_count s → round_of (write_bid s b x) ≡ with_bid (round_of s) b x
      by_number zero above within = absurd (not-suc-le-zero above)
      by_number (suc i) above within = round_written s ok i x within fits
