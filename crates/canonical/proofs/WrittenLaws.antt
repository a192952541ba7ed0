-- The written sheet. Part by part it is its header, the effects, the bids and the conditions in order, four bytes each; and so is a sheet's own body.
-- So of version 1 the body up to the conditions is copied, and an accepted sheet of version 2 is what is written of it. Read back, the written sheet
-- has the same counts, tick, effects, bids and conditions, so it is accepted and says the same round; and of two sheets that say the same round the
-- same is written, since no more than the round goes into it. Assumes nothing.
use Prim.Native.Nat.{ℕ, zero, suc, ◌+◌, ◌*◌, ◌/◌, ◌%◌, ◌<◌, ◌≤◌}
use borrow.Author.Tests.{eqb-true}
use mathlib.Core.Bool.{true}
use mathlib.Core.Logic.{inr}
use mathlib.Core.List.{List, [], ◌∷◌, ◌++◌, append_assoc}
use mathlib.Core.Path.{◌≡◌, refl, sym, ◌∙◌, ap, ap₂, subst}
use native.Mathlib.Nat.{mod-eq_of_lt}
use native.Mathlib.Omega.{arith}
use lib.Dec.{eqb}
use lib.ListN.{length, get_or, take, drop, length-drop, take-append-drop}
use lib.Seq.{take-add, take_all, drop-drop}
use Rattle.basis.specs.Bytes.{byte_at, word16_at, word32_at, bytes32}
use Rattle.basis.specs.Rows.{row, joined}
use Rattle.basis.proofs.BytesLaws.{word_bytes, bytes_stand, four_stand}
use Rattle.basis.proofs.RowLaws.{length-row, get_d_row, joined_same}
use Rattle.basis.proofs.TestLaws.{and_parts, same_tests}
use Rattle.sheet.specs.Sheet.{
  version,
  bidder_count,
  slot_count,
  constraint_count,
  tick_field,
  effects_start,
  bids_start,
  constraints_start,
  effect_field,
  bid_field,
  owner_field,
  own_slot_field,
  other_field,
  other_slot_field,
}
use Rattle.sheet.specs.Refusal.{marked, effect_before, Accepted}
use Rattle.sheet.specs.Accepted.{Counts, EffectAccepted, BidAccepted, ConstraintAccepted, number_of, order_number, AcceptedSheet}
use Rattle.sheet.specs.declared.Constraint.{Constraint}
use Rattle.sheet.specs.Round.{constraint_field, SheetHas}
use Rattle.sheet.specs.Encoded.{Condition, words, quads, count_bytes, body_bytes, sheet_in_ticks, condition_field}
use Rattle.sheet.proofs.HeaderLaws.{start_two, tick_two, start_other, tick_other}
use Rattle.sheet.proofs.AcceptedLaws.{accepted-sheet, sheet-accepted}
use Rattle.canonical.specs.Canonical.{has_condition, conditions_in_order, canonical_sheet, SameRound}
use Rattle.canonical.specs.EngineParts.{header_of, numbers_bytes, InSheetOrder}
use Rattle.canonical.proofs.OrderedLaws.{has_where, has-at, few-conditions, condition_from, condition_kept, conditions-rise, conditions-same, conditions_two}
use Rattle.sheet.proofs.EncodedLaws.{
  blank_condition,
  as_constraint,
  read_back,
  field_constraint,
  field-written,
  words_row,
  quad_bytes,
  quads-row,
  encoded_length,
  read-version,
  read-bidders,
  read-slots,
  read-constraints,
  read_tick,
  read_effect,
  read_bid,
  read_condition,
}

-- the effects' bytes, and the bids'
abbrev effect_bytes : List ℕ → List ℕ
effect_bytes s = joined (λ k. bytes32 (effect_field s (suc k))) (slot_count s)

abbrev bid_bytes : List ℕ → List ℕ
bid_bytes s = joined (λ i. bytes32 (bid_field s (suc i))) (bidder_count s)

-- a sheet of version 2 of these parts
abbrev assembled : (tick n m : ℕ) (effects bids : List ℕ) → List Condition → List ℕ
assembled tick n m effects bids qs = header_of tick n m (length qs) ++ (effects ++ (bids ++ quads qs))

-- what is written, part by part
written-joined : (s : List ℕ) →
    canonical_sheet s ≡ assembled (tick_field s) (bidder_count s) (slot_count s) (effect_bytes s) (bid_bytes s) (conditions_in_order s)
unfolding canonical_sheet sheet_in_ticks count_bytes body_bytes header_of bytes32
written-joined s =
    let bids = row (λ i. bid_field s (suc i)) (bidder_count s) in
    let effects = row (λ k. effect_field s (suc k)) (slot_count s) in
    let qs = conditions_in_order s in
    ap₂ (λ (n m : ℕ). header_of (tick_field s) n m (length qs) ++ (words effects ++ (words bids ++ quads qs)))
    (length-row (λ i. bid_field s (suc i)) (bidder_count s))
    (length-row (λ k. effect_field s (suc k)) (slot_count s))
    ∙ ap₂ (λ (a b : List ℕ). assembled (tick_field s) (bidder_count s) (slot_count s) a b qs)
    (words_row (λ k. effect_field s (suc k)) (slot_count s))
    (words_row (λ i. bid_field s (suc i)) (bidder_count s))

-- which are those of the word there
word_stands : (l : List ℕ) (at : ℕ) → ((i : ℕ) → byte_at l i < 256) → at + 4 ≤ length l → take 4 (drop at l) ≡ bytes32 (word32_at l at)
unfolding bytes32 word32_at
word_stands l at small room =
    let parts = word_bytes (byte_at l at) (byte_at l (at + 1)) (byte_at l (at + 2)) (byte_at l (at + 3))
    (small at) (small (at + 1)) (small (at + 2)) (small (at + 3)) in
    let last : word32_at l at / 16777216 % 256 ≡ byte_at l (at + 3) = ap (λ (x : ℕ). x % 256) parts.1.1.1 ∙ mod-eq_of_lt (small (at + 3)) in
    four_stand l at room
    ∙ sym (ap₂ (λ (a b : ℕ). a ∷ b ∷ word32_at l at / 65536 % 256 ∷ word32_at l at / 16777216 % 256 ∷ []) parts.0 parts.1.0
    ∙ ap₂ (λ (c d : ℕ). byte_at l at ∷ byte_at l (at + 1) ∷ c ∷ d ∷ []) parts.1.1.0 last)

-- a stretch of n fours
stretch : (f : ℕ → List ℕ) (l : List ℕ) (at n : ℕ) → ((k : ℕ) → k < n → take 4 (drop (at + 4 * k) l) ≡ f k) → take (4 * n) (drop at l) ≡ joined f n
unfolding joined
stretch f l at zero each = refl
stretch f l at (suc n) each =
    ap (λ (x : ℕ). take x (drop at l)) (let size : 4 * suc n ≡ 4 * n + 4 = omega arith in size)
    ∙ take-add (4 * n) 4 (drop at l)
    ∙ ap₂ ◌++◌
    (stretch f l at n (λ k l. each k (omega arith)))
    (ap (take 4) (drop-drop (4 * n) at l) ∙ each n (omega arith))

-- and what follows it
front_and_rest : (l : List ℕ) (at n : ℕ) → drop at l ≡ take n (drop at l) ++ drop (at + n) l
front_and_rest l at n = sym (take-append-drop n (drop at l)) ∙ ap (λ (r : List ℕ). take n (drop at l) ++ r) (drop-drop n at l)

-- A sheet's own body, part by part.
module _ (s : List ℕ) (ok : Accepted s) (small : (i : ℕ) → byte_at s i < 256) where
  effects_stand : take (4 * slot_count s) (drop (effects_start s) s) ≡ effect_bytes s
  unfolding effect_field
  effects_stand =
      stretch (λ k. bytes32 (effect_field s (suc k))) s (effects_start s) (slot_count s)
      (λ k l. word_stands s (effects_start s + 4 * k) small (let whole = (accepted-sheet s ok).counts.whole in omega arith))

  bids_stand : take (4 * bidder_count s) (drop (bids_start s) s) ≡ bid_bytes s
  unfolding bid_field
  bids_stand =
      stretch (λ i. bytes32 (bid_field s (suc i))) s (bids_start s) (bidder_count s)
      (λ i l. word_stands s (bids_start s + 4 * i) small (let whole = (accepted-sheet s ok).counts.whole in omega arith))

  conditions_stand : take (4 * constraint_count s) (drop (constraints_start s) s) ≡ quads (row (condition_field s) (constraint_count s))
  unfolding condition_field quad_bytes owner_field own_slot_field other_field other_slot_field
  conditions_stand =
      stretch (λ k. quad_bytes (condition_field s k)) s (constraints_start s) (constraint_count s)
      (λ k l. four_stand s (constraints_start s + 4 * k) (let whole = (accepted-sheet s ok).counts.whole in omega arith))
      ∙ sym (quads-row (condition_field s) (constraint_count s))

  -- effects and bids in one stretch
  both_stand : take (4 * (bidder_count s + slot_count s)) (drop (effects_start s) s) ≡ effect_bytes s ++ bid_bytes s
  both_stand =
      ap (λ (x : ℕ). take x (drop (effects_start s) s))
      (let sum : 4 * (bidder_count s + slot_count s) ≡ 4 * slot_count s + 4 * bidder_count s = omega arith in sum)
      ∙ take-add (4 * slot_count s) (4 * bidder_count s) (drop (effects_start s) s)
      ∙ ap₂ ◌++◌ effects_stand (ap (take (4 * bidder_count s)) (drop-drop (4 * slot_count s) (effects_start s) s) ∙ bids_stand)

  -- the whole body
  body_stands : drop (effects_start s) s ≡ effect_bytes s ++ (bid_bytes s ++ quads (row (condition_field s) (constraint_count s)))
  body_stands =
      let whole = (accepted-sheet s ok).counts.whole in
      let rest = length-drop (constraints_start s) s in
      front_and_rest s (effects_start s) (4 * slot_count s)
      ∙ ap₂ ◌++◌ effects_stand
      (front_and_rest s (bids_start s) (4 * bidder_count s)
      ∙ ap₂ ◌++◌ bids_stand (sym (take_all (4 * constraint_count s) (drop (constraints_start s) s) (omega arith)) ∙ conditions_stand))

  -- and the header of version 2: the mark and the version, the counts, the tick
  mark-bytes : (byte_at s 0 ≡ 0x50) × ((byte_at s 1 ≡ 0x41) × (byte_at s 2 ≡ 0x53))
  mark-bytes =
      let first = and_parts (eqb (byte_at s 0) 0x50) _ (accepted-sheet s ok).form.mark in
      let others = and_parts (eqb (byte_at s 1) 0x41) _ first.1 in
      (eqb-true (byte_at s 0) 0x50 first.0, (eqb-true (byte_at s 1) 0x41 others.0, eqb-true (byte_at s 2) 0x53 others.1))

  version-bytes : version s ≡ 2 → (byte_at s 3 ≡ 2) × (byte_at s 4 ≡ 0)
  unfolding word16_at
  version-bytes two = let low = small 3 in (omega arith, omega arith)

  mark-stands : version s ≡ 2 → take 5 s ≡ 0x50 ∷ 0x41 ∷ 0x53 ∷ 2 ∷ 0 ∷ []
  unfolding row
  mark-stands two =
      bytes_stand s 0 5 (let nine = (accepted-sheet s ok).form.header in omega arith)
      ∙ ap₂ (λ (a b : ℕ). a ∷ b ∷ byte_at s 2 ∷ byte_at s 3 ∷ byte_at s 4 ∷ []) mark-bytes.0 mark-bytes.1.0
      ∙ ap (λ (c : ℕ). 0x50 ∷ 0x41 ∷ c ∷ byte_at s 3 ∷ byte_at s 4 ∷ []) mark-bytes.1.1
      ∙ ap₂ (λ (d e : ℕ). 0x50 ∷ 0x41 ∷ 0x53 ∷ d ∷ e ∷ []) (version-bytes two).0 (version-bytes two).1

  counts_stand : take 4 (drop 5 s) ≡ bidder_count s ∷ slot_count s ∷ constraint_count s % 256 ∷ constraint_count s / 256 ∷ []
  unfolding word16_at
  counts_stand =
      let nine = (accepted-sheet s ok).form.header in
      let low : byte_at s 7 ≡ constraint_count s % 256 = (let b = small 7 in omega arith) in
      let high : byte_at s 8 ≡ constraint_count s / 256 = (let b = small 7 in omega arith) in
      four_stand s 5 nine ∙ ap₂ (λ (c d : ℕ). bidder_count s ∷ slot_count s ∷ c ∷ d ∷ []) low high

  header-stands : version s ≡ 2 → take 13 s ≡ header_of (tick_field s) (bidder_count s) (slot_count s) (constraint_count s)
  unfolding header_of
  header-stands two =
      let start = start_two s two in
      let long = (accepted-sheet s ok).form.whole_header in
      take-add 9 4 s
      ∙ ap₂ ◌++◌
      (take-add 5 4 s ∙ ap₂ ◌++◌ (mark-stands two) counts_stand)
      (word_stands s 9 small (omega arith) ∙ ap bytes32 (sym (tick_two s two)))

-- of version 1: a new header, the bytes of effects and bids, and the numbers' bytes
pub written-parts : (s numbers : List ℕ) (k : ℕ) → Accepted s → version s ≡ 1 → ((i : ℕ) → byte_at s i < 256) → InSheetOrder s numbers k →
    canonical_sheet s ≡ header_of 1 (bidder_count s) (slot_count s) k ++ (take (4 * (bidder_count s + slot_count s)) (drop 9 s) ++ numbers_bytes numbers k)
written-parts s numbers k ok one small order =
    let n = bidder_count s in
    let m = slot_count s in
    let qs = conditions_in_order s in
    let not-two : version s ≡ 2 → ⊥ = (λ two. absurd (omega arith)) in
    written-joined s
    ∙ ap₂ (λ (t c : ℕ). header_of t n m c ++ (effect_bytes s ++ (bid_bytes s ++ quads qs))) (tick_other s not-two) (sym order.as_many)
    ∙ ap (λ (r : List ℕ). header_of 1 n m k ++ r)
    (sym (append_assoc (effect_bytes s) (bid_bytes s) (quads qs))
    ∙ ap₂ ◌++◌
    (sym (both_stand s ok small) ∙ ap (λ (x : ℕ). take (4 * (n + m)) (drop x s)) (start_other s not-two))
    (sym order.bytes))

-- What is read of the written sheet: the version, the counts, the tick, the effects, the bids,
module _ (s : List ℕ) where
  abbrev bid_row : List ℕ
  bid_row = row (λ i. bid_field s (suc i)) (bidder_count s)

  abbrev effect_row : List ℕ
  effect_row = row (λ k. effect_field s (suc k)) (slot_count s)

  bids-count : length bid_row ≡ bidder_count s
  bids-count = length-row (λ i. bid_field s (suc i)) (bidder_count s)

  effects-count : length effect_row ≡ slot_count s
  effects-count = length-row (λ k. effect_field s (suc k)) (slot_count s)

  pub written-length : length (canonical_sheet s) ≡ 13 + 4 * (slot_count s + bidder_count s + length (conditions_in_order s))
  unfolding canonical_sheet
  written-length =
      encoded_length (tick_field s) bid_row effect_row (conditions_in_order s)
      ∙ ap₂ (λ (m n : ℕ). 13 + 4 * (m + n + length (conditions_in_order s))) effects-count bids-count

  pub written-version : version (canonical_sheet s) ≡ 2
  unfolding canonical_sheet
  written-version = read-version (tick_field s) bid_row effect_row (conditions_in_order s)

  written-mark : marked (canonical_sheet s) ≡ true
  unfolding canonical_sheet sheet_in_ticks
  written-mark = refl

  written-bidders : bidder_count (canonical_sheet s) ≡ bidder_count s
  unfolding canonical_sheet
  written-bidders = read-bidders (tick_field s) bid_row effect_row (conditions_in_order s) ∙ bids-count

  written-slots : slot_count (canonical_sheet s) ≡ slot_count s
  unfolding canonical_sheet
  written-slots = read-slots (tick_field s) bid_row effect_row (conditions_in_order s) ∙ effects-count

  written-constraints : constraint_count (canonical_sheet s) ≡ length (conditions_in_order s)
  unfolding canonical_sheet
  written-constraints = read-constraints (tick_field s) bid_row effect_row (conditions_in_order s)

  written_condition : (k : ℕ) → k < length (conditions_in_order s) → condition_field (canonical_sheet s) k ≡ get_or (conditions_in_order s) k blank_condition
  unfolding canonical_sheet
  written_condition = read_condition (tick_field s) bid_row effect_row (conditions_in_order s)

  module _ (ok : Accepted s) where
    facts : AcceptedSheet s
    facts = accepted-sheet s ok

    written_tick : tick_field (canonical_sheet s) ≡ tick_field s
    unfolding canonical_sheet
    written_tick = read_tick (tick_field s) bid_row effect_row (conditions_in_order s) (let most = facts.counts.most_tick in omega arith)

    written_effect : (k : ℕ) → 0 < k → k ≤ slot_count s → effect_field (canonical_sheet s) k ≡ effect_field s k
    unfolding canonical_sheet
    written_effect zero l m = absurd (omega arith)
    written_effect (suc k) l m =
        let here : get_or effect_row k 0 ≡ effect_field s (suc k) = get_d_row (λ k. effect_field s (suc k)) (slot_count s) 0 k m in
        let most = (facts.effects (suc k) l m).most in
        let count = effects-count in
        read_effect (tick_field s) bid_row effect_row (conditions_in_order s) k (omega arith) (omega arith) ∙ here

    written_bid : (b : ℕ) → 0 < b → b ≤ bidder_count s → bid_field (canonical_sheet s) b ≡ bid_field s b
    unfolding canonical_sheet
    written_bid zero l m = absurd (omega arith)
    written_bid (suc i) l m =
        let here : get_or bid_row i 0 ≡ bid_field s (suc i) = get_d_row (λ i. bid_field s (suc i)) (bidder_count s) 0 i m in
        let most = (facts.bids (suc i) l m).most in
        let count = bids-count in
        read_bid (tick_field s) bid_row effect_row (conditions_in_order s) i (omega arith) (omega arith) ∙ here

    written-before : (k : ℕ) → k ≤ slot_count s → effect_before (canonical_sheet s) k ≡ effect_before s k
    written-before zero m = refl
    written-before (suc zero) m = refl
    written-before (suc (suc k)) m = written_effect (suc k) (omega arith) (omega arith)

-- so a sheet that has all constraints of another lists each condition that the other lists
listed_there : (s t : List ℕ) → Accepted s → Accepted t → ((q : Constraint) → SheetHas s q → SheetHas t q) → (owner own other others : ℕ) →
    has_condition s owner own other others ≡ true → has_condition t owner own other others ≡ true
unfolding condition_field
listed_there s t ok ok' there owner own other others e =
    let w = has_where s owner own other others e in
    let h = there (constraint_field s w.0) (w.0, w.1, refl) in
    ap (λ (q : Condition). has_condition t q.owner q.own q.other q.others)
    (sym
    (field-written t ok' h.0 h.1
    ∙ ap read_back h.2
    ∙ sym (field-written s ok w.0 w.1)
    ∙ w.2))
    ∙ has-at t h.0 h.1

-- saying the same round goes both ways, and on
pub round_sym : (s t : List ℕ) → SameRound s t → SameRound t s
round_sym s t h =
    record {
      same_n = sym h.same_n;
      same_m = sym h.same_m;
      same_tick = sym h.same_tick;
      same_effects = λ k l m. sym (h.same_effects k l (let e = h.same_m in omega arith));
      same_bids = λ b l m. sym (h.same_bids b l (let e = h.same_n in omega arith));
      there = h.back;
      back = h.there;
    }

pub round_trans : (s t u : List ℕ) → SameRound s t → SameRound t u → SameRound s u
round_trans s t u g h =
    record {
      same_n = g.same_n ∙ h.same_n;
      same_m = g.same_m ∙ h.same_m;
      same_tick = g.same_tick ∙ h.same_tick;
      same_effects = λ k l m. g.same_effects k l m ∙ h.same_effects k l (let e = g.same_m in omega arith);
      same_bids = λ b l m. g.same_bids b l m ∙ h.same_bids b l (let e = g.same_n in omega arith);
      there = λ q x. h.there q (g.there q x);
      back = λ q x. g.back q (h.back q x);
    }

-- of version 2, whose conditions are in order: the sheet itself
pub written_two : (s : List ℕ) → Accepted s → version s ≡ 2 → ((i : ℕ) → byte_at s i < 256) → canonical_sheet s ≡ s
written_two s ok two small =
    let n = bidder_count s in
    let m = slot_count s in
    let qs = row (condition_field s) (constraint_count s) in
    written-joined s
    ∙ ap (assembled (tick_field s) n m (effect_bytes s) (bid_bytes s)) (conditions_two s ok two)
    ∙ ap (λ (c : ℕ). header_of (tick_field s) n m c ++ (effect_bytes s ++ (bid_bytes s ++ quads qs))) (length-row (condition_field s) (constraint_count s))
    ∙ sym
    (sym (take-append-drop 13 s)
    ∙ ap₂ ◌++◌ (header-stands s ok small two) (ap (λ (x : ℕ). drop x s) (sym (start_two s two)) ∙ body_stands s ok small))

abbrev ConditionAccepted : (n m : ℕ) → Condition → Type 0
ConditionAccepted n m q = ConstraintAccepted n m q.owner q.own q.other q.others

-- What is written of accepted sheets.
module _ (s : List ℕ) (ok : Accepted s) where
  written-number : (k : ℕ) → k < length (conditions_in_order s) → order_number (canonical_sheet s) k ≡ number_of (get_or (conditions_in_order s) k blank_condition)
  unfolding order_number number_of condition_field
  written-number k l = ap number_of (written_condition s k l)

  written-terms : (k : ℕ) → k < constraint_count (canonical_sheet s) →
      ConditionAccepted (bidder_count (canonical_sheet s)) (slot_count (canonical_sheet s)) (condition_field (canonical_sheet s) k)
  unfolding condition_field
  written-terms k l =
      let within : k < length (conditions_in_order s) = (let count = written-constraints s in omega arith) in
      let from = condition_from s ok k within in
      let q = condition_field (canonical_sheet s) k in
      subst (λ (n : ℕ). ConditionAccepted n (slot_count (canonical_sheet s)) q) (sym (written-bidders s))
      (subst (λ (m : ℕ). ConditionAccepted (bidder_count s) m q) (sym (written-slots s))
      (subst (ConditionAccepted (bidder_count s) (slot_count s)) (sym (written_condition s k within ∙ from.2))
      ((facts s ok).constraints from.0 from.1)))

  written-counts : Counts (canonical_sheet s)
  written-counts =
      let counts = (facts s ok).counts in
      let n = written-bidders s in
      let m = written-slots s in
      let c = written-constraints s in
      let tick = written_tick s ok in
      record {
        some_bidders = (let h = counts.some_bidders in omega arith);
        most_bidders = (let h = counts.most_bidders in omega arith);
        some_slots = (let h = counts.some_slots in omega arith);
        most_slots = (let h = counts.most_slots in omega arith);
        most_constraints = (let h = counts.most_constraints in let few = few-conditions s ok in omega arith);
        some_tick = (let h = counts.some_tick in omega arith);
        most_tick = (let h = counts.most_tick in omega arith);
        whole = (let size = written-length s in let start = start_two (canonical_sheet s) (written-version s) in omega arith);
      }

  written-effects : (k : ℕ) → 0 < k → k ≤ slot_count (canonical_sheet s) → EffectAccepted (canonical_sheet s) k
  written-effects k l most =
      let m = written-slots s in
      let within : k ≤ slot_count s = omega arith in
      let fact = (facts s ok).effects k l within in
      let here = written_effect s ok k l within in
      record {
        some = (let h = fact.some in omega arith);
        most = (let h = fact.most in omega arith);
        no_rise = (let h = fact.no_rise in let before = written-before s ok k within in omega arith);
      }

  written-bids : (b : ℕ) → 0 < b → b ≤ bidder_count (canonical_sheet s) → BidAccepted (canonical_sheet s) b
  written-bids b l most =
      let n = written-bidders s in
      let within : b ≤ bidder_count s = omega arith in
      let fact = (facts s ok).bids b l within in
      let here = written_bid s ok b l within in
      record { most = (let h = fact.most in omega arith); multiple = ap₂ ◌%◌ here (written_tick s ok) ∙ fact.multiple }

  -- it is accepted,
  written-sheet : AcceptedSheet (canonical_sheet s)
  unfolding condition_field
  written-sheet =
      let size = written-length s in
      let start = start_two (canonical_sheet s) (written-version s) in
      record {
        form =
            record {
              header = omega arith;
              whole_header = omega arith;
              mark = written-mark s;
              known = inr (written-version s);
            };
        counts = written-counts;
        effects = written-effects;
        bids = written-bids;
        constraints = written-terms;
        rising = λ two k l.
            let count = written-constraints s in
            let here = written-number k (omega arith) in
            let next = written-number (suc k) (omega arith) in
            let rise = conditions-rise s ok k (omega arith) in
            omega arith;
      }

  pub written-accepted : Accepted (canonical_sheet s)
  written-accepted = sheet-accepted (canonical_sheet s) written-sheet

  -- and says the same round
  pub written_same : SameRound s (canonical_sheet s)
  written_same =
      record {
        same_n = sym (written-bidders s);
        same_m = sym (written-slots s);
        same_tick = sym (written_tick s ok);
        same_effects = λ k l m. sym (written_effect s ok k l m);
        same_bids = λ b l m. sym (written_bid s ok b l m);
        there = λ q h.
            let w = condition_kept s ok h.0 h.1 in (
              w.0,
              (let count = written-constraints s in let l = w.1 in omega arith),
              field_constraint (canonical_sheet s) w.0
                  ∙ ap as_constraint (written_condition s w.0 w.1 ∙ w.2)
                  ∙ sym (field_constraint s h.0)
                  ∙ h.2,
            );
        back = λ q h.
            let within : h.0 < length (conditions_in_order s) = (let count = written-constraints s in let l = h.1 in omega arith) in
            let w = condition_from s ok h.0 within in (
              w.0,
              w.1,
              field_constraint s w.0
                  ∙ ap as_constraint (sym (written_condition s h.0 within ∙ w.2))
                  ∙ sym (field_constraint (canonical_sheet s) h.0)
                  ∙ h.2,
            );
      }

-- one round, one written sheet,
pub same-written : (s t : List ℕ) → Accepted s → Accepted t → SameRound s t → canonical_sheet s ≡ canonical_sheet t
same-written s t ok ok' h =
    let effects : effect_bytes s ≡ effect_bytes t =
    joined_same (λ k. bytes32 (effect_field s (suc k))) (λ k. bytes32 (effect_field t (suc k))) (slot_count s)
    (λ k l. ap bytes32 (h.same_effects (suc k) (omega arith) l))
    ∙ ap (joined (λ k. bytes32 (effect_field t (suc k)))) h.same_m in
    let bids : bid_bytes s ≡ bid_bytes t =
    joined_same (λ i. bytes32 (bid_field s (suc i))) (λ i. bytes32 (bid_field t (suc i))) (bidder_count s)
    (λ i l. ap bytes32 (h.same_bids (suc i) (omega arith) l))
    ∙ ap (joined (λ i. bytes32 (bid_field t (suc i)))) h.same_n in
    let conditions : conditions_in_order s ≡ conditions_in_order t =
    conditions-same s t h.same_n h.same_m
    (λ owner own other others.
    same_tests (has_condition s owner own other others) (has_condition t owner own other others)
    (listed_there s t ok ok' h.there owner own other others)
    (listed_there t s ok' ok h.back owner own other others)) in
    written-joined s
    ∙ ap₂ (λ (n m : ℕ). assembled (tick_field s) n m (effect_bytes s) (bid_bytes s) (conditions_in_order s)) h.same_n h.same_m
    ∙ ap₂ (λ (x : ℕ) (qs : List Condition). assembled x (bidder_count t) (slot_count t) (effect_bytes s) (bid_bytes s) qs) h.same_tick conditions
    ∙ ap₂ (λ (es bs : List ℕ). assembled (tick_field t) (bidder_count t) (slot_count t) es bs (conditions_in_order t)) effects bids
    ∙ sym (written-joined t)

-- and of the written sheet itself
pub written-again : (s : List ℕ) → Accepted s → canonical_sheet (canonical_sheet s) ≡ canonical_sheet s
written-again s ok = same-written (canonical_sheet s) s (written-accepted s ok) ok (round_sym s (canonical_sheet s) (written_same s ok))

-- one written sheet, one round
pub written_equal : (s t : List ℕ) → Accepted s → Accepted t → canonical_sheet s ≡ canonical_sheet t → SameRound s t
written_equal s t ok ok' e =
    round_trans s (canonical_sheet t) t (subst (SameRound s) e (written_same s ok)) (round_sym t (canonical_sheet t) (written_same t ok'))
