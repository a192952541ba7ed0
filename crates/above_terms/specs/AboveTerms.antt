-- Request S-2, the source's identity-specific profile: "a set of rivals becomes, for each rival, all pairs in which the rival's place is above the owner's.
-- … The conditions are written in rising order of their four bytes, each once; their number is returned and later bytes stay."
use Rattle.std.specs.Prelude.{ℕ, suc, ◌-◌, ◌*◌, ◌<◌, ◌≤◌, true, cond, List, [], ◌≡◌, ltb, length}
use Rattle.basis.specs.First.{◌when◌otherwise◌, or_else, unless_refused}
use Rattle.basis.specs.Rows.{row, joined}
use Rattle.sheet.specs.Encoded.{Condition, on}
use Rattle.slot_terms.specs.SlotTerms.{Written, owner_refusal, conditions_buffer}
use Rattle.bidder_sets.specs.BidderSets.{in_set, numbers_wrong}

-- that a condition is one of "all pairs in which the rival's place is above the owner's"
abbrev pub RivalAbove : (m : ℕ) → List ℕ → Condition → Type 0
RivalAbove m rivals q = (in_set rivals q.other ≡ true) × (0 < q.others) × (q.others < q.own) × (q.own ≤ m)

-- those of one rival where the owner's place is `own`: the rival at each place above it
unfoldable pub pairs_at : (owner own other : ℕ) → List Condition
pairs_at owner own other = row (λ l. on owner own other (suc l)) (own - 1)

-- all of them, "in rising order of their four bytes, each once": by own place, then by rival, then by the rival's place
unfoldable pub above_terms_of : (n m owner : ℕ) → List ℕ → List Condition
above_terms_of n m owner rivals = joined (λ k. joined (λ j. cond (in_set rivals (suc j)) (pairs_at owner (suc k) (suc j)) []) n) m

-- 23. The set has a number 0 or above n.  24. The owner is in its own set.
unfoldable pub rivals_refusal : (n owner : ℕ) → List ℕ → ℕ
rivals_refusal n owner rivals =
    23 when numbers_wrong n rivals otherwise
    24 when in_set rivals owner otherwise
    0

-- the first number that applies: 4, 5 and 16, then 23 and 24, then
-- 25. There are more than 1,024 conditions.  19. The result buffer is shorter than the bytes to be written, four for each condition.
unfoldable pub above_terms_refusal : (n m owner : ℕ) (rivals out : List ℕ) → ℕ
above_terms_refusal n m owner rivals out =
    or_else (owner_refusal n m owner)
    (or_else (rivals_refusal n owner rivals)
    (25 when ltb 1024 (length (above_terms_of n m owner rivals)) otherwise
    19 when ltb (length out) (4 * length (above_terms_of n m owner rivals)) otherwise
    0))

-- All that the call returns and leaves: the first number that applies and no count, or 0 and how many conditions are written; and each byte of the buffer.
pub record AboveTermsWritten (n m owner : ℕ) (rivals out : List ℕ) (returned : Written) (out' : List ℕ) : Type 0 where
  pub number : returned.refusal ≡ above_terms_refusal n m owner rivals out
  pub count : returned.count ≡ unless_refused (above_terms_refusal n m owner rivals out) (length (above_terms_of n m owner rivals)) 0
  pub buffer : out' ≡ unless_refused (above_terms_refusal n m owner rivals out) (conditions_buffer (above_terms_of n m owner rivals) out) out
