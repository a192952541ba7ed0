-- The calls by the C convention: what each returns, and all that it leaves in what it was lent. `pas_check` has the check's own
-- equation, `pas_play` and `pas_play_floors` the records of play; the others write their answer to memory that the caller lends, `before` and `after` the call.
use Rattle.std.specs.Prelude.{ℕ, Bool, cond, List, ◌≡◌, ℤ, length}
use Rattle.basis.specs.First.{unless_refused}
use Rattle.sheet.specs.Refusal.{refusal_of}
use Rattle.sheet.specs.Round.{round_of, with_floors}
use Rattle.downward.specs.Downward.{downward}
use Rattle.downward.specs.Call.{test_refusal}
use Rattle.gain.specs.Gain.{gain_of}
use Rattle.gain.specs.Call.{gain_refusal, gain_floors_refusal}
use Rattle.auction.specs.Allowed.{total}
use Rattle.best_page.specs.BestPage.{best_page_of}
use Rattle.best_search.specs.Call.{best_refusal, best_floors_refusal, best_buffer}
use Rattle.owner_part.specs.OwnerPart.{part_refusal, bytes_before, part_length}
use Rattle.canonical.specs.Canonical.{canonical_sheet, canonical_refusal, canonical_buffer}
use Rattle.slot_terms.specs.SlotTerms.{slot_terms_of, slot_terms_refusal, conditions_buffer}
use Rattle.above_terms.specs.AboveTerms.{above_terms_of, above_terms_refusal}
use Rattle.share_page.specs.SharePage.{can_share, order_buffer, share_refusal}
use Rattle.loss_bound.specs.LossBound.{loss_factor}

-- 1 yes, 0 no
unfoldable pub yes_number : Bool → ℕ
yes_number test = cond test 1 0

-- whether the list of bidder i is downward monotonic
pub record DownwardGiven (s : List ℕ) (i before returned after : ℕ) : Type 0 where
  pub number : returned ≡ test_refusal s i
  pub written : after ≡ unless_refused (test_refusal s i) (yes_number (downward (round_of s) i)) before

-- the gain of bidder i: s is played, t tells the truth
pub record GainGiven (s t : List ℕ) (i worth : ℕ) (before : ℤ) (returned : ℕ) (after : ℤ) : Type 0 where
  pub number : returned ≡ gain_refusal s t i worth
  pub written : after ≡ unless_refused (gain_refusal s t i worth) (gain_of (round_of s) (round_of t) i worth) before

-- the same with floors under the slots of s
pub record GainFloorsGiven (floors s t : List ℕ) (i worth : ℕ) (before : ℤ) (returned : ℕ) (after : ℤ) : Type 0 where
  pub number : returned ≡ gain_floors_refusal floors s t i worth
  pub written : after ≡ unless_refused (gain_floors_refusal floors s t i worth) (gain_of (with_floors (round_of s) floors) (round_of t) i worth) before

-- the best page in the buffer, and its total
pub record BestPageGiven (s out : List ℕ) (before returned : ℕ) (out' : List ℕ) (after : ℕ) : Type 0 where
  pub number : returned ≡ best_refusal s out
  pub buffer : out' ≡ unless_refused (best_refusal s out) (best_buffer (round_of s) out) out
  pub written : after ≡ unless_refused (best_refusal s out) (total (round_of s) (best_page_of (round_of s))) before

-- the same with floors
pub record BestFloorsPageGiven (floors s out : List ℕ) (before returned : ℕ) (out' : List ℕ) (after : ℕ) : Type 0 where
  pub number : returned ≡ best_floors_refusal floors s out
  pub buffer : out' ≡ unless_refused (best_floors_refusal floors s out) (best_buffer (with_floors (round_of s) floors) out) out
  pub written : after ≡ unless_refused (best_floors_refusal floors s out) (total (with_floors (round_of s) floors) (best_page_of (with_floors (round_of s) floors))) before

-- where the part of bidder i is: the bytes of the sheet before it, and its own
pub record PartGiven (s : List ℕ) (i start size returned start' size' : ℕ) : Type 0 where
  pub number : returned ≡ part_refusal s i
  pub starts : start' ≡ unless_refused (part_refusal s i) (bytes_before s i) start
  pub sized : size' ≡ unless_refused (part_refusal s i) (part_length s i) size

-- the one sheet for the round in the buffer, and its length
pub record CanonicalGiven (s out : List ℕ) (before returned : ℕ) (out' : List ℕ) (after : ℕ) : Type 0 where
  pub number : returned ≡ canonical_refusal s out
  pub buffer : out' ≡ unless_refused (canonical_refusal s out) (canonical_buffer s out) out
  pub written : after ≡ unless_refused (canonical_refusal s out) (length (canonical_sheet s)) before

-- an owner's conditions by its limit and the bars in the buffer, and how many
pub record SlotTermsGiven (n m owner limit : ℕ) (bars out : List ℕ) (before returned : ℕ) (out' : List ℕ) (after : ℕ) : Type 0 where
  pub number : returned ≡ slot_terms_refusal n m owner limit bars out
  pub buffer : out' ≡ unless_refused (slot_terms_refusal n m owner limit bars out) (conditions_buffer (slot_terms_of n m owner limit bars) out) out
  pub written : after ≡ unless_refused (slot_terms_refusal n m owner limit bars out) (length (slot_terms_of n m owner limit bars)) before

-- an owner's conditions by its rivals in the buffer, and how many
pub record AboveTermsGiven (n m owner : ℕ) (rivals out : List ℕ) (before returned : ℕ) (out' : List ℕ) (after : ℕ) : Type 0 where
  pub number : returned ≡ above_terms_refusal n m owner rivals out
  pub buffer : out' ≡ unless_refused (above_terms_refusal n m owner rivals out) (conditions_buffer (above_terms_of n m owner rivals) out) out
  pub written : after ≡ unless_refused (above_terms_refusal n m owner rivals out) (length (above_terms_of n m owner rivals)) before

-- whether the members could share a page, and for a yes their first order in the buffer
pub record SharePageGiven (n m : ℕ) (members sets out : List ℕ) (before returned : ℕ) (out' : List ℕ) (after : ℕ) : Type 0 where
  pub number : returned ≡ share_refusal n m members sets out
  pub buffer : out' ≡ unless_refused (share_refusal n m members sets out) (order_buffer n m members sets out) out
  pub written : after ≡ unless_refused (share_refusal n m members sets out) (yes_number (can_share n m members sets)) before

-- how many times the greedy page's total is at least every other's; 0 where nothing is said
pub record LossBoundGiven (s : List ℕ) (before returned after : ℕ) : Type 0 where
  pub number : returned ≡ refusal_of s
  pub written : after ≡ unless_refused (refusal_of s) (loss_factor s) before
