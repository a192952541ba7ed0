-- The three demands, over the contracts of the fourteen calls that programs link (pas/src/lib.rt), and then what the requests of document 02 that have
-- landed add. Each call promises one record or equation, for every input; here is what follows for a reader, and the proofs are in proofs/Demands.antt. Lists of
-- numbers are bytes; s is a sheet, out and out' are a result buffer before and after a call, `number` is what a call returns.
use Rattle.std.specs.Prelude.{ℕ, suc, ◌+◌, ◌-◌, ◌*◌, ◌%◌, ◌<◌, ◌≤◌, true, false, not, ◌&&◌, ◌||◌, List, [], ◌∷◌, ◌++◌, ◌⊎◌, ◌≡◌, ℤ, length, take, drop, get_or, replicate, ◌≤ℤ◌}
use Rattle.std.specs.Borrow.{Bor}
use Rattle.basis.specs.Bytes.{word32_at}
use Rattle.basis.specs.Counting.{sum_to}
use Rattle.basis.specs.Rows.{row, joined}
use Rattle.sheet.specs.declared.Page.{Page}
use Rattle.sheet.specs.declared.Round.{Round}
use Rattle.sheet.specs.Sheet.{version, bidder_count, slot_count, constraint_count, constraints_start, tick_field, effect_field, bid_field, owner_field}
use Rattle.sheet.specs.Refusal.{fields_refusal, fields_below, constraint_below, above_before, terms_refusal, constraint_refusal, refusal_of, Accepted}
use Rattle.sheet.specs.Round.{stands_below, round_of, bid_of, with_floors, floor_of, constraint_at}
use Rattle.sheet.specs.Encoded.{Condition, on, sheet_of, condition_field, condition_in}
use Rattle.auction.specs.declared.Eligibility.{Eligibility}
use Rattle.auction.specs.declared.Eligibility.TheVariants.{Eligible, Placed, EarlierWinners, Own, BelowFloor}
use Rattle.auction.specs.Page.{at, put, placed}
use Rattle.auction.specs.Broken.{breaks, breaks_own}
use Rattle.auction.specs.Eligible.{breaks_earlier, first_failed, failed_test, eligible}
use Rattle.auction.specs.Allowed.{PageOf, Allowed, total}
use Rattle.auction.specs.Greedy.{page_up_to}
use Rattle.auction.specs.Filled.{FilledGreedily}
use Rattle.auction.specs.Write.{write_bid}
use Rattle.play.specs.Play.{play_refusal, play_floors_refusal, played_buffer, Played, PlayedFloors, bidder_said, price_said}
use Rattle.downward.specs.Downward.{downward}
use Rattle.downward.specs.Call.{test_refusal}
use Rattle.gain.specs.Gain.{gain_of}
use Rattle.gain.specs.Call.{gain_refusal, gain_floors_refusal}
use Rattle.best_page.specs.Best.{Best}
use Rattle.best_page.specs.BestPage.{best_page_of}
use Rattle.best_search.specs.Call.{best_refusal, best_floors_refusal, best_buffer}
use Rattle.honesty.specs.Honesty.{DifferOnlyInList}
use Rattle.owner_part.specs.OwnerPart.{Before, part_refusal, bytes_before, constraints_of, part_length, before_of, PartHanded}
use Rattle.canonical.specs.Canonical.{canonical_sheet, canonical_refusal, canonical_buffer, SameRound}
use Rattle.slot_terms.specs.SlotTerms.{bar_for, ByLimit, ByBar, slot_terms_of, slot_terms_refusal, conditions_buffer, OwnerFits, TermsFit}
use Rattle.bidder_sets.specs.BidderSets.{in_set, member_count, rivals_of}
use Rattle.above_terms.specs.AboveTerms.{RivalAbove, above_terms_of, above_terms_refusal}
use Rattle.share_page.specs.SharePage.{names, can_share, order_buffer, share_refusal, OrderOf, FirstOrder}
use Rattle.loss_bound.specs.LossBound.{most_naming, loss_factor}
use Rattle.pas.specs.Calls.{yes_number, DownwardGiven, GainGiven, GainFloorsGiven, BestPageGiven, BestFloorsPageGiven, PartGiven, CanonicalGiven, SlotTermsGiven, AboveTermsGiven, SharePageGiven, LossBoundGiven}

-- DEMAND 1. "Every sheet or call that breaks a rule gets the first number that applies, and no lent byte changes; every other gets its full
-- result."

-- What a call owes: its number is the first that applies; where it is refused, nothing lent has changed; where it is not, its result is there.
pub record Owed (number first : ℕ) (unchanged result : Type 0) : Type 0 where
  pub first_number : number ≡ first
  pub refused : (number ≡ 0 → ⊥) → unchanged
  pub answered : number ≡ 0 → result

pub record DemandOne : Type 0 where
  -- pas_check, 1 to 13, 26 to 28: the contract itself, and an accepted sheet is one without a number
  pub check : (s : List ℕ) (number : ℕ) → number ≡ refusal_of s → Owed number (refusal_of s) Unit (Accepted s)
  -- pas_play, those of pas_check, 19
  pub play : (s out out' : List ℕ) (number : ℕ) → Played s out number out' →
      Owed number (play_refusal s out) (out' ≡ out) (out' ≡ played_buffer (round_of s) out)
  -- pas_downward, those of pas_check, 16
  pub downward : (s : List ℕ) (i before number after : ℕ) → DownwardGiven s i before number after →
      Owed number (test_refusal s i) (after ≡ before) (after ≡ yes_number (downward (round_of s) i))
  -- pas_gain, those of pas_check, 14 to 17
  pub gain : (s t : List ℕ) (i worth : ℕ) (before : ℤ) (number : ℕ) (after : ℤ) → GainGiven s t i worth before number after →
      Owed number (gain_refusal s t i worth) (after ≡ before) (after ≡ gain_of (round_of s) (round_of t) i worth)
  -- pas_best, those of pas_check, 18, 19
  pub best : (s out out' : List ℕ) (before number after : ℕ) → BestPageGiven s out before number out' after →
      Owed number (best_refusal s out) ((out' ≡ out) × (after ≡ before))
      ((out' ≡ best_buffer (round_of s) out) × (after ≡ total (round_of s) (best_page_of (round_of s))))
  -- pas_owner_part, those of pas_check, 29, 16
  pub owner_part_call : (s : List ℕ) (i start size number start' size' : ℕ) → PartGiven s i start size number start' size' →
      Owed number (part_refusal s i) ((start' ≡ start) × (size' ≡ size)) ((start' ≡ bytes_before s i) × (size' ≡ part_length s i))
  -- pas_play_floors, those of pas_check, 30, 31, 19
  pub play_floors : (floors s out out' : List ℕ) (number : ℕ) → PlayedFloors floors s out number out' →
      Owed number (play_floors_refusal floors s out) (out' ≡ out) (out' ≡ played_buffer (with_floors (round_of s) floors) out)
  -- pas_gain_floors, those of pas_check, 30, 31, 14 to 17
  pub gain_floors : (floors s t : List ℕ) (i worth : ℕ) (before : ℤ) (number : ℕ) (after : ℤ) → GainFloorsGiven floors s t i worth before number after →
      Owed number (gain_floors_refusal floors s t i worth) (after ≡ before) (after ≡ gain_of (with_floors (round_of s) floors) (round_of t) i worth)
  -- pas_best_floors, those of pas_check, 30, 31, 18, 19
  pub best_floors : (floors s out out' : List ℕ) (before number after : ℕ) → BestFloorsPageGiven floors s out before number out' after →
      Owed number (best_floors_refusal floors s out) ((out' ≡ out) × (after ≡ before))
      ((out' ≡ best_buffer (with_floors (round_of s) floors) out)
      × (after ≡ total (with_floors (round_of s) floors) (best_page_of (with_floors (round_of s) floors))))
  -- pas_canonical, those of pas_check, 19
  pub canonical : (s out out' : List ℕ) (before number after : ℕ) → CanonicalGiven s out before number out' after →
      Owed number (canonical_refusal s out) ((out' ≡ out) × (after ≡ before))
      ((out' ≡ canonical_buffer s out) × (after ≡ length (canonical_sheet s)))
  -- pas_slot_terms, 4, 5, 16, 20 to 22, 19
  pub slot_terms_call : (n m owner limit : ℕ) (bars out out' : List ℕ) (before number after : ℕ) → SlotTermsGiven n m owner limit bars out before number out' after →
      Owed number (slot_terms_refusal n m owner limit bars out) ((out' ≡ out) × (after ≡ before))
      ((out' ≡ conditions_buffer (slot_terms_of n m owner limit bars) out) × (after ≡ length (slot_terms_of n m owner limit bars)))
  -- pas_above_terms, 4, 5, 16, 23 to 25, 19
  pub above_terms_call : (n m owner : ℕ) (rivals out out' : List ℕ) (before number after : ℕ) → AboveTermsGiven n m owner rivals out before number out' after →
      Owed number (above_terms_refusal n m owner rivals out) ((out' ≡ out) × (after ≡ before))
      ((out' ≡ conditions_buffer (above_terms_of n m owner rivals) out) × (after ≡ length (above_terms_of n m owner rivals)))
  -- pas_share_page, 4, 5, 23, 24, 19
  pub share_page_call : (n m : ℕ) (members sets out out' : List ℕ) (before number after : ℕ) → SharePageGiven n m members sets out before number out' after →
      Owed number (share_refusal n m members sets out) ((out' ≡ out) × (after ≡ before))
      ((out' ≡ order_buffer n m members sets out) × (after ≡ yes_number (can_share n m members sets)))

-- DEMAND 2. "The page is the greedy page. A price is the smallest bid with which its winner, all else unchanged, still wins that place. Up to 8
-- bidders and 8 places, the best page breaks no condition and no other such page has a larger total." With request S-4 "a price becomes the smallest
-- bid that the sheet would accept and that still wins the place".

-- The price that a result says for slot k, with w the bidder there: at most w's bid (an empty slot's bid is 0), and a multiple of the tick; playing the
-- sheet with the price written for w, into any buffer with room, is not refused and gives w the slot; playing it with any smaller number written that
-- the sheet would accept does not. `Plays` is the promise of the call: `Played`, or `PlayedFloors` with its floors.
pub record PricedRight (Plays : (s out : List ℕ) (number : ℕ) (out' : List ℕ) → Type 0) (s result : List ℕ) (k : ℕ) : Type 0 where
  pub at_most_bid : price_said result k ≤ bid_field s (bidder_said result k)
  pub multiple : price_said result k % tick_field s ≡ 0
  pub wins : (bidder_said result k ≡ 0 → ⊥) → (again again' : List ℕ) (number : ℕ) → 5 * slot_count s ≤ length again →
      Plays (write_bid s (bidder_said result k) (price_said result k)) again number again' → (number ≡ 0) × (bidder_said again' k ≡ bidder_said result k)
  pub smaller_loses : (x : ℕ) → x < price_said result k → Accepted (write_bid s (bidder_said result k) x) → (again again' : List ℕ) (number : ℕ) → 5 * slot_count s ≤ length again →
      Plays (write_bid s (bidder_said result k) x) again number again' → (number ≡ 0) × (bidder_said again' k ≡ bidder_said result k → ⊥)

-- What a result says of an accepted sheet, whose round is r: a page of the round that breaks no condition (and obeys its floors), each slot filled by the
-- greedy rule and priced right.
pub record PlayedRight (Plays : (s out : List ℕ) (number : ℕ) (out' : List ℕ) → Type 0) (r : Round) (s result : List ℕ) : Type 0 where
  pub page : Page
  pub said : (k : ℕ) → 0 < k → k ≤ slot_count s → bidder_said result k ≡ at page k
  pub allowed : Allowed r page
  pub greedy : (k : ℕ) → 0 < k → k ≤ slot_count s → FilledGreedily r page k
  pub priced : (k : ℕ) → 0 < k → k ≤ slot_count s → PricedRight Plays s result k

-- What a buffer and a total say of the best page of a round.
pub record BestRight (r : Round) (out out' : List ℕ) (given : ℕ) : Type 0 where
  pub page : Page
  pub best : Best r page
  pub said : out' ≡ row (λ k. at page (suc k)) r.slots ++ drop r.slots out
  pub own_total : given ≡ total r page

pub record DemandTwo : Type 0 where
  -- pas_play
  pub play : (s out out' : List ℕ) (number : ℕ) → Accepted s → 5 * slot_count s ≤ length out → Played s out number out' →
      (number ≡ 0) × PlayedRight Played (round_of s) s out'
  -- pas_best
  pub best : (s out out' : List ℕ) (before number after : ℕ) → Accepted s → bidder_count s ≤ 8 → slot_count s ≤ 8 → slot_count s ≤ length out →
      BestPageGiven s out before number out' after → (number ≡ 0) × BestRight (round_of s) out out' after

-- DEMAND 3. "A bidder that lists its true conditions (of any kind) and bids at most its worth gains at least as much as with any downward
-- monotonic list sent instead, whatever the others do."

-- An honest sheet and one sent instead are accepted and differ only in bidder i's list (their ticks are equal too), and `pas_downward` answers 1 for i's list in the latter. At any worth from i's bid up,
-- `pas_gain` with the honest sheet as truth refuses neither sheet, and gives with the honest one played at least what it gives with the other.
unfoldable pub DemandThree : Type 0
DemandThree =
    (honest instead : List ℕ) (i worth : ℕ) → Accepted honest → Accepted instead → DifferOnlyInList i honest instead →
    (before : ℕ) → DownwardGiven instead i before 0 1 → bid_field honest i ≤ worth → worth ≤ 1_000_000_000 →
    (before-honest before-instead : ℤ) (number-honest number-instead : ℕ) (gain-honest gain-instead : ℤ) →
    GainGiven honest honest i worth before-honest number-honest gain-honest →
    GainGiven instead honest i worth before-instead number-instead gain-instead →
    (number-honest ≡ 0) × (number-instead ≡ 0) × (gain-instead ≤ℤ gain-honest)

-- REQUEST S-3. "Let the eligibility step answer with the first of these tests that fails, or that none does: not yet placed, then earlier winners'
-- conditions, then the candidate's own. Its promise says exactly when each answer is given." S-7 adds the floor, "tested after S-3's three".

-- each of two follows from the other
abbrev pub Exactly : Type 0 → Type 0 → Type 0
Exactly given when = (given → when) × (when → given)

-- When each answer is given, of the candidate b for slot k with the slots of p filled.
pub record AnsweredInOrder (r : Round) (p : Page) (k b : ℕ) (answer : Eligibility) : Type 0 where
  pub has_slot : Exactly (answer ≡ Placed) (placed p b ≡ true)
  pub earlier_winners : Exactly (answer ≡ EarlierWinners) ((placed p b ≡ false) × (breaks_earlier r p (put p k b) ≡ true))
  pub own : Exactly (answer ≡ Own) ((placed p b ≡ false) × (breaks_earlier r p (put p k b) ≡ false) × (breaks_own r (put p k b) b ≡ true))
  pub below_floor : Exactly (answer ≡ BelowFloor)
      ((placed p b ≡ false) × (breaks_earlier r p (put p k b) ≡ false) × (breaks_own r (put p k b) b ≡ false) × (bid_of r b < floor_of r k))
  pub none_fails : Exactly (answer ≡ Eligible) (eligible r p k b ≡ true)

pub record RequestThree : Type 0 where
  -- the step (`eligibility`, greedy/src/lib.rt) promises the equation, for each round and page that the engine is filling; page and prices take who
  -- is eligible from its answers, and from nowhere else
  pub step : (r : Round) (p : Page) (k b : ℕ) (answer : Eligibility) → failed_test answer ≡ first_failed r p k b → AnsweredInOrder r p k b answer
  -- "An unplaced bidder is eligible for place k if, with the places already filled and it at k, neither its own conditions nor those of an earlier
  -- winner are broken": of a sheet's round. (With floors: `RequestSeven.eligible_only`.)
  pub sentence : (s : List ℕ) (p : Page) (k b : ℕ) →
      eligible (round_of s) p k b ≡ (not (placed p b) && not (breaks_own (round_of s) (put p k b) b || breaks_earlier (round_of s) p (put p k b)))

-- REQUEST S-4. "Sheet version 2 has a 4-byte tick after the condition count …; version 1 means tick 1 … Every bid is a multiple of the tick. A price
-- becomes the smallest bid that the sheet would accept and that still wins the place … for the last, both sheets have the same tick." Demands 1 to 3 are
-- for both versions; the price is `PricedRight` above.
pub record RequestFour : Type 0 where
  -- version 1 means tick 1; so, in demand 3, one sheet may be of version 1 and the other of version 2 with tick 1
  pub version_one : (s : List ℕ) → version s ≡ 1 → tick_field s ≡ 1
  -- in version 2 the tick is the 4 bytes after the condition count
  pub version_two : (s : List ℕ) → version s ≡ 2 → tick_field s ≡ word32_at s 9
  -- an accepted sheet is of one of the two versions, and in version 2 "every length grows by 4"
  pub lengths : (s : List ℕ) → Accepted s →
      ((version s ≡ 1) × (length s ≡ 9 + 4 * (slot_count s + bidder_count s + constraint_count s)))
      ⊎ ((version s ≡ 2) × (length s ≡ 13 + 4 * (slot_count s + bidder_count s + constraint_count s)))
  -- an accepted sheet of either version has a tick of 1 to 1,000,000,000, of which every bid is a multiple
  pub in_ticks : (s : List ℕ) → Accepted s →
      (0 < tick_field s) × (tick_field s ≤ 1_000_000_000) × ((i : ℕ) → 0 < i → i ≤ bidder_count s → bid_field s i % tick_field s ≡ 0)
  -- the bids that an accepted sheet would accept for a bidder: just the multiples of the tick up to 1,000,000,000
  pub would_accept : (s : List ℕ) (i x : ℕ) → Accepted s → 0 < i → i ≤ bidder_count s → x < 4_294_967_296 →
      Exactly (Accepted (write_bid s i x)) ((x ≤ 1_000_000_000) × (x % tick_field s ≡ 0))
  -- "14 covers a truth sheet breaking these too"
  pub truth_refused : (s t : List ℕ) (i worth : ℕ) (before : ℤ) (number : ℕ) (after : ℤ) → GainGiven s t i worth before number after →
      Accepted s → (refusal_of t ≡ 0 → ⊥) → number ≡ 14
  -- and a truth sheet of another tick is not refused
  pub another_tick : (s t : List ℕ) (i worth : ℕ) (before : ℤ) (number : ℕ) (after : ℤ) → GainGiven s t i worth before number after →
      Accepted s → Accepted t → bidder_count t ≡ bidder_count s → slot_count t ≡ slot_count s → 0 < i → i ≤ bidder_count s → worth ≤ 1_000_000_000 →
      number ≡ 0

-- REQUEST S-5. "In version 2 the conditions stand in strictly rising order of owner, own place, other bidder, other's place; version 1 stays free. A new
-- call hands back the part of the sheet with one bidder's conditions, which is empty if it has none and then stands just before the first higher owner's,
-- or at the sheet's end. A refused call hands back the empty part at the sheet's start, and a call that only checks gives the number, or else how many
-- bytes of the sheet stand before the part. The stated order becomes part of what an accepted version 2 round is known to satisfy. Turned away: 28 for a
-- version 2 condition not above the one before, tested for each condition after its 13 and counted in 14; 29 where either call gets a version 1 sheet that
-- is otherwise accepted, before 16."

-- What the call (`part`, owner_part/src/lib.rt) hands back of a lent sheet, which is a reference: `ptr` says where its bytes stand in memory (the block and
-- the byte of it), `now` what they are. The part is in the sheet's own memory. A refused call's is empty and at the sheet's start. Any other starts
-- as many bytes on as `bytes_before` says, and holds exactly the bidder's conditions, all of them, in sheet order.
pub record HandedRight (sheet part : Bor (List ℕ)) (i : ℕ) : Type 0 where
  pub own_memory : part.ref_ptr.0 ≡ sheet.ref_ptr.0
  pub refused : (part_refusal sheet.now i ≡ 0 → ⊥) → (part.ref_ptr.1 ≡ sheet.ref_ptr.1) × (part.now ≡ [])
  pub stands : part_refusal sheet.now i ≡ 0 → part.ref_ptr.1 ≡ sheet.ref_ptr.1 + bytes_before sheet.now i
  pub conditions : part_refusal sheet.now i ≡ 0 → part.now ≡ constraints_of sheet.now i

-- Where a part starts: with the first condition whose owner is i or, where i has none, just before the first of a higher owner; or at the sheet's end.
-- Every condition before it has a lower owner.
pub record StartsRight (s : List ℕ) (i : ℕ) : Type 0 where
  pub index : ℕ
  pub before : bytes_before s i ≡ constraints_start s + 4 * index
  pub lower : (k : ℕ) → k < index → owner_field s k < i
  pub here : ((index ≡ constraint_count s) × (bytes_before s i ≡ length s)) ⊎ ((index < constraint_count s) × (i ≤ owner_field s index))

-- What the call that only checks (`check_part`) answers: the number, or else how many bytes of the sheet stand before the part; 0 bytes beside a number.
pub record CheckedRight (s : List ℕ) (i : ℕ) (answer : Before) : Type 0 where
  pub first_number : answer.refusal ≡ part_refusal s i
  pub answered : part_refusal s i ≡ 0 → answer.bytes ≡ bytes_before s i
  pub refused : (part_refusal s i ≡ 0 → ⊥) → answer.bytes ≡ 0

-- What pas_owner_part says of a part: it lies within the sheet, and its bytes are the bidder's conditions.
pub record PointedRight (s : List ℕ) (i start size : ℕ) : Type 0 where
  pub within : start + size ≤ length s
  pub conditions : take size (drop start s) ≡ constraints_of s i

pub record RequestFive : Type 0 where
  -- in an accepted sheet of version 2 each condition is above every one before it, and so is each constraint of its round
  pub in_order : (s : List ℕ) → Accepted s → version s ≡ 2 → (j k : ℕ) → j < k → k < constraint_count s → constraint_below s j k ≡ true
  pub round_in_order : (s : List ℕ) → Accepted s → (round_of s).version ≡ 2 → (j k : ℕ) → j < k → k < (round_of s).used →
      stands_below (constraint_at (round_of s) j) (constraint_at (round_of s) k) ≡ true
  -- "version 1 stays free": its conditions have the numbers 10 to 13 alone
  pub free : (s : List ℕ) → version s ≡ 1 → (k : ℕ) → constraint_refusal s k ≡ terms_refusal s k
  -- 28 for a condition of version 2 that is not above the one before; "after its 13", so one that breaks 10 to 13 has that number. (14 counts it:
  -- `truth_refused` above is for a truth sheet that breaks any rule.)
  pub twenty_eight : (s : List ℕ) (k : ℕ) → version s ≡ 2 → terms_refusal s k ≡ 0 → Exactly (constraint_refusal s k ≡ 28) (above_before s k ≡ false)
  pub after_thirteen : (s : List ℕ) (k : ℕ) → (terms_refusal s k ≡ 0 → ⊥) → constraint_refusal s k ≡ terms_refusal s k
  -- the part that is handed back, and where it starts
  pub part : (sheet part : Bor (List ℕ)) (i : ℕ) → PartHanded sheet i part → HandedRight sheet part i
  pub starts : (s : List ℕ) (i : ℕ) → part_refusal s i ≡ 0 → StartsRight s i
  -- "which is empty if it has none"
  pub empty : (s : List ℕ) (i : ℕ) → ((k : ℕ) → k < constraint_count s → owner_field s k ≡ i → ⊥) → constraints_of s i ≡ []
  -- the call that only checks
  pub checks : (s : List ℕ) (i : ℕ) (answer : Before) → answer ≡ before_of s i → CheckedRight s i answer
  -- pas_owner_part, where it is not refused
  pub edge : (s : List ℕ) (i start size start' size' : ℕ) → PartGiven s i start size 0 start' size' → PointedRight s i start' size'
  -- the calls' numbers: the sheet's first, then 29 for version 1, then 16 for a bidder that the sheet has not, and none for any other
  pub sheet_first : (s : List ℕ) (i : ℕ) → (refusal_of s ≡ 0 → ⊥) → part_refusal s i ≡ refusal_of s
  pub twenty_nine : (s : List ℕ) (i : ℕ) → Accepted s → version s ≡ 1 → part_refusal s i ≡ 29
  pub sixteen : (s : List ℕ) (i : ℕ) → Accepted s → version s ≡ 2 → (i ≡ 0) ⊎ (bidder_count s < i) → part_refusal s i ≡ 16
  pub answered : (s : List ℕ) (i : ℕ) → Accepted s → version s ≡ 2 → 0 < i → i ≤ bidder_count s → part_refusal s i ≡ 0

-- REQUEST S-7. "Some places cost more to show. A second form of playing, gain and best page also takes a lent list of m floors. A bidder is eligible for a
-- place only with a bid at or above its floor, tested after S-3's three, and the eligibility step's promise says so to all who use it. A price remains the
-- smallest legal bid that still wins the place, floor counted. The best page obeys floors as well. Honest lists must still be at least as good with floors
-- in any order, falling or rising, the same floors for both sheets. Turned away: after 28 and before 14, 30 for a list that is not m long and 31 for a floor
-- above 1,000,000,000." The step's promise is `RequestThree.step`.

-- no floors: m times 0
abbrev pub no_floors : List ℕ → List ℕ
no_floors s = replicate (slot_count s) 0

-- a list of floors that an accepted sheet can be played with
pub record Floored (floors s : List ℕ) : Type 0 where
  pub accepted : Accepted s
  pub as_many : length floors ≡ slot_count s
  pub none_too_high : (k : ℕ) → k < slot_count s → get_or floors k 0 ≤ 1_000_000_000

-- what the three calls with floors return, where all return one number
abbrev pub AllReturn : (floors s : List ℕ) (number : ℕ) → Type 0
AllReturn floors s number =
    ((out : List ℕ) → play_floors_refusal floors s out ≡ number)
    × ((t : List ℕ) (i worth : ℕ) → gain_floors_refusal floors s t i worth ≡ number)
    × ((out : List ℕ) → best_floors_refusal floors s out ≡ number)

pub record RequestSeven : Type 0 where
  -- each call without floors promises what the call with floors does where they are 0, and the other way round
  pub play_without : (s out out' : List ℕ) (number : ℕ) → Exactly (Played s out number out') (PlayedFloors (no_floors s) s out number out')
  pub gain_without : (s t : List ℕ) (i worth : ℕ) (before : ℤ) (number : ℕ) (after : ℤ) →
      Exactly (GainGiven s t i worth before number after) (GainFloorsGiven (no_floors s) s t i worth before number after)
  pub best_without : (s out out' : List ℕ) (before number after : ℕ) →
      Exactly (BestPageGiven s out before number out' after) (BestFloorsPageGiven (no_floors s) s out before number out' after)
  -- the round of a call with floors has the list's, and that of a call without floors has none
  pub floors_are : (floors s : List ℕ) → Floored floors s → (k : ℕ) → k < slot_count s → floor_of (with_floors (round_of s) floors) (suc k) ≡ get_or floors k 0
  pub without_floors : (s : List ℕ) (k : ℕ) → floor_of (round_of s) k ≡ 0
  -- eligible only with a bid at or above the floor: the other tests are those of 01's sentence
  pub eligible_only : (r : Round) (p : Page) (k b : ℕ) →
      Exactly (eligible r p k b ≡ true)
      (((not (placed p b) && not (breaks_own r (put p k b) b || breaks_earlier r p (put p k b))) ≡ true) × (floor_of r k ≤ bid_of r b))
  -- the page is the greedy page, it breaks no condition and obeys the floors, and each price is the smallest legal bid that wins the place when the
  -- sheet is played with the same floors
  pub play : (floors s out out' : List ℕ) (number : ℕ) → Floored floors s → 5 * slot_count s ≤ length out → PlayedFloors floors s out number out' →
      (number ≡ 0) × PlayedRight (PlayedFloors floors) (with_floors (round_of s) floors) s out'
  -- the price of a filled place is at or above its floor,
  pub floor_counted : (floors s out out' : List ℕ) (number : ℕ) → Floored floors s → 5 * slot_count s ≤ length out → PlayedFloors floors s out number out' →
      (k : ℕ) → k < slot_count s → (bidder_said out' (suc k) ≡ 0 → ⊥) → get_or floors k 0 ≤ price_said out' (suc k)
  -- and where nobody else is eligible it is the smallest multiple of the tick that is: at most every other
  pub alone : (floors s out out' : List ℕ) (number : ℕ) → Floored floors s → 5 * slot_count s ≤ length out → PlayedFloors floors s out number out' →
      (k : ℕ) → k < slot_count s → (bidder_said out' (suc k) ≡ 0 → ⊥) →
      ((b : ℕ) → 0 < b → b ≤ bidder_count s → (b ≡ bidder_said out' (suc k) → ⊥) →
      eligible (with_floors (round_of s) floors) (page_up_to (with_floors (round_of s) floors) k) (suc k) b ≡ false) →
      (x : ℕ) → x % tick_field s ≡ 0 → get_or floors k 0 ≤ x → price_said out' (suc k) ≤ x
  -- "best" is 01's, among the pages that break no condition and have a bid at or above the floor at every filled place; without floors these are all
  -- that break none
  pub best : (floors s out out' : List ℕ) (before number after : ℕ) → Floored floors s → bidder_count s ≤ 8 → slot_count s ≤ 8 → slot_count s ≤ length out →
      BestFloorsPageGiven floors s out before number out' after → (number ≡ 0) × BestRight (with_floors (round_of s) floors) out out' after
  pub allowed_without : (s : List ℕ) (p : Page) → Exactly (Allowed (round_of s) p) (PageOf (round_of s) p × (breaks (round_of s) p ≡ false))
  -- demand 3 with floors, the same for both sheets, in any order
  pub honest : (floors honest instead : List ℕ) (i worth : ℕ) → Floored floors honest → Accepted instead → DifferOnlyInList i honest instead →
      (before : ℕ) → DownwardGiven instead i before 0 1 → bid_field honest i ≤ worth → worth ≤ 1_000_000_000 →
      (before-honest before-instead : ℤ) (number-honest number-instead : ℕ) (gain-honest gain-instead : ℤ) →
      GainFloorsGiven floors honest honest i worth before-honest number-honest gain-honest →
      GainFloorsGiven floors instead honest i worth before-instead number-instead gain-instead →
      (number-honest ≡ 0) × (number-instead ≡ 0) × (gain-instead ≤ℤ gain-honest)
  -- the sheet's numbers first; then 30; then 31; and with floors that break neither, what the call without floors returns
  pub sheet_first : (floors s : List ℕ) → (refusal_of s ≡ 0 → ⊥) → AllReturn floors s (refusal_of s)
  pub thirty : (floors s : List ℕ) → Accepted s → (length floors ≡ slot_count s → ⊥) → AllReturn floors s 30
  pub thirty_one : (floors s : List ℕ) → Accepted s → length floors ≡ slot_count s → (k : ℕ) → k < slot_count s → 1_000_000_000 < get_or floors k 0 →
      AllReturn floors s 31
  pub play_then : (floors s out : List ℕ) → Floored floors s → play_floors_refusal floors s out ≡ play_refusal s out
  pub gain_then : (floors s t : List ℕ) (i worth : ℕ) → Floored floors s → gain_floors_refusal floors s t i worth ≡ gain_refusal s t i worth
  pub best_then : (floors s out : List ℕ) → Floored floors s → best_floors_refusal floors s out ≡ best_refusal s out

-- REQUEST S-6. "Archives keep the same round in many shapes. Add a writer that takes any accepted sheet and writes version 2, with the conditions in order
-- and repeats dropped. It returns the length written, and later bytes stay. Two accepted sheets give equal bytes exactly when n, m, tick, effects, bids
-- and the sets of conditions are equal. Writing again from the written sheet changes nothing, and both sheets play to the same page and prices. Refusal 19
-- covers its buffer."

-- Two sheets get the same answers: playing, the downward test, gain, best page and the writer return and leave with the one what they do with the other, as the
-- played sheet and as the truth sheet. (One bidder's part is of the sheet and not of the round: in version 1 there is none.)
pub record SameAnswers (s t : List ℕ) : Type 0 where
  pub play : (out out' : List ℕ) (number : ℕ) → Exactly (Played s out number out') (Played t out number out')
  pub downward : (i before number after : ℕ) → Exactly (DownwardGiven s i before number after) (DownwardGiven t i before number after)
  pub gain : (truth : List ℕ) (i worth : ℕ) (before : ℤ) (number : ℕ) (after : ℤ) →
      Exactly (GainGiven s truth i worth before number after) (GainGiven t truth i worth before number after)
  pub truth : (played : List ℕ) (i worth : ℕ) (before : ℤ) (number : ℕ) (after : ℤ) →
      Exactly (GainGiven played s i worth before number after) (GainGiven played t i worth before number after)
  pub best : (out out' : List ℕ) (before number after : ℕ) → Exactly (BestPageGiven s out before number out' after) (BestPageGiven t out before number out' after)
  pub canonical : (out out' : List ℕ) (before number after : ℕ) → Exactly (CanonicalGiven s out before number out' after) (CanonicalGiven t out before number out' after)
  -- and with any floors
  pub play_floors : (floors out out' : List ℕ) (number : ℕ) → Exactly (PlayedFloors floors s out number out') (PlayedFloors floors t out number out')
  pub gain_floors : (floors truth : List ℕ) (i worth : ℕ) (before : ℤ) (number : ℕ) (after : ℤ) →
      Exactly (GainFloorsGiven floors s truth i worth before number after) (GainFloorsGiven floors t truth i worth before number after)
  pub truth_floors : (floors played : List ℕ) (i worth : ℕ) (before : ℤ) (number : ℕ) (after : ℤ) →
      Exactly (GainFloorsGiven floors played s i worth before number after) (GainFloorsGiven floors played t i worth before number after)
  pub best_floors : (floors out out' : List ℕ) (before number after : ℕ) →
      Exactly (BestFloorsPageGiven floors s out before number out' after) (BestFloorsPageGiven floors t out before number out' after)

-- What pas_canonical has written of a sheet s, where it is not refused: the first bytes of the buffer, as many as it says.
pub record WrittenRight (s out out' : List ℕ) (size : ℕ) : Type 0 where
  -- it is an accepted sheet, as long as said, of version 2, its conditions in order and no two the same
  pub accepted : Accepted (take size out')
  pub as_long : length (take size out') ≡ size
  pub version_two : version (take size out') ≡ 2
  pub in_order : (j k : ℕ) → j < k → k < constraint_count (take size out') → constraint_below (take size out') j k ≡ true
  -- n, m, tick, effects, bids and the set of conditions are those of s, and so are the answers
  pub same_round : SameRound s (take size out')
  pub same_answers : SameAnswers s (take size out')
  -- "later bytes stay"
  pub later : drop size out' ≡ drop size out
  -- "writing again from the written sheet changes nothing": into any buffer with room for it
  pub again : (into into' : List ℕ) (before number after : ℕ) → size ≤ length into → CanonicalGiven (take size out') into before number into' after →
      (number ≡ 0) × (after ≡ size) × (take after into' ≡ take size out')

pub record RequestSix : Type 0 where
  -- any accepted sheet is written, into any buffer of at least 4 bytes more than it has
  pub any_accepted : (s out out' : List ℕ) (before number after : ℕ) → Accepted s → length s + 4 ≤ length out → CanonicalGiven s out before number out' after →
      (number ≡ 0) × WrittenRight s out out' after
  -- what is written, wherever the call is not refused
  pub written : (s out out' : List ℕ) (before after : ℕ) → CanonicalGiven s out before 0 out' after → WrittenRight s out out' after
  -- equal bytes exactly when n, m, tick, effects, bids and the sets of conditions are equal
  pub one_sheet : (s t out out' into into' : List ℕ) (before after before-t after-t : ℕ) →
      CanonicalGiven s out before 0 out' after → CanonicalGiven t into before-t 0 into' after-t →
      Exactly (take after out' ≡ take after-t into') (SameRound s t)
  -- all accepted sheets of one round get the same answers
  pub same_answers : (s t : List ℕ) → Accepted s → Accepted t → SameRound s t → SameAnswers s t
  -- an accepted sheet of version 2, made of bytes, is what is written of it
  pub own_form : (s out out' : List ℕ) (before after : ℕ) → version s ≡ 2 → ((k : ℕ) → get_or s k 0 < 256) →
      CanonicalGiven s out before 0 out' after → take after out' ≡ s
  -- the call's numbers: the sheet's first, then 19 for a buffer shorter than the bytes to be written, and none for any other; these are at most 4 more than
  -- the sheet's
  pub sheet_first : (s out : List ℕ) → (refusal_of s ≡ 0 → ⊥) → canonical_refusal s out ≡ refusal_of s
  pub nineteen : (s out : List ℕ) → Accepted s → length out < length (canonical_sheet s) → canonical_refusal s out ≡ 19
  pub answered : (s out : List ℕ) → Accepted s → length (canonical_sheet s) ≤ length out → canonical_refusal s out ≡ 0
  pub at_most_longer : (s : List ℕ) → Accepted s → length (canonical_sheet s) ≤ length s + 4

-- REQUEST S-1. "Buyers think in two numbers: the lowest place they accept, and for each rival how many top places it must not have. Add the source's
-- slot-specific profile: from n, m, an owner, its own limit and a bar for each bidder, write that owner's conditions in rising order of their four bytes and
-- return how many; later bytes stay. A limit L gives own-place conditions for places L + 1 to m. A bar B gives other's-place conditions for places 1 to B.
-- Every list written is downward monotonic for that m, so on a sheet with that n and m demand 3 holds for it as the list sent instead, with no test made.
-- Turned away: after 4, 5 and 16, 20 for a limit of 0 or above m, 21 for a list of bars not n long or a bar above m, 22 for a bar other than 0 against the
-- owner, and then 19."

-- the condition is one of the first `count` of bytes that are conditions alone, four bytes each
abbrev pub Among : (bytes : List ℕ) (count : ℕ) → Condition → Type 0
Among bytes count q = (k : ℕ) × (k < count) × (condition_in bytes k ≡ q)

-- 01's "downward monotonic" of such a list, for m places: "for every condition with own place k from 1 to m − 1, the list also has the condition with own
-- place k + 1 and the same other part"
abbrev pub DownwardFor : (m : ℕ) (bytes : List ℕ) (count : ℕ) → Type 0
DownwardFor m bytes count =
    (q : Condition) → Among bytes count q → 0 < q.own → q.own < m → Among bytes count (on q.owner (suc q.own) q.other q.others)

-- Bidder i's list in a sheet is the one written: the sheet has each of its conditions, in any order and any number of times, and no other that i owns.
pub record ListSent (s : List ℕ) (i : ℕ) (bytes : List ℕ) (count : ℕ) : Type 0 where
  pub each : (q : Condition) → Among bytes count q → (k : ℕ) × (k < constraint_count s) × (condition_field s k ≡ q)
  pub no_other : (k : ℕ) → k < constraint_count s → owner_field s k ≡ i → Among bytes count (condition_field s k)

-- of two conditions the first stands below the second "in rising order of their four bytes"
abbrev pub Below : Condition → Condition → Type 0
Below p q = fields_below p.owner p.own p.other p.others q.owner q.own q.other q.others ≡ true

-- What a call that writes one bidder's list has written, where it is not refused: `count` conditions at the front of the buffer, those of the owner that
-- are `Given`.
pub record ListWritten (n m owner : ℕ) (Given : Condition → Type 0) (out out' : List ℕ) (count : ℕ) : Type 0 where
  -- these, and nothing else
  pub conditions : (q : Condition) → Exactly (Among out' count q) ((q.owner ≡ owner) × Given q)
  -- each below the next in the order of their four bytes, so that none is there twice
  pub rising : (j k : ℕ) → j < k → k < count → Below (condition_in out' j) (condition_in out' k)
  -- each passes 10 to 13 of a sheet with that n and m
  pub pass : (q : Condition) → Among out' count q → fields_refusal n m q.owner q.own q.other q.others ≡ 0
  -- there was room for them, and "later bytes stay"
  pub room : 4 * count ≤ length out
  pub later : drop (4 * count) out' ≡ drop (4 * count) out
  -- the list is downward monotonic for that m; so in an accepted sheet with that m the test of 01 passes
  pub downward_for : DownwardFor m out' count
  pub downward_on : (s : List ℕ) → Accepted s → slot_count s ≡ m → ListSent s owner out' count → downward (round_of s) owner ≡ true
  -- and with that n too pas_downward answers 1
  pub tested : (s : List ℕ) (before number after : ℕ) → Accepted s → bidder_count s ≡ n → slot_count s ≡ m → ListSent s owner out' count →
      DownwardGiven s owner before number after → (number ≡ 0) × (after ≡ 1)
  -- demand 3 with the list written as the list sent instead, on a sheet with that n and m and with no test made
  pub honest : (honest instead : List ℕ) (worth : ℕ) → Accepted honest → Accepted instead → DifferOnlyInList owner honest instead →
      bidder_count instead ≡ n → slot_count instead ≡ m → ListSent instead owner out' count → bid_field honest owner ≤ worth → worth ≤ 1_000_000_000 →
      (before-honest before-instead : ℤ) (number-honest number-instead : ℕ) (gain-honest gain-instead : ℤ) →
      GainGiven honest honest owner worth before-honest number-honest gain-honest →
      GainGiven instead honest owner worth before-instead number-instead gain-instead →
      (number-honest ≡ 0) × (number-instead ≡ 0) × (gain-instead ≤ℤ gain-honest)
  -- and with floors, the same for both sheets
  pub honest_floors : (floors honest instead : List ℕ) (worth : ℕ) → Floored floors honest → Accepted instead → DifferOnlyInList owner honest instead →
      bidder_count instead ≡ n → slot_count instead ≡ m → ListSent instead owner out' count → bid_field honest owner ≤ worth → worth ≤ 1_000_000_000 →
      (before-honest before-instead : ℤ) (number-honest number-instead : ℕ) (gain-honest gain-instead : ℤ) →
      GainFloorsGiven floors honest honest owner worth before-honest number-honest gain-honest →
      GainFloorsGiven floors instead honest owner worth before-instead number-instead gain-instead →
      (number-honest ≡ 0) × (number-instead ≡ 0) × (gain-instead ≤ℤ gain-honest)

pub record RequestOne : Type 0 where
  -- what is written, wherever the call is not refused: the own-place conditions for places L + 1 to m, and for each bidder the other's-place conditions for
  -- places 1 to its bar
  pub written : (n m owner limit : ℕ) (bars out out' : List ℕ) (before count : ℕ) → SlotTermsGiven n m owner limit bars out before 0 out' count →
      ListWritten n m owner (λ q. ByLimit m limit q ⊎ ByBar n bars q) out out' count
  -- these are never more than 1,023, so such a list alone fits on every sheet
  pub most : (n m owner limit : ℕ) (bars out out' : List ℕ) (before count : ℕ) → SlotTermsGiven n m owner limit bars out before 0 out' count → count ≤ 1_023
  -- the call's numbers: 4, 5 and 16 first,
  pub four : (n m owner limit : ℕ) (bars out : List ℕ) → (n ≡ 0) ⊎ (64 < n) → slot_terms_refusal n m owner limit bars out ≡ 4
  pub five : (n m owner limit : ℕ) (bars out : List ℕ) → 0 < n → n ≤ 64 → (m ≡ 0) ⊎ (16 < m) → slot_terms_refusal n m owner limit bars out ≡ 5
  pub sixteen : (n m owner limit : ℕ) (bars out : List ℕ) → 0 < n → n ≤ 64 → 0 < m → m ≤ 16 → (owner ≡ 0) ⊎ (n < owner) →
      slot_terms_refusal n m owner limit bars out ≡ 16
  -- then 20 for the limit, 21 for the list of bars and each bar of it, the owner's own included, and 22 for a bar against the owner,
  pub twenty : (n m owner limit : ℕ) (bars out : List ℕ) → OwnerFits n m owner → (limit ≡ 0) ⊎ (m < limit) → slot_terms_refusal n m owner limit bars out ≡ 20
  pub twenty_one : (n m owner limit : ℕ) (bars out : List ℕ) → OwnerFits n m owner → 0 < limit → limit ≤ m →
      (length bars ≡ n → ⊥) ⊎ ((j : ℕ) × (0 < j) × (j ≤ n) × (m < bar_for bars j)) → slot_terms_refusal n m owner limit bars out ≡ 21
  pub twenty_two : (n m owner limit : ℕ) (bars out : List ℕ) → OwnerFits n m owner → 0 < limit → limit ≤ m → length bars ≡ n →
      ((j : ℕ) → 0 < j → j ≤ n → bar_for bars j ≤ m) → (bar_for bars owner ≡ 0 → ⊥) → slot_terms_refusal n m owner limit bars out ≡ 22
  -- then none where the buffer has 4,092 bytes; and once a call has answered and said how many conditions there are, it is known of every other buffer:
  -- 19 exactly where it is shorter than four bytes for each
  pub answered : (n m owner limit : ℕ) (bars out : List ℕ) → TermsFit n m owner limit bars → 4_092 ≤ length out → slot_terms_refusal n m owner limit bars out ≡ 0
  pub nineteen : (n m owner limit : ℕ) (bars into into' : List ℕ) (before count : ℕ) → SlotTermsGiven n m owner limit bars into before 0 into' count →
      (out : List ℕ) → Exactly (slot_terms_refusal n m owner limit bars out ≡ 19) (length out < 4 * count)
  pub enough : (n m owner limit : ℕ) (bars into into' : List ℕ) (before count : ℕ) → SlotTermsGiven n m owner limit bars into before 0 into' count →
      (out : List ℕ) → 4 * count ≤ length out → slot_terms_refusal n m owner limit bars out ≡ 0

-- REQUEST S-2. "Seal makers want to say only "above these". Add the identity-specific profile: a set of rivals becomes, for each rival, all pairs in which the
-- rival's place is above the owner's. A set is a list of bidder numbers in which a repeat counts once; the n rival sets below are lent one after another from
-- bidder 1's, each with its length in one byte before it. The conditions are written in rising order of their four bytes, each once; their number is returned
-- and later bytes stay. Buyers' groups also want to know if a given set of bidders, with one rival set for each of the n bidders, could share a page. The reply
-- is yes exactly when the set has at most m members and some order of them puts each above every rival of its own in the set; a yes writes the first such order
-- in dictionary order, one byte a member, and no later byte. A no writes nothing. Turned away: after 4, 5 and 16, 23 for rival sets whose bytes are not exactly
-- n sets or for any set with a number 0 or above n, 24 for an owner in its own set, 25, only where conditions are written, for more than 1,024 of them, and then
-- 19."

-- the numbers of a set are from 1 to n; and n sets are lent one after another from bidder 1's, each with its length before it
abbrev pub Numbered : (n : ℕ) → List ℕ → Type 0
Numbered n set = (k : ℕ) → k < length set → (0 < get_or set k 0) × (get_or set k 0 ≤ n)

abbrev pub Lent : (n : ℕ) (sets : List ℕ) (set : ℕ → List ℕ) → Type 0
Lent n sets set = sets ≡ joined (λ i. length (set (suc i)) ∷ set (suc i)) n

-- What each of the calls asks for: n, m and an owner that a sheet can have and a set of others; n, m, a set, and n sets without their own bidder.
pub record RivalsFit (n m owner : ℕ) (rivals : List ℕ) : Type 0 where
  pub owner_fits : OwnerFits n m owner
  pub numbered : Numbered n rivals
  pub not_itself : in_set rivals owner ≡ false

pub record SetsFit (n m : ℕ) (members sets : List ℕ) : Type 0 where
  pub some_bidders : 0 < n
  pub most_bidders : n ≤ 64
  pub some_slots : 0 < m
  pub most_slots : m ≤ 16
  pub numbered : Numbered n members
  pub lent : Lent n sets (rivals_of sets)
  pub each_numbered : (i : ℕ) → 0 < i → i ≤ n → Numbered n (rivals_of sets i)
  pub not_itself : (i : ℕ) → 0 < i → i ≤ n → names sets i i ≡ false

-- What pas_share_page has answered, where it is not refused.
pub record SharedRight (n m : ℕ) (members sets out out' : List ℕ) (answer : ℕ) : Type 0 where
  pub yes_or_no : (answer ≡ 1) ⊎ (answer ≡ 0)
  -- "yes exactly when the set has at most m members and some order of them puts each above every rival of its own in the set"
  pub yes : Exactly (answer ≡ 1) ((member_count n members ≤ m) × (l : List ℕ) × OrderOf (names sets) (in_set members) l)
  -- "a yes writes the first such order in dictionary order, one byte a member, and no later byte. A no writes nothing."
  pub first : answer ≡ 1 → FirstOrder (names sets) (in_set members) (take (member_count n members) out')
  pub room : answer ≡ 1 → member_count n members ≤ length out
  pub later : answer ≡ 1 → drop (member_count n members) out' ≡ drop (member_count n members) out
  pub nothing : answer ≡ 0 → out' ≡ out

-- A sheet's lists all come from the profile, with these rival sets: each bidder's list has all pairs in which a rival of its own set stands above it, in any
-- order and each any number of times, and no other condition.
pub record AllFromProfile (s sets : List ℕ) : Type 0 where
  pub each : (q : Condition) → 0 < q.owner → q.owner ≤ bidder_count s → RivalAbove (slot_count s) (rivals_of sets q.owner) q →
      (k : ℕ) × (k < constraint_count s) × (condition_field s k ≡ q)
  pub no_other : (k : ℕ) → k < constraint_count s → RivalAbove (slot_count s) (rivals_of sets (owner_field s k)) (condition_field s k)

-- bidder i's list in a sheet is one that the profile's call has written for these rivals
abbrev pub WrittenFor : (n m : ℕ) (s : List ℕ) (i : ℕ) (rivals : List ℕ) → Type 0
WrittenFor n m s i rivals = (out out' : List ℕ) × (before count : ℕ) × AboveTermsGiven n m i rivals out before 0 out' count × ListSent s i out' count

-- all members have a place on a page; and nobody else has
abbrev pub HasAll : Page → List ℕ → Type 0
HasAll p members = (b : ℕ) → in_set members b ≡ true → placed p b ≡ true

abbrev pub HasJust : Page → List ℕ → Type 0
HasJust p members = (b : ℕ) → 0 < b → placed p b ≡ in_set members b

pub record RequestTwo : Type 0 where
  -- what is written, wherever the call is not refused: for each rival all pairs in which its place is above the owner's
  pub written : (n m owner : ℕ) (rivals out out' : List ℕ) (before count : ℕ) → AboveTermsGiven n m owner rivals out before 0 out' count →
      ListWritten n m owner (RivalAbove m rivals) out out' count
  -- m × (m − 1) / 2 for each rival, and never more than 1,014
  pub many : (n m owner : ℕ) (rivals out out' : List ℕ) (before count : ℕ) → AboveTermsGiven n m owner rivals out before 0 out' count →
      (2 * count ≡ member_count n rivals * (m * (m - 1))) × (count ≤ 1_014)
  -- "a repeat counts once": with lists that have the same members both calls return and leave the same; and with rival sets that have the same members the
  -- second gives the same answer and order
  pub same_set : (n m owner : ℕ) (rivals rivals' out : List ℕ) → ((b : ℕ) → in_set rivals b ≡ in_set rivals' b) →
      (above_terms_refusal n m owner rivals out ≡ above_terms_refusal n m owner rivals' out) × (above_terms_of n m owner rivals ≡ above_terms_of n m owner rivals')
  pub same_members : (n m : ℕ) (members members' sets out : List ℕ) → ((b : ℕ) → in_set members b ≡ in_set members' b) →
      (share_refusal n m members sets out ≡ share_refusal n m members' sets out)
      × (can_share n m members sets ≡ can_share n m members' sets)
      × (order_buffer n m members sets out ≡ order_buffer n m members' sets out)
  pub same_rivals : (n m : ℕ) (members sets sets' out : List ℕ) → ((b x : ℕ) → names sets b x ≡ names sets' b x) →
      (can_share n m members sets ≡ can_share n m members sets') × (order_buffer n m members sets out ≡ order_buffer n m members sets' out)
  -- sets lent one after another, each with its length before it, are read as they were lent
  pub read : (n : ℕ) (sets : List ℕ) (set : ℕ → List ℕ) → Lent n sets set →
      ((i : ℕ) → 0 < i → i ≤ n → rivals_of sets i ≡ set i) × Lent n sets (rivals_of sets)
  -- when the definition says yes, be the call refused or not
  pub sharing_call : (n m : ℕ) (members sets : List ℕ) → Numbered n members →
      Exactly (can_share n m members sets ≡ true) ((member_count n members ≤ m) × (l : List ℕ) × OrderOf (names sets) (in_set members) l)
  -- the answer, wherever the call is not refused
  pub shared : (n m : ℕ) (members sets out out' : List ℕ) (before answer : ℕ) → SharePageGiven n m members sets out before 0 out' answer →
      SharedRight n m members sets out out' answer
  -- lists written by the one call, with the rival sets lent to the other, are such lists
  pub all_written : (n m : ℕ) (s sets : List ℕ) → Accepted s → bidder_count s ≡ n → slot_count s ≡ m →
      ((i : ℕ) → 0 < i → i ≤ n → (out out' : List ℕ) × (before count : ℕ) × AboveTermsGiven n m i (rivals_of sets i) out before 0 out' count × ListSent s i out' count) →
      AllFromProfile s sets
  -- on a round with such lists, the members of a yes stand on the first places in the order written, nobody else stands anywhere, and no condition is broken
  pub on_first_places : (n m : ℕ) (members sets out out' : List ℕ) (before : ℕ) → SharePageGiven n m members sets out before 0 out' 1 →
      (s : List ℕ) → Accepted s → bidder_count s ≡ n → slot_count s ≡ m → AllFromProfile s sets →
      (p : Page) × ((k : ℕ) → at p (suc k) ≡ get_or (take (member_count n members) out') k 0) × HasJust p members × Allowed (round_of s) p
  -- and where the answer is no, no page of that round has all of them, be others there or not, without breaking one
  pub on_no_page : (n m : ℕ) (members sets out out' : List ℕ) (before : ℕ) → SharePageGiven n m members sets out before 0 out' 0 →
      (s : List ℕ) → Accepted s → bidder_count s ≡ n → slot_count s ≡ m → AllFromProfile s sets →
      (p : Page) → PageOf (round_of s) p → breaks (round_of s) p ≡ false → HasAll p members → ⊥
  -- the numbers of the profile's call: 4, 5 and 16 first, then 23 and 24,
  pub four : (n m owner : ℕ) (rivals out : List ℕ) → (n ≡ 0) ⊎ (64 < n) → above_terms_refusal n m owner rivals out ≡ 4
  pub five : (n m owner : ℕ) (rivals out : List ℕ) → 0 < n → n ≤ 64 → (m ≡ 0) ⊎ (16 < m) → above_terms_refusal n m owner rivals out ≡ 5
  pub sixteen : (n m owner : ℕ) (rivals out : List ℕ) → 0 < n → n ≤ 64 → 0 < m → m ≤ 16 → (owner ≡ 0) ⊎ (n < owner) → above_terms_refusal n m owner rivals out ≡ 16
  pub twenty_three : (n m owner : ℕ) (rivals out : List ℕ) → OwnerFits n m owner → (k : ℕ) → k < length rivals → (get_or rivals k 0 ≡ 0) ⊎ (n < get_or rivals k 0) →
      above_terms_refusal n m owner rivals out ≡ 23
  pub twenty_four : (n m owner : ℕ) (rivals out : List ℕ) → OwnerFits n m owner → Numbered n rivals → in_set rivals owner ≡ true → above_terms_refusal n m owner rivals out ≡ 24
  -- then 25 for more than 1,024 conditions, 19 for a buffer shorter than four bytes for each, and none for any other
  pub twenty_five : (n m owner : ℕ) (rivals out : List ℕ) → RivalsFit n m owner rivals → 2_048 < member_count n rivals * (m * (m - 1)) → above_terms_refusal n m owner rivals out ≡ 25
  pub nineteen : (n m owner : ℕ) (rivals out : List ℕ) → RivalsFit n m owner rivals → member_count n rivals * (m * (m - 1)) ≤ 2_048 →
      length out < 2 * (member_count n rivals * (m * (m - 1))) → above_terms_refusal n m owner rivals out ≡ 19
  pub answered : (n m owner : ℕ) (rivals out : List ℕ) → RivalsFit n m owner rivals → member_count n rivals * (m * (m - 1)) ≤ 2_048 →
      2 * (member_count n rivals * (m * (m - 1))) ≤ length out → above_terms_refusal n m owner rivals out ≡ 0
  -- 4,056 bytes are always enough
  pub enough : (n m owner : ℕ) (rivals out : List ℕ) → RivalsFit n m owner rivals → member_count n rivals * (m * (m - 1)) ≤ 2_048 → 4_056 ≤ length out →
      above_terms_refusal n m owner rivals out ≡ 0
  -- the numbers of the sharing call: 4 and 5, then 23 for a number of the members, for bytes that are not n sets, and for a number of a set,
  pub share_four : (n m : ℕ) (members sets out : List ℕ) → (n ≡ 0) ⊎ (64 < n) → share_refusal n m members sets out ≡ 4
  pub share_five : (n m : ℕ) (members sets out : List ℕ) → 0 < n → n ≤ 64 → (m ≡ 0) ⊎ (16 < m) → share_refusal n m members sets out ≡ 5
  pub members_wrong : (n m : ℕ) (members sets out : List ℕ) → 0 < n → n ≤ 64 → 0 < m → m ≤ 16 →
      (k : ℕ) → k < length members → (get_or members k 0 ≡ 0) ⊎ (n < get_or members k 0) → share_refusal n m members sets out ≡ 23
  pub not_sets : (n m : ℕ) (members sets out : List ℕ) → 0 < n → n ≤ 64 → 0 < m → m ≤ 16 → (Lent n sets (rivals_of sets) → ⊥) → share_refusal n m members sets out ≡ 23
  pub sets_wrong : (n m : ℕ) (members sets out : List ℕ) → 0 < n → n ≤ 64 → 0 < m → m ≤ 16 → (i : ℕ) → 0 < i → i ≤ n →
      (k : ℕ) → k < length (rivals_of sets i) → (get_or (rivals_of sets i) k 0 ≡ 0) ⊎ (n < get_or (rivals_of sets i) k 0) → share_refusal n m members sets out ≡ 23
  -- then 24 for a bidder in its own set, a member or not,
  pub share_twenty_four : (n m : ℕ) (members sets out : List ℕ) → 0 < n → n ≤ 64 → 0 < m → m ≤ 16 → Numbered n members → Lent n sets (rivals_of sets) →
      ((i : ℕ) → 0 < i → i ≤ n → Numbered n (rivals_of sets i)) → (i : ℕ) → 0 < i → i ≤ n → names sets i i ≡ true → share_refusal n m members sets out ≡ 24
  -- then 19 for a yes with a buffer shorter than the members, and none for any other
  pub share_nineteen : (n m : ℕ) (members sets out : List ℕ) → SetsFit n m members sets → can_share n m members sets ≡ true → length out < member_count n members →
      share_refusal n m members sets out ≡ 19
  pub share_answered : (n m : ℕ) (members sets out : List ℕ) → SetsFit n m members sets → (can_share n m members sets ≡ false) ⊎ (member_count n members ≤ length out) →
      share_refusal n m members sets out ≡ 0
  -- m bytes are always enough
  pub share_enough : (n m : ℕ) (members sets out : List ℕ) → SetsFit n m members sets → m ≤ length out → share_refusal n m members sets out ≡ 0

-- REQUEST S-8. "Sales must tell catalogues what the quick page can lose. On sheets without floors whose lists all come from the profile "above named rivals", let
-- d be the largest number of bidders that name one same rival. Then d + 2 times the played page's total is at least the total of every other page that breaks no
-- condition, up to 64 bidders and 16 places. Source theorem 2 gives the idea; here it is wanted for any falling effects." That the lists come from the profile
-- with n rival sets is `AllFromProfile` above, and d is `most_naming` of who names whom.

-- the total of the page that a result says: 01's "sum of bid × effect over filled places"; the bid of nobody is 0
unfoldable pub total_said : (s result : List ℕ) → ℕ
total_said s result = sum_to (λ k. bid_field s (bidder_said result (suc k)) * effect_field s (suc k)) (slot_count s)

-- d + 1 bidders and places, all bids and effects 1; each bidder but the first names the first
unfoldable pub sharp_sheet : (d : ℕ) → List ℕ
sharp_sheet d = sheet_of (replicate (suc d) 1) (replicate (suc d) 1) (joined (λ i. above_terms_of (suc d) (suc d) (suc (suc i)) (1 ∷ [])) d)

-- On such a sheet the best page has d + 1 times the total of the played one, which is not 0: so no smaller number would do.
pub record Sharp (d : ℕ) : Type 0 where
  pub accepted : Accepted (sharp_sheet d)
  pub factor : loss_factor (sharp_sheet d) ≡ d + 1
  pub some : (out out' : List ℕ) → Played (sharp_sheet d) out 0 out' → 0 < total_said (sharp_sheet d) out'
  pub reached : (out out' into into' : List ℕ) (before best : ℕ) → Played (sharp_sheet d) out 0 out' → BestPageGiven (sharp_sheet d) into before 0 into' best →
      best ≡ (d + 1) * total_said (sharp_sheet d) out'

pub record RequestEight : Type 0 where
  -- the sentence of 02, for every page that breaks no condition
  pub sentence : (s sets out out' : List ℕ) → Accepted s → AllFromProfile s sets → Played s out 0 out' → (p : Page) → Allowed (round_of s) p →
      total (round_of s) p ≤ (most_naming (names sets) (bidder_count s) + 2) * total_said s out'
  -- d + 1 is enough, and for every page of the round, be conditions broken on it or not
  pub sharper : (s sets out out' : List ℕ) → Accepted s → AllFromProfile s sets → Played s out 0 out' → (p : Page) → PageOf (round_of s) p →
      total (round_of s) p ≤ (most_naming (names sets) (bidder_count s) + 1) * total_said s out'
  -- in particular on a sheet whose lists were written by S-2's call, with the rival sets given
  pub written : (n m : ℕ) (s sets out out' : List ℕ) → Accepted s → bidder_count s ≡ n → slot_count s ≡ m → ((i : ℕ) → 0 < i → i ≤ n → WrittenFor n m s i (rivals_of sets i)) →
      Played s out 0 out' → (p : Page) → PageOf (round_of s) p → total (round_of s) p ≤ (most_naming (names sets) n + 1) * total_said s out'
  -- what pas_loss_bound tells of an accepted sheet is 0 exactly where the lists do not all come from the profile, with any rival sets;
  pub told : (s : List ℕ) (before factor : ℕ) → LossBoundGiven s before 0 factor → Exactly (0 < factor) ((sets : List ℕ) × AllFromProfile s sets)
  -- where it is not 0, each bidder's list is one that S-2's call writes;
  pub each_written : (s : List ℕ) (before factor : ℕ) → LossBoundGiven s before 0 factor → 0 < factor → (i : ℕ) → 0 < i → i ≤ bidder_count s →
      (rivals : List ℕ) × WrittenFor (bidder_count s) (slot_count s) s i rivals
  -- and it is d + 1 by the rival sets that the lists come from. (With one place nobody can stand above another: no list has a condition, and it is 1.)
  pub factor : (s sets : List ℕ) (before factor : ℕ) → LossBoundGiven s before 0 factor → AllFromProfile s sets → 1 < slot_count s →
      factor ≡ most_naming (names sets) (bidder_count s) + 1
  pub one_place : (s sets : List ℕ) (before factor : ℕ) → LossBoundGiven s before 0 factor → AllFromProfile s sets → slot_count s ≡ 1 → factor ≡ 1
  -- so the number as it is told, where it is not 0, times the played page's total is at least the total of every page,
  pub bound : (s out out' : List ℕ) (before factor : ℕ) → LossBoundGiven s before 0 factor → 0 < factor → Played s out 0 out' → (p : Page) → PageOf (round_of s) p →
      total (round_of s) p ≤ factor * total_said s out'
  -- and at least what pas_best returns
  pub best : (s out out' into into' : List ℕ) (before factor before' best : ℕ) → LossBoundGiven s before 0 factor → 0 < factor → Played s out 0 out' →
      BestPageGiven s into before' 0 into' best → best ≤ factor * total_said s out'
  -- the number is one of those of pas_check, and else the answer is the factor
  pub loss_bound_call : (s : List ℕ) (before number after : ℕ) → LossBoundGiven s before number after →
      Owed number (refusal_of s) (after ≡ before) (after ≡ loss_factor s)
  -- d + 1 cannot be made less: computed for d of 1, 2 and 3
  pub sharp : (d : ℕ) → 0 < d → d ≤ 3 → Sharp d
