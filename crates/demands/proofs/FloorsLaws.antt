-- Request S-7: the calls with floors and those without, the first numbers, and the page, its prices and the best page with floors. Assumes nothing.
use Prim.Native.Nat.{ℕ, zero, suc, ◌*◌, ◌%◌, ◌<◌, ◌≤◌}
use mathlib.Core.Bool.{true, false, not, ◌&&◌, ◌||◌}
use mathlib.Core.List.{List}
use mathlib.Core.Logic.{⊎_elim}
use mathlib.Core.Path.{◌≡◌, refl, sym, ◌∙◌, ap, subst}
use native.Mathlib.Omega.{arith}
use borrow.Author.Tests.{le-ltb}
use lib.IntN.{ℤ}
use lib.ListN.{length, get_or, replicate, length-replicate}
use Rattle.basis.specs.First.{or_else, unless_refused}
use Rattle.basis.proofs.FirstLaws.{or_else-none, or_else_left, or_else_right, answered-gives}
use Rattle.basis.proofs.NumberLaws.{same_or_not}
use Rattle.basis.proofs.RowLaws.{zeros}
use Rattle.sheet.specs.declared.Page.{Page}
use Rattle.sheet.specs.declared.Round.{Round}
use Rattle.sheet.specs.Sheet.{bidder_count, slot_count, tick_field}
use Rattle.sheet.specs.Refusal.{refusal_of, Accepted}
use Rattle.sheet.specs.Round.{round_of, with_floors, bid_of, floor_of}
use Rattle.sheet.proofs.AcceptedLaws.{accepted-sheet}
use Rattle.sheet.proofs.RoundLaws.{round_bidders, round_slots, round_tick, no_floor}
use Rattle.sheet.proofs.FloorLaws.{floor_under, floors-bidders, floors_tick, without-floors}
use Rattle.floors.specs.Floors.{floors_refusal}
use Rattle.floors.proofs.FloorLaws as floors
use Rattle.auction.specs.Page.{at, put, placed}
use Rattle.auction.specs.Broken.{breaks, breaks_own}
use Rattle.auction.specs.Eligible.{breaks_earlier, eligible}
use Rattle.auction.specs.Allowed.{PageOf, Allowed, total}
use Rattle.auction.specs.Greedy.{page_up_to, greedy_page}
use Rattle.auction.specs.Price.{price}
use Rattle.auction.proofs.BrokenLaws.{eligible-reaches, eligible-sentence}
use Rattle.play.specs.Play.{room_refusal, play_refusal, play_floors_refusal, played_buffer, Played, PlayedFloors, bidder_said, price_said}
use Rattle.play.proofs.PlayLaws as playing
use Rattle.gain.specs.Gain.{gain_of}
use Rattle.gain.specs.Call.{later_refusal, gain_refusal, gain_floors_refusal}
use Rattle.gain.proofs.CallLaws as gaining
use Rattle.best_page.specs.BestPage.{best_page_of}
use Rattle.best_page.proofs.BestPageLaws.{best_page_lem}
use Rattle.best_search.specs.Call.{bounds_refusal, best_refusal, best_floors_refusal, best_buffer}
use Rattle.best_search.proofs.CallLaws as searching
use Rattle.pas.specs.Calls.{GainGiven, GainFloorsGiven, BestPageGiven, BestFloorsPageGiven}
use Rattle.demands.specs.Demands.{Exactly, no_floors, Floored, AllReturn, PlayedRight, BestRight}
use Rattle.demands.proofs.PlayLaws.{says-bidder, says-price, paid_reaches, paid_alone, played_right}

-- floors that break neither rule
module _ (f s : List ℕ) (right : Floored f s) where
  pub passed : floors_refusal (slot_count s) f ≡ 0
  passed = floors.passed (slot_count s) f right.as_many right.none_too_high

  -- what the call without floors returns
  pub play_then : (out : List ℕ) → play_floors_refusal f s out ≡ play_refusal s out
  play_then out = playing.left_of_floors f s out right.accepted passed ∙ sym (playing.left_of_play s out right.accepted)

  pub gain_then : (t : List ℕ) (i worth : ℕ) → gain_floors_refusal f s t i worth ≡ gain_refusal s t i worth
  gain_then t i worth = gaining.left_of_floors f s t i worth right.accepted passed ∙ sym (gaining.left_of_gain s t i worth right.accepted)

  pub best_then : (out : List ℕ) → best_floors_refusal f s out ≡ best_refusal s out
  best_then out = searching.left_of_floors f s out right.accepted passed ∙ sym (searching.left_of_best s out right.accepted)

-- the numbers, in their order
pub sheet_first : (f s : List ℕ) → (refusal_of s ≡ 0 → ⊥) → AllReturn f s (refusal_of s)
unfolding play_floors_refusal gain_floors_refusal best_floors_refusal
sheet_first f s h = (
  λ out. or_else_left (refusal_of s) _ h,
  λ t i worth. or_else_left (refusal_of s) _ h,
  λ out. or_else_left (refusal_of s) _ h,
)

by_floors : (f s : List ℕ) (k : ℕ) → Accepted s → floors_refusal (slot_count s) f ≡ suc k → AllReturn f s (suc k)
unfolding play_floors_refusal gain_floors_refusal best_floors_refusal
by_floors f s k ok e =
    let some : floors_refusal (slot_count s) f ≡ 0 → ⊥ = (λ z. absurd (omega arith)) in (
      λ out. or_else_right (refusal_of s) _ ok ∙ or_else_left (floors_refusal (slot_count s) f) _ some ∙ e,
      λ t i worth. or_else_right (refusal_of s) _ ok ∙ or_else_left (floors_refusal (slot_count s) f) _ some ∙ e,
      λ out. or_else_right (refusal_of s) _ ok ∙ or_else_left (floors_refusal (slot_count s) f) _ some ∙ e,
    )

pub thirty : (f s : List ℕ) → Accepted s → (length f ≡ slot_count s → ⊥) → AllReturn f s 30
thirty f s ok h = by_floors f s 29 ok (floors.thirty (slot_count s) f h)

pub thirty_one : (f s : List ℕ) → Accepted s → length f ≡ slot_count s → (k : ℕ) → k < slot_count s → 1_000_000_000 < get_or f k 0 → AllReturn f s 31
thirty_one f s ok e k l high = by_floors f s 30 ok (floors.thirty_one (slot_count s) f e k l high)

-- floors of 0 are right, and leave the round as it was
pub none-floored : (s : List ℕ) → Accepted s → Floored (no_floors s) s
none-floored s ok =
    record {
      accepted = ok;
      as_many = length-replicate {A = ℕ} (slot_count s) 0;
      none_too_high = λ k l. let e = zeros (slot_count s) k in omega arith;
    }

pub none_round : (s : List ℕ) → Accepted s → with_floors (round_of s) (no_floors s) ≡ round_of s
none_round s ok = without-floors s (no_floors s) (accepted-sheet s ok).counts.most_slots (λ k l. zeros (slot_count s) k)

-- So the call with floors of 0 returns and leaves what the call without floors does: refused sheets get their number and leave all, and accepted ones
-- are the same round.
none_refusal : (s : List ℕ) (floored plain rest : ℕ) → (refusal_of s ≡ 0 → floored ≡ plain) → (floored ≡ or_else (refusal_of s) rest) → (rest' : ℕ) →
    (plain ≡ or_else (refusal_of s) rest') → floored ≡ plain
none_refusal s floored plain rest same e rest' e' =
    ⊎_elim
    (λ (z : refusal_of s ≡ 0). same z)
    (λ (h : refusal_of s ≡ 0 → ⊥). e ∙ or_else_left (refusal_of s) rest h ∙ sym (e' ∙ or_else_left (refusal_of s) rest' h))
    (same_or_not (refusal_of s) 0)

-- memory that is written or left, by equal numbers and with equal answers where there is one
pub left_same : {A : Type 0} (k k' : ℕ) (given given' before : A) → k ≡ k' → (k ≡ 0 → given ≡ given') →
    unless_refused k given before ≡ unless_refused k' given' before
unfolding unless_refused
left_same zero k' given given' before e same = same refl ∙ ap (λ (n : ℕ). unless_refused n given' before) e
left_same (suc k) k' given given' before e same = ap (λ (n : ℕ). unless_refused n given' before) e

play-none : (s out : List ℕ) → play_floors_refusal (no_floors s) s out ≡ play_refusal s out
unfolding play_floors_refusal play_refusal
play-none s out = none_refusal s _ _ _ (λ ok. play_then (no_floors s) s (none-floored s ok) out) refl _ refl

gain-none : (s t : List ℕ) (i worth : ℕ) → gain_floors_refusal (no_floors s) s t i worth ≡ gain_refusal s t i worth
unfolding gain_floors_refusal gain_refusal
gain-none s t i worth = none_refusal s _ _ _ (λ ok. gain_then (no_floors s) s (none-floored s ok) t i worth) refl _ refl

best_none : (s out : List ℕ) → best_floors_refusal (no_floors s) s out ≡ best_refusal s out
unfolding best_floors_refusal best_refusal
best_none s out = none_refusal s _ _ _ (λ ok. best_then (no_floors s) s (none-floored s ok) out) refl _ refl

-- what is written by the round of an accepted sheet, or left
written_none : {A : Type 0} (s : List ℕ) (k k' rest : ℕ) (given : Round → A) (before : A) → k ≡ k' → k' ≡ or_else (refusal_of s) rest →
    unless_refused k (given (with_floors (round_of s) (no_floors s))) before ≡ unless_refused k' (given (round_of s)) before
written_none s k k' rest given before e number =
    left_same k k' (given (with_floors (round_of s) (no_floors s))) (given (round_of s)) before e
    (λ z. ap given (none_round s (or_else-none (refusal_of s) rest (sym number ∙ sym e ∙ z)).0))

pub play_without : (s out out' : List ℕ) (number : ℕ) → Exactly (Played s out number out') (PlayedFloors (no_floors s) s out number out')
unfolding play_refusal
play_without s out out' number =
    let same = play-none s out in
    let buffer = written_none s _ _ (room_refusal s out) (λ r. played_buffer r out) out same refl in (
      λ g. record { number = g.number ∙ sym same; buffer = g.buffer ∙ sym buffer },
      λ g. record { number = g.number ∙ same; buffer = g.buffer ∙ buffer },
    )

pub gain_without : (s t : List ℕ) (i worth : ℕ) (before : ℤ) (number : ℕ) (after : ℤ) →
    Exactly (GainGiven s t i worth before number after) (GainFloorsGiven (no_floors s) s t i worth before number after)
unfolding gain_refusal
gain_without s t i worth before number after =
    let same = gain-none s t i worth in
    let gained = written_none s _ _ (later_refusal s t i worth) (λ r. gain_of r (round_of t) i worth) before same refl in (
      λ g. record { number = g.number ∙ sym same; written = g.written ∙ sym gained },
      λ g. record { number = g.number ∙ same; written = g.written ∙ gained },
    )

pub best_without : (s out out' : List ℕ) (before number after : ℕ) →
    Exactly (BestPageGiven s out before number out' after) (BestFloorsPageGiven (no_floors s) s out before number out' after)
unfolding best_refusal
best_without s out out' before number after =
    let same = best_none s out in
    let buffer = written_none s _ _ (bounds_refusal s out) (λ r. best_buffer r out) out same refl in
    let sum = written_none s _ _ (bounds_refusal s out) (λ r. total r (best_page_of r)) before same refl in (
      λ g. record { number = g.number ∙ sym same; buffer = g.buffer ∙ sym buffer; written = g.written ∙ sym sum },
      λ g. record { number = g.number ∙ same; buffer = g.buffer ∙ buffer; written = g.written ∙ sum },
    )

-- a floor of the list, and none in a call without
pub floors_are : (f s : List ℕ) → Floored f s → (k : ℕ) → k < slot_count s → floor_of (with_floors (round_of s) f) (suc k) ≡ get_or f k 0
floors_are f s right k l = floor_under (round_of s) f k (let e = round_slots s in omega arith)

pub eligible_only : (r : Round) (p : Page) (k b : ℕ) →
    Exactly (eligible r p k b ≡ true)
    (((not (placed p b) && not (breaks_own r (put p k b) b || breaks_earlier r p (put p k b))) ≡ true) × (floor_of r k ≤ bid_of r b))
eligible_only r p k b = (
  λ e. let reaches = eligible-reaches r p k b e in (sym (eligible-sentence r p k b reaches) ∙ e, reaches),
  λ h. eligible-sentence r p k b h.1 ∙ h.0,
)

-- The call with floors gives the round's page and prices, and so does the call without, with floors of 0.
floors-plays : (f s : List ℕ) → Floored f s → (t out out' : List ℕ) (number : ℕ) → Accepted t → slot_count t ≡ slot_count s → 5 * slot_count s ≤ length out →
    PlayedFloors f t out number out' → (number ≡ 0) × (out' ≡ played_buffer (with_floors (round_of t) f) out)
unfolding room_refusal
floors-plays f s right t out out' number ok same room g =
    let none : play_floors_refusal f t out ≡ 0
    = playing.left_of_floors f t out ok (ap (λ (m : ℕ). floors_refusal m f) same ∙ passed f s right)
    ∙ simp (le-ltb (length out) (5 * slot_count t) (omega arith)) in
    (g.number ∙ none, g.buffer ∙ sym (answered-gives (play_floors_refusal f t out) (played_buffer (with_floors (round_of t) f) out) out none))

plain_plays : (s : List ℕ) → Accepted s → (t out out' : List ℕ) (number : ℕ) → Accepted t → slot_count t ≡ slot_count s → 5 * slot_count s ≤ length out →
    Played t out number out' → (number ≡ 0) × (out' ≡ played_buffer (with_floors (round_of t) (no_floors s)) out)
plain_plays s ok t out out' number ok' same room g =
    floors-plays (no_floors s) s (none-floored s ok) t out out' number ok' same room
    (subst (λ (m : ℕ). PlayedFloors (replicate m 0) t out number out') same ((play_without t out out' number).0 g))

pub played-with : (f s out out' : List ℕ) (number : ℕ) → Floored f s → 5 * slot_count s ≤ length out → PlayedFloors f s out number out' →
    (number ≡ 0) × PlayedRight (PlayedFloors f) (with_floors (round_of s) f) s out'
played-with f s out out' number right room g = (
  (floors-plays f s right s out out' number right.accepted refl room g).0,
  played_right f s right.accepted (passed f s right) (PlayedFloors f) (floors-plays f s right) out out' number room g,
)

pub played-without : (s out out' : List ℕ) (number : ℕ) → Accepted s → 5 * slot_count s ≤ length out → Played s out number out' →
    (number ≡ 0) × PlayedRight Played (round_of s) s out'
played-without s out out' number ok room g = (
  (plain_plays s ok s out out' number ok refl room g).0,
  subst (λ (r : Round). PlayedRight Played r s out') (none_round s ok)
      (played_right (no_floors s) s ok (passed (no_floors s) s (none-floored s ok)) Played (plain_plays s ok) out out' number room g),
)

-- the price of a filled place counts the floor
module _ (f s out out' : List ℕ) (number : ℕ) (right : Floored f s) (room : 5 * slot_count s ≤ length out) (g : PlayedFloors f s out number out') (k : ℕ)
    (l : k < slot_count s) (filled : bidder_said out' (suc k) ≡ 0 → ⊥) where
  abbrev r : Round
  r = with_floors (round_of s) f

  who : bidder_said out' (suc k) ≡ at (greedy_page r) (suc k)
  who =
      says-bidder f s right.accepted (passed f s right) (PlayedFloors f) (floors-plays f s right) out out' number room g (suc k) (omega arith) l

  pays : price_said out' (suc k) ≡ price r (suc k)
  pays = says-price f s right.accepted (passed f s right) (PlayedFloors f) (floors-plays f s right) out out' number room g (suc k) (omega arith) l

  pub floor_counted : get_or f k 0 ≤ price_said out' (suc k)
  floor_counted =
      let floor = floors_are f s right k l in
      let paid = pays in
      let reaches = paid_reaches f s right.accepted (passed f s right) (PlayedFloors f) (floors-plays f s right) (bidder_said out' (suc k)) k l (sym who) (omega arith) in
      omega arith

  pub alone : ((b : ℕ) → 0 < b → b ≤ bidder_count s → (b ≡ bidder_said out' (suc k) → ⊥) → eligible r (page_up_to r k) (suc k) b ≡ false) →
      (x : ℕ) → x % tick_field s ≡ 0 → get_or f k 0 ≤ x → price_said out' (suc k) ≤ x
  alone nobody x multiple reaches =
      let floor = floors_are f s right k l in
      let paid = pays in
      let bidders = floors-bidders (round_of s) f ∙ round_bidders s in
      let least = paid_alone f s right.accepted (passed f s right) (PlayedFloors f) (floors-plays f s right) (bidder_said out' (suc k)) k l (sym who) (omega arith)
      (λ b some most. nobody b some (omega arith)) x (ap (λ (t : ℕ). x % t) (floors_tick (round_of s) f ∙ round_tick s) ∙ multiple) (omega arith) in
      omega arith

-- the best page
pub best-with : (f s out out' : List ℕ) (before number after : ℕ) → Floored f s → bidder_count s ≤ 8 → slot_count s ≤ 8 → slot_count s ≤ length out →
    BestFloorsPageGiven f s out before number out' after → (number ≡ 0) × BestRight (with_floors (round_of s) f) out out' after
unfolding best_buffer
best-with f s out out' before number after right few_bidders few_slots room g =
    let none : best_floors_refusal f s out ≡ 0 = best_then f s right out ∙ searching.best_unrefused s out right.accepted few_bidders few_slots room in
    let r = with_floors (round_of s) f in
    let proper = floors.passed_round s f right.accepted (passed f s right) in (
      g.number ∙ none,
      record {
        page = best_page_of r;
        best = best_page_lem r proper.most_slots proper;
        said = g.buffer ∙ sym (answered-gives (best_floors_refusal f s out) (best_buffer r out) out none);
        own_total = g.written ∙ sym (answered-gives (best_floors_refusal f s out) (total r (best_page_of r)) before none);
      },
    )

pub best_plain : (s out out' : List ℕ) (before number after : ℕ) → Accepted s → bidder_count s ≤ 8 → slot_count s ≤ 8 → slot_count s ≤ length out →
    BestPageGiven s out before number out' after → (number ≡ 0) × BestRight (round_of s) out out' after
best_plain s out out' before number after ok few_bidders few_slots room g =
    let given = best-with (no_floors s) s out out' before number after (none-floored s ok) few_bidders few_slots room ((best_without s out out' before number after).0 g) in
    (given.0, subst (λ (r : Round). BestRight r out out' after) (none_round s ok) given.1)

pub allowed_without : (s : List ℕ) (p : Page) → Exactly (Allowed (round_of s) p) (PageOf (round_of s) p × (breaks (round_of s) p ≡ false))
allowed_without s p = (
  λ a. (a.page, a.unbroken),
  λ h. record { page = h.0; unbroken = h.1; reached = λ k some. let e = no_floor s k in omega arith },
)
