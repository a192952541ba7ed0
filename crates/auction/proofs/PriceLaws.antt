-- The price of documents 01 and 02, the smallest legal bid that still wins when the round is replayed, is the critical bid.
-- A lower bid changes no slot before the winner's: whoever won there still ranks no lower. At its own slot the same rivals are eligible, and
-- so is the winner where its bid reaches the floor, so it wins with exactly the legal bids from the critical one up. Assumes nothing.
use Prim.Native.Nat.{ℕ, zero, suc, ◌%◌, ◌<◌, ◌≤◌}
use borrow.Author.Tests.{eq-eqb, ne_eqb, eqb-true}
use mathlib.Core.Bool.{Bool, true, false, not, ◌&&◌, ◌||◌, and-false}
use mathlib.Core.Logic.{⊎_elim}
use mathlib.Core.Path.{◌≡◌, refl, sym, ◌∙◌, ap, ap₂, subst}
use native.Mathlib.Nat.{not-suc-le-zero, zero-mod}
use native.Mathlib.Omega.{arith}
use lib.ListN.{length}
use lib.Seq.{get_or-set_same, get_or-set_other}
use Rattle.basis.specs.Tests.{least}
use Rattle.basis.proofs.TestLaws.{holds_or_fails, not_both, same_tests, and_holds, least_is, least-at-most}
use Rattle.sheet.specs.declared.Constraint.{Constraint}
use Rattle.sheet.specs.declared.Page.{Page}
use Rattle.sheet.specs.declared.Round.{Round}
use Rattle.choice.specs.Winner.{ranks_no_lower, winner}
use Rattle.choice.specs.Critical.{InTicks, critical_bid}
use Rattle.auction.specs.Page.{at, put, placed}
use Rattle.sheet.specs.Proper.{ProperRound}
use Rattle.sheet.specs.Refusal.{legal_bid}
use Rattle.sheet.proofs.AcceptedLaws.{legal_parts, parts_legal}
use Rattle.sheet.specs.Round.{constraint_at, bid_of, floor_of, Has}
use Rattle.auction.specs.Broken.{breaks_own}
use Rattle.auction.specs.Eligible.{breaks_earlier, eligible}
use Rattle.auction.specs.Greedy.{winner_at, page_up_to, greedy_page}
use Rattle.auction.specs.Price.{with_bid, wins_with, price_for, price}
use Rattle.auction.specs.Except.{Except, SameSets}
use Rattle.choice.proofs.WinnerLaws.{Wins, winner-wins, winner-same, ranks_cases}
use Rattle.choice.proofs.CriticalLaws.{
  ExceptBid,
  enough-wins,
  less_loses,
  critical_at_most_bid,
  critical_multiple,
  critical_floor,
  critical_alone,
  critical_same,
  floor_asks-reaches,
  floor_asks-least,
}
use Rattle.basis.proofs.NumberLaws.{same_or_not, below_or_not}
use Rattle.auction.proofs.BrokenLaws.{eligible-reaches, eligible-sentence, eligible_unplaced}
use Rattle.auction.proofs.GreedyLaws.{up_to-next, up_to-sized, up_to-later, slot-winner, winner-eligible, winner-bidder, empty-nobody}
use Rattle.auction.proofs.ExceptLaws.{winner_except, unplaced_before, eligible_except, up_to-sets, sets_except, page-sets}

-- The replay's round: the same but for one bid.
module _ (r : Round) (w x : ℕ) where
  pub with-bidders : (with_bid r w x).bidders ≡ r.bidders
  unfolding with_bid
  with-bidders = by_number w
    where
      by_number : (b : ℕ) → (with_bid r b x).bidders ≡ r.bidders
      by_number zero = refl
      by_number (suc i) = refl

  pub with-slots : (with_bid r w x).slots ≡ r.slots
  unfolding with_bid
  with-slots = by_number w
    where
      by_number : (b : ℕ) → (with_bid r b x).slots ≡ r.slots
      by_number zero = refl
      by_number (suc i) = refl

  pub with_tick : (with_bid r w x).tick ≡ r.tick
  unfolding with_bid
  with_tick = by_number w
    where
      by_number : (b : ℕ) → (with_bid r b x).tick ≡ r.tick
      by_number zero = refl
      by_number (suc i) = refl

pub with-other : (r : Round) (w x b : ℕ) → (b ≡ w → ⊥) → bid_of (with_bid r w x) b ≡ bid_of r b
unfolding with_bid bid_of
with-other r zero x b d = refl
with-other r (suc i) x zero d = refl
with-other r (suc i) x (suc j) d = get_or-set_other r.bids i j x 0 (λ e. d (ap suc e))

pub with-own : (r : Round) (w x : ℕ) → 0 < w → w ≤ length r.bids → bid_of (with_bid r w x) w ≡ x
unfolding with_bid bid_of
with-own r zero x s m = absurd (not-suc-le-zero s)
with-own r (suc i) x s m = get_or-set_same r.bids i x 0 m

pub with_floor : (r : Round) (w x k : ℕ) → floor_of (with_bid r w x) k ≡ floor_of r k
unfolding with_bid floor_of
with_floor r zero x k = refl
with_floor r (suc i) x zero = refl
with_floor r (suc i) x (suc k) = refl

with-own-broken : (r : Round) (w x : ℕ) (p : Page) (b : ℕ) → breaks_own (with_bid r w x) p b ≡ breaks_own r p b
unfolding with_bid breaks_own constraint_at
with-own-broken r zero x p b = refl
with-own-broken r (suc i) x p b = refl

with_earlier_broken : (r : Round) (w x : ℕ) (p p' : Page) → breaks_earlier (with_bid r w x) p p' ≡ breaks_earlier r p p'
unfolding with_bid breaks_earlier constraint_at
with_earlier_broken r zero x p p' = refl
with_earlier_broken r (suc i) x p p' = refl

-- who reaches the floor in both rounds is eligible in both or in none
with-reached : (r : Round) (w x : ℕ) (p : Page) (k b : ℕ) → floor_of r k ≤ bid_of r b → floor_of r k ≤ bid_of (with_bid r w x) b →
    eligible (with_bid r w x) p k b ≡ eligible r p k b
with-reached r w x p k b reaches reaches' =
    eligible-sentence (with_bid r w x) p k b (let e = with_floor r w x k in omega arith)
    ∙ ap₂ (λ (own earlier : Bool). not (placed p b) && not (own || earlier)) (with-own-broken r w x (put p k b) b) (with_earlier_broken r w x p (put p k b))
    ∙ sym (eligible-sentence r p k b reaches)

-- so is whoever has the same bid in both
with-eligible : (r : Round) (w x : ℕ) (p : Page) (k b : ℕ) → (b ≡ w → ⊥) → eligible (with_bid r w x) p k b ≡ eligible r p k b
with-eligible r w x p k b d =
    let same = with-other r w x b d in
    same_tests (eligible (with_bid r w x) p k b) (eligible r p k b)
    (λ e.
    let reaches = eligible-reaches (with_bid r w x) p k b e in
    let floor = with_floor r w x k in
    sym (with-reached r w x p k b (omega arith) (omega arith)) ∙ e)
    (λ e. let reaches = eligible-reaches r p k b e in with-reached r w x p k b reaches (omega arith) ∙ e)

with-has : (r : Round) (w x : ℕ) (q : Constraint) → Has r q → Has (with_bid r w x) q
unfolding with_bid constraint_at
with-has r zero x q h = h
with-has r (suc i) x q h = h

has-with : (r : Round) (w x : ℕ) (q : Constraint) → Has (with_bid r w x) q → Has r q
unfolding with_bid constraint_at
has-with r zero x q h = h
has-with r (suc i) x q h = h

pub with_except : (r : Round) (w x : ℕ) → Except w r (with_bid r w x)
with_except r w x =
    record {
      bidders = sym (with-bidders r w x);
      slots = sym (with-slots r w x);
      ticks = sym (with_tick r w x);
      floors = λ k. sym (with_floor r w x k);
      bids = λ b d. sym (with-other r w x b d);
      there = λ q d. with-has r w x q;
      back = λ q d. has-with r w x q;
    }

-- somebody at a slot pays the least legal bid that still wins it
price-least : (r : Round) (k w : ℕ) → 0 < w → price_for r k w ≡ least (λ x. legal_bid r.tick x && wins_with r k w x) (bid_of r w)
unfolding price_for
price-least r k zero s = absurd (not-suc-le-zero s)
price-least r k (suc i) s = refl

-- With a bid x that is not above its own, the later winner w wins no slot before: whoever won there ranks no lower.
module _ (r : Round) (w x : ℕ) (lower : x ≤ bid_of r w) (some : 0 < w) (has_bid : w ≤ length r.bids) where
  -- if it wins, its bid reaches the floor,
  replay_reaches : (p : Page) (k : ℕ) → winner_at (with_bid r w x) p k ≡ w → floor_of r k ≤ x
  replay_reaches p k won =
      let top = winner-eligible (with_bid r w x) p k (λ z. absurd (let c : w ≡ 0 = sym won ∙ z in omega arith)) in
      let reaches = eligible-reaches (with_bid r w x) p k w (subst (λ (b : ℕ). eligible (with_bid r w x) p k b ≡ true) won top.is_eligible) in
      let floor = with_floor r w x k in
      let own = with-own r w x some has_bid in
      omega arith

  -- and where it does, the same bidders are eligible
  replay_winner : (p : Page) (k : ℕ) → floor_of r k ≤ x → winner_at (with_bid r w x) p k ≡ winner (eligible r p k) (bid_of (with_bid r w x)) r.bidders
  unfolding winner_at
  replay_winner p k reaches =
      let bid' = bid_of (with_bid r w x) in
      winner-same (eligible (with_bid r w x) p k) (eligible r p k) bid' bid' (with_bid r w x).bidders
      (λ j a z.
      ⊎_elim
      (λ (q : j ≡ w).
      let own = with-own r w x some has_bid in
      subst (λ (b : ℕ). eligible (with_bid r w x) p k b ≡ eligible r p k b) (sym q) (with-reached r w x p k w (omega arith) (omega arith)))
      (λ (d : j ≡ w → ⊥). with-eligible r w x p k j d)
      (same_or_not j w))
      (λ j a z. refl)
      ∙ ap (winner (eligible r p k) bid') (with-bidders r w x)

  no_earlier : (p : Page) (k : ℕ) → 0 < k → (winner_at r p k ≡ w → ⊥) → winner_at (with_bid r w x) p k ≡ w → ⊥
  unfolding winner_at
  no_earlier p k l lost won =
      let n = r.bidders in
      let e = eligible r p k in
      let bid' = bid_of (with_bid r w x) in
      let won-there : winner_at (with_bid r w x) p k ≡ w = won in
      let won' : winner e bid' n ≡ w = sym (replay_winner p k (replay_reaches p k won-there)) ∙ won-there in
      let top = winner-wins e bid' n (λ z. absurd (let c : w ≡ 0 = sym won' ∙ z in omega arith)) in
      let w-eligible : e w ≡ true = subst (λ (b : ℕ). e b ≡ true) won' top.is_eligible in
      let most : w ≤ n = subst (λ (b : ℕ). b ≤ n) won' top.most in
      ⊎_elim
      (λ (z : winner e (bid_of r) n ≡ 0). not_both w-eligible (empty-nobody r p k (unfold winner_at in z) w some most))
      (λ (z : winner e (bid_of r) n ≡ 0 → ⊥).
      let v = winner e (bid_of r) n in
      let old = winner-wins e (bid_of r) n z in
      let first : ranks_no_lower (bid_of r) v w ≡ true = old.first w some most w-eligible in
      let again : ranks_no_lower bid' w v ≡ true
      = subst (λ (b : ℕ). ranks_no_lower bid' b v ≡ true) won' (top.first v old.some old.most old.is_eligible) in
      let own : bid' w ≡ x = with-own r w x some has_bid in
      let his : bid' v ≡ bid_of r v = with-other r w x v lost in
      ⊎_elim
      (λ (a : bid_of r w < bid_of r v).
      ⊎_elim
      (λ (c : bid' v < bid' w). absurd (omega arith))
      (λ (c : (bid' v ≡ bid' w) × (w ≤ v)). absurd (omega arith))
      (ranks_cases bid' w v again))
      (λ (a : (bid_of r w ≡ bid_of r v) × (v ≤ w)).
      ⊎_elim
      (λ (c : bid' v < bid' w). absurd (omega arith))
      (λ (c : (bid' v ≡ bid' w) × (w ≤ v)). lost (let q : v ≡ w = omega arith in q))
      (ranks_cases bid' w v again))
      (ranks_cases (bid_of r) v w first))
      (same_or_not (winner e (bid_of r) n) 0)

  -- so the replay fills the slots before w's alike
  replay_agrees : (k : ℕ) → k ≤ 16 → placed (page_up_to r k) w ≡ false → page_up_to r k ≡ page_up_to (with_bid r w x) k
  unfolding page_up_to
  replay_agrees zero m u = refl
  replay_agrees (suc k) m u =
      let r' = with_bid r w x in
      let past = unplaced_before r w k (λ e. absurd (omega arith)) m u in
      let same = replay_agrees k (omega arith) past.0 in
      let won = winner_except w r r' (with_except r w x) (page_up_to r k) (suc k) (up_to-sized r k) (omega arith) m past.0 past.1
      (no_earlier (page_up_to r k) (suc k) (omega arith) past.1) in
      up_to-next r k
      ∙ ap₂ (λ (p : Page) (v : ℕ). put p (suc k) v) same (won ∙ ap (λ (p : Page). winner_at r' p (suc k)) same)
      ∙ sym (up_to-next r' k)

  -- and w's own slot goes to the winner there, with the new bid
  replay_slot : r.slots ≤ 16 → (k : ℕ) → k < r.slots → placed (page_up_to r k) w ≡ false →
      at (greedy_page (with_bid r w x)) (suc k) ≡ winner_at (with_bid r w x) (page_up_to r k) (suc k)
  replay_slot m k l u =
      let r' = with_bid r w x in
      let slots = with-slots r w x in
      slot-winner r' (omega arith) k (omega arith)
      ∙ ap (λ (q : Page). winner_at r' q (suc k)) (sym (replay_agrees k (omega arith) u))

-- the bids of a proper round are in ticks
pub round_in_ticks : (r : Round) → ProperRound r → InTicks r.tick (bid_of r)
round_in_ticks r proper =
    record { some_tick = proper.some_tick; most_tick = proper.most_tick; most_bid = proper.most_bid; multiple = proper.in_ticks }

-- The winner w of slot k + 1, and its critical bid there.
module _ (r : Round) (k w : ℕ) (proper : ProperRound r) (inside : k < r.slots) (has_bid : w ≤ length r.bids) (some : 0 < w)
    (won : winner_at r (page_up_to r k) (suc k) ≡ w) where
  few : r.slots ≤ 16
  few = proper.most_slots

  in_ticks : InTicks r.tick (bid_of r)
  in_ticks = round_in_ticks r proper

  abbrev here-eligible : ℕ → Bool
  here-eligible = eligible r (page_up_to r k) (suc k)

  abbrev floor : ℕ
  floor = floor_of r (suc k)

  abbrev critical : ℕ
  critical = critical_bid r.tick floor here-eligible (bid_of r) w r.bidders

  top : Wins here-eligible (bid_of r) r.bidders w
  top =
      subst (Wins here-eligible (bid_of r) r.bidders) won
      (winner-eligible r (page_up_to r k) (suc k) (λ z. absurd (let c : w ≡ 0 = sym won ∙ z in omega arith)))

  unplaced : placed (page_up_to r k) w ≡ false
  unplaced = eligible_unplaced r (page_up_to r k) (suc k) w top.is_eligible

  reached : floor ≤ bid_of r w
  reached = eligible-reaches r (page_up_to r k) (suc k) w top.is_eligible

  critical_low : critical ≤ bid_of r w
  unfolding winner_at
  critical_low = critical_at_most_bid r.tick floor here-eligible (bid_of r) in_ticks r.bidders w reached some won

  floor_within : floor ≤ critical
  floor_within =
      let asks = floor_asks-reaches r.tick floor proper.some_tick in
      let h = critical_floor r.tick floor here-eligible (bid_of r) w r.bidders in
      omega arith

  critical_legal : legal_bid r.tick critical ≡ true
  critical_legal =
      parts_legal r.tick critical
      (let h = critical_low in let m = proper.most_bid w in omega arith)
      (critical_multiple r.tick floor here-eligible (bid_of r) w r.bidders proper.in_ticks)

  others_bid : (x : ℕ) → ExceptBid (bid_of r) (bid_of (with_bid r w x)) w
  others_bid x = record { others = with-other r w x }

  wins_from_critical : (x : ℕ) → x ≤ bid_of r w → critical ≤ x → wins_with r (suc k) w x ≡ true
  unfolding wins_with
  wins_from_critical x low enough =
      let own = with-own r w x some has_bid in
      eq-eqb (at (greedy_page (with_bid r w x)) (suc k)) w
      (replay_slot r w x low some has_bid few k inside unplaced
      ∙ replay_winner r w x low some has_bid (page_up_to r k) (suc k) (let h = floor_within in omega arith)
      ∙ enough-wins r.tick floor here-eligible (bid_of r) in_ticks r.bidders w (bid_of (with_bid r w x)) (others_bid x) some top.most top.is_eligible (omega arith))

  loses-below_critical : (x : ℕ) → x < critical → legal_bid r.tick x ≡ true → wins_with r (suc k) w x ≡ false
  unfolding wins_with
  loses-below_critical x less legal =
      let own = with-own r w x some has_bid in
      let low : x ≤ bid_of r w = (let h = critical_low in omega arith) in
      ne_eqb (at (greedy_page (with_bid r w x)) (suc k)) w
      (λ e.
      let won-again : winner_at (with_bid r w x) (page_up_to r k) (suc k) ≡ w = sym (replay_slot r w x low some has_bid few k inside unplaced) ∙ e in
      let reaches = replay_reaches r w x low some has_bid (page_up_to r k) (suc k) won-again in
      less_loses r.tick floor here-eligible (bid_of r) in_ticks r.bidders w (bid_of (with_bid r w x)) (others_bid x)
      (ap (λ (y : ℕ). y % r.tick) own ∙ (legal_parts r.tick x legal).1) (omega arith) some (omega arith)
      (sym (replay_winner r w x low some has_bid (page_up_to r k) (suc k) reaches) ∙ won-again))

  -- what the least is taken of: below the critical bid nothing passes, and it does
  none_below : (x : ℕ) → x < critical → (legal_bid r.tick x && wins_with r (suc k) w x) ≡ false
  none_below x less =
      ⊎_elim
      (λ (t : legal_bid r.tick x ≡ true).
      ap (λ (u : Bool). legal_bid r.tick x && u) (loses-below_critical x less t) ∙ and-false (legal_bid r.tick x))
      (λ (t : legal_bid r.tick x ≡ false). ap (λ (u : Bool). u && wins_with r (suc k) w x) t)
      (holds_or_fails (legal_bid r.tick x))

  -- The price is the critical bid.
  pub price_critical : price r (suc k) ≡ critical
  unfolding price
  price_critical =
      ap (price_for r (suc k)) (slot-winner r few k inside ∙ won)
      ∙ price-least r (suc k) w some
      ∙ least_is (λ x. legal_bid r.tick x && wins_with r (suc k) w x) (bid_of r w) critical critical_low none_below
      (λ l. and_holds critical_legal (wins_from_critical critical critical_low (omega arith)))

  -- It is at or above the floor,
  pub price-reaches : floor_of r (suc k) ≤ price r (suc k)
  price-reaches = let e = price_critical in let h = floor_within in omega arith

  -- and where nobody else is eligible it is at most every multiple of the tick that is.
  pub price-alone : ((b : ℕ) → 0 < b → b ≤ r.bidders → (b ≡ w → ⊥) → eligible r (page_up_to r k) (suc k) b ≡ false) →
      (x : ℕ) → x % r.tick ≡ 0 → floor_of r (suc k) ≤ x → price r (suc k) ≤ x
  price-alone nobody x multiple reaches =
      let e = price_critical in
      let alone = critical_alone r.tick floor here-eligible (bid_of r) w r.bidders nobody in
      let least = floor_asks-least r.tick floor x proper.some_tick multiple reaches in
      omega arith

  -- It is at most the winner's bid,
  pub price-at_most_bid : price r (suc k) ≤ bid_of r w
  price-at_most_bid = let e = price_critical in let h = critical_low in omega arith

  -- it is legal,
  pub price_legal : legal_bid r.tick (price r (suc k)) ≡ true
  price_legal = ap (legal_bid r.tick) price_critical ∙ critical_legal

  -- it wins the slot,
  pub price-wins : at (greedy_page (with_bid r w (price r (suc k)))) (suc k) ≡ w
  unfolding wins_with
  price-wins =
      eqb-true (at (greedy_page (with_bid r w (price r (suc k)))) (suc k)) w
      (wins_from_critical (price r (suc k)) price-at_most_bid (let e = price_critical in omega arith))

  -- and no smaller legal bid does.
  pub smaller_loses : (x : ℕ) → x < price r (suc k) → legal_bid r.tick x ≡ true → at (greedy_page (with_bid r w x)) (suc k) ≡ w → ⊥
  unfolding wins_with
  smaller_loses x less legal e =
      not_both (eq-eqb (at (greedy_page (with_bid r w x)) (suc k)) w e) (loses-below_critical x (let h = price_critical in omega arith) legal)

-- "An empty place has price 0."
pub empty_costs_nothing : (r : Round) (k : ℕ) → at (greedy_page r) k ≡ 0 → price r k ≡ 0
unfolding price price_for
empty_costs_nothing r k e = ap (price_for r k) e

-- Rounds that differ only in the winner's list and bid, and agree before its slot, charge it the same there.
pub price_except : (r r' : Round) (k w : ℕ) → Except w r r' → ProperRound r → ProperRound r' → k < r.slots → 0 < w →
    w ≤ length r.bids → w ≤ length r'.bids → page_up_to r k ≡ page_up_to r' k →
    winner_at r (page_up_to r k) (suc k) ≡ w → winner_at r' (page_up_to r' k) (suc k) ≡ w → price r (suc k) ≡ price r' (suc k)
price_except r r' k w x proper proper' inside some has_bid has-bid' same won won' =
    let slots = x.slots in
    let few = proper.most_slots in
    let p = page_up_to r k in
    price_critical r k w proper inside has_bid some won
    ∙ critical_same r.tick (floor_of r (suc k)) (eligible r p (suc k)) (eligible r' p (suc k)) (bid_of r) (bid_of r') r.bidders w
    (λ j d a z.
    eligible_except w r r' x p (suc k) j (up_to-sized r k) (omega arith) (omega arith) (unplaced r k w proper inside has_bid some won) d)
    (λ j d a z. x.bids j d)
    ∙ ap₂ (λ (t f : ℕ). critical_bid t f (eligible r' p (suc k)) (bid_of r') w r.bidders) x.ticks (x.floors (suc k))
    ∙ ap₂ (λ (q : Page) (n : ℕ). critical_bid r'.tick (floor_of r' (suc k)) (eligible r' q (suc k)) (bid_of r') w n) same x.bidders
    ∙ sym (price_critical r' k w proper' (omega arith) has-bid' some won')

-- Prices depend on each owner's set of constraints only.
pub price-sets : (r r' : Round) → SameSets r r' → ProperRound r → ProperRound r' → (k : ℕ) → price r (suc k) ≡ price r' (suc k)
unfolding greedy_page
price-sets r r' x proper proper' k =
    let slots = x.slots in
    let few = proper.most_slots in
    let many = proper.most_bidders in
    let sized = proper.sized_bids in
    let sized' = proper'.sized_bids in
    let page = page-sets r r' x few in
    ⊎_elim
    (λ (z : at (greedy_page r) (suc k) ≡ 0).
    empty_costs_nothing r (suc k) z ∙ sym (empty_costs_nothing r' (suc k) (ap (λ (p : Page). at p (suc k)) (sym page) ∙ z)))
    (λ (z : at (greedy_page r) (suc k) ≡ 0 → ⊥).
    let inside : k < r.slots
    = ⊎_elim
    (λ (l : k < r.slots). l)
    (λ (l : r.slots ≤ k). absurd (z (up_to-later r r.slots (suc k) (omega arith))))
    (below_or_not k r.slots) in
    let same = up_to-sets r r' x k (omega arith) in
    let here = slot-winner r few k inside in
    let here' = slot-winner r' (omega arith) k (omega arith) in
    let w = winner_at r (page_up_to r k) (suc k) in
    let most = winner-bidder r (page_up_to r k) (suc k) in
    let some : w ≡ 0 → ⊥ = (λ e. z (here ∙ e)) in
    price_except r r' k w (sets_except w r r' x) proper proper' inside (omega arith) (omega arith) (omega arith) same refl
    (sym here' ∙ ap (λ (p : Page). at p (suc k)) (sym page) ∙ here))
    (same_or_not (at (greedy_page r) (suc k)) 0)

-- a price is at most the largest bid, so four bytes hold it
paid_low : (r : Round) (k w : ℕ) → ProperRound r → price_for r k w ≤ 1_000_000_000
unfolding price_for
paid_low r k zero proper = omega arith
paid_low r k (suc i) proper =
    let low = proper.most_bid (suc i) in
    let most = least-at-most (λ x. legal_bid r.tick x && wins_with r k (suc i) x) (bid_of r (suc i)) in
    omega arith

pub price-low : (r : Round) (k : ℕ) → ProperRound r → price r k ≤ 1_000_000_000
unfolding price
price-low r k proper = paid_low r k (at (greedy_page r) k) proper

-- a price is a multiple of the tick
pub price-multiple : (r : Round) (k : ℕ) → ProperRound r → k < r.slots → price r (suc k) % r.tick ≡ 0
price-multiple r k proper inside =
    let here = slot-winner r proper.most_slots k inside in
    ⊎_elim
    (λ (z : winner_at r (page_up_to r k) (suc k) ≡ 0).
    ap (λ (x : ℕ). x % r.tick) (empty_costs_nothing r (suc k) (here ∙ z)) ∙ zero-mod r.tick)
    (λ (z : winner_at r (page_up_to r k) (suc k) ≡ 0 → ⊥).
    let most = winner-bidder r (page_up_to r k) (suc k) in
    let many = proper.most_bidders in
    let sized = proper.sized_bids in
    (legal_parts r.tick (price r (suc k))
    (price_legal r k (winner_at r (page_up_to r k) (suc k)) proper inside (omega arith) (omega arith) refl)).1)
    (same_or_not (winner_at r (page_up_to r k) (suc k)) 0)
