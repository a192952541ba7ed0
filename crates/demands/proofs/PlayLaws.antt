-- Demand 2, first half, with floors or without: what a result says is the round's greedy page with its prices, and a price written into the sheet's
-- bytes is the replay's round. Assumes nothing.
use Prim.Native.Nat.{ℕ, zero, suc, ◌*◌, ◌%◌, ◌<◌, ◌≤◌}
use mathlib.Core.List.{List}
use mathlib.Core.Logic.{⊎_elim}
use mathlib.Core.Bool.{true, false}
use mathlib.Core.Path.{◌≡◌, refl, sym, ◌∙◌, ap, ap₂, subst}
use native.Mathlib.Nat.{not-suc-le-zero}
use native.Mathlib.Omega.{arith}
use lib.ListN.{length}
use Rattle.basis.proofs.NumberLaws.{same_or_not}
use Rattle.sheet.specs.declared.Round.{Round}
use Rattle.sheet.specs.Sheet.{bidder_count, slot_count, tick_field, bid_field}
use Rattle.sheet.specs.Refusal.{legal_bid, Accepted}
use Rattle.sheet.specs.Proper.{ProperRound}
use Rattle.sheet.specs.Round.{round_of, with_floors, floor_of}
use Rattle.sheet.proofs.RoundLaws.{round_bid, round_bidders, round_slots, round_tick}
use Rattle.sheet.proofs.FloorLaws.{floors-slots, floors-bidders, floors_tick, floors_bid}
use Rattle.floors.specs.Floors.{floors_refusal}
use Rattle.floors.proofs.FloorLaws.{passed_round}
use Rattle.auction.specs.Page.{at}
use Rattle.auction.specs.Eligible.{eligible}
use Rattle.auction.specs.Greedy.{winner_at, page_up_to, greedy_page}
use Rattle.auction.specs.Price.{price, with_bid}
use Rattle.auction.specs.Write.{write_bid}
use Rattle.auction.proofs.FilledLaws.{greedy-allowed, greedy_filled}
use Rattle.auction.proofs.GreedyLaws.{slot-winner, up_to-bidders}
use Rattle.auction.proofs.PriceLaws.{with-slots, price-at_most_bid, price-reaches, price-alone, price_legal, price-wins, smaller_loses, empty_costs_nothing, price-low, price-multiple}
use Rattle.auction.proofs.WriteLaws.{write_accepted, accepted_legal, write_round}
use Rattle.play.specs.Play.{played_buffer, bidder_said, price_said}
use Rattle.play.proofs.SaidLaws.{bidder_said_lem, price_said_lem}
use Rattle.demands.specs.Demands.{PricedRight, PlayedRight}

-- floors and a bid for one bidder are written into a round in either order
floors-with : (r : Round) (f : List ℕ) (w x : ℕ) → with_floors (with_bid r w x) f ≡ with_bid (with_floors r f) w x
unfolding with_floors with_bid
floors-with r f zero x = refl
floors-with r f (suc i) x = refl

-- An accepted sheet is played with floors by a call that, of every such sheet with as many slots, gives the round's page and prices where there is
-- room. (The call without floors is one, with floors of 0.)
module _ (f s : List ℕ) (ok : Accepted s) (floored : floors_refusal (slot_count s) f ≡ 0) (Plays : (s out : List ℕ) (number : ℕ) (out' : List ℕ) → Type 0)
    (plays : (t out out' : List ℕ) (number : ℕ) → Accepted t → slot_count t ≡ slot_count s → 5 * slot_count s ≤ length out → Plays t out number out' →
    (number ≡ 0) × (out' ≡ played_buffer (with_floors (round_of t) f) out)) where
  abbrev r : Round
  r = with_floors (round_of s) f

  slots_are : r.slots ≡ slot_count s
  slots_are = floors-slots (round_of s) f ∙ round_slots s

  tick_is : r.tick ≡ tick_field s
  tick_is = floors_tick (round_of s) f ∙ round_tick s

  proper : ProperRound r
  proper = passed_round s f ok floored

  -- what it says of a slot
  module _ (out out' : List ℕ) (number : ℕ) (room : 5 * slot_count s ≤ length out) (played : Plays s out number out') where
    pub says-bidder : (k : ℕ) → 0 < k → k ≤ slot_count s → bidder_said out' k ≡ at (greedy_page r) k
    says-bidder k some l =
        ap (λ (o : List ℕ). bidder_said o k) (plays s out out' number ok refl room played).1
        ∙ bidder_said_lem r out k some (let m = slots_are in omega arith)

    pub says-price : (k : ℕ) → 0 < k → k ≤ slot_count s → price_said out' k ≡ price r k
    says-price k some l =
        ap (λ (o : List ℕ). price_said o k) (plays s out out' number ok refl room played).1
        ∙ price_said_lem r out proper k some (let m = slots_are in omega arith)

  -- the winner of slot k, and its price
  module _ (w k : ℕ) (inside : suc k ≤ slot_count s) (stands : at (greedy_page r) (suc k) ≡ w) (some : 0 < w) where
    within : suc k ≤ r.slots
    within = let m = slots_are in omega arith

    won : winner_at r (page_up_to r k) (suc k) ≡ w
    won = sym (slot-winner r proper.most_slots k within) ∙ stands

    bidder_of : w ≤ bidder_count s
    unfolding greedy_page
    bidder_of =
        let most = up_to-bidders r r.slots (suc k) in
        let here : at (page_up_to r r.slots) (suc k) ≡ w = stands in
        let n = floors-bidders (round_of s) f ∙ round_bidders s in
        omega arith

    has_bid : w ≤ length r.bids
    has_bid =
        let sized = proper.sized_bids in
        let many = proper.most_bidders in
        let l = bidder_of in
        let n = floors-bidders (round_of s) f ∙ round_bidders s in
        omega arith

    pub paid_at-most : price r (suc k) ≤ bid_field s w
    paid_at-most =
        let e = floors_bid (round_of s) f w ∙ round_bid s ok w bidder_of in
        let p = price-at_most_bid r k w proper within has_bid some won in
        omega arith

    -- the price is legal, and so is every number that the sheet would accept
    pub paid_legal : legal_bid (tick_field s) (price r (suc k)) ≡ true
    paid_legal = ap (λ (t : ℕ). legal_bid t (price r (suc k))) (sym tick_is) ∙ price_legal r k w proper within has_bid some won

    -- it counts the floor
    pub paid_reaches : floor_of r (suc k) ≤ price r (suc k)
    paid_reaches = price-reaches r k w proper within has_bid some won

    pub paid_alone : ((b : ℕ) → 0 < b → b ≤ r.bidders → (b ≡ w → ⊥) → eligible r (page_up_to r k) (suc k) b ≡ false) →
        (x : ℕ) → x % r.tick ≡ 0 → floor_of r (suc k) ≤ x → price r (suc k) ≤ x
    paid_alone = price-alone r k w proper within has_bid some won

    -- the sheet with a legal number written for the winner
    module _ (x : ℕ) (fits : x < 4_294_967_296) (written : Accepted (write_bid s w x)) (out out' : List ℕ) (number : ℕ)
        (room : 5 * slot_count s ≤ length out) (played : Plays (write_bid s w x) out number out') where
      same : with_floors (round_of (write_bid s w x)) f ≡ with_bid r w x
      same = ap (λ (q : Round). with_floors q f) (write_round s ok w x some bidder_of fits) ∙ floors-with (round_of s) f w x

      same-slots : slot_count (write_bid s w x) ≡ slot_count s
      same-slots =
          sym (floors-slots (round_of (write_bid s w x)) f ∙ round_slots (write_bid s w x)) ∙ ap (λ (q : Round). q.slots) same ∙ with-slots r w x ∙ slots_are

      given : (number ≡ 0) × (out' ≡ played_buffer (with_floors (round_of (write_bid s w x)) f) out)
      given = plays (write_bid s w x) out out' number written same-slots room played

      pub replay_number : number ≡ 0
      replay_number = given.0

      pub replay_says : bidder_said out' (suc k) ≡ at (greedy_page (with_bid r w x)) (suc k)
      replay_says =
          ap (λ (o : List ℕ). bidder_said o (suc k)) (given.1 ∙ ap (λ (q : Round). played_buffer q out) same)
          ∙ bidder_said_lem (with_bid r w x) out (suc k) (omega arith) (let e = with-slots r w x in let m = slots_are in omega arith)

    -- what it must bid, and what is not enough, in the replay
    pub price_replayed : at (greedy_page (with_bid r w (price r (suc k)))) (suc k) ≡ w
    price_replayed = price-wins r k w proper within has_bid some won

    pub price-written : price r (suc k) < 4_294_967_296 → Accepted (write_bid s w (price r (suc k)))
    price-written fits = write_accepted s ok w (price r (suc k)) some bidder_of fits paid_legal

    pub smaller_replayed : (x : ℕ) → x < 4_294_967_296 → Accepted (write_bid s w x) → x < price r (suc k) →
        at (greedy_page (with_bid r w x)) (suc k) ≡ w → ⊥
    smaller_replayed x fits written less =
        smaller_loses r k w proper within has_bid some won x less
        (ap (λ (t : ℕ). legal_bid t x) tick_is ∙ accepted_legal s ok w x some bidder_of fits written)

  -- What a result says of an accepted sheet.
  module _ (out out' : List ℕ) (number : ℕ) (room : 5 * slot_count s ≤ length out) (played : Plays s out number out') where
    price_of : (k : ℕ) → 0 < k → k ≤ slot_count s → PricedRight Plays s out' k
    price_of zero some l = absurd (not-suc-le-zero some)
    price_of (suc k) some l =
        let w = bidder_said out' (suc k) in
        let p = price_said out' (suc k) in
        let who : bidder_said out' (suc k) ≡ at (greedy_page r) (suc k) = says-bidder out out' number room played (suc k) some l in
        let pays : price_said out' (suc k) ≡ price r (suc k) = says-price out out' number room played (suc k) some l in
        let low = price-low r (suc k) proper in
        let nothing : bidder_said out' (suc k) ≡ 0 → price_said out' (suc k) ≡ 0
        = (λ z. pays ∙ empty_costs_nothing r (suc k) (sym who ∙ z)) in
        record {
          at_most_bid =
              ⊎_elim
              (λ (z : bidder_said out' (suc k) ≡ 0). let e = nothing z in omega arith)
              (λ (h : bidder_said out' (suc k) ≡ 0 → ⊥).
              let most = paid_at-most (bidder_said out' (suc k)) k l (sym who) (omega arith) in
              omega arith)
              (same_or_not (bidder_said out' (suc k)) 0);
          multiple =
              ap₂ (λ (x t : ℕ). x % t) pays (sym tick_is)
              ∙ price-multiple r k proper (let m = slots_are in omega arith);
          wins = λ h other other' number' room' again.
              let written : Accepted (write_bid s w p)
              = subst (λ (x : ℕ). Accepted (write_bid s w x)) (sym pays) (price-written w k l (sym who) (omega arith) (omega arith)) in (
                replay_number w k l (sym who) (omega arith) p (omega arith) written other other' number' room' again,
                replay_says w k l (sym who) (omega arith) p (omega arith) written other other' number' room' again
                    ∙ ap (λ (x : ℕ). at (greedy_page (with_bid r w x)) (suc k)) pays
                    ∙ price_replayed w k l (sym who) (omega arith),
              );
          smaller_loses = λ x less written other other' number' room' again.
              let h : bidder_said out' (suc k) ≡ 0 → ⊥ = (λ z. absurd (let e = nothing z in omega arith)) in (
                replay_number w k l (sym who) (omega arith) x (omega arith) written other other' number' room' again,
                λ e.
                    smaller_replayed w k l (sym who) (omega arith) x (omega arith) written (omega arith)
                    (sym (replay_says w k l (sym who) (omega arith) x (omega arith) written other other' number' room' again) ∙ e),
              );
        }

    pub played_right : PlayedRight Plays r s out'
    played_right =
        let slots = slots_are in
        record {
          page = greedy_page r;
          said = says-bidder out out' number room played;
          allowed = greedy-allowed r proper;
          greedy = λ k some l. greedy_filled r proper k some (omega arith);
          priced = price_of;
        }
