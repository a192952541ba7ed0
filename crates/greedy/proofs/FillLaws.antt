-- The page and its prices, slot after slot: while slots 1 to k are filled, the marks know the page so far, and so tell who is eligible for the
-- next slot; its winner and the winner's critical bid are the slot's entry. Assumes nothing.
use Prim.Native.Nat.{ℕ, suc, ◌%◌, ◌<◌, ◌≤◌}
use mathlib.Core.Bool.{Bool, ◌||◌}
use mathlib.Core.List.{List}
use mathlib.Core.Logic.{⊎_elim}
use mathlib.Core.Path.{◌≡◌, refl, sym, ◌∙◌, ap, ap₂, subst}
use native.Mathlib.Omega.{arith}
use lib.Dec.{eqb}
use lib.ListN.{length, get_or, set, replicate}
use Rattle.basis.specs.Rows.{padded}
use Rattle.basis.proofs.RowLaws.{padded-none, padded-next}
use Rattle.basis.proofs.NumberLaws.{same_or_not}
use Rattle.sheet.specs.declared.Page.{Page}
use Rattle.sheet.specs.declared.Round.{Round}
use Rattle.sheet.specs.Round.{bid_of, floor_of, round_of}
use Rattle.sheet.specs.Proper.{ProperRound}
use Rattle.choice.specs.Critical.{floor_asks, InTicks, Awarded}
use Rattle.choice.specs.EngineBids.{bid_in}
use Rattle.choice.proofs.WinnerLaws.{winner-same}
use Rattle.choice.proofs.CriticalLaws.{critical_same}
use Rattle.auction.specs.Page.{put, empty_page}
use Rattle.auction.specs.Eligible.{eligible}
use Rattle.auction.specs.Greedy.{winner_at, page_up_to}
use Rattle.auction.specs.Price.{price}
use Rattle.auction.proofs.PageLaws.{put-nobody}
use Rattle.auction.proofs.GreedyLaws.{bid_in_lem, up_to-next, up_to-sized, up_to-later, up_to-unbroken, slot-winner, winner-bidder}
use Rattle.auction.proofs.PriceLaws.{price_critical, empty_costs_nothing}
use Rattle.greedy_links.specs.EngineKeys.{key, is_marked}
use Rattle.greedy.specs.EngineEligible.{Known, SoFar, Settled, Lent}
use Rattle.greedy.proofs.EligibleLaws.{known_start, known_next, some_same, lent_bid}

-- slots 1 to k are filled
pub record Filled (r : Round) (k : ℕ) (barred held : List ℕ) (page : Page) (prices : List ℕ) : Type 0 where
  pub some : k ≤ r.slots
  pub known : Known r (page_up_to r k) barred held
  pub page_is : page ≡ page_up_to r k
  pub prices_are : prices ≡ padded (λ i. price r (suc i)) k 16 0

pub filled_start : (r : Round) → ProperRound r → Filled r 0 (replicate 1089 0) (replicate 1089 0) empty_page (replicate 16 0)
unfolding page_up_to
filled_start r c =
    record {
      some = omega arith;
      known = known_start r c;
      page_is = refl;
      prices_are = sym (padded-none (λ i. price r (suc i)) 16 0);
    }

module _ (r : Round) (c : ProperRound r) (k : ℕ) (inside : k < r.slots) (barred held : List ℕ) (page : Page) (prices : List ℕ)
    (f : Filled r k barred held page prices) (w paid : ℕ)
    (awarded : Awarded r.tick (floor_of r (suc k)) (eligible r (page_up_to r k) (suc k)) (bid_in r.bids) r.bidders w paid) where
  abbrev p : Page
  p = page_up_to r k

  few : r.slots ≤ 16
  few = c.most_slots

  won_slot : w ≡ winner_at r p (suc k)
  unfolding winner_at
  won_slot =
      awarded.won_by
      ∙ winner-same (eligible r p (suc k)) (eligible r p (suc k)) (bid_in r.bids) (bid_of r) r.bidders (λ j s m. refl) (λ j s m. bid_in_lem r j)

  pub won_most : w ≤ 64
  won_most = let e = won_slot in let m = winner-bidder r p (suc k) in let n = c.most_bidders in omega arith

  -- what is paid is the price of documents 01 and 02
  paid_price : paid ≡ price r (suc k)
  paid_price =
      ⊎_elim
      (λ (z : w ≡ 0). awarded.nobody_pays z ∙ sym (empty_costs_nothing r (suc k) (slot-winner r few k inside ∙ sym won_slot ∙ z)))
      (λ (s : w ≡ 0 → ⊥).
      let most = winner-bidder r p (suc k) in
      let has_bid : w ≤ length r.bids
      = (let e = won_slot in let h = c.sized_bids in let m = c.most_bidders in omega arith) in
      awarded.paid_as s
      ∙ critical_same r.tick (floor_of r (suc k)) (eligible r p (suc k)) (eligible r p (suc k)) (bid_in r.bids) (bid_of r) r.bidders w (λ j d s m. refl)
      (λ j d s m. bid_in_lem r j)
      ∙ sym (price_critical r k w c inside has_bid (omega arith) (sym won_slot)))
      (same_or_not w 0)

  next : page_up_to r (suc k) ≡ put p (suc k) w
  next = up_to-next r k ∙ ap (put p (suc k)) (sym won_slot)

  pub filled_next : (barred' held' : List ℕ) → Settled r w (suc k) barred held barred' held' →
      Filled r (suc k) barred' held' (put page (suc k) w) (set prices k paid)
  filled_next barred' held' settled =
      let room = few in
      record {
        some = inside;
        known =
            subst (λ (q : Page). Known r q barred' held') (sym next)
            (⊎_elim
            (λ (z : w ≡ 0).
            subst (λ (q : Page). Known r q barred' held')
            (sym (ap (put p (suc k)) z ∙ put-nobody p (suc k) (up_to-later r k (suc k) (omega arith))))
            (rw ((settled.nobody z).0, (settled.nobody z).1) f.known))
            (λ (s : w ≡ 0 → ⊥).
            known_next r c p (suc k) w (up_to-sized r k) (omega arith) (omega arith) (up_to-later r k (suc k) (omega arith)) (omega arith) won_most
            barred held barred' held' f.known (settled.somebody s).0 (settled.somebody s).1)
            (same_or_not w 0));
        page_is = ap (λ (q : Page). put q (suc k) w) f.page_is ∙ sym next;
        prices_are =
            ap₂ (λ (ps : List ℕ) (x : ℕ). set ps k x) f.prices_are paid_price
            ∙ padded-next (λ i. price r (suc i)) k 16 0 (omega arith);
      }

-- The same of what is lent, at the slot that comes next.
module _ (r : Round) (s : List ℕ) (start : ℕ) (last links bids asks : List ℕ) (bidders slots tick : ℕ)
    (lent : Lent r s start last links bids asks bidders slots tick) where
  pub lent-few : (bidders ≤ 64) × (length bids ≡ 64) × (slots ≤ 16)
  lent-few =
      let n = lent.bidders_are in
      let m = lent.slots_are in
      let many = lent.proper.most_bidders in
      let room = lent.proper.most_slots in
      (omega arith, ap length lent.bids_are ∙ lent.proper.sized_bids, omega arith)

  pub lent-in_ticks : InTicks tick (bid_in bids)
  lent-in_ticks =
      let proper = lent.proper in
      let same = lent.tick_is in
      record {
        some_tick = (let t = proper.some_tick in omega arith);
        most_tick = (let t = proper.most_tick in omega arith);
        most_bid = λ b. (let e = lent_bid r bids lent.bids_are b in let m = proper.most_bid b in omega arith);
        multiple = λ b. ap₂ (λ (x t : ℕ). x % t) (lent_bid r bids lent.bids_are b) lent.tick_is ∙ proper.in_ticks b;
      }

  module _ (barred held : List ℕ) (page : Page) (prices : List ℕ) (w paid asked : ℕ) where
    -- what an award promises
    abbrev Award : ℕ → Type 0
    Award k = (q : Round) (p : Page) → q.tick ≡ tick → SoFar q p s barred held bids asked k → Awarded tick (floor_of q k) (eligible q p k) (bid_in bids) bidders w paid

    inside-at : (k : ℕ) → suc k ≤ slots → k < r.slots
    inside-at k most = let e = lent.slots_are in omega arith

    -- what the marks know before slot k + 1 is awarded
    so_far : (k : ℕ) → suc k ≤ slots → asked ≡ floor_asks r.tick (floor_of r (suc k)) → Filled r k barred held page prices →
        SoFar r (page_up_to r k) s barred held bids asked (suc k)
    so_far k most under f =
        let inside = inside-at k most in
        let room = lent.proper.most_slots in
        record {
          proper = lent.proper;
          constraints_are = lent.constraints_are;
          used_are = lent.used_are;
          bids_are = lent.bids_are;
          asks_is = under;
          sized = up_to-sized r k;
          unbroken = up_to-unbroken r lent.proper.proper k (omega arith);
          vacant = up_to-later r k (suc k) (omega arith);
          known = f.known;
        }

    -- the award, promised for every page so far, for the round's own
    awarded_of : (k : ℕ) → suc k ≤ slots → asked ≡ floor_asks r.tick (floor_of r (suc k)) → Filled r k barred held page prices → Award (suc k) →
        Awarded r.tick (floor_of r (suc k)) (eligible r (page_up_to r k) (suc k)) (bid_in r.bids) r.bidders w paid
    awarded_of k most under f a =
        let floor = floor_of r (suc k) in
        subst (λ (t : ℕ). Awarded t floor (eligible r (page_up_to r k) (suc k)) (bid_in r.bids) r.bidders w paid) lent.tick_is
        (subst (λ (bs : List ℕ). Awarded tick floor (eligible r (page_up_to r k) (suc k)) (bid_in bs) r.bidders w paid) lent.bids_are
        (subst (λ (n : ℕ). Awarded tick floor (eligible r (page_up_to r k) (suc k)) (bid_in bids) n w paid) lent.bidders_are
        (a r (page_up_to r k) (sym lent.tick_is) (so_far k most under f))))

    -- and so the marks
    settled_of : (k : ℕ) (barred' held' : List ℕ) → Settled (round_of s) w k barred held barred' held' → Settled r w k barred held barred' held'
    settled_of k barred' held' h =
        record {
          nobody = h.nobody;
          somebody = λ some. (
            (h.somebody some).0,
            λ y.
                (h.somebody some).1 y
                ∙ ap (λ (t : Bool). is_marked barred y || t) (some_same r s lent.constraints_are lent.used_are (key w k) (λ z. eqb z y)),
          );
        }

    pub slot_won : (k at : ℕ) → at ≡ suc k → at ≤ slots → asked ≡ get_or asks k 0 → Filled r k barred held page prices → Award at → w ≤ 64
    slot_won k at e most under f a =
        let below : k < slots = omega arith in
        won_most r lent.proper k (inside-at k below) barred held page prices f w paid
        (awarded_of k below (under ∙ lent.asks_are k below) f (rw e at a))

    pub slot_filled : (k at : ℕ) → at ≡ suc k → at ≤ slots → asked ≡ get_or asks k 0 → Filled r k barred held page prices → Award at → (barred' held' : List ℕ) →
        Settled (round_of s) w at barred held barred' held' → Filled r at barred' held' (put page at w) (set prices k paid)
    slot_filled k at e most under f a barred' held' settled =
        let below : k < slots = omega arith in
        rw e
        (filled_next r lent.proper k (inside-at k below) barred held page prices f w paid
        (awarded_of k below (under ∙ lent.asks_are k below) f (rw e at a)) barred' held' (settled_of (suc k) barred' held' (rw e at settled)))
