-- `best_search::best_page` meets its contract: each table is the round's, and so what the two searches give is the best page. Assumes nothing.
use Prim.Native.Nat.{ℕ, suc, ◌≤◌}
use mathlib.Core.Bool.{Bool, true, false}
use mathlib.Core.List.{List}
use mathlib.Core.Path.{◌≡◌, refl, sym, ◌∙◌, ap, subst}
use native.Mathlib.Omega.{arith}
use lib.ListN.{length, get_or}
use Rattle.std.specs.Prelude.{Option, Some, None}
use Rattle.std.specs.Option.{unwrap_or}
use Rattle.basis.proofs.RowLaws.{zeros, get_d_padded_after}
use Rattle.sheet.specs.declared.Page.{Page}
use Rattle.sheet.specs.Refusal.{Accepted}
use Rattle.sheet.specs.Proper.{ProperFloors}
use Rattle.sheet.specs.Round.{round_of, with_floors}
use Rattle.sheet.specs.Sheet.{bidder_count, slot_count, effect_field}
use Rattle.sheet.proofs.AcceptedLaws.{accepted-sheet}
use Rattle.sheet.proofs.FloorLaws.{floors-proper}
use Rattle.sheet.proofs.RoundLaws.{round_proper}
use Rattle.choice.specs.EngineBids.{bid_in}
use Rattle.choice.specs.EngineRanking.{InOrder}
use Rattle.choice.proofs.RankingLaws.{ranked-falls}
use Rattle.auction.specs.Allowed.{total}
use Rattle.auction.specs.Page.{empty_page}
use Rattle.best_page.specs.Best.{Best}
use Rattle.best_bound.specs.EngineBound.{nth, bid_at_rank, GainsOf}
use Rattle.best_clash.specs.EngineClash.{RanksOf}
use Rattle.best_clash.specs.EngineMarks.{FilledBy, WordsOf, RankedBids, LeftBy}
use Rattle.best_clash.proofs.ShutLaws.{shut_of, shut_floors, free_start}
use Rattle.best_search.specs.EngineFound.{Raised, Sought, SoughtIn}
use Rattle.best_search.proofs.StartLaws.{bids-low, effects-low, best_found}
use Rattle.best_search.proofs.best_page.Goals.{After-ranking_of-ranked}
use Rattle.best_search.proofs.best_page.Goals as goal

-- the ranking is one of the round's bids
order_of : (s bids ranked : List ℕ) → bids ≡ (round_of s).bids → InOrder (bid_in bids) (bidder_count s) ranked → InOrder (bid_in (round_of s).bids) (bidder_count s) ranked
order_of s bids ranked e o = subst (λ (x : List ℕ). InOrder (bid_in x) (bidder_count s) ranked) e o

-- after the last slot there is no effect
effects_end : (s : List ℕ) → Accepted s → (k : ℕ) → slot_count s ≤ k → get_or (round_of s).effects k 0 ≡ 0
unfolding round_of
effects_end s ok k l = get_d_padded_after (λ j. effect_field s (suc j)) (slot_count s) 16 0 k (accepted-sheet s ok).counts.most_slots l

-- and it is one of the bids that are read
ranked_bids : (s bids ranked : List ℕ) → Accepted s → bidder_count s ≤ 8 → bids ≡ (round_of s).bids → InOrder (bid_in bids) (bidder_count s) ranked →
    RankedBids bids (bidder_count s) ranked
ranked_bids s bids ranked ok few same o =
    let room : length bids ≡ 64 = ap length same ∙ (round_proper s ok).sized_bids in
    let size = o.size in
    record {
      room = omega arith;
      named = λ i l. ((o.some i l).0, (let low = (o.some i l).1 in omega arith));
      falls = ranked-falls (bid_in bids) (bidder_count s) ranked o;
    }

-- what is handed on to the table of gains
record Gained (s bids effects : List ℕ) : Type 0 where
  size : length effects ≡ 16
  none : (k : ℕ) → slot_count s ≤ k → get_or effects k 0 ≡ 0
  bid : (i : ℕ) → get_or bids i 0 ≤ 1000000000
  effect : (i : ℕ) → get_or effects i 0 ≤ 1000000

gained : (s bids effects : List ℕ) → Accepted s → bids ≡ (round_of s).bids → effects ≡ (round_of s).effects → Gained s bids effects
gained s bids effects ok same_bids same_effects =
    let proper = round_proper s ok in
    record {
      size = ap length same_effects ∙ proper.sized_effects;
      none = λ k l. ap (λ (x : List ℕ). get_or x k 0) same_effects ∙ effects_end s ok k l;
      bid = λ i. subst (λ (x : List ℕ). get_or x i 0 ≤ 1000000000) (sym same_bids) (bids-low (round_of s) proper i);
      effect = λ i. subst (λ (x : List ℕ). get_or x i 0 ≤ 1000000) (sym same_effects) (effects-low (round_of s) proper i);
    }

-- all tables are the round's, so the searches give its best page
found_best : (s floors : List ℕ) → Accepted s → bidder_count s ≤ 8 → slot_count s ≤ 8 → ProperFloors (slot_count s) floors →
    (bids effects ranked ranks gains table shut : List ℕ) (free largest : ℕ) (found : Bool) (page empty : Page) →
    bids ≡ (round_of s).bids → effects ≡ (round_of s).effects → InOrder (bid_in bids) (bidder_count s) ranked → RanksOf (bidder_count s) ranked ranks →
    GainsOf (bid_at_rank ranked bids (bidder_count s)) (nth effects) gains →
    FilledBy ranks (round_of s) table → WordsOf table shut → LeftBy table ranked bids floors (bidder_count s) (slot_count s) free →
    Raised shut gains 1 free 0 0 largest → empty ≡ empty_page → Sought shut gains ranks (bidder_count s) 1 empty free 0 largest found page →
    Best (with_floors (round_of s) floors) page × (largest ≡ total (with_floors (round_of s) floors) page)
unfolding round_of with_floors
found_best s floors ok few short proper bids effects ranked ranks gains table shut free largest found page empty same_bids same_effects o by_number g filled words left raised none sought =
    best_found (with_floors (round_of s) floors) (floors-proper (round_of s) floors (round_proper s ok) proper) few short ranked (order_of s bids ranked same_bids o) shut gains
    (subst (λ (x : List ℕ). GainsOf (bid_at_rank ranked (round_of s).bids (bidder_count s)) (nth x) gains) same_effects
    (subst (λ (x : List ℕ). GainsOf (bid_at_rank ranked x (bidder_count s)) (nth effects) gains) same_bids g))
    (shut_floors (round_of s) floors ranked shut (shut_of s ok few short ranked ranks table shut by_number filled words))
    ranks free largest found page by_number
    (free_start s ok few short ranked ranks table by_number filled floors free
    (subst (λ (x : List ℕ). LeftBy table ranked x floors (bidder_count s) (slot_count s) free) same_bids left))
    raised
    (subst (λ (x : Page). Sought shut gains ranks (bidder_count s) 1 x free 0 largest found page) none sought)

-- what the second search gives, and the empty page where it gives none
first_of : (shut gains ranks : List ℕ) (bidders free sum : ℕ) (p : Page) (first : Option Page) (page : Page) →
    SoughtIn shut gains ranks bidders 1 p free 0 sum first → page ≡ unwrap_or first p → (found : Bool) × Sought shut gains ranks bidders 1 p free 0 sum found page
first_of shut gains ranks bidders free sum p (Some q) page sought is = (true, rw is sought)
first_of shut gains ranks bidders free sum p None page sought is = (false, rw is sought)

-- the ranking that is handed on
ranked_at : (c : After-ranking_of-ranked) → RankedBids c.accepted_bids-bids.result (bidder_count c.args.sheet.now) c.ranking_of-ranked.result
ranked_at c =
    let p = c.requires in
    ranked_bids _ _ _ p.0 p.1 c.accepted_bids-bids.ensures c.ranking_of-ranked.ensures

pub bounds-sheet-5 : goal.bounds-sheet-5
bounds-sheet-5 c = omega (arith, (accepted-sheet _ c.requires.0).counts)

pub bounds-sheet-6 : goal.bounds-sheet-6
bounds-sheet-6 c = omega (arith, (accepted-sheet _ c.requires.0).counts)

pub gains_of-gains-requires-clause-slots_bound : goal.gains_of-gains-requires-clause-slots_bound
gains_of-gains-requires-clause-slots_bound c =
    let p = c.requires in
    let g = gained _ _ _ p.0 c.accepted_bids-bids.ensures c.accepted_effects-effects.ensures in
    (p.2, g.size, g.none)

pub gains_of-gains-requires-clause-by_index : goal.gains_of-gains-requires-clause-by_index
gains_of-gains-requires-clause-by_index c =
    let p = c.requires in
    let g = gained _ _ _ p.0 c.accepted_bids-bids.ensures c.accepted_effects-effects.ensures in
    (g.bid, g.effect)

pub fill_table-requires-clause-table_len : goal.fill_table-requires-clause-table_len
fill_table-requires-clause-table_len c =
    let p = c.requires in
    (refl, (λ x. zeros 73 x), c.ranks_of-ranks.ensures.1)

pub first_free-free-requires : goal.first_free-free-requires
first_free-free-requires c =
    let p = c.requires in
    (p.1, p.2, p.3.enough, ranked_at (goal.at.first_free-free-requires c).After-ranking_of-ranked)

pub returns : goal.returns
returns c =
    let p = c.requires in
    let first = first_of _ _ _ _ _ _ _ c.search-best.result _ c.search-best.ensures c.unwrap_or.ensures in
    found_best c.args.sheet.now c.args.floors.now p.0 p.1 p.2 p.3 _ _ _ _ _ _ _ _ _ first.0 _ _ c.accepted_bids-bids.ensures
    c.accepted_effects-effects.ensures c.ranking_of-ranked.ensures c.ranks_of-ranks.ensures.0 c.gains_of-gains.ensures.0 c.fill_table.ensures
    c.shut_words-shut.ensures c.first_free-free.ensures c.raise-largest.ensures c.empty_page-page.ensures first.1
