-- Where the searches start: the tables are the round's, the empty page is its first node, and what the two give there is the best page. Assumes nothing.
use Prim.Native.Nat.{ℕ, suc, ◌*◌, ◌≤◌}
use mathlib.Core.Bool.{Bool, true, false}
use mathlib.Core.List.{List}
use mathlib.Core.Logic.{⊎_elim}
use mathlib.Core.Path.{◌≡◌, refl, sym, ◌∙◌, ap₂}
use native.Mathlib.Omega.{arith}
use lib.ListN.{get_or}
use Rattle.basis.proofs.TestLaws.{holds_or_fails}
use Rattle.sheet.specs.declared.Page.{Page}
use Rattle.sheet.specs.declared.Round.{Round}
use Rattle.sheet.specs.Proper.{ProperRound}
use Rattle.sheet.specs.Round.{bid_of, effect_of}
use Rattle.choice.specs.EngineBids.{bid_in}
use Rattle.choice.specs.EngineRanking.{InOrder}
use Rattle.choice.proofs.RankingLaws.{ranked-once, ranked-falls}
use Rattle.auction.specs.Allowed.{Allowed, total_up_to, total}
use Rattle.auction.specs.Page.{empty_page}
use Rattle.auction.proofs.GreedyLaws.{bid_in_lem}
use Rattle.auction.proofs.PageLaws.{at-empty}
use Rattle.best_page.specs.Best.{Best}
use Rattle.best_page.specs.EngineSearch.{Agrees}
use Rattle.best_page.proofs.BestPageLaws.{empty-allowed}
use Rattle.best_page.proofs.TriedLaws.{all_agree}
use Rattle.best_bound.specs.EngineBound.{nth, bid_at_rank, GainsOf}
use Rattle.best_bound.proofs.BoundLaws.{bid_ranked}
use Rattle.best_clash.specs.EngineClash.{FreeFor, RanksOf, ShutOf}
use Rattle.best_node.specs.EngineNode.{RankedBy, TablesOf, Node}
use Rattle.best_search.specs.EngineFound.{Largest, FirstWith, Raised, Sought}
use Rattle.best_node.proofs.NodeLaws.{node_allowed}
use Rattle.best_node.proofs.TotalLaws.{had_total}

pub bids-low : (r : Round) → ProperRound r → (i : ℕ) → get_or r.bids i 0 ≤ 1_000_000_000
unfolding bid_of
bids-low r c i = c.most_bid (suc i)

pub effects-low : (r : Round) → ProperRound r → (i : ℕ) → get_or r.effects i 0 ≤ 1_000_000
unfolding effect_of
effects-low r c i = c.most_effect (suc i)

module _ (r : Round) (c : ProperRound r) (few : r.bidders ≤ 8) (short : r.slots ≤ 8) (ranked : List ℕ) (o : InOrder (bid_in r.bids) r.bidders ranked) where
  by_rank : RankedBy (bid_of r) r.bidders ranked
  by_rank =
      record {
        some = o.some;
        once = λ i j l m e. ranked-once (bid_in r.bids) r.bidders ranked o i j l m e;
        everybody = o.everybody;
        falls = λ i j l m.
            (let h = ranked-falls (bid_in r.bids) r.bidders ranked o i j l m in
            let e = bid_in_lem r (get_or ranked i 0) in
            let d = bid_in_lem r (get_or ranked j 0) in
            omega arith);
      }

  module _ (shut gains : List ℕ) (g : GainsOf (bid_at_rank ranked r.bids r.bidders) (nth r.effects) gains) (s : ShutOf r ranked shut) where
    effect_same : (k : ℕ) → nth r.effects k ≡ effect_of r (suc k)
    unfolding nth effect_of
    effect_same k = refl

    tables_of : TablesOf r ranked shut gains
    tables_of =
        record {
          proper = c;
          few_bidders = few;
          few_slots = short;
          ranking = by_rank;
          gains_are = λ i k l m.
              g i k (omega arith) m ∙ ap₂ ◌*◌ (bid_ranked ranked r.bids r.bidders i l ∙ bid_in_lem r (get_or ranked i 0)) (effect_same k);
          shuts = s;
        }

    first_node : Node r empty_page 0 0
    unfolding total_up_to
    first_node =
        let allowed = empty-allowed r c.most_slots c in
        record {
          page = allowed.page;
          room = omega arith;
          later = λ j l. at-empty j;
          unbroken = allowed.unbroken;
          reached = allowed.reached;
          had_is = refl;
        }

    -- the first page in dictionary order with the largest total is the best page
    pub best_found : (ranks : List ℕ) (free largest : ℕ) (found : Bool) (page : Page) → RanksOf r.bidders ranked ranks → FreeFor r ranked empty_page 0 free →
        Raised shut gains 1 free 0 0 largest → Sought shut gains ranks r.bidders 1 empty_page free 0 largest found page →
        Best r page × (largest ≡ total r page)
    best_found ranks free largest found page by_number f raised sought =
        ⊎_elim
        (λ (e : found ≡ true). (
          record {
            allowed = first.allowed e;
            largest = λ q ok. (let low = most.most q (all_agree q) ok in let has = first.has e in omega arith);
            first = λ q ok t. first.first e q (all_agree q) ok (t ∙ first.has e);
          },
          sym (first.has e),
        ))
        (λ (e : found ≡ false). absurd (first.none e some.0 (all_agree some.0) some.1 some.2))
        (holds_or_fails found)
      where
        most : Largest r (Agrees empty_page 0) 0 largest
        most = raised r ranked empty_page 0 refl tables_of first_node f

        first : FirstWith r (Agrees empty_page 0) largest found page
        first = sought r ranked 0 refl refl tables_of by_number first_node f

        some : (q : Page) × Allowed r q × (total r q ≡ largest)
        some =
            ⊎_elim
            (λ (e : largest ≡ 0). (empty_page, node_allowed r empty_page 0 0 first_node, had_total r empty_page 0 0 first_node ∙ sym e))
            (λ (w : (q : Page) × Agrees empty_page 0 q × Allowed r q × (total r q ≡ largest)). (w.0, w.2, w.3))
            most.reached
