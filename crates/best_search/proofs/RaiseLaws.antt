-- How the first search joins what it finds: rank by rank of those with a free seat at the next slot, and then nobody there. Assumes nothing.
use Prim.Native.Nat.{ℕ, suc, ◌<◌, ◌≤◌}
use mathlib.Core.List.{List}
use mathlib.Core.Logic.{◌⊎◌, inl, inr, ⊎_elim}
use mathlib.Core.Path.{◌≡◌, refl, sym, ◌∙◌, ap}
use native.Mathlib.Nat.{eq-or-lt_of_le, le_of_suc-le-suc}
use native.Mathlib.Omega.{arith}
use lib.ListN.{get_or}
use Rattle.basis.proofs.NumberLaws.{same_or_not, below_or_not}
use Rattle.basis.proofs.TestLaws.{not_both}
use Rattle.sheet.specs.declared.Page.{Page}
use Rattle.sheet.specs.declared.Round.{Round}
use Rattle.auction.specs.Allowed.{Allowed, total}
use Rattle.auction.specs.Page.{at, put}
use Rattle.best_page.specs.EngineSearch.{Agrees}
use Rattle.best_seats.specs.EngineSeats.{First, Rest}
use Rattle.best_seats.proofs.SeatLaws.{rest_between, rest_done}
use Rattle.best_clash.specs.EngineClash.{FreeFor}
use Rattle.best_node.specs.EngineNode.{TablesOf, Node}
use Rattle.best_search.specs.EngineFound.{Largest}
use Rattle.best_node.proofs.FreeLaws.{only_page, agrees_next, agrees_before}
use Rattle.best_node.proofs.LeadLaws.{free-here}
use Rattle.best_node.proofs.NodeLaws.{node_allowed}
use Rattle.best_node.proofs.TotalLaws.{had_total}

-- the larger of what was known and of the totals of the pages with one of the first `start` ranks at the next slot
pub record UpTo (r : Round) (ranked : List ℕ) (p : Page) (k known best start : ℕ) : Type 0 where
  pub no_less : known ≤ best
  pub most : (q : Page) → Agrees p k q → Allowed r q → (i : ℕ) → i < start → i < r.bidders → get_or ranked i 0 ≡ at q (suc k) → total r q ≤ best
  pub reached : (best ≡ known) ⊎ ((q : Page) × Agrees p k q × Allowed r q × (total r q ≡ best))

-- nothing has been tried
pub upto_none : (r : Round) (ranked : List ℕ) (p : Page) (k known : ℕ) → UpTo r ranked p k known known 0
upto_none r ranked p k known = record { no_less = omega arith; most = λ q a ok i l. absurd (omega arith); reached = inl refl }

-- a set in which no page has more than what is known
pub none_larger : (r : Round) (D : Page → Type 0) (known : ℕ) → ((q : Page) → D q → Allowed r q → total r q ≤ known) → Largest r D known known
none_larger r D known h = record { no_less = omega arith; most = h; reached = inl refl }

module _ (r : Round) (ranked shut gains : List ℕ) (v : TablesOf r ranked shut gains) (p : Page) (k had : ℕ) (w : Node r p k had)
    (free : ℕ) (f : FreeFor r ranked p k free) where
  -- nothing is free: the page is all
  leaf_all : free ≡ 0 → (q : Page) → Agrees p k q → Allowed r q → total r q ≡ had
  leaf_all none q a ok = ap (total r) (only_page r ranked shut gains v p k had w free f none q a ok) ∙ had_total r p k had w

  pub leaf_more : free ≡ 0 → (known : ℕ) → known < had → Largest r (Agrees p k) known had
  leaf_more none known more =
      record {
        no_less = omega arith;
        most = λ q a ok. (let e = leaf_all none q a ok in omega arith);
        reached = inr (p, (λ j l. refl), node_allowed r p k had w, had_total r p k had w);
      }

  pub leaf_less : free ≡ 0 → (known : ℕ) → had ≤ known → Largest r (Agrees p k) known known
  leaf_less none known less = none_larger r (Agrees p k) known (λ q a ok. (let e = leaf_all none q a ok in omega arith))

  module _ (inside : k < r.slots) where
    room : suc k ≤ 16
    room = (let short = v.few_slots in omega arith)

    -- one rank more
    pub upto_next : (known best left start t found : ℕ) → Rest free left start → First left t → UpTo r ranked p k known best start →
        Largest r (Agrees (put p (suc k) (get_or ranked t 0)) (suc k)) best found → UpTo r ranked p k known found (suc t)
    upto_next known best left start t found rest first u g =
        record {
          no_less = (let a = u.no_less in let b = g.no_less in omega arith);
          most = λ q a ok i l low e.
              ⊎_elim
              (λ (same : i ≡ t).
              g.most q (agrees_next p q k (get_or ranked t 0) w.page.sized room a (sym e ∙ ap (λ (x : ℕ). get_or ranked x 0) same)) ok)
              (λ (apart : i ≡ t → ⊥).
              ⊎_elim
              (λ (before : i < start). let b = u.most q a ok i before low e in let c = g.no_less in omega arith)
              (λ (past : start ≤ i).
              absurd
              (not_both (free-here r ranked shut gains v p k had w free f inside q a ok i low e)
              (rest_between free left start t rest first i past (omega arith))))
              (below_or_not i start))
              (same_or_not i t);
          reached =
              ⊎_elim
              (λ (same : found ≡ best).
              ⊎_elim
              (λ (e : best ≡ known). inl (same ∙ e))
              (λ (e : (q : Page) × Agrees p k q × Allowed r q × (total r q ≡ best)). inr (e.0, e.1, e.2, e.3 ∙ sym same))
              u.reached)
              (λ (e : (q : Page) × Agrees (put p (suc k) (get_or ranked t 0)) (suc k) q × Allowed r q × (total r q ≡ found)).
              inr (e.0, (agrees_before p e.0 k (get_or ranked t 0) w.page.sized room e.1).0, e.2, e.3))
              g.reached;
        }

    -- no rank is left, and nobody has been tried
    pub upto_done : (known best left start found : ℕ) → Rest free left start → left ≡ 0 → UpTo r ranked p k known best start →
        Largest r (Agrees p (suc k)) best found → Largest r (Agrees p k) known found
    upto_done known best left start found rest none u g =
        record {
          no_less = (let a = u.no_less in let b = g.no_less in omega arith);
          most = λ q a ok.
              ⊎_elim
              (λ (z : at q (suc k) ≡ 0).
              g.most q
              (λ j l.
              ⊎_elim
              (λ (e : j ≡ suc k). ap (at q) e ∙ z ∙ sym (ap (at p) e ∙ w.later (suc k) (omega arith)))
              (λ (m : j < suc k). a j (le_of_suc-le-suc m))
              (eq-or-lt_of_le l))
              ok)
              (λ (s : at q (suc k) ≡ 0 → ⊥).
              let i = v.ranking.everybody (at q (suc k)) (omega arith) (ok.page.bidders (suc k)) in
              let few = v.few_bidders in
              let low : i.0 < r.bidders = i.1 in
              ⊎_elim
              (λ (before : i.0 < start). let b = u.most q a ok i.0 before low i.2 in let c = g.no_less in omega arith)
              (λ (past : start ≤ i.0).
              absurd
              (not_both (free-here r ranked shut gains v p k had w free f inside q a ok i.0 low i.2)
              (rest_done free left start rest none i.0 (omega arith) past)))
              (below_or_not i.0 start))
              (same_or_not (at q (suc k)) 0);
          reached =
              ⊎_elim
              (λ (same : found ≡ best).
              ⊎_elim
              (λ (e : best ≡ known). inl (same ∙ e))
              (λ (e : (q : Page) × Agrees p k q × Allowed r q × (total r q ≡ best)). inr (e.0, e.1, e.2, e.3 ∙ sym same))
              u.reached)
              (λ (e : (q : Page) × Agrees p (suc k) q × Allowed r q × (total r q ≡ found)). inr (e.0, (λ j l. e.1 j (omega arith)), e.2, e.3))
              g.reached;
        }
