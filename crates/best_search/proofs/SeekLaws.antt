-- How the second search joins what it finds: choices for the next slot in rising order, nobody first, so that what is found first comes first in dictionary
-- order. Assumes nothing.
use Prim.Native.Nat.{ℕ, suc, ◌<◌, ◌≤◌}
use mathlib.Core.Bool.{Bool, true, false, false≢true}
use mathlib.Core.List.{List}
use mathlib.Core.Logic.{inl, inr, ⊎_elim}
use mathlib.Core.Path.{◌≡◌, refl, sym, ◌∙◌, ap}
use native.Mathlib.Omega.{arith}
use lib.Dec.{eqb}
use borrow.Author.Tests.{eqb-true, eqb-false}
use Rattle.basis.proofs.NumberLaws.{same_or_not, below_or_not}
use Rattle.sheet.specs.declared.Page.{Page}
use Rattle.sheet.specs.declared.Round.{Round}
use Rattle.auction.specs.Allowed.{Allowed, total}
use Rattle.auction.specs.Page.{at, put}
use Rattle.best_page.specs.EngineSearch.{Agrees}
use Rattle.best_clash.specs.EngineClash.{FreeFor}
use Rattle.best_node.specs.EngineNode.{TablesOf, Node}
use Rattle.best_search.specs.EngineFound.{FirstWith}
use Rattle.best_node.proofs.FreeLaws.{only_page, agrees_next, agrees_before}
use Rattle.best_node.proofs.NodeLaws.{node_allowed}
use Rattle.best_node.proofs.TotalLaws.{had_total}

-- no page that agrees and has a number below b at the next slot has the total
abbrev pub NoneBelow : Round → Page → (k b sum : ℕ) → Type 0
NoneBelow r p k b sum = (q : Page) → Agrees p k q → Allowed r q → at q (suc k) < b → total r q ≡ sum → ⊥

-- nothing is free: the page has the total, or nothing has
pub leaf_first : (r : Round) (ranked shut gains : List ℕ) → TablesOf r ranked shut gains → (p : Page) (k had : ℕ) → Node r p k had →
    (free : ℕ) → FreeFor r ranked p k free → free ≡ 0 → (sum : ℕ) → FirstWith r (Agrees p k) sum (eqb had sum) p
leaf_first r ranked shut gains v p k had w free f none sum =
    record {
      none = λ e q a ok t. eqb-false had sum e (sym (had_total r p k had w) ∙ sym (ap (total r) (only q a ok)) ∙ t);
      within = λ e j l. refl;
      allowed = λ e. node_allowed r p k had w;
      has = λ e. had_total r p k had w ∙ eqb-true had sum e;
      first = λ e q a ok t. inl (sym (only q a ok));
    }
  where
    only : (q : Page) → Agrees p k q → Allowed r q → q ≡ p
    only = only_page r ranked shut gains v p k had w free f none

module _ (r : Round) (p : Page) (k had sum : ℕ) (w : Node r p k had) (room : suc k ≤ 16) where
  -- a choice with which no page has the total
  pub none-next : (b : ℕ) → NoneBelow r p k b sum → ((q : Page) → Agrees (put p (suc k) b) (suc k) q → Allowed r q → total r q ≡ sum → ⊥) →
      NoneBelow r p k (suc b) sum
  none-next b before here q a ok l t =
      ⊎_elim
      (λ (e : at q (suc k) ≡ b). here q (agrees_next p q k b w.page.sized room a e) ok t)
      (λ (d : at q (suc k) ≡ b → ⊥). before q a ok (omega arith) t)
      (same_or_not (at q (suc k)) b)

  -- the first choice with which one has
  pub found_next : (b : ℕ) (page : Page) → NoneBelow r p k b sum → (found : Bool) → found ≡ true → FirstWith r (Agrees (put p (suc k) b) (suc k)) sum found page →
      FirstWith r (Agrees p k) sum found page
  found_next b page before found there-is g =
      record {
        none = λ e. absurd (false≢true (sym e ∙ there-is));
        within = λ e. (agrees_before p page k b w.page.sized room (g.within e)).0;
        allowed = g.allowed;
        has = g.has;
        first = λ e q a ok t.
            let there : at page (suc k) ≡ b = (agrees_before p page k b w.page.sized room (g.within e)).1 in
            let along = (agrees_before p page k b w.page.sized room (g.within e)).0 in
            ⊎_elim
            (λ (same : at q (suc k) ≡ b). g.first e q (agrees_next p q k b w.page.sized room a same) ok t)
            (λ (other : at q (suc k) ≡ b → ⊥).
            ⊎_elim
            (λ (l : at q (suc k) < b). absurd (before q a ok l t))
            (λ (l : b ≤ at q (suc k)).
            inr (record { slot = suc k; smaller = omega arith; same = λ j m. along j (omega arith) ∙ sym (a j (omega arith)) }))
            (below_or_not (at q (suc k)) b))
            (same_or_not (at q (suc k)) b);
      }

  -- and when every choice has been tried
  pub none_found : (n : ℕ) (page : Page) → r.bidders < n → NoneBelow r p k n sum → FirstWith r (Agrees p k) sum false page
  none_found n page all none =
      record {
        none = λ e q a ok t. none q a ok (let h = ok.page.bidders (suc k) in omega arith) t;
        within = λ e. absurd (false≢true e);
        allowed = λ e. absurd (false≢true e);
        has = λ e. absurd (false≢true e);
        first = λ e. absurd (false≢true e);
      }
