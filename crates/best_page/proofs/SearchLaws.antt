-- Searches put together: through one set and then through another whose pages all come later, and through a set that holds nothing
-- large enough. Assumes nothing.
use Prim.Native.Nat.{ℕ, suc, ◌<◌, ◌≤◌}
use mathlib.Core.Logic.{◌⊎◌, inl, inr, ⊎_elim}
use mathlib.Core.Path.{◌≡◌, refl, sym, ◌∙◌, subst}
use native.Mathlib.Omega.{arith}
use Rattle.sheet.specs.declared.Page.{Page}
use Rattle.sheet.specs.declared.Round.{Round}
use Rattle.best_page.specs.Best.{Precedes, Best}
use Rattle.auction.specs.Allowed.{Allowed, total}
use Rattle.best_page.specs.EngineSearch.{Searched}

module _ (r : Round) where
  -- a set without a page that is large enough
  pub searched_none : (D : Page → Type 0) (need : ℕ) (page : Page) → ((q : Page) → D q → Allowed r q → total r q < need) → Searched r D need page need page
  searched_none D need page h = inl (record { same_need = refl; same_page = refl; small = h })

  -- one set after another
  pub searched_next : (D E F : Page → Type 0) (need : ℕ) (page : Page) (n₁ : ℕ) (p₁ : Page) (n₂ : ℕ) (p₂ : Page) →
      ((q : Page) → F q → D q ⊎ E q) → ((q : Page) → D q → F q) → ((q : Page) → E q → F q) →
      ((p q : Page) → D p → E q → Precedes p q) →
      Searched r D need page n₁ p₁ → Searched r E n₁ p₁ n₂ p₂ → Searched r F need page n₂ p₂
  searched_next D E F need page n₁ p₁ n₂ p₂ part left right order (inl a) (inl b) =
      inl
      (record {
        same_need = b.same_need ∙ a.same_need;
        same_page = b.same_page ∙ a.same_page;
        small = λ q f ok.
            ⊎_elim
            (λ (d : D q). a.small q d ok)
            (λ (e : E q). subst (λ (n : ℕ). total r q < n) a.same_need (b.small q e ok))
            (part q f);
      })
  searched_next D E F need page n₁ p₁ n₂ p₂ part left right order (inl a) (inr b) =
      let same = a.same_need in
      let enough = b.enough in
      inr
      (record {
        within = right p₂ b.within;
        allowed = b.allowed;
        enough = omega arith;
        next = b.next;
        largest = λ q f ok.
            ⊎_elim (λ (d : D q). let l = a.small q d ok in omega arith) (λ (e : E q). b.largest q e ok) (part q f);
        first = λ q f ok t.
            ⊎_elim (λ (d : D q). let l = a.small q d ok in absurd (omega arith)) (λ (e : E q). b.first q e ok t) (part q f);
      })
  searched_next D E F need page n₁ p₁ n₂ p₂ part left right order (inr a) (inl b) =
      let same = b.same_page in
      let next = a.next in
      subst (λ (p : Page). Searched r F need page n₂ p) (sym same)
      (inr
      (record {
        within = left p₁ a.within;
        allowed = a.allowed;
        enough = a.enough;
        next = b.same_need ∙ a.next;
        largest = λ q f ok.
            ⊎_elim (λ (d : D q). a.largest q d ok) (λ (e : E q). let l = b.small q e ok in omega arith) (part q f);
        first = λ q f ok t.
            ⊎_elim (λ (d : D q). a.first q d ok t) (λ (e : E q). inr (order p₁ q a.within e)) (part q f);
      }))
  searched_next D E F need page n₁ p₁ n₂ p₂ part left right order (inr a) (inr b) =
      let next = a.next in
      let more = b.enough in
      let low = a.enough in
      inr
      (record {
        within = right p₂ b.within;
        allowed = b.allowed;
        enough = omega arith;
        next = b.next;
        largest = λ q f ok.
            ⊎_elim (λ (d : D q). let l = a.largest q d ok in omega arith) (λ (e : E q). b.largest q e ok) (part q f);
        first = λ q f ok t.
            ⊎_elim (λ (d : D q). let l = a.largest q d ok in absurd (omega arith)) (λ (e : E q). b.first q e ok t) (part q f);
      })

  -- a search through all pages that looks for what some page has finds the best one
  pub searched_best : (D : Page → Type 0) (need : ℕ) (page : Page) (n : ℕ) (p : Page) → ((q : Page) → Allowed r q → D q) →
      (w : Page) → Allowed r w → need ≤ total r w → Searched r D need page n p → Best r p × (n ≡ suc (total r p))
  searched_best D need page n p all w ok low (inl a) = absurd (let l = a.small w (all w ok) ok in omega arith)
  searched_best D need page n p all w ok low (inr a) = (
    record {
      allowed = a.allowed;
      largest = λ q k. a.largest q (all q k) k;
      first = λ q k t. a.first q (all q k) k t;
    },
    a.next,
  )
