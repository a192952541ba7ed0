-- The pages that a page with its first slots settled can become: one choice more at the next slot, all choices tried, and
-- nothing left to choose. Assumes nothing.
use Prim.Native.Nat.{ℕ, zero, suc, ◌<◌, ◌≤◌}
use mathlib.Core.Logic.{◌⊎◌, inl, inr, ⊎_elim}
use mathlib.Core.Path.{◌≡◌, sym, ◌∙◌, ap}
use native.Mathlib.Nat.{eq-or-lt_of_le, le_of_suc-le-suc, not-suc-le-zero}
use native.Mathlib.Omega.{arith}
use Rattle.basis.proofs.NumberLaws.{below_or_not}
use Rattle.sheet.specs.declared.Page.{Page}
use Rattle.sheet.specs.declared.Round.{Round}
use Rattle.auction.specs.Page.{at, put, empty_page, Sized}
use Rattle.auction.specs.Allowed.{Allowed}
use Rattle.auction.proofs.PageLaws.{at_zero, at-put-same, at-put-other, page-same}
use Rattle.best_page.specs.Best.{Precedes}
use Rattle.best_page.specs.EngineSearch.{Searched, Agrees, Tried}
use Rattle.best_page.proofs.SearchLaws.{searched_none, searched_next}

-- Before slot 1 every page agrees with the empty one.
pub all_agree : (q : Page) → Agrees empty_page 0 q
all_agree q zero l = at_zero q ∙ sym (at_zero empty_page)
all_agree q (suc j) l = absurd (not-suc-le-zero l)

-- A page whose every slot is settled is the only one that agrees with it.
pub settled_only : (r : Round) (p : Page) → Sized p → ((j : ℕ) → r.slots < j → at p j ≡ 0) → (q : Page) → Agrees p r.slots q → Allowed r q → q ≡ p
settled_only r p s later q f ok =
    page-same q p ok.page.sized s
    (λ k.
    ⊎_elim (λ (l : r.slots < k). ok.page.slots k l ∙ sym (later k l)) (λ (l : k ≤ r.slots). f k l) (below_or_not r.slots k))

-- Choices at the next slot are tried in rising order, so what is tried first comes first.
pub tried_part : (p : Page) (k b : ℕ) → Sized p → suc k ≤ 16 → (q : Page) → Tried p k (suc b) q → Tried p k b q ⊎ Agrees (put p (suc k) b) (suc k) q
tried_part p k b s room q t =
    ⊎_elim
    (λ (e : at q (suc k) ≡ b).
    inr
    (λ j l.
    ⊎_elim
    (λ (x : j ≡ suc k). ap (at q) x ∙ e ∙ sym (ap (at (put p (suc k) b)) x ∙ at-put-same p (suc k) b s (omega arith) room))
    (λ (x : j < suc k). t.0 j (le_of_suc-le-suc x) ∙ sym (at-put-other p (suc k) b j (λ e. absurd (omega arith))))
    (eq-or-lt_of_le l)))
    (λ (l : at q (suc k) < b). inl (t.0, l))
    (eq-or-lt_of_le (le_of_suc-le-suc t.1))

pub tried_more : (p : Page) (k b : ℕ) (q : Page) → Tried p k b q → Tried p k (suc b) q
tried_more p k b q t = (t.0, (let l = t.1 in omega arith))

pub tried_next : (p : Page) (k b : ℕ) → Sized p → suc k ≤ 16 → (q : Page) → Agrees (put p (suc k) b) (suc k) q → Tried p k (suc b) q
tried_next p k b s room q f = (
  λ j l. f j (omega arith) ∙ at-put-other p (suc k) b j (λ e. absurd (omega arith)),
  (let here : at q (suc k) ≡ b = f (suc k) (omega arith) ∙ at-put-same p (suc k) b s (omega arith) room in omega arith),
)

pub tried_order : (p : Page) (k b : ℕ) → Sized p → suc k ≤ 16 → (q q' : Page) → Tried p k b q → Agrees (put p (suc k) b) (suc k) q' → Precedes q q'
tried_order p k b s room q q' t f =
    record {
      slot = suc k;
      smaller = (let here : at q' (suc k) ≡ b = f (suc k) (omega arith) ∙ at-put-same p (suc k) b s (omega arith) room in let l = t.1 in omega arith);
      same = λ j l.
          t.0 j (omega arith)
          ∙ sym (f j (omega arith) ∙ at-put-other p (suc k) b j (λ e. absurd (omega arith)));
    }

module _ (r : Round) (p : Page) (k : ℕ) (s : Sized p) (room : suc k ≤ 16) where
  pub none_tried : (need : ℕ) (page : Page) → Searched r (Tried p k 0) need page need page
  none_tried need page = searched_none r (Tried p k 0) need page (λ q t ok. absurd (not-suc-le-zero t.1))

  pub choice_tried : (b need : ℕ) (page : Page) (n₁ : ℕ) (p₁ : Page) (n₂ : ℕ) (p₂ : Page) →
      Searched r (Tried p k b) need page n₁ p₁ → Searched r (Agrees (put p (suc k) b) (suc k)) n₁ p₁ n₂ p₂ →
      Searched r (Tried p k (suc b)) need page n₂ p₂
  choice_tried b need page n₁ p₁ n₂ p₂ f g =
      searched_next r (Tried p k b) (Agrees (put p (suc k) b) (suc k)) (Tried p k (suc b)) need page n₁ p₁ n₂ p₂
      (tried_part p k b s room) (tried_more p k b) (tried_next p k b s room) (λ q q' t u. tried_order p k b s room q q' t u) f g

-- every allowed page that agrees has one of the round's bidders, or nobody, at the next slot
pub all_tried : (r : Round) (p : Page) (k n need : ℕ) (page : Page) (n₁ : ℕ) (p₁ : Page) → r.bidders < n →
    Searched r (Tried p k n) need page n₁ p₁ → Searched r (Agrees p k) need page n₁ p₁
all_tried r p k n need page n₁ p₁ l (inl a) =
    inl
    (record {
      same_need = a.same_need;
      same_page = a.same_page;
      small = λ q f ok. a.small q (f, (let h = ok.page.bidders (suc k) in omega arith)) ok;
    })
all_tried r p k n need page n₁ p₁ l (inr a) =
    inr
    (record {
      within = a.within.0;
      allowed = a.allowed;
      enough = a.enough;
      next = a.next;
      largest = λ q f ok. a.largest q (f, (let h = ok.page.bidders (suc k) in omega arith)) ok;
      first = λ q f ok t. a.first q (f, (let h = ok.page.bidders (suc k) in omega arith)) ok t;
    })
