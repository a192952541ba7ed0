-- What a node of the search can become, and what that adds at most. Assumes nothing.
use Prim.Native.Nat.{ℕ, zero, suc, ◌+◌, ◌*◌, ◌<◌, ◌≤◌}
use mathlib.Core.Bool.{Bool, true, false}
use mathlib.Core.Logic.{inl, inr, ⊎_elim}
use mathlib.Core.Path.{◌≡◌, refl, sym, ◌∙◌, ap, ap₂, subst}
use native.Mathlib.Omega.{arith}
use Rattle.basis.proofs.TestLaws.{not_both, fails}
use Rattle.sheet.specs.declared.Page.{Page}
use Rattle.sheet.specs.declared.Round.{Round}
use Rattle.sheet.specs.Round.{bid_of, effect_of, floor_of}
use Rattle.auction.specs.Page.{at, put, placed}
use Rattle.auction.specs.Broken.{breaks}
use Rattle.sheet.specs.Proper.{ProperRound}
use Rattle.auction.proofs.PageLaws.{put-sized, at-put-same, at-put-other, at-within, placed_at, placed_where, Keeps}
use Rattle.basis.proofs.NumberLaws.{same_or_not, below_or_not}
use Rattle.auction.proofs.BrokenLaws.{broken_stays, breaks_where, breaks-at}
use Rattle.best_bound.specs.EngineBound.{sum_from, Assigns, nth}
use Rattle.auction.specs.Allowed.{Allowed, total_up_to, total}
use Rattle.best_page.specs.EngineSearch.{Agrees}
use Rattle.best_node.specs.EngineNode.{Node}

module _ (r : Round) where
  -- settled slots add the same
  agree_total : (p q : Page) (k : ℕ) → Agrees p k q → total_up_to r q k ≡ total_up_to r p k
  unfolding total_up_to
  agree_total p q zero f = refl
  agree_total p q (suc k) f =
      ap₂ (λ (a b : ℕ). a + bid_of r b * effect_of r (suc k)) (agree_total p q k (λ j l. f j (omega arith))) (f (suc k) (omega arith))

  -- a total is what the settled slots add, and what the slots left add
  total_split : (q : Page) (k left : ℕ) →
      total_up_to r q (k + left) ≡ total_up_to r q k + sum_from (bid_of r) (λ j. effect_of r (suc j)) (λ j. at q (suc j)) k left
  unfolding total_up_to sum_from
  total_split q k zero = ap (total_up_to r q) (let e : k + 0 ≡ k = omega arith in e) ∙ (let e : total_up_to r q k ≡ total_up_to r q k + 0 = omega arith in e)
  total_split q k (suc left) =
      ap (total_up_to r q) (let e : k + suc left ≡ suc (k + left) = omega arith in e)
      ∙ ap (λ (a : ℕ). a + bid_of r (at q (suc (k + left))) * effect_of r (suc (k + left))) (total_split q k left)
      ∙ (let a = total_up_to r q k in
      let b = sum_from (bid_of r) (λ j. effect_of r (suc j)) (λ j. at q (suc j)) k left in
      let c = bid_of r (at q (suc (k + left))) * effect_of r (suc (k + left)) in
      let e : a + b + c ≡ a + (b + c) = omega arith in
      e)

  -- who stands at a slot left has no settled one
  pub later_unplaced : (p : Page) (k had : ℕ) → Node r p k had → (q : Page) → Agrees p k q → Allowed r q → (j : ℕ) → k ≤ j → (at q (suc j) ≡ 0 → ⊥) →
      placed p (at q (suc j)) ≡ false
  later_unplaced p k had v q f ok j l s =
      fails (placed p (at q (suc j)))
      (λ t.
      let x = placed_where p (at q (suc j)) t in
      let settled : x.0 ≤ k
      = ⊎_elim
      (λ (a : k < x.0). absurd (s (sym x.3 ∙ v.later x.0 a)))
      (λ (a : x.0 ≤ k). a)
      (below_or_not k x.0) in
      let same : suc j ≡ x.0 = ok.page.once (suc j) x.0 s (sym (f x.0 settled ∙ x.3)) in
      absurd (omega arith))

  -- an allowed page that agrees with a node gives the slots left bidders, each once, whose ranks pass a test that all of those pass
  pub node_assigns : (p : Page) (k had left : ℕ) (ranked : ℕ → ℕ) (eligible : ℕ → Bool) → Node r p k had →
      ((b : ℕ) → 0 < b → b ≤ r.bidders → (i : ℕ) × (i < r.bidders) × (ranked i ≡ b)) →
      (q : Page) → Agrees p k q → Allowed r q →
      ((j i : ℕ) → k ≤ j → j < k + left → (at q (suc j) ≡ 0 → ⊥) → i < r.bidders → ranked i ≡ at q (suc j) → eligible i ≡ true) →
      Assigns eligible ranked r.bidders k (k + left) (λ j. at q (suc j))
  node_assigns p k had left ranked eligible v everybody q f ok may-stand =
      record {
        ranked = λ j l m.
            ⊎_elim
            (λ (z : at q (suc j) ≡ 0). inl z)
            (λ (s : at q (suc j) ≡ 0 → ⊥).
            let w = everybody (at q (suc j)) (omega arith) (ok.page.bidders (suc j)) in
            inr (w.0, w.1, w.2, may-stand j w.0 l m s w.1 w.2))
            (same_or_not (at q (suc j)) 0);
        once = λ i j a b c d s e. (let same = ok.page.once (suc i) (suc j) s e in omega arith);
      }

  -- so its total is within what was had and what the slots left can add
  pub node_total : (p : Page) (k had left : ℕ) → Node r p k had → k + left ≡ r.slots → (q : Page) → Agrees p k q →
      total r q ≡ had + sum_from (bid_of r) (λ j. effect_of r (suc j)) (λ j. at q (suc j)) k left
  unfolding total
  node_total p k had left v end q f =
      ap (total_up_to r q) (sym end)
      ∙ total_split q k left
      ∙ ap (λ (a : ℕ). a + sum_from (bid_of r) (λ j. effect_of r (suc j)) (λ j. at q (suc j)) k left) (agree_total p q k f ∙ sym v.had_is)

  -- the page itself is allowed
  pub node_allowed : (p : Page) (k had : ℕ) → Node r p k had → Allowed r p
  node_allowed p k had v = record { page = v.page; unbroken = v.unbroken; reached = v.reached }

  -- the node with bidder b at the next slot
  pub node_next : (p : Page) (k had b : ℕ) → Node r p k had → r.slots ≤ 16 → k < r.slots → b ≤ r.bidders →
      placed p b ≡ false → breaks r (put p (suc k) b) ≡ false → floor_of r (suc k) ≤ bid_of r b →
      Node r (put p (suc k) b) (suc k) (had + bid_of r b * effect_of r (suc k))
  unfolding total_up_to
  node_next p k had b v few inside nth unplaced unbroken high =
      let here : at (put p (suc k) b) (suc k) ≡ b = at-put-same p (suc k) b v.page.sized (omega arith) (omega arith) in
      let other = at-put-other p (suc k) b in
      record {
        page =
            record {
              sized = put-sized p (suc k) b v.page.sized;
              bidders = λ j.
                  ⊎_elim
                  (λ (e : j ≡ suc k). subst (λ (x : ℕ). x ≤ r.bidders) (sym (ap (at (put p (suc k) b)) e ∙ here)) nth)
                  (λ (d : j ≡ suc k → ⊥). subst (λ (x : ℕ). x ≤ r.bidders) (sym (other j d)) (v.page.bidders j))
                  (same_or_not j (suc k));
              slots = λ j l. other j (λ e. absurd (omega arith)) ∙ v.page.slots j l;
              once = λ i j s e.
                  ⊎_elim
                  (λ (x : i ≡ suc k).
                  ⊎_elim
                  (λ (y : j ≡ suc k). x ∙ sym y)
                  (λ (y : j ≡ suc k → ⊥). absurd (again j y (sym e ∙ ap (at (put p (suc k) b)) x ∙ here) (λ z. s (e ∙ z))))
                  (same_or_not j (suc k)))
                  (λ (x : i ≡ suc k → ⊥).
                  ⊎_elim
                  (λ (y : j ≡ suc k). absurd (again i x (e ∙ ap (at (put p (suc k) b)) y ∙ here) s))
                  (λ (y : j ≡ suc k → ⊥). v.page.once i j (λ z. s (other i x ∙ z)) (sym (other i x) ∙ e ∙ other j y))
                  (same_or_not j (suc k)))
                  (same_or_not i (suc k));
            };
        room = inside;
        later = λ j l. other j (λ e. absurd (omega arith)) ∙ v.later j (omega arith);
        unbroken = unbroken;
        reached = λ j s.
            ⊎_elim
            (λ (e : j ≡ suc k). subst (λ (x : ℕ). floor_of r x ≤ bid_of r (at (put p (suc k) b) x)) (sym e) (subst (λ (x : ℕ). floor_of r (suc k) ≤ bid_of r x) (sym here) high))
            (λ (d : j ≡ suc k → ⊥). subst (λ (x : ℕ). floor_of r j ≤ bid_of r x) (sym (other j d)) (v.reached j (λ z. s (other j d ∙ z))))
            (same_or_not j (suc k));
        had_is =
            ap₂ (λ (a x : ℕ). a + bid_of r x * effect_of r (suc k))
            (v.had_is ∙ agree_total (put p (suc k) b) p k (λ j l. sym (other j (λ e. absurd (omega arith)))))
            (sym here);
      }
    where
      -- b stood nowhere on p
      again : (i : ℕ) → (i ≡ suc k → ⊥) → at (put p (suc k) b) i ≡ b → (at (put p (suc k) b) i ≡ 0 → ⊥) → ⊥
      again i d e s =
          let there : at p i ≡ b = sym (at-put-other p (suc k) b i d) ∙ e in
          let place = at-within p i v.page.sized (λ z. s (e ∙ sym there ∙ z)) in
          not_both (placed_at p b i place.0 place.1 there) unplaced

  -- a page that agrees with a node and has b at a slot left breaks what the node with b there breaks
  pub broken-later : ProperRound r → (p : Page) (k had : ℕ) → Node r p k had → (q : Page) → Agrees p k q → Allowed r q →
      (j b : ℕ) → k ≤ j → suc j ≤ 16 → at q (suc j) ≡ b → breaks r (put p (suc j) b) ≡ false
  broken-later c p k had v q f ok j b l room here =
      fails (breaks r (put p (suc j) b))
      (λ t.
      let w = breaks_where r (put p (suc j) b) t in
      not_both
      (breaks-at r q w.0 w.1 (broken_stays (put p (suc j) b) q w.0 kept (c.proper w.0 w.1) w.2))
      ok.unbroken)
    where
      kept : Keeps (put p (suc j) b) q
      kept i s =
          ⊎_elim
          (λ (e : i ≡ suc j). ap (at q) e ∙ here ∙ sym (ap (at (put p (suc j) b)) e ∙ at-put-same p (suc j) b v.page.sized (omega arith) room))
          (λ (d : i ≡ suc j → ⊥).
          let same = at-put-other p (suc j) b i d in
          ⊎_elim (λ (a : k < i). absurd (s (same ∙ v.later i a))) (λ (a : i ≤ k). f i a ∙ sym same) (below_or_not k i))
          (same_or_not i (suc j))
