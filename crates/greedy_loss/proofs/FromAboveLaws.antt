-- Who is eligible on a round whose lists all come from the profile "above named rivals": for the first slot everybody, and for the next one everybody who was
-- eligible for this one, did not win it and does not name who did. For at the next slot a bidder has above it, besides this slot's winner, only those that it had
-- above it at this slot, and there it broke nothing; those on the page already have nobody new above them. Assumes nothing.
use Prim.Native.Nat.{ℕ, zero, suc, ◌<◌, ◌≤◌}
use mathlib.Core.Bool.{Bool, true, false}
use mathlib.Core.Logic.{⊎_elim}
use mathlib.Core.Path.{◌≡◌, sym, ◌∙◌, ap, subst}
use native.Mathlib.Omega.{arith}
use Rattle.basis.specs.Counting.{count_to}
use Rattle.basis.proofs.NumberLaws.{same_or_not, below_or_not}
use Rattle.basis.proofs.TestLaws.{not_both, fails}
use Rattle.sheet.specs.declared.Constraint.{Constraint}
use Rattle.sheet.specs.declared.Page.{Page}
use Rattle.sheet.specs.declared.Round.{Round}
use Rattle.sheet.specs.Encoded.{Condition, on}
use Rattle.sheet.specs.Round.{bid_of, effect_of, floor_of, Has}
use Rattle.sheet.specs.Proper.{ProperRound}
use Rattle.sheet.proofs.EncodedLaws.{as_constraint}
use Rattle.choice.proofs.WinnerLaws.{ranks_cases}
use Rattle.auction.specs.Page.{at, put, empty_page, placed}
use Rattle.auction.specs.Broken.{broken}
use Rattle.auction.specs.Eligible.{eligible}
use Rattle.auction.specs.Greedy.{winner_at, page_up_to}
use Rattle.auction.proofs.PageLaws.{at-put-same, at-put-other, at-empty, empty-placed, placed-put}
use Rattle.auction.proofs.BrokenLaws.{unbroken-eligible, eligible_unplaced, eligible-unbroken, pair_where, pair_there}
use Rattle.auction.proofs.GreedyLaws.{up_to-next, up_to-sized, up_to-later, up_to-slot, up_to-unbroken, winner-eligible, empty-nobody}

-- the constraints of the round are the pairs in which a bidder's rival stands above it: no others, and all of them
pub record FromAbove (r : Round) (rival : ℕ → ℕ → Bool) : Type 0 where
  pub only : (q : Constraint) → Has r q →
      (p : Condition) × (rival p.owner p.other ≡ true) × (0 < p.other) × (0 < p.others) × (p.others < p.own) × (as_constraint p ≡ q)
  pub all : (p : Condition) → 0 < p.owner → p.owner ≤ r.bidders → rival p.owner p.other ≡ true → 0 < p.others → p.others < p.own → p.own ≤ r.slots →
      Has r (as_constraint p)

-- nobody is named by more than d bidders
abbrev pub NamedAtMost : (ℕ → ℕ → Bool) → (n d : ℕ) → Type 0
NamedAtMost rival n d = (j : ℕ) → 0 < j → j ≤ n → count_to (λ i. rival (suc i) j) n ≤ d

module _ (r : Round) (c : ProperRound r) (without_floors : (k : ℕ) → floor_of r k ≡ 0) (rival : ℕ → ℕ → Bool) (v : FromAbove r rival) where
  -- eligible for slot k + 1, with slots 1 to k filled
  abbrev pub eligible_for : ℕ → ℕ → Bool
  eligible_for k b = eligible r (page_up_to r k) (suc k) b

  abbrev pub won_by : ℕ → ℕ
  won_by k = winner_at r (page_up_to r k) (suc k)

  -- a page on which nobody stands below a rival that it names breaks nothing
  none_below : (p : Page) →
      ((q : Condition) → Has r (as_constraint q) → rival q.owner q.other ≡ true → 0 < q.owner → 0 < q.other → 0 < q.others → q.others < q.own →
      at p q.own ≡ q.owner → at p q.others ≡ q.other → ⊥) →
      (q : Constraint) → Has r q → broken p q ≡ false
  none_below p h q a =
      let w = v.only q a in
      let pair = w.0 in
      let other = w.2 in
      let above = w.4 in
      let owned : pair.owner ≡ 0 → ⊥ = λ z. (c.proper q a).owned (ap (λ (x : Constraint). x.owner.0) (sym w.5) ∙ (unfold as_constraint in z)) in
      fails (broken p q)
      (λ t.
      let both = pair_where p pair.owner pair.own pair.other pair.others (omega arith) other (ap (broken p) w.5 ∙ t) in
      h pair (subst (Has r) (sym w.5) a) w.1 (omega arith) other w.3 above both.0 both.1)

  -- for slot 1 everybody is eligible
  pub first-eligible : (b : ℕ) → (b ≡ 0 → ⊥) → eligible_for 0 b ≡ true
  unfolding page_up_to
  first-eligible b some =
      unbroken-eligible r empty_page 1 b (let none = without_floors 1 in omega arith) (empty-placed b some)
      (none_below (put empty_page 1 b)
      (λ q h named owner other others above own there.
      let none = at-put-other empty_page 1 b q.own (λ e. absurd (omega arith)) ∙ at-empty q.own in
      omega arith))

  -- Somebody eligible for slot k + 1 that does not win it and does not name its winner, at the next slot.
  module _ (k b : ℕ) (room : suc k < r.slots) (some : b ≡ 0 → ⊥) (most : b ≤ r.bidders) (e : eligible_for k b ≡ true) (lost : b ≡ won_by k → ⊥)
      (unnamed : rival b (won_by k) ≡ false) where
    abbrev before : Page
    before = page_up_to r k

    abbrev filled : Page
    filled = page_up_to r (suc k)

    abbrev next : Page
    next = put filled (suc (suc k)) b

    still_unplaced : placed filled b ≡ false
    still_unplaced =
        fails (placed filled b)
        (λ t.
        ⊎_elim
        lost
        (λ (x : placed before b ≡ true). not_both x (eligible_unplaced r before (suc k) b e))
        (placed-put before (suc k) (won_by k) b (up_to-sized r k) (omega arith) (let few = c.most_slots in omega arith)
        (ap (λ (x : Page). placed x b) (sym (up_to-next r k)) ∙ t)))

    -- it names nobody above it: not the winner, nor anybody before, or it would have been below that one at slot k + 1
    names-none : (j l : ℕ) → rival b j ≡ true → 0 < j → 0 < l → l ≤ suc k → at filled l ≡ j → ⊥
    names-none j l named other first low there =
        let few = c.most_slots in
        ⊎_elim
        (λ (z : l ≡ suc k).
        let winner : j ≡ won_by k = sym there ∙ ap (at filled) z ∙ up_to-slot r k (omega arith) in
        not_both (subst (λ (x : ℕ). rival b x ≡ true) winner named) unnamed)
        (λ (z : l ≡ suc k → ⊥).
        let here : at before l ≡ j
        = sym (at-put-other before (suc k) (won_by k) l z) ∙ ap (λ (x : Page). at x l) (sym (up_to-next r k)) ∙ there in
        not_both
        (pair_there (put before (suc k) b) b (suc k) j l (omega arith) (omega arith) other
        (at-put-same before (suc k) b (up_to-sized r k) (omega arith) (omega arith))
        (at-put-other before (suc k) b l z ∙ here))
        (eligible-unbroken r before (suc k) b (up_to-sized r k) (omega arith) (omega arith) e (as_constraint (on b (suc k) j l))
        (v.all (on b (suc k) j l) (omega arith) most named first (omega arith) (omega arith))))
        (same_or_not l (suc k))

    -- and nobody on the page names anybody above it
    pub stays_eligible : eligible_for (suc k) b ≡ true
    stays_eligible =
        unbroken-eligible r filled (suc (suc k)) b (let none = without_floors (suc (suc k)) in omega arith) still_unplaced
        (none_below next
        (λ q h named owner other others above own there.
        let few = c.most_slots in
        ⊎_elim
        (λ (z : q.own ≡ suc (suc k)).
        let mine : q.owner ≡ b
        = sym own ∙ ap (at next) z ∙ at-put-same filled (suc (suc k)) b (up_to-sized r (suc k)) (omega arith) (omega arith) in
        names-none q.other q.others (subst (λ (x : ℕ). rival x q.other ≡ true) mine named) other others (omega arith)
        (sym (at-put-other filled (suc (suc k)) b q.others (λ y. absurd (omega arith))) ∙ there))
        (λ (z : q.own ≡ suc (suc k) → ⊥).
        let own-before : at filled q.own ≡ q.owner = sym (at-put-other filled (suc (suc k)) b q.own z) ∙ own in
        ⊎_elim
        (λ (later : suc k < q.own). let nobody = up_to-later r (suc k) q.own later in omega arith)
        (λ (y : q.own ≤ suc k).
        not_both
        (pair_there filled q.owner q.own q.other q.others (omega arith) (omega arith) other own-before
        (sym (at-put-other filled (suc (suc k)) b q.others (λ x. absurd (omega arith))) ∙ there))
        (up_to-unbroken r c.proper (suc k) (omega arith) (as_constraint q) h))
        (below_or_not (suc k) q.own))
        (same_or_not q.own (suc (suc k)))))

  -- a slot that somebody is eligible for is won, and by no lower bid
  pub won_no_lower : (k b : ℕ) → (b ≡ 0 → ⊥) → b ≤ r.bidders → eligible_for k b ≡ true → (won_by k ≡ 0 → ⊥) × (bid_of r b ≤ bid_of r (won_by k))
  won_no_lower k b some most e =
      let won : won_by k ≡ 0 → ⊥ = λ z. not_both e (empty-nobody r (page_up_to r k) (suc k) z b (omega arith) most) in (
        won,
        ⊎_elim
            (λ (h : bid_of r b < bid_of r (won_by k)). omega arith)
            (λ (h : (bid_of r b ≡ bid_of r (won_by k)) × (won_by k ≤ b)). omega arith)
            (ranks_cases (bid_of r) (won_by k) b ((winner-eligible r (page_up_to r k) (suc k) won).first b (omega arith) most e)),
      )

-- effects do not rise
pub effects_fall : (r : Round) → ProperRound r → (k s : ℕ) → k ≤ s → effect_of r (suc s) ≤ effect_of r (suc k)
effects_fall r c k zero l = let e : k ≡ 0 = omega arith in subst (λ (x : ℕ). effect_of r 1 ≤ effect_of r (suc x)) (sym e) (omega arith)
effects_fall r c k (suc s) l =
    ⊎_elim
    (λ (e : k ≡ suc s). subst (λ (x : ℕ). effect_of r (suc (suc s)) ≤ effect_of r (suc x)) (sym e) (omega arith))
    (λ (d : k ≡ suc s → ⊥). let before = effects_fall r c k s (omega arith) in let next = c.no_rise (suc s) (omega arith) in omega arith)
    (same_or_not k (suc s))
