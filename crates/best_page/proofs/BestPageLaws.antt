-- Trying every page finds the best one: the steps of the search, with nothing left out. Assumes nothing.
use Prim.Native.Nat.{ℕ, zero, suc, ◌+◌, ◌<◌, ◌≤◌}
use borrow.Author.Tests.{le-leb, leb-true, leb-false, eq-eqb, ne_eqb, eqb-true, eqb-false, not-true}
use mathlib.Core.Bool.{Bool, true, false, cond, not, ◌&&◌, ◌||◌}
use mathlib.Core.Logic.{inl, inr, ⊎_elim}
use mathlib.Core.Path.{◌≡◌, refl, sym, ◌∙◌, ap, subst}
use native.Mathlib.Omega.{arith}
use lib.Dec.{eqb, leb}
use Rattle.basis.specs.Tests.{all_below}
use Rattle.basis.proofs.TestLaws.{holds_or_fails, not_both, and_holds, and_parts, or_parts, or_left, or_right, not_holds, at_all, all-at}
use Rattle.sheet.specs.declared.Page.{Page}
use Rattle.sheet.specs.declared.Round.{Round}
use Rattle.sheet.specs.Round.{bid_of, effect_of, floor_of}
use Rattle.auction.specs.Page.{at, put, empty_page, Sized}
use Rattle.auction.specs.Broken.{breaks}
use Rattle.auction.specs.Except.{SameSets}
use Rattle.sheet.specs.Proper.{ProperRound}
use Rattle.auction.proofs.PageLaws.{at_zero, put-sized, empty-sized, at-put-same, at-put-other, at-empty}
use Rattle.basis.proofs.NumberLaws.{same_or_not, below_or_not}
use Rattle.auction.proofs.BrokenLaws.{none-breaks, empty-unbroken}
use Rattle.best_page.specs.Best.{Best}
use Rattle.auction.specs.Allowed.{Allowed, total}
use Rattle.best_page.specs.EngineSearch.{Searched}
use Rattle.best_page.specs.EngineSearch.{Agrees, Tried}
use Rattle.best_page.specs.BestPage.{nobody_twice, reaches_floors, is_allowed, keep, each_choice, try_all, best_page_of}
use Rattle.best_page.specs.declared.Answer.{Answer}
use Rattle.best_page.proofs.BestLaws.{best_unique, best-sets}
use Rattle.best_page.proofs.SearchLaws.{searched_none, searched_best}
use Rattle.best_page.proofs.TriedLaws.{all_agree, settled_only, none_tried, choice_tried, all_tried}

-- slots 1 to k are chosen, with numbers of the round's bidders, and the later ones are empty
record Chosen_to (r : Round) (p : Page) (k : ℕ) : Type 0 where
  sized : Sized p
  bidders : (j : ℕ) → at p j ≤ r.bidders
  later : (j : ℕ) → k < j → at p j ≡ 0

chosen_next : (r : Round) (p : Page) (k b : ℕ) → Chosen_to r p k → suc k ≤ 16 → b ≤ r.bidders → Chosen_to r (put p (suc k) b) (suc k)
chosen_next r p k b v room m =
    record {
      sized = put-sized p (suc k) b v.sized;
      bidders = λ j.
          ⊎_elim
          (λ (e : j ≡ suc k).
          let here = at-put-same p (suc k) b v.sized (omega arith) room in
          subst (λ (x : ℕ). at (put p (suc k) b) x ≤ r.bidders) (sym e) (omega arith))
          (λ (d : j ≡ suc k → ⊥). let other = at-put-other p (suc k) b j d in let h = v.bidders j in omega arith)
          (same_or_not j (suc k));
      later = λ j l. at-put-other p (suc k) b j (λ e. absurd (omega arith)) ∙ v.later j (omega arith);
    }

-- the test says exactly that a chosen page is allowed
twice_told : (p : Page) (m : ℕ) → nobody_twice p m ≡ true → (i j : ℕ) → i < m → j < m → (at p (suc i) ≡ 0 → ⊥) → at p (suc i) ≡ at p (suc j) → i ≡ j
unfolding nobody_twice
twice_told p m e i j a b s q =
    let row = all-at (λ i. all_below (λ j. (eqb (at p (suc i)) 0 || not (eqb (at p (suc i)) (at p (suc j)))) || eqb i j) m) m e i a in
    let entry = all-at (λ j. (eqb (at p (suc i)) 0 || not (eqb (at p (suc i)) (at p (suc j)))) || eqb i j) m row j b in
    ⊎_elim
    (λ (t : (eqb (at p (suc i)) 0 || not (eqb (at p (suc i)) (at p (suc j)))) ≡ true).
    ⊎_elim
    (λ (u : eqb (at p (suc i)) 0 ≡ true). absurd (s (eqb-true (at p (suc i)) 0 u)))
    (λ (u : not (eqb (at p (suc i)) (at p (suc j))) ≡ true).
    absurd (eqb-false (at p (suc i)) (at p (suc j)) (not-true (eqb (at p (suc i)) (at p (suc j))) u) q))
    (or_parts (eqb (at p (suc i)) 0) (not (eqb (at p (suc i)) (at p (suc j)))) t))
    (λ (t : eqb i j ≡ true). eqb-true i j t)
    (or_parts (eqb (at p (suc i)) 0 || not (eqb (at p (suc i)) (at p (suc j)))) (eqb i j) entry)

told_twice : (p : Page) (m : ℕ) → ((i j : ℕ) → (at p (suc i) ≡ 0 → ⊥) → at p (suc i) ≡ at p (suc j) → i ≡ j) → nobody_twice p m ≡ true
unfolding nobody_twice
told_twice p m h =
    at_all (λ i. all_below (λ j. (eqb (at p (suc i)) 0 || not (eqb (at p (suc i)) (at p (suc j)))) || eqb i j) m) m
    (λ i a.
    at_all (λ j. (eqb (at p (suc i)) 0 || not (eqb (at p (suc i)) (at p (suc j)))) || eqb i j) m
    (λ j b.
    ⊎_elim
    (λ (z : at p (suc i) ≡ 0). or_left (eqb i j) (or_left (not (eqb (at p (suc i)) (at p (suc j)))) (eq-eqb (at p (suc i)) 0 z)))
    (λ (s : at p (suc i) ≡ 0 → ⊥).
    ⊎_elim
    (λ (q : at p (suc i) ≡ at p (suc j)). or_right (eqb (at p (suc i)) 0 || not (eqb (at p (suc i)) (at p (suc j)))) (eq-eqb i j (h i j s q)))
    (λ (d : at p (suc i) ≡ at p (suc j) → ⊥).
    or_left (eqb i j) (or_right (eqb (at p (suc i)) 0) (not_holds (ne_eqb (at p (suc i)) (at p (suc j)) d))))
    (same_or_not (at p (suc i)) (at p (suc j))))
    (same_or_not (at p (suc i)) 0)))

floors-told : (r : Round) (p : Page) → reaches_floors r p ≡ true → (k : ℕ) → k < r.slots → (at p (suc k) ≡ 0 → ⊥) → floor_of r (suc k) ≤ bid_of r (at p (suc k))
unfolding reaches_floors
floors-told r p e k l s =
    ⊎_elim
    (λ (t : eqb (at p (suc k)) 0 ≡ true). absurd (s (eqb-true (at p (suc k)) 0 t)))
    (λ (t : leb (floor_of r (suc k)) (bid_of r (at p (suc k))) ≡ true). leb-true (floor_of r (suc k)) (bid_of r (at p (suc k))) t)
    (or_parts (eqb (at p (suc k)) 0) (leb (floor_of r (suc k)) (bid_of r (at p (suc k))))
    (all-at (λ k. eqb (at p (suc k)) 0 || leb (floor_of r (suc k)) (bid_of r (at p (suc k)))) r.slots e k l))

told-floors : (r : Round) (p : Page) → ((k : ℕ) → (at p k ≡ 0 → ⊥) → floor_of r k ≤ bid_of r (at p k)) → reaches_floors r p ≡ true
unfolding reaches_floors
told-floors r p h =
    at_all (λ k. eqb (at p (suc k)) 0 || leb (floor_of r (suc k)) (bid_of r (at p (suc k)))) r.slots
    (λ k l.
    ⊎_elim
    (λ (z : at p (suc k) ≡ 0). or_left (leb (floor_of r (suc k)) (bid_of r (at p (suc k)))) (eq-eqb (at p (suc k)) 0 z))
    (λ (s : at p (suc k) ≡ 0 → ⊥). or_right (eqb (at p (suc k)) 0) (le-leb (floor_of r (suc k)) (bid_of r (at p (suc k))) (h (suc k) s)))
    (same_or_not (at p (suc k)) 0))

module _ (r : Round) (few : r.slots ≤ 16) where
  is_allowed_lem : (p : Page) → Chosen_to r p r.slots → is_allowed r p ≡ true → Allowed r p
  unfolding is_allowed
  is_allowed_lem p v e =
      let both = and_parts (nobody_twice p r.slots && not (breaks r p)) (reaches_floors r p) e in
      let parts = and_parts (nobody_twice p r.slots) (not (breaks r p)) both.0 in
      record {
        page = record { sized = v.sized; bidders = v.bidders; slots = v.later; once = once parts.0 };
        unbroken = not-true (breaks r p) parts.1;
        reached = reached both.1;
      }
    where
      inside : (j : ℕ) → (at p j ≡ 0 → ⊥) → j ≤ r.slots
      inside j s = ⊎_elim (λ (l : r.slots < j). absurd (s (v.later j l))) (λ (l : j ≤ r.slots). l) (below_or_not r.slots j)

      once : nobody_twice p r.slots ≡ true → (i j : ℕ) → (at p i ≡ 0 → ⊥) → at p i ≡ at p j → i ≡ j
      once t zero j s q = absurd (s (at_zero p))
      once t (suc i) zero s q = absurd (s (q ∙ at_zero p))
      once t (suc i) (suc j) s q =
          ap suc (twice_told p r.slots t i j (inside (suc i) s) (inside (suc j) (λ z. s (q ∙ z))) s q)

      reached : reaches_floors r p ≡ true → (k : ℕ) → (at p k ≡ 0 → ⊥) → floor_of r k ≤ bid_of r (at p k)
      reached t zero s = absurd (s (at_zero p))
      reached t (suc k) s = floors-told r p t k (inside (suc k) s) s

  allowed_is : (p : Page) → Allowed r p → is_allowed r p ≡ true
  unfolding is_allowed
  allowed_is p ok =
      and_holds
      (and_holds (told_twice p r.slots (λ i j s q. (let e = ok.page.once (suc i) (suc j) s q in omega arith))) (not_holds ok.unbroken))
      (told-floors r p ok.reached)

  -- a chosen page is the only one that agrees with it
  chosen_only : (p : Page) → Chosen_to r p r.slots → (q : Page) → Agrees p r.slots q → Allowed r q → q ≡ p
  chosen_only p v q f ok = settled_only r p v.sized v.later q f ok

  kept : (p : Page) (a : Answer) → Chosen_to r p r.slots → Searched r (Agrees p r.slots) a.need a.page (keep r p a).need (keep r p a).page
  unfolding keep
  kept p a v =
      ⊎_elim
      (λ (t : (is_allowed r p && leb a.need (total r p)) ≡ true).
      let parts = and_parts (is_allowed r p) (leb a.need (total r p)) t in
      subst (λ (x : Bool). Searched r (Agrees p r.slots) a.need a.page (cond x (record { page = p; need = suc (total r p) }) a).need (cond x (record { page = p; need = suc (total r p) }) a).page) (sym t)
      (inr
      (record {
        within = λ j h. refl;
        allowed = is_allowed_lem p v parts.0;
        enough = leb-true a.need (total r p) parts.1;
        next = refl;
        largest = λ q f ok. (let e = ap (total r) (chosen_only p v q f ok) in omega arith);
        first = λ q f ok e. inl (sym (chosen_only p v q f ok));
      })))
      (λ (t : (is_allowed r p && leb a.need (total r p)) ≡ false).
      subst (λ (x : Bool). Searched r (Agrees p r.slots) a.need a.page (cond x (record { page = p; need = suc (total r p) }) a).need (cond x (record { page = p; need = suc (total r p) }) a).page) (sym t)
      (searched_none r (Agrees p r.slots) a.need a.page
      (λ q f ok.
      let same = chosen_only p v q f ok in
      let e = ap (total r) same in
      ⊎_elim
      (λ (u : is_allowed r p ≡ true).
      ⊎_elim
      (λ (x : leb a.need (total r p) ≡ true). absurd (not_both (and_holds u x) t))
      (λ (x : leb a.need (total r p) ≡ false). let l = leb-false a.need (total r p) x in omega arith)
      (holds_or_fails (leb a.need (total r p))))
      (λ (u : is_allowed r p ≡ false). absurd (not_both (subst (λ (x : Page). is_allowed r x ≡ true) same (allowed_is q ok)) u))
      (holds_or_fails (is_allowed r p)))))
      (holds_or_fails (is_allowed r p && leb a.need (total r p)))

  -- trying all pages from a node is a search through them
  all_searched : (left k : ℕ) (p : Page) (a : Answer) → k + left ≡ r.slots → Chosen_to r p k →
      Searched r (Agrees p k) a.need a.page (try_all r left k p a).need (try_all r left k p a).page
  unfolding try_all each_choice
  all_searched zero k p a end v =
      let same : k ≡ r.slots = omega arith in
      subst (λ (n : ℕ). Searched r (Agrees p n) a.need a.page (keep r p a).need (keep r p a).page) (sym same)
      (kept p a (subst (Chosen_to r p) same v))
  all_searched (suc left) k p a end v =
      all_tried r p k (suc r.bidders) a.need a.page _ _ (omega arith)
      (choices left k p a v (omega arith) (λ b m x. all_searched left (suc k) (put p (suc k) b) x (omega arith) (chosen_next r p k b v (omega arith) m)) (suc r.bidders) (omega arith))
    where
      choices : (left k : ℕ) (p : Page) (a : Answer) → Chosen_to r p k → suc k ≤ 16 →
          ((b : ℕ) → b ≤ r.bidders → (x : Answer) →
          Searched r (Agrees (put p (suc k) b) (suc k)) x.need x.page (try_all r left (suc k) (put p (suc k) b) x).need (try_all r left (suc k) (put p (suc k) b) x).page) →
          (n : ℕ) → n ≤ suc r.bidders →
          Searched r (Tried p k n) a.need a.page (each_choice (λ b. try_all r left (suc k) (put p (suc k) b)) n a).need (each_choice (λ b. try_all r left (suc k) (put p (suc k) b)) n a).page
      choices left k p a v room deeper zero m = none_tried r p k v.sized room a.need a.page
      choices left k p a v room deeper (suc n) m =
          let before = each_choice (λ b. try_all r left (suc k) (put p (suc k) b)) n a in
          choice_tried r p k v.sized room n a.need a.page before.need before.page _ _
          (choices left k p a v room deeper n (omega arith)) (deeper n (omega arith) before)

  empty_chosen : Chosen_to r empty_page 0
  empty_chosen =
      record {
        sized = empty-sized;
        bidders = λ j. (let e = at-empty j in omega arith);
        later = λ j l. at-empty j;
      }

  pub empty-allowed : ProperRound r → Allowed r empty_page
  empty-allowed c =
      record {
        page =
            record {
              sized = empty-sized;
              bidders = λ j. (let e = at-empty j in omega arith);
              slots = λ j l. at-empty j;
              once = λ i j s e. absurd (s (at-empty i));
            };
        unbroken = none-breaks r empty_page (λ q h. empty-unbroken q (c.proper q h));
        reached = λ k s. absurd (s (at-empty k));
      }

  -- The best page is best, and every best page is it.
  pub best_page_lem : ProperRound r → Best r (best_page_of r)
  unfolding best_page_of
  best_page_lem c =
      (searched_best r (Agrees empty_page 0) 0 empty_page _ _ (λ q ok. all_agree q) empty_page (empty-allowed c) (omega arith)
      (all_searched r.slots 0 empty_page (record { page = empty_page; need = 0 }) (omega arith) empty_chosen)
      ).0

  pub is_best_page : ProperRound r → (p : Page) → Best r p → p ≡ best_page_of r
  is_best_page c p b = best_unique r p (best_page_of r) b (best_page_lem c)

-- so rounds with the same sets of constraints and the same effects have the same best page
pub best_page-sets : (r r' : Round) → SameSets r r' → ((k : ℕ) → effect_of r k ≡ effect_of r' k) → ProperRound r → ProperRound r' → best_page_of r ≡ best_page_of r'
best_page-sets r r' x effects proper proper' =
    is_best_page r' proper'.most_slots proper' (best_page_of r)
    (best-sets r r' x effects (best_page_of r) (best_page_lem r proper.most_slots proper))
