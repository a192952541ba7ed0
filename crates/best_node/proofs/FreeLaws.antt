-- What the free seats of a node tell: who stands at a slot left of a page that the node can become has a free seat there; with nothing free the page is all
-- that it can become; a free seat taken, or the next slot passed over, gives a node again, whose free seats are the old ones that the choice does not shut.
-- Assumes nothing.
use Prim.Native.Nat.{ℕ, zero, suc, ◌+◌, ◌*◌, ◌-◌, ◌^◌, ◌<◌, ◌≤◌}
use borrow.Author.Tests.{eq-eqb, ne_eqb, eqb-false, not-true, lt-ltb, le-ltb, ltb-true, le-leb, leb-true}
use mathlib.Core.Bool.{Bool, true, false, not, ◌&&◌, ◌||◌, and-false, and_assoc, or-false}
use mathlib.Core.List.{List}
use mathlib.Core.Logic.{◌⊎◌, inl, inr, ⊎_elim}
use mathlib.Core.Path.{◌≡◌, refl, sym, ◌∙◌, ap, ap₂, subst}
use native.Mathlib.Nat.{eq-or-lt_of_le, le_of_suc-le-suc}
use native.Mathlib.Omega.{arith}
use lib.Dec.{eqb, ltb, leb}
use lib.ListN.{get_or}
use Rattle.basis.specs.Bits.{bit_of}
use Rattle.basis.specs.Tests.{any_below}
use Rattle.basis.proofs.BitLaws.{bit_zero}
use Rattle.basis.proofs.NumberLaws.{same_or_not, below_or_not}
use Rattle.basis.proofs.TestLaws.{holds_or_fails, not_both, same_tests, and_holds, and_parts, or_left, or_right, or_parts, not_holds, any_at, any_where}
use Rattle.sheet.specs.declared.Page.{Page}
use Rattle.sheet.specs.declared.Round.{Round}
use Rattle.sheet.specs.Round.{bid_of, effect_of, floor_of}
use Rattle.auction.specs.Allowed.{Allowed, total_up_to}
use Rattle.auction.specs.Broken.{breaks}
use Rattle.auction.specs.Page.{at, put, placed, Sized}
use Rattle.auction.proofs.PageLaws.{put-sized, at_zero, at-put-same, at-put-other, placed_at, placed_where, placed-put, page-same}
use Rattle.best_page.specs.EngineSearch.{Agrees}
use Rattle.best_seats.specs.EngineSeats.{somewhere}
use Rattle.best_bound.specs.EngineBound.{gain_in}
use Rattle.best_clash.specs.EngineClash.{clash, clashes, may_stand, may_have, FreeFor}
use Rattle.best_clash.specs.EngineMarks.{some_marks}
use Rattle.best_clash.proofs.ClashLaws.{breaks_added, unbroken-alone}
use Rattle.best_clash.proofs.MarkLaws.{pairs_clash}
use Rattle.best_node.specs.EngineNode.{TablesOf, Node}
use Rattle.best_node.proofs.NodeLaws.{later_unplaced, node_next, broken-later}

-- One slot more agrees.
pub agrees_next : (p q : Page) (k b : ℕ) → Sized p → suc k ≤ 16 → Agrees p k q → at q (suc k) ≡ b → Agrees (put p (suc k) b) (suc k) q
agrees_next p q k b s room f here j l =
    ⊎_elim
    (λ (e : j ≡ suc k). ap (at q) e ∙ here ∙ sym (ap (at (put p (suc k) b)) e ∙ at-put-same p (suc k) b s (omega arith) room))
    (λ (m : j < suc k). f j (le_of_suc-le-suc m) ∙ sym (at-put-other p (suc k) b j (λ e. absurd (omega arith))))
    (eq-or-lt_of_le l)

pub agrees_before : (p q : Page) (k b : ℕ) → Sized p → suc k ≤ 16 → Agrees (put p (suc k) b) (suc k) q → Agrees p k q × (at q (suc k) ≡ b)
agrees_before p q k b s room f = (
  λ j l. f j (omega arith) ∙ at-put-other p (suc k) b j (λ e. absurd (omega arith)),
  f (suc k) (omega arith) ∙ at-put-same p (suc k) b s (omega arith) room,
)

-- One bidder more on a page, at an empty slot: who has a slot then, and who clashes.
module _ (r : Round) (p : Page) (k b : ℕ) (s : Sized p) (room : suc k ≤ 16) (empty : at p (suc k) ≡ 0) (some : b ≡ 0 → ⊥) where
  abbrev next : Page
  next = put p (suc k) b

  here : at next (suc k) ≡ b
  here = at-put-same p (suc k) b s (omega arith) room

  another_placed : (c : ℕ) → (c ≡ 0 → ⊥) → (c ≡ b → ⊥) → placed next c ≡ placed p c
  another_placed c c_some other =
      same_tests (placed next c) (placed p c)
      (λ e.
      ⊎_elim
      (λ (t : c ≡ b). absurd (other t))
      (λ (t : placed p c ≡ true). t)
      (placed-put p (suc k) b c s (omega arith) room e))
      (λ e.
      let w = placed_where p c e in
      placed_at next c w.0 w.1 w.2
      (at-put-other p (suc k) b w.0 (λ x. absurd (c_some (sym w.3 ∙ ap (at p) x ∙ empty))) ∙ w.3))

  module _ (c l : ℕ) (later : k < l) where
    abbrev hits : Page → ℕ → Bool
    hits q i = not (eqb (at q (suc i)) 0) && clash r c l (at q (suc i)) (suc i)

    hit_before : (i : ℕ) → (i ≡ k → ⊥) → hits next i ≡ hits p i
    hit_before i d = ap (λ (x : ℕ). not (eqb x 0) && clash r c l x (suc i)) (at-put-other p (suc k) b (suc i) (λ e. d (omega arith)))

    hit_here : hits next k ≡ clash r c l b (suc k)
    hit_here =
        ap (λ (x : ℕ). not (eqb x 0) && clash r c l x (suc k)) here
        ∙ ap (λ (t : Bool). not t && clash r c l b (suc k)) (ne_eqb b 0 some)

    hit_apart : (i : ℕ) → hits p i ≡ true → i ≡ k → ⊥
    hit_apart i e same =
        let both = and_parts (not (eqb (at p (suc i)) 0)) (clash r c l (at p (suc i)) (suc i)) e in
        eqb-false (at p (suc i)) 0 (not-true (eqb (at p (suc i)) 0) both.0) (ap (λ (x : ℕ). at p (suc x)) same ∙ empty)

    clashes_more : clashes r next l c ≡ (clashes r p l c || clash r c l b (suc k))
    unfolding clashes
    clashes_more =
        let own = clash r c l c l in
        let new = clash r c l b (suc k) in
        same_tests (own || any_below (hits next) l) ((own || any_below (hits p) l) || new)
        (λ e.
        ⊎_elim
        (λ (t : own ≡ true). or_left new (or_left (any_below (hits p) l) t))
        (λ (t : any_below (hits next) l ≡ true).
        let w = any_where (hits next) l t in
        ⊎_elim
        (λ (same : w.0 ≡ k). or_right (own || any_below (hits p) l) (sym hit_here ∙ sym (ap (hits next) same) ∙ w.2))
        (λ (d : w.0 ≡ k → ⊥). or_left new (or_right own (any_at (hits p) l w.0 w.1 (sym (hit_before w.0 d) ∙ w.2))))
        (same_or_not w.0 k))
        (or_parts own (any_below (hits next) l) e))
        (λ e.
        ⊎_elim
        (λ (t : (own || any_below (hits p) l) ≡ true).
        ⊎_elim
        (λ (u : own ≡ true). or_left (any_below (hits next) l) u)
        (λ (u : any_below (hits p) l ≡ true).
        let w = any_where (hits p) l u in
        or_right own (any_at (hits next) l w.0 w.1 (hit_before w.0 (hit_apart w.0 w.2) ∙ w.2)))
        (or_parts own (any_below (hits p) l) t))
        (λ (t : new ≡ true). or_right own (any_at (hits next) l k later (hit_here ∙ t)))
        (or_parts (own || any_below (hits p) l) new e))

-- who clashes alone clashes on every page
alone-clashes : (r : Round) (p : Page) (l c : ℕ) → clash r c l c l ≡ true → clashes r p l c ≡ true
unfolding clashes
alone-clashes r p l c e = or_left _ e

neither : (a b : Bool) → (not a && not b) ≡ not (a || b)
neither true b = refl
neither false b = refl

module _ (r : Round) (ranked shut gains : List ℕ) (v : TablesOf r ranked shut gains) (p : Page) (k had : ℕ) (w : Node r p k had)
    (free : ℕ) (f : FreeFor r ranked p k free) where
  rank_of_seat : (b : ℕ) → (b ≡ 0 → ⊥) → b ≤ r.bidders → (i : ℕ) × (i < r.bidders) × (get_or ranked i 0 ≡ b)
  rank_of_seat b some low = v.ranking.everybody b (omega arith) low

  -- somebody stands within the page's slots
  stands-within : (q : Page) → Allowed r q → (j : ℕ) → (at q (suc j) ≡ 0 → ⊥) → j < r.slots
  stands-within q ok j s =
      ⊎_elim (λ (l : j < r.slots). l) (λ (l : r.slots ≤ j). absurd (s (ok.page.slots (suc j) (omega arith)))) (below_or_not j r.slots)

  -- who stands at a slot left of a page that the node can become has a free seat there
  pub seat_free : (q : Page) → Agrees p k q → Allowed r q → (j i : ℕ) → k ≤ j → (at q (suc j) ≡ 0 → ⊥) → i < r.bidders → get_or ranked i 0 ≡ at q (suc j) →
      bit_of free (8 * (j - k) + i) ≡ true
  unfolding may_have may_stand
  seat_free q a ok j i l s low e =
      let inside = stands-within q ok j s in
      let short = v.few_slots in
      let few = v.few_bidders in
      let at_j : suc (k + (j - k)) ≡ suc j = omega arith in
      f.told (j - k) i (omega arith) (omega arith)
      ∙ ap₂ ◌&&◌ (lt-ltb i r.bidders low)
      (ap₂ (may_have r p) at_j e
      ∙ and_holds (le-leb (floor_of r (suc j)) (bid_of r (at q (suc j))) (ok.reached (suc j) s))
      (and_holds (not_holds (later_unplaced r p k had w q a ok j l s))
      (not_holds (broken-later r v.proper p k had w q a ok j (at q (suc j)) l (omega arith) refl))))

  pub somewhere-free : (q : Page) → Agrees p k q → Allowed r q → (j i : ℕ) → k ≤ j → (at q (suc j) ≡ 0 → ⊥) → i < r.bidders → get_or ranked i 0 ≡ at q (suc j) →
      somewhere free i ≡ true
  unfolding somewhere
  somewhere-free q a ok j i l s low e =
      let inside = stands-within q ok j s in
      let short = v.few_slots in
      any_at (λ n. bit_of free (8 * n + i)) 8 (j - k) (omega arith) (seat_free q a ok j i l s low e)

  -- so with nothing free nobody can join
  pub only_page : free ≡ 0 → (q : Page) → Agrees p k q → Allowed r q → q ≡ p
  only_page none q a ok =
      page-same q p ok.page.sized w.page.sized
      (λ j. ⊎_elim (λ (l : k < j). nobody j l ∙ sym (w.later j l)) (λ (l : j ≤ k). a j l) (below_or_not k j))
    where
      nobody : (j : ℕ) → k < j → at q j ≡ 0
      nobody zero l = at_zero q
      nobody (suc j) l =
          ⊎_elim
          (λ (z : at q (suc j) ≡ 0). z)
          (λ (s : at q (suc j) ≡ 0 → ⊥).
          let i = rank_of_seat (at q (suc j)) s (ok.page.bidders (suc j)) in
          absurd
          (not_both (seat_free q a ok j i.0 (omega arith) s i.1 i.2) (ap (λ (x : ℕ). bit_of x (8 * (j - k) + i.0)) none ∙ bit_zero (8 * (j - k) + i.0))))
          (same_or_not (at q (suc j)) 0)

  -- where something is free a slot is left
  pub slot_left : (free ≡ 0 → ⊥) → k < r.slots
  slot_left some =
      ⊎_elim
      (λ (l : k < r.slots). l)
      (λ (l : r.slots ≤ k).
      let none : 8 * (r.slots - k) ≡ 0 = omega arith in
      let low = subst (λ (n : ℕ). free < 2 ^ n) none f.low in
      absurd (some (omega arith)))
      (below_or_not k r.slots)

  -- The next slot passed over.
  pub passed_node : k < r.slots → Node r p (suc k) had
  unfolding total_up_to bid_of
  passed_node inside =
      record {
        page = w.page;
        room = inside;
        later = λ j l. w.later j (omega arith);
        unbroken = w.unbroken;
        reached = w.reached;
        had_is =
            w.had_is
            ∙ (let none : bid_of r (at p (suc k)) ≡ 0 = ap (bid_of r) (w.later (suc k) (omega arith)) in
            let e : total_up_to r p k ≡ total_up_to r p k + 0 * effect_of r (suc k) = omega arith in
            e ∙ ap (λ (n : ℕ). total_up_to r p k + n * effect_of r (suc k)) (sym none));
      }

  pub passed-free : (rest : ℕ) → ((z : ℕ) → bit_of rest z ≡ bit_of free (8 + z)) → rest < 2 ^ (8 * (r.slots - suc k)) → FreeFor r ranked p (suc k) rest
  passed-free rest told low =
      record {
        low = low;
        told = λ l i inside few.
            let at-l : suc (k + suc l) ≡ suc (suc k + l) = omega arith in
            told (8 * l + i)
            ∙ ap (bit_of free) (let e : 8 + (8 * l + i) ≡ 8 * suc l + i = omega arith in e)
            ∙ f.told (suc l) i (omega arith) few
            ∙ ap (λ (n : ℕ). ltb i r.bidders && may_have r p n (get_or ranked i 0)) at-l;
      }

  -- A free seat at the next slot taken.
  module _ (i : ℕ) (i-low : i < 8) (i-free : bit_of free i ≡ true) (inside : k < r.slots) where
    few : r.slots ≤ 16
    few = (let short = v.few_slots in omega arith)

    may : (ltb i r.bidders ≡ true) × (may_have r p (suc k) (get_or ranked i 0) ≡ true)
    may =
        let first : i ≡ 8 * 0 + i = omega arith in
        let at-k : suc (k + 0) ≡ suc k = omega arith in
        and_parts (ltb i r.bidders) (may_have r p (suc k) (get_or ranked i 0))
        (ap (λ (n : ℕ). ltb i r.bidders && may_have r p n (get_or ranked i 0)) (sym at-k)
        ∙ sym (f.told 0 i (omega arith) i-low)
        ∙ ap (bit_of free) (sym first)
        ∙ i-free)

    pub rank_low : i < r.bidders
    rank_low = ltb-true i r.bidders may.0

    abbrev b : ℕ
    b = get_or ranked i 0

    b_some : b ≡ 0 → ⊥
    b_some z = (let s = (v.ranking.some i rank_low).0 in absurd (omega arith))

    -- its bid reaches the floor, and it stands nowhere yet and breaks nothing
    parts : (leb (floor_of r (suc k)) (bid_of r b) ≡ true) × (may_stand r p (suc k) b ≡ true)
    unfolding may_have
    parts = and_parts (leb (floor_of r (suc k)) (bid_of r b)) (may_stand r p (suc k) b) may.1

    unplaced : placed p b ≡ false
    unfolding may_stand
    unplaced = not-true (placed p b) (and_parts (not (placed p b)) (not (breaks r (put p (suc k) b))) parts.1).0

    unbroken : breaks r (put p (suc k) b) ≡ false
    unfolding may_stand
    unbroken = not-true (breaks r (put p (suc k) b)) (and_parts (not (placed p b)) (not (breaks r (put p (suc k) b))) parts.1).1

    pub led_node : Node r (put p (suc k) b) (suc k) (had + gain_in gains i k)
    led_node =
        subst (λ (n : ℕ). Node r (put p (suc k) b) (suc k) (had + n)) (sym (v.gains_are i k rank_low (omega arith)))
        (node_next r p k had b w few inside (v.ranking.some i rank_low).1 unplaced unbroken (leb-true (floor_of r (suc k)) (bid_of r b) parts.0))

    here-empty : at p (suc k) ≡ 0
    here-empty = w.later (suc k) (omega arith)

    -- who may stand at a later slot with b at the next: who may now, is not b, and does not clash with it
    may_next : (j l : ℕ) → j < r.bidders → suc k < l → l ≤ r.slots →
        (may_stand r p l (get_or ranked j 0) && not (some_marks r r.used b (suc k) (get_or ranked j 0) l || eqb j i)) ≡ may_stand r (put p (suc k) b) l (get_or ranked j 0)
    unfolding may_stand
    may_next j l j-low later within =
        ⊎_elim
        (λ (same : j ≡ i).
        let c-b : c ≡ b = ap (λ (x : ℕ). get_or ranked x 0) same in
        let there : placed (put p (suc k) b) c ≡ true
        = placed_at (put p (suc k) b) c (suc k) (omega arith) (omega arith) (here r p k b w.page.sized (omega arith) here-empty b_some ∙ sym c-b) in
        ap (λ (t : Bool). may_stand r p l c && not (some_marks r r.used b (suc k) c l || t)) (eq-eqb j i same)
        ∙ ap (λ (t : Bool). may_stand r p l c && not t) (or_right (some_marks r r.used b (suc k) c l) refl)
        ∙ and-false (may_stand r p l c)
        ∙ sym (ap (λ (t : Bool). not t && not (breaks r (put (put p (suc k) b) l c))) there))
        (λ (apart : j ≡ i → ⊥).
        let c-not-b : c ≡ b → ⊥ = λ e. apart (v.ranking.once j i j-low rank_low e) in
        ap (λ (t : Bool). may_stand r p l c && not (some_marks r r.used b (suc k) c l || t)) (ne_eqb j i apart)
        ∙ ap (λ (t : Bool). may_stand r p l c && not t) (or-false (some_marks r r.used b (suc k) c l))
        ∙ by_placed c-not-b (placed p c) refl)
        (same_or_not j i)
      where
        c : ℕ
        c = get_or ranked j 0

        c_some : c ≡ 0 → ⊥
        c_some z = (let s = (v.ranking.some j j-low).0 in absurd (omega arith))

        l_most : l ≤ 8
        l_most = (let short = v.few_slots in omega arith)

        by_placed : (c ≡ b → ⊥) → (t : Bool) → placed p c ≡ t →
            (may_stand r p l c && not (some_marks r r.used b (suc k) c l)) ≡ may_stand r (put p (suc k) b) l c
        by_placed other true e =
            ap (λ (t : Bool). (not t && not (breaks r (put p l c))) && not (some_marks r r.used b (suc k) c l)) e
            ∙ sym (ap (λ (t : Bool). not t && not (breaks r (put (put p (suc k) b) l c)))
            (another_placed r p k b w.page.sized (omega arith) here-empty b_some c c_some other ∙ e))
        by_placed other false e =
            let e' = another_placed r p k b w.page.sized (omega arith) here-empty b_some c c_some other ∙ e in
            let now : breaks r (put p l c) ≡ clashes r p l c
            = breaks_added r v.proper p l c w.page.sized (omega arith) (omega arith) (λ x m. w.later x (omega arith)) e c_some w.unbroken in
            let then : breaks r (put (put p (suc k) b) l c) ≡ clashes r (put p (suc k) b) l c
            = breaks_added r v.proper (put p (suc k) b) l c (put-sized p (suc k) b w.page.sized) (omega arith) (omega arith)
            (λ x m. at-put-other p (suc k) b x (λ z. absurd (omega arith)) ∙ w.later x (omega arith)) e' c_some unbroken in
            let more = clashes_more r p k b w.page.sized (omega arith) here-empty b_some c l (omega arith) in
            ap (λ (t : Bool). (not t && not (breaks r (put p l c))) && not (some_marks r r.used b (suc k) c l)) e
            ∙ ap (λ (t : Bool). not t && not (some_marks r r.used b (suc k) c l)) now
            ∙ neither (clashes r p l c) (some_marks r r.used b (suc k) c l)
            ∙ ap not (by_alone (holds_or_fails (clash r c l c l)))
            ∙ sym
            (ap (λ (t : Bool). not t && not (breaks r (put (put p (suc k) b) l c))) e'
            ∙ ap not (then ∙ more))
          where
            -- what the marks say is what clashes, unless c clashes alone
            by_alone : (clash r c l c l ≡ true) ⊎ (clash r c l c l ≡ false) →
                (clashes r p l c || some_marks r r.used b (suc k) c l) ≡ (clashes r p l c || clash r c l b (suc k))
            by_alone (inl t) = or_left _ (alone-clashes r p l c t) ∙ sym (or_left _ (alone-clashes r p l c t))
            by_alone (inr t) =
                ap (λ (x : Bool). clashes r p l c || x)
                (pairs_clash r v.proper c l b (suc k)
                (record {
                  some_b = (let s = (v.ranking.some j j-low).0 in s);
                  most_b = (let m = (v.ranking.some j j-low).1 in let n = v.few_bidders in omega arith);
                  some_k = omega arith;
                  most_k = l_most;
                  some_j = (let s = (v.ranking.some i rank_low).0 in s);
                  most_j = (let m = (v.ranking.some i rank_low).1 in let n = v.few_bidders in omega arith);
                  some_l = omega arith;
                  most_l = omega arith;
                })
                (λ z. absurd (omega arith)) t
                (let at_b = here r p k b w.page.sized (omega arith) here-empty b_some in
                subst (λ (x : ℕ). clash r x (suc k) x (suc k) ≡ false) at_b
                (unbroken-alone r v.proper (put p (suc k) b) (put-sized p (suc k) b w.page.sized) unbroken (suc k) (λ z. b_some (sym at_b ∙ z)))))

    -- and has a bid at or above the floor: the floors and the bids stay
    have_next : (j l : ℕ) → j < r.bidders → suc k < l → l ≤ r.slots →
        (may_have r p l (get_or ranked j 0) && not (some_marks r r.used b (suc k) (get_or ranked j 0) l || eqb j i)) ≡ may_have r (put p (suc k) b) l (get_or ranked j 0)
    unfolding may_have
    have_next j l j-low later within =
        let high = leb (floor_of r l) (bid_of r (get_or ranked j 0)) in
        and_assoc high (may_stand r p l (get_or ranked j 0)) (not (some_marks r r.used b (suc k) (get_or ranked j 0) l || eqb j i))
        ∙ ap (λ (t : Bool). high && t) (may_next j l j-low later within)

    pub led_free : (rest : ℕ) → ((z : ℕ) → bit_of rest z ≡ (bit_of free (8 + z) && not (bit_of (get_or shut (8 * k + i) 0) (8 + z)))) →
        rest < 2 ^ (8 * (r.slots - suc k)) → FreeFor r ranked (put p (suc k) b) (suc k) rest
    led_free rest told low =
        record {
          low = low;
          told = λ l j within j-few.
              let at-l : suc (k + suc l) ≡ suc (suc k + l) = omega arith in
              let bit : 8 + (8 * l + j) ≡ 8 * suc l + j = omega arith in
              let shut-bit : 8 + (8 * l + j) ≡ 8 * (suc k + l - k) + j = omega arith in
              let short = v.few_slots in
              told (8 * l + j)
              ∙ ap (λ (t : Bool). t && not (bit_of (get_or shut (8 * k + i) 0) (8 + (8 * l + j))))
              (ap (bit_of free) bit
              ∙ f.told (suc l) j (omega arith) j-few
              ∙ ap (λ (n : ℕ). ltb j r.bidders && may_have r p n (get_or ranked j 0)) at-l)
              ∙ ⊎_elim
              (λ (m : j < r.bidders).
              ap₂ (λ (s t : Bool). (s && may_have r p (suc (suc k + l)) (get_or ranked j 0)) && not t) (lt-ltb j r.bidders m)
              (ap (bit_of (get_or shut (8 * k + i) 0)) shut-bit ∙ v.shuts k (suc k + l) i j (omega arith) (omega arith) rank_low m)
              ∙ have_next j (suc (suc k + l)) m (omega arith) (omega arith)
              ∙ sym (ap (λ (t : Bool). t && may_have r (put p (suc k) b) (suc (suc k + l)) (get_or ranked j 0)) (lt-ltb j r.bidders m)))
              (λ (m : r.bidders ≤ j).
              ap (λ (s : Bool). (s && may_have r p (suc (suc k + l)) (get_or ranked j 0)) && not (bit_of (get_or shut (8 * k + i) 0) (8 + (8 * l + j)))) (le-ltb j r.bidders m)
              ∙ sym (ap (λ (t : Bool). t && may_have r (put p (suc k) b) (suc (suc k + l)) (get_or ranked j 0)) (le-ltb j r.bidders m)))
              (below_or_not j r.bidders);
        }
