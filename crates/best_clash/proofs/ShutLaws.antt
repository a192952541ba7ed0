-- Why the words by seat tell who breaks a constraint with whom, and the first word who breaks none alone: each bidder has one rank and each rank one
-- bidder, so the seats that a constraint names are the bidders and slots that it marks. Assumes nothing.
use Prim.Native.Nat.{ℕ, suc, ◌+◌, ◌*◌, ◌-◌, ◌%◌, ◌^◌, ◌<◌, ◌≤◌}
use borrow.Author.Tests.{eq-eqb, ne_eqb, eqb-true, eqb-false, not-true, lt-ltb, ltb-true}
use mathlib.Core.Bool.{Bool, true, false, not, ◌&&◌, ◌||◌, or-false, and_assoc}
use mathlib.Core.List.{List}
use mathlib.Core.Path.{◌≡◌, refl, sym, ◌∙◌, ap, ap₂, subst}
use native.Mathlib.Omega.{arith}
use lib.Dec.{eqb, ltb, leb}
use lib.ListN.{get_or}
use Rattle.basis.specs.Bits.{bit_of}
use Rattle.basis.specs.Tests.{any_below}
use Rattle.basis.proofs.TestLaws.{fails, same_tests, and_holds, and_parts, any_where, any_same, any_or}
use Rattle.sheet.specs.declared.Bidder.{Bidder}
use Rattle.sheet.specs.declared.Kind.{Kind}
use Rattle.sheet.specs.declared.Kind.TheVariants.{OwnSlot, OtherSlot, Pair}
use Rattle.sheet.specs.declared.Page.{Page}
use Rattle.sheet.specs.declared.Round.{Round}
use Rattle.sheet.specs.Proper.{Proper, ProperRound}
use Rattle.sheet.specs.Refusal.{Accepted}
use Rattle.sheet.specs.Round.{constraint_at, round_of, with_floors, bid_of, floor_of}
use Rattle.sheet.specs.Sheet.{bidder_count, slot_count}
use Rattle.sheet.proofs.FloorLaws.{floor_under}
use Rattle.sheet.proofs.RoundLaws.{round_proper}
use Rattle.choice.specs.EngineBids.{bid_in}
use Rattle.auction.specs.Broken.{breaks}
use Rattle.auction.specs.Page.{at, empty_page}
use Rattle.auction.proofs.PageLaws.{empty-sized, at-empty, empty-placed}
use Rattle.auction.proofs.BrokenLaws.{none-breaks, empty-unbroken}
use Rattle.auction.proofs.GreedyLaws.{bid_in_lem}
use Rattle.best_clash.specs.EngineClash.{clash, clashes, may_stand, may_have, FreeFor, RanksOf, ShutOf}
use Rattle.best_clash.specs.EngineMarks.{same_at, marks, some_marks, seat_of, shuts, some_shuts, FilledBy, WordsOf, LeftBy}
use Rattle.best_clash.proofs.ClashLaws.{breaks_added}
use Rattle.best_clash.proofs.MarkLaws.{entry_twice, other_not_alone, pair_not_alone, alone-clash}
use Rattle.best_clash.proofs.TableLaws.{WithinKind, within-at}

swapped : (s t : Bool) → (s || t) ≡ (t || s)
swapped true true = refl
swapped true false = refl
swapped false true = refl
swapped false false = refl

twice : (t : Bool) → t ≡ (t && t)
twice true = refl
twice false = refl

-- a test of two unequal numbers, and of what goes with it
unmet : (x y : ℕ) (t : Bool) → (x ≡ y → ⊥) → (eqb x y && t) ≡ false
unmet x y t d = ap (λ (s : Bool). s && t) (ne_eqb x y d)

-- nobody is at one slot and at another
one_slot : (o t b d k l : ℕ) → (k ≡ l → ⊥) → (same_at o t b (suc k) && same_at o t d (suc l)) ≡ false
one_slot o t b d k l apart =
    fails (same_at o t b (suc k) && same_at o t d (suc l))
    (λ e.
    let both = and_parts (same_at o t b (suc k)) (same_at o t d (suc l)) e in
    let first = eqb-true t (suc k) (and_parts (eqb o b) (eqb t (suc k)) both.0).1 in
    let second = eqb-true t (suc l) (and_parts (eqb o d) (eqb t (suc l)) both.1).1 in
    apart (omega arith))

module _ (n : ℕ) (few : n ≤ 8) (ranked ranks : List ℕ) (v : RanksOf n ranked ranks) where
  -- rank a is bidder o's
  rank_is : (a o : ℕ) → a < n → 0 < o → o ≤ n → eqb a (get_or ranks o 0) ≡ eqb o (get_or ranked a 0)
  rank_is a o a-low some most =
      same_tests (eqb a (get_or ranks o 0)) (eqb o (get_or ranked a 0))
      (λ e. eq-eqb o (get_or ranked a 0) (sym (v.there o some most) ∙ sym (ap (λ (i : ℕ). get_or ranked i 0) (eqb-true a (get_or ranks o 0) e))))
      (λ e. eq-eqb a (get_or ranks o 0) (sym (v.back a a-low) ∙ sym (ap (λ (b : ℕ). get_or ranks b 0) (eqb-true o (get_or ranked a 0) e))))

  -- the seat of rank a at slot k + 1 is bidder o's at slot t
  seat_is : (k a o t : ℕ) → a < n → 0 < o → o ≤ n → 0 < t → eqb (8 * k + a) (seat_of ranks o t) ≡ same_at o t (get_or ranked a 0) (suc k)
  seat_is k a o t a-low some most t_some =
      let o-low = v.low o some most in
      same_tests (eqb (8 * k + a) (seat_of ranks o t)) (eqb a (get_or ranks o 0) && eqb t (suc k))
      (λ e.
      let same = eqb-true (8 * k + a) (seat_of ranks o t) e in
      and_holds (eq-eqb a (get_or ranks o 0) (omega arith)) (eq-eqb t (suc k) (omega arith)))
      (λ e.
      let both = and_parts (eqb a (get_or ranks o 0)) (eqb t (suc k)) e in
      let rank = eqb-true a (get_or ranks o 0) both.0 in
      let slot = eqb-true t (suc k) both.1 in
      eq-eqb (8 * k + a) (seat_of ranks o t) (omega arith))
      ∙ ap (λ (s : Bool). s && eqb t (suc k)) (rank_is a o a-low some most)

  -- rank a at any slot is bidder o
  column_is : (l a o : ℕ) → a < n → 0 < o → o ≤ n → eqb ((8 * l + a) % 8) (get_or ranks o 0) ≡ eqb o (get_or ranked a 0)
  column_is l a o a-low some most =
      ap (λ (x : ℕ). eqb x (get_or ranks o 0)) (let e : (8 * l + a) % 8 ≡ a = omega arith in e) ∙ rank_is a o a-low some most

  line_is : (a o : ℕ) → a < n → 0 < o → o ≤ n → eqb (65 + a) (65 + get_or ranks o 0) ≡ eqb o (get_or ranked a 0)
  line_is a o a-low some most =
      same_tests (eqb (65 + a) (65 + get_or ranks o 0)) (eqb a (get_or ranks o 0))
      (λ e. let same = eqb-true (65 + a) (65 + get_or ranks o 0) e in eq-eqb a (get_or ranks o 0) (omega arith))
      (λ e. let same = eqb-true a (get_or ranks o 0) e in eq-eqb (65 + a) (65 + get_or ranks o 0) (omega arith))
      ∙ rank_is a o a-low some most

  -- a line after those of the seats is no seat's
  no_seat : (x o t : ℕ) (u : Bool) → 64 ≤ x → 0 < o → o ≤ n → 0 < t → t ≤ 8 → (eqb x (seat_of ranks o t) && u) ≡ false
  no_seat x o t u past some most t_some t-most =
      let o-low = v.low o some most in
      unmet x (seat_of ranks o t) u (λ e. absurd (omega arith))

  -- and the line of a rank is no other
  no_line : (x o : ℕ) (u : Bool) → x ≤ 64 → (eqb x (65 + get_or ranks o 0) && u) ≡ false
  no_line x o u low = unmet x (65 + get_or ranks o 0) u (λ e. absurd (omega arith))

  module _ (m : ℕ) (short : m ≤ 8) (owner : Bidder) (owned : 0 < owner.0) (within_range : owner.0 ≤ n) where
    -- the two lines of a seat tell what a constraint marks of it and of one at another slot
    pair_told : (kind : Kind) → WithinKind n m kind → (k l a c : ℕ) → k < 8 → l < 8 → (k ≡ l → ⊥) → a < n → c < n →
        (shuts ranks kind owner.0 (8 * k + a) (8 * l + c) || shuts ranks kind owner.0 (65 + a) (8 * l + c))
        ≡ marks kind owner.0 (get_or ranked a 0) (suc k) (get_or ranked c 0) (suc l)
    unfolding shuts marks
    pair_told (OwnSlot s) w k l a c k-low l-low apart a-low c-low =
        ap₂ ◌||◌ (unmet (8 * k + a) 64 _ (λ e. absurd (omega arith))) (unmet (65 + a) 64 _ (λ e. absurd (omega arith)))
        ∙ sym (one_slot owner.0 s.0 (get_or ranked a 0) (get_or ranked c 0) k l apart)
    pair_told (OtherSlot i t) w k l a c k-low l-low apart a-low c-low =
        let t-most = w.3 in
        let seat = same_at i.0 t.0 (get_or ranked a 0) (suc k) && eqb owner.0 (get_or ranked c 0) in
        let line = eqb owner.0 (get_or ranked a 0) && same_at i.0 t.0 (get_or ranked c 0) (suc l) in
        ap₂ ◌||◌
        (ap₂ ◌||◌
        (ap₂ ◌&&◌ (seat_is k a i.0 t.0 a-low w.0 w.1 w.2) (column_is l c owner.0 c-low owned within_range))
        (no_line (8 * k + a) owner.0 _ (omega arith))
        ∙ or-false seat)
        (ap₂ ◌||◌
        (no_seat (65 + a) i.0 t.0 _ (omega arith) w.0 w.1 w.2 (omega arith))
        (ap₂ ◌&&◌ (line_is a owner.0 a-low owned within_range) (seat_is l c i.0 t.0 c-low w.0 w.1 w.2)))
        ∙ swapped seat line
    pair_told (Pair s i t) w k l a c k-low l-low apart a-low c-low =
        let s-most = w.1 in
        let t-most = w.5 in
        let first = same_at i.0 t.0 (get_or ranked a 0) (suc k) && same_at owner.0 s.0 (get_or ranked c 0) (suc l) in
        let second = same_at owner.0 s.0 (get_or ranked a 0) (suc k) && same_at i.0 t.0 (get_or ranked c 0) (suc l) in
        let own = seat_is k a owner.0 s.0 a-low owned within_range w.0 in
        let own-later = seat_is l c owner.0 s.0 c-low owned within_range w.0 in
        let other = seat_is k a i.0 t.0 a-low w.2 w.3 w.4 in
        let other-later = seat_is l c i.0 t.0 c-low w.2 w.3 w.4 in
        ap₂ ◌||◌ (ap₂ ◌||◌ (ap₂ ◌&&◌ other own-later) (ap₂ ◌&&◌ own other-later))
        (ap₂ ◌||◌
        (no_seat (65 + a) i.0 t.0 _ (omega arith) w.2 w.3 w.4 (omega arith))
        (no_seat (65 + a) owner.0 s.0 _ (omega arith) owned within_range w.0 (omega arith)))
        ∙ or-false (first || second)
        ∙ swapped first second

    -- the line of what is shut from the start tells what a constraint marks of one alone
    alone-told : (kind : Kind) → Proper (record { owner = owner; kind = kind }) → WithinKind n m kind → (l a : ℕ) → a < n →
        shuts ranks kind owner.0 64 (8 * l + a) ≡ marks kind owner.0 (get_or ranked a 0) (suc l) (get_or ranked a 0) (suc l)
    unfolding shuts marks
    alone-told (OwnSlot s) q w l a a-low =
        seat_is l a owner.0 s.0 a-low owned within_range w.0 ∙ twice (same_at owner.0 s.0 (get_or ranked a 0) (suc l))
    alone-told (OtherSlot i t) q w l a a-low =
        let t-most = w.3 in
        ap₂ ◌||◌ (no_seat 64 i.0 t.0 _ (omega arith) w.0 w.1 w.2 (omega arith)) (no_line 64 owner.0 _ (omega arith))
        ∙ sym (other_not_alone owner i t q (get_or ranked a 0) (suc l))
    alone-told (Pair s i t) q w l a a-low =
        let s-most = w.1 in
        let t-most = w.5 in
        ap₂ ◌||◌
        (no_seat 64 i.0 t.0 _ (omega arith) w.2 w.3 w.4 (omega arith))
        (no_seat 64 owner.0 s.0 _ (omega arith) owned within_range w.0 (omega arith))
        ∙ sym (pair_not_alone owner s i t q (get_or ranked a 0) (suc l))

-- nobody stands on an empty page, so a bidder breaks something there where it clashes with itself
alone-clashes : (r : Round) (k b : ℕ) → clashes r empty_page k b ≡ clash r b k b k
unfolding clashes
alone-clashes r k b =
    ap (λ (t : Bool). clash r b k b k || t)
    (fails (any_below (λ i. not (eqb (at empty_page (suc i)) 0) && clash r b k (at empty_page (suc i)) (suc i)) k)
    (λ e.
    let w = any_where (λ i. not (eqb (at empty_page (suc i)) 0) && clash r b k (at empty_page (suc i)) (suc i)) k e in
    let both = and_parts (not (eqb (at empty_page (suc w.0)) 0)) (clash r b k (at empty_page (suc w.0)) (suc w.0)) w.2 in
    eqb-false (at empty_page (suc w.0)) 0 (not-true (eqb (at empty_page (suc w.0)) 0) both.0) (at-empty (suc w.0))))
    ∙ or-false (clash r b k b k)

may_start : (r : Round) → ProperRound r → (k b : ℕ) → 0 < k → k ≤ 16 → 0 < b → may_stand r empty_page k b ≡ not (clash r b k b k)
unfolding may_stand
may_start r proper k b k-some k-most b_some =
    let named : b ≡ 0 → ⊥ = λ e. absurd (omega arith) in
    let free = empty-placed b named in
    ap₂ (λ (s t : Bool). not s && not t) free
    (breaks_added r proper empty_page k b empty-sized k-some k-most (λ i past. at-empty i) free named
    (none-breaks r empty_page (λ q has. empty-unbroken q (proper.proper q has)))
    ∙ alone-clashes r k b)

-- where the first test fails, the second does not matter
and_same : (t : Bool) {s u : Bool} → (t ≡ true → s ≡ u) → (t && s) ≡ (t && u)
and_same true h = h refl
and_same false h = refl

pub shut_of : (s : List ℕ) → Accepted s → bidder_count s ≤ 8 → slot_count s ≤ 8 → (ranked ranks table shut : List ℕ) → RanksOf (bidder_count s) ranked ranks →
    FilledBy ranks (round_of s) table → WordsOf table shut → ShutOf (round_of s) ranked shut
unfolding round_of some_shuts some_marks
shut_of s ok few short ranked ranks table shut v filled words k l i j later l-low i-low j-low =
    let z = 8 * (l - k) + j in
    let at-l : 8 * k + z ≡ 8 * l + j = omega arith in
    let in-slot : z % 8 ≡ j = omega arith in
    let r = round_of s in
    words.told k i z (omega arith) (omega arith) (omega arith)
    ∙ ap₂ ◌||◌
    (ap (λ (y : ℕ). bit_of (get_or table (8 * k + i) 0) y || bit_of (get_or table (65 + i) 0) y) at-l
    ∙ ap₂ ◌||◌ (filled.told (8 * k + i) (8 * l + j) (omega arith)) (filled.told (65 + i) (8 * l + j) (omega arith))
    ∙ sym
    (any_or (λ a. shuts ranks (constraint_at r a).kind (constraint_at r a).owner.0 (8 * k + i) (8 * l + j))
    (λ a. shuts ranks (constraint_at r a).kind (constraint_at r a).owner.0 (65 + i) (8 * l + j)) r.used)
    ∙ any_same _ (λ a. marks (constraint_at r a).kind (constraint_at r a).owner.0 (get_or ranked i 0) (suc k) (get_or ranked j 0) (suc l)) r.used
    (λ a below.
    let w = within-at s ok a below in
    pair_told (bidder_count s) few ranked ranks v (slot_count s) short (constraint_at r a).owner w.some_owner w.most_owner (constraint_at r a).kind w.parts
    k l i j (omega arith) l-low (λ e. absurd (omega arith)) i-low j-low))
    (ap (λ (x : ℕ). eqb x i) in-slot)

-- Floors mark nobody, and break nothing.
pub shut_floors : (r : Round) (floors ranked shut : List ℕ) → ShutOf r ranked shut → ShutOf (with_floors r floors) ranked shut
unfolding with_floors constraint_at some_marks
shut_floors r floors ranked shut h = h

stand_floors : (r : Round) (floors : List ℕ) (p : Page) (k b : ℕ) → may_stand r p k b ≡ may_stand (with_floors r floors) p k b
unfolding with_floors constraint_at breaks may_stand
stand_floors r floors p k b = refl

module _ (s : List ℕ) (ok : Accepted s) (few : bidder_count s ≤ 8) (short : slot_count s ≤ 8) (ranked ranks table : List ℕ) (v : RanksOf (bidder_count s) ranked ranks)
    (filled : FilledBy ranks (round_of s) table) where
  -- who is not shut from the start may stand on the empty page
  stands-first : (l i : ℕ) → l < slot_count s → i < bidder_count s →
      not (bit_of (get_or table 64 0) (8 * l + i)) ≡ may_stand (round_of s) empty_page (suc l) (get_or ranked i 0)
  unfolding round_of some_shuts some_marks
  stands-first l i l-low i-low =
      let r = round_of s in
      let b = get_or ranked i 0 in
      let b_some = (v.named i i-low).0 in
      let b-most = (v.named i i-low).1 in
      ap not
      (filled.told 64 (8 * l + i) (omega arith)
      ∙ any_same _ (λ a. marks (constraint_at r a).kind (constraint_at r a).owner.0 b (suc l) b (suc l)) r.used
      (λ a below.
      let w = within-at s ok a below in
      alone-told (bidder_count s) few ranked ranks v (slot_count s) short (constraint_at r a).owner w.some_owner w.most_owner (constraint_at r a).kind
      ((round_proper s ok).proper (constraint_at r a) (a, below, refl)) w.parts l i i-low)
      ∙ alone-clash r (round_proper s ok) b (suc l) (entry_twice b (suc l) b_some (omega arith) (omega arith) (omega arith)))
      ∙ sym (may_start r (round_proper s ok) (suc l) b (omega arith) (omega arith) b_some)

  pub free_start : (floors : List ℕ) (free : ℕ) → LeftBy table ranked (round_of s).bids floors (bidder_count s) (slot_count s) free →
      FreeFor (with_floors (round_of s) floors) ranked empty_page 0 free
  unfolding round_of with_floors may_have
  free_start floors free left =
      let r = with_floors (round_of s) floors in
      record {
        low = subst (λ (n : ℕ). free < 2 ^ (8 * n)) (let e : slot_count s ≡ slot_count s - 0 = omega arith in e) left.low;
        told = λ l i l-low i-low.
            let inside : l < slot_count s = omega arith in
            let b = get_or ranked i 0 in
            let reached = leb (get_or floors l 0) (bid_in (round_of s).bids b) in
            let unshut = not (bit_of (get_or table 64 0) (8 * l + i)) in
            left.told l i (omega arith) i-low
            ∙ ap (λ (t : Bool). (t && (ltb i (bidder_count s) && reached)) && unshut) (lt-ltb l (slot_count s) inside)
            ∙ and_assoc (ltb i (bidder_count s)) reached unshut
            ∙ and_same (ltb i (bidder_count s))
            (λ e.
            ap₂ ◌&&◌ (ap₂ leb (sym (floor_under (round_of s) floors l inside)) (bid_in_lem r b))
            (stands-first l i inside (ltb-true i (bidder_count s) e) ∙ stand_floors (round_of s) floors empty_page (suc l) b)
            ∙ ap (λ (k : ℕ). leb (floor_of r (suc k)) (bid_of r b) && may_stand r empty_page (suc k) b) (let e : l ≡ 0 + l = omega arith in e));
      }
