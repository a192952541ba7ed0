-- Rows of bidders, one for each slot left, against the winners of those slots. The first slot's winner is put first in the row, and who stood there goes where it
-- stood: that never lowers the sum, since nobody in the row bids more and effects do not rise. Those in the rest of the row that name the winner are taken off it: they
-- are at most d, and each adds at most what the winner does. What is left is a row for the next slot, so each winner makes up for d + 1 of the row. Assumes nothing.
use Prim.Native.Nat.{ℕ, zero, suc, ◌+◌, ◌*◌, ◌<◌, ◌≤◌}
use borrow.Author.Tests.{eq-eqb, ne_eqb, not-true}
use mathlib.Core.Bool.{Bool, true, false, cond, not, ◌&&◌}
use mathlib.Core.Logic.{◌⊎◌, inl, inr, ⊎_elim}
use mathlib.Core.Path.{◌≡◌, refl, sym, ◌∙◌, ap}
use native.Mathlib.Nat.{mul-le-mul}
use native.Mathlib.Omega.{arith}
use lib.Dec.{eqb}
use Rattle.basis.specs.Counting.{count_to, sum_to}
use Rattle.basis.proofs.CountLaws.{one_passes, one_fails, count_fewer, count_none, count_sum}
use Rattle.basis.proofs.NumberLaws.{same_or_not, exchange_adds}
use Rattle.basis.proofs.SumLaws.{sum_same}
use Rattle.basis.proofs.TestLaws.{holds_or_fails, not_both, fails, and_parts}

-- the first, and the others
sum_first : (v : ℕ → ℕ) (n : ℕ) → sum_to v (suc n) ≡ v 0 + sum_to (λ s. v (suc s)) n
unfolding sum_to
sum_first v zero = omega arith
sum_first v (suc n) = let before = sum_first v n in omega arith

-- nobody stands twice in a row
abbrev pub Once : (ℕ → ℕ) → Type 0
Once f = (s t : ℕ) → (f s ≡ 0 → ⊥) → f s ≡ f t → s ≡ t

-- so those at its indices that pass a test are no more than the bidders that do
places_bidders : (f : ℕ → ℕ) (test : ℕ → Bool) (n many : ℕ) → test 0 ≡ false → ((s : ℕ) → f s ≤ n) → Once f →
    count_to (λ s. test (f s)) many ≤ count_to (λ i. test (suc i)) n
unfolding count_to
places_bidders f test n zero nobody listed once = omega arith
places_bidders f test n (suc many) nobody listed once =
    ⊎_elim
    (λ (t : test (f many) ≡ true).
    let here = one_passes (cond (test (f many)) 1 0) (test (f many)) refl t in
    let fewer = one_more (λ rest none. places_bidders f rest n many none listed once) (f many) refl t in
    omega arith)
    (λ (t : test (f many) ≡ false).
    let here = one_fails (cond (test (f many)) 1 0) (test (f many)) refl t in
    let before = places_bidders f test n many nobody listed once in
    omega arith)
    (holds_or_fails (test (f many)))
  where
    one_more : ((rest : ℕ → Bool) → rest 0 ≡ false → count_to (λ s. rest (f s)) many ≤ count_to (λ i. rest (suc i)) n) →
        (b : ℕ) → f many ≡ b → test b ≡ true → count_to (λ s. test (f s)) many < count_to (λ i. test (suc i)) n
    one_more others zero e t = absurd (not_both t nobody)
    one_more others (suc b) e t =
        let rest : ℕ → Bool = λ x. test x && not (eqb x (suc b)) in
        let before = others rest (ap (λ (u : Bool). u && not (eqb 0 (suc b))) nobody) in
        let elsewhere : (s : ℕ) → s < many → f s ≡ suc b → ⊥ = λ s l q. (let same = once many s (λ z. absurd (omega arith)) (e ∙ sym q) in omega arith) in
        let all = count_sum (λ s. rest (f s)) (λ s. false) (λ s. test (f s)) many
        (λ s l. still (test (f s)) (eqb (f s) (suc b)) (ne_eqb (f s) (suc b) (elsewhere s l))) in
        let none = count_none (λ s. false) many (λ s l. refl) in
        let fewer = count_fewer (λ i. rest (suc i)) (λ i. test (suc i)) n b
        (λ i u. (and_parts (test (suc i)) (not (eqb (suc i) (suc b))) u).0)
        (let m = listed many in omega arith)
        (fails (rest (suc b)) (λ u. not_both (eq-eqb (suc b) (suc b) refl) (not-true (eqb (suc b) (suc b)) (and_parts (test (suc b)) (not (eqb (suc b) (suc b))) u).1)))
        t in
        omega arith
      where
        still : (t u : Bool) → u ≡ false → cond (t && not u) 1 0 + 0 ≡ cond t 1 0
        still true true h = absurd (not_both refl h)
        still true false h = refl
        still false u h = refl

-- a row with those that pass a test taken off
abbrev without : (ℕ → Bool) → (ℕ → ℕ) → ℕ → ℕ
without test f s = cond (test (f s)) 0 (f s)

-- a row with x where w stood
abbrev instead : ℕ → ℕ → (ℕ → ℕ) → ℕ → ℕ
instead w x f s = cond (eqb (f s) w) x (f s)

-- what the bidder at an index of a row adds
abbrev pub adds : (bid effect f : ℕ → ℕ) → ℕ → ℕ
adds bid effect f s = bid (f s) * effect s

module _ (bid effect : ℕ → ℕ) where
  -- to take bidders off costs at most x for each
  without_costs : (test : ℕ → Bool) (f : ℕ → ℕ) (x n : ℕ) → ((s : ℕ) → adds bid effect f s ≤ x) →
      sum_to (adds bid effect f) n ≤ sum_to (adds bid effect (without test f)) n + count_to (λ s. test (f s)) n * x
  unfolding sum_to count_to
  without_costs test f x zero h = omega arith
  without_costs test f x (suc n) h =
      let before = without_costs test f x n h in
      ⊎_elim
      (λ (t : test (f n) ≡ true).
      let here = h n in
      let one = ap (λ (u : Bool). (count_to (λ s. test (f s)) n + cond u 1 0) * x) t in
      omega arith)
      (λ (t : test (f n) ≡ false).
      let here = ap (λ (u : Bool). bid (cond u 0 (f n)) * effect n) t in
      let one = ap (λ (u : Bool). (count_to (λ s. test (f s)) n + cond u 1 0) * x) t in
      omega arith)
      (holds_or_fails (test (f n)))

  -- w before the row and x where w stood add no less than x before the row
  exchanged : (f : ℕ → ℕ) (w x e n : ℕ) → (w ≡ 0 → ⊥) → bid x ≤ bid w → ((s : ℕ) → effect s ≤ e) → Once f →
      bid x * e + sum_to (adds bid effect f) n ≤ bid w * e + sum_to (adds bid effect (instead w x f)) n
  unfolding sum_to
  exchanged f w x e zero some low falls once = let h : bid x * e ≤ bid w * e = mul-le-mul low (omega arith) in omega arith
  exchanged f w x e (suc n) some low falls once =
      ⊎_elim
      (λ (q : f n ≡ w).
      let here = ap (λ (y : ℕ). bid y * effect n) q in
      let there = ap (λ (u : Bool). bid (cond u x (f n)) * effect n) (eq-eqb (f n) w q) in
      let gain = exchange_adds (bid x) (bid w) e (effect n) low (falls n) in
      let before = sum_same (adds bid effect f) (adds bid effect (instead w x f)) n
      (λ s l. ap (λ (u : Bool). bid (cond u x (f s)) * effect s) (sym (ne_eqb (f s) w
      (λ z. let same = once n s (λ y. some (sym q ∙ y)) (q ∙ sym z) in absurd (omega arith))))) in
      omega arith)
      (λ (d : f n ≡ w → ⊥).
      let there = ap (λ (u : Bool). bid (cond u x (f n)) * effect n) (ne_eqb (f n) w d) in
      let before = exchanged f w x e n some low falls once in
      omega arith)
      (same_or_not (f n) w)

-- b is a bidder and names w
abbrev names : (ℕ → ℕ → Bool) → (w b : ℕ) → Bool
names rival w zero = false
names rival w (suc i) = rival (suc i) w

names_rival_lem : (rival : ℕ → ℕ → Bool) (w b : ℕ) → (b ≡ 0 → ⊥) → names rival w b ≡ rival b w
names_rival_lem rival w zero some = absurd (some refl)
names_rival_lem rival w (suc i) some = refl

-- How m slots are filled: a slot's winner bids highest among those eligible for it, and whoever is not eligible for the next is that winner or names it.
pub record Filling (bid effect win : ℕ → ℕ) (eligible_for rival : ℕ → ℕ → Bool) (n m d : ℕ) : Type 0 where
  pub nobody : bid 0 ≡ 0
  pub falls : (k s : ℕ) → k ≤ s → effect s ≤ effect k
  pub within : (k : ℕ) → win k ≤ n
  pub won : (k b : ℕ) → k < m → (b ≡ 0 → ⊥) → b ≤ n → eligible_for k b ≡ true → (win k ≡ 0 → ⊥) × (bid b ≤ bid (win k))
  pub stays : (k b : ℕ) → suc k < m → (b ≡ 0 → ⊥) → b ≤ n → eligible_for k b ≡ true → (b ≡ win k → ⊥) → rival b (win k) ≡ false → eligible_for (suc k) b ≡ true
  pub few : (j : ℕ) → 0 < j → j ≤ n → count_to (λ i. rival (suc i) j) n ≤ d

-- a row of bidders for m slots, all of whom are eligible for the first of them, and nobody twice
pub record Row (eligible : ℕ → Bool) (n m : ℕ) (f : ℕ → ℕ) : Type 0 where
  pub listed : (s : ℕ) → f s ≤ n
  pub stands : (s : ℕ) → (f s ≡ 0 → ⊥) → (s < m) × (eligible (f s) ≡ true)
  pub once : Once f

-- the slots but the first
later : {bid effect win : ℕ → ℕ} {eligible_for rival : ℕ → ℕ → Bool} {n m d : ℕ} → Filling bid effect win eligible_for rival n (suc m) d →
    Filling bid (λ s. effect (suc s)) (λ s. win (suc s)) (λ s. eligible_for (suc s)) rival n m d
later c =
    record {
      nobody = c.nobody;
      falls = λ k s l. c.falls (suc k) (suc s) (omega arith);
      within = λ k. c.within (suc k);
      won = λ k b l. c.won (suc k) b (omega arith);
      stays = λ k b l. c.stays (suc k) b (omega arith);
      few = c.few;
    }

module _ (bid effect win : ℕ → ℕ) (eligible_for rival : ℕ → ℕ → Bool) (n m d : ℕ) (c : Filling bid effect win eligible_for rival n (suc m) d)
    (f : ℕ → ℕ) (v : Row (eligible_for 0) n (suc m) f) where
  -- whoever stands in the row bids no more than the winner
  low : (s : ℕ) → bid (f s) ≤ bid (win 0)
  low s =
      ⊎_elim
      (λ (z : f s ≡ 0). let e = ap bid z in let none = c.nobody in omega arith)
      (λ (h : f s ≡ 0 → ⊥). (c.won 0 (f s) (omega arith) h (v.listed s) (v.stands s h).1).1)
      (same_or_not (f s) 0)

  -- where nobody wins nobody is eligible, and the row is empty
  none-stands : win 0 ≡ 0 → (s : ℕ) → f s ≡ 0
  none-stands z s =
      ⊎_elim
      (λ (e : f s ≡ 0). e)
      (λ (h : f s ≡ 0 → ⊥). absurd ((c.won 0 (f s) (omega arith) h (v.listed s) (v.stands s h).1).0 z))
      (same_or_not (f s) 0)

  empty-row : win 0 ≡ 0 → Row (eligible_for 1) n m (λ s. f (suc s))
  empty-row z =
      record {
        listed = λ s. v.listed (suc s);
        stands = λ s h. absurd (h (none-stands z (suc s)));
        once = λ s t h e. absurd (h (none-stands z (suc s)));
      }

  module _ (some : win 0 ≡ 0 → ⊥) where
    -- the row after its first, with who stood first where the winner stood, and then without those that name the winner
    abbrev moved : ℕ → ℕ
    moved = instead (win 0) (f 0) (λ s. f (suc s))

    abbrev left_over : ℕ → ℕ
    left_over = without (names rival (win 0)) moved

    moved_cases : (s : ℕ) → ((f (suc s) ≡ win 0) × (moved s ≡ f 0)) ⊎ ((f (suc s) ≡ win 0 → ⊥) × (moved s ≡ f (suc s)))
    moved_cases s =
        ⊎_elim
        (λ (q : f (suc s) ≡ win 0). inl (q, ap (λ (u : Bool). cond u (f 0) (f (suc s))) (eq-eqb (f (suc s)) (win 0) q)))
        (λ (h : f (suc s) ≡ win 0 → ⊥). inr (h, ap (λ (u : Bool). cond u (f 0) (f (suc s))) (ne_eqb (f (suc s)) (win 0) h)))
        (same_or_not (f (suc s)) (win 0))

    moved_listed : (s : ℕ) → moved s ≤ n
    moved_listed s =
        ⊎_elim
        (λ (x : (f (suc s) ≡ win 0) × (moved s ≡ f 0)). let e = x.1 in let h = v.listed 0 in omega arith)
        (λ (x : (f (suc s) ≡ win 0 → ⊥) × (moved s ≡ f (suc s))). let e = x.1 in let h = v.listed (suc s) in omega arith)
        (moved_cases s)

    moved_low : (s : ℕ) → bid (moved s) ≤ bid (win 0)
    moved_low s =
        ⊎_elim
        (λ (x : (f (suc s) ≡ win 0) × (moved s ≡ f 0)). let e = ap bid x.1 in let h = low 0 in omega arith)
        (λ (x : (f (suc s) ≡ win 0 → ⊥) × (moved s ≡ f (suc s))). let e = ap bid x.1 in let h = low (suc s) in omega arith)
        (moved_cases s)

    moved_stands : (s : ℕ) → (moved s ≡ 0 → ⊥) → (s < m) × (eligible_for 0 (moved s) ≡ true) × (moved s ≡ win 0 → ⊥)
    moved_stands s h =
        ⊎_elim
        (λ (x : (f (suc s) ≡ win 0) × (moved s ≡ f 0)).
        let first : f 0 ≡ 0 → ⊥ = λ z. h (x.1 ∙ z) in
        let inside = (v.stands (suc s) (λ z. some (sym x.0 ∙ z))).0 in (
          omega arith,
          ap (eligible_for 0) x.1 ∙ (v.stands 0 first).1,
          λ q. let same = v.once 0 (suc s) first (sym x.1 ∙ q ∙ sym x.0) in omega arith,
        ))
        (λ (x : (f (suc s) ≡ win 0 → ⊥) × (moved s ≡ f (suc s))).
        let here = v.stands (suc s) (λ z. h (x.1 ∙ z)) in
        let inside = here.0 in
        (omega arith, ap (eligible_for 0) x.1 ∙ here.1, λ q. x.0 (sym x.1 ∙ q)))
        (moved_cases s)

    moved_once : Once moved
    moved_once s t h e =
        ⊎_elim
        (λ (x : (f (suc s) ≡ win 0) × (moved s ≡ f 0)).
        ⊎_elim
        (λ (y : (f (suc t) ≡ win 0) × (moved t ≡ f 0)).
        let same = v.once (suc s) (suc t) (λ z. some (sym x.0 ∙ z)) (x.0 ∙ sym y.0) in omega arith)
        (λ (y : (f (suc t) ≡ win 0 → ⊥) × (moved t ≡ f (suc t))).
        let same = v.once 0 (suc t) (λ z. h (x.1 ∙ z)) (sym x.1 ∙ e ∙ y.1) in absurd (omega arith))
        (moved_cases t))
        (λ (x : (f (suc s) ≡ win 0 → ⊥) × (moved s ≡ f (suc s))).
        ⊎_elim
        (λ (y : (f (suc t) ≡ win 0) × (moved t ≡ f 0)).
        let same = v.once (suc s) 0 (λ z. h (x.1 ∙ z)) (sym x.1 ∙ e ∙ y.1) in absurd (omega arith))
        (λ (y : (f (suc t) ≡ win 0 → ⊥) × (moved t ≡ f (suc t))).
        let same = v.once (suc s) (suc t) (λ z. h (x.1 ∙ z)) (sym x.1 ∙ e ∙ y.1) in omega arith)
        (moved_cases t))
        (moved_cases s)

    -- whoever is left over stood there and does not name the winner,
    left_same : (s : ℕ) → (left_over s ≡ 0 → ⊥) → (names rival (win 0) (moved s) ≡ false) × (left_over s ≡ moved s)
    left_same s h =
        ⊎_elim
        (λ (t : names rival (win 0) (moved s) ≡ true). absurd (h (ap (λ (u : Bool). cond u 0 (moved s)) t)))
        (λ (t : names rival (win 0) (moved s) ≡ false). (t, ap (λ (u : Bool). cond u 0 (moved s)) t))
        (holds_or_fails (names rival (win 0) (moved s)))

    -- and so is eligible for the next slot
    left_row : Row (eligible_for 1) n m left_over
    left_row =
        record {
          listed = λ s.
              ⊎_elim
              (λ (z : left_over s ≡ 0). omega arith)
              (λ (h : left_over s ≡ 0 → ⊥). let e = (left_same s h).1 in let l = moved_listed s in omega arith)
              (same_or_not (left_over s) 0);
          stands = λ s h.
              (let x = left_same s h in
              let some_one : moved s ≡ 0 → ⊥ = λ z. h (x.1 ∙ z) in
              let was = moved_stands s some_one in
              let inside = was.0 in (
                inside,
                ap (eligible_for 1) x.1
                    ∙ c.stays 0 (moved s) (omega arith) some_one (moved_listed s) was.1 was.2
                    (sym (names_rival_lem rival (win 0) (moved s) some_one) ∙ x.0),
              ));
          once = λ s t h e.
              moved_once s t (λ z. h ((left_same s h).1 ∙ z)) (sym (left_same s h).1 ∙ e ∙ (left_same t (λ z. h (e ∙ z))).1);
        }

    -- the winner makes up for d + 1 of the row
    winner_covers : sum_to (adds bid effect f) (suc m) ≤ suc d * adds bid effect win 0 + sum_to (adds bid (λ s. effect (suc s)) left_over) m
    winner_covers =
        let effect' : ℕ → ℕ = λ s. effect (suc s) in
        let first = sum_first (adds bid effect f) m in
        let gain = exchanged bid effect' (λ s. f (suc s)) (win 0) (f 0) (effect 0) m some (low 0) (λ s. c.falls 0 (suc s) (omega arith))
        (λ s t h e. let same = v.once (suc s) (suc t) h e in omega arith) in
        let off = without_costs bid effect' (names rival (win 0)) moved (adds bid effect win 0) m
        (λ s. mul-le-mul (moved_low s) (c.falls 0 (suc s) (omega arith))) in
        let counted = places_bidders moved (names rival (win 0)) n m refl moved_listed moved_once in
        let few = c.few (win 0) (omega arith) (c.within 0) in
        let costs : count_to (λ s. names rival (win 0) (moved s)) m * adds bid effect win 0 ≤ d * adds bid effect win 0 = mul-le-mul (omega arith) (omega arith) in
        omega arith

-- d + 1 times what the winners add is at least what any row adds
pub row-bound : (bid effect win : ℕ → ℕ) (eligible_for rival : ℕ → ℕ → Bool) (n m d : ℕ) → Filling bid effect win eligible_for rival n m d →
    (f : ℕ → ℕ) → Row (eligible_for 0) n m f → sum_to (adds bid effect f) m ≤ suc d * sum_to (adds bid effect win) m
row-bound bid effect win eligible_for rival n zero d c f v = unfold sum_to in omega arith
row-bound bid effect win eligible_for rival n (suc m) d c f v =
    let first = ap (λ (x : ℕ). suc d * x) (sum_first (adds bid effect win) m) in
    let others = row-bound bid (λ s. effect (suc s)) (λ s. win (suc s)) (λ s. eligible_for (suc s)) rival n m d (later c) in
    ⊎_elim
    (λ (z : win 0 ≡ 0).
    let row = sum_first (adds bid effect f) m in
    let none = ap (λ (x : ℕ). bid x * effect 0) (none-stands bid effect win eligible_for rival n m d c f v z 0) in
    let nothing = ap (λ (x : ℕ). x * effect 0) c.nobody in
    let after = others (λ s. f (suc s)) (empty-row bid effect win eligible_for rival n m d c f v z) in
    omega arith)
    (λ (some : win 0 ≡ 0 → ⊥).
    let covers = winner_covers bid effect win eligible_for rival n m d c f v some in
    let after = others (left_over bid effect win eligible_for rival n m d c f v some) (left_row bid effect win eligible_for rival n m d c f v some) in
    omega arith)
    (same_or_not (win 0) 0)
