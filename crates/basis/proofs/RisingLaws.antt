-- Lists in strictly rising order: joined ones, what they have, and that two with the same members are equal. The first member of one is in the other, so it
-- is the other's first or above it; and the other way round: so the first members are equal, and the rest have the same members.
-- A list whose members are all in another is no longer than it, and where it is no shorter it has all of the other's: where the first members differ, the
-- other's is not in the list. And a list has no more members than a row with them all: without the last of the row, each is shorter by one at most. Assumes
-- nothing.
use Prim.Native.Nat.{ℕ, zero, suc, ◌<◌, ◌≤◌}
use borrow.Author.Tests.{eq-eqb, ne_eqb}
use mathlib.Core.Bool.{Bool, true, false, cond}
use mathlib.Core.List.{
  List,
  [],
  ◌∷◌,
  ◌++◌,
  Memᴰ,
}
use mathlib.Core.Logic.{⊎_elim}
use mathlib.Core.Path.{◌≡◌, refl, sym, ◌∙◌, ap, ap₂, subst}
use native.Mathlib.Nat.{eq-or-lt_of_le, le_of_suc-le-suc, not-suc-le-zero}
use native.Mathlib.Omega.{arith}
use lib.Dec.{eqb}
use lib.ListN.{length, get_or}
use Rattle.basis.specs.Rows.{row, joined}
use Rattle.basis.specs.Rising.{Rising}
use Rattle.basis.proofs.NumberLaws.{same_or_not}

-- numbers that rise from each index to the next rise over any distance
pub rising_over : (f : ℕ → ℕ) (n : ℕ) → ((k : ℕ) → suc k < n → f k < f (suc k)) → (i j : ℕ) → i < j → j < n → f i < f j
rising_over f n step i zero l m = absurd (omega arith)
rising_over f n step i (suc j) l m =
    let last = step j m in
    let within : i ≤ j = omega arith in
    ⊎_elim
    (λ (e : i ≡ j). let same : f i ≡ f j = ap f e in omega arith)
    (λ (h : i < j). let before = rising_over f n step i j h (omega arith) in omega arith)
    (eq-or-lt_of_le within)

-- what a row has, what joined lists have, what a list has that stands where a test holds, and what stands at an index
module _ {A : Type 0} where
  pub mem-row : (f : ℕ → A) (n : ℕ) (x : A) → Memᴰ x (row f n) → (k : ℕ) × (k < n) × (x ≡ f k)
  unfolding row
  mem-row f zero x m = absurd (mathlib.Core.List.Memᴰ.not-nil m)
  mem-row f (suc n) x m =
      ⊎_elim
      (λ (h : Memᴰ x (row f n)). let w = mem-row f n x h in (w.0, (let l = w.1 in omega arith), w.2))
      (λ (h : Memᴰ x (f n ∷ [])). (n, omega arith, mathlib.Core.List.Memᴰ.eq_of_singleton h))
      (mathlib.Core.List.Memᴰ.append_cases (row f n) m)

  pub row-mem : (f : ℕ → A) (n k : ℕ) → k < n → Memᴰ (f k) (row f n)
  unfolding row
  row-mem f zero k l = absurd (not-suc-le-zero l)
  row-mem f (suc n) k l =
      ⊎_elim
      (λ (e : k ≡ n). mathlib.Core.List.Memᴰ.append_right (row f n) (mathlib.Core.List.Memᴰ.head (ap f e)))
      (λ (h : k < n). mathlib.Core.List.Memᴰ.append_left (f n ∷ []) (row-mem f n k h))
      (eq-or-lt_of_le (le_of_suc-le-suc l))

  pub mem-joined : (f : ℕ → List A) (n : ℕ) (x : A) → Memᴰ x (joined f n) → (k : ℕ) × (k < n) × Memᴰ x (f k)
  unfolding joined
  mem-joined f zero x m = absurd (mathlib.Core.List.Memᴰ.not-nil m)
  mem-joined f (suc n) x m =
      ⊎_elim
      (λ (h : Memᴰ x (joined f n)). let w = mem-joined f n x h in (w.0, (let l = w.1 in omega arith), w.2))
      (λ (h : Memᴰ x (f n)). (n, omega arith, h))
      (mathlib.Core.List.Memᴰ.append_cases (joined f n) m)

  pub joined-mem : (f : ℕ → List A) (n k : ℕ) (x : A) → k < n → Memᴰ x (f k) → Memᴰ x (joined f n)
  unfolding joined
  joined-mem f zero k x l m = absurd (not-suc-le-zero l)
  joined-mem f (suc n) k x l m =
      ⊎_elim
      (λ (e : k ≡ n). mathlib.Core.List.Memᴰ.append_right (joined f n) (subst (λ (j : ℕ). Memᴰ x (f j)) e m))
      (λ (h : k < n). mathlib.Core.List.Memᴰ.append_left (f n) (joined-mem f n k x h m))
      (eq-or-lt_of_le (le_of_suc-le-suc l))

  pub mem_when : (t : Bool) (l : List A) (x : A) → Memᴰ x (cond t l []) → (t ≡ true) × Memᴰ x l
  mem_when true l x m = (refl, m)
  mem_when false l x m = absurd (mathlib.Core.List.Memᴰ.not-nil m)

  pub mem-at : (l : List A) (d x : A) → Memᴰ x l → (k : ℕ) × (k < length l) × (get_or l k d ≡ x)
  mem-at [] d x m = absurd (mathlib.Core.List.Memᴰ.not-nil m)
  mem-at (y ∷ l) d x m =
      ⊎_elim
      (λ (e : x ≡ y). (0, omega arith, sym e))
      (λ (h : Memᴰ x l). let w = mem-at l d x h in (suc w.0, (let b = w.1 in omega arith), w.2))
      (mathlib.Core.List.Memᴰ.cases_cons m)

  pub at_mem : (l : List A) (d : A) (k : ℕ) → k < length l → Memᴰ (get_or l k d) l
  at_mem [] d k h = absurd (not-suc-le-zero h)
  at_mem (y ∷ l) d zero h = mathlib.Core.List.Memᴰ.head refl
  at_mem (y ∷ l) d (suc k) h = mathlib.Core.List.Memᴰ.tail (at_mem l d k (omega arith))

module _ {A : Type 0} (key : A → ℕ) where
  pub rising-lower : (lo lo' hi : ℕ) (l : List A) → lo' ≤ lo → Rising key lo hi l → Rising key lo' hi l
  rising-lower lo lo' hi [] h r = omega arith
  rising-lower lo lo' hi (x ∷ l) h r = ((let b = r.0 in omega arith), r.1)

  pub rising_higher : (lo hi hi' : ℕ) (l : List A) → hi ≤ hi' → Rising key lo hi l → Rising key lo hi' l
  rising_higher lo hi hi' [] h r = omega arith
  rising_higher lo hi hi' (x ∷ l) h r = (r.0, rising_higher (suc (key x)) hi hi' l h r.1)

  pub rising-append : (lo mid hi : ℕ) (l l' : List A) → Rising key lo mid l → Rising key mid hi l' → Rising key lo hi (l ++ l')
  rising-append lo mid hi [] l' r r' = rising-lower mid lo hi l' r r'
  rising-append lo mid hi (x ∷ l) l' r r' = (r.0, rising-append (suc (key x)) mid hi l l' r.1 r')

  -- lists that rise within bounds that follow one another
  pub rising-joined : (f : ℕ → List A) (lo : ℕ → ℕ) (n : ℕ) → ((k : ℕ) → k < n → Rising key (lo k) (lo (suc k)) (f k)) → Rising key (lo 0) (lo n) (joined f n)
  unfolding joined
  rising-joined f lo zero h = omega arith
  rising-joined f lo (suc n) h =
      rising-append (lo 0) (lo n) (lo (suc n)) (joined f n) (f n) (rising-joined f lo n (λ k l. h k (omega arith))) (h n (omega arith))

  -- members that each stay within a step of bounds that follow one another
  pub rising_steps : (f : ℕ → A) (lo : ℕ → ℕ) (n : ℕ) → ((k : ℕ) → k < n → (lo k ≤ key (f k)) × (key (f k) < lo (suc k))) → Rising key (lo 0) (lo n) (row f n)
  unfolding row
  rising_steps f lo zero h = omega arith
  rising_steps f lo (suc n) h =
      rising-append (lo 0) (lo n) (lo (suc n)) (row f n) (f n ∷ []) (rising_steps f lo n (λ k l. h k (omega arith))) (h n (omega arith))

  -- a row that rises from each index to the next
  pub rising-row : (f : ℕ → A) (n hi : ℕ) → ((k : ℕ) → k < n → key (f k) < hi) → ((i j : ℕ) → i < j → j < n → key (f i) < key (f j)) → Rising key 0 hi (row f n)
  unfolding row
  rising-row f zero hi low rise = omega arith
  rising-row f (suc n) hi low rise =
      rising-append 0 (key (f n)) hi (row f n) (f n ∷ [])
      (rising-row f n (key (f n)) (λ k l. rise k n l (omega arith)) (λ i j l h. rise i j l (omega arith)))
      (omega arith, (let b = low n (omega arith) in omega arith))

  -- what a list from lo on has is at lo or above
  pub rising-least : (lo hi : ℕ) (l : List A) → Rising key lo hi l → (x : A) → Memᴰ x l → lo ≤ key x
  rising-least lo hi [] r x m = absurd (mathlib.Core.List.Memᴰ.not-nil m)
  rising-least lo hi (y ∷ l) r x m =
      ⊎_elim
      (λ (e : x ≡ y). let b = r.0 in let same = ap key e in omega arith)
      (λ (h : Memᴰ x l). let b = r.0 in let above = rising-least (suc (key y)) hi l r.1 x h in omega arith)
      (mathlib.Core.List.Memᴰ.cases_cons m)

  -- each index is above the one before, and so above all before
  pub rising-next : (lo hi : ℕ) (l : List A) (d : A) → Rising key lo hi l → (k : ℕ) → suc k < length l → key (get_or l k d) < key (get_or l (suc k) d)
  rising-next lo hi [] d r k h = absurd (not-suc-le-zero h)
  rising-next lo hi (x ∷ []) d r k h = absurd (omega arith)
  rising-next lo hi (x ∷ y ∷ l) d r zero h = r.1.0
  rising-next lo hi (x ∷ y ∷ l) d r (suc k) h = rising-next (suc (key x)) hi (y ∷ l) d r.1 k (omega arith)

  pub rising-at : (lo hi : ℕ) (l : List A) (d : A) → Rising key lo hi l → (j k : ℕ) → j < k → k < length l → key (get_or l j d) < key (get_or l k d)
  rising-at lo hi l d r = rising_over (λ k. key (get_or l k d)) (length l) (rising-next lo hi l d r)

  -- of the rest of a list with a first member: what is among all of another with the same first is among its rest
  rest_mem : (lo hi : ℕ) (x : A) (l l' : List A) → Rising key lo hi (x ∷ l) → ((y : A) → Memᴰ y (x ∷ l) → Memᴰ y (x ∷ l')) →
      (y : A) → Memᴰ y l → Memᴰ y l'
  rest_mem lo hi x l l' r among y m =
      ⊎_elim
      (λ (e : y ≡ x). absurd (let above = rising-least (suc (key x)) hi l r.1 y m in let same = ap key e in omega arith))
      (λ (h : Memᴰ y l'). h)
      (mathlib.Core.List.Memᴰ.cases_cons (among y (mathlib.Core.List.Memᴰ.tail m)))

  -- the first members of two lists with the same members
  first-same : (lo hi lo' hi' : ℕ) (x y : A) (l l' : List A) → Rising key lo hi (x ∷ l) → Rising key lo' hi' (y ∷ l') →
      Memᴰ x (y ∷ l') → Memᴰ y (x ∷ l) → x ≡ y
  first-same lo hi lo' hi' x y l l' r r' m m' =
      ⊎_elim
      (λ (e : x ≡ y). e)
      (λ (h : Memᴰ x l').
      ⊎_elim
      (λ (e : y ≡ x). sym e)
      (λ (h' : Memᴰ y l).
      absurd
      (let above = rising-least (suc (key y)) hi' l' r'.1 x h in
      let above' = rising-least (suc (key x)) hi l r.1 y h' in
      omega arith))
      (mathlib.Core.List.Memᴰ.cases_cons m'))
      (mathlib.Core.List.Memᴰ.cases_cons m)

  pub rising_equal : (lo hi lo' hi' : ℕ) (l l' : List A) → Rising key lo hi l → Rising key lo' hi' l' →
      ((x : A) → Memᴰ x l → Memᴰ x l') → ((x : A) → Memᴰ x l' → Memᴰ x l) → l ≡ l'
  rising_equal lo hi lo' hi' [] [] r r' there back = refl
  rising_equal lo hi lo' hi' [] (y ∷ l') r r' there back = absurd (mathlib.Core.List.Memᴰ.not-nil (back y (mathlib.Core.List.Memᴰ.head refl)))
  rising_equal lo hi lo' hi' (x ∷ l) [] r r' there back = absurd (mathlib.Core.List.Memᴰ.not-nil (there x (mathlib.Core.List.Memᴰ.head refl)))
  rising_equal lo hi lo' hi' (x ∷ l) (y ∷ l') r r' there back =
      let e = first-same lo hi lo' hi' x y l l' r r' (there x (mathlib.Core.List.Memᴰ.head refl)) (back y (mathlib.Core.List.Memᴰ.head refl)) in
      let there' : (z : A) → Memᴰ z (x ∷ l) → Memᴰ z (x ∷ l') = (λ z m. subst (λ (w : A). Memᴰ z (w ∷ l')) (sym e) (there z m)) in
      let back' : (z : A) → Memᴰ z (y ∷ l') → Memᴰ z (y ∷ l) = (λ z m. subst (λ (w : A). Memᴰ z (w ∷ l)) e (back z m)) in
      ap₂ (λ (w : A) (rest : List A). w ∷ rest) e
      (rising_equal (suc (key x)) hi (suc (key y)) hi' l l' r.1 r'.1
      (rest_mem lo hi x l l' r there')
      (rest_mem lo' hi' y l' l r' back'))

  -- what is in a list above another's first member is in the other's rest, if it is in the other
  above-first : (lo hi : ℕ) (y : A) (l l' : List A) → suc (key y) ≤ lo → Rising key lo hi l → ((x : A) → Memᴰ x l → Memᴰ x (y ∷ l')) →
      (x : A) → Memᴰ x l → Memᴰ x l'
  above-first lo hi y l l' up r among x m =
      ⊎_elim
      (λ (e : x ≡ y). absurd (let above = rising-least lo hi l r x m in let same = ap key e in omega arith))
      (λ (h : Memᴰ x l'). h)
      (mathlib.Core.List.Memᴰ.cases_cons (among x m))

  pub rising-within : (lo hi lo' hi' : ℕ) (l l' : List A) → Rising key lo hi l → Rising key lo' hi' l' → ((x : A) → Memᴰ x l → Memᴰ x l') →
      (length l ≤ length l') × (length l' ≤ length l → (x : A) → Memᴰ x l' → Memᴰ x l)
  rising-within lo hi lo' hi' [] [] r r' among = (omega arith, λ e x m. m)
  rising-within lo hi lo' hi' [] (y ∷ l') r r' among = (omega arith, λ e. absurd (omega arith))
  rising-within lo hi lo' hi' (x ∷ l) [] r r' among = absurd (mathlib.Core.List.Memᴰ.not-nil (among x (mathlib.Core.List.Memᴰ.head refl)))
  rising-within lo hi lo' hi' (x ∷ l) (y ∷ l') r r' among =
      ⊎_elim
      (λ (e : x ≡ y).
      let among' : (z : A) → Memᴰ z (x ∷ l) → Memᴰ z (x ∷ l') = (λ z m. subst (λ (w : A). Memᴰ z (w ∷ l')) (sym e) (among z m)) in
      let rest = rising-within (suc (key x)) hi (suc (key y)) hi' l l' r.1 r'.1 (rest_mem lo hi x l l' r among') in
      let fewer = rest.0 in (
        omega arith,
        λ many z m.
            ⊎_elim
            (λ (same : z ≡ y). mathlib.Core.List.Memᴰ.head (same ∙ sym e))
            (λ (h : Memᴰ z l'). mathlib.Core.List.Memᴰ.tail (rest.1 (omega arith) z h))
            (mathlib.Core.List.Memᴰ.cases_cons m),
      ))
      (λ (h : Memᴰ x l').
      let up = rising-least (suc (key y)) hi' l' r'.1 x h in
      let raised : Rising key (suc (key y)) hi (x ∷ l) = (up, r.1) in
      let rest =
      rising-within (suc (key y)) hi (suc (key y)) hi' (x ∷ l) l' raised r'.1 (above-first (suc (key y)) hi y (x ∷ l) l' (omega arith) raised among) in
      let fewer = rest.0 in (omega arith, λ many. absurd (omega arith)))
      (mathlib.Core.List.Memᴰ.cases_cons (among x (mathlib.Core.List.Memᴰ.head refl)))

  -- A rising list without the member of one key, where it has one.
  without : ℕ → List A → List A
  without k [] = []
  without k (x ∷ l) = cond (eqb (key x) k) l (x ∷ without k l)

  without-first : (k : ℕ) (x : A) (l : List A) → key x ≡ k → without k (x ∷ l) ≡ l
  unfolding without
  without-first k x l e = ap (λ (t : Bool). cond t l (x ∷ without k l)) (eq-eqb (key x) k e)

  without_other : (k : ℕ) (x : A) (l : List A) → (key x ≡ k → ⊥) → without k (x ∷ l) ≡ x ∷ without k l
  unfolding without
  without_other k x l h = ap (λ (t : Bool). cond t l (x ∷ without k l)) (ne_eqb (key x) k h)

  without_shorter : (k : ℕ) (l : List A) → length l ≤ suc (length (without k l))
  without_shorter k [] = omega arith
  without_shorter k (x ∷ l) =
      ⊎_elim
      (λ (e : key x ≡ k). let same = ap length (without-first k x l e) in omega arith)
      (λ (h : key x ≡ k → ⊥). let same = ap length (without_other k x l h) in let rest = without_shorter k l in omega arith)
      (same_or_not (key x) k)

  without_rises : (k lo hi : ℕ) (l : List A) → Rising key lo hi l → Rising key lo hi (without k l)
  unfolding without
  without_rises k lo hi [] r = r
  without_rises k lo hi (x ∷ l) r =
      ⊎_elim
      (λ (e : key x ≡ k). subst (Rising key lo hi) (sym (without-first k x l e)) (rising-lower (suc (key x)) lo hi l (let b = r.0 in omega arith) r.1))
      (λ (h : key x ≡ k → ⊥). subst (Rising key lo hi) (sym (without_other k x l h)) (r.0, without_rises k (suc (key x)) hi l r.1))
      (same_or_not (key x) k)

  without-mem : (k lo hi : ℕ) (l : List A) → Rising key lo hi l → (y : A) → Memᴰ y (without k l) → Memᴰ y l × (key y ≡ k → ⊥)
  unfolding without
  without-mem k lo hi [] r y m = absurd (mathlib.Core.List.Memᴰ.not-nil m)
  without-mem k lo hi (x ∷ l) r y m =
      ⊎_elim
      (λ (e : key x ≡ k).
      let h : Memᴰ y l = subst (Memᴰ y) (without-first k x l e) m in
      let above = rising-least (suc (key x)) hi l r.1 y h in
      (mathlib.Core.List.Memᴰ.tail h, λ same. absurd (omega arith)))
      (λ (d : key x ≡ k → ⊥).
      ⊎_elim
      (λ (e : y ≡ x). (mathlib.Core.List.Memᴰ.head e, λ same. d (sym (ap key e) ∙ same)))
      (λ (h : Memᴰ y (without k l)). let rest = without-mem k (suc (key x)) hi l r.1 y h in (mathlib.Core.List.Memᴰ.tail rest.0, rest.1))
      (mathlib.Core.List.Memᴰ.cases_cons (subst (Memᴰ y) (without_other k x l d) m)))
      (same_or_not (key x) k)

  -- A rising list has no more members than a row that has them all.
  pub rising-few : (f : ℕ → A) (n lo hi : ℕ) (l : List A) → Rising key lo hi l → ((x : A) → Memᴰ x l → (k : ℕ) × (k < n) × (x ≡ f k)) → length l ≤ n
  rising-few f zero lo hi [] r all = omega arith
  rising-few f zero lo hi (x ∷ l) r all = absurd (not-suc-le-zero (all x (mathlib.Core.List.Memᴰ.head refl)).1)
  rising-few f (suc n) lo hi l r all =
      let rest =
      rising-few f n lo hi (without (key (f n)) l) (without_rises (key (f n)) lo hi l r)
      (λ x m.
      let kept = without-mem (key (f n)) lo hi l r x m in
      let w = all x kept.0 in
      ⊎_elim
      (λ (e : w.0 ≡ n). absurd (kept.1 (ap key (w.2 ∙ ap f e))))
      (λ (h : w.0 < n). (w.0, h, w.2))
      (eq-or-lt_of_le (le_of_suc-le-suc w.1))) in
      let shorter = without_shorter (key (f n)) l in
      omega arith
