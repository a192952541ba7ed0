-- Again and again the lowest member that nobody left names: this finds the first order in the dictionary that puts each above every rival of its own, and where
-- it is stuck there is none. So it gives what trying all orders gives. Assumes nothing.
use Prim.Native.Nat.{ℕ, zero, suc, ◌<◌, ◌≤◌}
use borrow.Author.Tests.{eq-eqb, ne_eqb, not-true, lt-ltb, ltb-true}
use mathlib.Core.Bool.{Bool, true, false, cond, not, ◌&&◌, ◌||◌}
use mathlib.Core.List.{List, [], ◌∷◌, ◌++◌, Memᴰ}
use mathlib.Core.Logic.{◌⊎◌, inl, inr, ⊎_elim}
use mathlib.Core.Path.{◌≡◌, refl, sym, ◌∙◌, ap, ap₂, subst}
use native.Mathlib.Nat.{eq-or-lt_of_le, le_of_suc-le-suc, not-suc-le-zero}
use native.Mathlib.Omega.{arith}
use lib.Dec.{eqb, ltb}
use lib.ListN.{length, get_or}
use Rattle.basis.specs.Rows.{row, joined}
use Rattle.basis.specs.Tests.{all_below, least}
use Rattle.basis.proofs.CountLaws as counts
use Rattle.basis.proofs.NumberLaws.{below_or_not}
use Rattle.basis.proofs.RisingLaws.{mem-at, at_mem, mem_when, mem-joined, joined-mem, rising-at}
use Rattle.basis.proofs.RowLaws.{row_head, row_same}
use Rattle.basis.proofs.TestLaws.{
  holds_or_fails,
  not_both,
  fails,
  same_tests,
  and_holds,
  and_parts,
  or_left,
  or_right,
  or_parts,
  or_assoc,
  or_fails,
  not_holds,
  any_at,
  any_where,
  all-at,
  at_all,
  all_head,
  all_same,
  least-before,
}
use Rattle.bidder_sets.specs.EngineSets.{rising_members}
use Rattle.bidder_sets.proofs.MembersLaws.{members_where, members-there, members-rise}
use Rattle.share_page.specs.SharePage.{without, headed, orders_of, puts_above, some_of, first_of, OrderOf, Precedes, FirstOrder}
use Rattle.share_page.specs.EngineShare.{rival_in, first_in, next_in, left_after, turns, all_found_to}
use Rattle.share_page.proofs.GoodLaws.{
  without-parts,
  count,
  count-without,
  Ordered,
  Above,
  ordered_order,
  Free,
  Good,
  order_good,
  good_order,
  others_good,
}
use Rattle.share_page.proofs.TableLaws.{first_member}

-- none of an empty set
count_none : (f : ℕ → Bool) (n : ℕ) → ((b : ℕ) → f b ≡ false) → count f n ≡ 0
count_none f n none = counts.count_none (λ i. f (suc i)) n (λ i l. none (suc i))

-- What `puts_above` tests, by index.
module _ (rival : ℕ → ℕ → Bool) (l : List ℕ) where
  above_where : puts_above rival l ≡ true → Above rival l
  unfolding puts_above
  above_where t j k h h' e =
      ⊎_elim
      (λ (x : not (rival (get_or l j 0) (get_or l k 0)) ≡ true). absurd (not_both e (not-true (rival (get_or l j 0) (get_or l k 0)) x)))
      (λ (x : ltb j k ≡ true). ltb-true j k x)
      (or_parts (not (rival (get_or l j 0) (get_or l k 0))) (ltb j k)
      (all-at (λ k. not (rival (get_or l j 0) (get_or l k 0)) || ltb j k) (length l)
      (all-at (λ j. all_below (λ k. not (rival (get_or l j 0) (get_or l k 0)) || ltb j k) (length l)) (length l) t j h) k h'))

  above-there : Above rival l → puts_above rival l ≡ true
  unfolding puts_above
  above-there a =
      at_all (λ j. all_below (λ k. not (rival (get_or l j 0) (get_or l k 0)) || ltb j k) (length l)) (length l)
      (λ j h.
      at_all (λ k. not (rival (get_or l j 0) (get_or l k 0)) || ltb j k) (length l)
      (λ k h'.
      ⊎_elim
      (λ (e : rival (get_or l j 0) (get_or l k 0) ≡ true). or_right (not (rival (get_or l j 0) (get_or l k 0))) (lt-ltb j k (a j k h h' e)))
      (λ (e : rival (get_or l j 0) (get_or l k 0) ≡ false). or_left (ltb j k) (not_holds e))
      (holds_or_fails (rival (get_or l j 0) (get_or l k 0)))))

-- Some list, and the first, of several that pass a test.
module _ (P : List ℕ → Bool) where
  some_where : (ls : List (List ℕ)) → some_of P ls ≡ true → (l : List ℕ) × Memᴰ l ls × (P l ≡ true)
  unfolding some_of
  some_where [] t = absurd (not_both t refl)
  some_where (l ∷ ls) t =
      ⊎_elim
      (λ (h : P l ≡ true). (l, mathlib.Core.List.Memᴰ.head refl, h))
      (λ (h : some_of P ls ≡ true). let w = some_where ls h in (w.0, mathlib.Core.List.Memᴰ.tail w.1, w.2))
      (or_parts (P l) (some_of P ls) t)

  some-append : (xs ys : List (List ℕ)) → some_of P (xs ++ ys) ≡ (some_of P xs || some_of P ys)
  unfolding some_of
  some-append [] ys = refl
  some-append (x ∷ xs) ys = ap (λ (t : Bool). P x || t) (some-append xs ys) ∙ sym (or_assoc (P x) (some_of P xs) (some_of P ys))

  first-append : (xs ys : List (List ℕ)) → first_of P (xs ++ ys) ≡ cond (some_of P xs) (first_of P xs) (first_of P ys)
  unfolding some_of first_of
  first-append [] ys = refl
  first-append (x ∷ xs) ys = ap (cond (P x) x) (first-append xs ys) ∙ either_way_lem (P x) (some_of P xs)
    where
      either_way_lem : (s t : Bool) → cond s x (cond t (first_of P xs) (first_of P ys)) ≡ cond (s || t) (cond s x (first_of P xs)) (first_of P ys)
      either_way_lem true t = refl
      either_way_lem false t = refl

  -- of lists one after another, where none of the first i has one that passes and the next one has
  module _ (g : ℕ → List (List ℕ)) (i : ℕ) (none : (j : ℕ) → j < i → some_of P (g j) ≡ false) (here : some_of P (g i) ≡ true) where
    none_before : (k : ℕ) → k ≤ i → some_of P (joined g k) ≡ false
    unfolding joined some_of
    none_before zero l = refl
    none_before (suc k) l = some-append (joined g k) (g k) ∙ or_fails (none_before k (omega arith)) (none k l)

    first-joined : (n : ℕ) → i < n → (some_of P (joined g n) ≡ true) × (first_of P (joined g n) ≡ first_of P (g i))
    unfolding joined
    first-joined zero l = absurd (not-suc-le-zero l)
    first-joined (suc n) l =
        ⊎_elim
        (λ (e : i ≡ n).
        let before = none_before n (omega arith) in
        let same = ap g e in (
          some-append (joined g n) (g n) ∙ or_right (some_of P (joined g n)) (ap (some_of P) (sym same) ∙ here),
          first-append (joined g n) (g n) ∙ ap (λ (t : Bool). cond t (first_of P (joined g n)) (first_of P (g n))) before ∙ ap (first_of P) (sym same),
        ))
        (λ (h : i < n).
        let before = first-joined n h in (
          some-append (joined g n) (g n) ∙ or_left (some_of P (g n)) before.0,
          first-append (joined g n) (g n) ∙ ap (λ (t : Bool). cond t (first_of P (joined g n)) (first_of P (g n))) before.0 ∙ before.1,
        ))
        (eq-or-lt_of_le (le_of_suc-le-suc l))

  -- of lists with one number before each, where that number makes no difference
  headed-same : (x : ℕ) (ls : List (List ℕ)) → ((l : List ℕ) → Memᴰ l ls → P (x ∷ l) ≡ P l) → some_of P ls ≡ true →
      (some_of P (headed x ls) ≡ true) × (first_of P (headed x ls) ≡ x ∷ first_of P ls)
  unfolding some_of first_of headed
  headed-same x [] same t = absurd (not_both t refl)
  headed-same x (l ∷ ls) same t =
      let e = same l (mathlib.Core.List.Memᴰ.head refl) in
      ⊎_elim
      (λ (h : P l ≡ true). (
        or_left (some_of P (headed x ls)) (e ∙ h),
        ap (λ (s : Bool). cond s (x ∷ l) (first_of P (headed x ls))) (e ∙ h) ∙ sym (ap (λ (s : Bool). x ∷ cond s l (first_of P ls)) h),
      ))
      (λ (h : P l ≡ false).
      let rest = headed-same x ls (λ l m. same l (mathlib.Core.List.Memᴰ.tail m)) (sym (ap (λ (s : Bool). s || some_of P ls) h) ∙ t) in (
        or_right (P (x ∷ l)) rest.0,
        ap (λ (s : Bool). cond s (x ∷ l) (first_of P (headed x ls))) (e ∙ h) ∙ rest.1 ∙ sym (ap (λ (s : Bool). x ∷ cond s l (first_of P ls)) h),
      ))
      (holds_or_fails (P l))

headed_where : (x : ℕ) (ls : List (List ℕ)) (l : List ℕ) → Memᴰ l (headed x ls) → (l' : List ℕ) × Memᴰ l' ls × (l ≡ x ∷ l')
unfolding headed
headed_where x [] l h = absurd (mathlib.Core.List.Memᴰ.not-nil h)
headed_where x (y ∷ ls) l h =
    ⊎_elim
    (λ (e : l ≡ x ∷ y). (y, mathlib.Core.List.Memᴰ.head refl, e))
    (λ (m : Memᴰ l (headed x ls)). let w = headed_where x ls l m in (w.0, mathlib.Core.List.Memᴰ.tail w.1, w.2))
    (mathlib.Core.List.Memᴰ.cases_cons h)

-- A good order passes the test, and what follows the head of one that passes does.
module _ (rival : ℕ → ℕ → Bool) where
  good_passes : (f : ℕ → Bool) (l : List ℕ) → Good rival f l → puts_above rival l ≡ true
  good_passes f l g = above-there rival l (good_order rival f l g).above

  tail_above : (x : ℕ) (l : List ℕ) → puts_above rival (x ∷ l) ≡ true → puts_above rival l ≡ true
  tail_above x l t = above-there rival l (λ j k h h' e. (let z = above_where rival (x ∷ l) t (suc j) (suc k) (omega arith) (omega arith) e in omega arith))

module _ (rival : ℕ → ℕ → Bool) (n : ℕ) (member : ℕ → Bool) (within : (b : ℕ) → member b ≡ true → (0 < b) × (b ≤ n)) where
  -- the members in rising order, and sets of some of them
  abbrev L : List ℕ
  L = rising_members member n

  abbrev Within : (ℕ → Bool) → Type 0
  Within f = (b : ℕ) → f b ≡ true → member b ≡ true

  within-without : (f : ℕ → Bool) (x : ℕ) → Within f → Within (without f x)
  within-without f x w b t = w b (without-parts f x b t).0

  index_of : (b : ℕ) → member b ≡ true → (k : ℕ) × (k < length L) × (get_or L k 0 ≡ b)
  index_of b t = let h = within b t in mem-at L 0 b (members-there member n b t h.0 h.1)

  some_at : (k : ℕ) → k < length L → 0 < get_or L k 0
  some_at k l = (members_where member n (get_or L k 0) (at_mem L 0 k l)).1

  rises_at : (j k : ℕ) → j < k → k < length L → get_or L j 0 < get_or L k 0
  rises_at = rising-at (λ (x : ℕ). x) 1 (suc n) L 0 (members-rise member n)

  -- The first of the members that passes a test
  module _ (test : ℕ → Bool) where
    abbrev place : ℕ
    place = least (λ k. test (get_or L k 0)) (length L)

    first-least : (x : ℕ) → member x ≡ true → test x ≡ true → (0 < first_in L test) × (first_in L test ≤ x)
    unfolding first_in
    first-least x m t =
        let w = index_of x m in
        let inside = w.1 in
        let at = w.2 in
        ⊎_elim
        (λ (l : w.0 < place). absurd (not_both (ap test at ∙ t) (least-before (λ k. test (get_or L k 0)) (length L) w.0 l)))
        (λ (l : place ≤ w.0). (
          some_at place (omega arith),
          ⊎_elim
              (λ (e : place ≡ w.0). let same = ap (λ (k : ℕ). get_or L k 0) e in omega arith)
              (λ (lt : place < w.0). let less = rises_at place w.0 lt inside in omega arith)
              (eq-or-lt_of_le l),
        ))
        (below_or_not w.0 place)

  -- whom somebody left names
  rival_there : (f : ℕ → Bool) → Within f → (j x : ℕ) → f j ≡ true → rival j x ≡ true → rival_in rival L f x ≡ true
  unfolding rival_in
  rival_there f w j x t u =
      let v = index_of j (w j t) in
      any_at (λ k. f (get_or L k 0) && rival (get_or L k 0) x) (length L) v.0 v.1
      (subst (λ (y : ℕ). (f y && rival y x) ≡ true) (sym v.2) (and_holds t u))

  rival_where : (f : ℕ → Bool) (x : ℕ) → rival_in rival L f x ≡ true → (j : ℕ) × (f j ≡ true) × (rival j x ≡ true)
  unfolding rival_in
  rival_where f x t =
      let v = any_where (λ k. f (get_or L k 0) && rival (get_or L k 0) x) (length L) t in
      let both = and_parts (f (get_or L v.0 0)) (rival (get_or L v.0 0) x) v.2 in
      (get_or L v.0 0, both.0, both.1)

  -- the next one is left, nobody left names it, and it is the lowest such
  next-free : (f : ℕ → Bool) → Within f → (next_in rival L f ≡ 0 → ⊥) → (f (next_in rival L f) ≡ true) × Free rival f (next_in rival L f)
  unfolding next_in
  next-free f w some =
      let p = next_in rival L f in
      let parts = and_parts (f p) (not (rival_in rival L f p)) (first_member L (λ x. f x && not (rival_in rival L f x)) some).3 in
      (parts.0, λ j t. fails (rival j p) (λ u. not_both (rival_there f w j p t u) (not-true (rival_in rival L f p) parts.1)))

  next_lowest : (f : ℕ → Bool) → Within f → (x : ℕ) → f x ≡ true → Free rival f x → (0 < next_in rival L f) × (next_in rival L f ≤ x)
  unfolding next_in
  next_lowest f w x t free =
      first-least (λ x. f x && not (rival_in rival L f x)) x (w x t)
      (and_holds t
      (not_holds
      (fails (rival_in rival L f x) (λ u. let v = rival_where f x u in not_both v.2 (free v.0 v.1)))))

  -- The turns, head first, and whether each finds one.
  taken : ℕ → (ℕ → Bool) → List ℕ
  taken zero f = []
  taken (suc c) f = next_in rival L f ∷ taken c (without f (next_in rival L f))

  goes : ℕ → (ℕ → Bool) → Bool
  goes zero f = true
  goes (suc c) f = not (eqb (next_in rival L f) 0) && goes c (without f (next_in rival L f))

  found_one : (f : ℕ → Bool) → not (eqb (next_in rival L f) 0) ≡ true → next_in rival L f ≡ 0 → ⊥
  found_one f t e = not_both t (ap not (eq-eqb (next_in rival L f) 0 e))

  -- one member fewer
  one_fewer : (f : ℕ → Bool) (x c : ℕ) → Within f → f x ≡ true → count f n ≡ suc c → count (without f x) n ≡ c
  one_fewer f x c w t e = let h = within x (w x t) in let less = count-without f x n h.0 h.1 t in omega arith

  none_left : (f : ℕ → Bool) → Within f → count f n ≡ 0 → (b : ℕ) → f b ≡ false
  none_left f w e b = fails (f b) (λ t. let h = within b (w b t) in let less = count-without f b n h.0 h.1 t in absurd (omega arith))

  taken_good : (c : ℕ) (f : ℕ → Bool) → Within f → count f n ≡ c → goes c f ≡ true → Good rival f (taken c f)
  unfolding taken goes
  taken_good zero f w e g = none_left f w e
  taken_good (suc c) f w e g =
      let p = next_in rival L f in
      let parts = and_parts (not (eqb p 0)) (goes c (without f p)) g in
      let open-one = next-free f w (found_one f parts.0) in
      (open-one.0, open-one.1, taken_good c (without f p) (within-without f p w) (one_fewer f p c w open-one.0 e) parts.1)

  -- no good order comes before it in the dictionary
  later : (x : ℕ) (l l' : List ℕ) → Precedes l l' → Precedes (x ∷ l) (x ∷ l')
  later x l l' s =
      record {
        index = suc s.index;
        inside = (let h = s.inside in omega arith);
        inside' = (let h = s.inside' in omega arith);
        smaller = s.smaller;
        same = same;
      }
    where
      same : (j : ℕ) → j < suc s.index → get_or (x ∷ l) j 0 ≡ get_or (x ∷ l') j 0
      same zero u = refl
      same (suc j) u = s.same j (omega arith)

  taken_first : (c : ℕ) (f : ℕ → Bool) → Within f → count f n ≡ c → goes c f ≡ true → (l : List ℕ) → Good rival f l →
      (taken c f ≡ l) ⊎ Precedes (taken c f) l
  unfolding taken goes
  taken_first zero f w e g [] h = inl refl
  taken_first zero f w e g (x ∷ l) h = absurd (not_both h.0 (none_left f w e x))
  taken_first (suc c) f w e g [] h = let y = count_none f n h in absurd (omega arith)
  taken_first (suc c) f w e g (x ∷ l) h =
      let p = next_in rival L f in
      let parts = and_parts (not (eqb p 0)) (goes c (without f p)) g in
      let open-one = next-free f w (found_one f parts.0) in
      ⊎_elim
      (λ (q : p ≡ x).
      ⊎_elim
      (λ (s : taken c (without f p) ≡ l). inl (ap₂ ◌∷◌ q s))
      (λ (s : Precedes (taken c (without f p)) l).
      inr (subst (λ (y : ℕ). Precedes (p ∷ taken c (without f p)) (y ∷ l)) q (later p (taken c (without f p)) l s)))
      (taken_first c (without f p) (within-without f p w) (one_fewer f p c w open-one.0 e) parts.1 l
      (subst (λ (y : ℕ). Good rival (without f y) l) (sym q) h.2)))
      (λ (s : p < x).
      inr
      (record { index = 0; inside = omega arith; inside' = omega arith; smaller = s; same = λ j u. absurd (not-suc-le-zero u) }))
      (eq-or-lt_of_le (next_lowest f w x h.0 h.1).1)

  -- where a good order is, no turn is stuck
  good_goes : (c : ℕ) (f : ℕ → Bool) → Within f → count f n ≡ c → (l : List ℕ) → Good rival f l → goes c f ≡ true
  unfolding goes
  good_goes zero f w e l h = refl
  good_goes (suc c) f w e [] h = let y = count_none f n h in absurd (omega arith)
  good_goes (suc c) f w e (x ∷ l) h =
      let p = next_in rival L f in
      let low = (next_lowest f w x h.0 h.1).0 in
      let some : p ≡ 0 → ⊥ = (λ z. absurd (omega arith)) in
      let open-one = next-free f w some in
      let rest = others_good rival f p (x ∷ l) h in
      and_holds (not_holds (ne_eqb p 0 some))
      (good_goes c (without f p) (within-without f p w) (one_fewer f p c w open-one.0 e) rest.0 rest.1)

  -- The orders that begin with one bidder, where it is a member
  abbrev beginning : (ℕ → Bool) → ℕ → ℕ → List (List ℕ)
  beginning f c i = cond (f (suc i)) (headed (suc i) (orders_of n c (without f (suc i)))) []

  beginning_where : (f : ℕ → Bool) (c i : ℕ) (l : List ℕ) → Memᴰ l (beginning f c i) →
      (f (suc i) ≡ true) × (l' : List ℕ) × Memᴰ l' (orders_of n c (without f (suc i))) × (l ≡ suc i ∷ l')
  beginning_where f c i l h =
      let begins = mem_when (f (suc i)) (headed (suc i) (orders_of n c (without f (suc i)))) l h in
      let w = headed_where (suc i) (orders_of n c (without f (suc i))) l begins.1 in
      (begins.0, w.0, w.1, w.2)

  -- An order among all is an order of the set,
  orders_ordered : (c : ℕ) (f : ℕ → Bool) → Within f → count f n ≡ c → (l : List ℕ) → Memᴰ l (orders_of n c f) → Ordered f l
  unfolding orders_of
  orders_ordered zero f w e l h = subst (Ordered f) (sym (mathlib.Core.List.Memᴰ.eq_of_singleton h)) (none_left f w e)
  orders_ordered (suc c) f w e l h =
      let v = mem-joined (beginning f c) n l h in
      let x = suc v.0 in
      let u = beginning_where f c v.0 l v.2 in
      subst (Ordered f) (sym u.3)
      (u.0, orders_ordered c (without f x) (within-without f x w) (one_fewer f x c w u.0 e) u.1 u.2)

  -- so one that passes is a good one,
  passing_good : (c : ℕ) (f : ℕ → Bool) → Within f → count f n ≡ c → (l : List ℕ) → Memᴰ l (orders_of n c f) → puts_above rival l ≡ true → Good rival f l
  passing_good c f w e l h t = order_good rival f l (ordered_order rival f l (orders_ordered c f w e l h) (above_where rival l t))

  -- and the first that passes is the one that the turns find.
  module _ (c : ℕ) (f : ℕ → Bool) (w : Within f) (e : count f n ≡ suc c) where
    -- none of those that begin with a lower bidder passes
    lower-none : (i : ℕ) → suc i < next_in rival L f → some_of (puts_above rival) (beginning f c i) ≡ false
    unfolding orders_of
    lower-none i less =
        fails (some_of (puts_above rival) (beginning f c i))
        (λ t.
        let v = some_where (puts_above rival) (beginning f c i) t in
        let u = beginning_where f c i v.0 v.1 in
        let among = joined-mem (beginning f c) n i v.0 (within (suc i) (w (suc i) u.0)).1 v.1 in
        let good = subst (Good rival f) u.3 (passing_good (suc c) f w e v.0 among v.2) in
        let low = (next_lowest f w (suc i) good.0 good.1).1 in
        absurd (omega arith))

    -- with the next one before them, those of the others pass as they do without it
    no_difference : (next_in rival L f ≡ 0 → ⊥) → (l : List ℕ) → Memᴰ l (orders_of n c (without f (next_in rival L f))) →
        puts_above rival (next_in rival L f ∷ l) ≡ puts_above rival l
    no_difference some l h =
        let p = next_in rival L f in
        let open-one = next-free f w some in
        same_tests (puts_above rival (p ∷ l)) (puts_above rival l) (tail_above rival p l)
        (λ t.
        good_passes rival f (p ∷ l) (
          open-one.0,
          open-one.1,
          passing_good c (without f p) (within-without f p w) (one_fewer f p c w open-one.0 e) l h t,
        ))

    by_number : (p : ℕ) → next_in rival L f ≡ p → (p ≡ 0 → ⊥) → some_of (puts_above rival) (orders_of n c (without f p)) ≡ true →
        (some_of (puts_above rival) (orders_of n (suc c) f) ≡ true)
        × (first_of (puts_above rival) (orders_of n (suc c) f) ≡ p ∷ first_of (puts_above rival) (orders_of n c (without f p)))
    unfolding orders_of
    by_number zero q some rest = absurd (some refl)
    by_number (suc i) q some rest =
        let open-one = next-free f w (λ z. some (sym q ∙ z)) in
        let here : f (suc i) ≡ true = ap f (sym q) ∙ open-one.0 in
        let begins : beginning f c i ≡ headed (suc i) (orders_of n c (without f (suc i)))
        = ap (λ (t : Bool). cond t (headed (suc i) (orders_of n c (without f (suc i)))) []) here in
        let heads =
        headed-same (puts_above rival) (suc i) (orders_of n c (without f (suc i)))
        (subst (λ (x : ℕ). (l : List ℕ) → Memᴰ l (orders_of n c (without f x)) → puts_above rival (x ∷ l) ≡ puts_above rival l) q
        (no_difference (λ z. some (sym q ∙ z))))
        rest in
        let all =
        first-joined (puts_above rival) (beginning f c) i (λ j l. lower-none j (omega arith)) (ap (some_of (puts_above rival)) begins ∙ heads.0) n
        (within (suc i) (w (suc i) here)).1 in
        (all.0, all.1 ∙ ap (first_of (puts_above rival)) begins ∙ heads.1)

  first_taken : (c : ℕ) (f : ℕ → Bool) → Within f → count f n ≡ c → goes c f ≡ true →
      (some_of (puts_above rival) (orders_of n c f) ≡ true) × (first_of (puts_above rival) (orders_of n c f) ≡ taken c f)
  unfolding taken goes orders_of some_of first_of puts_above all_below
  first_taken zero f w e g = (refl, refl)
  first_taken (suc c) f w e g =
      let p = next_in rival L f in
      let parts = and_parts (not (eqb p 0)) (goes c (without f p)) g in
      let some = found_one f parts.0 in
      let rest = first_taken c (without f p) (within-without f p w) (one_fewer f p c w (next-free f w some).0 e) parts.1 in
      let here = by_number c f w e p refl some rest.0 in
      (here.0, here.1 ∙ ap (λ (l : List ℕ). p ∷ l) rest.1)

  some-goes : (c : ℕ) (f : ℕ → Bool) → Within f → count f n ≡ c → some_of (puts_above rival) (orders_of n c f) ≡ goes c f
  some-goes c f w e =
      same_tests (some_of (puts_above rival) (orders_of n c f)) (goes c f)
      (λ t.
      let v = some_where (puts_above rival) (orders_of n c f) t in
      good_goes c f w e v.0 (passing_good c f w e v.0 v.1 v.2))
      (λ g. (first_taken c f w e g).0)

  -- The turns in the loop's shape.
  left_next : (f : ℕ → Bool) (k : ℕ) → left_after rival L f (suc k) ≡ left_after rival L (without f (next_in rival L f)) k
  unfolding left_after
  left_next f zero = refl
  left_next f (suc k) = ap (λ (g : ℕ → Bool). without g (next_in rival L g)) (left_next f k)

  taken_turns : (c : ℕ) (f : ℕ → Bool) → turns rival L f c ≡ taken c f
  unfolding taken turns row left_after
  taken_turns zero f = refl
  taken_turns (suc c) f =
      row_head (λ k. next_in rival L (left_after rival L f k)) c
      ∙ ap (λ (l : List ℕ). next_in rival L f ∷ l)
      (row_same (λ k. next_in rival L (left_after rival L f (suc k))) (λ k. next_in rival L (left_after rival L (without f (next_in rival L f)) k)) c
      (λ i h. ap (next_in rival L) (left_next f i))
      ∙ taken_turns c (without f (next_in rival L f)))

  goes_found : (c : ℕ) (f : ℕ → Bool) → all_found_to rival L f c ≡ goes c f
  unfolding goes all_found_to all_below left_after
  goes_found zero f = refl
  goes_found (suc c) f =
      all_head (λ k. not (eqb (next_in rival L (left_after rival L f k)) 0)) c
      ∙ ap (λ (x : Bool). not (eqb (next_in rival L f) 0) && x)
      (all_same (λ k. not (eqb (next_in rival L (left_after rival L f (suc k))) 0))
      (λ k. not (eqb (next_in rival L (left_after rival L (without f (next_in rival L f)) k)) 0)) c
      (λ i h. ap (λ (g : ℕ → Bool). not (eqb (next_in rival L g) 0)) (left_next f i))
      ∙ goes_found c (without f (next_in rival L f)))

  -- What the call needs: trying all orders and taking turns come to the same.
  all-members : Within member
  all-members b t = t

  pub some_found : some_of (puts_above rival) (orders_of n (count member n) member) ≡ all_found_to rival L member (count member n)
  some_found = some-goes (count member n) member all-members refl ∙ sym (goes_found (count member n) member)

  pub first_found : all_found_to rival L member (count member n) ≡ true →
      first_of (puts_above rival) (orders_of n (count member n) member) ≡ turns rival L member (count member n)
  first_found t =
      (first_taken (count member n) member all-members refl (sym (goes_found (count member n) member) ∙ t)).1
      ∙ sym (taken_turns (count member n) member)

  -- And what it tells: an order there is exactly where one of all passes, and the first that passes is the first.
  pub first-order : some_of (puts_above rival) (orders_of n (count member n) member) ≡ true →
      FirstOrder rival member (first_of (puts_above rival) (orders_of n (count member n) member))
  first-order t =
      let c = count member n in
      let g = sym (some-goes c member all-members refl) ∙ t in
      subst (FirstOrder rival member) (sym (first_taken c member all-members refl g).1)
      (record {
        order = good_order rival member (taken c member) (taken_good c member all-members refl g);
        first = λ l o. taken_first c member all-members refl g l (order_good rival member l o);
      })

  pub order-some : (l : List ℕ) → OrderOf rival member l → some_of (puts_above rival) (orders_of n (count member n) member) ≡ true
  order-some l o =
      some-goes (count member n) member all-members refl ∙ good_goes (count member n) member all-members refl l (order_good rival member l o)

  -- an order is as long as the set
  pub good_many : (f : ℕ → Bool) → Within f → (l : List ℕ) → Good rival f l → length l ≡ count f n
  good_many f w [] g = sym (count_none f n g)
  good_many f w (x ∷ l) g =
      let h = within x (w x g.0) in
      let less = count-without f x n h.0 h.1 g.0 in
      let rest = good_many (without f x) (within-without f x w) l g.2 in
      omega arith
