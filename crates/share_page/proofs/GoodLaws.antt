-- Orders that put each member above every rival of its own, head first: the head is a member that no member names, and the rest is such an order of the
-- others. One taken out of such an order leaves one of the others. Assumes nothing.
use Prim.Native.Nat.{ℕ, zero, suc, ◌+◌, ◌<◌, ◌≤◌}
use borrow.Author.Tests.{eq-eqb, ne_eqb, not-true}
use mathlib.Core.Bool.{Bool, true, false, cond, not, ◌&&◌}
use mathlib.Core.List.{List, [], ◌∷◌}
use mathlib.Core.Logic.{⊎_elim}
use mathlib.Core.Path.{◌≡◌, refl, sym, ◌∙◌, ap, subst, fun_ext}
use native.Mathlib.Nat.{eq-or-lt_of_le, not-suc-le-zero}
use native.Mathlib.Omega.{arith}
use lib.Dec.{eqb}
use lib.ListN.{length, get_or}
use Rattle.basis.specs.Counting.{count_to}
use Rattle.basis.proofs.CountLaws.{count_next, one_passes, one_fails}
use Rattle.basis.proofs.NumberLaws.{same_or_not}
use Rattle.basis.proofs.TestLaws.{not_both, fails, and_holds, and_parts, not_holds}
use Rattle.share_page.specs.SharePage.{without, OrderOf}

-- one taken out of a set
module _ (f : ℕ → Bool) (b : ℕ) where
  without_other : (i : ℕ) → (i ≡ b → ⊥) → without f b i ≡ f i
  without_other i d = kept (f i) (eqb i b) (ne_eqb i b d)
    where
      kept : (x y : Bool) → y ≡ false → (x && not y) ≡ x
      kept true y e = ap not e
      kept false y e = refl

  without-same : without f b b ≡ false
  without-same = fails (without f b b) (λ t. not_both (eq-eqb b b refl) (not-true (eqb b b) (and_parts (f b) (not (eqb b b)) t).1))

  pub without-parts : (i : ℕ) → without f b i ≡ true → (f i ≡ true) × (i ≡ b → ⊥)
  without-parts i t =
      let parts = and_parts (f i) (not (eqb i b)) t in
      (parts.0, λ e. not_both (eq-eqb i b e) (not-true (eqb i b) parts.1))

  without-holds : (i : ℕ) → f i ≡ true → (i ≡ b → ⊥) → without f b i ≡ true
  without-holds i t d = and_holds t (not_holds (ne_eqb i b d))

-- counts one less
abbrev pub count : (ℕ → Bool) → ℕ → ℕ
count f n = count_to (λ i. f (suc i)) n

module _ (f : ℕ → Bool) (b : ℕ) where
  one_same : (i : ℕ) → (suc i ≡ b → ⊥) → cond {A = ℕ} (without f b (suc i)) 1 0 ≡ cond (f (suc i)) 1 0
  one_same i d = ap (λ (t : Bool). cond {A = ℕ} t 1 0) (without_other f b (suc i) d)

  count-below : (n : ℕ) → n < b → count (without f b) n ≡ count f n
  unfolding count_to
  count-below zero l = refl
  count-below (suc n) l =
      let before = count-below n (omega arith) in
      let here = one_same n (λ e. absurd (omega arith)) in
      omega arith

  pub count-without : (n : ℕ) → 0 < b → b ≤ n → f b ≡ true → count (without f b) n + 1 ≡ count f n
  count-without zero some l t = absurd (omega arith)
  count-without (suc n) some l t =
      let a = count_next (λ i. without f b (suc i)) n in
      let c = count_next (λ i. f (suc i)) n in
      ⊎_elim
      (λ (e : b ≡ suc n).
      let before = count-below n (omega arith) in
      let here = one_fails (cond (without f b (suc n)) 1 0) _ refl (ap (without f b) (sym e) ∙ without-same f b) in
      let there = one_passes (cond (f (suc n)) 1 0) _ refl (ap f (sym e) ∙ t) in
      omega arith)
      (λ (lt : b < suc n).
      let before = count-without n some (omega arith) t in
      let here = one_same n (λ e. absurd (omega arith)) in
      omega arith)
      (eq-or-lt_of_le l)

-- two taken out, in either order
without_swap : (f : ℕ → Bool) (x y : ℕ) → without (without f x) y ≡ without (without f y) x
without_swap f x y = fun_ext (λ b. swap (f b) (not (eqb b x)) (not (eqb b y)))
  where
    swap : (p q s : Bool) → ((p && q) && s) ≡ ((p && s) && q)
    swap true true true = refl
    swap true true false = refl
    swap true false true = refl
    swap true false false = refl
    swap false q s = refl

-- An order of a set, head first,
abbrev pub Ordered : (ℕ → Bool) → List ℕ → Type 0
Ordered f [] = (b : ℕ) → f b ≡ false
Ordered f (x ∷ l) = (f x ≡ true) × Ordered (without f x) l

-- and by index: what stands in it is of the set, and each of the set stands in it, once
ordered_members : (f : ℕ → Bool) (l : List ℕ) → Ordered f l → (k : ℕ) → k < length l → f (get_or l k 0) ≡ true
ordered_members f [] o k h = absurd (not-suc-le-zero h)
ordered_members f (x ∷ l) o zero h = o.0
ordered_members f (x ∷ l) o (suc k) h = (without-parts f x (get_or l k 0) (ordered_members (without f x) l o.1 k (omega arith))).0

ordered_all : (f : ℕ → Bool) (l : List ℕ) → Ordered f l → (b : ℕ) → f b ≡ true → (k : ℕ) × (k < length l) × (get_or l k 0 ≡ b)
ordered_all f [] o b t = absurd (not_both t (o b))
ordered_all f (x ∷ l) o b t =
    ⊎_elim
    (λ (e : b ≡ x). (0, omega arith, sym e))
    (λ (d : b ≡ x → ⊥). let w = ordered_all (without f x) l o.1 b (without-holds f x b t d) in (suc w.0, (let h = w.1 in omega arith), w.2))
    (same_or_not b x)

-- the head stands nowhere else
away : (f : ℕ → Bool) (x : ℕ) (l : List ℕ) → Ordered f (x ∷ l) → (k : ℕ) → k < length l → x ≡ get_or l k 0 → ⊥
away f x l o k h e = (without-parts f x (get_or l k 0) (ordered_members (without f x) l o.1 k h)).1 (sym e)

ordered_once : (f : ℕ → Bool) (l : List ℕ) → Ordered f l → (j k : ℕ) → j < length l → k < length l → get_or l j 0 ≡ get_or l k 0 → j ≡ k
ordered_once f [] o j k h h' e = absurd (not-suc-le-zero h)
ordered_once f (x ∷ l) o zero zero h h' e = refl
ordered_once f (x ∷ l) o zero (suc k) h h' e = absurd (away f x l o k (omega arith) e)
ordered_once f (x ∷ l) o (suc j) zero h h' e = absurd (away f x l o j (omega arith) (sym e))
ordered_once f (x ∷ l) o (suc j) (suc k) h h' e = ap suc (ordered_once (without f x) l o.1 j k (omega arith) (omega arith) e)

module _ (rival : ℕ → ℕ → Bool) where
  -- each above every rival of its own, by index
  abbrev pub Above : List ℕ → Type 0
  Above l = (j k : ℕ) → j < length l → k < length l → rival (get_or l j 0) (get_or l k 0) ≡ true → j < k

  pub ordered_order : (f : ℕ → Bool) (l : List ℕ) → Ordered f l → Above l → OrderOf rival f l
  ordered_order f l o a = record { members = ordered_members f l o; all = ordered_all f l o; once = ordered_once f l o; above = a }

  -- no member names x
  abbrev pub Free : (ℕ → Bool) → ℕ → Type 0
  Free f x = (j : ℕ) → f j ≡ true → rival j x ≡ false

  -- an order that puts each above every rival of its own, head first
  abbrev pub Good : (ℕ → Bool) → List ℕ → Type 0
  Good f [] = (b : ℕ) → f b ≡ false
  Good f (x ∷ l) = (f x ≡ true) × Free f x × Good (without f x) l

  pub order_good : (f : ℕ → Bool) (l : List ℕ) → OrderOf rival f l → Good f l
  order_good f [] o = λ b. fails (f b) (λ t. not-suc-le-zero (o.all b t).1)
  order_good f (x ∷ l) o = (
    o.members 0 (omega arith),
    (λ j t.
        fails (rival j x)
        (λ u.
        let w = o.all j t in
        not-suc-le-zero (o.above w.0 0 w.1 (omega arith) (subst (λ (y : ℕ). rival y x ≡ true) (sym w.2) u)))),
    order_good (without f x) l
        (record {
          members = λ k h.
              without-holds f x (get_or l k 0) (o.members (suc k) (omega arith))
              (λ e. (let z = o.once (suc k) 0 (omega arith) (omega arith) e in absurd (omega arith)));
          all = λ b t. found b (without-parts f x b t).1 (o.all b (without-parts f x b t).0);
          once = λ j k h h' e. (let z = o.once (suc j) (suc k) (omega arith) (omega arith) e in omega arith);
          above = λ j k h h' e. (let z = o.above (suc j) (suc k) (omega arith) (omega arith) e in omega arith);
        }),
  )
    where
      after : (b : ℕ) → (b ≡ x → ⊥) → (k : ℕ) → k < length (x ∷ l) → get_or (x ∷ l) k 0 ≡ b → (k : ℕ) × (k < length l) × (get_or l k 0 ≡ b)
      after b d zero h e = absurd (d (sym e))
      after b d (suc k) h e = (k, omega arith, e)

      found : (b : ℕ) → (b ≡ x → ⊥) → (k : ℕ) × (k < length (x ∷ l)) × (get_or (x ∷ l) k 0 ≡ b) → (k : ℕ) × (k < length l) × (get_or l k 0 ≡ b)
      found b d w = after b d w.0 w.1 w.2

  good_ordered : (f : ℕ → Bool) (l : List ℕ) → Good f l → Ordered f l
  good_ordered f [] g = g
  good_ordered f (x ∷ l) g = (g.0, good_ordered (without f x) l g.2)

  good_above : (f : ℕ → Bool) (l : List ℕ) → Good f l → Above l
  good_above f [] g j k h h' e = absurd (not-suc-le-zero h)
  good_above f (x ∷ l) g j zero h h' e = absurd (not_both e (g.1 (get_or (x ∷ l) j 0) (ordered_members f (x ∷ l) (good_ordered f (x ∷ l) g) j h)))
  good_above f (x ∷ l) g zero (suc k) h h' e = omega arith
  good_above f (x ∷ l) g (suc j) (suc k) h h' e = let z = good_above (without f x) l g.2 j k (omega arith) (omega arith) e in omega arith

  pub good_order : (f : ℕ → Bool) (l : List ℕ) → Good f l → OrderOf rival f l
  good_order f l g = ordered_order f l (good_ordered f l g) (good_above f l g)

  -- one taken out of a good order leaves a good order of the others
  remove : ℕ → List ℕ → List ℕ
  remove p [] = []
  remove p (x ∷ l) = cond (eqb x p) l (x ∷ remove p l)

  removed_good : (f : ℕ → Bool) (p : ℕ) (l : List ℕ) → Good f l → Good (without f p) (remove p l)
  unfolding remove
  removed_good f p [] g = λ b. ap (λ (y : Bool). y && not (eqb b p)) (g b)
  removed_good f p (x ∷ l) g =
      ⊎_elim
      (λ (e : x ≡ p).
      subst (λ (t : Bool). Good (without f p) (cond t l (x ∷ remove p l))) (sym (eq-eqb x p e)) (subst (λ (y : ℕ). Good (without f y) l) e g.2))
      (λ (d : x ≡ p → ⊥).
      subst (λ (t : Bool). Good (without f p) (cond t l (x ∷ remove p l))) (sym (ne_eqb x p d)) (
        without-holds f p x g.0 d,
        (λ j t. g.1 j (without-parts f p j t).0),
        subst (λ (h : ℕ → Bool). Good h (remove p l)) (without_swap f x p) (removed_good (without f x) p l g.2),
      ))
      (same_or_not x p)

  pub others_good : (f : ℕ → Bool) (p : ℕ) (l : List ℕ) → Good f l → (l' : List ℕ) × Good (without f p) l'
  others_good f p l g = (remove p l, removed_good f p l g)
