-- A row that is filled from the front, one store a turn, what stands at each index of it, and a store inside it. Assumes nothing.
use Prim.Native.Nat.{ℕ, zero, suc, ◌-◌, ◌+◌, ◌*◌, ◌<◌, ◌≤◌}
use mathlib.Core.List.{List, [], ◌∷◌, ◌++◌, append_assoc}
use mathlib.Core.Logic.{⊎_elim}
use mathlib.Core.Bool.{true, false}
use mathlib.Core.Path.{◌≡◌, refl, sym, ◌∙◌, ap, ap₂}
use borrow.Author.Tests.{ltb-true, ltb-false}
use lib.Dec.{ltb}
use native.Mathlib.Nat.{eq-or-lt_of_le, le_of_suc-le-suc, not-suc-le-zero, sub-zero, mul-zero, mul-suc, add-zero, zero-add}
use native.Mathlib.Omega.{arith}
use lib.ListN.{length, get_or, set, drop, replicate, length-append, length-drop, length-replicate, get_or-replicate, replicate-append-replicate, get_or-append, get_or-eq_default}
use lib.Seq.{sets, sets-eq, set_at, set-append_left, get_or-append-add, get_or-append_seam, take_at, drop-append-add, drop-drop}
use Rattle.basis.specs.Rows.{row, padded, joined}
use Rattle.basis.proofs.TestLaws.{holds_or_fails}

module _ {A : Type 0} (f : ℕ → A) where
  pub length-row : (k : ℕ) → length (row f k) ≡ k
  unfolding row
  length-row zero = refl
  length-row (suc k) = length-append (row f k) (f k ∷ []) ∙ (let h = length-row k in omega arith)

  pub get_d_row : (k : ℕ) (d : A) (i : ℕ) → i < k → get_or (row f k) i d ≡ f i
  unfolding row
  get_d_row zero d i l = absurd (not-suc-le-zero l)
  get_d_row (suc k) d i l =
      ⊎_elim
      (λ (q : i ≡ k).
      let h : i ≡ length (row f k) = q ∙ sym (length-row k) in
      ap (λ (n : ℕ). get_or (row f k ++ (f k ∷ [])) n d) h ∙ get_or-append_seam (row f k) (f k) [] d ∙ ap f (sym q))
      (λ (lt : i < k).
      get_or-append (row f k) (f k ∷ []) d i (let h = length-row k in omega arith) ∙ get_d_row k d i lt)
      (eq-or-lt_of_le (le_of_suc-le-suc l))

  pub padded-none : (n : ℕ) (blank : A) → padded f 0 n blank ≡ replicate n blank
  unfolding padded row
  padded-none n blank = ap (λ (m : ℕ). replicate m blank) (sub-zero n)

  -- a row of blanks, and blanks after it, are blanks
  row_blanks : (k : ℕ) (blank : A) → ((j : ℕ) → j < k → f j ≡ blank) → row f k ≡ replicate k blank
  unfolding row
  row_blanks zero blank h = refl
  row_blanks (suc k) blank h =
      ap₂ (λ (l : List A) (x : A). l ++ (x ∷ [])) (row_blanks k blank (λ j l. h j (omega arith))) (h k (omega arith))
      ∙ replicate-append-replicate k 1 blank
      ∙ ap (λ (n : ℕ). replicate n blank) (let e : k + 1 ≡ suc k = omega arith in e)

  pub padded_blanks : (k n : ℕ) (blank : A) → k ≤ n → ((j : ℕ) → j < k → f j ≡ blank) → padded f k n blank ≡ replicate n blank
  unfolding padded
  padded_blanks k n blank l h =
      ap (λ (x : List A). x ++ replicate (n - k) blank) (row_blanks k blank h)
      ∙ replicate-append-replicate k (n - k) blank
      ∙ ap (λ (x : ℕ). replicate x blank) (let e : k + (n - k) ≡ n = omega arith in e)

  -- a store of the next value makes the row longer by one
  pub padded-next : (k n : ℕ) (blank : A) → k < n → set (padded f k n blank) k (f k) ≡ padded f (suc k) n blank
  unfolding padded row
  padded-next k n blank l =
      let e : n - k ≡ suc (n - suc k) = omega arith in
      ap (λ (m : ℕ). set (row f k ++ replicate m blank) k (f k)) e
      ∙ set_at (row f k) blank (replicate (n - suc k) blank) (f k) k (length-row k)
      ∙ sym (append_assoc (row f k) (f k ∷ []) (replicate (n - suc k) blank))

  pub length-padded : (k n : ℕ) (blank : A) → k ≤ n → length (padded f k n blank) ≡ n
  unfolding padded
  length-padded k n blank l =
      length-append (row f k) (replicate (n - k) blank)
      ∙ (let h = length-row k in let g = length-replicate (n - k) blank in omega arith)

  pub get_d_padded : (k n : ℕ) (blank d : A) (i : ℕ) → i < k → get_or (padded f k n blank) i d ≡ f i
  unfolding padded
  get_d_padded k n blank d i l =
      get_or-append (row f k) (replicate (n - k) blank) d i (let h = length-row k in omega arith) ∙ get_d_row k d i l

  pub get_d_padded_rest : (k n : ℕ) (blank d : A) (i : ℕ) → k ≤ i → i < n → get_or (padded f k n blank) i d ≡ blank
  unfolding padded
  get_d_padded_rest k n blank d i l b =
      let e : i ≡ length (row f k) + (i - k) = (let h = length-row k in omega arith) in
      ap (λ (x : ℕ). get_or (row f k ++ replicate (n - k) blank) x d) e
      ∙ get_or-append-add (row f k) (replicate (n - k) blank) (i - k) d
      ∙ get_or-replicate (n - k) (i - k) blank d (omega arith)

  -- past the row stands the blank, also past the list's end where the blank is the default
  pub get_d_padded_after : (k n : ℕ) (blank : A) (i : ℕ) → k ≤ n → k ≤ i → get_or (padded f k n blank) i blank ≡ blank
  get_d_padded_after k n blank i l h =
      ⊎_elim
      (λ (t : ltb i n ≡ true). get_d_padded_rest k n blank blank i h (ltb-true i n t))
      (λ (t : ltb i n ≡ false).
      let past = ltb-false i n t in
      let size = length-padded k n blank l in
      get_or-eq_default (padded f k n blank) blank (omega arith))
      (holds_or_fails (ltb i n))

-- a row, head first
pub row_head : {A : Type 0} (f : ℕ → A) (k : ℕ) → row f (suc k) ≡ f 0 ∷ row (λ i. f (suc i)) k
unfolding row
row_head f zero = refl
row_head f (suc k) = ap (λ r. r ++ (f (suc k) ∷ [])) (row_head f k)

module _ {A : Type 0} (f g : ℕ → A) where
  -- functions that agree below k have the same row
  pub row_same : (k : ℕ) → ((j : ℕ) → j < k → f j ≡ g j) → row f k ≡ row g k
  unfolding row
  row_same zero h = refl
  row_same (suc k) h = ap₂ (λ (r : List A) (a : A). r ++ (a ∷ [])) (row_same k (λ j l. h j (omega arith))) (h k (omega arith))

  pub padded-same : (k n : ℕ) (blank : A) → ((j : ℕ) → j < k → f j ≡ g j) → padded f k n blank ≡ padded g k n blank
  unfolding padded
  padded-same k n blank h = ap (λ (r : List A). r ++ replicate (n - k) blank) (row_same k h)

  -- a store at i makes the row that of a function which agrees below k but at i, and is what is stored there
  row_stored : (k i : ℕ) → i < k → ((j : ℕ) → j < k → (j ≡ i → ⊥) → f j ≡ g j) → set (row f k) i (g i) ≡ row g k
  unfolding row
  row_stored zero i l h = absurd (not-suc-le-zero l)
  row_stored (suc k) i l h =
      ⊎_elim
      (λ (q : i ≡ k).
      set_at (row f k) (f k) [] (g i) i (length-row f k ∙ sym q)
      ∙ ap₂ (λ (r : List A) (a : A). r ++ (a ∷ [])) (row_same k (λ j b. h j (omega arith) (omega arith))) (ap g q))
      (λ (lt : i < k).
      set-append_left (row f k) (f k ∷ []) i (g i) (let size = length-row f k in omega arith)
      ∙ ap₂ (λ (r : List A) (a : A). r ++ (a ∷ []))
      (row_stored k i lt (λ j b d. h j (omega arith) d))
      (h k (omega arith) (omega arith)))
      (eq-or-lt_of_le (le_of_suc-le-suc l))

  pub padded_stored : (k n : ℕ) (blank : A) (i : ℕ) → i < k → ((j : ℕ) → j < k → (j ≡ i → ⊥) → f j ≡ g j) →
      set (padded f k n blank) i (g i) ≡ padded g k n blank
  unfolding padded
  padded_stored k n blank i l h =
      set-append_left (row f k) (replicate (n - k) blank) i (g i) (let size = length-row f k in omega arith)
      ∙ ap (λ (r : List A). r ++ replicate (n - k) blank) (row_stored k i l h)

-- Lists of one length c, one after another, written over the front of a list.
module _ {A : Type 0} (f : ℕ → List A) (c : ℕ) (each : (k : ℕ) → length (f k) ≡ c) where
  pub length-joined : (k : ℕ) → length (joined f k) ≡ c * k
  unfolding joined
  length-joined zero = sym (mul-zero c)
  length-joined (suc k) =
      length-append (joined f k) (f k) ∙ (let h = length-joined k in let e = each k in let m = mul-suc c k in omega arith)

  pub joined-none : (out : List A) → out ≡ joined f 0 ++ drop (c * 0) out
  unfolding joined
  joined-none out = sym (ap (λ (n : ℕ). drop n out) (mul-zero c))

  -- the next one stored after them
  pub joined-next : (k : ℕ) (out : List A) → c * suc k ≤ length out →
      sets (joined f k ++ drop (c * k) out) (c * k) (f k) ≡ joined f (suc k) ++ drop (c * suc k) out
  unfolding joined
  joined-next k out room =
      let here = length-joined k in
      let step : c * suc k ≡ c * k + c = mul-suc c k in
      let front = joined f k in
      let rest = drop (c * k) out in
      let whole : length (front ++ rest) ≡ length out
      = length-append front rest ∙ (let h = length-drop (c * k) out in omega arith) in
      sets-eq (f k) (front ++ rest) (c * k) (let e = each k in omega arith)
      ∙ ap₂ (λ (a b : List A). a ++ f k ++ b)
      (take_at front rest (c * k) here)
      (ap (λ (n : ℕ). drop n (front ++ rest)) (let e = each k in let q : c * k + length (f k) ≡ length front + c = omega arith in q)
      ∙ drop-append-add front rest c
      ∙ drop-drop c (c * k) out
      ∙ ap (λ (n : ℕ). drop n out) (sym step))

pub joined_same : {A : Type 0} (f g : ℕ → List A) (k : ℕ) → ((i : ℕ) → i < k → f i ≡ g i) → joined f k ≡ joined g k
unfolding joined
joined_same f g zero h = refl
joined_same f g (suc k) h = ap₂ ◌++◌ (joined_same f g k (λ i l. h i (omega arith))) (h k (omega arith))

-- Runs of stores: one, and another where it ends, are one run,
pub sets_then : {A : Type 0} (a b l : List A) (at : ℕ) → sets (sets l at a) (at + length a) b ≡ sets l at (a ++ b)
sets_then [] b l at = ap (λ (n : ℕ). sets l n b) (add-zero at)
sets_then {A} (x ∷ a) b l at =
    let e : at + length (x ∷ a) ≡ suc at + length a = omega arith in
    ap (λ (n : ℕ). sets (sets (set l at x) (suc at) a) n b) e ∙ sets_then a b (set l at x) (suc at)

-- so lists of one length c, one after another, and the next of them where they end
pub joined_stored : {A : Type 0} (f : ℕ → List A) (c : ℕ) → ((k : ℕ) → length (f k) ≡ c) → (out : List A) (at k : ℕ) →
    sets (sets out at (joined f k)) (at + c * k) (f k) ≡ sets out at (joined f (suc k))
unfolding joined
joined_stored f c each out at k =
    let place : at + c * k ≡ at + length (joined f k) = (let size = length-joined f c each k in omega arith) in
    ap (λ (n : ℕ). sets (sets out at (joined f k)) n (f k)) place ∙ sets_then (joined f k) (f k) out at

-- and one from index 0 replaces the front
pub sets_front : {A : Type 0} (a l : List A) → length a ≤ length l → sets l 0 a ≡ a ++ drop (length a) l
sets_front a l h = sets-eq a l 0 (omega arith) ∙ ap (λ (n : ℕ). a ++ drop n l) (zero-add (length a))

-- zeros are zero at every index, past the end too
pub zeros : (n i : ℕ) → ◌≡◌ {A = ℕ} (get_or (replicate n 0) i 0) 0
zeros zero i = refl
zeros (suc n) zero = refl
zeros (suc n) (suc i) = zeros n i
