-- Sets lent one after another, each with its length before it: they are read as they were lent, and the bytes are exactly n sets where they are so laid out.
-- Assumes nothing.
use Prim.Native.Nat.{ℕ, zero, suc, ◌+◌, ◌<◌, ◌≤◌}
use mathlib.Core.List.{List, [], ◌∷◌, ◌++◌, append-nil, append_assoc}
use mathlib.Core.Logic.{⊎_elim}
use mathlib.Core.Path.{◌≡◌, refl, sym, ◌∙◌, ap, ap₂}
use native.Mathlib.Nat.{eq-or-lt_of_le, le_of_suc-le-suc}
use native.Mathlib.Omega.{arith}
use lib.ListN.{length, get_or, take, drop, length-append, length-drop}
use lib.Seq.{length-take-le, take-length, take-add, drop-cons, take-append_seam, drop-append-add, get_or-append_seam}
use Rattle.basis.specs.Rows.{joined}
use Rattle.bidder_sets.specs.BidderSets.{set_at, end_at, sets_end, rivals_of}

-- the bytes of the first n sets
abbrev laid : (ℕ → List ℕ) → ℕ → List ℕ
laid set n = joined (λ i. length (set (suc i)) ∷ set (suc i)) n

module _ (set : ℕ → List ℕ) where
  -- one set more, with bytes after it
  next_laid : (i : ℕ) (rest : List ℕ) → laid set (suc i) ++ rest ≡ laid set i ++ (length (set (suc i)) ∷ (set (suc i) ++ rest))
  unfolding joined
  next_laid i rest = append_assoc (laid set i) (length (set (suc i)) ∷ set (suc i)) rest

  -- the first i sets end where their bytes do, whatever comes after them
  end_laid : (i : ℕ) (rest : List ℕ) → sets_end (laid set i ++ rest) i ≡ length (laid set i)
  unfolding sets_end end_at joined
  end_laid zero rest = refl
  end_laid (suc i) rest =
      let more = length (set (suc i)) ∷ (set (suc i) ++ rest) in
      let whole = laid set i ++ more in
      let before = end_laid i more in
      let byte = get_or-append_seam (laid set i) (length (set (suc i))) (set (suc i) ++ rest) 0 in
      let long = length-append (laid set i) (length (set (suc i)) ∷ set (suc i)) in
      ap (λ (l : List ℕ). end_at l (sets_end l i)) (next_laid i rest)
      ∙ ap (end_at whole) before
      ∙ (omega arith)

  -- and the next one is read as it was laid
  set_laid : (i : ℕ) (rest : List ℕ) → rivals_of (laid set (suc i) ++ rest) (suc i) ≡ set (suc i)
  unfolding rivals_of set_at
  set_laid i rest =
      let more = length (set (suc i)) ∷ (set (suc i) ++ rest) in
      let whole = laid set i ++ more in
      let before = end_laid i more in
      let byte = get_or-append_seam (laid set i) (length (set (suc i))) (set (suc i) ++ rest) 0 in
      let after : drop (suc (length (laid set i))) whole ≡ set (suc i) ++ rest
      = ap (λ (k : ℕ). drop k whole) (let e : suc (length (laid set i)) ≡ length (laid set i) + 1 = omega arith in e)
      ∙ drop-append-add (laid set i) more 1 in
      ap (λ (l : List ℕ). set_at l (sets_end l i)) (next_laid i rest)
      ∙ ap (set_at whole) before
      ∙ ap₂ take byte after
      ∙ take-append_seam (set (suc i)) rest

  -- all n begin with the first i
  laid_rest : (i n : ℕ) → i ≤ n → (rest : List ℕ) × (laid set n ≡ laid set i ++ rest)
  unfolding joined
  laid_rest i zero l = ([], ap (laid set) (let e : 0 ≡ i = omega arith in e) ∙ sym (append-nil (laid set i)))
  laid_rest i (suc n) l =
      ⊎_elim
      (λ (e : i ≡ suc n). ([], ap (laid set) (sym e) ∙ sym (append-nil (laid set i))))
      (λ (lt : i < suc n).
      let w = laid_rest i n (le_of_suc-le-suc lt) in (
        w.0 ++ (length (set (suc n)) ∷ set (suc n)),
        ap (λ (x : List ℕ). x ++ (length (set (suc n)) ∷ set (suc n))) w.1 ∙ append_assoc (laid set i) w.0 (length (set (suc n)) ∷ set (suc n)),
      ))
      (eq-or-lt_of_le l)

  pub lent-read : (n i : ℕ) → i < n → rivals_of (laid set n) (suc i) ≡ set (suc i)
  lent-read n i l =
      let w = laid_rest (suc i) n l in
      ap (λ (x : List ℕ). rivals_of x (suc i)) w.1 ∙ set_laid i w.0

  pub lent_end : (n : ℕ) → sets_end (laid set n) n ≡ length (laid set n)
  lent_end n = ap (λ (x : List ℕ). sets_end x n) (sym (append-nil (laid set n))) ∙ end_laid n []

-- And bytes in which n sets end where the bytes do are so laid out.
module _ (sets : List ℕ) where
  front_laid : (i : ℕ) → sets_end sets i ≤ length sets → take (sets_end sets i) sets ≡ laid (rivals_of sets) i
  unfolding sets_end end_at joined rivals_of set_at
  front_laid zero l = refl
  front_laid (suc i) l =
      let at = sets_end sets i in
      let size = get_or sets at 0 in
      let before = front_laid i (omega arith) in
      let part = take size (drop (suc at) sets) in
      let left = length-drop (suc at) sets in
      let long : length part ≡ size = length-take-le size (drop (suc at) sets) (omega arith) in
      ap (λ (k : ℕ). take k sets) (let e : suc at + size ≡ at + suc size = omega arith in e)
      ∙ take-add at (suc size) sets
      ∙ ap₂ ◌++◌ before
      (ap (take (suc size)) (drop-cons sets at 0 (omega arith)) ∙ ap (λ (k : ℕ). k ∷ part) (sym long))

  pub exactly_laid : (n : ℕ) → sets_end sets n ≡ length sets → sets ≡ laid (rivals_of sets) n
  exactly_laid n e = sym (take-length sets) ∙ ap (λ (k : ℕ). take k sets) (sym e) ∙ front_laid n (omega arith)
