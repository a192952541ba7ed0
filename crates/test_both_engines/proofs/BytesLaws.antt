-- What the comparisons of buffers say, and the steps of their loops. Assumes nothing.
use Rattle.std.proofs.Common.{◌≡◌, ℕ, ◌+◌, ◌<◌, ◌≤◌, Bool, true, false, ◌⊎◌, List, length, get_or, sym, ap, ◌∙◌, ⊎_elim, arith, ext_get_or, ltb-true, eq-eqb, ne_eqb, eqb-true, leb-true}
use Rattle.basis.specs.Tests.{all_below}
use Rattle.basis.proofs.TestLaws.{fails, not_both, all-at, at_all, and_parts, or_parts, or_left, or_right, or_fails}
use Rattle.test_both_engines.specs.Bytes.{same_at, same_bytes, in_part, kept_at, untouched_bytes}

-- a test over the indices below n fails at one
pub one_failed : (f : ℕ → Bool) (n m : ℕ) → m < n → f m ≡ false → all_below f n ≡ false
one_failed f n m l e = fails (all_below f n) (λ h. not_both (all-at f n h m l) e)

module _ (first second : List ℕ) where
  pub is_same : (i : ℕ) → get_or first i 0 ≡ get_or second i 0 → same_at first second i ≡ true
  unfolding same_at
  is_same i = eq-eqb (get_or first i 0) (get_or second i 0)

  pub is_other : (i : ℕ) → (get_or first i 0 ≡ get_or second i 0 → ⊥) → same_at first second i ≡ false
  unfolding same_at
  is_other i = ne_eqb (get_or first i 0) (get_or second i 0)

  -- the bytes that are the same are equal,
  pub same_byte : (count : ℕ) → same_bytes first second count ≡ true → (i : ℕ) → i < count → get_or first i 0 ≡ get_or second i 0
  unfolding same_bytes same_at
  same_byte count e i l = eqb-true (get_or first i 0) (get_or second i 0) (all-at (same_at first second) count e i l)

  -- and so are buffers that have no other bytes;
  pub same_buffers : (count : ℕ) → length first ≡ count → length second ≡ count → same_bytes first second count ≡ true → first ≡ second
  same_buffers count size size' e =
      ext_get_or 0 first second (size ∙ sym size') (λ i l. same_byte count e i (omega arith))

  -- equal buffers are the same
  pub equal_same : (count : ℕ) → first ≡ second → same_bytes first second count ≡ true
  unfolding same_bytes
  equal_same count e =
      at_all (same_at first second) count (λ i l. is_same i (ap (λ (s : List ℕ). get_or s i 0) e))

-- A byte that is the same, or in the part that may have been written, is kept, and no other one.
module _ (after before : List ℕ) (start written i : ℕ) where
  pub kept_same : same_at after before i ≡ true → kept_at after before start written i ≡ true
  unfolding kept_at
  kept_same = or_left (in_part start written i)

  pub kept-part : in_part start written i ≡ true → kept_at after before start written i ≡ true
  unfolding kept_at
  kept-part = or_right (same_at after before i)

  pub not_kept : same_at after before i ≡ false → in_part start written i ≡ false → kept_at after before start written i ≡ false
  unfolding kept_at
  not_kept = or_fails

-- a byte before or after the part that may have been written is what it was
pub untouched_byte : (after before : List ℕ) (start written : ℕ) → untouched_bytes after before start written ≡ true →
    (i : ℕ) → i < length before → (i < start) ⊎ (start + written ≤ i) → get_or after i 0 ≡ get_or before i 0
unfolding untouched_bytes kept_at same_at in_part
untouched_byte after before start written e i l outside =
    ⊎_elim
    (λ (h : same_at after before i ≡ true). eqb-true (get_or after i 0) (get_or before i 0) h)
    (λ (h : in_part start written i ≡ true).
    let both = and_parts _ _ h in
    let from = leb-true start i both.0 in
    let to = ltb-true i (start + written) both.1 in
    absurd (⊎_elim (λ (o : i < start). omega arith) (λ (o : start + written ≤ i). omega arith) outside))
    (or_parts (same_at after before i) (in_part start written i) (all-at (kept_at after before start written) (length before) e i l))
