-- The members of a set in rising order: who they are, how many, and that they rise. Assumes nothing.
use Prim.Native.Nat.{ℕ, zero, suc, ◌+◌, ◌<◌, ◌≤◌}
use mathlib.Core.Bool.{Bool, true, false, cond}
use mathlib.Core.List.Memᴰ
use mathlib.Core.List.{List, [], ◌∷◌, Memᴰ}
use mathlib.Core.Path.{◌≡◌, refl, sym, ◌∙◌, ap, ap₂, subst}
use native.Mathlib.Omega.{arith}
use lib.ListN.{length, length-append}
use Rattle.basis.specs.Counting.{count_to}
use Rattle.basis.specs.Rising.{Rising}
use Rattle.basis.specs.Rows.{joined}
use Rattle.basis.proofs.RisingLaws.{mem-joined, joined-mem, mem_when, rising-joined}
use Rattle.bidder_sets.specs.EngineSets.{rising_members}

-- one bidder, or nobody
abbrev one_if : Bool → ℕ → List ℕ
one_if t b = cond t (b ∷ []) []

one_many : (t : Bool) (b : ℕ) → length (one_if t b) ≡ cond t 1 0
one_many true b = refl
one_many false b = refl

one_rises : (t : Bool) (b : ℕ) → Rising (λ (x : ℕ). x) b (suc b) (one_if t b)
one_rises true b = (omega arith, omega arith)
one_rises false b = omega arith

module _ (member : ℕ → Bool) (n : ℕ) where
  pub members_where : (x : ℕ) → Memᴰ x (rising_members member n) → (member x ≡ true) × (0 < x) × (x ≤ n)
  unfolding rising_members
  members_where x h =
      let w = mem-joined (λ i. one_if (member (suc i)) (suc i)) n x h in
      let one = mem_when (member (suc w.0)) (suc w.0 ∷ []) x w.2 in
      let inside = w.1 in
      let same = Memᴰ.eq_of_singleton one.1 in
      (ap member same ∙ one.0, omega arith, omega arith)

  pub members-there : (x : ℕ) → member x ≡ true → 0 < x → x ≤ n → Memᴰ x (rising_members member n)
  unfolding rising_members
  members-there zero t some most = absurd (omega arith)
  members-there (suc i) t some most =
      joined-mem (λ i. one_if (member (suc i)) (suc i)) n i (suc i) most
      (subst (λ (s : Bool). Memᴰ (suc i) (one_if s (suc i))) (sym t) (Memᴰ.head refl))

  pub members-rise : Rising (λ (x : ℕ). x) 1 (suc n) (rising_members member n)
  unfolding rising_members
  members-rise = rising-joined (λ (x : ℕ). x) (λ i. one_if (member (suc i)) (suc i)) suc n (λ k l. one_rises (member (suc k)) (suc k))

pub members-many : (member : ℕ → Bool) (n : ℕ) → length (rising_members member n) ≡ count_to (λ i. member (suc i)) n
unfolding rising_members joined count_to
members-many member zero = refl
members-many member (suc n) =
    length-append (rising_members member n) (one_if (member (suc n)) (suc n))
    ∙ ap₂ ◌+◌ (members-many member n) (one_many (member (suc n)) (suc n))
