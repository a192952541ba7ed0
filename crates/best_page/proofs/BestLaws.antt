-- There is at most one best page, and it depends on each owner's set of constraints only. Assumes nothing.
use Prim.Native.Nat.{ℕ, ◌<◌, ◌≤◌}
use mathlib.Core.Logic.{⊎_elim}
use mathlib.Core.Path.{◌≡◌, sym, ◌∙◌, subst}
use native.Mathlib.Nat.{le_antisymm}
use native.Mathlib.Omega.{arith}
use Rattle.sheet.specs.declared.Page.{Page}
use Rattle.sheet.specs.declared.Round.{Round}
use Rattle.sheet.specs.Round.{effect_of}
use Rattle.auction.specs.Page.{at}
use Rattle.auction.specs.Except.{SameSets}
use Rattle.auction.proofs.ExceptLaws.{sets_sym, allowed-sets, total-sets}
use Rattle.basis.proofs.NumberLaws.{same_or_not, below_or_not}
use Rattle.best_page.specs.Best.{Precedes, Best}
use Rattle.auction.specs.Allowed.{total}

-- two pages do not each precede the other
pub not_both_precede : (p q : Page) → Precedes p q → Precedes q p → ⊥
not_both_precede p q a b =
    ⊎_elim
    (λ (l : a.slot < b.slot). let s = a.smaller in let e = b.same a.slot l in absurd (omega arith))
    (λ (l : b.slot ≤ a.slot).
    ⊎_elim
    (λ (e : b.slot ≡ a.slot).
    let s = a.smaller in
    let t : at q a.slot < at p a.slot = subst (λ (k : ℕ). at q k < at p k) e b.smaller in
    absurd (omega arith))
    (λ (d : b.slot ≡ a.slot → ⊥).
    let s = b.smaller in
    let e = a.same b.slot (omega arith) in
    absurd (omega arith))
    (same_or_not b.slot a.slot))
    (below_or_not a.slot b.slot)

pub best_unique : (r : Round) (p q : Page) → Best r p → Best r q → p ≡ q
best_unique r p q a b =
    let same : total r q ≡ total r p = le_antisymm (a.largest q b.allowed) (b.largest p a.allowed) in
    ⊎_elim
    (λ (e : p ≡ q). e)
    (λ (x : Precedes p q).
    ⊎_elim (λ (e : q ≡ p). sym e) (λ (y : Precedes q p). absurd (not_both_precede p q x y)) (b.first p a.allowed (sym same)))
    (a.first q b.allowed same)

-- rounds with the same sets of constraints and the same effects have the same best pages
pub best-sets : (r r' : Round) → SameSets r r' → ((k : ℕ) → effect_of r k ≡ effect_of r' k) → (p : Page) → Best r p → Best r' p
best-sets r r' x effects p b =
    let back = allowed-sets r' r (sets_sym r r' x) in
    let here = total-sets r r' x effects p in
    record {
      allowed = allowed-sets r r' x p b.allowed;
      largest = λ q ok. let e = total-sets r r' x effects q in let h = b.largest q (back q ok) in omega arith;
      first = λ q ok same. b.first q (back q ok) (total-sets r r' x effects q ∙ same ∙ sym here);
    }
