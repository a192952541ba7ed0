-- Which kind a constraint's bytes have, by tests as the source makes them. Assumes nothing.
use Prim.Native.Nat.{ℕ, zero, suc}
use mathlib.Core.Path.{◌≡◌, refl}
use Rattle.sheet.specs.declared.Kind.TheVariants.{OwnSlot, OtherSlot, Pair}
use Rattle.sheet.specs.Round.{bidder, slot, kind_of}

pub kind_own : (own other others : ℕ) → other ≡ 0 → kind_of own other others ≡ OwnSlot (slot own)
unfolding kind_of
kind_own own other others e = rw e

pub kind_other : (own other others : ℕ) → (other ≡ 0 → ⊥) → own ≡ 0 → kind_of own other others ≡ OtherSlot (bidder other) (slot others)
unfolding kind_of
kind_other own zero others h e = absurd (h refl)
kind_other own (suc other) others h e = rw e

pub kind_pair : (own other others : ℕ) → (other ≡ 0 → ⊥) → (own ≡ 0 → ⊥) →
    kind_of own other others ≡ Pair (slot own) (bidder other) (slot others)
unfolding kind_of
kind_pair own zero others h g = absurd (h refl)
kind_pair zero (suc other) others h g = absurd (g refl)
kind_pair (suc own) (suc other) others h g = refl
