-- What a search below is given, with one slot fewer. Assumes nothing.
use Prim.Native.Nat.{ℕ, suc, ◌+◌, ◌-◌, ◌*◌, ◌^◌, ◌<◌, ◌≤◌}
use mathlib.Core.Path.{◌≡◌, sym, subst}
use native.Mathlib.Omega.{arith}
use Rattle.best_node.proofs.LeadLaws.{slot_most, slots_after}

-- what is free and had before a slot
abbrev pub Fit : (slot free had : ℕ) → Type 0
Fit slot free had = (0 < slot) × (slot ≤ 9) × (free < 2 ^ (8 * (9 - slot))) × (had ≤ (slot - 1) * 1000000000000000)

pub next_fit : (slot free had next free' had' : ℕ) → Fit slot free had → (free ≡ 0 → ⊥) → next ≡ suc slot →
    ((w : ℕ) → free < 2 ^ (8 + w) → free' < 2 ^ w) → had' ≤ had + 1000000000000000 → Fit next free' had'
next_fit slot free had next free' had' (some, most, few, low) free-some next-is fewer more =
    let inside = slot_most slot free most few free-some in (
      omega arith,
      omega arith,
      subst (λ (n : ℕ). free' < 2 ^ (8 * (9 - n))) (sym next-is) (fewer _ (slots_after slot free inside few)),
      omega arith,
    )
