-- "Gain", the source's utility: what a slot is worth to a bidder at its price, by its true constraints.
use Rattle.std.specs.Prelude.{ℕ, zero, suc, ◌*◌, Bool, true, false, eqb, ℤ, pos, neg_ℤ, ◌*ℤ◌, ◌-ℤ◌}
use Rattle.basis.specs.First.{◌when◌otherwise◌, first_over}
use Rattle.sheet.specs.declared.Page.{Page}
use Rattle.sheet.specs.declared.Round.{Round}
use Rattle.auction.specs.Page.{at}
use Rattle.auction.specs.Broken.{breaks_own}
use Rattle.sheet.specs.Round.{effect_of}
use Rattle.auction.specs.Greedy.{greedy_page}
use Rattle.auction.specs.Price.{price}

-- the slot where bidder i stands, 0 for none
unfoldable pub slot_of : Page → ℕ → ℕ
slot_of p i = first_over (λ k. suc k when eqb (at p (suc k)) i otherwise 0) 16

-- "effect × (v − p) if no condition of i in the truth sheet is broken on that page, else −(effect × p)"
unfoldable pub gain_if : Bool → (effect worth paid : ℕ) → ℤ
gain_if false effect worth paid = pos effect *ℤ (pos worth -ℤ pos paid)
gain_if true effect worth paid = neg_ℤ (pos (effect * paid))

-- at slot k of the played round's page; "If i has no place the gain is 0."
unfoldable pub gain_at : ℕ → Round → Round → (i worth : ℕ) → ℤ
gain_at zero played truth i worth = pos 0
gain_at (suc k) played truth i worth =
    gain_if (breaks_own truth (greedy_page played) i) (effect_of played (suc k)) worth (price played (suc k))

-- "It plays the first sheet and takes the effects from it."
unfoldable pub gain_of : Round → Round → (i worth : ℕ) → ℤ
gain_of played truth i worth = gain_at (slot_of (greedy_page played) i) played truth i worth
