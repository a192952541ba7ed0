-- `sheet_read::effect_at` meets its contract: slots are counted from 1 and words from 0, and acceptance keeps the read within the sheet.
-- Assumes nothing.
use Prim.Native.Nat.{ℕ, zero, suc, ◌+◌, ◌*◌, ◌-◌, ◌<◌}
use mathlib.Core.List.{List}
use mathlib.Core.Path.{◌≡◌, ◌∙◌, ap}
use native.Mathlib.Nat.{not-suc-le-zero}
use native.Mathlib.Omega.{arith}
use Rattle.basis.specs.Bytes.{word32_at}
use Rattle.sheet.specs.Sheet.{effects_start, effect_field}
use Rattle.sheet_read.proofs.RoomLaws.{room}
use Rattle.sheet_read.proofs.effect_at.Goals as goal

-- the effect of a slot is the word of its number less 1
word_effect : (s : List ℕ) (k : ℕ) → 0 < k → word32_at s (effects_start s + 4 * (k - 1)) ≡ effect_field s k
unfolding effect_field
word_effect s zero l = absurd (not-suc-le-zero l)
word_effect s (suc k) l = ap (λ (n : ℕ). word32_at s (effects_start s + 4 * n)) (let e : suc k - 1 ≡ k = omega arith in e)

pub effects_start-requires : goal.effects_start-requires
effects_start-requires c = omega (arith, room _ c.requires.0)

pub overflow_add-effects_start : goal.overflow_add-effects_start
overflow_add-effects_start c = omega (arith, room _ c.requires.0)

pub word32-requires : goal.word32-requires
word32-requires c = omega (arith, room _ c.requires.0)

pub returns : goal.returns
returns c =
    let s = c.args.sheet.now in
    let k = c.args.slot.0 in
    c.word32.ensures
    ∙ ap (λ (start : ℕ). word32_at s (start + 4 * (k - 1))) c.effects_start.ensures
    ∙ word_effect s k c.requires.1
