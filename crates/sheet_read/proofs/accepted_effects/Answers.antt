-- `sheet_read::accepted_effects` meets its contract: the row of the sheet's effects with 0 after it is the round's. Assumes nothing.
use Prim.Native.Nat.{ℕ, ◌+◌, ◌*◌}
use mathlib.Core.Path.{◌∙◌, ap}
use native.Mathlib.Omega.{arith}
use Rattle.basis.specs.Bytes.{word32_at}
use Rattle.basis.specs.Rows.{padded}
use Rattle.sheet.specs.Sheet.{bidder_count, slot_count, effect_field, bid_field}
use Rattle.sheet.specs.Round.{round_of}
use Rattle.sheet_read.proofs.RoomLaws.{room}
use Rattle.sheet_read.proofs.accepted_effects.Goals as goal

pub effects_start-requires : goal.effects_start-requires
effects_start-requires c = omega (arith, room _ c.requires)

pub bounds-sheet-6 : goal.bounds-sheet-6
bounds-sheet-6 c = omega (arith, room _ c.requires)

pub read_words-requires : goal.read_words-requires
read_words-requires c = omega (arith, room _ c.requires)

pub returns : goal.returns
unfolding round_of effect_field
returns c =
    let s = c.args.sheet.now in
    c.read_words.ensures ∙ ap (λ (start : ℕ). padded (λ k. word32_at s (start + 4 * k)) (slot_count s) 16 0) c.effects_start.ensures
