-- `gain::gain_of` meets its contract: the slot, the effect and the price are the played sheet's, and the truth is asked on its page.
-- Assumes nothing.
use Prim.Native.Nat.{ℕ, ◌-◌}
use mathlib.Core.Bool.{Bool}
use mathlib.Core.Path.{sym, ◌∙◌, ap₂}
use native.Mathlib.Omega.{arith}
use mir.Facts.{to_z-of_z}
use mir.Syntax.{w64}
use lib.ListN.{get_or}
use mathlib.Core.List.{List}
use Rattle.sheet.specs.Sheet.{slot_count, tick_field}
use Rattle.sheet.specs.Round.{round_of}
use Rattle.choice.specs.Critical.{Asked}
use Rattle.sheet.proofs.AcceptedLaws.{accepted-sheet}
use Rattle.gain.specs.Gain.{gain_if}
use Rattle.gain.proofs.CallLaws.{gain-none, Stands, stands}
use Rattle.gain.proofs.gain_of.Goals.{Else-slot-eq0}
use Rattle.gain.proofs.gain_of.Goals as goal

-- the slot that is found, for floors that ask so much
here : (c : Else-slot-eq0) (floors : List ℕ) (asked : Asked (tick_field c.args.played.now) (slot_count c.args.played.now) floors c.args.asks.now) →
    Stands c.args.played.now c.requires.0 floors asked.proper (round_of c.args.truth.now) c.args.bidder.0 c.args.worth
    c.played-outcome.result
    (c.played-outcome.ensures floors asked)
    c.slot_of-slot.result.0
here c floors asked = stands _ _ _ _ _ _ _ _ _ c.requires.4 _ (sym c.slot_of-slot.ensures) (omega arith)

-- some such floors are lent
some_floors : (c : Else-slot-eq0) →
    Stands c.args.played.now c.requires.0 c.requires.1.0 c.requires.1.1.proper (round_of c.args.truth.now) c.args.bidder.0 c.args.worth
    c.played-outcome.result
    (c.played-outcome.ensures c.requires.1.0 c.requires.1.1)
    c.slot_of-slot.result.0
some_floors c = here c c.requires.1.0 c.requires.1.1

pub returns-then-slot-eq0 : goal.returns-then-slot-eq0
returns-then-slot-eq0 c = λ floors asked.
    gain-none _ c.requires.0 floors asked.proper _ _ _ _ (c.played-outcome.ensures floors asked) (omega arith)

pub effect_at-effect-requires : goal.effect_at-effect-requires
effect_at-effect-requires c = (c.requires.0, omega arith, omega (arith, (some_floors (goal.at.effect_at-effect-requires c).Else-slot-eq0).most_slot))

pub breaks_own-requires : goal.breaks_own-requires
breaks_own-requires c = (c.requires.2, (some_floors (goal.at.breaks_own-requires c).Else-slot-eq0).has_slot)

pub bounds-outcome-k : goal.bounds-outcome-k
bounds-outcome-k c = omega (arith, (some_floors (goal.at.bounds-outcome-k c).Else-slot-eq0).most_slot, (accepted-sheet _ c.requires.0).counts)

pub gain_if-requires : goal.gain_if-requires
gain_if-requires c = let h = some_floors (goal.at.gain_if-requires c).Else-slot-eq0 in (omega (arith, h.low_effect), c.requires.3, h.low_price)

pub returns : goal.returns
returns c = λ floors asked.
    let prices = c.played-outcome.result.prices in
    let price = get_or prices (c.slot_of-slot.result.0 - 1) 0 in
    to_z-of_z {w = w64} {z = c.gain_if.result} (record { sfits = c.gain_if.type_inv })
    ∙ c.gain_if.ensures
    ∙ ap₂ (λ (x : Bool) (e : ℕ). gain_if x e c.args.worth price) c.breaks_own.ensures c.effect_at-effect.ensures
    ∙ (here (goal.at.returns c).Else-slot-eq0 floors asked).gained_there
