-- `gain::gain_accepted` meets its contract: 14 to 17, or the gain. Assumes nothing.
use Prim.Native.Nat.{ℕ}
use mathlib.Core.Path.{◌≡◌, sym, ◌∙◌, ap}
use mir.Facts.{to_z-of_z}
use mir.Syntax.{w64}
use native.Mathlib.Omega.{arith}
use Rattle.refusal.proofs.NumberLaws.{number_of-ne0}
use Rattle.sheet.specs.Round.{round_of, with_floors}
use Rattle.sheet.proofs.AcceptedLaws.{accepted-sheet}
use Rattle.gain.specs.Call.{later_refusal, gained_for}
use Rattle.gain.proofs.CallLaws.{alone, for_refused, for_gained, later-accepted}
use Rattle.gain.proofs.gain_accepted.Goals.{In_ok-check_later}
use Rattle.gain.proofs.gain_accepted.Goals as goal

-- 14 to 17 leave the call
none_later : (c : In_ok-check_later) →
    let given = c.args in
    later_refusal given.played.now given.truth.now given.bidder given.worth ≡ 0
none_later c = sym c.in_ok-check_later.ensures

pub returns-in_err-check_later : goal.returns-in_err-check_later
returns-in_err-check_later c = λ floors asked.
    let given = c.args in
    let r = with_floors (round_of given.played.now) floors in
    alone _ _ c.from_residual.ensures.1
    ∙ for_refused _ r given.truth.now given.bidder given.worth (number_of-ne0 _)
    ∙ ap (λ (n : ℕ). gained_for n r given.truth.now given.bidder given.worth) c.in_err-check_later.ensures

pub overflow_cast-bidder : goal.overflow_cast-bidder
overflow_cast-bidder c = omega (arith, (later-accepted _ _ _ _ (none_later (goal.at.overflow_cast-bidder c).In_ok-check_later)).within_range, (accepted-sheet _ c.requires.0).counts)

pub gain_of-requires : goal.gain_of-requires
gain_of-requires c = let facts = later-accepted _ _ _ _ (none_later (goal.at.gain_of-requires c).In_ok-check_later) in (c.requires.0, c.requires.1, facts.truth, facts.low, facts.some)

pub returns : goal.returns
returns c = λ floors asked.
    (λ j. record {
      refusal = 0;
      gain = (to_z-of_z {w = w64} {z = c.gain_of.result} (record { sfits = c.gain_of.type_inv }) ∙ c.gain_of.ensures floors asked) j;
    })
    ∙ for_gained _ _ _ _ _ (none_later (goal.at.returns c).In_ok-check_later)
