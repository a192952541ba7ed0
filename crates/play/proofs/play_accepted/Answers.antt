-- `play::play_accepted` meets its contract: a short buffer is left, and an accepted sheet is played and written by its own functions. Assumes nothing.
use Prim.Native.Nat.{ℕ, suc, ◌*◌, ◌<◌}
use mathlib.Core.List.{List, ◌++◌}
use mathlib.Core.Path.{◌≡◌, ◌∙◌, ap}
use native.Mathlib.Omega.{arith}
use lib.ListN.{length, drop}
use Rattle.basis.specs.Rows.{joined}
use Rattle.basis.proofs.RowLaws.{length-padded}
use Rattle.sheet.specs.declared.Round.{Round}
use Rattle.sheet.specs.Round.{round_of, with_floors}
use Rattle.sheet.specs.Proper.{ProperRound}
use Rattle.sheet.proofs.AcceptedLaws.{accepted-sheet}
use Rattle.sheet.proofs.RoundLaws.{round_proper, round_slots}
use Rattle.sheet.proofs.FloorLaws.{floors-proper}
use Rattle.auction.specs.Page.{at}
use Rattle.auction.specs.Greedy.{greedy_page}
use Rattle.auction.specs.Price.{price}
use Rattle.auction.proofs.GreedyLaws.{up_to-sized, up_to-bidders}
use Rattle.greedy.specs.declared.Outcome.{Outcome}
use Rattle.greedy.specs.EngineOutcome.{outcome_of}
use Rattle.play.specs.Play.{played_buffer}
use Rattle.play.specs.EngineEntries.{entry_in}
use Rattle.play.proofs.PlayLaws.{buffer_short, round_played, entries-same}
use Rattle.play.proofs.play_accepted.Goals as goal

-- a played round has a page of 16 slots, as many prices, and bidders whose numbers fit a byte
outcome_fits : (r : Round) (o : Outcome) → ProperRound r → o ≡ outcome_of r →
    (length o.page.bidders ≡ 16) × (length o.prices ≡ 16) × ((k : ℕ) → at o.page k < 256)
unfolding outcome_of greedy_page
outcome_fits r o c e = (
  ap (λ (x : Outcome). length x.page.bidders) e ∙ up_to-sized r r.slots,
  ap (λ (x : Outcome). length x.prices) e ∙ length-padded (λ i. price r (suc i)) r.slots 16 0 c.most_slots,
  λ k.
      let here = ap (λ (x : Outcome). at x.page k) e in
      let most = up_to-bidders r r.slots k in
      let many = c.most_bidders in
      omega arith,
)

pub bounds-sheet-6 : goal.bounds-sheet-6
bounds-sheet-6 c = let known = (accepted-sheet _ c.requires.0).counts in omega arith

pub returns-then-res-slots : goal.returns-then-res-slots
returns-then-res-slots c = λ floors asked. buffer_short c.args.sheet.now c.args.res.now _ c.if-res-slots.true

pub write_result-requires-clause-slots_bound : goal.write_result-requires-clause-slots_bound
write_result-requires-clause-slots_bound c =
    let known = (accepted-sheet _ c.requires.0).counts in (omega arith, c.if-res-slots.false)

pub write_result-requires-clause-bidders_len : goal.write_result-requires-clause-bidders_len
write_result-requires-clause-bidders_len c =
    let known = (accepted-sheet _ c.requires.0).counts in outcome_fits _ c.played.result (floors-proper _ _ (round_proper _ c.requires.0) (rw (round_slots c.args.sheet.now) c.requires.1.1.proper))
    (c.played.ensures c.requires.1.0 c.requires.1.1)

pub returns : goal.returns
unfolding round_of with_floors played_buffer
returns c = λ floors asked.
    let s = c.args.sheet.now in
    let out = c.args.res.now in
    let r = with_floors (round_of s) floors in
    round_played s out _ _ c.if-res-slots.false
    (c.write_result.ensures
    ∙ ap (λ (o : Outcome). joined (entry_in o) r.slots ++ drop (5 * r.slots) out) (c.played.ensures floors asked)
    ∙ ap (λ (l : List ℕ). l ++ drop (5 * r.slots) out) (entries-same r))
