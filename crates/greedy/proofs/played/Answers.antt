-- `greedy::played` meets its contract: the constraints are linked, and then the page is filled. Assumes nothing.
use Prim.Native.Nat.{ℕ}
use mathlib.Core.List.{List}
use mathlib.Core.Path.{◌≡◌, refl, sym, ◌∙◌, ap}
use native.Mathlib.Omega.{arith}
use Rattle.sheet.specs.Sheet.{bidder_count, slot_count, tick_field, constraints_start}
use Rattle.sheet.specs.Refusal.{Accepted}
use Rattle.sheet.specs.Round.{round_of, with_floors}
use Rattle.choice.specs.Critical.{floor_asks, Asked}
use Rattle.sheet.proofs.FloorLaws.{floors-proper, floor_under}
use Rattle.sheet.proofs.HeaderLaws.{start_least}
use Rattle.sheet.proofs.AcceptedLaws.{accepted-sheet}
use Rattle.sheet.proofs.RoundLaws.{round_proper}
use Rattle.greedy_links.specs.EngineLinks.{Linked}
use Rattle.greedy_links.proofs.LinkLaws.{linked-none}
use Rattle.greedy.specs.EngineEligible.{Lent}
use Rattle.greedy.proofs.played.Goals as goal

-- what is lent on is the round's, with the floors
lent_on : (s : List ℕ) (start : ℕ) (last links bids floors asks : List ℕ) (tick : ℕ) → Accepted s → Asked (tick_field s) (slot_count s) floors asks → start ≡ constraints_start s →
    Linked (round_of s) (round_of s).used last links → bids ≡ (round_of s).bids → tick ≡ tick_field s →
    Lent (with_floors (round_of s) floors) s start last links bids asks (bidder_count s) (slot_count s) tick
unfolding round_of with_floors
lent_on s start last links bids floors asks tick ok asked starts linked bids_are tick_is =
    record {
      proper = floors-proper (round_of s) floors (round_proper s ok) asked.proper;
      kept = record { accepted = ok; starts = starts; linked = linked };
      constraints_are = refl;
      used_are = refl;
      bids_are = bids_are;
      some_asks = asked.enough;
      asks_are = λ k below. asked.asks_are k below ∙ ap (floor_asks (tick_field s)) (sym (floor_under (round_of s) floors k below));
      bidders_are = refl;
      slots_are = refl;
      tick_is = tick_is;
    }

pub link_all-requires : goal.link_all-requires
link_all-requires c = (c.requires.0, linked-none (round_of c.args.sheet.now))

pub bounds-sheet-5 : goal.bounds-sheet-5
bounds-sheet-5 c =
    let least = start_least c.args.sheet.now in
    let known = (accepted-sheet c.args.sheet.now c.requires.0).counts in
    omega arith

pub bounds-sheet-6 : goal.bounds-sheet-6
bounds-sheet-6 c =
    let least = start_least c.args.sheet.now in
    let known = (accepted-sheet c.args.sheet.now c.requires.0).counts in
    omega arith

pub tick_of-tick-requires : goal.tick_of-tick-requires
tick_of-tick-requires c =
    let form = (accepted-sheet c.args.sheet.now c.requires.0).form in
    (form.header, form.whole_header)

pub fill-requires : goal.fill-requires
fill-requires c =
    let floors = c.requires.1.0 in (
      with_floors (round_of c.args.sheet.now) floors,
      lent_on _ _ _ _ _ floors _ _ c.requires.0 c.requires.1.1 c.constraints_start-start.ensures c.link_all.ensures c.accepted_bids-bids.ensures c.tick_of-tick.ensures,
    )

pub returns : goal.returns
returns c = λ floors asked.
    c.fill.ensures (with_floors (round_of c.args.sheet.now) floors)
    (lent_on _ _ _ _ _ floors _ _ c.requires.0 asked c.constraints_start-start.ensures c.link_all.ensures c.accepted_bids-bids.ensures c.tick_of-tick.ensures)
