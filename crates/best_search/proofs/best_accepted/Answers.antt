-- `best_search::best_accepted` meets its contract, by the cases of the call; the page that the search finds is the best page, since there is one only.
-- Assumes nothing.
use Prim.Native.Nat.{ℕ, suc}
use mathlib.Core.List.{List, ◌++◌}
use mathlib.Core.Path.{sym, ◌∙◌, ap, subst}
use native.Mathlib.Omega.{arith}
use lib.ListN.{drop}
use Rattle.basis.specs.Rows.{row}
use Rattle.sheet.specs.declared.Round.{Round}
use Rattle.sheet.specs.declared.Page.{Page}
use Rattle.sheet.specs.Proper.{ProperRound, ProperFloors}
use Rattle.sheet.specs.Round.{round_of, with_floors}
use Rattle.sheet.proofs.AcceptedLaws.{accepted-sheet}
use Rattle.sheet.proofs.FloorLaws.{floors-proper, floors-slots, floors-bidders}
use Rattle.sheet.proofs.RoundLaws.{round_proper, round_bidders, round_slots}
use Rattle.auction.specs.Page.{at}
use Rattle.best_page.proofs.BestPageLaws.{is_best_page}
use Rattle.best_search.proofs.CallLaws.{too_large, buffer_short, best-gives}
use Rattle.best_search.proofs.best_accepted.Goals.{Start}
use Rattle.best_search.proofs.best_accepted.Goals as goal

-- the buffer with the page's first m bidder numbers in front
abbrev written : List ℕ → Page → ℕ → List ℕ
written out p m = row (λ k. at p (suc k)) m ++ drop m out

abbrev round : Start → Round
round s = with_floors (round_of s.args.sheet.now) s.args.floors.now

proper_round : (s : Start) → ProperRound (round s)
proper_round s =
    floors-proper _ _ (round_proper _ s.requires.0) (subst (λ (m : ℕ). ProperFloors m s.args.floors.now) (sym (round_slots s.args.sheet.now)) s.requires.1)

pub bounds-sheet-5 : goal.bounds-sheet-5
bounds-sheet-5 c = omega (arith, (accepted-sheet _ c.requires.0).counts)

pub bounds-sheet-6 : goal.bounds-sheet-6
bounds-sheet-6 c = omega (arith, (accepted-sheet _ c.requires.0).counts)

pub returns-then-bidders-gt8 : goal.returns-then-bidders-gt8
returns-then-bidders-gt8 c =
    too_large (round (goal.at.returns-then-bidders-gt8 c).Start) c.args.sheet.now c.args.res.now c.then-bidders-gt8.either

pub returns-then-res-slots : goal.returns-then-res-slots
returns-then-res-slots c =
    buffer_short (round (goal.at.returns-then-res-slots c).Start) c.args.sheet.now c.args.res.now c.if-bidders-gt8.false c.if-slots-gt8.false c.if-res-slots.true

pub write_page-requires : goal.write_page-requires
write_page-requires c =
    let n = floors-bidders (round_of c.args.sheet.now) c.args.floors.now ∙ round_bidders c.args.sheet.now in
    let size = c.if-res-slots.false in
    let eight = c.if-bidders-gt8.false in
    let slots = c.if-slots-gt8.false in
    (omega arith, omega arith, λ k. omega (arith, c.best_page-answer.ensures.0.allowed.page.bidders k))

pub returns : goal.returns
returns c =
    let sheet = c.args.sheet.now in
    let out = c.args.res.now in
    let proper = proper_round (goal.at.returns c).Start in
    let page = c.best_page-answer.result.page in
    best-gives (round (goal.at.returns c).Start) sheet out page c.best_page-answer.result.total _ c.if-bidders-gt8.false c.if-slots-gt8.false c.if-res-slots.false
    (is_best_page (round (goal.at.returns c).Start) proper.most_slots proper page c.best_page-answer.ensures.0) c.best_page-answer.ensures.1
    (c.write_page.ensures ∙ ap (written out page) (sym (floors-slots (round_of sheet) c.args.floors.now ∙ round_slots sheet)))
