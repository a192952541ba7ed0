-- The bound of S-8 is met: on three sheets the factor and the totals of the greedy and of the best page are computed from the definitions, and what the calls
-- tell is these. Assumes nothing.
use Prim.Native.Nat.{ℕ, zero, suc, ◌+◌, ◌*◌, ◌<◌, ◌≤◌}
use mathlib.Core.List.{List, [], ◌∷◌, map}
use mathlib.Core.Path.{◌≡◌, refl, sym, ◌∙◌, ap}
use native.Mathlib.Omega.{arith}
use lib.ListN.{get_or}
use Rattle.basis.specs.Bytes.{word16_at, word32_at, bytes32}
use Rattle.basis.specs.Counting.{count_to, most_to}
use Rattle.basis.specs.First.{first_over}
use Rattle.basis.specs.Rows.{row, padded, joined}
use Rattle.basis.specs.Tests.{any_below, all_below}
use Rattle.basis.proofs.FirstLaws.{answered-gives}
use Rattle.sheet.specs.Sheet.{tick_field, effects_start, effect_field, bid_field, owner_field, own_slot_field, other_field, other_slot_field}
use Rattle.sheet.specs.Refusal.{
  form_refusal,
  counts_refusal,
  effect_refusal,
  bid_refusal,
  tick_refusal,
  in_range,
  fields_refusal,
  terms_refusal,
  fields_below,
  constraint_below,
  above_before,
  order_refusal,
  constraint_refusal,
  refusal_of,
}
use Rattle.sheet.specs.Round.{kind_of, constraint_field, round_of, constraint_at, bid_of, effect_of, floor_of}
use Rattle.sheet.specs.Encoded.{words, quads, count_bytes, body_bytes, sheet_of}
use Rattle.choice.specs.Winner.{ranks_no_lower, wins, winner}
use Rattle.auction.specs.Page.{at, put, empty_page, placed}
use Rattle.auction.specs.Broken.{own_holds, other_holds, broken, breaks, breaks_own}
use Rattle.auction.specs.Eligible.{breaks_earlier, first_failed, eligible}
use Rattle.auction.specs.Greedy.{winner_at, fill_slot, page_up_to, greedy_page}
use Rattle.auction.specs.Allowed.{total_up_to, total}
use Rattle.best_page.specs.BestPage.{nobody_twice, reaches_floors, is_allowed, keep, each_choice, try_all, best_page_of}
use Rattle.best_search.specs.Call.{best_refusal}
use Rattle.bidder_sets.specs.BidderSets.{in_set}
use Rattle.canonical.specs.Canonical.{has_condition}
use Rattle.above_terms.specs.AboveTerms.{pairs_at, above_terms_of}
use Rattle.loss_bound.specs.LossBound.{names_rival, rival_above, has_all_pairs, from_profile, most_naming, loss_factor}
use Rattle.demands.specs.Demands.{sharp_sheet, Sharp}
use Rattle.demands.proofs.LossLaws.{said-total}

-- a sheet's number and factor, and the totals of its greedy and of its best page
record Told : Type 0 where
  number : ℕ
  factor : ℕ
  greedy : ℕ
  best : ℕ

abbrev told_of : List ℕ → Told
told_of s =
    record { number = refusal_of s; factor = loss_factor s; greedy = total (round_of s) (greedy_page (round_of s)); best = total (round_of s) (best_page_of (round_of s)) }

abbrev said_of : ℕ → Told
said_of d = record { number = 0; factor = d + 1; greedy = 1; best = d + 1 }

sharp_sheets : map (λ d. told_of (sharp_sheet d)) (1 ∷ 2 ∷ 3 ∷ []) ≡ map said_of (1 ∷ 2 ∷ 3 ∷ [])
unfolding word16_at word32_at bytes32 count_to most_to first_over row padded joined any_below all_below tick_field effects_start effect_field bid_field owner_field own_slot_field other_field other_slot_field form_refusal counts_refusal effect_refusal bid_refusal tick_refusal in_range fields_refusal terms_refusal fields_below constraint_below above_before order_refusal constraint_refusal refusal_of kind_of constraint_field round_of constraint_at bid_of effect_of floor_of words quads count_bytes body_bytes sheet_of ranks_no_lower wins winner at put empty_page placed own_holds other_holds broken breaks breaks_own breaks_earlier first_failed eligible winner_at fill_slot page_up_to greedy_page total_up_to total nobody_twice reaches_floors is_allowed keep each_choice try_all best_page_of in_set has_condition pairs_at above_terms_of names_rival rival_above has_all_pairs from_profile most_naming loss_factor sharp_sheet
sharp_sheets = refl

-- each of them
told_at : (k : ℕ) → k < 3 → told_of (sharp_sheet (suc k)) ≡ said_of (suc k)
told_at zero l = ap (λ (all : List Told). get_or all 0 (said_of 0)) sharp_sheets
told_at (suc zero) l = ap (λ (all : List Told). get_or all 1 (said_of 0)) sharp_sheets
told_at (suc (suc zero)) l = ap (λ (all : List Told). get_or all 2 (said_of 0)) sharp_sheets
told_at (suc (suc (suc k))) l = absurd (omega arith)

pub sharp : (d : ℕ) → 0 < d → d ≤ 3 → Sharp d
sharp zero some few = absurd (omega arith)
sharp (suc k) some few =
    let s = sharp_sheet (suc k) in
    let told = told_at k few in
    let ok = ap (λ (t : Told). t.number) told in
    let greedy = ap (λ (t : Told). t.greedy) told in
    let best = ap (λ (t : Told). t.best) told in
    record {
      accepted = ok;
      factor = ap (λ (t : Told). t.factor) told;
      some = λ out out' g. (let said = said-total s out out' ok g in omega arith);
      reached = λ out out' into into' before given g b.
          (let said = ap (λ (x : ℕ). (suc k + 1) * x) (said-total s out out' ok g ∙ greedy) in
          let is = b.written ∙ sym (answered-gives (best_refusal s into) (total (round_of s) (best_page_of (round_of s))) before (sym b.number)) in
          omega arith);
    }
