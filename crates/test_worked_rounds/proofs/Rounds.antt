-- The right-hand sides of the calls' contracts give, for every worked round, what documents 01 and 02 say of it: the antt kernel computes them from
-- the sheets' bytes, the best pages by trying every page. Some rounds are played with floors as well. So too the answers of the eligibility step, the
-- parts of single bidders, the sheets that are written anew, top-of-page terms, the profile "above named rivals" and sharing, the last by trying every order,
-- and what the quick page can lose. Assumes nothing.
use mathlib.Core.List.{map}
use mathlib.Core.Path.{◌≡◌, refl}
use Rattle.basis.specs.Bytes.{word16_at, word32_at, bytes32}
use Rattle.basis.specs.First.{first_over, unless_refused}
use Rattle.basis.specs.Rows.{row, padded, joined}
use Rattle.basis.specs.Tests.{any_below, all_below, least}
use Rattle.sheet.specs.Sheet.{tick_field, effects_start, effect_field, bid_field, owner_field, own_slot_field, other_field, other_slot_field}
use Rattle.sheet.specs.Refusal.{
  form_refusal,
  counts_refusal,
  effect_refusal,
  bid_refusal,
  tick_refusal,
  legal_bid,
  in_range,
  fields_refusal,
  terms_refusal,
  fields_below,
  constraint_below,
  above_before,
  order_refusal,
  constraint_refusal,
  refusal_of,
}
use Rattle.sheet.specs.Round.{kind_of, constraint_field, round_of, with_floors, constraint_at, bid_of, effect_of, floor_of}
use Rattle.floors.specs.Floors.{some_too_high, floors_refusal}
use Rattle.choice.specs.Winner.{ranks_no_lower, wins, winner}
use Rattle.auction.specs.Page.{at, put, empty_page, placed}
use Rattle.auction.specs.Broken.{own_holds, other_holds, broken, breaks, breaks_own}
use Rattle.sheet.specs.Encoded.{words, quads, count_bytes, body_bytes, sheet_of, sheet_in_ticks}
use Rattle.auction.specs.Eligible.{breaks_earlier, first_failed, failed_test, eligible}
use Rattle.auction.specs.Greedy.{winner_at, fill_slot, page_up_to, greedy_page}
use Rattle.auction.specs.Price.{with_bid, wins_with, price_for, price}
use Rattle.downward.specs.Downward.{own_slot, one_lower, same_kind, list_has, asks_lower, downward}
use Rattle.downward.specs.Call.{test_refusal, tested_for, tested_of}
use Rattle.gain.specs.Gain.{slot_of, gain_if, gain_at, gain_of}
use Rattle.gain.specs.Call.{later_refusal, gain_refusal, gain_floors_refusal, gained_for, gained_of, gained_floors_of}
use Rattle.auction.specs.Allowed.{total_up_to, total}
use Rattle.best_page.specs.BestPage.{nobody_twice, reaches_floors, is_allowed, keep, each_choice, try_all, best_page_of}
use Rattle.best_search.specs.Call.{bounds_refusal, best_refusal, best_floors_refusal, best_buffer, chosen_for}
use Rattle.play.specs.Play.{room_refusal, play_refusal, play_floors_refusal, slot_entry, played_buffer}
use Rattle.owner_part.specs.OwnerPart.{call_refusal, part_refusal, first_from, bytes_before, constraint_bytes, constraints_of, part_length, bounds_for, bounds_of, before_for, before_of}
use Rattle.canonical.specs.Canonical.{has_condition, conditions_in_order, canonical_sheet, canonical_refusal, canonical_buffer}
use Rattle.slot_terms.specs.SlotTerms.{bar_for, barred, beyond, slot_terms_of, size_refusal, owner_refusal, profile_refusal, slot_terms_refusal, conditions_buffer}
use Rattle.basis.specs.Counting.{count_to, most_to}
use Rattle.bidder_sets.specs.BidderSets.{in_set, member_count, numbers_wrong, set_at, end_at, sets_end, rivals_of}
use Rattle.above_terms.specs.AboveTerms.{pairs_at, above_terms_of, rivals_refusal, above_terms_refusal}
use Rattle.share_page.specs.SharePage.{headed, orders_of, puts_above, some_of, first_of, can_share, order_written, order_buffer, sets_refusal, share_refusal}
use Rattle.loss_bound.specs.LossBound.{names_rival, rival_above, has_all_pairs, from_profile, most_naming, loss_factor}
use Rattle.test_worked_rounds.specs.Sheets.{A, B, C, D, E, F, F_true, F_version_3, F_eight_bytes, F_in_ticks, F_off_tick, F_tick_0, F_twelve_bytes, F_without_tick, G, H, H_longer, earlier_winner, earlier_winner_and_own, placed_and_own, overbid, overbid_barred, second_not_first, tie_in_ticks, lower_number_in_ticks, tick_above_bids, too_high_and_off_tick, H_in_order, owners_two_and_four, equal_neighbours, repeated_in_version_1, own_place_falls, falls_and_names_itself, falls_before_a_fault, falls_after_a_fault, nine_bidders, two_faults, H_shuffled, owners_four_and_two, repeat_dropped, F_written, H_pairs_of_three_places, H_pair_missing, H_pair_missing_one_twice, H_out_of_order, rival_below, rival_above_and_below, same_place, same_place_and_above, any_place_and_above, names_three, named_by_three, named_unevenly, nearly_twice, all_above_first}
use Rattle.test_worked_rounds.specs.Worked.{Worked, lent, given_by_play, given_by_best, given_with_floors, given, entries, rounds, Candidate, given_by_step, candidates, PartAsked, given_by_part, parts, WriteAsked, given_by_writer, writings, TermsAsked, given_by_terms, terms, AboveAsked, given_by_above, named_rivals, ShareAsked, given_by_sharing, sharings, LossAsked, given_by_loss, losses}

pub rounds_hold : map given rounds ≡ map (λ (w : Worked). w.said) rounds
unfolding word16_at word32_at bytes32 first_over unless_refused row padded joined any_below all_below least tick_field effects_start effect_field bid_field owner_field own_slot_field other_field other_slot_field form_refusal counts_refusal effect_refusal bid_refusal tick_refusal legal_bid in_range fields_refusal terms_refusal fields_below constraint_below above_before order_refusal constraint_refusal refusal_of kind_of constraint_field round_of ranks_no_lower wins winner at put empty_page placed own_holds other_holds broken constraint_at bid_of effect_of with_floors floor_of breaks_earlier first_failed eligible winner_at fill_slot page_up_to greedy_page with_bid wins_with price_for price own_slot one_lower same_kind list_has asks_lower downward test_refusal tested_for tested_of slot_of gain_if gain_at gain_of later_refusal gain_refusal gain_floors_refusal gained_for gained_of gained_floors_of breaks breaks_own total_up_to total nobody_twice reaches_floors is_allowed keep each_choice try_all best_page_of bounds_refusal best_refusal best_floors_refusal best_buffer chosen_for room_refusal play_refusal play_floors_refusal some_too_high floors_refusal slot_entry played_buffer words quads count_bytes body_bytes sheet_of sheet_in_ticks A B C D E F F_true F_version_3 F_eight_bytes F_in_ticks F_off_tick F_tick_0 F_twelve_bytes F_without_tick G H H_longer earlier_winner overbid overbid_barred tie_in_ticks lower_number_in_ticks tick_above_bids too_high_and_off_tick H_in_order equal_neighbours repeated_in_version_1 own_place_falls falls_and_names_itself falls_before_a_fault falls_after_a_fault nine_bidders two_faults second_not_first lent given_by_play given_by_best given_with_floors given entries rounds
rounds_hold = refl

-- The answers of the eligibility step, candidate by candidate.
pub candidates_hold : map given_by_step candidates ≡ map (λ (c : Candidate). failed_test c.said) candidates
unfolding word16_at word32_at bytes32 row padded any_below tick_field effects_start effect_field bid_field owner_field own_slot_field other_field other_slot_field kind_of constraint_field round_of ranks_no_lower wins winner at put empty_page placed own_holds other_holds broken breaks_own constraint_at bid_of with_floors floor_of breaks_earlier first_failed failed_test eligible winner_at fill_slot page_up_to words quads count_bytes body_bytes sheet_of A B C D H earlier_winner earlier_winner_and_own placed_and_own given_by_step candidates first_over all_below
candidates_hold = refl

-- The parts of single bidders.
pub parts_hold : map given_by_part parts ≡ map (λ (p : PartAsked). p.said) parts
unfolding word16_at word32_at bytes32 first_over least tick_field effects_start effect_field bid_field owner_field own_slot_field other_field other_slot_field form_refusal counts_refusal effect_refusal bid_refusal tick_refusal in_range fields_refusal terms_refusal fields_below constraint_below above_before order_refusal constraint_refusal refusal_of call_refusal part_refusal first_from bytes_before joined constraint_bytes constraints_of part_length bounds_for bounds_of before_for before_of words quads count_bytes body_bytes sheet_of sheet_in_ticks F_in_ticks F_version_3 H H_in_order owners_two_and_four own_place_falls given_by_part parts
parts_hold = refl

-- The sheets that are written anew.
pub writings_hold : map given_by_writer writings ≡ map (λ (w : WriteAsked). w.said) writings
unfolding word16_at word32_at bytes32 first_over unless_refused row joined any_below tick_field effects_start effect_field bid_field owner_field own_slot_field other_field other_slot_field form_refusal counts_refusal effect_refusal bid_refusal tick_refusal in_range fields_refusal terms_refusal fields_below constraint_below above_before order_refusal constraint_refusal refusal_of words quads count_bytes body_bytes sheet_of sheet_in_ticks has_condition conditions_in_order canonical_sheet canonical_refusal canonical_buffer F F_version_3 F_in_ticks H H_in_order owners_two_and_four repeated_in_version_1 own_place_falls H_shuffled owners_four_and_two repeat_dropped F_written given_by_writer writings
writings_hold = refl

-- Top-of-page terms.
pub terms_hold : map given_by_terms terms ≡ map (λ (t : TermsAsked). t.said) terms
unfolding unless_refused row joined any_below quads bar_for barred beyond slot_terms_of size_refusal owner_refusal profile_refusal slot_terms_refusal conditions_buffer given_by_terms terms
terms_hold = refl

-- The profile "above named rivals".
pub named_rivals_hold : map given_by_above named_rivals ≡ map (λ (a : AboveAsked). a.said) named_rivals
unfolding unless_refused row joined any_below quads size_refusal owner_refusal conditions_buffer in_set numbers_wrong pairs_at above_terms_of rivals_refusal above_terms_refusal given_by_above named_rivals
named_rivals_hold = refl

-- Sharing.
pub sharings_hold : map given_by_sharing sharings ≡ map (λ (a : ShareAsked). a.said) sharings
unfolding unless_refused joined any_below all_below count_to in_set member_count numbers_wrong set_at end_at sets_end rivals_of headed orders_of puts_above some_of first_of can_share order_written order_buffer size_refusal sets_refusal share_refusal given_by_sharing sharings
sharings_hold = refl

-- What the quick page can lose.
pub losses_hold : map given_by_loss losses ≡ map (λ (a : LossAsked). a.said) losses
unfolding word16_at word32_at bytes32 first_over unless_refused row padded joined any_below all_below least count_to most_to tick_field effects_start effect_field bid_field owner_field own_slot_field other_field other_slot_field form_refusal counts_refusal effect_refusal bid_refusal tick_refusal in_range fields_refusal terms_refusal fields_below constraint_below above_before order_refusal constraint_refusal refusal_of kind_of constraint_field round_of ranks_no_lower wins winner at put empty_page placed own_holds other_holds broken breaks breaks_own constraint_at bid_of effect_of floor_of breaks_earlier first_failed eligible winner_at fill_slot page_up_to greedy_page total_up_to total nobody_twice reaches_floors is_allowed keep each_choice try_all best_page_of has_condition names_rival rival_above has_all_pairs from_profile most_naming loss_factor in_set pairs_at above_terms_of words quads count_bytes body_bytes sheet_of sheet_in_ticks A B C D E F_eight_bytes H H_in_order too_high_and_off_tick H_shuffled H_longer H_pairs_of_three_places H_pair_missing H_pair_missing_one_twice H_out_of_order rival_below rival_above_and_below same_place same_place_and_above any_place_and_above names_three named_by_three named_unevenly nearly_twice all_above_first given_by_loss losses
losses_hold = refl
