-- "Rounds worked by hand": what is asked of each round, and what documents 01 and 02 say; candidates for a place, with the answer of the
-- eligibility step (document 02, S-3); bidders asked for, with their part of the sheet (S-5); sheets that are written anew (S-6); top-of-page
-- terms (S-1); the profile "above named rivals" and sharing (S-2); and what the quick page can lose (S-8). Some rounds are played with floors as
-- well (S-7).
use Rattle.std.specs.Prelude.{ℕ, suc, ◌*◌, ◌-◌, Bool, true, false, List, [], ◌∷◌, ◌++◌, map, ℤ, pos, negsuc, length, take, drop, replicate}
use Rattle.basis.specs.First.{unless_refused}
use Rattle.basis.specs.Rows.{row}
use Rattle.sheet.specs.Sheet.{slot_count}
use Rattle.sheet.specs.Refusal.{refusal_of}
use Rattle.sheet.specs.Round.{round_of, with_floors}
use Rattle.auction.specs.declared.Eligibility.{Eligibility}
use Rattle.auction.specs.declared.Eligibility.TheVariants.{Eligible, Placed, EarlierWinners, Own, BelowFloor}
use Rattle.auction.specs.Eligible.{first_failed}
use Rattle.auction.specs.Greedy.{page_up_to, greedy_page}
use Rattle.auction.specs.Allowed.{total}
use Rattle.play.specs.Play.{play_refusal, play_floors_refusal, played_buffer}
use Rattle.downward.specs.Call.{Tested, tested_of}
use Rattle.gain.specs.Call.{Gained, gained_of, gained_floors_of}
use Rattle.best_page.specs.BestPage.{best_page_of}
use Rattle.best_search.specs.Call.{Chosen, best_refusal, best_floors_refusal, best_buffer, chosen_for}
use Rattle.owner_part.specs.OwnerPart.{Before, Bounds, bounds_of, before_of}
use Rattle.canonical.specs.Canonical.{canonical_sheet, canonical_refusal, canonical_buffer}
use Rattle.slot_terms.specs.SlotTerms.{slot_terms_of, slot_terms_refusal, conditions_buffer}
use Rattle.above_terms.specs.AboveTerms.{above_terms_of, above_terms_refusal}
use Rattle.share_page.specs.SharePage.{can_share, order_buffer, share_refusal}
use Rattle.loss_bound.specs.LossBound.{Loss, loss_factor}
use Rattle.test_worked_rounds.specs.Sheets.{
  A,
  B,
  C,
  D,
  E,
  F,
  F_true,
  F_version_3,
  F_eight_bytes,
  F_in_ticks,
  F_off_tick,
  F_tick_0,
  F_twelve_bytes,
  F_without_tick,
  G,
  H,
  H_longer,
  H_in_order,
  earlier_winner,
  earlier_winner_and_own,
  placed_and_own,
  overbid,
  overbid_barred,
  second_not_first,
  tie_in_ticks,
  lower_number_in_ticks,
  tick_above_bids,
  too_high_and_off_tick,
  owners_two_and_four,
  equal_neighbours,
  repeated_in_version_1,
  own_place_falls,
  falls_and_names_itself,
  falls_before_a_fault,
  falls_after_a_fault,
  nine_bidders,
  two_faults,
  H_shuffled,
  owners_four_and_two,
  repeat_dropped,
  F_written,
  H_pairs_of_three_places,
  H_pair_missing,
  H_pair_missing_one_twice,
  H_out_of_order,
  rival_below,
  rival_above_and_below,
  same_place,
  same_place_and_above,
  any_place_and_above,
  names_three,
  named_by_three,
  named_unevenly,
  nearly_twice,
  all_above_first,
}

-- a number, and the bytes of the result buffer after the call
pub record Left : Type 0 where
  pub number : ℕ
  pub buffer : List ℕ

-- the total with its number, and the bytes of the result buffer after the call
pub record BestLeft : Type 0 where
  pub returned : Chosen
  pub buffer : List ℕ

-- what the three calls with floors return, and what they leave in the buffers lent to them
pub record SaidFloors : Type 0 where
  pub play : Left
  pub gain : Gained
  pub best : BestLeft

-- what the five calls of document 01 return, and what they leave in the buffers lent to them; and the calls with floors, for each list of floors
pub record Said : Type 0 where
  pub check : ℕ
  pub play : Left
  pub test : Tested
  pub gain : Gained
  pub best : BestLeft
  pub floored : List SaidFloors

-- a sheet, the truth sheet, a bidder and its worth, lists of floors, and what is said of them
pub record Worked : Type 0 where
  pub sheet : List ℕ
  pub truth : List ℕ
  pub bidder : ℕ
  pub worth : ℕ
  pub floors : List (List ℕ)
  pub said : Said

-- a buffer of k bytes before a call, each 255, so that a byte that was not written shows
unfoldable pub lent : ℕ → List ℕ
lent k = replicate k 255

-- what playing s returns and leaves, by the right-hand sides of `Played`, in a buffer of exactly 5 × m bytes
unfoldable pub given_by_play : List ℕ → Left
given_by_play s =
    let out = lent (5 * slot_count s) in
    record {
      number = play_refusal s out;
      buffer = unless_refused (play_refusal s out) (played_buffer (round_of s) out) out;
    }

-- what the best page call returns and leaves, by the right-hand sides of `BestGiven`, in a buffer of exactly m bytes
unfoldable pub given_by_best : List ℕ → BestLeft
given_by_best s =
    let out = lent (slot_count s) in
    record {
      returned = chosen_for (best_refusal s out) (round_of s);
      buffer = unless_refused (best_refusal s out) (best_buffer (round_of s) out) out;
    }

-- what the calls with floors give, by the right-hand sides of `PlayedFloors`, `gain_floors` and `BestFloorsGiven`, in buffers of exactly 5 × m and m bytes
unfoldable pub given_with_floors : Worked → List ℕ → SaidFloors
given_with_floors w floors =
    let s = w.sheet in
    let r = with_floors (round_of s) floors in
    let out = lent (5 * slot_count s) in
    let page = lent (slot_count s) in
    record {
      play =
          record {
            number = play_floors_refusal floors s out;
            buffer = unless_refused (play_floors_refusal floors s out) (played_buffer r out) out;
          };
      gain = gained_floors_of floors s w.truth w.bidder w.worth;
      best =
          record {
            returned = chosen_for (best_floors_refusal floors s page) r;
            buffer = unless_refused (best_floors_refusal floors s page) (best_buffer r page) page;
          };
    }

-- what the calls give, each by the right-hand side of its contract
unfoldable pub given : Worked → Said
given w =
    record {
      check = refusal_of w.sheet;
      play = given_by_play w.sheet;
      test = tested_of w.sheet w.bidder;
      gain = gained_of w.sheet w.truth w.bidder w.worth;
      best = given_by_best w.sheet;
      floored = map (given_with_floors w) w.floors;
    }

-- A page and its prices as bytes, 5 a slot. Each price here is below 256, so its low byte, which comes first, says all of it; the bytes are
-- written out, and not taken from the definition that the call's own buffer is made by.
unfoldable pub entries : (page prices : List ℕ) → List ℕ
entries [] prices = []
entries (b ∷ bs) [] = []
entries (b ∷ bs) (p ∷ ps) = b ∷ p ∷ 0 ∷ 0 ∷ 0 ∷ entries bs ps

-- the answers of calls that are not refused
abbrev pub plays : (page prices : List ℕ) → Left
plays page prices = record { number = 0; buffer = entries page prices }

abbrev pub tells : Bool → Tested
tells monotonic = record { refusal = 0; yes = monotonic }

abbrev pub gains : ℤ → Gained
gains gain = record { refusal = 0; gain = gain }

abbrev pub finds : List ℕ → ℕ → BestLeft
finds page total = record { returned = record { refusal = 0; total = total }; buffer = page }

-- the answers of calls that are refused with the number k, on a sheet with m slots
abbrev pub plays_not : (k m : ℕ) → Left
plays_not k m = record { number = k; buffer = lent (5 * m) }

abbrev pub tells_not : ℕ → Tested
tells_not k = record { refusal = k; yes = false }

abbrev pub gains_not : ℕ → Gained
gains_not k = record { refusal = k; gain = pos 0 }

abbrev pub finds_not : (k m : ℕ) → BestLeft
finds_not k m = record { returned = record { refusal = k; total = 0 }; buffer = lent m }

-- a sheet, the truth sheet, a bidder, its worth, and the answers of these five calls
abbrev pub calls : List ℕ → List ℕ → ℕ → ℕ → ℕ → Left → Tested → Gained → BestLeft → Worked
calls sheet truth bidder worth check play test gain best =
    record {
      sheet = sheet;
      truth = truth;
      bidder = bidder;
      worth = worth;
      floors = [];
      said = record { check = check; play = play; test = test; gain = gain; best = best; floored = [] };
    }

-- the same with lists of floors, and what the three calls with floors say for each
abbrev pub with_lists : Worked → List (List ℕ) → List SaidFloors → Worked
with_lists w floors floored =
    record {
      sheet = w.sheet;
      truth = w.truth;
      bidder = w.bidder;
      worth = w.worth;
      floors = floors;
      said =
          record {
            check = w.said.check;
            play = w.said.play;
            test = w.said.test;
            gain = w.said.gain;
            best = w.said.best;
            floored = floored;
          };
    }

-- page, prices, gain, best page and its total, with floors
abbrev pub says : List ℕ → List ℕ → ℤ → List ℕ → ℕ → SaidFloors
says page prices gain best total = record { play = plays page prices; gain = gains gain; best = finds best total }

-- all three refused with the number k, on a sheet with m slots
abbrev pub says_not : (k m : ℕ) → SaidFloors
says_not k m = record { play = plays_not k m; gain = gains_not k; best = finds_not k m }

-- the same where no call is refused: page, prices, whether the list is downward monotonic, gain, best page and its total
abbrev pub worked : List ℕ → List ℕ → ℕ → ℕ → List ℕ → List ℕ → Bool → ℤ → List ℕ → ℕ → Worked
worked sheet truth bidder worth page prices monotonic gain best total =
    calls sheet truth bidder worth 0 (plays page prices) (tells monotonic) (gains gain) (finds best total)

-- A to H as document 01 has them, with the gains and the best page that it names (the other gains and best pages are ours); then the round
-- that only an earlier winner's condition decides, H with its fourth place (the only full page has 553340), and the rounds that show that
-- demand 3 needs a worth of at least the bid. Then rounds of version 2: F with tick 3, also with a truth sheet of another tick, a tie, a lower-numbered
-- rival, a tick above every bid, H with its conditions in order, and, in version 1, a condition twice. Last come calls that are refused: by the truth sheet (version 3; a bid off its tick; another m; another n), by the
-- bidder (0, though the worth is too high as well; 3 of 2), by the worth, by 9 bidders for the best page alone, by a sheet of 8 bytes and one of version 2
-- of 12, by a sheet whose first faulty condition breaks a later rule than its second, and by the rules of version 2: tick 0 though the length is wrong
-- too, the length, a bid above the limit though an earlier one is off the tick, the last bid off the tick, and conditions that do not rise: a repeat,
-- one owner's out of order, one that also breaks 11, one before a condition that breaks 10, one after a condition that breaks 12, and in the truth sheet.
-- With floors: A with a floor that 2 just reaches at place 2, one that empties it, and one that is too high; B with none but 0, with one that empties place 3, one that sets the
-- price of place 2, falling and rising ones, one that empties place 1 alone, and with floors above every bid; G with a floor above a bid of 0; H with floors
-- that leave its page and change its best page, or the other way round; a floor between two ticks; and `second_not_first`, where a floor makes the lower
-- bidder's place cost more than the place above it. Refused lists: too short, too long, a floor one too high, both (30); before 14, 16 and 18, and after the
-- sheet's own numbers.
unfoldable pub rounds : List Worked
rounds =
    with_lists (worked A A 1 30 (1 ∷ 2 ∷ []) (20 ∷ 10 ∷ []) true (pos 100) (1 ∷ 2 ∷ []) 480)
    ((0 ∷ 20 ∷ [])
    ∷ (0 ∷ 21 ∷ [])
    ∷ (0 ∷ 1_000_000_001 ∷ [])
    ∷ [])
    (says (1 ∷ 2 ∷ []) (20 ∷ 20 ∷ []) (pos 100) (1 ∷ 2 ∷ []) 480
    ∷ says (1 ∷ 0 ∷ []) (20 ∷ 0 ∷ []) (pos 100) (3 ∷ 1 ∷ []) 370
    ∷ says_not 31 2
    ∷ [])
    ∷ with_lists (worked B B 1 60 (1 ∷ 2 ∷ 3 ∷ []) (40 ∷ 10 ∷ 0 ∷ []) true (pos 2000) (1 ∷ 2 ∷ 3 ∷ []) 10410)
    ((0 ∷ 0 ∷ 0 ∷ [])
    ∷ (0 ∷ 0 ∷ 11 ∷ [])
    ∷ (0 ∷ 25 ∷ 0 ∷ [])
    ∷ (50 ∷ 30 ∷ 5 ∷ [])
    ∷ (5 ∷ 30 ∷ 50 ∷ [])
    ∷ (61 ∷ 0 ∷ 0 ∷ [])
    ∷ (61 ∷ 61 ∷ 61 ∷ [])
    ∷ [])
    (says (1 ∷ 2 ∷ 3 ∷ []) (40 ∷ 10 ∷ 0 ∷ []) (pos 2000) (1 ∷ 2 ∷ 3 ∷ []) 10410
    ∷ says (1 ∷ 2 ∷ 0 ∷ []) (40 ∷ 10 ∷ 0 ∷ []) (pos 2000) (1 ∷ 3 ∷ 2 ∷ []) 10140
    ∷ says (1 ∷ 2 ∷ 3 ∷ []) (40 ∷ 25 ∷ 0 ∷ []) (pos 2000) (1 ∷ 2 ∷ 3 ∷ []) 10410
    ∷ says (1 ∷ 2 ∷ 3 ∷ []) (50 ∷ 30 ∷ 5 ∷ []) (pos 1000) (1 ∷ 2 ∷ 3 ∷ []) 10410
    ∷ says (1 ∷ 2 ∷ 0 ∷ []) (40 ∷ 30 ∷ 0 ∷ []) (pos 2000) (1 ∷ 2 ∷ 0 ∷ []) 9600
    ∷ says (0 ∷ 1 ∷ 2 ∷ []) (0 ∷ 40 ∷ 10 ∷ []) (pos 1800) (0 ∷ 1 ∷ 2 ∷ []) 8640
    ∷ says (0 ∷ 0 ∷ 0 ∷ []) (0 ∷ 0 ∷ 0 ∷ []) (pos 0) (0 ∷ 0 ∷ 0 ∷ []) 0
    ∷ [])
    ∷ worked C B 1 60 (2 ∷ 1 ∷ 3 ∷ []) (10 ∷ 10 ∷ 0 ∷ []) false (pos 4500) (2 ∷ 1 ∷ 3 ∷ []) 10210
    ∷ worked D D 2 30 (1 ∷ 2 ∷ 4 ∷ []) (30 ∷ 20 ∷ 0 ∷ []) true (pos 900) (1 ∷ 2 ∷ 4 ∷ []) 7510
    ∷ worked E E 1 5 (1 ∷ []) (5 ∷ []) true (pos 0) (1 ∷ []) 5
    ∷ with_lists (worked F F 2 6 (2 ∷ []) (6 ∷ []) true (pos 0) (2 ∷ []) 6)
    ((1_000_000_000 ∷ [])
    ∷ ([])
    ∷ (0 ∷ 0 ∷ [])
    ∷ (1_000_000_001 ∷ [])
    ∷ (1_000_000_001 ∷ 0 ∷ [])
    ∷ [])
    (says (0 ∷ []) (0 ∷ []) (pos 0) (0 ∷ []) 0
    ∷ says_not 30 1
    ∷ says_not 30 1
    ∷ says_not 31 1
    ∷ says_not 30 1
    ∷ [])
    ∷ worked F F_true 2 6 (2 ∷ []) (6 ∷ []) true (negsuc 5) (2 ∷ []) 6
    ∷ with_lists (worked G G 1 0 (0 ∷ 1 ∷ []) (0 ∷ 0 ∷ []) false (pos 0) (0 ∷ 0 ∷ []) 0)
    ((0 ∷ 1 ∷ [])
    ∷ [])
    (says (0 ∷ 0 ∷ []) (0 ∷ 0 ∷ []) (pos 0) (0 ∷ 0 ∷ []) 0
    ∷ [])
    ∷ with_lists (worked H H 4 40 (4 ∷ 2 ∷ 0 ∷ []) (37 ∷ 31 ∷ 0 ∷ []) true (pos 30000) (3 ∷ 4 ∷ 1 ∷ []) 600750)
    ((0 ∷ 0 ∷ 31 ∷ [])
    ∷ (0 ∷ 33 ∷ 0 ∷ [])
    ∷ [])
    (says (4 ∷ 2 ∷ 0 ∷ []) (37 ∷ 31 ∷ 0 ∷ []) (pos 30000) (4 ∷ 1 ∷ 2 ∷ []) 599800
    ∷ says (4 ∷ 0 ∷ 2 ∷ []) (37 ∷ 0 ∷ 31 ∷ []) (pos 30000) (3 ∷ 4 ∷ 1 ∷ []) 600750
    ∷ [])
    ∷ worked H_longer H_longer 2 32 (4 ∷ 2 ∷ 0 ∷ 0 ∷ []) (37 ∷ 31 ∷ 0 ∷ 0 ∷ []) true (pos 4500) (3 ∷ 4 ∷ 1 ∷ 0 ∷ []) 600750
    ∷ worked earlier_winner earlier_winner 1 2 (1 ∷ 0 ∷ []) (1 ∷ 0 ∷ []) true (pos 1) (2 ∷ 1 ∷ []) 3
    ∷ worked overbid overbid 1 2 (1 ∷ []) (3 ∷ []) true (negsuc 0) (1 ∷ []) 5
    ∷ worked overbid_barred overbid 1 2 (2 ∷ []) (0 ∷ []) true (pos 0) (2 ∷ []) 3
    ∷ with_lists (worked second_not_first second_not_first 2 40 (1 ∷ 2 ∷ 3 ∷ []) (10 ∷ 10 ∷ 0 ∷ []) false (pos 2700) (1 ∷ 2 ∷ 3 ∷ []) 10410)
    ((0 ∷ 30 ∷ 0 ∷ []) ∷ [])
    (says (1 ∷ 2 ∷ 3 ∷ []) (10 ∷ 30 ∷ 0 ∷ []) (pos 900) (1 ∷ 2 ∷ 3 ∷ []) 10410 ∷ [])
    ∷ worked F_in_ticks F_in_ticks 2 6 (2 ∷ []) (6 ∷ []) true (pos 0) (2 ∷ []) 6
    ∷ worked F_in_ticks F 2 7 (2 ∷ []) (6 ∷ []) true (pos 1) (2 ∷ []) 6
    ∷ worked tie_in_ticks tie_in_ticks 2 12 (1 ∷ 2 ∷ []) (10 ∷ 5 ∷ []) true (pos 14) (1 ∷ 2 ∷ []) 50
    ∷ with_lists (worked lower_number_in_ticks lower_number_in_ticks 1 20 (2 ∷ 1 ∷ []) (30 ∷ 10 ∷ []) true (pos 20) (2 ∷ 1 ∷ []) 130)
    ((0 ∷ 15 ∷ [])
    ∷ [])
    (says (2 ∷ 1 ∷ []) (30 ∷ 20 ∷ []) (pos 0) (2 ∷ 1 ∷ []) 130
    ∷ [])
    ∷ worked tick_above_bids tick_above_bids 1 5 (2 ∷ 1 ∷ []) (0 ∷ 0 ∷ []) false (pos 5) (0 ∷ 0 ∷ []) 0
    ∷ worked H_in_order H 4 40 (4 ∷ 2 ∷ 0 ∷ []) (37 ∷ 31 ∷ 0 ∷ []) true (pos 30000) (3 ∷ 4 ∷ 1 ∷ []) 600750
    ∷ worked repeated_in_version_1 repeated_in_version_1 1 2 (1 ∷ 2 ∷ []) (1 ∷ 0 ∷ []) true (pos 2) (1 ∷ 2 ∷ []) 5
    ∷ with_lists (calls F F_version_3 2 6 0 (plays (2 ∷ []) (6 ∷ [])) (tells true) (gains_not 14) (finds (2 ∷ []) 6))
    (([])
    ∷ (0 ∷ [])
    ∷ [])
    (says_not 30 1
    ∷ record { play = plays (2 ∷ []) (6 ∷ []); gain = gains_not 14; best = finds (2 ∷ []) 6 }
    ∷ [])
    ∷ calls F_in_ticks F_off_tick 2 6 0 (plays (2 ∷ []) (6 ∷ [])) (tells true) (gains_not 14) (finds (2 ∷ []) 6)
    ∷ calls F earlier_winner 2 6 0 (plays (2 ∷ []) (6 ∷ [])) (tells true) (gains_not 15) (finds (2 ∷ []) 6)
    ∷ calls earlier_winner A 1 2 0 (plays (1 ∷ 0 ∷ []) (1 ∷ 0 ∷ [])) (tells true) (gains_not 15) (finds (2 ∷ 1 ∷ []) 3)
    ∷ with_lists (calls F F 0 1_000_000_001 0 (plays (2 ∷ []) (6 ∷ [])) (tells_not 16) (gains_not 16) (finds (2 ∷ []) 6))
    ((1_000_000_001 ∷ [])
    ∷ (0 ∷ [])
    ∷ [])
    (says_not 31 1
    ∷ record { play = plays (2 ∷ []) (6 ∷ []); gain = gains_not 16; best = finds (2 ∷ []) 6 }
    ∷ [])
    ∷ calls F F 3 6 0 (plays (2 ∷ []) (6 ∷ [])) (tells_not 16) (gains_not 16) (finds (2 ∷ []) 6)
    ∷ calls F F 2 1_000_000_001 0 (plays (2 ∷ []) (6 ∷ [])) (tells true) (gains_not 17) (finds (2 ∷ []) 6)
    ∷ with_lists (calls nine_bidders nine_bidders 1 9 0 (plays (1 ∷ []) (8 ∷ [])) (tells true) (gains (pos 1)) (finds_not 18 1))
    (([])
    ∷ (0 ∷ [])
    ∷ [])
    (says_not 30 1
    ∷ record { play = plays (1 ∷ []) (8 ∷ []); gain = gains (pos 1); best = finds_not 18 1 }
    ∷ [])
    ∷ with_lists (calls F_eight_bytes F 2 6 1 (plays_not 1 1) (tells_not 1) (gains_not 1) (finds_not 1 1))
    (([])
    ∷ [])
    (says_not 1 1
    ∷ [])
    ∷ calls F_twelve_bytes F 2 6 1 (plays_not 1 1) (tells_not 1) (gains_not 1) (finds_not 1 1)
    ∷ calls two_faults F 1 3 12 (plays_not 12 2) (tells_not 12) (gains_not 12) (finds_not 12 2)
    ∷ calls F_tick_0 F 2 6 26 (plays_not 26 1) (tells_not 26) (gains_not 26) (finds_not 26 1)
    ∷ calls F_without_tick F 2 6 7 (plays_not 7 1) (tells_not 7) (gains_not 7) (finds_not 7 1)
    ∷ calls too_high_and_off_tick F 2 6 9 (plays_not 9 1) (tells_not 9) (gains_not 9) (finds_not 9 1)
    ∷ calls F_off_tick F 2 6 27 (plays_not 27 1) (tells_not 27) (gains_not 27) (finds_not 27 1)
    ∷ with_lists (calls equal_neighbours F 1 2 28 (plays_not 28 2) (tells_not 28) (gains_not 28) (finds_not 28 2))
    ((1_000_000_001 ∷ [])
    ∷ [])
    (says_not 28 2
    ∷ [])
    ∷ calls own_place_falls F 1 2 28 (plays_not 28 2) (tells_not 28) (gains_not 28) (finds_not 28 2)
    ∷ calls falls_and_names_itself F 1 2 11 (plays_not 11 2) (tells_not 11) (gains_not 11) (finds_not 11 2)
    ∷ calls falls_before_a_fault F 1 2 28 (plays_not 28 2) (tells_not 28) (gains_not 28) (finds_not 28 2)
    ∷ calls falls_after_a_fault F 1 2 12 (plays_not 12 2) (tells_not 12) (gains_not 12) (finds_not 12 2)
    ∷ calls repeated_in_version_1 equal_neighbours 1 2 0 (plays (1 ∷ 2 ∷ []) (1 ∷ 0 ∷ [])) (tells true) (gains_not 14) (finds (1 ∷ 2 ∷ []) 5)
    ∷ []

-- a sheet, a place, a candidate for it, and what the eligibility step answers (document 02, S-3) with the places before it filled
pub record Candidate : Type 0 where
  pub sheet : List ℕ
  pub floors : List ℕ
  pub slot : ℕ
  pub bidder : ℕ
  pub said : Eligibility

-- the number of the first test that the candidate fails, by the right-hand side of the step's promise
unfoldable pub given_by_step : Candidate → ℕ
given_by_step c =
    let r = with_floors (round_of c.sheet) c.floors in
    first_failed r (page_up_to r (c.slot - 1)) c.slot c.bidder

abbrev pub asked : List ℕ → ℕ → ℕ → Eligibility → Candidate
asked sheet slot bidder said = record { sheet = sheet; floors = replicate (slot_count sheet) 0; slot = slot; bidder = bidder; said = said }

-- the same with floors
abbrev pub asked_with : List ℕ → List ℕ → ℕ → ℕ → Eligibility → Candidate
asked_with sheet floors slot bidder said = record { sheet = sheet; floors = floors; slot = slot; bidder = bidder; said = said }

-- Each of the answers: no test fails (A, 2 at place 2), placed (A, 1 at place 2), an earlier winner's condition alone, the candidate's own
-- (C: an own place; H: a pair). Then what the order decides. Of 3 at place 3 of D, which the earlier winner 2 bars and which bars 2 itself, it is the
-- earlier winner's; so too where the candidate's own condition is an own place. Who has a place is "placed", though its own condition would be broken
-- too. With floors: 3 at place 3 of B is below the floor, 2 just reaches that of place 2; and who fails an earlier test is not told of the floor, though its bid
-- is below it: placed, an earlier winner's, its own.
unfoldable pub candidates : List Candidate
candidates =
    asked A 2 2 Eligible
    ∷ asked A 2 1 Placed
    ∷ asked earlier_winner 2 2 EarlierWinners
    ∷ asked C 1 1 Own
    ∷ asked H 2 3 Own
    ∷ asked D 3 3 EarlierWinners
    ∷ asked earlier_winner_and_own 2 2 EarlierWinners
    ∷ asked placed_and_own 2 1 Placed
    ∷ asked_with B (0 ∷ 0 ∷ 11 ∷ []) 3 3 BelowFloor
    ∷ asked_with B (0 ∷ 40 ∷ 0 ∷ []) 2 2 Eligible
    ∷ asked_with B (0 ∷ 61 ∷ 0 ∷ []) 2 1 Placed
    ∷ asked_with earlier_winner (0 ∷ 2 ∷ []) 2 2 EarlierWinners
    ∷ asked_with C (61 ∷ 0 ∷ 0 ∷ []) 1 1 Own
    ∷ []

-- What the calls for one bidder's part say: where it is, what the call that only checks says, and the bytes of the sheet there.
pub record PartSaid : Type 0 where
  pub bounds : Bounds
  pub before : Before
  pub bytes : List ℕ

pub record PartAsked : Type 0 where
  pub sheet : List ℕ
  pub bidder : ℕ
  pub said : PartSaid

-- by the right-hand sides of their contracts
unfoldable pub given_by_part : PartAsked → PartSaid
given_by_part p =
    let bounds = bounds_of p.sheet p.bidder in
    record {
      bounds = bounds;
      before = before_of p.sheet p.bidder;
      bytes = take bounds.length (drop bounds.start p.sheet);
    }

-- a part that starts after so many bytes, with its own bytes
abbrev pub stands : List ℕ → ℕ → ℕ → List ℕ → PartAsked
stands sheet bidder start bytes =
    record {
      sheet = sheet;
      bidder = bidder;
      said = record { bounds = record { refusal = 0; start = start; length = length bytes }; before = record { refusal = 0; bytes = start }; bytes = bytes };
    }

-- and the empty part of a call that is refused with the number k
abbrev pub stands_not : List ℕ → ℕ → ℕ → PartAsked
stands_not sheet bidder k =
    record {
      sheet = sheet;
      bidder = bidder;
      said = record { bounds = record { refusal = k; start = 0; length = 0 }; before = record { refusal = k; bytes = 0 }; bytes = [] };
    }

-- Every owner of H in version 2, whose conditions start after 41 bytes and which has 77 bytes: the first, those between, and 4, which has none, at the
-- sheet's end. Then a sheet with conditions of 2 and 4 alone, from byte 37 on: 1, just before those of 2; 2; 3, just before those of 4; 4. F in version 2, with
-- no conditions. Then refused calls: 29 for version 1, for bidder 0 too; 16 for 0 and for 5 of 4; 28 and 3 before either.
unfoldable pub parts : List PartAsked
parts =
    stands H_in_order 1 41 (1 ∷ 2 ∷ 2 ∷ 1 ∷ 1 ∷ 3 ∷ 2 ∷ 1 ∷ 1 ∷ 3 ∷ 2 ∷ 2 ∷ [])
    ∷ stands H_in_order 2 53 (2 ∷ 2 ∷ 3 ∷ 1 ∷ 2 ∷ 3 ∷ 3 ∷ 1 ∷ 2 ∷ 3 ∷ 3 ∷ 2 ∷ [])
    ∷ stands H_in_order 3 65 (3 ∷ 2 ∷ 4 ∷ 1 ∷ 3 ∷ 3 ∷ 4 ∷ 1 ∷ 3 ∷ 3 ∷ 4 ∷ 2 ∷ [])
    ∷ stands H_in_order 4 77 []
    ∷ stands owners_two_and_four 1 37 []
    ∷ stands owners_two_and_four 2 37 (2 ∷ 0 ∷ 1 ∷ 1 ∷ 2 ∷ 0 ∷ 1 ∷ 2 ∷ 2 ∷ 0 ∷ 3 ∷ 1 ∷ 2 ∷ 1 ∷ 0 ∷ 0 ∷ [])
    ∷ stands owners_two_and_four 3 53 []
    ∷ stands owners_two_and_four 4 53 (4 ∷ 2 ∷ 0 ∷ 0 ∷ [])
    ∷ stands F_in_ticks 1 25 []
    ∷ stands_not H 4 29
    ∷ stands_not H 0 29
    ∷ stands_not H_in_order 0 16
    ∷ stands_not H_in_order 5 16
    ∷ stands_not own_place_falls 0 28
    ∷ stands_not F_version_3 0 3
    ∷ []

-- What is said of a sheet that is written anew: the number and the length that the call returns, and the buffer after it.
pub record WriteSaid : Type 0 where
  pub number : ℕ
  pub size : ℕ
  pub buffer : List ℕ

pub record WriteAsked : Type 0 where
  pub sheet : List ℕ
  pub buffer : List ℕ
  pub said : WriteSaid

-- by the right-hand sides of the contract
unfoldable pub given_by_writer : WriteAsked → WriteSaid
given_by_writer w =
    let number = canonical_refusal w.sheet w.buffer in
    record {
      number = number;
      size = unless_refused number (length (canonical_sheet w.sheet)) 0;
      buffer = unless_refused number (canonical_buffer w.sheet w.buffer) w.buffer;
    }

-- a sheet that is written as these bytes, into a buffer with more bytes
abbrev pub writes_before : List ℕ → List ℕ → List ℕ → WriteAsked
writes_before later sheet bytes =
    record {
      sheet = sheet;
      buffer = replicate (length bytes) 9 ++ later;
      said = record { number = 0; size = length bytes; buffer = bytes ++ later };
    }

abbrev pub writes : List ℕ → List ℕ → WriteAsked
writes = writes_before (7 ∷ 8 ∷ [])

-- and one that is refused with the number k, with a buffer of so many bytes
abbrev pub writes_not : List ℕ → ℕ → ℕ → WriteAsked
writes_not sheet room k =
    record {
      sheet = sheet;
      buffer = replicate room 9;
      said = record { number = k; size = 0; buffer = replicate room 9 };
    }

-- F, byte for byte, also into a buffer of just its 25 bytes; H, H with its conditions in disorder and two of them twice, and H in version 2: one sheet; conditions from the last to the first, each
-- field deciding once; a condition twice; tick 3 stays 3. Then refused calls: a byte less than F's 25, and none; a byte less than the 33 that are written
-- where one of two conditions is dropped; a byte less than a sheet of version 2 has; and the sheet's own number before 19, and alone.
unfoldable pub writings : List WriteAsked
writings =
    writes F F_written
    ∷ writes_before [] F F_written
    ∷ writes H H_in_order
    ∷ writes H_shuffled H_in_order
    ∷ writes H_in_order H_in_order
    ∷ writes owners_four_and_two owners_two_and_four
    ∷ writes owners_two_and_four owners_two_and_four
    ∷ writes repeated_in_version_1 repeat_dropped
    ∷ writes repeat_dropped repeat_dropped
    ∷ writes F_in_ticks F_in_ticks
    ∷ writes_not F 24 19
    ∷ writes_not F 0 19
    ∷ writes_not repeated_in_version_1 32 19
    ∷ writes_not F_in_ticks 24 19
    ∷ writes_not own_place_falls 0 28
    ∷ writes_not F_version_3 25 3
    ∷ []

-- What is said of top-of-page terms: the number and how many conditions the call returns, and the buffer after it.
pub record TermsSaid : Type 0 where
  pub number : ℕ
  pub count : ℕ
  pub buffer : List ℕ

pub record TermsAsked : Type 0 where
  pub n : ℕ
  pub m : ℕ
  pub owner : ℕ
  pub limit : ℕ
  pub bars : List ℕ
  pub buffer : List ℕ
  pub said : TermsSaid

-- by the right-hand sides of the contract
unfoldable pub given_by_terms : TermsAsked → TermsSaid
given_by_terms t =
    let number = slot_terms_refusal t.n t.m t.owner t.limit t.bars t.buffer in
    let conditions = slot_terms_of t.n t.m t.owner t.limit t.bars in
    record {
      number = number;
      count = unless_refused number (length conditions) 0;
      buffer = unless_refused number (conditions_buffer conditions t.buffer) t.buffer;
    }

-- n, m, the owner, its limit and the bars: so many conditions, as these bytes, in a buffer with more bytes
abbrev pub gives_before : List ℕ → (n m owner limit : ℕ) → List ℕ → ℕ → List ℕ → TermsAsked
gives_before later n m owner limit bars count bytes =
    record {
      n = n;
      m = m;
      owner = owner;
      limit = limit;
      bars = bars;
      buffer = replicate (length bytes) 9 ++ later;
      said = record { number = 0; count = count; buffer = bytes ++ later };
    }

abbrev pub gives : (n m owner limit : ℕ) → List ℕ → ℕ → List ℕ → TermsAsked
gives = gives_before (7 ∷ 8 ∷ [])

-- and a call that is refused with the number k, with a buffer of so many bytes
abbrev pub gives_not : (n m owner limit : ℕ) → List ℕ → ℕ → ℕ → TermsAsked
gives_not n m owner limit bars room k =
    record {
      n = n;
      m = m;
      owner = owner;
      limit = limit;
      bars = bars;
      buffer = replicate room 9;
      said = record { number = k; count = 0; buffer = replicate room 9 };
    }

-- Bars before and after the owner, with a limit, also in a buffer of just their bytes; bars alone; a limit alone; neither, where nothing is written, also in a
-- buffer of no bytes; one bidder with one place and with two; and the largest owner, n and m. Then refused calls, first with one fault, as far as that can be: 4 for n 0
-- and 65; 5 for m 0 and 17; 16 for owner 0 and n + 1; 20 for limit 0 and m + 1; 21 for a bar too few, one too many, and the first and the last bar above m; 22; and 19 for a byte
-- too few, also of the 4,092 that are the most, and for none at all. Last with more faults, which show the order: 4, 5, 16, 20, 21 for bars too few and for a bar above m, also the
-- owner's own, and 22, each before all that come after it.
unfoldable pub terms : List TermsAsked
terms =
    gives 3 3 2 2 (1 ∷ 0 ∷ 3 ∷ []) 5 (2 ∷ 0 ∷ 1 ∷ 1 ∷ 2 ∷ 0 ∷ 3 ∷ 1 ∷ 2 ∷ 0 ∷ 3 ∷ 2 ∷ 2 ∷ 0 ∷ 3 ∷ 3 ∷ 2 ∷ 3 ∷ 0 ∷ 0 ∷ [])
    ∷ gives_before [] 3 3 2 2 (1 ∷ 0 ∷ 3 ∷ []) 5 (2 ∷ 0 ∷ 1 ∷ 1 ∷ 2 ∷ 0 ∷ 3 ∷ 1 ∷ 2 ∷ 0 ∷ 3 ∷ 2 ∷ 2 ∷ 0 ∷ 3 ∷ 3 ∷ 2 ∷ 3 ∷ 0 ∷ 0 ∷ [])
    ∷ gives 3 2 1 2 (0 ∷ 1 ∷ 2 ∷ []) 3 (1 ∷ 0 ∷ 2 ∷ 1 ∷ 1 ∷ 0 ∷ 3 ∷ 1 ∷ 1 ∷ 0 ∷ 3 ∷ 2 ∷ [])
    ∷ gives 2 4 2 1 (0 ∷ 0 ∷ []) 3 (2 ∷ 2 ∷ 0 ∷ 0 ∷ 2 ∷ 3 ∷ 0 ∷ 0 ∷ 2 ∷ 4 ∷ 0 ∷ 0 ∷ [])
    ∷ gives 3 3 2 3 (0 ∷ 0 ∷ 0 ∷ []) 0 []
    ∷ gives_before [] 3 3 2 3 (0 ∷ 0 ∷ 0 ∷ []) 0 []
    ∷ gives 1 1 1 1 (0 ∷ []) 0 []
    ∷ gives 1 2 1 1 (0 ∷ []) 1 (1 ∷ 2 ∷ 0 ∷ 0 ∷ [])
    ∷ gives 64 16 64 14 (1 ∷ replicate 61 0 ++ 2 ∷ 0 ∷ []) 5 (64 ∷ 0 ∷ 1 ∷ 1 ∷ 64 ∷ 0 ∷ 63 ∷ 1 ∷ 64 ∷ 0 ∷ 63 ∷ 2 ∷ 64 ∷ 15 ∷ 0 ∷ 0 ∷ 64 ∷ 16 ∷ 0 ∷ 0 ∷ [])
    ∷ gives_not 0 3 1 2 [] 20 4
    ∷ gives_not 65 3 2 2 (replicate 65 0) 20 4
    ∷ gives_not 3 0 2 1 (0 ∷ 0 ∷ 0 ∷ []) 20 5
    ∷ gives_not 3 17 2 2 (1 ∷ 0 ∷ 3 ∷ []) 80 5
    ∷ gives_not 3 3 0 2 (1 ∷ 0 ∷ 3 ∷ []) 20 16
    ∷ gives_not 3 3 4 2 (1 ∷ 0 ∷ 3 ∷ []) 20 16
    ∷ gives_not 3 3 2 0 (1 ∷ 0 ∷ 3 ∷ []) 28 20
    ∷ gives_not 3 3 2 4 (1 ∷ 0 ∷ 3 ∷ []) 20 20
    ∷ gives_not 3 3 2 2 (1 ∷ 0 ∷ []) 20 21
    ∷ gives_not 3 3 2 2 (1 ∷ 0 ∷ 3 ∷ 0 ∷ []) 20 21
    ∷ gives_not 3 3 2 2 (4 ∷ 0 ∷ 3 ∷ []) 32 21
    ∷ gives_not 3 3 2 2 (1 ∷ 0 ∷ 4 ∷ []) 24 21
    ∷ gives_not 3 3 2 2 (1 ∷ 1 ∷ 3 ∷ []) 24 22
    ∷ gives_not 3 3 2 2 (1 ∷ 0 ∷ 3 ∷ []) 19 19
    ∷ gives_not 3 3 2 2 (1 ∷ 0 ∷ 3 ∷ []) 0 19
    ∷ gives_not 64 16 64 1 (replicate 63 16 ++ 0 ∷ []) 4091 19
    ∷ gives_not 65 17 66 0 (17 ∷ []) 0 4
    ∷ gives_not 3 17 4 0 (18 ∷ []) 0 5
    ∷ gives_not 3 3 4 4 (4 ∷ []) 0 16
    ∷ gives_not 3 3 2 4 (4 ∷ 1 ∷ []) 0 20
    ∷ gives_not 3 3 2 2 (1 ∷ 1 ∷ []) 0 21
    ∷ gives_not 3 3 2 2 (4 ∷ 1 ∷ 3 ∷ []) 0 21
    ∷ gives_not 3 3 2 2 (1 ∷ 4 ∷ 3 ∷ []) 0 21
    ∷ gives_not 3 3 2 2 (1 ∷ 3 ∷ 3 ∷ []) 19 22
    ∷ []

-- the same of the profile "above named rivals"
pub record AboveAsked : Type 0 where
  pub n : ℕ
  pub m : ℕ
  pub owner : ℕ
  pub rivals : List ℕ
  pub buffer : List ℕ
  pub said : TermsSaid

-- by the right-hand sides of the contract
unfoldable pub given_by_above : AboveAsked → TermsSaid
given_by_above a =
    let number = above_terms_refusal a.n a.m a.owner a.rivals a.buffer in
    let conditions = above_terms_of a.n a.m a.owner a.rivals in
    record {
      number = number;
      count = unless_refused number (length conditions) 0;
      buffer = unless_refused number (conditions_buffer conditions a.buffer) a.buffer;
    }

-- n, m, the owner and its rivals: so many conditions, as these bytes, in a buffer with more bytes
abbrev pub keeps_above_before : List ℕ → (n m owner : ℕ) → List ℕ → ℕ → List ℕ → AboveAsked
keeps_above_before later n m owner rivals count bytes =
    record {
      n = n;
      m = m;
      owner = owner;
      rivals = rivals;
      buffer = replicate (length bytes) 9 ++ later;
      said = record { number = 0; count = count; buffer = bytes ++ later };
    }

abbrev pub keeps_above : (n m owner : ℕ) → List ℕ → ℕ → List ℕ → AboveAsked
keeps_above = keeps_above_before (7 ∷ 8 ∷ [])

-- and a call that is refused with the number k, with a buffer of so many bytes
abbrev pub keeps_above_not : (n m owner : ℕ) → List ℕ → ℕ → ℕ → AboveAsked
keeps_above_not n m owner rivals room k =
    record {
      n = n;
      m = m;
      owner = owner;
      rivals = rivals;
      buffer = replicate room 9;
      said = record { number = k; count = 0; buffer = replicate room 9 };
    }

-- bidders 1 to k
abbrev pub up_to : ℕ → List ℕ
up_to = row (λ i. suc i)

-- One rival; two, lent in falling order, with a repeat, and in a buffer of just their bytes; none, also in a buffer of no bytes; the owner between its
-- rivals, and last; one place, where nothing can stand above; one bidder; and the largest owner, n and rival. Then refused calls, first with one fault, as
-- far as that can be: 4 for n 0 and 65; 5 for m 0 and 17; 16 for owner 0 and n + 1; 23 for 0, n + 1 and 255, first and last; 24 for the owner alone, last,
-- and twice; 25 for 9 rivals and 16 places, 1,080, and for 49 and 7, 1,029, the least that is too many; and 19 for a byte too few, also of the 3,840 of 8
-- rivals and 16 places and of the 4,056 of 13 and 13, 1,014 conditions, the most that there can be, and for none at all. Last with more faults, which show
-- the order: 4, 5, 16, 23 after and before the owner itself, 24, and 25, each before all that come after it.
unfoldable pub named_rivals : List AboveAsked
named_rivals =
    keeps_above 3 3 1 (2 ∷ []) 3 (1 ∷ 2 ∷ 2 ∷ 1 ∷ 1 ∷ 3 ∷ 2 ∷ 1 ∷ 1 ∷ 3 ∷ 2 ∷ 2 ∷ [])
    ∷ keeps_above 3 3 1 (3 ∷ 2 ∷ []) 6 (1 ∷ 2 ∷ 2 ∷ 1 ∷ 1 ∷ 2 ∷ 3 ∷ 1 ∷ 1 ∷ 3 ∷ 2 ∷ 1 ∷ 1 ∷ 3 ∷ 2 ∷ 2 ∷ 1 ∷ 3 ∷ 3 ∷ 1 ∷ 1 ∷ 3 ∷ 3 ∷ 2 ∷ [])
    ∷ keeps_above 3 3 1 (2 ∷ 2 ∷ 3 ∷ []) 6 (1 ∷ 2 ∷ 2 ∷ 1 ∷ 1 ∷ 2 ∷ 3 ∷ 1 ∷ 1 ∷ 3 ∷ 2 ∷ 1 ∷ 1 ∷ 3 ∷ 2 ∷ 2 ∷ 1 ∷ 3 ∷ 3 ∷ 1 ∷ 1 ∷ 3 ∷ 3 ∷ 2 ∷ [])
    ∷ keeps_above_before [] 3 3 1 (3 ∷ 2 ∷ 3 ∷ []) 6 (1 ∷ 2 ∷ 2 ∷ 1 ∷ 1 ∷ 2 ∷ 3 ∷ 1 ∷ 1 ∷ 3 ∷ 2 ∷ 1 ∷ 1 ∷ 3 ∷ 2 ∷ 2 ∷ 1 ∷ 3 ∷ 3 ∷ 1 ∷ 1 ∷ 3 ∷ 3 ∷ 2 ∷ [])
    ∷ keeps_above 3 3 1 [] 0 []
    ∷ keeps_above_before [] 3 3 1 [] 0 []
    ∷ keeps_above 3 2 2 (1 ∷ 3 ∷ []) 2 (2 ∷ 2 ∷ 1 ∷ 1 ∷ 2 ∷ 2 ∷ 3 ∷ 1 ∷ [])
    ∷ keeps_above 3 2 3 (2 ∷ []) 1 (3 ∷ 2 ∷ 2 ∷ 1 ∷ [])
    ∷ keeps_above_before [] 3 1 1 (2 ∷ 3 ∷ []) 0 []
    ∷ keeps_above 1 16 1 [] 0 []
    ∷ keeps_above 64 2 64 (63 ∷ 1 ∷ []) 2 (64 ∷ 2 ∷ 1 ∷ 1 ∷ 64 ∷ 2 ∷ 63 ∷ 1 ∷ [])
    ∷ keeps_above 64 2 1 (64 ∷ []) 1 (1 ∷ 2 ∷ 64 ∷ 1 ∷ [])
    ∷ keeps_above_not 0 3 1 [] 24 4
    ∷ keeps_above_not 65 3 1 (2 ∷ []) 24 4
    ∷ keeps_above_not 3 0 1 (2 ∷ []) 24 5
    ∷ keeps_above_not 3 17 1 (2 ∷ []) 544 5
    ∷ keeps_above_not 3 3 0 (2 ∷ []) 24 16
    ∷ keeps_above_not 3 3 4 (2 ∷ []) 24 16
    ∷ keeps_above_not 3 3 1 (0 ∷ []) 24 23
    ∷ keeps_above_not 3 3 1 (4 ∷ []) 24 23
    ∷ keeps_above_not 3 3 1 (0 ∷ 2 ∷ []) 24 23
    ∷ keeps_above_not 3 3 1 (2 ∷ 4 ∷ []) 24 23
    ∷ keeps_above_not 3 3 1 (2 ∷ 255 ∷ []) 24 23
    ∷ keeps_above_not 3 3 1 (1 ∷ []) 24 24
    ∷ keeps_above_not 3 3 3 (2 ∷ 3 ∷ []) 24 24
    ∷ keeps_above_not 3 3 2 (2 ∷ 1 ∷ 2 ∷ []) 24 24
    ∷ keeps_above_not 64 16 64 (up_to 9) 4320 25
    ∷ keeps_above_not 64 7 64 (up_to 49) 4116 25
    ∷ keeps_above_not 64 16 64 (up_to 8) 3839 19
    ∷ keeps_above_not 64 13 64 (up_to 13) 4055 19
    ∷ keeps_above_not 3 3 1 (2 ∷ []) 11 19
    ∷ keeps_above_not 3 3 1 (2 ∷ []) 0 19
    ∷ keeps_above_not 65 17 66 (0 ∷ 66 ∷ []) 0 4
    ∷ keeps_above_not 3 17 4 (0 ∷ 4 ∷ []) 0 5
    ∷ keeps_above_not 3 3 4 (0 ∷ 4 ∷ []) 0 16
    ∷ keeps_above_not 3 3 1 (1 ∷ 0 ∷ []) 0 23
    ∷ keeps_above_not 3 3 1 (4 ∷ 1 ∷ []) 0 23
    ∷ keeps_above_not 64 16 1 (up_to 10) 0 24
    ∷ keeps_above_not 64 16 64 (up_to 9) 0 25
    ∷ []

-- What is said of sharing: the number and the answer that the call returns, and the buffer after it.
pub record ShareSaid : Type 0 where
  pub number : ℕ
  pub yes : Bool
  pub buffer : List ℕ

pub record ShareAsked : Type 0 where
  pub n : ℕ
  pub m : ℕ
  pub members : List ℕ
  pub sets : List ℕ
  pub buffer : List ℕ
  pub said : ShareSaid

-- by the right-hand sides of the contract
unfoldable pub given_by_sharing : ShareAsked → ShareSaid
given_by_sharing a =
    let number = share_refusal a.n a.m a.members a.sets a.buffer in
    record {
      number = number;
      yes = unless_refused number (can_share a.n a.m a.members a.sets) false;
      buffer = unless_refused number (order_buffer a.n a.m a.members a.sets a.buffer) a.buffer;
    }

-- n, m, the members and the rival sets of all bidders: yes, in this order, in a buffer with more bytes
abbrev pub shares_before : List ℕ → (n m : ℕ) → List ℕ → List ℕ → List ℕ → ShareAsked
shares_before later n m members sets order =
    record {
      n = n;
      m = m;
      members = members;
      sets = sets;
      buffer = replicate (length order) 9 ++ later;
      said = record { number = 0; yes = true; buffer = order ++ later };
    }

abbrev pub shares : (n m : ℕ) → List ℕ → List ℕ → List ℕ → ShareAsked
shares = shares_before (7 ∷ 8 ∷ [])

-- no, or refused with the number k, with a buffer of so many bytes
abbrev pub shares_not : (n m : ℕ) → List ℕ → List ℕ → ℕ → ℕ → ShareAsked
shares_not n m members sets room k =
    record {
      n = n;
      m = m;
      members = members;
      sets = sets;
      buffer = replicate room 9;
      said = record { number = k; yes = false; buffer = replicate room 9 };
    }

abbrev pub shares_no : (n m : ℕ) → List ℕ → List ℕ → ℕ → ShareAsked
shares_no n m members sets room = shares_not n m members sets room 0

-- Sets are written as lent: a length, then that many numbers. The empty set, also in a buffer of no bytes; one member, of one place; three with no rivals
-- among them, however lent, also in a buffer of just their bytes; 3 above 1; a chain upwards; of several orders the first, where 4 is above 1, where 3 is
-- above 1 and 4 above 2, and where 4 is above 2 and 3; a member that names all others; two of a ring of three; rivals outside the set, one of which names
-- a member; a member and a rival that are named twice; as many members as places, by repeats; five members; and the largest n and m. No: a ring of two and
-- of three, the latter also with others beside it; more members than places, also with no rivals; and both with a buffer of no bytes. Then refused calls,
-- first with one fault, as far as that can be: 4 for n 0 and 65; 5 for m 0 and 17; 23 for members with 0 and n + 1, for rivals 0 and n + 1 of the first,
-- of the last and of no member, for no bytes, a set too few, a last set that ends early, a first one that takes the others' bytes, and a set or any byte
-- too many; 24 for the first, for the last, for one that is no member, and for one twice; and 19 for a byte too few and for none at all. Last with more
-- faults, which show the order: 4, 5, 23 of the members, of the last set though the first has its owner, and of bytes too few and too many, 24 though the
-- answer would be no and the buffer has no bytes, each before all that come after it.
unfoldable pub sharings : List ShareAsked
sharings =
    shares 3 3 [] (0 ∷ 0 ∷ 0 ∷ []) []
    ∷ shares_before [] 3 3 [] (1 ∷ 2 ∷ 1 ∷ 1 ∷ 0 ∷ []) []
    ∷ shares 3 1 (2 ∷ []) (0 ∷ 0 ∷ 0 ∷ []) (2 ∷ [])
    ∷ shares 1 1 (1 ∷ []) (0 ∷ []) (1 ∷ [])
    ∷ shares 3 3 (3 ∷ 1 ∷ 2 ∷ []) (0 ∷ 0 ∷ 0 ∷ []) (1 ∷ 2 ∷ 3 ∷ [])
    ∷ shares_before [] 3 3 (2 ∷ 3 ∷ 1 ∷ []) (0 ∷ 0 ∷ 0 ∷ []) (1 ∷ 2 ∷ 3 ∷ [])
    ∷ shares 3 3 (1 ∷ 2 ∷ 3 ∷ []) (0 ∷ 0 ∷ 1 ∷ 1 ∷ []) (2 ∷ 3 ∷ 1 ∷ [])
    ∷ shares 3 3 (1 ∷ 2 ∷ 3 ∷ []) (0 ∷ 1 ∷ 1 ∷ 1 ∷ 2 ∷ []) (3 ∷ 2 ∷ 1 ∷ [])
    ∷ shares 4 4 (1 ∷ 2 ∷ 3 ∷ 4 ∷ []) (0 ∷ 0 ∷ 0 ∷ 1 ∷ 1 ∷ []) (2 ∷ 3 ∷ 4 ∷ 1 ∷ [])
    ∷ shares 4 4 (1 ∷ 2 ∷ 3 ∷ 4 ∷ []) (0 ∷ 0 ∷ 1 ∷ 1 ∷ 1 ∷ 2 ∷ []) (3 ∷ 1 ∷ 4 ∷ 2 ∷ [])
    ∷ shares 4 4 (1 ∷ 2 ∷ 3 ∷ 4 ∷ []) (0 ∷ 0 ∷ 0 ∷ 2 ∷ 2 ∷ 3 ∷ []) (1 ∷ 4 ∷ 2 ∷ 3 ∷ [])
    ∷ shares 3 3 (1 ∷ 2 ∷ 3 ∷ []) (0 ∷ 0 ∷ 2 ∷ 2 ∷ 1 ∷ []) (3 ∷ 1 ∷ 2 ∷ [])
    ∷ shares 3 3 (1 ∷ 3 ∷ []) (1 ∷ 2 ∷ 1 ∷ 3 ∷ 1 ∷ 1 ∷ []) (3 ∷ 1 ∷ [])
    ∷ shares 3 3 (2 ∷ 1 ∷ []) (1 ∷ 3 ∷ 0 ∷ 1 ∷ 1 ∷ []) (1 ∷ 2 ∷ [])
    ∷ shares 3 3 (1 ∷ 2 ∷ 2 ∷ []) (0 ∷ 3 ∷ 1 ∷ 3 ∷ 1 ∷ 0 ∷ []) (2 ∷ 1 ∷ [])
    ∷ shares 3 2 (1 ∷ 2 ∷ 1 ∷ 2 ∷ 2 ∷ []) (0 ∷ 0 ∷ 0 ∷ []) (1 ∷ 2 ∷ [])
    ∷ shares 5 5 (1 ∷ 2 ∷ 3 ∷ 4 ∷ 5 ∷ []) (0 ∷ 1 ∷ 1 ∷ 1 ∷ 2 ∷ 0 ∷ 1 ∷ 4 ∷ []) (3 ∷ 2 ∷ 1 ∷ 5 ∷ 4 ∷ [])
    ∷ shares 64 16 (64 ∷ 1 ∷ []) (replicate 63 0 ++ 1 ∷ 1 ∷ []) (64 ∷ 1 ∷ [])
    ∷ shares_no 3 3 (1 ∷ 2 ∷ []) (1 ∷ 2 ∷ 1 ∷ 1 ∷ 0 ∷ []) 5
    ∷ shares_no 3 3 (1 ∷ 2 ∷ 3 ∷ []) (1 ∷ 2 ∷ 1 ∷ 3 ∷ 1 ∷ 1 ∷ []) 5
    ∷ shares_no 5 5 (1 ∷ 2 ∷ 3 ∷ 4 ∷ 5 ∷ []) (0 ∷ 1 ∷ 3 ∷ 1 ∷ 4 ∷ 1 ∷ 2 ∷ 1 ∷ 1 ∷ []) 5
    ∷ shares_no 3 2 (1 ∷ 2 ∷ 3 ∷ []) (0 ∷ 0 ∷ 1 ∷ 1 ∷ []) 5
    ∷ shares_no 3 2 (3 ∷ 2 ∷ 1 ∷ []) (0 ∷ 0 ∷ 0 ∷ []) 0
    ∷ shares_no 3 3 (1 ∷ 2 ∷ []) (1 ∷ 2 ∷ 1 ∷ 1 ∷ 0 ∷ []) 0
    ∷ shares_not 0 3 [] [] 5 4
    ∷ shares_not 65 3 (1 ∷ []) (replicate 65 0) 5 4
    ∷ shares_not 3 0 [] (0 ∷ 0 ∷ 0 ∷ []) 5 5
    ∷ shares_not 3 17 (1 ∷ []) (0 ∷ 0 ∷ 0 ∷ []) 5 5
    ∷ shares_not 3 3 (1 ∷ 0 ∷ []) (0 ∷ 0 ∷ 0 ∷ []) 5 23
    ∷ shares_not 3 3 (4 ∷ 1 ∷ []) (0 ∷ 0 ∷ 0 ∷ []) 5 23
    ∷ shares_not 3 3 (1 ∷ []) (1 ∷ 0 ∷ 0 ∷ 0 ∷ []) 5 23
    ∷ shares_not 3 3 (1 ∷ []) (1 ∷ 4 ∷ 0 ∷ 0 ∷ []) 5 23
    ∷ shares_not 3 3 (1 ∷ 3 ∷ []) (0 ∷ 0 ∷ 2 ∷ 1 ∷ 0 ∷ []) 5 23
    ∷ shares_not 3 3 (1 ∷ 3 ∷ []) (0 ∷ 0 ∷ 2 ∷ 1 ∷ 4 ∷ []) 5 23
    ∷ shares_not 3 3 (1 ∷ 3 ∷ []) (0 ∷ 1 ∷ 4 ∷ 0 ∷ []) 5 23
    ∷ shares_not 3 3 (1 ∷ []) [] 5 23
    ∷ shares_not 3 3 (1 ∷ []) (0 ∷ 0 ∷ []) 5 23
    ∷ shares_not 3 3 (1 ∷ []) (0 ∷ 0 ∷ 2 ∷ 1 ∷ []) 5 23
    ∷ shares_not 3 3 (1 ∷ []) (2 ∷ 2 ∷ 3 ∷ []) 5 23
    ∷ shares_not 3 3 (1 ∷ []) (255 ∷ 0 ∷ 0 ∷ []) 5 23
    ∷ shares_not 3 3 (1 ∷ []) (0 ∷ 0 ∷ 0 ∷ 0 ∷ []) 5 23
    ∷ shares_not 3 3 (1 ∷ []) (0 ∷ 0 ∷ 1 ∷ 1 ∷ 2 ∷ []) 5 23
    ∷ shares_not 3 3 (1 ∷ []) (1 ∷ 1 ∷ 0 ∷ 0 ∷ []) 5 24
    ∷ shares_not 3 3 (1 ∷ 3 ∷ []) (0 ∷ 0 ∷ 2 ∷ 1 ∷ 3 ∷ []) 5 24
    ∷ shares_not 3 3 (1 ∷ 3 ∷ []) (0 ∷ 1 ∷ 2 ∷ 0 ∷ []) 5 24
    ∷ shares_not 3 3 [] (0 ∷ 2 ∷ 2 ∷ 2 ∷ 0 ∷ []) 5 24
    ∷ shares_not 3 3 (1 ∷ 2 ∷ 3 ∷ []) (0 ∷ 0 ∷ 0 ∷ []) 2 19
    ∷ shares_not 3 3 (1 ∷ 1 ∷ []) (0 ∷ 0 ∷ 0 ∷ []) 0 19
    ∷ shares_not 65 17 (0 ∷ 66 ∷ []) (1 ∷ 1 ∷ []) 0 4
    ∷ shares_not 3 17 (0 ∷ 4 ∷ []) (1 ∷ 1 ∷ []) 0 5
    ∷ shares_not 3 3 (1 ∷ 0 ∷ []) (1 ∷ 1 ∷ 0 ∷ 0 ∷ []) 0 23
    ∷ shares_not 3 3 (1 ∷ []) (1 ∷ 1 ∷ 0 ∷ 1 ∷ 4 ∷ []) 0 23
    ∷ shares_not 3 3 (1 ∷ []) (1 ∷ 1 ∷ 0 ∷ []) 0 23
    ∷ shares_not 3 3 (1 ∷ []) (1 ∷ 1 ∷ 0 ∷ 0 ∷ 0 ∷ []) 0 23
    ∷ shares_not 3 3 (1 ∷ 2 ∷ []) (1 ∷ 2 ∷ 1 ∷ 1 ∷ 1 ∷ 3 ∷ []) 0 24
    ∷ shares_not 3 3 (1 ∷ []) (0 ∷ 0 ∷ 1 ∷ 3 ∷ []) 0 24
    ∷ []

-- What is said of a loss: what the call returns, and beside it the totals of the page that is played and of the best page.
pub record LossSaid : Type 0 where
  pub returned : Loss
  pub played : ℕ
  pub best : ℕ

pub record LossAsked : Type 0 where
  pub sheet : List ℕ
  pub said : LossSaid

-- by the right-hand sides of the contract; a refused sheet has no totals
unfoldable pub given_by_loss : LossAsked → LossSaid
given_by_loss a =
    let s = a.sheet in
    let number = refusal_of s in
    let r = round_of s in
    record {
      returned = record { refusal = number; factor = unless_refused number (loss_factor s) 0 };
      played = unless_refused number (total r (greedy_page r)) 0;
      best = unless_refused number (total r (best_page_of r)) 0;
    }

-- a sheet, the factor, and the totals of the two pages
abbrev pub loses : List ℕ → (factor played best : ℕ) → LossAsked
loses sheet factor played best =
    record { sheet = sheet; said = record { returned = record { refusal = 0; factor = factor }; played = played; best = best } }

-- and a sheet that is refused with the number k
abbrev pub loses_not : List ℕ → ℕ → LossAsked
loses_not sheet k = record { sheet = sheet; said = record { returned = record { refusal = k; factor = 0 }; played = 0; best = 0 } }

-- H, also in version 2, in disorder with repeats, and with its fourth place. 0 where the fourth place has no pairs, and for H with a pair missing, also where
-- another one twice makes up the number. No conditions, with three places and with one: 1, and the played page is the best. 0 for A, whose condition
-- has no own place, for C, which has an own place alone, and for D; for a pair with the rival below and for a pair of one place; and for these and one with no
-- own place beside the pair that the profile writes. Then who is counted: one bidder that names three rivals gives 2; three that name one rival, 4; and
-- where 2 is named twice and others once, 3. No smaller number would do: with each of 2 to d + 1 above 1 the best page has d + 1 times the played page's
-- total, for d of 1, 2 and 3; and nearly twice where the bids differ, 100 and 101. Last refused sheets: too short, a bid too high, H in version 2 out of order.
unfoldable pub losses : List LossAsked
losses =
    loses H 2 544000 600750
    ∷ loses H_in_order 2 544000 600750
    ∷ loses H_shuffled 2 544000 600750
    ∷ loses H_longer 2 544000 600750
    ∷ loses H_pairs_of_three_places 0 576796 632596
    ∷ loses H_pair_missing 0 604750 604750
    ∷ loses H_pair_missing_one_twice 0 616900 616900
    ∷ loses B 1 10410 10410
    ∷ loses E 1 5 5
    ∷ loses A 0 480 480
    ∷ loses C 0 10210 10210
    ∷ loses D 0 7510 7510
    ∷ loses rival_below 0 2 3
    ∷ loses rival_above_and_below 0 2 2
    ∷ loses same_place 0 3 3
    ∷ loses same_place_and_above 0 3 3
    ∷ loses any_place_and_above 0 3 3
    ∷ loses names_three 2 6 7
    ∷ loses named_by_three 4 4 7
    ∷ loses named_unevenly 3 5 7
    ∷ loses (all_above_first 1) 2 1 2
    ∷ loses (all_above_first 2) 3 1 3
    ∷ loses (all_above_first 3) 4 1 4
    ∷ loses nearly_twice 2 101 201
    ∷ loses_not F_eight_bytes 1
    ∷ loses_not too_high_and_off_tick 9
    ∷ loses_not H_out_of_order 28
    ∷ []
