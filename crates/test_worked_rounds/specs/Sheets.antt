-- The worked rounds of documents 01 and 02 as sheets, byte for byte.
use Rattle.std.specs.Prelude.{ℕ, suc, List, [], ◌∷◌, ◌++◌, replicate}
use Rattle.basis.specs.Rows.{joined}
use Rattle.sheet.specs.Encoded.{on, sheet_of, sheet_in_ticks}
use Rattle.above_terms.specs.AboveTerms.{above_terms_of}

-- bids 30, 20, 10; effects 10, 9; (1,0,2,1)
unfoldable pub A : List ℕ
unfolding sheet_of
A = sheet_of (30 ∷ 20 ∷ 10 ∷ []) (10 ∷ 9 ∷ []) (on 1 0 2 1 ∷ [])

-- bids 60, 40, 10; effects 100, 90, 81; none
unfoldable pub B : List ℕ
unfolding sheet_of
B = sheet_of (60 ∷ 40 ∷ 10 ∷ []) (100 ∷ 90 ∷ 81 ∷ []) ([])

-- as B with (1,1,0,0)
unfoldable pub C : List ℕ
unfolding sheet_of
C = sheet_of (60 ∷ 40 ∷ 10 ∷ []) (100 ∷ 90 ∷ 81 ∷ []) (on 1 1 0 0 ∷ [])

-- bids 40, 30, 20, 10; effects 100, 90, 81; 2 bars 3 and 3 bars 2 from places 1 to 3, own place 0
unfoldable pub D : List ℕ
unfolding sheet_of
D = sheet_of (40 ∷ 30 ∷ 20 ∷ 10 ∷ []) (100 ∷ 90 ∷ 81 ∷ []) (on 2 0 3 1 ∷ on 2 0 3 2 ∷ on 2 0 3 3 ∷ on 3 0 2 1 ∷ on 3 0 2 2 ∷ on 3 0 2 3 ∷ [])

-- bids 5, 5; effect 1
unfoldable pub E : List ℕ
unfolding sheet_of
E = sheet_of (5 ∷ 5 ∷ []) (1 ∷ []) ([])

-- bids 5, 6; effect 1
unfoldable pub F : List ℕ
unfolding sheet_of
F = sheet_of (5 ∷ 6 ∷ []) (1 ∷ []) ([])

-- F with the condition (2,1,0,0)
unfoldable pub F_true : List ℕ
unfolding sheet_of
F_true = sheet_of (5 ∷ 6 ∷ []) (1 ∷ []) (on 2 1 0 0 ∷ [])

-- one bidder, bid 0, effects 1, 1, (1,1,0,0)
unfoldable pub G : List ℕ
unfolding sheet_of
G = sheet_of (0 ∷ []) (1 ∷ 1 ∷ []) (on 1 1 0 0 ∷ [])

-- bids 30, 32, 36, 40; effects 10000, 4500, 2025; 1 above 2, 2 above 3, 3 above 4
unfoldable pub H : List ℕ
unfolding sheet_of
H = sheet_of (30 ∷ 32 ∷ 36 ∷ 40 ∷ []) (10000 ∷ 4500 ∷ 2025 ∷ []) (on 1 2 2 1 ∷ on 1 3 2 1 ∷ on 1 3 2 2 ∷ on 2 2 3 1 ∷ on 2 3 3 1 ∷ on 2 3 3 2 ∷ on 3 2 4 1 ∷ on 3 3 4 1 ∷ on 3 3 4 2 ∷ [])

-- H with a fourth place, effect 911, and the pairs (i,4,j,1), (i,4,j,2), (i,4,j,3)
unfoldable pub H_longer : List ℕ
unfolding sheet_of
H_longer = sheet_of (30 ∷ 32 ∷ 36 ∷ 40 ∷ []) (10000 ∷ 4500 ∷ 2025 ∷ 911 ∷ []) (on 1 2 2 1 ∷ on 1 3 2 1 ∷ on 1 3 2 2 ∷ on 2 2 3 1 ∷ on 2 3 3 1 ∷ on 2 3 3 2 ∷ on 3 2 4 1 ∷ on 3 3 4 1 ∷ on 3 3 4 2 ∷ on 1 4 2 1 ∷ on 1 4 2 2 ∷ on 1 4 2 3 ∷ on 2 4 3 1 ∷ on 2 4 3 2 ∷ on 2 4 3 3 ∷ on 3 4 4 1 ∷ on 3 4 4 2 ∷ on 3 4 4 3 ∷ [])

-- bids 2, 1; effects 1, 1; (1,0,2,2): only the earlier winner's own condition keeps 2 from place 2
unfoldable pub earlier_winner : List ℕ
unfolding sheet_of
earlier_winner = sheet_of (2 ∷ 1 ∷ []) (1 ∷ 1 ∷ []) (on 1 0 2 2 ∷ [])

-- the same with (2,2,0,0): its own condition keeps 2 from place 2 as well
unfoldable pub earlier_winner_and_own : List ℕ
unfolding sheet_of
earlier_winner_and_own = sheet_of (2 ∷ 1 ∷ []) (1 ∷ 1 ∷ []) (on 1 0 2 2 ∷ on 2 2 0 0 ∷ [])

-- bids 2, 1; effects 1, 1; (1,2,0,0): 1 has place 1, and its own condition would keep it from place 2 too
unfoldable pub placed_and_own : List ℕ
unfolding sheet_of
placed_and_own = sheet_of (2 ∷ 1 ∷ []) (1 ∷ 1 ∷ []) (on 1 2 0 0 ∷ [])

-- bids 5, 3; effect 1: a worth of 2 is below the bid of 1
unfoldable pub overbid : List ℕ
unfolding sheet_of
overbid = sheet_of (5 ∷ 3 ∷ []) (1 ∷ []) ([])

-- the same with (1,1,0,0), which is downward monotonic for one place
unfoldable pub overbid_barred : List ℕ
unfolding sheet_of
overbid_barred = sheet_of (5 ∷ 3 ∷ []) (1 ∷ []) (on 1 1 0 0 ∷ [])

-- as B with (2,1,0,0): 1 has place 1 at what 3 bids, and 2 has place 2
unfoldable pub second_not_first : List ℕ
unfolding sheet_of
second_not_first = sheet_of (60 ∷ 40 ∷ 10 ∷ []) (100 ∷ 90 ∷ 81 ∷ []) (on 2 1 0 0 ∷ [])

-- F in version 2 with tick 3 and bids 3 and 6: "charges 6"
unfoldable pub F_in_ticks : List ℕ
unfolding sheet_in_ticks
F_in_ticks = sheet_in_ticks 3 (3 ∷ 6 ∷ []) (1 ∷ []) ([])

-- tick 5, bids 10, 10, 5; effects 3, 2: a tie, which the lower number wins, and which costs no tick
unfoldable pub tie_in_ticks : List ℕ
unfolding sheet_in_ticks
tie_in_ticks = sheet_in_ticks 5 (10 ∷ 10 ∷ 5 ∷ []) (3 ∷ 2 ∷ []) ([])

-- tick 10, bids 20, 30, 10; effects 3, 2: 2 pays a tick more than the lower-numbered 1 bids, and 1 as much as the higher-numbered 3 bids
unfoldable pub lower_number_in_ticks : List ℕ
unfolding sheet_in_ticks
lower_number_in_ticks = sheet_in_ticks 10 (20 ∷ 30 ∷ 10 ∷ []) (3 ∷ 2 ∷ []) ([])

-- tick 1,000,000,000, above both bids, which are 0; effects 1, 1; (1,1,0,0)
unfoldable pub tick_above_bids : List ℕ
unfolding sheet_in_ticks
tick_above_bids = sheet_in_ticks 1_000_000_000 (0 ∷ 0 ∷ []) (1 ∷ 1 ∷ []) (on 1 1 0 0 ∷ [])

-- H in version 2 with tick 1: its conditions stand in order, and bidder 4 has none
unfoldable pub H_in_order : List ℕ
unfolding sheet_in_ticks
H_in_order = sheet_in_ticks 1 (30 ∷ 32 ∷ 36 ∷ 40 ∷ []) (10000 ∷ 4500 ∷ 2025 ∷ []) (on 1 2 2 1 ∷ on 1 3 2 1 ∷ on 1 3 2 2 ∷ on 2 2 3 1 ∷ on 2 3 3 1 ∷ on 2 3 3 2 ∷ on 3 2 4 1 ∷ on 3 3 4 1 ∷ on 3 3 4 2 ∷ [])

-- tick 1, bids 4, 3, 2, 1; effects 2, 1; conditions of 2 and of 4 alone, each of the four fields deciding once: (2,0,1,1), (2,0,1,2), (2,0,3,1), (2,1,0,0),
-- (4,2,0,0)
unfoldable pub owners_two_and_four : List ℕ
unfolding sheet_in_ticks
owners_two_and_four = sheet_in_ticks 1 (4 ∷ 3 ∷ 2 ∷ 1 ∷ []) (2 ∷ 1 ∷ []) (on 2 0 1 1 ∷ on 2 0 1 2 ∷ on 2 0 3 1 ∷ on 2 1 0 0 ∷ on 4 2 0 0 ∷ [])

-- bids 2, 1; effects 2, 1; (1,2,0,0) twice: in version 2 with tick 1, and in version 1
unfoldable pub equal_neighbours : List ℕ
unfolding sheet_in_ticks
equal_neighbours = sheet_in_ticks 1 (2 ∷ 1 ∷ []) (2 ∷ 1 ∷ []) (on 1 2 0 0 ∷ on 1 2 0 0 ∷ [])

unfoldable pub repeated_in_version_1 : List ℕ
unfolding sheet_of
repeated_in_version_1 = sheet_of (2 ∷ 1 ∷ []) (2 ∷ 1 ∷ []) (on 1 2 0 0 ∷ on 1 2 0 0 ∷ [])

-- the same bidders and places, version 2: one owner's conditions out of order
unfoldable pub own_place_falls : List ℕ
unfolding sheet_in_ticks
own_place_falls = sheet_in_ticks 1 (2 ∷ 1 ∷ []) (2 ∷ 1 ∷ []) (on 1 2 0 0 ∷ on 1 1 0 0 ∷ [])

-- a condition out of order that also breaks 11
unfoldable pub falls_and_names_itself : List ℕ
unfolding sheet_in_ticks
falls_and_names_itself = sheet_in_ticks 1 (2 ∷ 1 ∷ []) (2 ∷ 1 ∷ []) (on 2 1 0 0 ∷ on 1 1 1 1 ∷ [])

-- one out of order before one that breaks 10
unfoldable pub falls_before_a_fault : List ℕ
unfolding sheet_in_ticks
falls_before_a_fault = sheet_in_ticks 1 (2 ∷ 1 ∷ []) (2 ∷ 1 ∷ []) (on 2 1 0 0 ∷ on 1 1 0 0 ∷ on 0 1 0 0 ∷ [])

-- and one that breaks 12 before one out of order
unfoldable pub falls_after_a_fault : List ℕ
unfolding sheet_in_ticks
falls_after_a_fault = sheet_in_ticks 1 (2 ∷ 1 ∷ []) (2 ∷ 1 ∷ []) (on 2 1 1 0 ∷ on 1 1 0 0 ∷ [])

-- F in version 2 with tick 3, where the last bid is no multiple
unfoldable pub F_off_tick : List ℕ
unfolding sheet_in_ticks
F_off_tick = sheet_in_ticks 3 (3 ∷ 7 ∷ []) (1 ∷ []) ([])

-- tick 3, where the first bid is no multiple and the last, which is one, is too high: 9 goes over all bids before 27
unfoldable pub too_high_and_off_tick : List ℕ
unfolding sheet_in_ticks
too_high_and_off_tick = sheet_in_ticks 3 (4 ∷ 1_000_000_002 ∷ []) (1 ∷ []) ([])

-- F in version 2 with tick 0, and a byte too many
unfoldable pub F_tick_0 : List ℕ
unfolding sheet_in_ticks
F_tick_0 = sheet_in_ticks 0 (3 ∷ 6 ∷ []) (1 ∷ []) ([]) ++ (0 ∷ [])

-- the first 12 bytes of F in version 2
unfoldable pub F_twelve_bytes : List ℕ
F_twelve_bytes = 0x50 ∷ 0x41 ∷ 0x53 ∷ 2 ∷ 0 ∷ 2 ∷ 1 ∷ 0 ∷ 0 ∷ 3 ∷ 0 ∷ 0 ∷ []

-- F with version 2 in its header, and no tick: four bytes are missing
unfoldable pub F_without_tick : List ℕ
F_without_tick = 0x50 ∷ 0x41 ∷ 0x53 ∷ 2 ∷ 0 ∷ 2 ∷ 1 ∷ 0 ∷ 0 ∷ 1 ∷ 0 ∷ 0 ∷ 0 ∷ 5 ∷ 0 ∷ 0 ∷ 0 ∷ 6 ∷ 0 ∷ 0 ∷ 0 ∷ []

-- F with version 3 in its header
unfoldable pub F_version_3 : List ℕ
F_version_3 = 0x50 ∷ 0x41 ∷ 0x53 ∷ 3 ∷ 0 ∷ 2 ∷ 1 ∷ 0 ∷ 0 ∷ 1 ∷ 0 ∷ 0 ∷ 0 ∷ 5 ∷ 0 ∷ 0 ∷ 0 ∷ 6 ∷ 0 ∷ 0 ∷ 0 ∷ []

-- the first 8 bytes of F
unfoldable pub F_eight_bytes : List ℕ
F_eight_bytes = 0x50 ∷ 0x41 ∷ 0x53 ∷ 1 ∷ 0 ∷ 2 ∷ 1 ∷ 0 ∷ []

-- bids 9, 8, .., 1; effect 1: one bidder too many for the best page
unfoldable pub nine_bidders : List ℕ
unfolding sheet_of
nine_bidders = sheet_of (9 ∷ 8 ∷ 7 ∷ 6 ∷ 5 ∷ 4 ∷ 3 ∷ 2 ∷ 1 ∷ []) (1 ∷ []) ([])

-- three bidders, two places, (1,0,2,0), which breaks 12, and then (0,1,0,0), which breaks 10: the first faulty condition decides
unfoldable pub two_faults : List ℕ
unfolding sheet_of
two_faults = sheet_of (3 ∷ 2 ∷ 1 ∷ []) (2 ∷ 1 ∷ []) (on 1 0 2 0 ∷ on 0 1 0 0 ∷ [])

-- H's round in another shape: version 1, its conditions in disorder, two of them twice
unfoldable pub H_shuffled : List ℕ
unfolding sheet_of
H_shuffled = sheet_of (30 ∷ 32 ∷ 36 ∷ 40 ∷ []) (10000 ∷ 4500 ∷ 2025 ∷ []) (on 3 3 4 2 ∷ on 1 3 2 2 ∷ on 2 2 3 1 ∷ on 1 2 2 1 ∷ on 3 3 4 1 ∷ on 2 2 3 1 ∷ on 2 3 3 2 ∷ on 1 3 2 1 ∷ on 3 2 4 1 ∷ on 2 3 3 1 ∷ on 1 3 2 2 ∷ [])

-- the round of `owners_two_and_four` in version 1, from the last condition to the first
unfoldable pub owners_four_and_two : List ℕ
unfolding sheet_of
owners_four_and_two = sheet_of (4 ∷ 3 ∷ 2 ∷ 1 ∷ []) (2 ∷ 1 ∷ []) (on 4 2 0 0 ∷ on 2 1 0 0 ∷ on 2 0 3 1 ∷ on 2 0 1 2 ∷ on 2 0 1 1 ∷ [])

-- the round of `repeated_in_version_1` in version 2
unfoldable pub repeat_dropped : List ℕ
unfolding sheet_in_ticks
repeat_dropped = sheet_in_ticks 1 (2 ∷ 1 ∷ []) (2 ∷ 1 ∷ []) (on 1 2 0 0 ∷ [])

-- F in version 2, byte for byte
unfoldable pub F_written : List ℕ
F_written = 0x50 ∷ 0x41 ∷ 0x53 ∷ 2 ∷ 0 ∷ 2 ∷ 1 ∷ 0 ∷ 0 ∷ 1 ∷ 0 ∷ 0 ∷ 0 ∷ 1 ∷ 0 ∷ 0 ∷ 0 ∷ 5 ∷ 0 ∷ 0 ∷ 0 ∷ 6 ∷ 0 ∷ 0 ∷ 0 ∷ []

-- H with a fourth place, effect 911, and no more conditions: 3 can take place 4
unfoldable pub H_pairs_of_three_places : List ℕ
unfolding sheet_of
H_pairs_of_three_places = sheet_of (30 ∷ 32 ∷ 36 ∷ 40 ∷ []) (10000 ∷ 4500 ∷ 2025 ∷ 911 ∷ []) (on 1 2 2 1 ∷ on 1 3 2 1 ∷ on 1 3 2 2 ∷ on 2 2 3 1 ∷ on 2 3 3 1 ∷ on 2 3 3 2 ∷ on 3 2 4 1 ∷ on 3 3 4 1 ∷ on 3 3 4 2 ∷ [])

-- H without (1,3,2,2): 1 can take place 3 below 2 at place 2
unfoldable pub H_pair_missing : List ℕ
unfolding sheet_of
H_pair_missing = sheet_of (30 ∷ 32 ∷ 36 ∷ 40 ∷ []) (10000 ∷ 4500 ∷ 2025 ∷ []) (on 1 2 2 1 ∷ on 1 3 2 1 ∷ on 2 2 3 1 ∷ on 2 3 3 1 ∷ on 2 3 3 2 ∷ on 3 2 4 1 ∷ on 3 3 4 1 ∷ on 3 3 4 2 ∷ [])

-- H without (3,3,4,1), and with (3,2,4,1) twice: as many conditions as H, of each owner too, and 3 can take place 3 below 4 at place 1
unfoldable pub H_pair_missing_one_twice : List ℕ
unfolding sheet_of
H_pair_missing_one_twice = sheet_of (30 ∷ 32 ∷ 36 ∷ 40 ∷ []) (10000 ∷ 4500 ∷ 2025 ∷ []) (on 1 2 2 1 ∷ on 1 3 2 1 ∷ on 1 3 2 2 ∷ on 2 2 3 1 ∷ on 2 3 3 1 ∷ on 2 3 3 2 ∷ on 3 2 4 1 ∷ on 3 2 4 1 ∷ on 3 3 4 2 ∷ [])

-- H in version 2 with tick 1, its first two conditions in falling order
unfoldable pub H_out_of_order : List ℕ
unfolding sheet_in_ticks
H_out_of_order = sheet_in_ticks 1 (30 ∷ 32 ∷ 36 ∷ 40 ∷ []) (10000 ∷ 4500 ∷ 2025 ∷ []) (on 1 3 2 1 ∷ on 1 2 2 1 ∷ on 1 3 2 2 ∷ on 2 2 3 1 ∷ on 2 3 3 1 ∷ on 2 3 3 2 ∷ on 3 2 4 1 ∷ on 3 3 4 1 ∷ on 3 3 4 2 ∷ [])

-- bids 2, 1; effects 1, 1; (1,1,2,2), in which the rival stands below the owner
unfoldable pub rival_below : List ℕ
unfolding sheet_of
rival_below = sheet_of (2 ∷ 1 ∷ []) (1 ∷ 1 ∷ []) (on 1 1 2 2 ∷ [])

-- the same with the pair in which it stands above as well
unfoldable pub rival_above_and_below : List ℕ
unfolding sheet_of
rival_above_and_below = sheet_of (2 ∷ 1 ∷ []) (1 ∷ 1 ∷ []) (on 1 1 2 2 ∷ on 1 2 2 1 ∷ [])

-- bids 2, 1; effects 1, 1; (1,2,2,2), a pair of one place, which is never broken
unfoldable pub same_place : List ℕ
unfolding sheet_of
same_place = sheet_of (2 ∷ 1 ∷ []) (1 ∷ 1 ∷ []) (on 1 2 2 2 ∷ [])

-- the same with the pair in which the rival stands above
unfoldable pub same_place_and_above : List ℕ
unfolding sheet_of
same_place_and_above = sheet_of (2 ∷ 1 ∷ []) (1 ∷ 1 ∷ []) (on 1 2 2 1 ∷ on 1 2 2 2 ∷ [])

-- and that pair with (1,0,2,1), which has no own place
unfoldable pub any_place_and_above : List ℕ
unfolding sheet_of
any_place_and_above = sheet_of (2 ∷ 1 ∷ []) (1 ∷ 1 ∷ []) (on 1 0 2 1 ∷ on 1 2 2 1 ∷ [])

-- bids 3, 4, 2, 1; effects 1, 1; 1 above 2, 3 and 4
unfoldable pub names_three : List ℕ
unfolding sheet_of
names_three = sheet_of (3 ∷ 4 ∷ 2 ∷ 1 ∷ []) (1 ∷ 1 ∷ []) (on 1 2 2 1 ∷ on 1 2 3 1 ∷ on 1 2 4 1 ∷ [])

-- bids 4, 3, 2, 1; effects 1, 1; 2, 3 and 4 above 1
unfoldable pub named_by_three : List ℕ
unfolding sheet_of
named_by_three = sheet_of (4 ∷ 3 ∷ 2 ∷ 1 ∷ []) (1 ∷ 1 ∷ []) (on 2 2 1 1 ∷ on 3 2 1 1 ∷ on 4 2 1 1 ∷ [])

-- tick 1, bids 2, 4, 3, 1; effects 1, 1; 1 above 2, 2 above 1, 3 above 2, 4 above 3: 2 is named twice, 1 and 3 once, and 4 not at all
unfoldable pub named_unevenly : List ℕ
unfolding sheet_in_ticks
named_unevenly = sheet_in_ticks 1 (2 ∷ 4 ∷ 3 ∷ 1 ∷ []) (1 ∷ 1 ∷ []) (on 1 2 2 1 ∷ on 2 2 1 1 ∷ on 3 2 2 1 ∷ on 4 2 3 1 ∷ [])

-- bids 100, 101; effects 1, 1; 1 above 2
unfoldable pub nearly_twice : List ℕ
unfolding sheet_of
nearly_twice = sheet_of (100 ∷ 101 ∷ []) (1 ∷ 1 ∷ []) (on 1 2 2 1 ∷ [])

-- d + 1 bidders and places, all bids and effects 1, and each of bidders 2 to d + 1 above 1, by the conditions that the profile writes for it: 1 takes place 1 by
-- its number, and then nobody else has a place; with 1 last, all have one
unfoldable pub all_above_first : (d : ℕ) → List ℕ
unfolding sheet_of
all_above_first d =
    sheet_of (replicate (suc d) 1) (replicate (suc d) 1) (joined (λ i. above_terms_of (suc d) (suc d) (suc (suc i)) (1 ∷ [])) d)
