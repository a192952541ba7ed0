-- Sheets of one round get the same answers: their rounds have the same sets of constraints, with any floors, and page, prices, gains, best page and the
-- downward test see no more of the constraints; the numbers see only n, m and that both sheets are accepted. What is written of both is the same. Assumes
-- nothing.
use Prim.Native.Nat.{ℕ, ◌*◌}
use mathlib.Core.Bool.{not, ◌||◌}
use mathlib.Core.List.{List, ◌++◌}
use mathlib.Core.Path.{◌≡◌, sym, ◌∙◌, ap, subst}
use lib.Dec.{eqb, ltb}
use lib.IntN.{ℤ}
use lib.ListN.{length, drop, replicate}
use Rattle.basis.specs.First.{◌when◌otherwise◌, or_else}
use Rattle.basis.proofs.FirstLaws.{or_else-none}
use Rattle.sheet.specs.declared.Constraint.{Constraint}
use Rattle.sheet.specs.declared.Round.{Round}
use Rattle.sheet.specs.Sheet.{bidder_count, slot_count}
use Rattle.sheet.specs.Refusal.{refusal_of, Accepted}
use Rattle.sheet.specs.Round.{round_of, with_floors, Has}
use Rattle.sheet.specs.Proper.{ProperRound}
use Rattle.sheet.proofs.RoundLaws.{round_slots, sheet_round, round_sheet}
use Rattle.sheet.proofs.FloorLaws.{floors-has, has-floors, SameTerms, same-terms}
use Rattle.floors.specs.Floors.{floors_refusal}
use Rattle.floors.proofs.FloorLaws.{passed_round}
use Rattle.auction.specs.Allowed.{total}
use Rattle.auction.specs.Except.{SameSets}
use Rattle.auction.proofs.ExceptLaws.{total-sets}
use Rattle.play.specs.Play.{room_refusal, play_floors_refusal, played_buffer, Played, PlayedFloors}
use Rattle.play.proofs.PlayLaws.{played-sets}
use Rattle.downward.specs.Downward.{downward}
use Rattle.downward.specs.Call.{test_refusal}
use Rattle.downward.proofs.DownwardLaws.{downward-sets}
use Rattle.gain.specs.Gain.{gain_of}
use Rattle.gain.specs.Call.{later_refusal, gain_floors_refusal}
use Rattle.gain.proofs.SlotLaws.{gain-sets, truth-sets}
use Rattle.best_page.specs.BestPage.{best_page_of}
use Rattle.best_page.proofs.BestPageLaws.{best_page-sets}
use Rattle.best_search.specs.Call.{bounds_refusal, best_floors_refusal, best_buffer}
use Rattle.best_search.proofs.CallLaws.{buffer-same}
use Rattle.canonical.specs.Canonical.{canonical_sheet, canonical_refusal, canonical_buffer, SameRound}
use Rattle.canonical.proofs.WrittenLaws.{same-written}
use Rattle.pas.specs.Calls.{yes_number, DownwardGiven, GainGiven, GainFloorsGiven, BestPageGiven, BestFloorsPageGiven, CanonicalGiven}
use Rattle.demands.specs.Demands.{Exactly, no_floors, SameAnswers}
use Rattle.demands.proofs.FloorsLaws.{left_same, play_without, gain_without, best_without}

-- each call without floors is one with floors: what follows of these follows of those
through : {A A' B B' : Type 0} → Exactly A A' → Exactly B B' → Exactly A' B' → Exactly A B
through left right middle = (λ a. right.1 (middle.0 (left.0 a)), λ b. left.1 (middle.1 (right.0 b)))

module _ (s t : List ℕ) (ok : Accepted s) (ok' : Accepted t) (same : SameRound s t) where
  -- both are accepted, and as many bidders and slots
  refusal_same : refusal_of s ≡ refusal_of t
  refusal_same = ok ∙ sym ok'

  there : (q : Constraint) → Has (round_of s) q → Has (round_of t) q
  there q h = sheet_round t ok' q (same.there q (round_sheet s ok q h))

  back : (q : Constraint) → Has (round_of t) q → Has (round_of s) q
  back q h = sheet_round s ok q (same.back q (round_sheet t ok' q h))

  slots_same : (round_of s).slots ≡ (round_of t).slots
  slots_same = round_slots s ∙ same.same_m ∙ sym (round_slots t)

  -- The calls with floors, on the sheet that is played.
  module _ (f : List ℕ) where
    abbrev r : Round
    r = with_floors (round_of s) f

    abbrev r' : Round
    r' = with_floors (round_of t) f

    terms-same : SameTerms r r'
    terms-same = same-terms f s t same.same_n same.same_m same.same_tick same.same_effects same.same_bids

    sets_same : SameSets r r'
    sets_same =
        record {
          bidders = terms-same.bidders;
          slots = terms-same.slots;
          ticks = terms-same.ticks;
          floors = terms-same.floors;
          bids = terms-same.bids;
          there = λ q h. floors-has (round_of t) f q (there q (has-floors (round_of s) f q h));
          back = λ q h. floors-has (round_of s) f q (back q (has-floors (round_of t) f q h));
        }

    -- floors that a call of no number was given are right for both
    abbrev Unrefused : ℕ → Type 0
    Unrefused rest = or_else (refusal_of s) (or_else (floors_refusal (slot_count s) f) rest) ≡ 0

    right_floors : (rest : ℕ) → Unrefused rest → floors_refusal (slot_count s) f ≡ 0
    right_floors rest z = (or_else-none (floors_refusal (slot_count s) f) rest (or_else-none (refusal_of s) _ z).1).0

    proper : (rest : ℕ) → Unrefused rest → ProperRound r
    proper rest z = passed_round s f ok (right_floors rest z)

    proper' : (rest : ℕ) → Unrefused rest → ProperRound r'
    proper' rest z = passed_round t f ok' (ap (λ (m : ℕ). floors_refusal m f) (sym same.same_m) ∙ right_floors rest z)

    play-number : (out : List ℕ) → play_floors_refusal f s out ≡ play_floors_refusal f t out
    unfolding play_floors_refusal room_refusal
    play-number out = λ x.
        or_else (refusal_same x) (or_else (floors_refusal (same.same_m x) f) (19 when ltb (length out) (5 * same.same_m x) otherwise 0))

    pub play_floors : (out out' : List ℕ) (number : ℕ) → Exactly (PlayedFloors f s out number out') (PlayedFloors f t out number out')
    unfolding play_floors_refusal
    play_floors out out' number =
        let e = play-number out in
        let buffer = left_same (play_floors_refusal f s out) (play_floors_refusal f t out) (played_buffer r out) (played_buffer r' out) out e
        (λ z. played-sets r r' sets_same (proper (room_refusal s out) z) (proper' (room_refusal s out) z) out) in (
          λ g. record { number = g.number ∙ e; buffer = g.buffer ∙ buffer },
          λ g. record { number = g.number ∙ sym e; buffer = g.buffer ∙ sym buffer },
        )

    gain-number : (u : List ℕ) (i v : ℕ) → gain_floors_refusal f s u i v ≡ gain_floors_refusal f t u i v
    unfolding gain_floors_refusal later_refusal
    gain-number u i v = λ x.
        or_else (refusal_same x) (or_else (floors_refusal (same.same_m x) f)
        (14 when not (eqb (refusal_of u) 0) otherwise
        15 when not (eqb (bidder_count u) (same.same_n x)) || not (eqb (slot_count u) (same.same_m x)) otherwise
        16 when eqb i 0 || ltb (same.same_n x) i otherwise
        17 when ltb 1_000_000_000 v otherwise
        0))

    pub gain_floors : (u : List ℕ) (i v : ℕ) (before : ℤ) (number : ℕ) (after : ℤ) →
        Exactly (GainFloorsGiven f s u i v before number after) (GainFloorsGiven f t u i v before number after)
    unfolding gain_floors_refusal
    gain_floors u i v before number after =
        let e = gain-number u i v in
        let written = left_same (gain_floors_refusal f s u i v) (gain_floors_refusal f t u i v) (gain_of r (round_of u) i v) (gain_of r' (round_of u) i v) before e
        (λ z. gain-sets r r' sets_same (proper (later_refusal s u i v) z) (proper' (later_refusal s u i v) z) terms-same.effects (round_of u) i v) in (
          λ g. record { number = g.number ∙ e; written = g.written ∙ written },
          λ g. record { number = g.number ∙ sym e; written = g.written ∙ sym written },
        )

    best-number : (out : List ℕ) → best_floors_refusal f s out ≡ best_floors_refusal f t out
    unfolding best_floors_refusal bounds_refusal
    best-number out = λ x.
        or_else (refusal_same x) (or_else (floors_refusal (same.same_m x) f)
        (18 when ltb 8 (same.same_n x) || ltb 8 (same.same_m x) otherwise
        19 when ltb (length out) (same.same_m x) otherwise
        0))

    pub best_floors : (out out' : List ℕ) (before number after : ℕ) →
        Exactly (BestFloorsPageGiven f s out before number out' after) (BestFloorsPageGiven f t out before number out' after)
    unfolding best_floors_refusal
    best_floors out out' before number after =
        let e = best-number out in
        let page : best_floors_refusal f s out ≡ 0 → best_page_of r ≡ best_page_of r'
        = (λ z. best_page-sets r r' sets_same terms-same.effects (proper (bounds_refusal s out) z) (proper' (bounds_refusal s out) z)) in
        let buffer = left_same (best_floors_refusal f s out) (best_floors_refusal f t out) (best_buffer r out) (best_buffer r' out) out e
        (λ z. buffer-same r r' sets_same.slots (page z) out) in
        let sum = left_same (best_floors_refusal f s out) (best_floors_refusal f t out) (total r (best_page_of r)) (total r' (best_page_of r')) before e
        (λ z. ap (total r) (page z) ∙ total-sets r r' sets_same terms-same.effects (best_page_of r')) in (
          λ g. record { number = g.number ∙ e; buffer = g.buffer ∙ buffer; written = g.written ∙ sum },
          λ g. record { number = g.number ∙ sym e; buffer = g.buffer ∙ sym buffer; written = g.written ∙ sym sum },
        )

    -- and on the sheet that tells the truth
    truth-number : (u : List ℕ) (i v : ℕ) → gain_floors_refusal f u s i v ≡ gain_floors_refusal f u t i v
    unfolding gain_floors_refusal later_refusal
    truth-number u i v = λ x.
        or_else (refusal_of u) (or_else (floors_refusal (slot_count u) f)
        (14 when not (eqb (refusal_same x) 0) otherwise
        15 when not (eqb (same.same_n x) (bidder_count u)) || not (eqb (same.same_m x) (slot_count u)) otherwise
        16 when eqb i 0 || ltb (bidder_count u) i otherwise
        17 when ltb 1_000_000_000 v otherwise
        0))

    pub truth_floors : (u : List ℕ) (i v : ℕ) (before : ℤ) (number : ℕ) (after : ℤ) →
        Exactly (GainFloorsGiven f u s i v before number after) (GainFloorsGiven f u t i v before number after)
    truth_floors u i v before number after =
        let e = truth-number u i v in
        let played = with_floors (round_of u) f in
        let gains = gain_of played in
        let written = left_same (gain_floors_refusal f u s i v) (gain_floors_refusal f u t i v) (gains (round_of s) i v) (gains (round_of t) i v) before e
        (λ z. truth-sets played (round_of s) (round_of t) there back i v) in (
          λ g. record { number = g.number ∙ e; written = g.written ∙ written },
          λ g. record { number = g.number ∙ sym e; written = g.written ∙ sym written },
        )

  -- The downward test.
  test-number : (i : ℕ) → test_refusal s i ≡ test_refusal t i
  unfolding test_refusal
  test-number i = λ x. or_else (refusal_same x) (16 when eqb i 0 || ltb (same.same_n x) i otherwise 0)

  downward-same : (i before number after : ℕ) → Exactly (DownwardGiven s i before number after) (DownwardGiven t i before number after)
  downward-same i before number after =
      let e = test-number i in
      let written = left_same (test_refusal s i) (test_refusal t i) (yes_number (downward (round_of s) i)) (yes_number (downward (round_of t) i)) before e
      (λ z. ap yes_number (downward-sets (round_of s) (round_of t) i slots_same there back)) in (
        λ g. record { number = g.number ∙ e; written = g.written ∙ written },
        λ g. record { number = g.number ∙ sym e; written = g.written ∙ sym written },
      )

  -- The writer.
  sheet-same : canonical_sheet s ≡ canonical_sheet t
  sheet-same = same-written s t ok ok' same

  canonical-number : (out : List ℕ) → canonical_refusal s out ≡ canonical_refusal t out
  unfolding canonical_refusal
  canonical-number out = λ x. or_else (refusal_same x) (19 when ltb (length out) (length (sheet-same x)) otherwise 0)

  canonical-same : (out out' : List ℕ) (before number after : ℕ) → Exactly (CanonicalGiven s out before number out' after) (CanonicalGiven t out before number out' after)
  unfolding canonical_buffer
  canonical-same out out' before number after =
      let e = canonical-number out in
      let buffer = left_same (canonical_refusal s out) (canonical_refusal t out) (canonical_buffer s out) (canonical_buffer t out) out e
      (λ z. ap (λ (w : List ℕ). w ++ drop (length w) out) sheet-same) in
      let size = left_same (canonical_refusal s out) (canonical_refusal t out) (length (canonical_sheet s)) (length (canonical_sheet t)) before e
      (λ z. ap length sheet-same) in (
        λ g. record { number = g.number ∙ e; buffer = g.buffer ∙ buffer; written = g.written ∙ size },
        λ g. record { number = g.number ∙ sym e; buffer = g.buffer ∙ sym buffer; written = g.written ∙ sym size },
      )

  -- Without floors: the sheets have the same floors of 0.
  none-same : (P : List ℕ → Type 0) → P (no_floors t) → P (no_floors s)
  none-same P = subst P (ap (λ (m : ℕ). replicate m 0) (sym same.same_m))

  pub same_round_answers : SameAnswers s t
  same_round_answers =
      record {
        play = λ out out' number.
            through
            (play_without s out out' number)
            (none-same (λ f. Exactly (Played t out number out') (PlayedFloors f t out number out')) (play_without t out out' number))
            (play_floors (no_floors s) out out' number);
        downward = downward-same;
        gain = λ u i v before number after.
            through
            (gain_without s u i v before number after)
            (none-same (λ f. Exactly (GainGiven t u i v before number after) (GainFloorsGiven f t u i v before number after))
            (gain_without t u i v before number after))
            (gain_floors (no_floors s) u i v before number after);
        truth = λ u i v before number after.
            through
            (gain_without u s i v before number after)
            (gain_without u t i v before number after)
            (truth_floors (no_floors u) u i v before number after);
        best = λ out out' before number after.
            through
            (best_without s out out' before number after)
            (none-same (λ f. Exactly (BestPageGiven t out before number out' after) (BestFloorsPageGiven f t out before number out' after))
            (best_without t out out' before number after))
            (best_floors (no_floors s) out out' before number after);
        canonical = canonical-same;
        play_floors = play_floors;
        gain_floors = gain_floors;
        truth_floors = truth_floors;
        best_floors = best_floors;
      }
