-- The three demands, and what the requests of document 02 that have landed add. Assumes nothing.
use Prim.Native.Nat.{ℕ}
use mathlib.Core.Path.{◌≡◌, sym, ◌∙◌}
use native.Mathlib.Omega.{arith}
use lib.ListN.{length}
use Rattle.basis.specs.First.{unless_refused}
use Rattle.basis.proofs.FirstLaws.{refused_leaves, answered-gives}
use Rattle.sheet.specs.Refusal.{refusal_of}
use Rattle.sheet.specs.Round.{round_of, with_floors}
use Rattle.sheet.proofs.RoundLaws.{no_floor}
use Rattle.auction.specs.Allowed.{total}
use Rattle.auction.proofs.BrokenLaws.{eligible-sentence}
use Rattle.play.specs.Play.{play_refusal, play_floors_refusal, played_buffer}
use Rattle.downward.specs.Downward.{downward}
use Rattle.downward.specs.Call.{test_refusal}
use Rattle.gain.specs.Gain.{gain_of}
use Rattle.gain.specs.Call.{gain_refusal, gain_floors_refusal}
use Rattle.best_page.specs.BestPage.{best_page_of}
use Rattle.best_search.specs.Call.{best_refusal, best_floors_refusal, best_buffer}
use Rattle.owner_part.specs.OwnerPart.{part_refusal, bytes_before, part_length}
use Rattle.canonical.specs.Canonical.{canonical_sheet, canonical_refusal, canonical_buffer}
use Rattle.slot_terms.specs.SlotTerms.{slot_terms_of, slot_terms_refusal, conditions_buffer}
use Rattle.pas.specs.Calls.{yes_number}
use Rattle.demands.specs.Demands.{Owed, DemandOne, DemandTwo, DemandThree, RequestOne, RequestTwo, RequestThree, RequestFour, RequestFive, RequestSix, RequestSeven, RequestEight}
use Rattle.demands.proofs.FloorsLaws.{
  play_without,
  gain_without,
  best_without,
  floors_are,
  eligible_only,
  played-with,
  played-without,
  floor_counted,
  alone,
  best-with,
  best_plain,
  allowed_without,
  sheet_first,
  thirty,
  thirty_one,
  play_then,
  gain_then,
  best_then,
}
use Rattle.demands.proofs.HonestLaws.{honest-with, honest_demand}
use Rattle.demands.proofs.AnswerLaws.{answered-in_order}
use Rattle.demands.proofs.TickLaws.{request_four-holds}
use Rattle.demands.proofs.OwnerOrderLaws.{request_five-holds}
use Rattle.demands.proofs.CanonicalLaws.{request_six_holds}
use Rattle.demands.proofs.SlotTermsLaws.{request_one_holds}
use Rattle.above_terms.specs.AboveTerms.{above_terms_of, above_terms_refusal}
use Rattle.share_page.specs.SharePage.{can_share, order_buffer, share_refusal}
use Rattle.loss_bound.specs.LossBound.{loss_factor}
use Rattle.above_terms.proofs.RefusalLaws.{four, five, sixteen}
use Rattle.demands.proofs.AboveTermsLaws.{
  above-written,
  above-many,
  same-terms,
  above-twenty_three,
  above-twenty_four,
  above-twenty_five,
  above-nineteen,
  above-answered,
  above-enough,
}
use Rattle.demands.proofs.SameSetsLaws.{same_members, same_rivals, read-lent}
use Rattle.demands.proofs.ShareLaws.{
  sharing_call,
  shared_right,
  first_places,
  no_page,
  all_written,
  share_four,
  share_five,
  members_wrong,
  not_sets,
  sets_wrong,
  share_twenty_four,
  share_nineteen,
  share_answered,
  share_enough,
}
use Rattle.demands.proofs.LossLaws.{sentence, sharper, written, told, each_written, factor_is, one_place, bound, best-below}
use Rattle.demands.proofs.SharpLaws.{sharp}

-- what stands in lent memory is what stood there, or the result
owed : {A : Type 0} (number first : ℕ) (given before after : A) → number ≡ first → after ≡ unless_refused first given before →
    Owed number first (after ≡ before) (after ≡ given)
owed number first given before after e w =
    record {
      first_number = e;
      refused = λ h. w ∙ sym (refused_leaves first number given before e h);
      answered = λ z. w ∙ sym (answered-gives first given before (sym e ∙ z));
    }

-- two of them
owed_two : {A B : Type 0} (number first : ℕ) (given before after : A) (given' before' after' : B) → number ≡ first →
    after ≡ unless_refused first given before → after' ≡ unless_refused first given' before' →
    Owed number first ((after ≡ before) × (after' ≡ before')) ((after ≡ given) × (after' ≡ given'))
owed_two number first given before after given' before' after' e w w' =
    let one = owed number first given before after e w in
    let other = owed number first given' before' after' e w' in
    record {
      first_number = e;
      refused = λ h. (one.refused h, other.refused h);
      answered = λ z. (one.answered z, other.answered z);
    }

-- Demand 1: each contract's equations, read by the two cases.
pub demand_one : DemandOne
demand_one =
    record {
      check = λ s number e. record { first_number = e; refused = λ h. tt; answered = λ z. sym e ∙ z };
      play = λ s out out' number g. owed number (play_refusal s out) (played_buffer (round_of s) out) out out' g.number g.buffer;
      downward = λ s i before number after g. owed number (test_refusal s i) (yes_number (downward (round_of s) i)) before after g.number g.written;
      gain = λ s t i worth before number after g.
          owed number (gain_refusal s t i worth) (gain_of (round_of s) (round_of t) i worth) before after g.number g.written;
      best = λ s out out' before number after g.
          owed_two number (best_refusal s out) (best_buffer (round_of s) out) out out' (total (round_of s) (best_page_of (round_of s))) before after
          g.number g.buffer g.written;
      owner_part_call = λ s i start size number start' size' g.
          owed_two number (part_refusal s i) (bytes_before s i) start start' (part_length s i) size size' g.number g.starts g.sized;
      play_floors = λ f s out out' number g.
          owed number (play_floors_refusal f s out) (played_buffer (with_floors (round_of s) f) out) out out' g.number g.buffer;
      gain_floors = λ f s t i worth before number after g.
          owed number (gain_floors_refusal f s t i worth) (gain_of (with_floors (round_of s) f) (round_of t) i worth) before after g.number g.written;
      best_floors = λ f s out out' before number after g.
          let r = with_floors (round_of s) f in
          owed_two number (best_floors_refusal f s out) (best_buffer r out) out out' (total r (best_page_of r)) before after g.number g.buffer g.written;
      canonical = λ s out out' before number after g.
          owed_two number (canonical_refusal s out) (canonical_buffer s out) out out' (length (canonical_sheet s)) before after
          g.number g.buffer g.written;
      slot_terms_call = λ n m owner limit bars out out' before number after g.
          let qs = slot_terms_of n m owner limit bars in
          owed_two number (slot_terms_refusal n m owner limit bars out) (conditions_buffer qs out) out out' (length qs) before after
          g.number g.buffer g.written;
      above_terms_call = λ n m owner rivals out out' before number after g.
          let qs = above_terms_of n m owner rivals in
          owed_two number (above_terms_refusal n m owner rivals out) (conditions_buffer qs out) out out' (length qs) before after
          g.number g.buffer g.written;
      share_page_call = λ n m members sets out out' before number after g.
          owed_two number (share_refusal n m members sets out) (order_buffer n m members sets out) out out' (yes_number (can_share n m members sets)) before after
          g.number g.buffer g.written;
    }

-- Demand 2: the result's page and prices, and the best page, with floors of 0.
pub demand_two : DemandTwo
demand_two =
    record {
      play = played-without;
      best = best_plain;
    }

-- Demand 3: from the theorem over what the calls return.
pub demand_three : DemandThree
demand_three = honest_demand

-- Request S-3: the number of an answer says which tests pass and which fails.
pub request_three : RequestThree
request_three =
    record {
      step = answered-in_order;
      sentence = λ s p k b. eligible-sentence (round_of s) p k b (let e = no_floor s k in omega arith);
    }

-- Request S-4: the tick, in the facts of acceptance and in the refusals of the gain call.
pub request_four : RequestFour
request_four = request_four-holds

-- Request S-5: the order of the conditions in version 2, and one bidder's part.
pub request_five : RequestFive
request_five = request_five-holds

-- Request S-6: one sheet for one round.
pub request_six : RequestSix
request_six = request_six_holds

-- Request S-7: a floor under each place.
pub request_seven : RequestSeven
request_seven =
    record {
      play_without = play_without;
      gain_without = gain_without;
      best_without = best_without;
      floors_are = floors_are;
      without_floors = no_floor;
      eligible_only = eligible_only;
      play = played-with;
      floor_counted = floor_counted;
      alone = alone;
      best = best-with;
      allowed_without = allowed_without;
      honest = honest-with;
      sheet_first = sheet_first;
      thirty = thirty;
      thirty_one = thirty_one;
      play_then = λ f s out right. play_then f s right out;
      gain_then = λ f s t i worth right. gain_then f s right t i worth;
      best_then = λ f s out right. best_then f s right out;
    }

-- Request S-1: an owner's conditions by its limit and the bars.
pub request_one : RequestOne
request_one = request_one_holds

-- Request S-2: an owner's conditions by its rivals, and who could share a page.
pub request_two : RequestTwo
request_two =
    record {
      written = above-written;
      many = above-many;
      same_set = same-terms;
      same_members = same_members;
      same_rivals = same_rivals;
      read = read-lent;
      sharing_call = sharing_call;
      shared = shared_right;
      all_written = all_written;
      on_first_places = first_places;
      on_no_page = no_page;
      four = four;
      five = five;
      sixteen = sixteen;
      twenty_three = above-twenty_three;
      twenty_four = above-twenty_four;
      twenty_five = λ n m owner rivals out fit. above-twenty_five n m owner rivals out fit;
      nineteen = λ n m owner rivals out fit. above-nineteen n m owner rivals out fit;
      answered = λ n m owner rivals out fit. above-answered n m owner rivals out fit;
      enough = λ n m owner rivals out fit. above-enough n m owner rivals out fit;
      share_four = share_four;
      share_five = share_five;
      members_wrong = members_wrong;
      not_sets = not_sets;
      sets_wrong = sets_wrong;
      share_twenty_four = share_twenty_four;
      share_nineteen = λ n m members sets out fit.
          share_nineteen n m members sets out fit.some_bidders fit.most_bidders fit.some_slots fit.most_slots
          fit.numbered fit.lent fit.each_numbered fit.not_itself;
      share_answered = λ n m members sets out fit.
          share_answered n m members sets out fit.some_bidders fit.most_bidders fit.some_slots fit.most_slots
          fit.numbered fit.lent fit.each_numbered fit.not_itself;
      share_enough = λ n m members sets out fit.
          share_enough n m members sets out fit.some_bidders fit.most_bidders fit.some_slots fit.most_slots
          fit.numbered fit.lent fit.each_numbered fit.not_itself;
    }

-- Request S-8: how far below the best the played page can be.
pub request_eight : RequestEight
request_eight =
    record {
      sentence = sentence;
      sharper = sharper;
      written = written;
      told = told;
      each_written = each_written;
      factor = factor_is;
      one_place = one_place;
      bound = bound;
      best = best-below;
      loss_bound_call = λ s before number after g. owed number (refusal_of s) (loss_factor s) before after g.number g.written;
      sharp = sharp;
    }
