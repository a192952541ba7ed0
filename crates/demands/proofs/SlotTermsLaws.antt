-- Request S-1: what the call has written is the list of the terms, so its conditions are known by the laws of that list. Assumes nothing.
use Prim.Native.Nat.{ℕ, ◌*◌, ◌<◌, ◌≤◌}
use borrow.Author.Tests.{ltb-true, ltb-false}
use mathlib.Core.Bool.{true, false}
use mathlib.Core.List.{List}
use mathlib.Core.Logic.{◌⊎◌, ⊎_elim}
use mathlib.Core.Path.{◌≡◌, sym, ◌∙◌}
use native.Mathlib.Omega.{arith}
use lib.Dec.{ltb}
use lib.ListN.{length}
use Rattle.basis.proofs.FirstLaws.{answered-gives}
use Rattle.basis.proofs.TestLaws.{holds_or_fails}
use Rattle.sheet.specs.Encoded.{Condition}
use Rattle.slot_terms.specs.SlotTerms.{ByLimit, ByBar, slot_terms_of, slot_terms_refusal, conditions_buffer, TermsFit}
use Rattle.slot_terms.proofs.RefusalLaws.{four, five, sixteen, twenty, twenty_one, twenty_two, nineteen, answered, passed-all}
use Rattle.slot_terms.proofs.TermsLaws.{terms_where, terms-there, terms-lower, terms-rising, terms-pass, bars-few}
use Rattle.slot_terms.proofs.WriteLaws.{terms-count}
use Rattle.pas.specs.Calls.{SlotTermsGiven}
use Rattle.demands.specs.Demands.{ListWritten, RequestOne}
use Rattle.demands.proofs.ListLaws.{list_written}

-- the conditions are at most 1,023
terms-few : (n m owner limit : ℕ) (bars : List ℕ) → TermsFit n m owner limit bars → length (slot_terms_of n m owner limit bars) ≤ 1_023
terms-few n m owner limit bars fit =
    let fits = fit.owner_fits in
    let sum =
    bars-few n m owner limit bars fits.most_bidders fits.most_slots fit.none_above
    fits.some_owner fits.most_owner fit.none_against in
    let size = terms-count n m owner limit bars in
    let bidders = fits.most_bidders in
    let slots = fits.most_slots in
    let some = fit.some_limit in
    omega arith

-- What the call has written.
module _ (n m owner limit : ℕ) (bars out out' : List ℕ) (before count : ℕ) (given : SlotTermsGiven n m owner limit bars out before 0 out' count) where
  abbrev terms : List Condition
  terms = slot_terms_of n m owner limit bars

  passes : TermsFit n m owner limit bars × (4 * length terms ≤ length out)
  passes = passed-all n m owner limit bars out (sym given.number)

  many : count ≡ length terms
  many = given.written ∙ sym (answered-gives (slot_terms_refusal n m owner limit bars out) (length terms) before (sym given.number))

  written_right : ListWritten n m owner (λ q. ByLimit m limit q ⊎ ByBar n bars q) out out' count
  written_right =
      let fit = passes.0 in
      let fits = fit.owner_fits in
      list_written n m owner (λ q. ByLimit m limit q ⊎ ByBar n bars q) terms fits
      (terms_where n m owner limit bars) (terms-there n m owner limit bars) (terms-lower n m owner limit bars)
      (terms-rising n m owner limit bars fits.most_bidders fits.most_slots fit.none_above)
      (terms-pass n m owner limit bars fits.most_bidders fits.most_slots fit.none_above fits.some_owner fits.most_owner fit.none_against)
      out out' count
      (given.buffer ∙ sym (answered-gives (slot_terms_refusal n m owner limit bars out) (conditions_buffer terms out) out (sym given.number)))
      many passes.1

  -- any other buffer with room for as many is enough
  has_room : (buffer : List ℕ) → 4 * count ≤ length buffer → slot_terms_refusal n m owner limit bars buffer ≡ 0
  has_room buffer room = answered n m owner limit bars buffer passes.0 (let c = many in omega arith)

  -- and one that gets 19 has not
  short_of : (buffer : List ℕ) → slot_terms_refusal n m owner limit bars buffer ≡ 19 → length buffer < 4 * count
  short_of buffer e =
      ⊎_elim
      (λ (t : ltb (length buffer) (4 * count) ≡ true). ltb-true (length buffer) (4 * count) t)
      (λ (t : ltb (length buffer) (4 * count) ≡ false).
      absurd (let none = has_room buffer (ltb-false (length buffer) (4 * count) t) in omega arith))
      (holds_or_fails (ltb (length buffer) (4 * count)))

pub request_one_holds : RequestOne
request_one_holds =
    record {
      written = written_right;
      most = λ n m owner limit bars out out' before count given.
          let fit = (passes n m owner limit bars out out' before count given).0 in
          let few = terms-few n m owner limit bars fit in
          let c = many n m owner limit bars out out' before count given in
          omega arith;
      four = four;
      five = five;
      sixteen = sixteen;
      twenty = twenty;
      twenty_one = twenty_one;
      twenty_two = twenty_two;
      answered = λ n m owner limit bars out fit enough. answered n m owner limit bars out fit (let few = terms-few n m owner limit bars fit in omega arith);
      nineteen = λ n m owner limit bars into into' before count given out. (
        short_of n m owner limit bars into into' before count given out,
        λ short.
            nineteen n m owner limit bars out (passes n m owner limit bars into into' before count given).0
            (let c = many n m owner limit bars into into' before count given in omega arith),
      );
      enough = has_room;
    }
