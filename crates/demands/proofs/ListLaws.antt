-- What a call that writes one bidder's list has written, from what is known of the list: which conditions it has, that they rise, pass 10 to 13 and have with
-- each the one below it. A list that is downward monotonic as bytes is so in every sheet that has it as a bidder's. Assumes nothing.
use Prim.Native.Nat.{ℕ, zero, suc, ◌*◌, ◌<◌, ◌≤◌}
use borrow.Author.Tests.{ne_eqb, lt-ltb, le-ltb}
use mathlib.Core.Bool.{true}
use mathlib.Core.List.{List, Memᴰ}
use mathlib.Core.Path.{◌≡◌, refl, sym, ◌∙◌, ap, ap₂, subst}
use native.Mathlib.Omega.{arith}
use lib.ListN.{length, drop, get_or}
use lib.Seq.{drop-append_seam}
use Rattle.basis.proofs.FirstLaws.{or_else_right, answered-gives}
use Rattle.basis.proofs.RisingLaws.{mem-at, at_mem}
use Rattle.sheet.specs.Sheet.{bidder_count, slot_count, constraint_count, owner_field, own_slot_field, other_field, other_slot_field}
use Rattle.sheet.specs.Refusal.{fields_refusal, refusal_of, Accepted}
use Rattle.sheet.specs.Accepted.{number_of}
use Rattle.sheet.specs.declared.Constraint.{Constraint}
use Rattle.sheet.specs.Round.{bidder, kind_of, constraint_field, round_of, SheetHas, Has}
use Rattle.sheet.specs.Encoded.{Condition, on, quads, condition_field, condition_in}
use Rattle.sheet.proofs.AcceptedLaws.{fields_of}
use Rattle.sheet.proofs.OrderLaws.{below-number}
use Rattle.sheet.proofs.RoundLaws.{round_slots, sheet_round, round_sheet}
use Rattle.sheet.proofs.EncodedLaws.{blank_condition, length-quads, read_in, as_constraint, field_constraint}
use Rattle.downward.specs.Downward.{own_slot, one_lower, downward}
use Rattle.downward.proofs.DownwardLaws.{downward_where}
use Rattle.downward.specs.Call.{test_refusal}
use Rattle.slot_terms.specs.SlotTerms.{conditions_buffer, OwnerFits}
use Rattle.pas.specs.Calls.{yes_number, DownwardGiven}
use Rattle.demands.specs.Demands.{Among, DownwardFor, ListSent, Below, ListWritten}
use Rattle.demands.proofs.HonestLaws.{honest_list, honest-without}

-- the own slot of a kind, and the kind one lower, by the numbers that it is written with
own_of : (own other others : ℕ) → own_slot (kind_of own other others) ≡ own
unfolding own_slot kind_of
own_of own zero others = refl
own_of zero (suc other) others = refl
own_of (suc own) (suc other) others = refl

lower_of : (own other others : ℕ) → 0 < own → one_lower (kind_of own other others) ≡ kind_of (suc own) other others
unfolding one_lower kind_of
lower_of own zero others some = refl
lower_of zero (suc other) others some = absurd (omega arith)
lower_of (suc own) (suc other) others some = refl

-- A list that is downward monotonic as bytes, in a sheet that has it as bidder i's.
module _ (s : List ℕ) (i m : ℕ) (bytes : List ℕ) (count : ℕ) (ok : Accepted s) (slots : slot_count s ≡ m)
    (lower : DownwardFor m bytes count) (sent : ListSent s i bytes count) where
  -- a constraint of i's at a slot that is not the last: the sheet has the one below it too
  one_below : (k : ℕ) → k < constraint_count s → owner_field s k ≡ i → 0 < own_slot_field s k → own_slot_field s k < m →
      SheetHas s (record { owner = (constraint_field s k).owner; kind = one_lower (constraint_field s k).kind })
  unfolding condition_field constraint_field as_constraint
  one_below k l mine some less =
      let q = condition_field s k in
      let w = sent.each (on q.owner (suc q.own) q.other q.others) (lower q (sent.no_other k l mine) some less) in (
        w.0,
        w.1,
        field_constraint s w.0
            ∙ ap as_constraint w.2
            ∙ (λ j. record { owner = bidder q.owner; kind = sym (lower_of q.own q.other q.others some) j }),
      )

  below_it : (k : ℕ) → k < constraint_count s → (q : Constraint) → constraint_field s k ≡ q → q.owner.0 ≡ i → 0 < own_slot q.kind → own_slot q.kind < m →
      Has (round_of s) (record { owner = q.owner; kind = one_lower q.kind })
  unfolding constraint_field
  below_it k l q e mine some less =
      let own : own_slot q.kind ≡ own_slot_field s k
      = sym (ap (λ (x : Constraint). own_slot x.kind) e) ∙ own_of (own_slot_field s k) (other_field s k) (other_slot_field s k) in
      sheet_round s ok (record { owner = q.owner; kind = one_lower q.kind })
      (subst (λ (x : Constraint). SheetHas s (record { owner = x.owner; kind = one_lower x.kind })) e
      (one_below k l (ap (λ (x : Constraint). x.owner.0) e ∙ mine) (omega arith) (omega arith)))

  pub downward_sent : downward (round_of s) i ≡ true
  downward_sent =
      downward_where (round_of s) i
      (λ q h mine some less.
      let w = round_sheet s ok q h in
      below_it w.0 w.1 q w.2 mine some (let e = round_slots s in omega arith))

-- the test answers 1 of a list that is downward monotonic
answers_yes : (s : List ℕ) (i before number after : ℕ) → Accepted s → 0 < i → i ≤ bidder_count s → downward (round_of s) i ≡ true →
    DownwardGiven s i before number after → (number ≡ 0) × (after ≡ 1)
unfolding test_refusal yes_number
answers_yes s i before number after ok some most list given =
    let none : test_refusal s i ≡ 0 = or_else_right (refusal_of s) _ ok ∙ simp (ne_eqb i 0 (omega arith), le-ltb (bidder_count s) i most) in (
      given.number ∙ none,
      given.written
          ∙ sym (answered-gives (test_refusal s i) (yes_number (downward (round_of s) i)) before none)
          ∙ ap yes_number list,
    )

-- A list of conditions at the front of a buffer.
module _ (n m owner : ℕ) (Given : Condition → Type 0) (terms : List Condition) (fits : OwnerFits n m owner)
    (where-law : (q : Condition) → Memᴰ q terms → (q.owner ≡ owner) × Given q)
    (there-law : (q : Condition) → (q.owner ≡ owner) × Given q → Memᴰ q terms)
    (lower-law : (q : Condition) → Memᴰ q terms → 0 < q.own → q.own < m → Memᴰ (on q.owner (suc q.own) q.other q.others) terms)
    (rising-law : (j k : ℕ) → j < k → k < length terms → number_of (get_or terms j blank_condition) < number_of (get_or terms k blank_condition))
    (pass-law : (q : Condition) → (q.owner ≡ owner) × Given q → fields_refusal n m q.owner q.own q.other q.others ≡ 0)
    (out out' : List ℕ) (count : ℕ) (stands : out' ≡ conditions_buffer terms out) (many : count ≡ length terms) (room : 4 * length terms ≤ length out) where
  read : (k : ℕ) → k < count → condition_in out' k ≡ get_or terms k blank_condition
  unfolding conditions_buffer
  read k l = ap (λ (o : List ℕ). condition_in o k) stands ∙ read_in terms (drop (4 * length terms) out) k (let e = many in omega arith)

  in_terms : (q : Condition) → Among out' count q → Memᴰ q terms
  in_terms q (k, l, e) = subst (λ (x : Condition). Memᴰ x terms) (sym (read k l) ∙ e) (at_mem terms blank_condition k (let c = many in omega arith))

  terms_in : (q : Condition) → Memᴰ q terms → Among out' count q
  terms_in q here =
      let w = mem-at terms blank_condition q here in
      let inside : w.0 < count = (let c = many in let l = w.1 in omega arith) in
      (w.0, inside, read w.0 inside ∙ w.2)

  passes : (q : Condition) → Among out' count q → fields_refusal n m q.owner q.own q.other q.others ≡ 0
  passes q a = pass-law q (where-law q (in_terms q a))

  -- the fields of each are small
  small : (q : Condition) → Among out' count q → (q.own < 256) × (q.other < 256) × (q.others < 256)
  small q a =
      let fields = fields_of n m q.owner q.own q.other q.others (passes q a) in
      let slots = fits.most_slots in
      let bidders = fits.most_bidders in
      let own = fields.most_own in
      let other = fields.most_other in
      let others = fields.most_others in
      (omega arith, omega arith, omega arith)

  rises : (j k : ℕ) → j < k → k < count → Below (condition_in out' j) (condition_in out' k)
  unfolding number_of
  rises j k l h =
      let p = condition_in out' j in
      let q = condition_in out' k in
      let first = small p (j, (let b : j < count = omega arith in b), refl) in
      let second = small q (k, h, refl) in
      below-number p.owner p.own p.other p.others q.owner q.own q.other q.others
      first.0 first.1 first.2 second.0 second.1 second.2
      ∙ lt-ltb (number_of p) (number_of q)
      (subst (λ (x : Condition). number_of x < number_of q) (sym (read j (omega arith)))
      (subst (λ (y : Condition). number_of (get_or terms j blank_condition) < number_of y) (sym (read k h)) (rising-law j k l (let e = many in omega arith))))

  leaves_later : drop (4 * count) out' ≡ drop (4 * count) out
  unfolding conditions_buffer
  leaves_later =
      let size = length-quads terms in
      ap (λ (c : ℕ). drop (4 * c) out') many
      ∙ ap₂ drop (sym size) stands
      ∙ drop-append_seam (quads terms) (drop (4 * length terms) out)
      ∙ ap (λ (c : ℕ). drop (4 * c) out) (sym many)

  lower_too : DownwardFor m out' count
  lower_too q a some less = terms_in _ (lower-law q (in_terms q a) some less)

  on-sheet : (s : List ℕ) → Accepted s → slot_count s ≡ m → ListSent s owner out' count → downward (round_of s) owner ≡ true
  on-sheet s ok slots sent = downward_sent s owner m out' count ok slots lower_too sent

  pub list_written : ListWritten n m owner Given out out' count
  list_written =
      let some = fits.some_owner in
      let within = fits.most_owner in
      record {
        conditions = λ q. ((λ a. where-law q (in_terms q a)), λ g. terms_in q (there-law q g));
        rising = rises;
        pass = passes;
        room = let c = many in omega arith;
        later = leaves_later;
        downward_for = lower_too;
        downward_on = on-sheet;
        tested = λ s before number after ok bidders slots sent given.
            answers_yes s owner before number after ok some (omega arith) (on-sheet s ok slots sent) given;
        honest = λ honest instead worth ok ok' d bidders slots sent.
            honest-without honest instead owner worth ok ok' d some (omega arith) (on-sheet instead ok' slots sent);
        honest_floors = λ floors honest instead worth floored ok' d bidders slots sent.
            honest_list floors honest instead owner worth floored ok' d some (omega arith) (on-sheet instead ok' slots sent);
      }
