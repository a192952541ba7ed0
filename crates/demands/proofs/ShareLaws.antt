-- Request S-2's sharing: what the answer says of orders, and what it says of the pages of a round whose lists all come from the profile. Assumes nothing.
use Prim.Native.Nat.{ℕ, zero, suc, ◌+◌, ◌<◌, ◌≤◌}
use borrow.Author.Tests.{le-leb, leb-true}
use mathlib.Core.Bool.{Bool, true, false, cond}
use mathlib.Core.List.{List, [], ◌∷◌, ◌++◌}
use mathlib.Core.Logic.{◌⊎◌, inl, inr, ⊎_elim}
use mathlib.Core.Path.{◌≡◌, refl, sym, ◌∙◌, ap, ap₂, subst}
use native.Mathlib.Omega.{arith}
use lib.Dec.{leb}
use lib.ListN.{length, get_or, take, drop, get_or-eq_default}
use lib.Seq.{take-append_seam, drop-append_seam}
use Rattle.basis.specs.Rows.{row}
use Rattle.basis.proofs.FirstLaws.{answered-gives}
use Rattle.basis.proofs.NumberLaws.{below_or_not, same_or_not}
use Rattle.basis.proofs.RowLaws.{length-row, get_d_row}
use Rattle.basis.proofs.TestLaws.{holds_or_fails, not_both, fails, same_tests, and_holds, and_parts}
use Rattle.sheet.specs.declared.Bidder.{Bidder}
use Rattle.sheet.specs.declared.Page.{Page}
use Rattle.sheet.specs.Sheet.{bidder_count, slot_count, constraint_count, owner_field, own_slot_field, other_field, other_slot_field}
use Rattle.sheet.specs.Refusal.{Accepted}
use Rattle.sheet.specs.Round.{bidder, round_of}
use Rattle.sheet.specs.Encoded.{on, condition_field}
use Rattle.sheet.proofs.AcceptedLaws.{accepted-sheet}
use Rattle.sheet.proofs.RoundLaws.{round_bidders, round_slots, sheet_round, round_sheet, no_floor}
use Rattle.sheet.proofs.EncodedLaws.{as_constraint, field_constraint}
use Rattle.auction.specs.Page.{at, placed, Sized}
use Rattle.auction.specs.Broken.{broken, breaks}
use Rattle.auction.specs.Allowed.{PageOf, Allowed}
use Rattle.auction.proofs.PageLaws.{at_zero, placed_at, placed_where}
use Rattle.auction.proofs.BrokenLaws.{breaks-at, none-breaks, pair_where, pair_there}
use Rattle.slot_terms.specs.SlotTerms.{size_refusal}
use Rattle.slot_terms.proofs.RefusalLaws.{size-four, size-five, size_none}
use Rattle.bidder_sets.specs.BidderSets.{in_set, member_count, numbers_wrong, sets_end, rivals_of}
use Rattle.bidder_sets.proofs.NumberedLaws.{wrong_at_lem, numbered_right, in_numbered}
use Rattle.bidder_sets.proofs.LentLaws.{lent_end, exactly_laid}
use Rattle.above_terms.specs.AboveTerms.{RivalAbove}
use Rattle.share_page.specs.SharePage.{
  names,
  without,
  puts_above,
  some_of,
  first_of,
  member_orders,
  can_share,
  order_written,
  order_buffer,
  sets_refusal,
  share_refusal,
  OrderOf,
  FirstOrder,
}
use Rattle.share_page.proofs.GoodLaws.{without-parts, Good, order_good, good_order}
use Rattle.share_page.proofs.SharingLaws.{first-order, order-some, good_many}
use Rattle.share_page.proofs.RefusalLaws as numbers
use Rattle.pas.specs.Calls.{yes_number, AboveTermsGiven, SharePageGiven}
use Rattle.demands.specs.Demands.{Exactly, Numbered, Lent, SharedRight, AllFromProfile, HasAll, HasJust, ListSent}
use Rattle.demands.proofs.AboveTermsLaws.{above-written}

yes-parts : (n m : ℕ) (members sets : List ℕ) → can_share n m members sets ≡ true →
    (member_count n members ≤ m) × (some_of (puts_above (names sets)) (member_orders n members) ≡ true)
unfolding can_share
yes-parts n m members sets t =
    let both = and_parts (leb (member_count n members) m) (some_of (puts_above (names sets)) (member_orders n members)) t in
    (leb-true (member_count n members) m both.0, both.1)

-- What a yes says and writes, where every member is a bidder.
module _ (n m : ℕ) (members sets : List ℕ) (within : (b : ℕ) → in_set members b ≡ true → (0 < b) × (b ≤ n)) where
  -- an order has each member once
  order-many : (l : List ℕ) → OrderOf (names sets) (in_set members) l → length l ≡ member_count n members
  unfolding member_count
  order-many l o = good_many (names sets) n (in_set members) within (in_set members) (λ b h. h) l (order_good (names sets) (in_set members) l o)

  written-first : can_share n m members sets ≡ true → FirstOrder (names sets) (in_set members) (order_written n m members sets)
  unfolding order_written member_count
  written-first t =
      subst (FirstOrder (names sets) (in_set members)) (sym (ap (λ (s : Bool). cond s (first_of (puts_above (names sets)) (member_orders n members)) []) t))
      (first-order (names sets) n (in_set members) within (yes-parts n m members sets t).1)

  written-many : can_share n m members sets ≡ true → length (order_written n m members sets) ≡ member_count n members
  written-many t = order-many (order_written n m members sets) (written-first t).order

  yes_exactly : Exactly (can_share n m members sets ≡ true) ((member_count n members ≤ m) × (l : List ℕ) × OrderOf (names sets) (in_set members) l)
  unfolding can_share member_count
  yes_exactly = (
    (λ t. ((yes-parts n m members sets t).0, order_written n m members sets, (written-first t).order)),
    λ (few, l, o). and_holds (le-leb (member_count n members) m few) (order-some (names sets) n (in_set members) within l o),
  )

pub sharing_call : (n m : ℕ) (members sets : List ℕ) → Numbered n members →
    Exactly (can_share n m members sets ≡ true) ((member_count n members ≤ m) × (l : List ℕ) × OrderOf (names sets) (in_set members) l)
sharing_call n m members sets right = yes_exactly n m members sets (in_numbered n members (numbered_right n members right))

-- A no writes nothing.
written_no : (n m : ℕ) (members sets : List ℕ) → can_share n m members sets ≡ false → order_written n m members sets ≡ []
unfolding order_written
written_no n m members sets t = ap (λ (s : Bool). cond s (first_of (puts_above (names sets)) (member_orders n members)) []) t

-- What is known of a call that is not refused.
module _ (n m : ℕ) (members sets out out' : List ℕ) (before answer : ℕ) (given : SharePageGiven n m members sets out before 0 out' answer) where
  abbrev yes : Bool
  yes = can_share n m members sets

  abbrev bytes : List ℕ
  bytes = order_written n m members sets

  known : (size_refusal n m ≡ 0) × (numbers_wrong n members ≡ false) × (sets_refusal n sets ≡ 0) × (length bytes ≤ length out)
  known = numbers.passed-all n m members sets out (sym given.number)

  within : (b : ℕ) → in_set members b ≡ true → (0 < b) × (b ≤ n)
  within = in_numbered n members known.1

  said : answer ≡ yes_number yes
  said = given.written ∙ sym (answered-gives (share_refusal n m members sets out) (yes_number yes) before (sym given.number))

  left : out' ≡ bytes ++ drop (length bytes) out
  unfolding order_buffer
  left = given.buffer ∙ sym (answered-gives (share_refusal n m members sets out) (order_buffer n m members sets out) out (sym given.number))

  -- 1 is a yes and 0 a no
  said-yes : answer ≡ 1 → yes ≡ true
  unfolding yes_number
  said-yes e =
      ⊎_elim
      (λ (t : yes ≡ true). t)
      (λ (t : yes ≡ false). absurd (let no : yes_number yes ≡ 0 = ap yes_number t in let s = said in omega arith))
      (holds_or_fails yes)

  yes-said : yes ≡ true → answer ≡ 1
  unfolding yes_number
  yes-said t = said ∙ ap yes_number t

  no_said : yes ≡ false → answer ≡ 0
  unfolding yes_number
  no_said t = said ∙ ap yes_number t

  said_no : answer ≡ 0 → yes ≡ false
  said_no e = fails yes (λ t. absurd (let one = yes-said t in omega arith))

  many : answer ≡ 1 → length bytes ≡ member_count n members
  many e = written-many n m members sets within (said-yes e)

  order-there : answer ≡ 1 → take (member_count n members) out' ≡ bytes
  order-there e = ap₂ take (sym (many e)) left ∙ take-append_seam bytes (drop (length bytes) out)

  pub shared_right : SharedRight n m members sets out out' answer
  shared_right =
      let exactly = yes_exactly n m members sets within in
      record {
        yes_or_no = ⊎_elim (λ (t : yes ≡ true). inl (yes-said t)) (λ (t : yes ≡ false). inr (no_said t)) (holds_or_fails yes);
        yes = ((λ e. exactly.0 (said-yes e)), λ o. yes-said (exactly.1 o));
        first = λ e. subst (FirstOrder (names sets) (in_set members)) (sym (order-there e)) (written-first n m members sets within (said-yes e));
        room = λ e. (let size = many e in let enough = known.3 in omega arith);
        later = λ e.
            ap₂ drop (sym (many e)) left ∙ drop-append_seam bytes (drop (length bytes) out) ∙ ap (λ (k : ℕ). drop k out) (many e);
        nothing = λ e. left ∙ ap (λ (l : List ℕ). l ++ drop (length l) out) (written_no n m members sets (said_no e));
      }

-- On a round whose lists all come from the profile.
module _ (s sets : List ℕ) (ok : Accepted s) (all : AllFromProfile s sets) where
  counts : (bidder_count s ≤ 64) × (slot_count s ≤ 16)
  counts = let c = (accepted-sheet s ok).counts in (c.most_bidders, c.most_slots)

  -- a condition of the sheet is that of a rival above
  pair_of : (k : ℕ) → k < constraint_count s → (0 < owner_field s k) × (0 < other_field s k) × (0 < own_slot_field s k)
  unfolding condition_field
  pair_of k l =
      let fields = (accepted-sheet s ok).constraints k l in
      let pair = all.no_other k l in
      let place = pair.1 in
      let above = pair.2 in
      let other : 0 < other_field s k
      = ⊎_elim
      (λ (e : other_field s k ≡ 0). absurd (let none = fields.together e in omega arith))
      (λ (h : other_field s k ≡ 0 → ⊥). omega arith)
      (same_or_not (other_field s k) 0) in
      (fields.some_owner, other, omega arith)

  -- a page on which each stands above every rival of its own breaks nothing,
  above-unbroken : (p : Page) → ((j k : ℕ) → 0 < at p j → 0 < at p k → names sets (at p j) (at p k) ≡ true → j < k) → breaks (round_of s) p ≡ false
  unfolding condition_field
  above-unbroken p above =
      none-breaks (round_of s) p
      (λ q h.
      let w = round_sheet s ok q h in
      let k = w.0 in
      let pair = all.no_other k w.1 in
      let some = pair_of k w.1 in
      fails (broken p q)
      (λ e.
      let both =
      pair_where p (owner_field s k) (own_slot_field s k) (other_field s k) (other_slot_field s k) some.2 some.1
      (ap (broken p) (sym (field_constraint s k) ∙ w.2) ∙ e) in
      let owner = some.0 in
      let other = some.1 in
      let less =
      above (own_slot_field s k) (other_slot_field s k) (let same = both.0 in omega arith) (let same = both.1 in omega arith)
      (ap₂ (λ (a b : ℕ). names sets a b) both.0 both.1 ∙ pair.0) in
      let higher = pair.2 in
      absurd (omega arith)))

  -- and on a page that breaks nothing each stands so
  unbroken-above : (p : Page) → breaks (round_of s) p ≡ false → (j k : ℕ) → 0 < j → 0 < k → j ≤ slot_count s → 0 < at p j → at p j ≤ bidder_count s → 0 < at p k →
      names sets (at p j) (at p k) ≡ true → k < j → ⊥
  unbroken-above p none j k some_j some_k most owner within other named above =
      let q = on (at p j) j (at p k) k in
      let w = all.each q owner within (named, some_k, above, most) in
      let slots = counts.1 in
      not_both
      (breaks-at (round_of s) p (as_constraint q) (sheet_round s ok (as_constraint q) (w.0, w.1, field_constraint s w.0 ∙ ap as_constraint w.2))
      (pair_there p (at p j) j (at p k) k some_j (omega arith) other refl refl))
      none

-- The members of a yes on the first places.
module _ (n m : ℕ) (members sets out out' : List ℕ) (before : ℕ) (given : SharePageGiven n m members sets out before 0 out' 1)
    (s : List ℕ) (ok : Accepted s) (bidders : bidder_count s ≡ n) (slots : slot_count s ≡ m) (all : AllFromProfile s sets) where
  right : SharedRight n m members sets out out' 1
  right = shared_right n m members sets out out' before 1 given

  abbrev order : List ℕ
  order = take (member_count n members) out'

  ordered : OrderOf (names sets) (in_set members) order
  ordered = (right.first refl).order

  is_member : (b : ℕ) → in_set members b ≡ true → (0 < b) × (b ≤ n)
  is_member = within n m members sets out out' before 1 given

  few : length order ≤ m
  few =
      let size = order-many n m members sets is_member order ordered in
      let most = (right.yes.0 refl).0 in
      omega arith

  short : m ≤ 16
  short = let most = (counts s sets ok all).1 in omega arith

  first-page : Page
  first-page = record { bidders = row (λ k. bidder (get_or order k 0)) 16 }

  page-sized : Sized first-page
  unfolding first-page
  page-sized = length-row (λ k. bidder (get_or order k 0)) 16

  at_first : (k : ℕ) → at first-page (suc k) ≡ get_or order k 0
  unfolding first-page at
  at_first k =
      ⊎_elim
      (λ (l : k < 16). ap (λ (b : Bidder). b.0) (get_d_row (λ k. bidder (get_or order k 0)) 16 (bidder 0) k l))
      (λ (l : 16 ≤ k).
      let size = page-sized in
      ap (λ (b : Bidder). b.0) (get_or-eq_default (row (λ k. bidder (get_or order k 0)) 16) (bidder 0) {n = k} (omega arith))
      ∙ sym (get_or-eq_default order 0 {n = k} (let most = few in let low = short in omega arith)))
      (below_or_not k 16)

  -- a filled slot has an index in the order
  filled : (k : ℕ) → 0 < at first-page k → (i : ℕ) × (k ≡ suc i) × (i < length order) × (at first-page k ≡ get_or order i 0)
  filled zero some = absurd (let none = at_zero first-page in omega arith)
  filled (suc i) some =
      ⊎_elim
      (λ (l : i < length order). (i, refl, l, at_first i))
      (λ (l : length order ≤ i). absurd (let none = at_first i ∙ get_or-eq_default order 0 {n = i} l in omega arith))
      (below_or_not i (length order))

  page_of : PageOf (round_of s) first-page
  page_of =
      let m-same = round_slots s in
      let n-same = round_bidders s in
      record {
        sized = page-sized;
        bidders = λ k.
            ⊎_elim
            (λ (none : at first-page k < 1). omega arith)
            (λ (some : 1 ≤ at first-page k).
            let w = filled k some in
            let most = (is_member (get_or order w.0 0) (ordered.members w.0 w.2)).1 in
            let here = w.3 in
            omega arith)
            (below_or_not (at first-page k) 1);
        slots = λ k past.
            ⊎_elim
            (λ (none : at first-page k < 1). omega arith)
            (λ (some : 1 ≤ at first-page k).
            absurd (let w = filled k some in let e = w.1 in let l = w.2 in let most = few in omega arith))
            (below_or_not (at first-page k) 1);
        once = λ j k some same.
            let x : 0 < at first-page j = omega arith in
            let y : 0 < at first-page k = omega arith in
            let v = filled j x in
            let w = filled k y in
            let one = ordered.once v.0 w.0 v.2 w.2 (sym v.3 ∙ same ∙ w.3) in
            let e = v.1 in
            let f = w.1 in
            omega arith;
      }

  just_members : HasJust first-page members
  just_members b some =
      same_tests (placed first-page b) (in_set members b)
      (λ t.
      let w = placed_where first-page b t in
      let here = w.3 in
      let v = filled w.0 (omega arith) in
      subst (λ (x : ℕ). in_set members x ≡ true) (sym v.3 ∙ here) (ordered.members v.0 v.2))
      (λ t.
      let w = ordered.all b t in
      let inside = w.1 in
      placed_at first-page b (suc w.0) (omega arith) (let most = few in let low = short in omega arith) (at_first w.0 ∙ w.2))

  pub first_places : (p : Page) × ((k : ℕ) → at p (suc k) ≡ get_or order k 0) × HasJust p members × Allowed (round_of s) p
  first_places = (
    first-page,
    at_first,
    just_members,
    record {
      page = page_of;
      unbroken =
          above-unbroken s sets ok all first-page
          (λ j k some some' named.
          let v = filled j some in
          let w = filled k some' in
          let less = ordered.above v.0 w.0 v.2 w.2 (ap₂ (λ (a b : ℕ). names sets a b) (sym v.3) (sym w.3) ∙ named) in
          let e = v.1 in
          let f = w.1 in
          omega arith);
      reached = λ k some. (let none = no_floor s k in omega arith);
    },
  )

-- A page that has all the members and breaks nothing.
module _ (n m : ℕ) (members sets : List ℕ) (within : (b : ℕ) → in_set members b ≡ true → (0 < b) × (b ≤ n))
    (other : (i : ℕ) → i < n → names sets (suc i) (suc i) ≡ false)
    (s : List ℕ) (ok : Accepted s) (bidders : bidder_count s ≡ n) (slots : slot_count s ≡ m) (all : AllFromProfile s sets)
    (p : Page) (none : breaks (round_of s) p ≡ false) where
  -- those of a set that stand on slots k + 1 to k + c, from the top
  standing : (ℕ → Bool) → ℕ → ℕ → List ℕ
  standing f k zero = []
  standing f k (suc c) = cond (f (at p (suc k))) (at p (suc k) ∷ standing (without f (at p (suc k))) (suc k) c) (standing f (suc k) c)

  -- each of a set is a member, and stands on one of these slots
  abbrev StandsOn : (ℕ → Bool) → ℕ → ℕ → Type 0
  StandsOn f k c = (b : ℕ) → f b ≡ true → (in_set members b ≡ true) × ((j : ℕ) × (k < j) × (j ≤ k + c) × (at p j ≡ b))

  not_itself : (b : ℕ) → in_set members b ≡ true → names sets b b ≡ false
  not_itself b t = one b (within b t).0 (within b t).1
    where
      one : (b : ℕ) → 0 < b → b ≤ n → names sets b b ≡ false
      one zero some most = absurd (omega arith)
      one (suc i) some most = other i most

  -- who stands on the first of them is named by none of the others
  top_free : (f : ℕ → Bool) (k c : ℕ) → StandsOn f k c → k + c ≤ m → f (at p (suc k)) ≡ true → (j : ℕ) → f j ≡ true → names sets j (at p (suc k)) ≡ false
  top_free f k c on-these most here j t =
      let x = at p (suc k) in
      let w = on-these j t in
      let slot = w.1.0 in
      let low = w.1.1 in
      let high = w.1.2 in
      let stands = w.1.3 in
      let own = within j w.0 in
      let mine = within x (on-these x here).0 in
      fails (names sets j x)
      (λ named.
      ⊎_elim
      (λ (e : slot ≡ suc k).
      not_both (ap₂ (λ (a b : ℕ). names sets a b) (ap (at p) (sym e) ∙ stands) refl ∙ named) (not_itself x (on-these x here).0))
      (λ (d : slot ≡ suc k → ⊥).
      let some = own.0 in
      let within-n = own.1 in
      unbroken-above s sets ok all p none slot (suc k) (omega arith) (omega arith) (omega arith) (omega arith) (omega arith) mine.0
      (ap (λ (a : ℕ). names sets a x) stands ∙ named) (omega arith))
      (same_or_not slot (suc k)))

  -- so these are a good order, no longer than the slots
  abbrev Fits : (ℕ → Bool) → List ℕ → ℕ → Type 0
  Fits f l c = Good (names sets) f l × (length l ≤ c)

  standing_good : (c k : ℕ) (f : ℕ → Bool) → StandsOn f k c → k + c ≤ m → Fits f (standing f k c) c
  unfolding standing
  standing_good zero k f on-these most =
      ((λ b. fails (f b) (λ t. let w = on-these b t in let low = w.1.1 in let high = w.1.2 in absurd (omega arith))), omega arith)
  standing_good (suc c) k f on-these most =
      by_test (f x) refl (λ h. standing_good c (suc k) (without f x) h (omega arith)) (λ h. standing_good c (suc k) f h (omega arith))
    where
      x : ℕ
      x = at p (suc k)

      -- those but the first stand lower
      lower : (b : ℕ) → f b ≡ true → (b ≡ x → ⊥) → (in_set members b ≡ true) × ((j : ℕ) × (suc k < j) × (j ≤ suc k + c) × (at p j ≡ b))
      lower b t d =
          let w = on-these b t in
          let low = w.1.1 in
          let high = w.1.2 in
          let apart : w.1.0 ≡ suc k → ⊥ = (λ z. d (sym w.1.3 ∙ ap (at p) z)) in
          (w.0, (w.1.0, omega arith, omega arith, w.1.3))

      by_test : (t : Bool) → f x ≡ t →
          (StandsOn (without f x) (suc k) c → Fits (without f x) (standing (without f x) (suc k) c) c) →
          (StandsOn f (suc k) c → Fits f (standing f (suc k) c) c) →
          Fits f (cond t (x ∷ standing (without f x) (suc k) c) (standing f (suc k) c)) (suc c)
      by_test true e others same =
          let rest = others (λ b t. let parts = without-parts f x b t in lower b parts.0 parts.1) in
          ((e, top_free f k (suc c) on-these most e, rest.0), (let long = rest.1 in omega arith))
      by_test false e others same =
          let rest = same (λ b t. lower b t (λ z. not_both (ap f (sym z) ∙ t) e)) in
          (rest.0, (let long = rest.1 in omega arith))

  -- so they could share one
  standing_share : PageOf (round_of s) p → HasAll p members → can_share n m members sets ≡ true
  standing_share page has =
      let good =
      standing_good m 0 (in_set members)
      (λ b t.
      let w = placed_where p b (has b t) in
      let here = w.3 in
      let some = (within b t).0 in
      let slot : w.0 ≤ m
      = ⊎_elim
      (λ (l : m < w.0). absurd (let same = round_slots s in let empty = page.slots w.0 (omega arith) in omega arith))
      (λ (l : w.0 ≤ m). l)
      (below_or_not m w.0) in
      let first = w.1 in
      (t, (w.0, first, omega arith, here)))
      (omega arith) in
      let order = standing (in_set members) 0 m in
      let ordered = good_order (names sets) (in_set members) order good.0 in
      let size = order-many n m members sets within order ordered in
      let short = good.1 in
      (yes_exactly n m members sets within).1 (omega arith, order, ordered)

-- No page has the members of a no.
pub no_page : (n m : ℕ) (members sets out out' : List ℕ) (before : ℕ) → SharePageGiven n m members sets out before 0 out' 0 →
    (s : List ℕ) → Accepted s → bidder_count s ≡ n → slot_count s ≡ m → AllFromProfile s sets →
    (p : Page) → PageOf (round_of s) p → breaks (round_of s) p ≡ false → HasAll p members → ⊥
no_page n m members sets out out' before given s ok bidders slots all p page none has =
    let facts = known n m members sets out out' before 0 given in
    not_both
    (standing_share n m members sets (in_numbered n members facts.1) (numbers.sets-known n sets facts.2).2 s ok bidders slots all p none page has)
    (said_no n m members sets out out' before 0 given refl)

-- Lists written by the profile's call with the rival sets are such lists.
pub all_written : (n m : ℕ) (s sets : List ℕ) → Accepted s → bidder_count s ≡ n → slot_count s ≡ m →
    ((i : ℕ) → 0 < i → i ≤ n → (out out' : List ℕ) × (before count : ℕ) × AboveTermsGiven n m i (rivals_of sets i) out before 0 out' count × ListSent s i out' count) →
    AllFromProfile s sets
unfolding condition_field
all_written n m s sets ok bidders slots given =
    record {
      each = λ q some most pair.
          let w = given q.owner some (omega arith) in
          let list = above-written n m q.owner (rivals_of sets q.owner) w.0 w.1 w.2 w.3 w.4 in
          w.5.each q ((list.conditions q).1 (refl, subst (λ (k : ℕ). RivalAbove k (rivals_of sets q.owner) q) slots pair));
      no_other = λ k l.
          let fields = (accepted-sheet s ok).constraints k l in
          let i = owner_field s k in
          let most = fields.most_owner in
          let w = given i fields.some_owner (omega arith) in
          let list = above-written n m i (rivals_of sets i) w.0 w.1 w.2 w.3 w.4 in
          subst (λ (k' : ℕ). RivalAbove k' (rivals_of sets i) (condition_field s k)) (sym slots)
          ((list.conditions (condition_field s k)).0 (w.5.no_other k l refl)).1;
    }

-- The call's numbers.
module _ (n m : ℕ) (members sets out : List ℕ) where
  pub share_four : (n ≡ 0) ⊎ (64 < n) → share_refusal n m members sets out ≡ 4
  share_four bad = numbers.size-first n m members sets out 3 (size-four n m bad)

  pub share_five : 0 < n → n ≤ 64 → (m ≡ 0) ⊎ (16 < m) → share_refusal n m members sets out ≡ 5
  share_five some most bad = numbers.size-first n m members sets out 4 (size-five n m some most bad)

  module _ (some : 0 < n) (most : n ≤ 64) (some-m : 0 < m) (most-m : m ≤ 16) where
    fits : size_refusal n m ≡ 0
    fits = size_none n m some most some-m most-m

    pub members_wrong : (k : ℕ) → k < length members → (get_or members k 0 ≡ 0) ⊎ (n < get_or members k 0) → share_refusal n m members sets out ≡ 23
    members_wrong k l bad = numbers.members_wrong n m members sets out fits (wrong_at_lem n members k l bad)

    pub not_sets : (Lent n sets (rivals_of sets) → ⊥) → share_refusal n m members sets out ≡ 23
    not_sets h = numbers.sets-twenty_three n m members sets out fits (numbers.sets_not n sets (λ e. h (exactly_laid sets n e)))

    pub sets_wrong : (i : ℕ) → 0 < i → i ≤ n → (k : ℕ) → k < length (rivals_of sets i) →
        (get_or (rivals_of sets i) k 0 ≡ 0) ⊎ (n < get_or (rivals_of sets i) k 0) → share_refusal n m members sets out ≡ 23
    sets_wrong zero first last k l bad = absurd (omega arith)
    sets_wrong (suc i) first last k l bad =
        numbers.sets-twenty_three n m members sets out fits (numbers.sets_wrong n sets i last (wrong_at_lem n (rivals_of sets (suc i)) k l bad))

    module _ (right : Numbered n members) (lent : Lent n sets (rivals_of sets)) (each : (i : ℕ) → 0 < i → i ≤ n → Numbered n (rivals_of sets i)) where
      members_right : numbers_wrong n members ≡ false
      members_right = numbered_right n members right

      ends : sets_end sets n ≡ length sets
      ends = ap (λ (x : List ℕ). sets_end x n) lent ∙ lent_end (rivals_of sets) n ∙ ap length (sym lent)

      numbered : (i : ℕ) → i < n → numbers_wrong n (rivals_of sets (suc i)) ≡ false
      numbered i l = numbered_right n (rivals_of sets (suc i)) (each (suc i) (omega arith) l)

      pub share_twenty_four : (i : ℕ) → 0 < i → i ≤ n → names sets i i ≡ true → share_refusal n m members sets out ≡ 24
      share_twenty_four zero first last own = absurd (omega arith)
      share_twenty_four (suc i) first last own =
          numbers.sets_first n m members sets out fits 23 members_right (numbers.sets-own n sets ends numbered i last own)

      module _ (other : (i : ℕ) → 0 < i → i ≤ n → names sets i i ≡ false) where
        none : sets_refusal n sets ≡ 0
        none = numbers.sets-none n sets ends numbered (λ i l. other (suc i) (omega arith) l)

        yes-many : can_share n m members sets ≡ true → length (order_written n m members sets) ≡ member_count n members
        yes-many = written-many n m members sets (in_numbered n members members_right)

        pub share_nineteen : can_share n m members sets ≡ true → length out < member_count n members → share_refusal n m members sets out ≡ 19
        share_nineteen t short =
            let many = yes-many t in
            numbers.nineteen n m members sets out fits members_right none (omega arith)

        pub share_answered : (can_share n m members sets ≡ false) ⊎ (member_count n members ≤ length out) → share_refusal n m members sets out ≡ 0
        share_answered enough =
            numbers.answered n m members sets out fits members_right none
            (⊎_elim
            (λ (t : can_share n m members sets ≡ true).
            ⊎_elim
            (λ (f : can_share n m members sets ≡ false). absurd (not_both t f))
            (λ (l : member_count n members ≤ length out). let many = yes-many t in omega arith)
            enough)
            (λ (f : can_share n m members sets ≡ false). let nothing = ap length (written_no n m members sets f) in omega arith)
            (holds_or_fails (can_share n m members sets)))

        pub share_enough : m ≤ length out → share_refusal n m members sets out ≡ 0
        share_enough room =
            share_answered
            (⊎_elim
            (λ (t : can_share n m members sets ≡ true). let few = (yes-parts n m members sets t).0 in inr (omega arith))
            (λ (f : can_share n m members sets ≡ false). inl f)
            (holds_or_fails (can_share n m members sets)))
