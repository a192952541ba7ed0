-- Why counting is enough. The conditions that the profile writes for the rivals that each bidder names, bidder by bidder, rise strictly, and so do the sheet's
-- conditions in order. Where each of these is a pair with the rival above, it is one of those; so the sheet has all of those exactly where it has as many
-- different conditions. And those are, for each rival that a bidder names, as many as there are pairs of slots with one above the other. Assumes nothing.
use Prim.Native.Nat.{ℕ, zero, suc, ◌*◌, ◌<◌, ◌≤◌}
use borrow.Author.Tests.{eq-eqb, eqb-true, ltb-true, lt-ltb}
use mathlib.Core.Bool.{Bool, true, false, not, ◌&&◌, ◌||◌}
use mathlib.Core.List.Memᴰ
use mathlib.Core.List.{List, Memᴰ}
use mathlib.Core.Logic.{⊎_elim}
use mathlib.Core.Path.{◌≡◌, refl, sym, ◌∙◌, ap, subst}
use native.Mathlib.Omega.{arith}
use lib.Dec.{eqb, ltb}
use lib.ListN.{length, get_or}
use Rattle.basis.specs.Counting.{count_to, sum_to}
use Rattle.basis.specs.Rising.{Rising}
use Rattle.basis.specs.Rows.{joined}
use Rattle.basis.specs.Tests.{all_below}
use Rattle.basis.proofs.CountLaws.{count_same}
use Rattle.basis.proofs.RisingLaws.{mem-joined, joined-mem, mem-at, at_mem, rising-lower, rising_higher, rising-joined, rising-within}
use Rattle.basis.proofs.SumLaws.{sum_same, sum_times, sum_turned, joined_long}
use Rattle.basis.proofs.TestLaws.{holds_or_fails, not_both, same_tests, and_holds, and_parts, or_parts, or_left, or_right, not_holds, not_fails, any_at, any_where, all-at, at_all}
use Rattle.sheet.specs.Sheet.{bidder_count, slot_count, constraint_count, owner_field, own_slot_field, other_field, other_slot_field}
use Rattle.sheet.specs.Refusal.{Accepted}
use Rattle.sheet.specs.Accepted.{fields_number, number_of, AcceptedSheet}
use Rattle.sheet.specs.Encoded.{Condition, on, condition_field}
use Rattle.sheet.proofs.AcceptedLaws.{accepted-sheet}
use Rattle.canonical.specs.Canonical.{has_condition, conditions_in_order}
use Rattle.canonical.proofs.OrderedLaws.{has_where, has-at, in_order_where, in_order-has, rises}
use Rattle.bidder_sets.specs.BidderSets.{in_set, member_count}
use Rattle.bidder_sets.specs.EngineSets.{rising_members}
use Rattle.bidder_sets.proofs.MembersLaws.{members_where, members-there}
use Rattle.above_terms.specs.AboveTerms.{above_terms_of}
use Rattle.above_terms.specs.EngineAbove.{slots_above}
use Rattle.above_terms.proofs.AboveLaws.{terms-many}
use Rattle.above_terms.proofs.TermsLaws.{terms_where, terms-there, terms-rise}
use Rattle.loss_bound.specs.LossBound.{names_rival, rival_above, has_all_pairs, from_profile}
use Rattle.loss_bound.specs.EngineNaming.{named_by}
use Rattle.loss_bound.proofs.NamingLaws.{rival_some}

-- the rivals that bidder i names, in rising order
unfoldable pub rivals_named : List ℕ → ℕ → List ℕ
rivals_named s i = rising_members (names_rival s i) (bidder_count s)

-- who is named is one of them
pub named_in : (s : List ℕ) (i j : ℕ) → names_rival s i j ≡ true → 0 < j → j ≤ bidder_count s → in_set (rivals_named s i) j ≡ true
unfolding rivals_named in_set
named_in s i j t some most =
    let list = rising_members (names_rival s i) (bidder_count s) in
    let w = mem-at list 0 j (members-there (names_rival s i) (bidder_count s) j t some most) in
    any_at (λ k. eqb (get_or list k 0) j) (length list) w.0 w.1 (eq-eqb (get_or list w.0 0) j w.2)

pub in_named : (s : List ℕ) (i j : ℕ) → in_set (rivals_named s i) j ≡ true → (names_rival s i j ≡ true) × (0 < j) × (j ≤ bidder_count s)
unfolding rivals_named in_set
in_named s i j t =
    let list = rising_members (names_rival s i) (bidder_count s) in
    let w = any_where (λ k. eqb (get_or list k 0) j) (length list) t in
    members_where (names_rival s i) (bidder_count s) j
    (Memᴰ.cast (sym (eqb-true (get_or list w.0 0) j w.2)) (at_mem list 0 w.0 w.1))

-- the owner of a condition names the other
pub names_at : (s : List ℕ) (k : ℕ) → k < constraint_count s → names_rival s (owner_field s k) (other_field s k) ≡ true
unfolding names_rival
names_at s k l =
    any_at (λ x. eqb (owner_field s x) (owner_field s k) && eqb (other_field s x) (other_field s k)) (constraint_count s) k l
    (and_holds (eq-eqb (owner_field s k) (owner_field s k) refl) (eq-eqb (other_field s k) (other_field s k) refl))

pub names_where : (s : List ℕ) (i j : ℕ) → names_rival s i j ≡ true → (k : ℕ) × (k < constraint_count s) × (owner_field s k ≡ i) × (other_field s k ≡ j)
unfolding names_rival
names_where s i j t =
    let w = any_where (λ x. eqb (owner_field s x) i && eqb (other_field s x) j) (constraint_count s) t in
    let both = and_parts (eqb (owner_field s w.0) i) (eqb (other_field s w.0) j) w.2 in
    (w.0, w.1, eqb-true (owner_field s w.0) i both.0, eqb-true (other_field s w.0) j both.1)

-- a pair with the rival above, by its fields
pub above_fields : (s : List ℕ) (k : ℕ) → rival_above s k ≡ true → (0 < other_slot_field s k) × (other_slot_field s k < own_slot_field s k)
unfolding rival_above
above_fields s k t =
    let both = and_parts (ltb 0 (other_slot_field s k)) (ltb (other_slot_field s k) (own_slot_field s k)) t in
    (ltb-true 0 (other_slot_field s k) both.0, ltb-true (other_slot_field s k) (own_slot_field s k) both.1)

pub fields_above : (s : List ℕ) (k : ℕ) → 0 < other_slot_field s k → other_slot_field s k < own_slot_field s k → rival_above s k ≡ true
unfolding rival_above
fields_above s k some up = and_holds (lt-ltb 0 (other_slot_field s k) some) (lt-ltb (other_slot_field s k) (own_slot_field s k) up)

-- whose condition the sheet is said to have is there
pub has-field : (s : List ℕ) (q : Condition) → (k : ℕ) × (k < constraint_count s) × (condition_field s k ≡ q) → has_condition s q.owner q.own q.other q.others ≡ true
unfolding condition_field
has-field s q (k, l, e) = subst (λ (x : Condition). has_condition s x.owner x.own x.other x.others ≡ true) e (has-at s k l)

-- What the definition says, pair by pair.
abbrev pub AllPairs : List ℕ → Type 0
AllPairs s = (i j k l : ℕ) → names_rival s i j ≡ true → 0 < i → i ≤ bidder_count s → 0 < j → j ≤ bidder_count s → 0 < l → l < k → k ≤ slot_count s → has_condition s i k j l ≡ true

module _ (s : List ℕ) where
  abbrev named-has : ℕ → ℕ → Bool
  named-has i j = not (names_rival s (suc i) (suc j)) || has_all_pairs s (suc i) (suc j)

  pub profile_parts : from_profile s ≡ true → (all_below (rival_above s) (constraint_count s) ≡ true) × AllPairs s
  unfolding from_profile has_all_pairs
  profile_parts t =
      let both = and_parts (all_below (rival_above s) (constraint_count s)) (all_below (λ i. all_below (named-has i) (bidder_count s)) (bidder_count s)) t in
      (both.0, pairs both.1)
    where
      pairs : all_below (λ i. all_below (named-has i) (bidder_count s)) (bidder_count s) ≡ true → AllPairs s
      pairs e zero j k l names a b c d some up most = absurd (omega arith)
      pairs e (suc i) zero k l names a b c d some up most = absurd (omega arith)
      pairs e (suc i) (suc j) zero l names a b c d some up most = absurd (omega arith)
      pairs e (suc i) (suc j) (suc k) zero names a b c d some up most = absurd (omega arith)
      pairs e (suc i) (suc j) (suc k) (suc l) names a b c d some up most =
          let row = all-at (λ i. all_below (named-has i) (bidder_count s)) (bidder_count s) e i b in
          let entry = all-at (named-has i) (bidder_count s) row j d in
          ⊎_elim
          (λ (x : not (names_rival s (suc i) (suc j)) ≡ true). absurd (not_both x (not_fails names)))
          (λ (x : has_all_pairs s (suc i) (suc j) ≡ true).
          all-at (λ l. has_condition s (suc i) (suc k) (suc j) (suc l)) k
          (all-at (λ k. all_below (λ l. has_condition s (suc i) (suc k) (suc j) (suc l)) k) (slot_count s) x k most) l (omega arith))
          (or_parts (not (names_rival s (suc i) (suc j))) (has_all_pairs s (suc i) (suc j)) entry)

  pub parts_profile : all_below (rival_above s) (constraint_count s) ≡ true → AllPairs s → from_profile s ≡ true
  unfolding from_profile has_all_pairs
  parts_profile above all =
      and_holds above
      (at_all (λ i. all_below (named-has i) (bidder_count s)) (bidder_count s)
      (λ i li.
      at_all (named-has i) (bidder_count s)
      (λ j lj.
      ⊎_elim
      (λ (names : names_rival s (suc i) (suc j) ≡ true).
      or_right (not (names_rival s (suc i) (suc j)))
      (at_all (λ k. all_below (λ l. has_condition s (suc i) (suc k) (suc j) (suc l)) k) (slot_count s)
      (λ k lk.
      at_all (λ l. has_condition s (suc i) (suc k) (suc j) (suc l)) k
      (λ l ll. all (suc i) (suc j) (suc k) (suc l) names (omega arith) li (omega arith) lj (omega arith) (omega arith) lk))))
      (λ (none : names_rival s (suc i) (suc j) ≡ false). or_left _ (not_holds none))
      (holds_or_fails (names_rival s (suc i) (suc j))))))

-- What the profile writes for the rivals that each bidder names.
module _ (s : List ℕ) (ok : Accepted s) where
  facts : AcceptedSheet s
  facts = accepted-sheet s ok

  abbrev written_for : ℕ → List Condition
  written_for i = above_terms_of (bidder_count s) (slot_count s) (suc i) (rivals_named s (suc i))

  abbrev all_written_to : List Condition
  all_written_to = joined written_for (bidder_count s)

  written_rises : Rising number_of (fields_number 1 0 0 0) (fields_number (suc (bidder_count s)) 0 0 0) all_written_to
  written_rises =
      let few = facts.counts.most_bidders in
      let short = facts.counts.most_slots in
      rising-joined number_of written_for (λ i. fields_number (suc i) 0 0 0) (bidder_count s)
      (λ i l.
      rising-lower number_of (fields_number (suc i) 1 0 0) (fields_number (suc i) 0 0 0) (fields_number (suc (suc i)) 0 0 0) (written_for i) (omega arith)
      (rising_higher number_of (fields_number (suc i) 1 0 0) (fields_number (suc i) (suc (slot_count s)) 0 0) (fields_number (suc (suc i)) 0 0 0) (written_for i) (omega arith)
      (terms-rise (bidder_count s) (slot_count s) (suc i) (rivals_named s (suc i)) few short)))

  -- how many they are
  named-many : (i : ℕ) → member_count (bidder_count s) (rivals_named s i) ≡ count_to (λ j. names_rival s i (suc j)) (bidder_count s)
  unfolding member_count
  named-many i =
      count_same (λ j. in_set (rivals_named s i) (suc j)) (λ j. names_rival s i (suc j)) (bidder_count s)
      (λ j l.
      same_tests (in_set (rivals_named s i) (suc j)) (names_rival s i (suc j)) (λ t. (in_named s i (suc j) t).0) (λ t. named_in s i (suc j) t (omega arith) l))

  written-many : length all_written_to ≡ sum_to (λ j. named_by (names_rival s) (bidder_count s) (suc j)) (bidder_count s) * slots_above (slot_count s)
  written-many =
      joined_long written_for (bidder_count s)
      ∙ sum_same (λ i. length (written_for i)) (λ i. count_to (λ j. names_rival s (suc i) (suc j)) (bidder_count s) * slots_above (slot_count s)) (bidder_count s)
      (λ i l.
      terms-many (bidder_count s) (slot_count s) (suc i) (rivals_named s (suc i))
      ∙ ap (λ (x : ℕ). x * slots_above (slot_count s)) (named-many (suc i)))
      ∙ sum_times (λ i. count_to (λ j. names_rival s (suc i) (suc j)) (bidder_count s)) (slots_above (slot_count s)) (bidder_count s)
      ∙ ap (λ (x : ℕ). x * slots_above (slot_count s)) (sym (sum_turned (λ i j. names_rival s (suc i) (suc j)) (bidder_count s) (bidder_count s)))

  -- a condition is written where its owner names its other and stands below it,
  written-there : (q : Condition) → 0 < q.owner → q.owner ≤ bidder_count s → names_rival s q.owner q.other ≡ true → 0 < q.other → q.other ≤ bidder_count s →
      0 < q.others → q.others < q.own → q.own ≤ slot_count s → Memᴰ q all_written_to
  written-there q some most names a b c d e = owner-there q.owner refl some most
    where
      owner-there : (o : ℕ) → q.owner ≡ o → 0 < o → o ≤ bidder_count s → Memᴰ q all_written_to
      owner-there zero mine first last = absurd (omega arith)
      owner-there (suc i) mine first last =
          joined-mem written_for (bidder_count s) i q last
          (terms-there (bidder_count s) (slot_count s) (suc i) (rivals_named s (suc i)) (λ x t. let w = in_named s (suc i) x t in (w.1, w.2)) q
          (mine, (named_in s (suc i) q.other (ap (λ (x : ℕ). names_rival s x q.other) (sym mine) ∙ names) a b, c, d, e)))

  -- and nowhere else
  written_where : (q : Condition) → Memᴰ q all_written_to →
      (0 < q.owner) × (q.owner ≤ bidder_count s) × (names_rival s q.owner q.other ≡ true) × (0 < q.other) × (q.other ≤ bidder_count s) × (0 < q.others)
      × (q.others < q.own) × (q.own ≤ slot_count s)
  written_where q m =
      let w = mem-joined written_for (bidder_count s) q m in
      let i = suc w.0 in
      let given = terms_where (bidder_count s) (slot_count s) i (rivals_named s i) q w.2 in
      let mine = given.0 in
      let pair = given.1 in
      let rival = in_named s i q.other pair.0 in
      let room = w.1 in
      (omega arith, omega arith, ap (λ (x : ℕ). names_rival s x q.other) mine ∙ rival.0, rival.1, rival.2, pair.1, pair.2, pair.3)

  -- Where all are pairs with the rival above, each is written;
  module _ (above : all_below (rival_above s) (constraint_count s) ≡ true) where
    field-written : (k : ℕ) → k < constraint_count s → Memᴰ (condition_field s k) all_written_to
    unfolding condition_field
    field-written k l =
        let fits = facts.constraints k l in
        let pair = above_fields s k (all-at (rival_above s) (constraint_count s) above k l) in
        written-there (condition_field s k) fits.some_owner fits.most_owner (names_at s k l) (rival_some fits pair.0) fits.most_other pair.0 pair.1 fits.most_own

    order_written_lem : (q : Condition) → Memᴰ q (conditions_in_order s) → Memᴰ q all_written_to
    order_written_lem q m = let w = in_order_where s q m in subst (λ (x : Condition). Memᴰ x all_written_to) w.2 (field-written w.0 w.1)

    within : (length (conditions_in_order s) ≤ length all_written_to) × (length all_written_to ≤ length (conditions_in_order s) → (q : Condition) → Memᴰ q all_written_to → Memᴰ q (conditions_in_order s))
    within =
        rising-within number_of 0 (fields_number (suc (bidder_count s)) 0 0 0) (fields_number 1 0 0 0) (fields_number (suc (bidder_count s)) 0 0 0)
        (conditions_in_order s) all_written_to (rises s ok) written_rises order_written_lem

    -- so with as many all pairs are there,
    many_pairs : length all_written_to ≤ length (conditions_in_order s) → AllPairs s
    many_pairs many i j k l names a b c d some up most =
        let w = in_order_where s (on i k j l) (within.1 many (on i k j l) (written-there (on i k j l) a b names c d some up most)) in
        has-field s (on i k j l) w

    -- and where these are there, there are as many
    pairs_many : AllPairs s → length all_written_to ≤ length (conditions_in_order s)
    pairs_many all =
        (rising-within number_of (fields_number 1 0 0 0) (fields_number (suc (bidder_count s)) 0 0 0) 0 (fields_number (suc (bidder_count s)) 0 0 0)
        all_written_to (conditions_in_order s) written_rises (rises s ok)
        (λ q m.
        let (a, b, names, c, d, some, up, most) = written_where q m in
        let w = has_where s q.owner q.own q.other q.others (all q.owner q.other q.own q.others names a b c d some up most) in
        Memᴰ.cast (sym w.2) (in_order-has s ok w.0 w.1))).0

    -- it never has more
    pub never_more : length (conditions_in_order s) ≤ sum_to (λ j. named_by (names_rival s) (bidder_count s) (suc j)) (bidder_count s) * slots_above (slot_count s)
    never_more = let most = within.0 in let many = written-many in omega arith

    pub profile_counted : from_profile s ≡ eqb (length (conditions_in_order s)) (sum_to (λ j. named_by (names_rival s) (bidder_count s) (suc j)) (bidder_count s) * slots_above (slot_count s))
    profile_counted =
        same_tests (from_profile s) _
        (λ t.
        eq-eqb (length (conditions_in_order s)) _
        (let no-fewer = pairs_many (profile_parts s t).1 in let no_more = within.0 in let many = written-many in omega arith))
        (λ e.
        let as_many = eqb-true (length (conditions_in_order s)) _ e in
        let many = written-many in
        parts_profile s above (many_pairs (omega arith)))
