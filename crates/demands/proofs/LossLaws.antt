-- Request S-8. A sheet whose lists all come from the profile is a round whose constraints are just the pairs with a rival above, so the theorem of greedy_loss is
-- about it; what a result says is the greedy page, so its total is that page's. And the factor that is told: it is not 0 exactly where there are such rival sets,
-- since these can be read from the lists; and from two places on the lists tell all who are named. Assumes nothing.
use Prim.Native.Nat.{ℕ, zero, suc, ◌+◌, ◌*◌, ◌<◌, ◌≤◌}
use borrow.Author.Tests.{eq-eqb}
use mathlib.Core.Bool.{true, false}
use mathlib.Core.List.{List, ◌∷◌}
use mathlib.Core.Logic.{⊎_elim}
use mathlib.Core.Path.{◌≡◌, refl, sym, ◌∙◌, ap, ap₂, subst}
use native.Mathlib.Omega.{arith}
use lib.Dec.{eqb}
use lib.ListN.{length, get_or, replicate, length-replicate}
use Rattle.basis.specs.Counting.{count_to, sum_to}
use Rattle.basis.specs.Rows.{joined}
use Rattle.basis.proofs.CountLaws.{count_same, count_none}
use Rattle.basis.proofs.FirstLaws.{answered-gives}
use Rattle.basis.proofs.RisingLaws.{rising-few}
use Rattle.basis.proofs.SumLaws.{sum_same, most-at, most-at-most, most-same}
use Rattle.basis.proofs.TestLaws.{holds_or_fails, fails, same_tests, any_at, all-at, at_all}
use Rattle.sheet.specs.declared.Page.{Page}
use Rattle.sheet.specs.Sheet.{bidder_count, slot_count, constraint_count, owner_field, other_field, bid_field, effect_field}
use Rattle.sheet.specs.Refusal.{refusal_of, Accepted}
use Rattle.sheet.specs.Accepted.{fields_number, number_of, AcceptedSheet}
use Rattle.sheet.specs.Round.{round_of, bid_of, effect_of}
use Rattle.sheet.specs.Encoded.{Condition, on, condition_field}
use Rattle.sheet.proofs.AcceptedLaws.{accepted-sheet}
use Rattle.sheet.proofs.RoundLaws.{round_bidders, round_slots, round_bid, round_effect, round_proper, sheet_round, round_sheet, no_floor}
use Rattle.sheet.proofs.EncodedLaws.{field_constraint, as_constraint}
use Rattle.auction.specs.Page.{at}
use Rattle.auction.specs.Allowed.{PageOf, Allowed, total}
use Rattle.auction.specs.Greedy.{greedy_page}
use Rattle.auction.proofs.FilledLaws.{greedy-allowed}
use Rattle.play.specs.Play.{play_refusal, played_buffer, Played, bidder_said}
use Rattle.play.proofs.SaidLaws.{bidder_said_lem}
use Rattle.best_page.specs.BestPage.{best_page_of}
use Rattle.best_page.proofs.BestPageLaws.{best_page_lem}
use Rattle.best_search.specs.Call.{best_refusal}
use Rattle.canonical.proofs.OrderedLaws.{has_where}
use Rattle.slot_terms.specs.SlotTerms.{conditions_buffer}
use Rattle.bidder_sets.specs.BidderSets.{in_set, rivals_of}
use Rattle.bidder_sets.proofs.LentLaws.{lent-read}
use Rattle.bidder_sets.proofs.NumberedLaws.{numbered_right}
use Rattle.above_terms.specs.AboveTerms.{RivalAbove, above_terms_of, above_terms_refusal}
use Rattle.above_terms.proofs.TermsLaws.{terms_where, terms-rise}
use Rattle.above_terms.proofs.RefusalLaws as numbers
use Rattle.share_page.specs.SharePage.{names}
use Rattle.greedy_loss.proofs.FromAboveLaws.{FromAbove, NamedAtMost}
use Rattle.greedy_loss.proofs.FarBelowLaws.{row-total, far_below}
use Rattle.loss_bound.specs.LossBound.{names_rival, rival_above, from_profile, most_naming, loss_factor}
use Rattle.loss_bound.proofs.NamingLaws.{rival_some}
use Rattle.loss_bound.proofs.ProfileLaws.{rivals_named, named_in, in_named, names_at, names_where, above_fields, fields_above, has-field, profile_parts, parts_profile}
use Rattle.loss_bound.proofs.FactorLaws.{no_factor, factor-told}
use Rattle.pas.specs.Calls.{BestPageGiven, AboveTermsGiven, LossBoundGiven}
use Rattle.demands.specs.Demands.{Exactly, AllFromProfile, WrittenFor, total_said}
use Rattle.demands.proofs.AboveTermsLaws.{above-written}
use Rattle.demands.proofs.ShareLaws.{all_written}

-- What a result says has the greedy page's total.
pub said-total : (s out out' : List ℕ) → Accepted s → Played s out 0 out' → total_said s out' ≡ total (round_of s) (greedy_page (round_of s))
unfolding total_said
said-total s out out' ok g =
    let r = round_of s in
    let page = greedy_page r in
    let slots = round_slots s in
    let bidders = round_bidders s in
    let left : out' ≡ played_buffer r out = g.buffer ∙ sym (answered-gives (play_refusal s out) (played_buffer r out) out (sym g.number)) in
    sum_same
    (λ k. bid_field s (bidder_said out' (suc k)) * effect_field s (suc k))
    (λ k. bid_of r (at page (suc k)) * effect_of r (suc k))
    (slot_count s)
    (λ k l.
    let who : bidder_said out' (suc k) ≡ at page (suc k) = ap (λ (o : List ℕ). bidder_said o (suc k)) left ∙ bidder_said_lem r out (suc k) (omega arith) (omega arith) in
    let most = (greedy-allowed r (round_proper s ok)).page.bidders (suc k) in
    ap₂ ◌*◌ (ap (bid_field s) who ∙ sym (round_bid s ok (at page (suc k)) (omega arith))) (sym (round_effect s ok (suc k) l)))
    ∙ ap (sum_to (λ k. bid_of r (at page (suc k)) * effect_of r (suc k))) (sym slots)
    ∙ sym (row-total r page)

-- With rival sets.
module _ (s sets : List ℕ) (ok : Accepted s) (all : AllFromProfile s sets) where
  facts : AcceptedSheet s
  facts = accepted-sheet s ok

  -- the round's constraints are just the pairs with a rival above
  from_above : FromAbove (round_of s) (names sets)
  unfolding condition_field
  from_above =
      record {
        only = λ q h.
            (let w = round_sheet s ok q h in
            let k = w.0 in
            let pair = all.no_other k w.1 in
            let fits = facts.constraints k w.1 in
            (condition_field s k, pair.0, rival_some fits pair.1, pair.1, pair.2, sym (field_constraint s k) ∙ w.2));
        all = λ p some most rival first up low.
            (let slots = round_slots s in
            let bidders = round_bidders s in
            let w = all.each p some (omega arith) (rival, first, up, omega arith) in
            sheet_round s ok (as_constraint p) (w.0, w.1, field_constraint s w.0 ∙ ap as_constraint w.2));
      }

  few : NamedAtMost (names sets) (round_of s).bidders (most_naming (names sets) (bidder_count s))
  unfolding most_naming
  few zero some most = absurd (omega arith)
  few (suc j) some most =
      let bidders = round_bidders s in
      let here = most-at (λ j. count_to (λ i. names sets (suc i) (suc j)) (bidder_count s)) (bidder_count s) j (omega arith) in
      let same = ap (count_to (λ i. names sets (suc i) (suc j))) bidders in
      omega arith

  -- so every page has at most d + 1 times the greedy page's total
  page-below : (out out' : List ℕ) → Played s out 0 out' → (p : Page) → PageOf (round_of s) p →
      total (round_of s) p ≤ (most_naming (names sets) (bidder_count s) + 1) * total_said s out'
  page-below out out' g p page =
      let d = most_naming (names sets) (bidder_count s) in
      let below = far_below (round_of s) (round_proper s ok) (no_floor s) (names sets) from_above d few p page in
      let said = ap (λ (x : ℕ). suc d * x) (said-total s out out' ok g) in
      omega arith

  -- What the lists tell.
  pub told_profile : from_profile s ≡ true
  unfolding condition_field
  told_profile =
      parts_profile s
      (at_all (rival_above s) (constraint_count s) (λ k l. let pair = all.no_other k l in fields_above s k pair.1 pair.2))
      (λ i j k l named a b c d some up most.
      let w = names_where s i j named in
      let rival : names sets i j ≡ true = ap₂ (λ (x y : ℕ). names sets x y) (sym w.2) (sym w.3) ∙ (all.no_other w.0 w.1).0 in
      has-field s (on i k j l) (all.each (on i k j l) a b (rival, some, up, most)))

  -- who is named is a rival; and from two places on a rival is named
  named_rival : (i j : ℕ) → names_rival s i j ≡ true → names sets i j ≡ true
  unfolding condition_field
  named_rival i j named =
      let w = names_where s i j named in
      ap₂ (λ (x y : ℕ). names sets x y) (sym w.2) (sym w.3) ∙ (all.no_other w.0 w.1).0

  rival_named : 1 < slot_count s → (i j : ℕ) → 0 < i → i ≤ bidder_count s → names sets i j ≡ true → names_rival s i j ≡ true
  unfolding condition_field
  rival_named two i j some most rival =
      let w = all.each (on i 2 j 1) some most (rival, omega arith, omega arith, two) in
      ap₂ (λ (x y : ℕ). names_rival s x y) (sym (ap (λ (q : Condition). q.owner) w.2)) (sym (ap (λ (q : Condition). q.other) w.2)) ∙ names_at s w.0 w.1

  same-most : 1 < slot_count s → most_naming (names_rival s) (bidder_count s) ≡ most_naming (names sets) (bidder_count s)
  unfolding most_naming
  same-most two =
      most-same (λ j. count_to (λ i. names_rival s (suc i) (suc j)) (bidder_count s)) (λ j. count_to (λ i. names sets (suc i) (suc j)) (bidder_count s)) (bidder_count s)
      (λ j l.
      count_same (λ i. names_rival s (suc i) (suc j)) (λ i. names sets (suc i) (suc j)) (bidder_count s)
      (λ i m.
      same_tests (names_rival s (suc i) (suc j)) (names sets (suc i) (suc j)) (named_rival (suc i) (suc j))
      (rival_named two (suc i) (suc j) (omega arith) m)))

  -- with one place there is no condition, and nobody is named
  one_none : slot_count s ≡ 1 → most_naming (names_rival s) (bidder_count s) ≡ 0
  unfolding most_naming condition_field
  one_none one =
      let none : (i j : ℕ) → names_rival s i j ≡ false =
      (λ i j.
      fails (names_rival s i j)
      (λ t.
      let w = names_where s i j t in
      let pair = all.no_other w.0 w.1 in
      let first = pair.1 in
      let up = pair.2 in
      let low = pair.3 in
      omega arith)) in
      let most =
      most-at-most (λ j. count_to (λ i. names_rival s (suc i) (suc j)) (bidder_count s)) 0 (bidder_count s)
      (λ j l. let zero_of = count_none (λ i. names_rival s (suc i) (suc j)) (bidder_count s) (λ i m. none (suc i) (suc j)) in omega arith) in
      omega arith

-- What the call told: the factor of an accepted sheet.
told-factor : (s : List ℕ) (before factor : ℕ) → LossBoundGiven s before 0 factor → factor ≡ loss_factor s
told-factor s before factor g = g.written ∙ sym (answered-gives (refusal_of s) (loss_factor s) before (sym g.number))

some_profile : (s : List ℕ) (before factor : ℕ) → LossBoundGiven s before 0 factor → 0 < factor → from_profile s ≡ true
some_profile s before factor g some =
    ⊎_elim
    (λ (t : from_profile s ≡ true). t)
    (λ (f : from_profile s ≡ false). absurd (let none = no_factor s f in let told = told-factor s before factor g in omega arith))
    (holds_or_fails (from_profile s))

-- what stands in a list is in its set
member_at : (set : List ℕ) (k : ℕ) → k < length set → in_set set (get_or set k 0) ≡ true
unfolding in_set
member_at set k l = any_at (λ x. eqb (get_or set x 0) (get_or set k 0)) (length set) k l (eq-eqb (get_or set k 0) (get_or set k 0) refl)

owner_is : (s : List ℕ) (k : ℕ) → (condition_field s k).owner ≡ owner_field s k
unfolding condition_field
owner_is s k = refl

-- The rival sets that the lists tell.
module _ (s : List ℕ) (ok : Accepted s) (profile : from_profile s ≡ true) where
  abbrev named_sets : List ℕ
  named_sets = joined (λ i. length (rivals_named s (suc i)) ∷ rivals_named s (suc i)) (bidder_count s)

  sets_are : (i : ℕ) → 0 < i → i ≤ bidder_count s → rivals_of named_sets i ≡ rivals_named s i
  sets_are zero some most = absurd (omega arith)
  sets_are (suc i) some most = lent-read (rivals_named s) (bidder_count s) i most

  -- a rival above is a condition of the sheet,
  pair_has : (q : Condition) → 0 < q.owner → q.owner ≤ bidder_count s → RivalAbove (slot_count s) (rivals_named s q.owner) q →
      (k : ℕ) × (k < constraint_count s) × (condition_field s k ≡ q)
  pair_has q some most pair =
      let rival = in_named s q.owner q.other pair.0 in
      has_where s q.owner q.own q.other q.others
      ((profile_parts s profile).1 q.owner q.other q.own q.others rival.0 some most rival.1 rival.2 pair.1 pair.2 pair.3)

  -- and a condition of the sheet is a rival above
  has_pair : (k : ℕ) → k < constraint_count s → RivalAbove (slot_count s) (rivals_named s (owner_field s k)) (condition_field s k)
  unfolding condition_field
  has_pair k l =
      let fits = (accepted-sheet s ok).constraints k l in
      let pair = above_fields s k (all-at (rival_above s) (constraint_count s) (profile_parts s profile).0 k l) in
      (named_in s (owner_field s k) (other_field s k) (names_at s k l) (rival_some fits pair.0) fits.most_other, pair.0, pair.1, fits.most_own)

  pub all_told : AllFromProfile s named_sets
  unfolding condition_field
  all_told =
      record {
        each = λ q some most pair. pair_has q some most (subst (λ (x : List ℕ). RivalAbove (slot_count s) x q) (sets_are q.owner some most) pair);
        no_other = λ k l.
            (let fits = (accepted-sheet s ok).constraints k l in
            subst (λ (x : List ℕ). RivalAbove (slot_count s) x (condition_field s k)) (sym (sets_are (owner_field s k) fits.some_owner fits.most_owner))
            (has_pair k l));
      }

  -- they name whom the lists name
  told-most : most_naming (names named_sets) (bidder_count s) ≡ most_naming (names_rival s) (bidder_count s)
  unfolding most_naming
  told-most =
      most-same (λ j. count_to (λ i. names named_sets (suc i) (suc j)) (bidder_count s)) (λ j. count_to (λ i. names_rival s (suc i) (suc j)) (bidder_count s)) (bidder_count s)
      (λ j l.
      count_same (λ i. names named_sets (suc i) (suc j)) (λ i. names_rival s (suc i) (suc j)) (bidder_count s)
      (λ i m.
      let same = ap (λ (x : List ℕ). in_set x (suc j)) (sets_are (suc i) (omega arith) m) in
      same_tests (names named_sets (suc i) (suc j)) (names_rival s (suc i) (suc j))
      (λ t. (in_named s (suc i) (suc j) (sym same ∙ t)).0)
      (λ t. same ∙ named_in s (suc i) (suc j) t (omega arith) l)))

  -- and each list is one that the profile's call writes
  module _ (i : ℕ) (some : 0 < i) (most : i ≤ bidder_count s) where
    abbrev rivals : List ℕ
    rivals = rivals_named s i

    abbrev terms : List Condition
    terms = above_terms_of (bidder_count s) (slot_count s) i rivals

    abbrev room : List ℕ
    room = replicate (4 * length terms) 0

    terms-few : length terms ≤ 1_024
    terms-few =
        let c = (accepted-sheet s ok).counts in
        let fits = c.most_constraints in
        let many =
        rising-few number_of (condition_field s) (constraint_count s) (fields_number i 1 0 0) (fields_number i (suc (slot_count s)) 0 0) terms
        (terms-rise (bidder_count s) (slot_count s) i rivals c.most_bidders c.most_slots)
        (λ q m.
        let given = terms_where (bidder_count s) (slot_count s) i rivals q m in
        let mine = given.0 in
        let w = pair_has q (omega arith) (omega arith) (subst (λ (x : ℕ). RivalAbove (slot_count s) (rivals_named s x) q) (sym mine) given.1) in
        (w.0, w.1, sym w.2)) in
        omega arith

    not_refused : above_terms_refusal (bidder_count s) (slot_count s) i rivals room ≡ 0
    not_refused =
        let c = (accepted-sheet s ok).counts in
        let sized = length-replicate {A = ℕ} (4 * length terms) 0 in
        numbers.answered (bidder_count s) (slot_count s) i rivals room
        (record { some_bidders = c.some_bidders; most_bidders = c.most_bidders; some_slots = c.some_slots; most_slots = c.most_slots; some_owner = some; most_owner = most })
        (numbered_right (bidder_count s) rivals (λ k l. let w = in_named s i (get_or rivals k 0) (member_at rivals k l) in (w.1, w.2)))
        (fails (in_set rivals i) (λ t. not_itself (in_named s i i t).0))
        terms-few
        (omega arith)
      where
        not_itself : names_rival s i i ≡ true → ⊥
        not_itself t =
            let w = names_where s i i t in
            ((accepted-sheet s ok).constraints w.0 w.1).different (w.3 ∙ sym w.2)

    given : AboveTermsGiven (bidder_count s) (slot_count s) i rivals room 0 0 (conditions_buffer terms room) (length terms)
    given =
        record {
          number = sym not_refused;
          buffer = answered-gives (above_terms_refusal (bidder_count s) (slot_count s) i rivals room) (conditions_buffer terms room) room not_refused;
          written = answered-gives (above_terms_refusal (bidder_count s) (slot_count s) i rivals room) (length terms) 0 not_refused;
        }

    pub list_written : WrittenFor (bidder_count s) (slot_count s) s i rivals
    list_written =
        let list = above-written (bidder_count s) (slot_count s) i rivals room (conditions_buffer terms room) 0 (length terms) given in (
          room,
          conditions_buffer terms room,
          0,
          length terms,
          given,
          record {
            each = λ q among.
                (let w = (list.conditions q).0 among in
                let mine = w.0 in
                pair_has q (omega arith) (omega arith) (subst (λ (x : ℕ). RivalAbove (slot_count s) (rivals_named s x) q) (sym mine) w.1));
            no_other = λ k l mine.
                (list.conditions (condition_field s k)).1
                (owner_is s k ∙ mine, subst (λ (x : ℕ). RivalAbove (slot_count s) (rivals_named s x) (condition_field s k)) mine (has_pair k l));
          },
        )

-- The statements.
pub sharper : (s sets out out' : List ℕ) → Accepted s → AllFromProfile s sets → Played s out 0 out' → (p : Page) → PageOf (round_of s) p →
    total (round_of s) p ≤ (most_naming (names sets) (bidder_count s) + 1) * total_said s out'
sharper s sets out out' ok all g p page = page-below s sets ok all out out' g p page

pub sentence : (s sets out out' : List ℕ) → Accepted s → AllFromProfile s sets → Played s out 0 out' → (p : Page) → Allowed (round_of s) p →
    total (round_of s) p ≤ (most_naming (names sets) (bidder_count s) + 2) * total_said s out'
sentence s sets out out' ok all g p allowed = let below = sharper s sets out out' ok all g p allowed.page in omega arith

pub written : (n m : ℕ) (s sets out out' : List ℕ) → Accepted s → bidder_count s ≡ n → slot_count s ≡ m → ((i : ℕ) → 0 < i → i ≤ n → WrittenFor n m s i (rivals_of sets i)) →
    Played s out 0 out' → (p : Page) → PageOf (round_of s) p → total (round_of s) p ≤ (most_naming (names sets) n + 1) * total_said s out'
written n m s sets out out' ok bidders slots lists g p page =
    subst (λ (x : ℕ). total (round_of s) p ≤ (most_naming (names sets) x + 1) * total_said s out') bidders
    (sharper s sets out out' ok (all_written n m s sets ok bidders slots lists) g p page)

pub told : (s : List ℕ) (before factor : ℕ) → LossBoundGiven s before 0 factor → Exactly (0 < factor) ((sets : List ℕ) × AllFromProfile s sets)
told s before factor g =
    let ok : Accepted s = sym g.number in (
      λ some. let profile = some_profile s before factor g some in (named_sets s ok profile, all_told s ok profile),
      λ (sets, all). (let d = factor-told s (told_profile s sets ok all) in let this = told-factor s before factor g in omega arith),
    )

pub each_written : (s : List ℕ) (before factor : ℕ) → LossBoundGiven s before 0 factor → 0 < factor → (i : ℕ) → 0 < i → i ≤ bidder_count s →
    (rivals : List ℕ) × WrittenFor (bidder_count s) (slot_count s) s i rivals
each_written s before factor g some i first last =
    (rivals_named s i, list_written s (sym g.number) (some_profile s before factor g some) i first last)

pub factor_is : (s sets : List ℕ) (before factor : ℕ) → LossBoundGiven s before 0 factor → AllFromProfile s sets → 1 < slot_count s →
    factor ≡ most_naming (names sets) (bidder_count s) + 1
factor_is s sets before factor g all two =
    let ok : Accepted s = sym g.number in
    let d = factor-told s (told_profile s sets ok all) in
    let same = same-most s sets ok all two in
    let this = told-factor s before factor g in
    omega arith

pub one_place : (s sets : List ℕ) (before factor : ℕ) → LossBoundGiven s before 0 factor → AllFromProfile s sets → slot_count s ≡ 1 → factor ≡ 1
one_place s sets before factor g all one =
    let ok : Accepted s = sym g.number in
    let d = factor-told s (told_profile s sets ok all) in
    let none = one_none s sets ok all one in
    let this = told-factor s before factor g in
    omega arith

pub bound : (s out out' : List ℕ) (before factor : ℕ) → LossBoundGiven s before 0 factor → 0 < factor → Played s out 0 out' → (p : Page) → PageOf (round_of s) p →
    total (round_of s) p ≤ factor * total_said s out'
bound s out out' before factor g some played p page =
    let ok : Accepted s = sym g.number in
    let profile = some_profile s before factor g some in
    let below = sharper s (named_sets s ok profile) out out' ok (all_told s ok profile) played p page in
    let d = factor-told s profile in
    let same = told-most s ok profile in
    let this = told-factor s before factor g in
    let times : most_naming (names (named_sets s ok profile)) (bidder_count s) + 1 ≡ factor = omega arith in
    subst (λ (x : ℕ). total (round_of s) p ≤ x * total_said s out') times below

pub best-below : (s out out' into into' : List ℕ) (before factor before' best : ℕ) → LossBoundGiven s before 0 factor → 0 < factor → Played s out 0 out' →
    BestPageGiven s into before' 0 into' best → best ≤ factor * total_said s out'
best-below s out out' into into' before factor before' best g some played given =
    let ok : Accepted s = sym g.number in
    let proper = round_proper s ok in
    let is : best ≡ total (round_of s) (best_page_of (round_of s)) =
    given.written ∙ sym (answered-gives (best_refusal s into) (total (round_of s) (best_page_of (round_of s))) before' (sym given.number)) in
    let below = bound s out out' before factor g some played (best_page_of (round_of s)) (best_page_lem (round_of s) proper.most_slots proper).allowed.page in
    omega arith
