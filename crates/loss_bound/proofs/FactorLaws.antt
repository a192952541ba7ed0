-- The factor from what the engine has: whether all are pairs with the rival above, the words and counts of who names whom, and how many different constraints
-- there are. Assumes nothing.
use Prim.Native.Nat.{ℕ, suc, ◌+◌, ◌*◌, ◌≤◌}
use borrow.Author.Tests.{eq-eqb, ne_eqb}
use mathlib.Core.Bool.{Bool, true, false, cond}
use mathlib.Core.List.{List}
use mathlib.Core.Path.{◌≡◌, sym, ◌∙◌, ap}
use native.Mathlib.Omega.{arith}
use lib.ListN.{length, get_or, take}
use lib.Seq.{get_or-take, length-take-le}
use Rattle.basis.specs.Counting.{sum_to, most_to}
use Rattle.basis.specs.Tests.{all_below}
use Rattle.basis.proofs.FirstLaws.{refused_leaves, answered-gives}
use Rattle.basis.proofs.SumLaws.{sum_same, most-same}
use Rattle.basis.proofs.TestLaws.{fails, not_both}
use Rattle.sheet.specs.Sheet.{bidder_count, slot_count, constraint_count}
use Rattle.sheet.specs.Refusal.{refusal_of, Accepted}
use Rattle.canonical.specs.Canonical.{conditions_in_order}
use Rattle.above_terms.specs.EngineAbove.{slots_above}
use Rattle.loss_bound.specs.LossBound.{names_rival, rival_above, from_profile, most_naming, loss_factor, LossBounded}
use Rattle.loss_bound.specs.EngineNaming.{named_by, Noted}
use Rattle.loss_bound.proofs.ProfileLaws.{profile_parts, never_more, profile_counted}

-- not from the profile: 0
pub no_factor : (s : List ℕ) → from_profile s ≡ false → 0 ≡ loss_factor s
unfolding loss_factor
no_factor s e = sym (ap (λ (t : Bool). cond t (suc (most_naming (names_rival s) (bidder_count s))) 0) e)

-- from it: d + 1
pub factor-told : (s : List ℕ) → from_profile s ≡ true → suc (most_naming (names_rival s) (bidder_count s)) ≡ loss_factor s
unfolding loss_factor
factor-told s e = sym (ap (λ (t : Bool). cond t (suc (most_naming (names_rival s) (bidder_count s))) 0) e)

pub other_kinds : (s : List ℕ) → all_below (rival_above s) (constraint_count s) ≡ false → 0 ≡ loss_factor s
other_kinds s none = no_factor s (fails (from_profile s) (λ t. not_both (profile_parts s t).0 none))

module _ (s words counts : List ℕ) (ok : Accepted s) (above : all_below (rival_above s) (constraint_count s) ≡ true)
    (noted : Noted (bidder_count s) (names_rival s) words counts) (all each had : ℕ) (sum : all ≡ sum_to (λ j. get_or counts j 0) (bidder_count s))
    (slots : each ≡ slots_above (slot_count s)) (many : had ≡ length (conditions_in_order s)) where
  whole : all * each ≡ sum_to (λ j. named_by (names_rival s) (bidder_count s) (suc j)) (bidder_count s) * slots_above (slot_count s)
  whole =
      ap (λ (x : ℕ). x * each) (sum ∙ sum_same (λ j. get_or counts j 0) (λ j. named_by (names_rival s) (bidder_count s) (suc j)) (bidder_count s) (λ j l. noted.counted j))
      ∙ ap (λ (x : ℕ). sum_to (λ j. named_by (names_rival s) (bidder_count s) (suc j)) (bidder_count s) * x) slots

  pub some_missing_lem : (had ≡ all * each → ⊥) → 0 ≡ loss_factor s
  some_missing_lem other = no_factor s (profile_counted s ok above ∙ ne_eqb (length (conditions_in_order s)) _ (λ e. other (many ∙ e ∙ sym whole)))

  pub none_missing : all * each ≤ had → (most : ℕ) → most ≡ most_to (λ j. get_or counts j 0) (bidder_count s) → most + 1 ≡ loss_factor s
  unfolding most_naming
  none_missing enough most largest =
      let no_more = never_more s ok above in
      let all-of-them = whole in
      let d : most ≡ most_naming (names_rival s) (bidder_count s) =
      largest ∙ most-same (λ j. get_or counts j 0) (λ j. named_by (names_rival s) (bidder_count s) (suc j)) (bidder_count s) (λ j l. noted.counted j) in
      let told = factor-told s (profile_counted s ok above ∙ eq-eqb (length (conditions_in_order s)) _ (omega arith)) in
      omega arith

-- the first n counts by themselves have the same sum and the same largest
module _ (counts : List ℕ) (n : ℕ) (room : n ≤ length counts) where
  pub front_sum : sum_to (λ j. get_or (take n counts) j 0) (length (take n counts)) ≡ sum_to (λ j. get_or counts j 0) n
  front_sum =
      ap (sum_to (λ j. get_or (take n counts) j 0)) (length-take-le n counts room)
      ∙ sum_same (λ j. get_or (take n counts) j 0) (λ j. get_or counts j 0) n (λ j l. get_or-take n counts j 0 l)

  pub front-most : most_to (λ j. get_or (take n counts) j 0) (length (take n counts)) ≡ most_to (λ j. get_or counts j 0) n
  front-most =
      ap (most_to (λ j. get_or (take n counts) j 0)) (length-take-le n counts room)
      ∙ most-same (λ j. get_or (take n counts) j 0) (λ j. get_or counts j 0) n (λ j l. get_or-take n counts j 0 l)

-- all that the call returns
pub sheet-refused : (s : List ℕ) (number : ℕ) → number ≡ refusal_of s → (number ≡ 0 → ⊥) → LossBounded s (record { refusal = number; factor = 0 })
sheet-refused s number e some = record { number = e; factor = refused_leaves (refusal_of s) number (loss_factor s) 0 e some }

pub sheet_bounded : (s : List ℕ) (factor : ℕ) → Accepted s → factor ≡ loss_factor s → LossBounded s (record { refusal = 0; factor = factor })
sheet_bounded s factor ok e = record { number = sym ok; factor = e ∙ answered-gives (refusal_of s) (loss_factor s) 0 ok }
