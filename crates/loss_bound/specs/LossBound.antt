-- Request S-8: "On sheets without floors whose lists all come from the profile "above named rivals", let d be the largest number of bidders that name one same
-- rival." The call tells of a sheet d + 1 where all its lists come from the profile, and 0 where not. What the number is good for is `RequestEight` of demands.
use Rattle.std.specs.Prelude.{ℕ, suc, Bool, cond, not, ◌&&◌, ◌||◌, List, ◌≡◌, eqb, ltb, Result, Ok, Err}
use Rattle.basis.specs.Counting.{count_to, most_to}
use Rattle.basis.specs.First.{unless_refused}
use Rattle.basis.specs.Tests.{any_below, all_below}
use Rattle.sheet.specs.Sheet.{bidder_count, slot_count, constraint_count, owner_field, own_slot_field, other_field, other_slot_field}
use Rattle.sheet.specs.Refusal.{refusal_of}
use Rattle.canonical.specs.Canonical.{has_condition}
use Rattle.refusal.specs.declared.Refusal.{Refusal}
use Rattle.refusal.specs.Numbers.{number_of}

-- bidder i names j: some condition of its list has j for the other bidder
unfoldable pub names_rival : List ℕ → (i j : ℕ) → Bool
names_rival s i j = any_below (λ k. eqb (owner_field s k) i && eqb (other_field s k) j) (constraint_count s)

-- the condition at index k is a pair "in which the rival's place is above the owner's"
unfoldable pub rival_above : List ℕ → (k : ℕ) → Bool
rival_above s k = ltb 0 (other_slot_field s k) && ltb (other_slot_field s k) (own_slot_field s k)

-- the sheet has "all pairs in which the rival's place is above the owner's", of owner i and rival j
unfoldable pub has_all_pairs : List ℕ → (i j : ℕ) → Bool
has_all_pairs s i j = all_below (λ k. all_below (λ l. has_condition s i (suc k) j (suc l)) k) (slot_count s)

-- every bidder's list comes from the profile: there are only such pairs, and for each rival that a bidder names all of them
unfoldable pub from_profile : List ℕ → Bool
from_profile s =
    all_below (rival_above s) (constraint_count s)
    && all_below (λ i. all_below (λ j. not (names_rival s (suc i) (suc j)) || has_all_pairs s (suc i) (suc j)) (bidder_count s)) (bidder_count s)

-- d, "the largest number of bidders that name one same rival", of n bidders; `rival i j` says that i names j
unfoldable pub most_naming : (ℕ → ℕ → Bool) → (n : ℕ) → ℕ
most_naming rival n = most_to (λ j. count_to (λ i. rival (suc i) (suc j)) n) n

-- what the call tells: d + 1 where all lists come from the profile, and 0 where not
unfoldable pub loss_factor : List ℕ → ℕ
loss_factor s = cond (from_profile s) (suc (most_naming (names_rival s) (bidder_count s))) 0

-- What the call answers, as numbers: a refusal's number and 0, or 0 and the factor.
pub record Loss : Type 0 where
  pub refusal : ℕ
  pub factor : ℕ

abbrev pub loss_in : Result ℕ Refusal → Loss
loss_in (Ok factor) = record { refusal = 0; factor = factor }
loss_in (Err refusal) = record { refusal = number_of refusal; factor = 0 }

-- All that the call returns: the check's number and 0, or 0 and the factor.
pub record LossBounded (s : List ℕ) (returned : Loss) : Type 0 where
  pub number : returned.refusal ≡ refusal_of s
  pub factor : returned.factor ≡ unless_refused (refusal_of s) (loss_factor s) 0
