-- Request S-2, sharing: whether "a given set of bidders, with one rival set for each of the n bidders, could share a page. The reply is yes exactly when the set
-- has at most m members and some order of them puts each above every rival of its own in the set; a yes writes the first such order in dictionary order, one
-- byte a member, and no later byte. A no writes nothing."
use Rattle.std.specs.Prelude.{ℕ, zero, suc, ◌<◌, Bool, true, false, cond, not, ◌&&◌, ◌||◌, List, [], ◌∷◌, ◌++◌, ◌⊎◌, ◌≡◌, eqb, ltb, leb, length, get_or, drop, Result, Ok, Err}
use Rattle.basis.specs.First.{◌when◌otherwise◌, or_else, unless_refused}
use Rattle.basis.specs.Rows.{joined}
use Rattle.basis.specs.Tests.{any_below, all_below}
use Rattle.refusal.specs.Numbers.{number_of}
use Rattle.refusal.specs.declared.Refusal.{Refusal}
use Rattle.slot_terms.specs.SlotTerms.{size_refusal}
use Rattle.bidder_sets.specs.BidderSets.{in_set, member_count, numbers_wrong, sets_end, rivals_of}

-- bidder b has x for a rival
abbrev pub names : (sets : List ℕ) (b x : ℕ) → Bool
names sets b x = in_set (rivals_of sets b) x

-- a set without one of its members
abbrev pub without : (ℕ → Bool) → ℕ → ℕ → Bool
without member x b = member b && not (eqb b x)

-- each of some lists with x before it
unfoldable pub headed : ℕ → List (List ℕ) → List (List ℕ)
headed x [] = []
headed x (l ∷ ls) = (x ∷ l) ∷ headed x ls

-- every order of a set of c of the bidders 1 to n, in dictionary order: those that begin with its lowest member, and so on
unfoldable pub orders_of : (n c : ℕ) → (ℕ → Bool) → List (List ℕ)
orders_of n zero member = [] ∷ []
orders_of n (suc c) member = joined (λ i. cond (member (suc i)) (headed (suc i) (orders_of n c (without member (suc i)))) []) n

-- an order "puts each above every rival of its own": where the one at index j names the one at index k, j is before k
unfoldable pub puts_above : (ℕ → ℕ → Bool) → List ℕ → Bool
puts_above rival l = all_below (λ j. all_below (λ k. not (rival (get_or l j 0) (get_or l k 0)) || ltb j k) (length l)) (length l)

-- some list passes a test, and the first that does
unfoldable pub some_of : (List ℕ → Bool) → List (List ℕ) → Bool
some_of test [] = false
some_of test (l ∷ ls) = test l || some_of test ls

unfoldable pub first_of : (List ℕ → Bool) → List (List ℕ) → List ℕ
first_of test [] = []
first_of test (l ∷ ls) = cond (test l) l (first_of test ls)

-- all orders of the members
abbrev pub member_orders : (n : ℕ) (members : List ℕ) → List (List ℕ)
member_orders n members = orders_of n (member_count n members) (in_set members)

-- yes or no
unfoldable pub can_share : (n m : ℕ) (members sets : List ℕ) → Bool
can_share n m members sets = leb (member_count n members) m && some_of (puts_above (names sets)) (member_orders n members)

-- the bytes to be written: the first such order, and none for a no
unfoldable pub order_written : (n m : ℕ) (members sets : List ℕ) → List ℕ
order_written n m members sets = cond (can_share n m members sets) (first_of (puts_above (names sets)) (member_orders n members)) []

unfoldable pub order_buffer : (n m : ℕ) (members sets out : List ℕ) → List ℕ
order_buffer n m members sets out = order_written n m members sets ++ drop (length (order_written n m members sets)) out

-- 23. The bytes are not exactly n rival sets, or one of these has a number 0 or above n.  24. A bidder is in its own set.
unfoldable pub sets_refusal : (n : ℕ) (sets : List ℕ) → ℕ
sets_refusal n sets =
    23 when not (eqb (sets_end sets n) (length sets)) || any_below (λ i. numbers_wrong n (rivals_of sets (suc i))) n otherwise
    24 when any_below (λ i. names sets (suc i) (suc i)) n otherwise
    0

-- the first number that applies: 4 and 5, then 23, the members' set too, and 24, then 19. The result buffer is shorter than the bytes to be written.
unfoldable pub share_refusal : (n m : ℕ) (members sets out : List ℕ) → ℕ
share_refusal n m members sets out =
    or_else (size_refusal n m)
    (23 when numbers_wrong n members otherwise
    (or_else (sets_refusal n sets)
    (19 when ltb (length out) (length (order_written n m members sets)) otherwise 0)))

-- What the call answers: a refusal's number, or 0 and whether the set could share a page.
pub record Shared : Type 0 where
  pub refusal : ℕ
  pub yes : Bool

abbrev pub shared_in : Result Bool Refusal → Shared
shared_in (Ok can) = record { refusal = 0; yes = can }
shared_in (Err refusal) = record { refusal = number_of refusal; yes = false }

-- All that the call returns and leaves: the first number that applies and no, or 0 and the answer; and each byte of the buffer.
pub record PageShared (n m : ℕ) (members sets out : List ℕ) (returned : Shared) (out' : List ℕ) : Type 0 where
  pub number : returned.refusal ≡ share_refusal n m members sets out
  pub answer : returned.yes ≡ unless_refused (share_refusal n m members sets out) (can_share n m members sets) false
  pub buffer : out' ≡ unless_refused (share_refusal n m members sets out) (order_buffer n m members sets out) out

-- What makes the answer right: a list is an order of the members that puts each above every rival of its own in the set, by index; and one list comes before
-- another in dictionary order. (The call is stated with all orders tried; that it is `FirstOrder`, or that there is none, are theorems.)
pub record OrderOf (rival : ℕ → ℕ → Bool) (member : ℕ → Bool) (l : List ℕ) : Type 0 where
  pub members : (k : ℕ) → k < length l → member (get_or l k 0) ≡ true
  pub all : (b : ℕ) → member b ≡ true → (k : ℕ) × (k < length l) × (get_or l k 0 ≡ b)
  pub once : (j k : ℕ) → j < length l → k < length l → get_or l j 0 ≡ get_or l k 0 → j ≡ k
  pub above : (j k : ℕ) → j < length l → k < length l → rival (get_or l j 0) (get_or l k 0) ≡ true → j < k

pub record Precedes (l l' : List ℕ) : Type 0 where
  pub index : ℕ
  pub inside : index < length l
  pub inside' : index < length l'
  pub smaller : get_or l index 0 < get_or l' index 0
  pub same : (j : ℕ) → j < index → get_or l j 0 ≡ get_or l' j 0

pub record FirstOrder (rival : ℕ → ℕ → Bool) (member : ℕ → Bool) (l : List ℕ) : Type 0 where
  pub order : OrderOf rival member l
  pub first : (l' : List ℕ) → OrderOf rival member l' → (l ≡ l') ⊎ Precedes l l'
