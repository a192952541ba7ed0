-- Request S-1, the source's slot-specific profile: "from n, m, an owner, its own limit and a bar for each bidder, write that owner's conditions in rising
-- order of their four bytes and return how many; later bytes stay."
use Rattle.std.specs.Prelude.{ℕ, zero, suc, ◌+◌, ◌-◌, ◌*◌, ◌<◌, ◌≤◌, not, ◌||◌, List, ◌++◌, ◌≡◌, eqb, ltb, length, get_or, drop, Result, Ok, Err}
use Rattle.basis.specs.First.{◌when◌otherwise◌, or_else, unless_refused}
use Rattle.basis.specs.Rows.{row, joined}
use Rattle.basis.specs.Tests.{any_below}
use Rattle.sheet.specs.Encoded.{Condition, on, quads}
use Rattle.refusal.specs.Numbers.{number_of}
use Rattle.refusal.specs.declared.Refusal.{Refusal}

-- the bar for a bidder: the list has them from bidder 1's
unfoldable pub bar_for : List ℕ → ℕ → ℕ
bar_for bars zero = 0
bar_for bars (suc i) = get_or bars i 0

-- "A bar B gives other's-place conditions for places 1 to B."
unfoldable pub barred : (owner other bar : ℕ) → List Condition
barred owner other bar = row (λ k. on owner 0 other (suc k)) bar

-- "A limit L gives own-place conditions for places L + 1 to m."
unfoldable pub beyond : (m owner limit : ℕ) → List Condition
beyond m owner limit = row (λ k. on owner (limit + 1 + k) 0 0) (m - limit)

-- that a condition is one of a limit's, and one of a bar's
abbrev pub ByLimit : (m limit : ℕ) → Condition → Type 0
ByLimit m limit q = (limit < q.own) × (q.own ≤ m) × (q.other ≡ 0) × (q.others ≡ 0)

abbrev pub ByBar : (n : ℕ) → List ℕ → Condition → Type 0
ByBar n bars q = (q.own ≡ 0) × (0 < q.other) × (q.other ≤ n) × (0 < q.others) × (q.others ≤ bar_for bars q.other)

-- all of them, "in rising order of their four bytes": own place 0, which stands for any, comes before the others, and bidder 1's bar before the next one's
unfoldable pub slot_terms_of : (n m owner limit : ℕ) → List ℕ → List Condition
slot_terms_of n m owner limit bars = joined (λ i. barred owner (suc i) (bar_for bars (suc i))) n ++ beyond m owner limit

-- 4. n is 0 or above 64.  5. m is 0 or above 16.
unfoldable pub size_refusal : (n m : ℕ) → ℕ
size_refusal n m =
    4 when eqb n 0 || ltb 64 n otherwise
    5 when eqb m 0 || ltb 16 m otherwise
    0

-- 4 and 5, then 16. The owner is 0 or above n.
unfoldable pub owner_refusal : (n m owner : ℕ) → ℕ
owner_refusal n m owner = or_else (size_refusal n m) (16 when eqb owner 0 || ltb n owner otherwise 0)

-- 20. The limit is 0 or above m.  21. The list of bars is not n long, or a bar is above m, the owner's own included.
-- 22. The bar against the owner is not 0.
unfoldable pub profile_refusal : (n m owner limit : ℕ) → List ℕ → ℕ
profile_refusal n m owner limit bars =
    20 when eqb limit 0 || ltb m limit otherwise
    21 when not (eqb (length bars) n) || any_below (λ i. ltb m (bar_for bars (suc i))) n otherwise
    22 when not (eqb (bar_for bars owner) 0) otherwise
    0

-- the first number that applies. 19. The result buffer is shorter than the bytes to be written, four for each condition.
unfoldable pub slot_terms_refusal : (n m owner limit : ℕ) (bars out : List ℕ) → ℕ
slot_terms_refusal n m owner limit bars out =
    or_else (owner_refusal n m owner)
    (or_else (profile_refusal n m owner limit bars)
    (19 when ltb (length out) (4 * length (slot_terms_of n m owner limit bars)) otherwise 0))

-- the conditions in the buffer; "later bytes stay"
unfoldable pub conditions_buffer : List Condition → List ℕ → List ℕ
conditions_buffer qs out = quads qs ++ drop (4 * length qs) out

-- What the call answers: a refusal's number, or 0 and how many conditions are written.
pub record Written : Type 0 where
  pub refusal : ℕ
  pub count : ℕ

abbrev pub written_in : Result ℕ Refusal → Written
written_in (Ok count) = record { refusal = 0; count = count }
written_in (Err refusal) = record { refusal = number_of refusal; count = 0 }

-- All that the call returns and leaves: the first number that applies and no count, or 0 and how many conditions are written; and each byte of the buffer.
pub record SlotTermsWritten (n m owner limit : ℕ) (bars out : List ℕ) (returned : Written) (out' : List ℕ) : Type 0 where
  pub number : returned.refusal ≡ slot_terms_refusal n m owner limit bars out
  pub count : returned.count ≡ unless_refused (slot_terms_refusal n m owner limit bars out) (length (slot_terms_of n m owner limit bars)) 0
  pub buffer : out' ≡ unless_refused (slot_terms_refusal n m owner limit bars out) (conditions_buffer (slot_terms_of n m owner limit bars) out) out

-- What these numbers leave: n, m and an owner that a sheet can have; and with them a limit and bars that break no rule of the call.
pub record OwnerFits (n m owner : ℕ) : Type 0 where
  pub some_bidders : 0 < n
  pub most_bidders : n ≤ 64
  pub some_slots : 0 < m
  pub most_slots : m ≤ 16
  pub some_owner : 0 < owner
  pub most_owner : owner ≤ n

pub record TermsFit (n m owner limit : ℕ) (bars : List ℕ) : Type 0 where
  pub owner_fits : OwnerFits n m owner
  pub some_limit : 0 < limit
  pub most_limit : limit ≤ m
  pub as_many : length bars ≡ n
  pub none_above : (j : ℕ) → 0 < j → j ≤ n → bar_for bars j ≤ m
  pub none_against : bar_for bars owner ≡ 0
