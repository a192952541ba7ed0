-- Request S-2: lists with the same members are one set for the sharing call too, and sets lent one after another are read as they were lent. Assumes nothing.
use Prim.Native.Nat.{ℕ, zero, suc, ◌<◌, ◌≤◌}
use mathlib.Core.Bool.{Bool, cond, ◌&&◌}
use mathlib.Core.List.{List, [], ◌∷◌, ◌++◌}
use mathlib.Core.Path.{◌≡◌, sym, ◌∙◌, ap, ap₂, fun_ext}
use native.Mathlib.Omega.{arith}
use lib.Dec.{leb, ltb}
use lib.ListN.{length, drop}
use Rattle.basis.specs.Counting.{count_to}
use Rattle.basis.specs.First.{◌when◌otherwise◌, or_else}
use Rattle.basis.proofs.RowLaws.{joined_same}
use Rattle.bidder_sets.specs.BidderSets.{in_set, member_count, rivals_of}
use Rattle.bidder_sets.proofs.NumberedLaws.{same_set, same_wrong}
use Rattle.bidder_sets.proofs.LentLaws.{lent-read}
use Rattle.slot_terms.specs.SlotTerms.{size_refusal}
use Rattle.share_page.specs.SharePage.{names, orders_of, puts_above, some_of, first_of, can_share, order_written, order_buffer, sets_refusal, share_refusal}
use Rattle.demands.specs.Demands.{Lent}

-- the answer and the bytes, from who is a member and who names whom
module _ (n m : ℕ) (member : ℕ → Bool) (rival : ℕ → ℕ → Bool) where
  abbrev orders : List (List ℕ)
  orders = orders_of n (count_to (λ i. member (suc i)) n) member

  abbrev answer : Bool
  answer = leb (count_to (λ i. member (suc i)) n) m && some_of (puts_above rival) orders

  abbrev bytes : List ℕ
  bytes = cond answer (first_of (puts_above rival) orders) []

  abbrev buffer : List ℕ → List ℕ
  buffer out = bytes ++ drop (length bytes) out

pub same_members : (n m : ℕ) (members members' sets out : List ℕ) → ((b : ℕ) → in_set members b ≡ in_set members' b) →
    (share_refusal n m members sets out ≡ share_refusal n m members' sets out)
    × (can_share n m members sets ≡ can_share n m members' sets)
    × (order_buffer n m members sets out ≡ order_buffer n m members' sets out)
unfolding can_share order_buffer order_written member_count share_refusal
same_members n m members members' sets out same =
    let e = same_set members members' same in (
      ap₂
          (λ (t : Bool) (f : ℕ → Bool).
          or_else (size_refusal n m)
          (23 when t otherwise (or_else (sets_refusal n sets) (19 when ltb (length out) (length (bytes n m f (names sets))) otherwise 0))))
          (same_wrong n members members' same) e,
      ap (λ (f : ℕ → Bool). answer n m f (names sets)) e,
      ap (λ (f : ℕ → Bool). buffer n m f (names sets) out) e,
    )

pub same_rivals : (n m : ℕ) (members sets sets' out : List ℕ) → ((b x : ℕ) → names sets b x ≡ names sets' b x) →
    (can_share n m members sets ≡ can_share n m members sets') × (order_buffer n m members sets out ≡ order_buffer n m members sets' out)
unfolding can_share order_buffer order_written member_count
same_rivals n m members sets sets' out same =
    let e : names sets ≡ names sets' = fun_ext (λ b. fun_ext (same b)) in (
      ap (λ (r : ℕ → ℕ → Bool). answer n m (in_set members) r) e,
      ap (λ (r : ℕ → ℕ → Bool). buffer n m (in_set members) r out) e,
    )

pub read-lent : (n : ℕ) (sets : List ℕ) (set : ℕ → List ℕ) → Lent n sets set →
    ((i : ℕ) → 0 < i → i ≤ n → rivals_of sets i ≡ set i) × Lent n sets (rivals_of sets)
read-lent n sets set lent = (
  as_lent,
  lent
      ∙ joined_same (λ i. length (set (suc i)) ∷ set (suc i)) (λ i. length (rivals_of sets (suc i)) ∷ rivals_of sets (suc i)) n
      (λ i l. ap (λ (x : List ℕ). length x ∷ x) (sym (as_lent (suc i) (omega arith) l))),
)
  where
    as_lent : (i : ℕ) → 0 < i → i ≤ n → rivals_of sets i ≡ set i
    as_lent zero some most = absurd (omega arith)
    as_lent (suc i) some most = ap (λ (x : List ℕ). rivals_of x (suc i)) lent ∙ lent-read set n i most
