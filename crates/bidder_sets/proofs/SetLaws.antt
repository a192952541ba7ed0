-- A set in one word: a bidder's bit is the one below its number; a list that is read has the bidders of its numbers, those so far and the next. And the list of
-- a set: its bidders so far and the next, if that is a member. Assumes nothing.
use Prim.Native.Nat.{ℕ, suc, ◌-◌, ◌<◌, ◌≤◌}
use borrow.Author.Tests.{eq-eqb, eqb-true}
use mathlib.Core.Bool.{Bool, true, false, cond, ◌||◌}
use mathlib.Core.List.{List, [], ◌∷◌, ◌++◌, append-nil}
use mathlib.Core.Path.{◌≡◌, sym, ◌∙◌, ap, ap₂}
use native.Mathlib.Nat.{zero-add}
use native.Mathlib.Omega.{arith}
use lib.Dec.{eqb}
use lib.ListN.{length, get_or, set, take, drop}
use lib.Seq.{sets, take_at}
use Rattle.basis.specs.Rows.{joined}
use Rattle.basis.specs.Tests.{any_below}
use Rattle.basis.proofs.BitLaws.{bit_zero}
use Rattle.basis.proofs.CountLaws.{count-at-most}
use Rattle.basis.proofs.NumberLaws.{eqb_turned}
use Rattle.basis.proofs.RisingLaws.{at_mem}
use Rattle.basis.proofs.RowLaws.{sets_then, sets_front}
use Rattle.basis.proofs.TestLaws.{same_tests}
use Rattle.bidder_sets.specs.EngineSets.{in_word, Holds, rising_members}
use Rattle.bidder_sets.proofs.MembersLaws.{members_where, members-many}

-- two bidders have the same bit where they are the same
pub same_bit : (a b : ℕ) → 0 < a → 0 < b → eqb (a - 1) (b - 1) ≡ eqb a b
same_bit a b some some' =
    same_tests (eqb (a - 1) (b - 1)) (eqb a b)
    (λ e. eq-eqb a b (let same = eqb-true (a - 1) (b - 1) e in omega arith))
    (λ e. eq-eqb (a - 1) (b - 1) (let same = eqb-true a b e in omega arith))

-- bidder b is among the first k numbers of a list
abbrev pub among : List ℕ → ℕ → ℕ → Bool
among list k b = any_below (λ j. eqb (get_or list j 0) b) k

pub none-among : (list : List ℕ) → Holds 0 (among list 0)
unfolding any_below
none-among list b some most = bit_zero (b - 1)

pub next-among : (list : List ℕ) (k word more : ℕ) → Holds word (among list k) → Holds more (λ b. in_word word b || eqb b (get_or list k 0)) →
    Holds more (among list (suc k))
unfolding any_below
next-among list k word more held added b some most = added b some most ∙ ap₂ ◌||◌ (held b some most) (eqb_turned b (get_or list k 0))

module _ (member : ℕ → Bool) where
  -- the list of a set with one bidder more, who is a member,
  pub members-next : (i : ℕ) → member (suc i) ≡ true → rising_members member (suc i) ≡ rising_members member i ++ (suc i ∷ [])
  unfolding rising_members joined
  members-next i e = ap (λ (t : Bool). rising_members member i ++ cond t (suc i ∷ []) []) e

  -- or is not
  pub members-same : (i : ℕ) → member (suc i) ≡ false → rising_members member (suc i) ≡ rising_members member i
  unfolding rising_members joined
  members-same i e = ap (λ (t : Bool). rising_members member i ++ cond t (suc i ∷ []) []) e ∙ append-nil (rising_members member i)

  -- it has at most all
  pub members-few : (n : ℕ) → length (rising_members member n) ≤ n
  members-few n = let same = members-many member n in let most = count-at-most (λ i. member (suc i)) n in omega arith

  -- what stands in it are members of 1 to n
  pub members-at : (n j : ℕ) → j < length (rising_members member n) →
      (0 < get_or (rising_members member n) j 0) × (get_or (rising_members member n) j 0 ≤ n) × (member (get_or (rising_members member n) j 0) ≡ true)
  members-at n j l = let found = members_where member n _ (at_mem (rising_members member n) 0 j l) in (found.1, found.2, found.0)

-- a list at the front of a space is taken back from there
pub list_front : (space list : List ℕ) (count : ℕ) → count ≡ length list → length list ≤ length space → take count (sets space 0 list) ≡ list
list_front space list count e room =
    ap (take count) (sets_front list space room) ∙ take_at list (drop (length list) space) count (sym e)

-- a number stored where a list ends
pub stored_next : (out list : List ℕ) (end x : ℕ) → end ≡ length list → set (sets out 0 list) end x ≡ sets out 0 (list ++ (x ∷ []))
stored_next out list end x e = ap (λ (n : ℕ). set (sets out 0 list) n x) (e ∙ sym (zero-add (length list))) ∙ sets_then list (x ∷ []) out 0
