-- The numbers of a set: wrong where one is 0 or above n, and else every member is a bidder. And lists with the same members are one set. Assumes nothing.
use Prim.Native.Nat.{ℕ, ◌<◌, ◌≤◌}
use borrow.Author.Tests.{eq-eqb, eqb-true}
use mathlib.Core.Bool.{Bool, true, false, ◌||◌, true≢false}
use mathlib.Core.List.{List}
use mathlib.Core.Logic.{◌⊎◌}
use mathlib.Core.Path.{◌≡◌, refl, sym, ◌∙◌, ap, subst, fun_ext}
use lib.Dec.{eqb, ltb}
use lib.ListN.{length, get_or}
use Rattle.basis.proofs.NumberLaws.{outside, inside, from_inside}
use Rattle.basis.proofs.TestLaws.{same_tests, fails, any_at, any_where, any_none, none_any}
use Rattle.bidder_sets.specs.BidderSets.{in_set, numbers_wrong}

module _ (n : ℕ) (set : List ℕ) where
  abbrev wrong_at : ℕ → Bool
  wrong_at k = eqb (get_or set k 0) 0 || ltb n (get_or set k 0)

  pub wrong_at_lem : (k : ℕ) → k < length set → (get_or set k 0 ≡ 0) ⊎ (n < get_or set k 0) → numbers_wrong n set ≡ true
  unfolding numbers_wrong
  wrong_at_lem k l bad = any_at wrong_at (length set) k l (outside (get_or set k 0) n bad)

  pub numbered_right : ((k : ℕ) → k < length set → (0 < get_or set k 0) × (get_or set k 0 ≤ n)) → numbers_wrong n set ≡ false
  unfolding numbers_wrong
  numbered_right h = none_any wrong_at (length set) (λ k l. inside (get_or set k 0) n (h k l).0 (h k l).1)

  right_numbered : numbers_wrong n set ≡ false → (k : ℕ) → k < length set → (0 < get_or set k 0) × (get_or set k 0 ≤ n)
  unfolding numbers_wrong
  right_numbered e k l = from_inside (get_or set k 0) n (any_none wrong_at (length set) e k l)

  -- a member is one of bidders 1 to n
  pub in_numbered : numbers_wrong n set ≡ false → (b : ℕ) → in_set set b ≡ true → (0 < b) × (b ≤ n)
  unfolding in_set
  in_numbered e b t =
      let w = any_where (λ k. eqb (get_or set k 0) b) (length set) t in
      subst (λ (x : ℕ). (0 < x) × (x ≤ n)) (eqb-true (get_or set w.0 0) b w.2) (right_numbered e w.0 w.1)

-- where an answer is there, nothing was wrong
pub told_right : {wrong : Bool} → (wrong ≡ true → true ≡ false) → wrong ≡ false
told_right h = fails _ (λ t. true≢false (h t))

pub same_set : (set set' : List ℕ) → ((b : ℕ) → in_set set b ≡ in_set set' b) → in_set set ≡ in_set set'
same_set set set' same = fun_ext same

-- and so are its numbers wrong or not
no_more_wrong : (n : ℕ) (set set' : List ℕ) → ((b : ℕ) → in_set set b ≡ in_set set' b) → numbers_wrong n set ≡ true → numbers_wrong n set' ≡ true
unfolding numbers_wrong in_set
no_more_wrong n set set' same t =
    let w = any_where (wrong_at n set) (length set) t in
    let x = get_or set w.0 0 in
    let there = sym (same x) ∙ any_at (λ k. eqb (get_or set k 0) x) (length set) w.0 w.1 (eq-eqb x x refl) in
    let v = any_where (λ k. eqb (get_or set' k 0) x) (length set') there in
    any_at (wrong_at n set') (length set') v.0 v.1
    (ap (λ (y : ℕ). eqb y 0 || ltb n y) (eqb-true (get_or set' v.0 0) x v.2) ∙ w.2)

pub same_wrong : (n : ℕ) (set set' : List ℕ) → ((b : ℕ) → in_set set b ≡ in_set set' b) → numbers_wrong n set ≡ numbers_wrong n set'
same_wrong n set set' same =
    same_tests (numbers_wrong n set) (numbers_wrong n set') (no_more_wrong n set set' same) (no_more_wrong n set' set (λ b. sym (same b)))
