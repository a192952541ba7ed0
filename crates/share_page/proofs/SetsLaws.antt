-- What is known after i rival sets are read, and which number that gives: a set that runs past the bytes makes the n sets longer than the bytes are.
-- Assumes nothing.
use Prim.Native.Nat.{ℕ, zero, suc, ◌<◌, ◌≤◌}
use borrow.Author.Tests.{ltb-true}
use mathlib.Core.Bool.{Bool, true, false, ◌||◌}
use mathlib.Core.List.{List}
use mathlib.Core.Logic.{⊎_elim}
use mathlib.Core.Path.{◌≡◌, refl, sym, ◌∙◌, ap, ap₂}
use native.Mathlib.Nat.{eq-or-lt_of_le, le_of_suc-le-suc}
use native.Mathlib.Omega.{arith}
use lib.Dec.{ltb}
use lib.ListN.{length, get_or, set, length-set}
use lib.Seq.{get_or-set_same, get_or-set_other}
use Rattle.basis.specs.Tests.{any_below}
use Rattle.basis.proofs.TestLaws.{or_parts, any_where, any_none}
use Rattle.bidder_sets.specs.BidderSets.{in_set, numbers_wrong, set_at, end_at, sets_end, rivals_of}
use Rattle.bidder_sets.specs.EngineSets.{in_word, Holds}
use Rattle.share_page.specs.SharePage.{names, sets_refusal}
use Rattle.share_page.proofs.RefusalLaws.{sets_not, sets_wrong, sets-own, sets-none}

-- more sets end later
end_grows : (sets : List ℕ) (i n : ℕ) → i ≤ n → sets_end sets i ≤ sets_end sets n
unfolding sets_end end_at
end_grows sets i zero l = let same : i ≡ 0 = omega arith in let e = ap (sets_end sets) same in omega arith
end_grows sets i (suc n) l =
    ⊎_elim
    (λ (e : i ≡ suc n). let same = ap (sets_end sets) e in omega arith)
    (λ (lt : i < suc n). let less = end_grows sets i n (le_of_suc-le-suc lt) in omega arith)
    (eq-or-lt_of_le l)

module _ (n : ℕ) (sets : List ℕ) where
  -- the set after i others runs past the bytes, or has a wrong number
  pub set_wrong : (i at : ℕ) → i < n → at ≡ sets_end sets i → (ltb (length sets) (end_at sets at) || numbers_wrong n (set_at sets at)) ≡ true → sets_refusal n sets ≡ 23
  unfolding sets_end rivals_of
  set_wrong i at inside place e =
      ⊎_elim
      (λ (t : ltb (length sets) (end_at sets at) ≡ true).
      let past = ltb-true (length sets) (end_at sets at) t in
      let end = ap (end_at sets) place in
      let more = end_grows sets (suc i) n inside in
      sets_not n sets (λ h. absurd (omega arith)))
      (λ (t : numbers_wrong n (set_at sets at) ≡ true). sets_wrong n sets i inside (ap (λ (x : ℕ). numbers_wrong n (set_at sets x)) (sym place) ∙ t))
      (or_parts (ltb (length sets) (end_at sets at)) (numbers_wrong n (set_at sets at)) e)

-- i sets are read: they end at a byte, their numbers are right, each stands in its word, and whether one has its own bidder is known
pub record SetsRead (n : ℕ) (sets table : List ℕ) (own : Bool) (at i : ℕ) : Type 0 where
  pub size : length table ≡ 64
  pub end : at ≡ sets_end sets i
  pub right : (j : ℕ) → j < i → numbers_wrong n (rivals_of sets (suc j)) ≡ false
  pub self : own ≡ any_below (λ j. names sets (suc j) (suc j)) i
  pub tabled : (j : ℕ) → j < i → Holds (get_or table j 0) (in_set (rivals_of sets (suc j)))

module _ (n : ℕ) (sets table : List ℕ) where
  pub none_read : length table ≡ 64 → SetsRead n sets table false 0 0
  unfolding sets_end any_below
  none_read size = record { size = size; end = refl; right = λ j l. absurd (omega arith); self = refl; tabled = λ j l. absurd (omega arith) }

  module _ (own : Bool) (at i : ℕ) (read : SetsRead n sets table own at i) where
    pub one_read : (word : ℕ) (itself : Bool) → i < 64 → numbers_wrong n (set_at sets at) ≡ false → Holds word (in_set (set_at sets at)) →
        itself ≡ in_word word (suc i) → SetsRead n sets (set table i word) (own || itself) (end_at sets at) (suc i)
    unfolding sets_end rivals_of any_below
    one_read word itself few right held told =
        let size = read.size in
        let there : set_at sets at ≡ rivals_of sets (suc i) = ap (set_at sets) read.end in
        record {
          size = length-set table i word ∙ size;
          end = ap (end_at sets) read.end;
          right = λ j l.
              ⊎_elim
              (λ (q : j ≡ i). ap (λ (x : ℕ). numbers_wrong n (rivals_of sets (suc x))) q ∙ ap (numbers_wrong n) (sym there) ∙ right)
              (λ (less : j < i). read.right j less)
              (eq-or-lt_of_le (le_of_suc-le-suc l));
          self = ap₂ ◌||◌ read.self (told ∙ held (suc i) (omega arith) few ∙ ap (λ (s : List ℕ). in_set s (suc i)) there);
          tabled = λ j l.
              ⊎_elim
              (λ (q : j ≡ i). λ b some most.
              ap (λ (x : ℕ). in_word (get_or (set table i word) x 0) b) q
              ∙ ap (λ (w : ℕ). in_word w b) (get_or-set_same table i word 0 (omega arith))
              ∙ held b some most
              ∙ ap (λ (s : List ℕ). in_set s b) (there ∙ ap (λ (x : ℕ). rivals_of sets (suc x)) (sym q)))
              (λ (less : j < i). λ b some most.
              ap (λ (w : ℕ). in_word w b) (get_or-set_other table i j word 0 (λ q. absurd (omega arith))) ∙ read.tabled j less b some most)
              (eq-or-lt_of_le (le_of_suc-le-suc l));
        }

  module _ (own : Bool) (at : ℕ) (read : SetsRead n sets table own at n) where
    pub not_all : (at ≡ length sets → ⊥) → sets_refusal n sets ≡ 23
    not_all h = sets_not n sets (λ e. h (read.end ∙ e))

    module _ (all : at ≡ length sets) where
      pub own-there : own ≡ true → sets_refusal n sets ≡ 24
      own-there e =
          let w = any_where (λ j. names sets (suc j) (suc j)) n (sym read.self ∙ e) in
          sets-own n sets (sym read.end ∙ all) read.right w.0 w.1 w.2

      pub all_right : own ≡ false → sets_refusal n sets ≡ 0
      all_right e = sets-none n sets (sym read.end ∙ all) read.right (any_none (λ j. names sets (suc j) (suc j)) n (sym read.self ∙ e))
