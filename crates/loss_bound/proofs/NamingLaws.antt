-- Who names whom, noted pair by pair: a pair that is there changes nothing, and a new one sets one bit of the owner's word and raises one count by one, the
-- other's. So each constraint of a sheet adds its pair; and whether its rival stands above its owner is told by its slots. Assumes nothing.
use Prim.Native.Nat.{ℕ, zero, suc, ◌+◌, ◌-◌, ◌<◌, ◌≤◌}
use borrow.Author.Tests.{eq-eqb, ne_eqb, eqb-true, lt-ltb, le-ltb}
use mathlib.Core.Bool.{Bool, true, false, ◌&&◌, ◌||◌, or-false, and-false}
use mathlib.Core.List.{List}
use mathlib.Core.Logic.{⊎_elim}
use mathlib.Core.Path.{◌≡◌, refl, sym, ◌∙◌, ap, ap₂}
use native.Mathlib.Omega.{arith}
use lib.Dec.{eqb, ltb}
use lib.ListN.{length, get_or, set, length-set}
use lib.Seq.{get_or-set_same, get_or-set_other}
use Rattle.basis.specs.Tests.{any_below, all_below}
use Rattle.basis.proofs.BitLaws.{bit_zero}
use Rattle.basis.proofs.CountLaws.{count_none, count-at-most, count_same, count_one_more}
use Rattle.basis.proofs.NumberLaws.{same_or_not, eqb_turned}
use Rattle.basis.proofs.TestLaws.{same_tests, and_holds, and_parts, or_parts, or_left, fails, not_both, all-at}
use Rattle.bidder_sets.specs.EngineSets.{in_word, Holds}
use Rattle.sheet.specs.Sheet.{owner_field, own_slot_field, other_field, other_slot_field}
use Rattle.sheet.specs.Accepted.{ConstraintAccepted}
use Rattle.loss_bound.specs.LossBound.{rival_above}
use Rattle.loss_bound.specs.EngineNaming.{names_among, with_name, named_by, Noted}

module _ (rival : ℕ → ℕ → Bool) (owner other : ℕ) where
  -- a pair that is there adds nothing,
  pair_there : rival owner other ≡ true → (i j : ℕ) → rival i j ≡ with_name rival owner other i j
  pair_there there i j =
      same_tests (rival i j) (with_name rival owner other i j)
      (λ e. or_left (eqb owner i && eqb other j) e)
      (λ e.
      ⊎_elim
      (λ (t : rival i j ≡ true). t)
      (λ (t : (eqb owner i && eqb other j) ≡ true).
      let both = and_parts (eqb owner i) (eqb other j) t in
      ap₂ rival (sym (eqb-true owner i both.0)) (sym (eqb-true other j both.1)) ∙ there)
      (or_parts (rival i j) (eqb owner i && eqb other j) e))

  -- and any adds nothing to who is named by another owner, or who else is named
  another_owner : (i j : ℕ) → (owner ≡ i → ⊥) → rival i j ≡ with_name rival owner other i j
  another_owner i j apart = sym (ap (λ (t : Bool). rival i j || (t && eqb other j)) (ne_eqb owner i apart) ∙ or-false (rival i j))

  another_named : (i j : ℕ) → (other ≡ j → ⊥) → rival i j ≡ with_name rival owner other i j
  another_named i j apart =
      sym
      (ap (λ (t : Bool). rival i j || (eqb owner i && t)) (ne_eqb other j apart)
      ∙ ap (λ (t : Bool). rival i j || t) (and-false (eqb owner i))
      ∙ or-false (rival i j))

  -- what the owner names is what it named, and the other
  owner-names : (j : ℕ) → (rival owner j || eqb j other) ≡ with_name rival owner other owner j
  owner-names j =
      ap (λ (t : Bool). rival owner j || t)
      (eqb_turned j other ∙ sym (ap (λ (t : Bool). t && eqb other j) (eq-eqb owner owner refl)))

-- the same pairs are noted by the same words and counts
same_noted : (n : ℕ) (rival rival' : ℕ → ℕ → Bool) (words counts : List ℕ) → ((i j : ℕ) → rival i j ≡ rival' i j) → Noted n rival words counts →
    Noted n rival' words counts
same_noted n rival rival' words counts same h =
    record {
      few = h.few;
      sized_words = h.sized_words;
      sized_counts = h.sized_counts;
      told = λ i l b some most. h.told i l b some most ∙ same (suc i) b;
      counted = λ j. h.counted j ∙ count_same (λ i. rival (suc i) (suc j)) (λ i. rival' (suc i) (suc j)) n (λ i m. same (suc i) (suc j));
    }

-- the index of bidder k + 1 is k
before-suc : (k : ℕ) → suc k - 1 ≡ k
before-suc k = omega arith

module _ (n : ℕ) (rival : ℕ → ℕ → Bool) (words counts : List ℕ) (h : Noted n rival words counts) where
  -- no bidder is named more than n times
  pub named-few : (j : ℕ) → get_or counts j 0 ≤ n
  named-few j = let same = h.counted j in let most = count-at-most (λ i. rival (suc i) (suc j)) n in omega arith

  -- bidder o + 1 names p + 1
  module _ (o p : ℕ) (own : o < n) (named : p < n) where
    abbrev more : ℕ → ℕ → Bool
    more = with_name rival (suc o) (suc p)

    told-there : in_word (get_or words o 0) (suc p) ≡ true → Noted n more words counts
    told-there there =
        let few = h.few in
        same_noted n rival more words counts
        (pair_there rival (suc o) (suc p) (sym (h.told o own (suc p) (omega arith) (omega arith)) ∙ there))
        h

    told_new : (word : ℕ) → in_word (get_or words o 0) (suc p) ≡ false → Holds word (λ b. in_word (get_or words o 0) b || eqb b (suc p)) →
        Noted n more (set words o word) (set counts p (get_or counts p 0 + 1))
    told_new word none holds =
        let few = h.few in
        let sized = h.sized_words in
        let sized' = h.sized_counts in
        let missed : rival (suc o) (suc p) ≡ false = sym (h.told o own (suc p) (omega arith) (omega arith)) ∙ none in
        record {
          few = few;
          sized_words = length-set words o word ∙ sized;
          sized_counts = length-set counts p (get_or counts p 0 + 1) ∙ sized';
          told = λ i l b some most.
              ⊎_elim
              (λ (q : i ≡ o).
              ap (λ (x : ℕ). in_word (get_or (set words o word) x 0) b) q
              ∙ ap (λ (w : ℕ). in_word w b) (get_or-set_same words o word 0 (omega arith))
              ∙ holds b some most
              ∙ ap (λ (t : Bool). t || eqb b (suc p)) (h.told o own b some most)
              ∙ owner-names rival (suc o) (suc p) b
              ∙ ap (λ (x : ℕ). more (suc x) b) (sym q))
              (λ (d : i ≡ o → ⊥).
              ap (λ (w : ℕ). in_word w b) (get_or-set_other words o i word 0 d)
              ∙ h.told i l b some most
              ∙ another_owner rival (suc o) (suc p) (suc i) b (λ e. d (omega arith)))
              (same_or_not i o);
          counted = λ j.
              ⊎_elim
              (λ (q : j ≡ p).
              ap (λ (x : ℕ). get_or (set counts p (get_or counts p 0 + 1)) x 0) q
              ∙ get_or-set_same counts p (get_or counts p 0 + 1) 0 (omega arith)
              ∙ ap (λ (x : ℕ). x + 1) (h.counted p)
              ∙ sym
              (count_one_more (λ i. rival (suc i) (suc p)) (λ i. more (suc i) (suc p)) n o own missed
              (sym (owner-names rival (suc o) (suc p) (suc p)) ∙ ap₂ ◌||◌ missed (eq-eqb (suc p) (suc p) refl))
              (λ i d. another_owner rival (suc o) (suc p) (suc i) (suc p) (λ e. d (omega arith))))
              ∙ ap (λ (x : ℕ). named_by more n (suc x)) (sym q))
              (λ (d : j ≡ p → ⊥).
              get_or-set_other counts p j (get_or counts p 0 + 1) 0 d
              ∙ h.counted j
              ∙ count_same (λ i. rival (suc i) (suc j)) (λ i. more (suc i) (suc j)) n
              (λ i m. another_named rival (suc o) (suc p) (suc i) (suc j) (λ e. d (omega arith))))
              (same_or_not j p);
        }

  -- the same by the bidders' numbers
  pub noted_there : (owner other : ℕ) → 0 < owner → owner ≤ n → 0 < other → other ≤ n → in_word (get_or words (owner - 1) 0) other ≡ true →
      Noted n (with_name rival owner other) words counts
  noted_there zero other some own some' named there = absurd (omega arith)
  noted_there (suc o) zero some own some' named there = absurd (omega arith)
  noted_there (suc o) (suc p) some own some' named there = told-there o p own named (rw (before-suc o) at there)

  pub noted_new : (owner other : ℕ) → 0 < owner → owner ≤ n → 0 < other → other ≤ n → (word : ℕ) → in_word (get_or words (owner - 1) 0) other ≡ false →
      Holds word (λ b. in_word (get_or words (owner - 1) 0) b || eqb b other) →
      Noted n (with_name rival owner other) (set words (owner - 1) word) (set counts (other - 1) (get_or counts (other - 1) 0 + 1))
  noted_new zero other some own some' named word none holds = absurd (omega arith)
  noted_new (suc o) zero some own some' named word none holds = absurd (omega arith)
  noted_new (suc o) (suc p) some own some' named word none holds =
      rw (before-suc o, before-suc p) (told_new o p own named word (rw (before-suc o) at none) (rw (before-suc o) at holds))

-- before the first constraint nobody names anybody
pub none_noted : (s words counts : List ℕ) (n : ℕ) → n ≤ 64 → length words ≡ 64 → length counts ≡ 64 → ((i : ℕ) → get_or words i 0 ≡ 0) →
    ((j : ℕ) → get_or counts j 0 ≡ 0) → Noted n (names_among s 0) words counts
unfolding names_among any_below
none_noted s words counts n few sized sized' no_words no-counts =
    record {
      few = few;
      sized_words = sized;
      sized_counts = sized';
      told = λ i l b some most. ap (λ (w : ℕ). in_word w b) (no_words i) ∙ bit_zero (b - 1);
      counted = λ j. no-counts j ∙ sym (count_none (λ i. names_among s 0 (suc i) (suc j)) n (λ i m. refl));
    }

-- each constraint adds its pair
pub next_noted : (s words counts : List ℕ) (n k : ℕ) → Noted n (with_name (names_among s k) (owner_field s k) (other_field s k)) words counts →
    Noted n (names_among s (suc k)) words counts
unfolding names_among any_below
next_noted s words counts n k h = h

-- The constraint at index k is a pair in which the rival stands above the owner, as all before it,
module _ (s : List ℕ) (k : ℕ) where
  pub above-next : all_below (rival_above s) k ≡ true → 0 < other_slot_field s k → other_slot_field s k < own_slot_field s k →
      all_below (rival_above s) (suc k) ≡ true
  unfolding all_below rival_above
  above-next before some above =
      and_holds before (and_holds (lt-ltb 0 (other_slot_field s k) some) (lt-ltb (other_slot_field s k) (own_slot_field s k) above))

  -- or it is not one: then not all are
  one_not : (count : ℕ) → k < count → rival_above s k ≡ false → all_below (rival_above s) count ≡ false
  one_not count l e = fails (all_below (rival_above s) count) (λ all. not_both (all-at (rival_above s) count all k l) e)

  pub no_other : (count : ℕ) → k < count → other_slot_field s k ≡ 0 → all_below (rival_above s) count ≡ false
  unfolding rival_above
  no_other count l e =
      one_not count l (ap (λ (t : Bool). t && ltb (other_slot_field s k) (own_slot_field s k)) (le-ltb 0 (other_slot_field s k) (omega arith)))

  pub not_above : (count : ℕ) → k < count → own_slot_field s k ≤ other_slot_field s k → all_below (rival_above s) count ≡ false
  unfolding rival_above
  not_above count l e =
      one_not count l
      (ap (λ (t : Bool). ltb 0 (other_slot_field s k) && t) (le-ltb (other_slot_field s k) (own_slot_field s k) e) ∙ and-false (ltb 0 (other_slot_field s k)))

-- a rival's slot is a rival's
pub rival_some : {n m owner own other others : ℕ} → ConstraintAccepted n m owner own other others → 0 < others → 0 < other
rival_some {n} {m} {owner} {own} {other} f some =
    ⊎_elim (λ (e : other ≡ 0). absurd (let none = f.together e in omega arith)) (λ (h : other ≡ 0 → ⊥). omega arith) (same_or_not other 0)
