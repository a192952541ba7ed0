-- How the order is found, in words and in sets. Only what stands in the list of members matters: two sets, and two ways of naming, that agree on the members
-- give the same turns, so the table's words and the lent sets do. Assumes nothing.
use Prim.Native.Nat.{ℕ, zero, suc, ◌-◌, ◌<◌, ◌≤◌}
use borrow.Author.Tests.{eq-eqb, ne_eqb}
use mathlib.Core.Bool.{Bool, true, false, cond, not, ◌&&◌}
use mathlib.Core.List.{List, [], ◌∷◌}
use mathlib.Core.Logic.{⊎_elim}
use mathlib.Core.Path.{◌≡◌, refl, sym, ◌∙◌, ap, ap₂}
use native.Mathlib.Omega.{arith}
use lib.Dec.{eqb}
use lib.ListN.{length, get_or, set, get_or-eq_default}
use lib.Seq.{sets}
use Rattle.basis.specs.Rows.{row}
use Rattle.basis.specs.Tests.{all_below, least}
use Rattle.basis.proofs.NumberLaws.{below_or_not}
use Rattle.basis.proofs.RowLaws.{length-row, row_same, joined_same}
use Rattle.basis.proofs.TestLaws.{
  not_both,
  fails,
  and_holds,
  not_holds,
  not_fails,
  any_same,
  all_same,
  all-at,
  least-at-most,
  least-before,
  least_passes,
  least_is,
}
use Rattle.bidder_sets.specs.BidderSets.{in_set, rivals_of}
use Rattle.bidder_sets.specs.EngineSets.{in_word, Holds, rising_members}
use Rattle.bidder_sets.proofs.SetLaws.{members-at, stored_next}
use Rattle.share_page.specs.SharePage.{names}
use Rattle.share_page.specs.EngineShare.{in_table, rival_in, first_in, next_in, left_after, turns, all_found_to}

-- the first that passes is the least index's,
pub first-at : (members : List ℕ) (test : ℕ → Bool) (k : ℕ) → k ≤ length members → ((j : ℕ) → j < k → test (get_or members j 0) ≡ false) →
    (k < length members → test (get_or members k 0) ≡ true) → first_in members test ≡ get_or members k 0
unfolding first_in
first-at members test k within none here =
    ap (λ (i : ℕ). get_or members i 0) (least_is (λ j. test (get_or members j 0)) (length members) k within none here)

-- and a member that passes, unless none does
pub first_member : (members : List ℕ) (test : ℕ → Bool) → (first_in members test ≡ 0 → ⊥) →
    (k : ℕ) × (k < length members) × (get_or members k 0 ≡ first_in members test) × (test (first_in members test) ≡ true)
unfolding first_in
first_member members test some =
    let at = least (λ j. test (get_or members j 0)) (length members) in
    ⊎_elim
    (λ (l : at < length members). (at, l, refl, least_passes (λ j. test (get_or members j 0)) (length members) l))
    (λ (l : length members ≤ at). absurd (some (get_or-eq_default members 0 {n = at} l)))
    (below_or_not at (length members))

first-same : (members : List ℕ) (test test' : ℕ → Bool) → ((k : ℕ) → k < length members → test (get_or members k 0) ≡ test' (get_or members k 0)) →
    first_in members test ≡ first_in members test'
unfolding first_in
first-same members test test' agree =
    let here : ℕ → Bool = λ k. test' (get_or members k 0) in
    let most = least-at-most here (length members) in
    first-at members test (least here (length members)) most
    (λ j l. agree j (omega arith) ∙ least-before here (length members) j l)
    (λ l. agree (least here (length members)) l ∙ least_passes here (length members) l)

-- Two ways of naming that agree on the members.
module _ (rival named' : ℕ → ℕ → Bool) (members : List ℕ)
    (same : (j k : ℕ) → j < length members → k < length members → rival (get_or members j 0) (get_or members k 0) ≡ named' (get_or members j 0) (get_or members k 0)) where
  abbrev Agree : (left left' : ℕ → Bool) → Type 0
  Agree left left' = (k : ℕ) → k < length members → left (get_or members k 0) ≡ left' (get_or members k 0)

  next-same : (left left' : ℕ → Bool) → Agree left left' → next_in rival members left ≡ next_in named' members left'
  unfolding next_in rival_in
  next-same left left' agree =
      first-same members (λ x. left x && not (rival_in rival members left x)) (λ x. left' x && not (rival_in named' members left' x))
      (λ k l.
      ap₂ (λ (s t : Bool). s && not t) (agree k l)
      (any_same (λ j. left (get_or members j 0) && rival (get_or members j 0) (get_or members k 0))
      (λ j. left' (get_or members j 0) && named' (get_or members j 0) (get_or members k 0))
      (length members) (λ j h. ap₂ ◌&&◌ (agree j h) (same j k h l))))

  module _ (left left' : ℕ → Bool) (agree : Agree left left') where
    left_same : (i : ℕ) → Agree (left_after rival members left i) (left_after named' members left' i)
    unfolding left_after
    left_same zero k l = agree k l
    left_same (suc i) k l =
        ap₂ (λ (t : Bool) (x : ℕ). t && not (eqb (get_or members k 0) x)) (left_same i k l)
        (next-same (left_after rival members left i) (left_after named' members left' i) (left_same i))

    turn_same : (i : ℕ) → next_in rival members (left_after rival members left i) ≡ next_in named' members (left_after named' members left' i)
    turn_same i = next-same (left_after rival members left i) (left_after named' members left' i) (left_same i)

    turns_same : (k : ℕ) → turns rival members left k ≡ turns named' members left' k
    unfolding turns
    turns_same k = row_same _ _ k (λ i l. turn_same i)

    found_same : (k : ℕ) → all_found_to rival members left k ≡ all_found_to named' members left' k
    unfolding all_found_to
    found_same k = all_same _ _ k (λ i l. ap (λ (x : ℕ). not (eqb x 0)) (turn_same i))

-- One turn more.
module _ (rival : ℕ → ℕ → Bool) (members : List ℕ) (left : ℕ → Bool) where
  abbrev pub turn_of : ℕ → ℕ
  turn_of i = next_in rival members (left_after rival members left i)

  -- a turn that finds one,
  pub one_left : (k word word' : ℕ) → Holds word (left_after rival members left k) → Holds word' (λ b. in_word word b && not (eqb b (turn_of k))) →
      Holds word' (left_after rival members left (suc k))
  unfolding left_after
  one_left k word word' held taken b some most = taken b some most ∙ ap (λ (t : Bool). t && not (eqb b (turn_of k))) (held b some most)

  pub one_found : (k : ℕ) → all_found_to rival members left k ≡ true → (turn_of k ≡ 0 → ⊥) → all_found_to rival members left (suc k) ≡ true
  unfolding all_found_to all_below
  one_found k e h = and_holds e (not_holds (ne_eqb (turn_of k) 0 h))

  pub one_turned : (out : List ℕ) (k : ℕ) → set (sets out 0 (turns rival members left k)) k (turn_of k) ≡ sets out 0 (turns rival members left (suc k))
  unfolding turns row
  one_turned out k = stored_next out (turns rival members left k) k (turn_of k) (sym (length-row turn_of k))

  -- and one that finds none, which ends the search
  pub none_found : (k n : ℕ) → k < n → turn_of k ≡ 0 → all_found_to rival members left n ≡ false
  unfolding all_found_to
  none_found k n l e =
      fails (all_below (λ i. not (eqb (turn_of i) 0)) n)
      (λ h. not_both (all-at (λ i. not (eqb (turn_of i) 0)) n h k l) (not_fails (eq-eqb (turn_of k) 0 e)))

-- The next one as the words give it, of members from 1 to 64.
pub words-next : (rival : ℕ → ℕ → Bool) (members : List ℕ) → ((k : ℕ) → k < length members → (0 < get_or members k 0) × (get_or members k 0 ≤ 64)) →
    (left : ℕ → Bool) (word out free : ℕ) → Holds word left → ((x : ℕ) → in_word out x ≡ rival_in rival members (in_word word) x) →
    ((x : ℕ) → in_word free x ≡ (in_word word x && not (in_word out x))) → first_in members (in_word free) ≡ next_in rival members left
unfolding next_in
words-next rival members inside left word out free held told rest =
    first-same members (in_word free) (λ x. in_word word x && not (rival_in rival members (in_word word) x))
    (λ k l. rest (get_or members k 0) ∙ ap (λ (t : Bool). in_word word (get_or members k 0) && not t) (told (get_or members k 0)))
    ∙ next-same rival rival members (λ j k l l'. refl) (in_word word) left (λ k l. held (get_or members k 0) (inside k l).0 (inside k l).1)

-- Words that hold the lent sets: those of the table the rivals of each bidder, the one word the members.
module _ (n : ℕ) (few : n ≤ 64) (sets members table : List ℕ) (word : ℕ)
    (tabled : (i : ℕ) → i < n → Holds (get_or table i 0) (in_set (rivals_of sets (suc i)))) (held : Holds word (in_set members)) where
  -- the list that the word gives
  pub word_members : rising_members (in_word word) n ≡ rising_members (in_set members) n
  unfolding rising_members
  word_members =
      joined_same (λ i. cond (in_word word (suc i)) (suc i ∷ []) []) (λ i. cond (in_set members (suc i)) (suc i ∷ []) []) n
      (λ i l. ap (λ (t : Bool). cond t (suc i ∷ []) []) (held (suc i) (omega arith) (omega arith)))

  abbrev rising : List ℕ
  rising = rising_members (in_set members) n

  names_tabled : (x y : ℕ) → 0 < x → x ≤ n → 0 < y → y ≤ n → in_table table x y ≡ names sets x y
  names_tabled zero y a b p q = absurd (omega arith)
  names_tabled (suc i) y a b p q =
      let index : suc i - 1 ≡ i = omega arith in
      ap (λ (k : ℕ). in_word (get_or table k 0) y) index ∙ tabled i b y p (omega arith)

  agree_named : (j k : ℕ) → j < length rising → k < length rising →
      in_table table (get_or rising j 0) (get_or rising k 0) ≡ names sets (get_or rising j 0) (get_or rising k 0)
  agree_named j k l l' =
      let one = members-at (in_set members) n j l in
      let other = members-at (in_set members) n k l' in
      names_tabled (get_or rising j 0) (get_or rising k 0) one.0 one.1 other.0 other.1

  agree_held : (k : ℕ) → k < length rising → in_word word (get_or rising k 0) ≡ in_set members (get_or rising k 0)
  agree_held k l = let h = members-at (in_set members) n k l in let some = h.0 in let most = h.1 in held (get_or rising k 0) some (omega arith)

  -- the turns and whether each finds one are those of the sets
  pub words-turns : (k : ℕ) → turns (in_table table) rising (in_word word) k ≡ turns (names sets) rising (in_set members) k
  words-turns = turns_same (in_table table) (names sets) rising agree_named (in_word word) (in_set members) agree_held

  pub words_found : (k : ℕ) → all_found_to (in_table table) rising (in_word word) k ≡ all_found_to (names sets) rising (in_set members) k
  words_found = found_same (in_table table) (names sets) rising agree_named (in_word word) (in_set members) agree_held
