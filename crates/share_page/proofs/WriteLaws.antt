-- The call's ways out: each number, a no and a yes. The turns that the words give are those of the sets, and so come to what trying all orders does.
-- Assumes nothing.
use Prim.Native.Nat.{ℕ, zero, suc, ◌<◌, ◌≤◌}
use borrow.Author.Tests.{le-leb, lt-leb}
use mathlib.Core.Bool.{Bool, true, false, cond, ◌&&◌, and-false}
use mathlib.Core.List.{List, [], ◌++◌}
use mathlib.Core.Path.{◌≡◌, refl, sym, ◌∙◌, ap}
use native.Mathlib.Omega.{arith}
use lib.Dec.{leb}
use lib.ListN.{length, get_or, drop}
use Rattle.basis.proofs.FirstLaws.{refused_leaves, answered-gives}
use Rattle.basis.proofs.RowLaws.{length-row}
use Rattle.basis.proofs.TestLaws.{and_holds}
use Rattle.slot_terms.specs.SlotTerms.{size_refusal}
use Rattle.bidder_sets.specs.BidderSets.{in_set, member_count, numbers_wrong, rivals_of}
use Rattle.bidder_sets.specs.EngineSets.{in_word, Holds, rising_members}
use Rattle.bidder_sets.proofs.MembersLaws.{members-many}
use Rattle.bidder_sets.proofs.NumberedLaws.{in_numbered}
use Rattle.share_page.specs.SharePage.{
  names,
  puts_above,
  some_of,
  first_of,
  member_orders,
  can_share,
  order_written,
  order_buffer,
  sets_refusal,
  share_refusal,
  PageShared,
}
use Rattle.share_page.specs.EngineShare.{in_table, turns, all_found_to}
use Rattle.share_page.proofs.RefusalLaws.{size-first, members_wrong, sets_first, nineteen, answered}
use Rattle.share_page.proofs.SharingLaws.{some_found, first_found}
use Rattle.share_page.proofs.TableLaws.{word_members, words-turns, words_found}

module _ (n m : ℕ) (members rivals out : List ℕ) where
  abbrev number : ℕ
  number = share_refusal n m members rivals out

  -- refused with a number, or a no
  abbrev Left : ℕ → Type 0
  Left k = PageShared n m members rivals out (record { refusal = k; yes = false }) out

  left : (k : ℕ) → k ≡ number → (k ≡ 0 → ⊥) → Left k
  left k same h =
      record {
        number = same;
        answer = refused_leaves number k (can_share n m members rivals) false same h;
        buffer = refused_leaves number k (order_buffer n m members rivals out) out same h;
      }

  pub size-refused : (k : ℕ) → k ≡ size_refusal n m → (k ≡ 0 → ⊥) → Left k
  size-refused zero same h = absurd (h refl)
  size-refused (suc k) same h = left (suc k) (sym (size-first n m members rivals out k (sym same))) h

  module _ (fits : size_refusal n m ≡ 0) where
    pub members-refused : numbers_wrong n members ≡ true → Left 23
    members-refused wrong = left 23 (sym (members_wrong n m members rivals out fits wrong)) (λ z. absurd (omega arith))

    module _ (right : numbers_wrong n members ≡ false) where
      pub sets-refused : (k : ℕ) → k ≡ sets_refusal n rivals → (k ≡ 0 → ⊥) → Left k
      sets-refused zero same h = absurd (h refl)
      sets-refused (suc k) same h = left (suc k) (sym (sets_first n m members rivals out fits k right (sym same))) h

      module _ (lent : sets_refusal n rivals ≡ 0) where
        pub no_answered : can_share n m members rivals ≡ false → Left 0
        unfolding order_written order_buffer
        no_answered cannot =
            let nothing : order_written n m members rivals ≡ [] = ap (λ (t : Bool). cond t (first_of (puts_above (names rivals)) (member_orders n members)) []) cannot in
            let long = ap length nothing in
            let none : number ≡ 0 = answered n m members rivals out fits right lent (omega arith) in
            record {
              number = sym none;
              answer = sym cannot ∙ answered-gives number (can_share n m members rivals) false none;
              buffer = sym (ap (λ (l : List ℕ). l ++ drop (length l) out) nothing) ∙ answered-gives number (order_buffer n m members rivals out) out none;
            }

        module _ (order : List ℕ) (can : can_share n m members rivals ≡ true) (first : order ≡ first_of (puts_above (names rivals)) (member_orders n members)) where
          written : order_written n m members rivals ≡ order
          unfolding order_written
          written = ap (λ (t : Bool). cond t (first_of (puts_above (names rivals)) (member_orders n members)) []) can ∙ sym first

          pub buffer_short : length out < length order → Left 19
          buffer_short less =
              let long = ap length written in
              left 19 (sym (nineteen n m members rivals out fits right lent (omega arith))) (λ z. absurd (omega arith))

          pub order_written_lem : (whole : List ℕ) → length order ≤ length out → whole ≡ order ++ drop (length order) out →
              PageShared n m members rivals out (record { refusal = 0; yes = true }) whole
          unfolding order_buffer
          order_written_lem whole room e =
              let long = ap length written in
              let none : number ≡ 0 = answered n m members rivals out fits right lent (omega arith) in
              record {
                number = sym none;
                answer = sym can ∙ answered-gives number (can_share n m members rivals) false none;
                buffer =
                    e
                    ∙ sym (ap (λ (l : List ℕ). l ++ drop (length l) out) written)
                    ∙ answered-gives number (order_buffer n m members rivals out) out none;
              }

-- What the call has read past its numbers: the members in a word and in rising order, and the rivals of each bidder in a word of the table.
pub record Words (n : ℕ) (members rivals table : List ℕ) (word : ℕ) (rising : List ℕ) : Type 0 where
  pub few : n ≤ 64
  pub right : numbers_wrong n members ≡ false
  pub tabled : (i : ℕ) → i < n → Holds (get_or table i 0) (in_set (rivals_of rivals (suc i)))
  pub held : Holds word (in_set members)
  pub listing : rising ≡ rising_members (in_word word) n

module _ (n m : ℕ) (members rivals table : List ℕ) (word : ℕ) (rising : List ℕ) (read : Words n members rivals table word rising) where
  abbrev all : List ℕ
  all = rising_members (in_set members) n

  rising_is : rising ≡ all
  rising_is = read.listing ∙ word_members n read.few rivals members table word read.tabled read.held

  many : length all ≡ member_count n members
  unfolding member_count
  many = members-many (in_set members) n

  size_is : length rising ≡ member_count n members
  size_is = ap length rising_is ∙ many

  -- each turn finds one where some order of all passes,
  abbrev found : Bool
  found = all_found_to (in_table table) rising (in_word word) (length rising)

  found_sets : found ≡ all_found_to (names rivals) all (in_set members) (member_count n members)
  found_sets =
      ap (λ (l : List ℕ). all_found_to (in_table table) l (in_word word) (length l)) rising_is
      ∙ words_found n read.few rivals members table word read.tabled read.held (length all)
      ∙ ap (all_found_to (names rivals) all (in_set members)) many

  found_some : found ≡ some_of (puts_above (names rivals)) (member_orders n members)
  unfolding member_count
  found_some = found_sets ∙ sym (some_found (names rivals) n (in_set members) (in_numbered n members read.right))

  -- and then they are the first that does
  pub turns-first : found ≡ true → turns (in_table table) rising (in_word word) (length rising) ≡ first_of (puts_above (names rivals)) (member_orders n members)
  unfolding member_count
  turns-first e =
      ap (λ (l : List ℕ). turns (in_table table) l (in_word word) (length l)) rising_is
      ∙ words-turns n read.few rivals members table word read.tabled read.held (length all)
      ∙ ap (turns (names rivals) all (in_set members)) many
      ∙ sym (first_found (names rivals) n (in_set members) (in_numbered n members read.right) (sym found_sets ∙ e))

  -- so it is a no for too many members or where a turn finds none, and else a yes
  pub too_many : m < length rising → can_share n m members rivals ≡ false
  unfolding can_share
  too_many more =
      let size = size_is in
      ap (λ (t : Bool). t && some_of (puts_above (names rivals)) (member_orders n members)) (lt-leb (member_count n members) m (omega arith))

  pub none_passes : found ≡ false → can_share n m members rivals ≡ false
  unfolding can_share
  none_passes e = ap (λ (t : Bool). leb (member_count n members) m && t) (sym found_some ∙ e) ∙ and-false (leb (member_count n members) m)

  pub one_passes : length rising ≤ m → found ≡ true → can_share n m members rivals ≡ true
  unfolding can_share
  one_passes fit e = let size = size_is in and_holds (le-leb (member_count n members) m (omega arith)) (sym found_some ∙ e)

-- as many as the members
pub turns-many : (rival : ℕ → ℕ → Bool) (members : List ℕ) (left : ℕ → Bool) (k : ℕ) → length (turns rival members left k) ≡ k
unfolding turns
turns-many rival members left k = length-row _ k
