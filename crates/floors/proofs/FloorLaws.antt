-- When a list of floors is refused, and with which number; what is known of one that is not. Assumes nothing.
use Prim.Native.Nat.{ℕ, zero, suc, ◌<◌, ◌≤◌}
use borrow.Author.Tests.{eq-eqb, ne_eqb, lt-ltb, le-ltb, ltb-false}
use mathlib.Core.Bool.{Bool, true, false, not, ◌||◌}
use mathlib.Core.List.{List}
use mathlib.Core.Logic.{⊎_elim}
use mathlib.Core.Path.{◌≡◌, refl, sym, ◌∙◌, ap, ap₂, subst}
use native.Mathlib.Omega.{arith}
use lib.Dec.{eqb, ltb}
use lib.ListN.{length, get_or, take, replicate, get_or-eq_default}
use lib.Seq.{take-length}
use native.Mathlib.Numerals.{add-one}
use Rattle.std.specs.List.{list_any}
use Rattle.std.proofs.lemmas.List.Folds.{list_any_more}
use Rattle.basis.specs.Tests.{any_below}
use Rattle.basis.specs.First.{◌when◌otherwise◌}
use Rattle.basis.proofs.FirstLaws.{when_none}
use Rattle.basis.proofs.NumberLaws.{same_or_not, below_or_not}
use Rattle.basis.proofs.TestLaws.{any_at, any_none, none_any, not_both, not_holds, not_fails}
use Rattle.sheet.specs.Sheet.{slot_count, tick_field}
use Rattle.sheet.specs.Refusal.{Accepted}
use Rattle.sheet.specs.Round.{round_of, with_floors}
use Rattle.sheet.specs.Proper.{ProperRound, ProperFloors}
use Rattle.sheet.proofs.AcceptedLaws.{accepted-sheet}
use Rattle.sheet.proofs.RoundLaws.{round_slots, round_proper}
use Rattle.sheet.proofs.FloorLaws.{floors-proper}
use Rattle.choice.specs.Critical.{Asked}
use Rattle.choice.proofs.CriticalLaws.{zeros_asked}
use Rattle.floors.specs.Floors.{some_too_high, floors_refusal}

-- some element of a list passes a test: so does some number below its length, of which the element there is tested
any_first : (test : ℕ → Bool) (list : List ℕ) (i : ℕ) → i ≤ length list → list_any test (take i list) ≡ any_below (λ k. test (get_or list k 0)) i
unfolding any_below
any_first test list zero l = refl
any_first test list (suc i) l =
    ap (λ (n : ℕ). list_any test (take n list)) (sym (add-one i))
    ∙ list_any_more test list i 0 l
    ∙ ap (λ (t : Bool). t || test (get_or list i 0)) (any_first test list i (omega arith))

any_index : (test : ℕ → Bool) (list : List ℕ) → list_any test list ≡ any_below (λ k. test (get_or list k 0)) (length list)
any_index test list = ap (list_any test) (sym (take-length list)) ∙ any_first test list (length list) (omega arith)

-- a floor of the list is above 1,000,000,000
abbrev pub too_high : List ℕ → ℕ → Bool
too_high floors k = ltb 1_000_000_000 (get_or floors k 0)

pub any_too_high : (floors : List ℕ) → list_any (λ floor. ltb 1_000_000_000 floor) floors ≡ some_too_high floors
unfolding some_too_high
any_too_high floors = any_index (λ floor. ltb 1_000_000_000 floor) floors

-- 30 for a list that is not m long,
pub thirty : (m : ℕ) (floors : List ℕ) → (length floors ≡ m → ⊥) → floors_refusal m floors ≡ 30
unfolding floors_refusal
thirty m floors h =
    ap (λ (t : Bool). 30 when t otherwise 31 when some_too_high floors otherwise 0) (not_holds (ne_eqb (length floors) m h))

-- then the floors decide
pub past_thirty : (m : ℕ) (floors : List ℕ) (t : Bool) → length floors ≡ m → some_too_high floors ≡ t → floors_refusal m floors ≡ (31 when t otherwise 0)
unfolding floors_refusal
past_thirty m floors t h e =
    ap₂ (λ (u v : Bool). 30 when u otherwise 31 when v otherwise 0) (not_fails (eq-eqb (length floors) m h)) e

-- 31 for a floor above 1,000,000,000,
pub thirty_one : (m : ℕ) (floors : List ℕ) → length floors ≡ m → (k : ℕ) → k < m → 1_000_000_000 < get_or floors k 0 → floors_refusal m floors ≡ 31
unfolding some_too_high
thirty_one m floors h k l high =
    past_thirty m floors true h (any_at (too_high floors) (length floors) k (omega arith) (lt-ltb 1_000_000_000 (get_or floors k 0) high))

-- and else none
pub passed : (m : ℕ) (floors : List ℕ) → length floors ≡ m → ((k : ℕ) → k < m → get_or floors k 0 ≤ 1_000_000_000) → floors_refusal m floors ≡ 0
unfolding some_too_high
passed m floors h low =
    past_thirty m floors false h
    (none_any (too_high floors) (length floors) (λ k l. le-ltb 1_000_000_000 (get_or floors k 0) (low k (omega arith))))

-- what is known of a list that is not refused
pub passed-proper : (m : ℕ) (floors : List ℕ) → floors_refusal m floors ≡ 0 → ProperFloors m floors
unfolding floors_refusal some_too_high
passed-proper m floors e =
    let long = when_none 29 (not (eqb (length floors) m)) (31 when some_too_high floors otherwise 0) e in
    let high = when_none 30 (some_too_high floors) 0 long.1 in
    let size : length floors ≡ m =
    ⊎_elim
    (λ (q : length floors ≡ m). q)
    (λ (d : length floors ≡ m → ⊥). absurd (not_both (not_holds (ne_eqb (length floors) m d)) long.0))
    (same_or_not (length floors) m) in
    record {
      enough = omega arith;
      most = λ k.
          ⊎_elim
          (λ (l : k < length floors). ltb-false 1_000_000_000 (get_or floors k 0) (any_none (too_high floors) (length floors) high.0 k l))
          (λ (l : length floors ≤ k). let past : get_or floors k 0 ≡ 0 = get_or-eq_default floors 0 l in omega arith)
          (below_or_not k (length floors));
    }

-- so an accepted sheet's round with the floors of one is proper
pub passed_round : (s floors : List ℕ) → Accepted s → floors_refusal (slot_count s) floors ≡ 0 → ProperRound (with_floors (round_of s) floors)
passed_round s floors ok e =
    floors-proper (round_of s) floors (round_proper s ok)
    (subst (λ (m : ℕ). ProperFloors m floors) (sym (round_slots s)) (passed-proper (slot_count s) floors e))

-- floors of 0 ask nothing of an accepted sheet
pub none-asked : (s : List ℕ) → Accepted s → Asked (tick_field s) (slot_count s) (replicate 16 0) (replicate 16 0)
none-asked s ok =
    let counts = (accepted-sheet s ok).counts in
    zeros_asked (tick_field s) (slot_count s) counts.some_tick counts.most_slots
