-- The cases of a best_page_lem call: a refused sheet, refused floors, a round beyond the bounds, a short buffer, and a best page. Assumes nothing.
use Prim.Native.Nat.{ℕ, zero, suc, ◌<◌, ◌≤◌}
use borrow.Author.Tests.{lt-ltb, le-ltb}
use mathlib.Core.List.{List, ◌++◌}
use mathlib.Core.Logic.{◌⊎◌, ⊎_elim}
use mathlib.Core.Path.{◌≡◌, refl, sym, ◌∙◌, ap, ap₂}
use native.Mathlib.Omega.{arith}
use lib.ListN.{length, drop}
use Rattle.basis.specs.First.{unless_refused}
use Rattle.basis.specs.Rows.{row}
use Rattle.basis.proofs.FirstLaws.{or_else_left, or_else_right, refused_leaves, answered-gives}
use Rattle.sheet.specs.declared.Page.{Page}
use Rattle.sheet.specs.declared.Round.{Round}
use Rattle.sheet.specs.Sheet.{bidder_count, slot_count}
use Rattle.sheet.specs.Refusal.{refusal_of, Accepted}
use Rattle.sheet.specs.Round.{round_of, with_floors}
use Rattle.floors.specs.Floors.{floors_refusal}
use Rattle.auction.specs.Page.{at}
use Rattle.auction.specs.Allowed.{total}
use Rattle.best_page.specs.BestPage.{best_page_of}
use Rattle.refusal.specs.declared.Refusal.{Refusal}
use Rattle.refusal.specs.Numbers.{number_of}
use Rattle.std.specs.Prelude.{Result}
use Rattle.std.specs.Result.{IsErrAnd}
use Rattle.std.proofs.lemmas.Result.{err_from_is_err_and}
use Rattle.best_search.specs.Call.{bounds_refusal, best_refusal, best_floors_refusal, best_buffer, Chosen, chosen_in, chosen_for, BestGiven, BestFloorsGiven}

-- what a call gives that has this number, 0 for none, and seeks the best page of this round
abbrev pub Gives : ℕ → Round → (out : List ℕ) → Chosen → (out' : List ℕ) → Type 0
Gives number r out given out' = (given ≡ chosen_for number r) × (out' ≡ unless_refused number (best_buffer r out) out)

chosen_refused : (k : ℕ) (r : Round) → (k ≡ 0 → ⊥) → record { refusal = k; total = 0 } ≡ chosen_for k r
unfolding chosen_for
chosen_refused zero r h = absurd (h refl)
chosen_refused (suc k) r h = refl

-- the number alone
abbrev Alone : ℕ → Chosen → Type 0
Alone k given = given ≡ record { refusal = k; total = 0 }

-- as `?` passes it on
pub alone : (r : Result ℕ Refusal) (refusal : Refusal) → IsErrAnd r (λ y. y ≡ refusal) → Alone (number_of refusal) (chosen_in r)
alone r refusal is = let p = err_from_is_err_and r is in rw (p.1, p.2)

refused : (r : Round) (out : List ℕ) (number k : ℕ) (given : Chosen) → Alone k given → k ≡ number → (k ≡ 0 → ⊥) → Gives number r out given out
refused r out number k given only e h =
    (only ∙ chosen_refused k r h ∙ ap (λ (n : ℕ). chosen_for n r) e, refused_leaves number k (best_buffer r out) out e h)

pub sheet-refused : (s out : List ℕ) (k : ℕ) (given : Chosen) → Alone k given → k ≡ refusal_of s → (k ≡ 0 → ⊥) → BestGiven s out given out
unfolding best_refusal
sheet-refused s out k given only e h =
    let gives = refused (round_of s) out (best_refusal s out) k given only (e ∙ sym (or_else_left (refusal_of s) _ (λ z. h (e ∙ z)))) h in
    record { returned = gives.0; buffer = gives.1 }

pub floors-sheet-refused : (f s out : List ℕ) (k : ℕ) (given : Chosen) → Alone k given → k ≡ refusal_of s → (k ≡ 0 → ⊥) → BestFloorsGiven f s out given out
unfolding best_floors_refusal
floors-sheet-refused f s out k given only e h =
    let gives = refused (with_floors (round_of s) f) out (best_floors_refusal f s out) k given only (e ∙ sym (or_else_left (refusal_of s) _ (λ z. h (e ∙ z)))) h in
    record { returned = gives.0; buffer = gives.1 }

pub floors-refused : (f s out : List ℕ) (k : ℕ) (given : Chosen) → Alone k given → Accepted s → k ≡ floors_refusal (slot_count s) f → (k ≡ 0 → ⊥) →
    BestFloorsGiven f s out given out
unfolding best_floors_refusal
floors-refused f s out k given only ok e h =
    let gives = refused (with_floors (round_of s) f) out (best_floors_refusal f s out) k given only (e ∙ sym (or_else_right (refusal_of s) _ ok ∙ or_else_left (floors_refusal (slot_count s) f) _ (λ z. h (e ∙ z)))) h in
    record { returned = gives.0; buffer = gives.1 }

-- the two that are left of an accepted sheet, with a list of floors that is right
pub left_of_best : (s out : List ℕ) → Accepted s → best_refusal s out ≡ bounds_refusal s out
unfolding best_refusal
left_of_best s out ok = or_else_right (refusal_of s) (bounds_refusal s out) ok

pub left_of_floors : (f s out : List ℕ) → Accepted s → floors_refusal (slot_count s) f ≡ 0 → best_floors_refusal f s out ≡ bounds_refusal s out
unfolding best_floors_refusal
left_of_floors f s out ok none = or_else_right (refusal_of s) _ ok ∙ or_else_right (floors_refusal (slot_count s) f) (bounds_refusal s out) none

-- what is left decides
pub accepted-gives : (f s out out' : List ℕ) (given : Chosen) → Accepted s → with_floors (round_of s) f ≡ round_of s →
    Gives (bounds_refusal s out) (with_floors (round_of s) f) out given out' → BestGiven s out given out'
accepted-gives f s out out' given ok none gives =
    let left = sym (left_of_best s out ok) in
    record {
      returned = gives.0 ∙ ap₂ chosen_for left none;
      buffer = gives.1 ∙ ap₂ (λ (k : ℕ) (r : Round). unless_refused k (best_buffer r out) out) left none;
    }

pub floored-gives : (f s out out' : List ℕ) (given : Chosen) → Accepted s → floors_refusal (slot_count s) f ≡ 0 →
    Gives (bounds_refusal s out) (with_floors (round_of s) f) out given out' → BestFloorsGiven f s out given out'
floored-gives f s out out' given ok none gives =
    let left = sym (left_of_floors f s out ok none) in
    record {
      returned = gives.0 ∙ ap (λ (k : ℕ). chosen_for k (with_floors (round_of s) f)) left;
      buffer = gives.1 ∙ ap (λ (k : ℕ). unless_refused k (best_buffer (with_floors (round_of s) f) out) out) left;
    }

-- 18 and 19, and a round within the bounds with room in the buffer
module _ (r : Round) (s out : List ℕ) where
  pub too_large : (8 < bidder_count s) ⊎ ((bidder_count s ≤ 8) × (8 < slot_count s)) → Gives (bounds_refusal s out) r out (record { refusal = 18; total = 0 }) out
  unfolding bounds_refusal
  too_large many =
      refused r out (bounds_refusal s out) 18 _ refl
      (⊎_elim
      (λ (l : 8 < bidder_count s). sym (simp (lt-ltb 8 (bidder_count s) l)))
      (λ (l : (bidder_count s ≤ 8) × (8 < slot_count s)). sym (simp (le-ltb 8 (bidder_count s) l.0, lt-ltb 8 (slot_count s) l.1)))
      many)
      (λ z. absurd (omega arith))

  pub buffer_short : bidder_count s ≤ 8 → slot_count s ≤ 8 → length out < slot_count s → Gives (bounds_refusal s out) r out (record { refusal = 19; total = 0 }) out
  unfolding bounds_refusal
  buffer_short m n l =
      refused r out (bounds_refusal s out) 19 _ refl
      (sym (simp (le-ltb 8 (bidder_count s) m, le-ltb 8 (slot_count s) n, lt-ltb (length out) (slot_count s) l)))
      (λ z. absurd (omega arith))

  pub within-bounds : bidder_count s ≤ 8 → slot_count s ≤ 8 → slot_count s ≤ length out → bounds_refusal s out ≡ 0
  unfolding bounds_refusal
  within-bounds m n room = simp (le-ltb 8 (bidder_count s) m, le-ltb 8 (slot_count s) n, le-ltb (length out) (slot_count s) room)

  pub best-gives : (p : Page) (sum : ℕ) (out' : List ℕ) → bidder_count s ≤ 8 → slot_count s ≤ 8 → slot_count s ≤ length out →
      p ≡ best_page_of r → sum ≡ total r p → out' ≡ row (λ k. at p (suc k)) r.slots ++ drop r.slots out →
      Gives (bounds_refusal s out) r out (record { refusal = 0; total = sum }) out'
  unfolding chosen_for best_buffer
  best-gives p sum out' m n room best own e =
      let none = within-bounds m n room in (
        (λ j. record { refusal = 0; total = (own ∙ ap (total r) best) j }) ∙ ap (λ (k : ℕ). chosen_for k r) (sym none),
        e
            ∙ ap (λ (q : Page). row (λ k. at q (suc k)) r.slots ++ drop r.slots out) best
            ∙ answered-gives (bounds_refusal s out) (best_buffer r out) out none,
      )

-- a call on an accepted sheet within the bounds and with room is not refused
pub best_unrefused : (s out : List ℕ) → Accepted s → bidder_count s ≤ 8 → slot_count s ≤ 8 → slot_count s ≤ length out → best_refusal s out ≡ 0
best_unrefused s out ok m n room = left_of_best s out ok ∙ within-bounds (round_of s) s out m n room

-- what is written depends on the best page and on how many slots there are
pub buffer-same : (r r' : Round) → r.slots ≡ r'.slots → best_page_of r ≡ best_page_of r' → (out : List ℕ) → best_buffer r out ≡ best_buffer r' out
unfolding best_buffer
buffer-same r r' slots page out = ap₂ (λ (p : Page) (m : ℕ). row (λ k. at p (suc k)) m ++ drop m out) page slots
