-- The cases of a play call: a refused sheet, refused floors, a short buffer, and a played round; what it writes of a round. Assumes nothing.
use Prim.Native.Nat.{ℕ, suc, ◌*◌, ◌<◌, ◌≤◌}
use borrow.Author.Tests.{lt-ltb, le-ltb}
use mathlib.Core.List.{List, ◌∷◌, ◌++◌}
use mathlib.Core.Path.{◌≡◌, sym, ◌∙◌, ap, ap₂}
use native.Mathlib.Omega.{arith}
use lib.ListN.{length, drop}
use Rattle.basis.specs.Bytes.{bytes32}
use Rattle.basis.specs.First.{unless_refused}
use Rattle.basis.specs.Rows.{joined}
use Rattle.basis.proofs.FirstLaws.{or_else_left, or_else_right, refused_leaves, answered-gives}
use Rattle.basis.proofs.RowLaws.{get_d_padded, joined_same}
use Rattle.sheet.specs.declared.Page.{Page}
use Rattle.sheet.specs.declared.Round.{Round}
use Rattle.sheet.specs.Sheet.{slot_count}
use Rattle.sheet.specs.Refusal.{refusal_of, Accepted}
use Rattle.sheet.specs.Round.{round_of, with_floors}
use Rattle.sheet.specs.Proper.{ProperRound}
use Rattle.floors.specs.Floors.{floors_refusal}
use Rattle.auction.specs.Page.{at}
use Rattle.auction.specs.Price.{price}
use Rattle.auction.specs.Except.{SameSets}
use Rattle.auction.proofs.ExceptLaws.{page-sets}
use Rattle.auction.proofs.PriceLaws.{price-sets}
use Rattle.greedy.specs.EngineOutcome.{outcome_of}
use Rattle.play.specs.Play.{room_refusal, play_refusal, play_floors_refusal, slot_entry, played_buffer, Played, PlayedFloors}
use Rattle.play.specs.EngineEntries.{entry_in}

pub sheet-refused : (s out : List ℕ) (answer : ℕ) → answer ≡ refusal_of s → (answer ≡ 0 → ⊥) → Played s out answer out
unfolding play_refusal
sheet-refused s out answer e h =
    let number : answer ≡ play_refusal s out = e ∙ sym (or_else_left (refusal_of s) _ (λ z. h (e ∙ z))) in
    record { number = number; buffer = refused_leaves (play_refusal s out) answer (played_buffer (round_of s) out) out number h }

pub floors-sheet-refused : (f s out : List ℕ) (answer : ℕ) → answer ≡ refusal_of s → (answer ≡ 0 → ⊥) → PlayedFloors f s out answer out
unfolding play_floors_refusal
floors-sheet-refused f s out answer e h =
    let number : answer ≡ play_floors_refusal f s out = e ∙ sym (or_else_left (refusal_of s) _ (λ z. h (e ∙ z))) in
    record { number = number; buffer = refused_leaves (play_floors_refusal f s out) answer (played_buffer (with_floors (round_of s) f) out) out number h }

pub floors-refused : (f s out : List ℕ) (answer : ℕ) → Accepted s → answer ≡ floors_refusal (slot_count s) f → (answer ≡ 0 → ⊥) → PlayedFloors f s out answer out
unfolding play_floors_refusal
floors-refused f s out answer ok e h =
    let number : answer ≡ play_floors_refusal f s out
    = e ∙ sym (or_else_right (refusal_of s) _ ok ∙ or_else_left (floors_refusal (slot_count s) f) _ (λ z. h (e ∙ z))) in
    record { number = number; buffer = refused_leaves (play_floors_refusal f s out) answer (played_buffer (with_floors (round_of s) f) out) out number h }

-- the two that are left of an accepted sheet, with a list of floors that is right
pub left_of_play : (s out : List ℕ) → Accepted s → play_refusal s out ≡ room_refusal s out
unfolding play_refusal
left_of_play s out ok = or_else_right (refusal_of s) (room_refusal s out) ok

pub left_of_floors : (f s out : List ℕ) → Accepted s → floors_refusal (slot_count s) f ≡ 0 → play_floors_refusal f s out ≡ room_refusal s out
unfolding play_floors_refusal
left_of_floors f s out ok none = or_else_right (refusal_of s) _ ok ∙ or_else_right (floors_refusal (slot_count s) f) (room_refusal s out) none

-- what is left decides
pub accepted-plays : (f s out out' : List ℕ) (number : ℕ) → Accepted s → with_floors (round_of s) f ≡ round_of s →
    (number ≡ room_refusal s out) × (out' ≡ unless_refused (room_refusal s out) (played_buffer (with_floors (round_of s) f) out) out) → Played s out number out'
accepted-plays f s out out' number ok none given =
    let left = sym (left_of_play s out ok) in
    record {
      number = given.0 ∙ left;
      buffer = given.1 ∙ ap₂ (λ (k : ℕ) (r : Round). unless_refused k (played_buffer r out) out) left none;
    }

pub floored-plays : (f s out out' : List ℕ) (number : ℕ) → Accepted s → floors_refusal (slot_count s) f ≡ 0 →
    (number ≡ room_refusal s out) × (out' ≡ unless_refused (room_refusal s out) (played_buffer (with_floors (round_of s) f) out) out) → PlayedFloors f s out number out'
floored-plays f s out out' number ok none given =
    let left = sym (left_of_floors f s out ok none) in
    record {
      number = given.0 ∙ left;
      buffer = given.1 ∙ ap (λ (k : ℕ). unless_refused k (played_buffer (with_floors (round_of s) f) out) out) left;
    }

-- 19, and a buffer with room
pub buffer_short : (s out given : List ℕ) → length out < 5 * slot_count s → (19 ≡ room_refusal s out) × (out ≡ unless_refused (room_refusal s out) given out)
unfolding room_refusal
buffer_short s out given less =
    let number : 19 ≡ room_refusal s out = sym (simp (lt-ltb (length out) (5 * slot_count s) less)) in
    (number, refused_leaves (room_refusal s out) 19 given out number (λ z. absurd (omega arith)))

pub round_played : (s out out' given : List ℕ) → 5 * slot_count s ≤ length out → out' ≡ given →
    (0 ≡ room_refusal s out) × (out' ≡ unless_refused (room_refusal s out) given out)
unfolding room_refusal
round_played s out out' given room e =
    let number : 0 ≡ room_refusal s out = sym (simp (le-ltb (length out) (5 * slot_count s) room)) in
    (number, e ∙ answered-gives (room_refusal s out) given out (sym number))

-- the bytes of a played round are its page's and prices'
pub entries-same : (r : Round) → joined (entry_in (outcome_of r)) r.slots ≡ joined (λ k. slot_entry r (suc k)) r.slots
unfolding entry_in slot_entry outcome_of at
entries-same r =
    joined_same (entry_in (outcome_of r)) (λ k. slot_entry r (suc k)) r.slots
    (λ k l. ap (λ (x : ℕ). at (outcome_of r).page (suc k) ∷ bytes32 x) (get_d_padded (λ i. price r (suc i)) r.slots 16 0 0 k l))

-- what is written depends on each owner's set of constraints only
pub played-sets : (r r' : Round) → SameSets r r' → ProperRound r → ProperRound r' → (out : List ℕ) → played_buffer r out ≡ played_buffer r' out
unfolding played_buffer slot_entry
played-sets r r' x proper proper' out =
    ap₂ ◌++◌
    (joined_same (λ k. slot_entry r (suc k)) (λ k. slot_entry r' (suc k)) r.slots
    (λ k l.
    ap₂ (λ (p : Page) (paid : ℕ). at p (suc k) ∷ bytes32 paid) (page-sets r r' x proper.most_slots) (price-sets r r' x proper proper' k))
    ∙ ap (joined (λ k. slot_entry r' (suc k))) x.slots)
    (ap (λ (m : ℕ). drop (5 * m) out) x.slots)
