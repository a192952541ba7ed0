-- The cases of a gain call. Assumes nothing.
use Prim.Native.Nat.{ℕ, zero, suc, ◌-◌, ◌<◌, ◌≤◌}
use borrow.Author.Tests.{eqb-true, eqb-false, ltb-false, not-false}
use mathlib.Core.Bool.{true, false, not, ◌||◌}
use mathlib.Core.List.{List}
use mathlib.Core.Path.{◌≡◌, refl, sym, ◌∙◌, ap, ap₂, subst}
use native.Mathlib.Nat.{not-suc-le-zero}
use native.Mathlib.Omega.{arith}
use lib.Dec.{eqb, ltb}
use lib.IntN.{ℤ, pos}
use lib.ListN.{get_or}
use Rattle.basis.proofs.FirstLaws.{or_else_left, or_else_right, when_none}
use Rattle.basis.proofs.TestLaws.{or_none}
use Rattle.basis.proofs.RowLaws.{get_d_padded}
use Rattle.refusal.specs.declared.Refusal.{Refusal}
use Rattle.refusal.specs.Numbers.{number_of, number_in}
use Rattle.refusal.proofs.NumberLaws.{number_of-ne0}
use Rattle.std.specs.Prelude.{Result, Ok, Err, is_err}
use Rattle.std.specs.Result.{IsErrAnd}
use Rattle.std.proofs.lemmas.Result.{err_from_is_err_and}
use Rattle.sheet.specs.declared.Round.{Round}
use Rattle.sheet.specs.Sheet.{bidder_count, slot_count, effect_field}
use Rattle.sheet.specs.Refusal.{refusal_of, Accepted}
use Rattle.sheet.specs.Round.{round_of, with_floors, effect_of}
use Rattle.sheet.specs.Proper.{ProperRound, ProperFloors}
use Rattle.sheet.proofs.FloorLaws.{floors-slots, floors_effect, floors-proper}
use Rattle.floors.specs.Floors.{floors_refusal}
use Rattle.auction.specs.Page.{placed}
use Rattle.auction.proofs.PageLaws.{placed_at}
use Rattle.auction.specs.Greedy.{greedy_page}
use Rattle.sheet.proofs.RoundLaws.{round_slots, round_effect, round_proper}
use Rattle.auction.specs.Price.{price}
use Rattle.auction.proofs.PriceLaws.{price-low}
use Rattle.greedy.specs.declared.Outcome.{Outcome}
use Rattle.greedy.specs.EngineOutcome.{outcome_of}
use Rattle.auction.specs.Broken.{breaks_own}
use Rattle.gain.specs.Gain.{slot_of, gain_if, gain_at, gain_of}
use Rattle.gain.specs.Call.{later_refusal, gain_refusal, gain_floors_refusal, gained_for, gained_in, gained_of, gained_floors_of}
use Rattle.gain.proofs.SlotLaws.{slot_found, slot_won}

-- what `?` passes on is the number alone
pub alone : (r : Result ℤ Refusal) (refusal : Refusal) → IsErrAnd r (λ y. y ≡ refusal) → gained_in r ≡ record { refusal = number_of refusal; gain = pos 0 }
alone r refusal is = let p = err_from_is_err_and r is in rw (p.1, p.2)

-- an answer that is a refusal has a number above 0, and another has 0
pub was_err : {A : Type 0} (r : Result A Refusal) → is_err r ≡ true → number_in r ≡ 0 → ⊥
was_err (Ok x) e z = cc
was_err (Err refusal) e z = number_of-ne0 refusal z

pub was_ok : {A : Type 0} (r : Result A Refusal) → is_err r ≡ false → number_in r ≡ 0
was_ok (Ok x) e = refl
was_ok (Err refusal) e = cc

-- a refused call
pub for_refused : (k : ℕ) (r : Round) (t : List ℕ) (i v : ℕ) → (k ≡ 0 → ⊥) → record { refusal = k; gain = pos 0 } ≡ gained_for k r t i v
unfolding gained_for
for_refused zero r t i v h = absurd (h refl)
for_refused (suc k) r t i v h = refl

-- and one that is not
pub for_gained : (k : ℕ) (r : Round) (t : List ℕ) (i v : ℕ) → k ≡ 0 → record { refusal = 0; gain = gain_of r (round_of t) i v } ≡ gained_for k r t i v
unfolding gained_for
for_gained k r t i v e = sym (ap (λ (n : ℕ). gained_for n r t i v) e)

-- without floors: a refused sheet, and what is left of an accepted one
pub played-refused : (s t : List ℕ) (i v k : ℕ) → k ≡ refusal_of s → (k ≡ 0 → ⊥) → record { refusal = k; gain = pos 0 } ≡ gained_of s t i v
unfolding gained_of gain_refusal
played-refused s t i v k e h =
    for_refused k (round_of s) t i v h
    ∙ ap (λ (n : ℕ). gained_for n (round_of s) t i v) (e ∙ sym (or_else_left (refusal_of s) (later_refusal s t i v) (λ z. h (e ∙ z))))

pub left_of_gain : (s t : List ℕ) (i v : ℕ) → Accepted s → gain_refusal s t i v ≡ later_refusal s t i v
unfolding gain_refusal
left_of_gain s t i v ok = or_else_right (refusal_of s) (later_refusal s t i v) ok

pub accepted-gains : (f s t : List ℕ) (i v : ℕ) → Accepted s → with_floors (round_of s) f ≡ round_of s →
    gained_for (later_refusal s t i v) (with_floors (round_of s) f) t i v ≡ gained_of s t i v
unfolding gained_of
accepted-gains f s t i v ok none = ap₂ (λ (k : ℕ) (r : Round). gained_for k r t i v) (sym (left_of_gain s t i v ok)) none

-- with floors: a refused sheet, refused floors, and what is left
pub floors-played-refused : (f s t : List ℕ) (i v k : ℕ) → k ≡ refusal_of s → (k ≡ 0 → ⊥) → record { refusal = k; gain = pos 0 } ≡ gained_floors_of f s t i v
unfolding gained_floors_of gain_floors_refusal
floors-played-refused f s t i v k e h =
    for_refused k (with_floors (round_of s) f) t i v h
    ∙ ap (λ (n : ℕ). gained_for n (with_floors (round_of s) f) t i v) (e ∙ sym (or_else_left (refusal_of s) _ (λ z. h (e ∙ z))))

pub floors-refused : (f s t : List ℕ) (i v k : ℕ) → Accepted s → k ≡ floors_refusal (slot_count s) f → (k ≡ 0 → ⊥) →
    record { refusal = k; gain = pos 0 } ≡ gained_floors_of f s t i v
unfolding gained_floors_of gain_floors_refusal
floors-refused f s t i v k ok e h =
    for_refused k (with_floors (round_of s) f) t i v h
    ∙ ap
    (λ (n : ℕ). gained_for n (with_floors (round_of s) f) t i v)
    (e ∙ sym (or_else_right (refusal_of s) _ ok ∙ or_else_left (floors_refusal (slot_count s) f) _ (λ z. h (e ∙ z))))

pub left_of_floors : (f s t : List ℕ) (i v : ℕ) → Accepted s → floors_refusal (slot_count s) f ≡ 0 → gain_floors_refusal f s t i v ≡ later_refusal s t i v
unfolding gain_floors_refusal
left_of_floors f s t i v ok none = or_else_right (refusal_of s) _ ok ∙ or_else_right (floors_refusal (slot_count s) f) (later_refusal s t i v) none

pub floored-gains : (f s t : List ℕ) (i v : ℕ) → Accepted s → floors_refusal (slot_count s) f ≡ 0 →
    gained_for (later_refusal s t i v) (with_floors (round_of s) f) t i v ≡ gained_floors_of f s t i v
unfolding gained_floors_of
floored-gains f s t i v ok none = ap (λ (k : ℕ). gained_for k (with_floors (round_of s) f) t i v) (sym (left_of_floors f s t i v ok none))

-- the played sheet's page, effects and prices give the gain
module _ (s : List ℕ) (ok : Accepted s) (f : List ℕ) (floored : ProperFloors (slot_count s) f) (t : Round) (i v : ℕ) (o : Outcome)
    (played : o ≡ outcome_of (with_floors (round_of s) f)) where
  abbrev round : Round
  round = with_floors (round_of s) f

  proper : ProperRound round
  proper = floors-proper (round_of s) f (round_proper s ok) (subst (λ (m : ℕ). ProperFloors m f) (sym (round_slots s)) floored)

  slot_of_lem : slot_of (greedy_page round) i ≡ slot_of o.page i
  unfolding outcome_of
  slot_of_lem = ap (λ (x : Outcome). slot_of x.page i) (sym played)

  pub gain-none : slot_of o.page i ≡ 0 → pos 0 ≡ gain_of round t i v
  unfolding gain_of gain_at
  gain-none e = sym (ap (λ (k : ℕ). gain_at k round t i v) (slot_of_lem ∙ e))

  -- what is known of the slot where the bidder stands
  pub record Stands (k : ℕ) : Type 0 where
    pub most_slot : k ≤ slot_count s
    pub low_effect : effect_field s k ≤ 1_000_000
    pub low_price : get_or o.prices (k - 1) 0 ≤ 1_000_000_000
    pub gained_there : gain_if (breaks_own t o.page i) (effect_field s k) v (get_or o.prices (k - 1) 0) ≡ gain_of round t i v
    pub has_slot : placed o.page i ≡ true

  pub stands : 0 < i → (k : ℕ) → slot_of o.page i ≡ k → 0 < k → Stands k
  unfolding outcome_of gain_of gain_at
  stands some zero e l = absurd (not-suc-le-zero l)
  stands some (suc k) e l =
      let r = round in
      let inside : k < r.slots = (slot_won r proper i some k (slot_of_lem ∙ e)).0 in
      let most : suc k ≤ slot_count s = subst (λ (m : ℕ). k < m) (floors-slots (round_of s) f ∙ round_slots s) inside in
      let effect : effect_of r (suc k) ≡ effect_field s (suc k) = floors_effect (round_of s) f (suc k) ∙ round_effect s ok (suc k) most in
      let here = slot_found o.page i k e in
      let paid : get_or o.prices (suc k - 1) 0 ≡ price r (suc k)
      = ap₂ (λ (x : Outcome) (n : ℕ). get_or x.prices n 0) played (let back : suc k - 1 ≡ k = omega arith in back)
      ∙ get_d_padded (λ j. price r (suc j)) r.slots 16 0 0 k inside in
      record {
        most_slot = most;
        low_effect = (let low = proper.most_effect (suc k) in omega arith);
        low_price = (let low = price-low r (suc k) proper in omega arith);
        gained_there =
            ap₂ (λ (x : Outcome) (f : ℕ). gain_if (breaks_own t x.page i) f v (get_or o.prices (suc k - 1) 0)) played (sym effect)
            ∙ ap (gain_if (breaks_own t (greedy_page r) i) (effect_of r (suc k)) v) paid
            ∙ sym (ap (λ (n : ℕ). gain_at n r t i v) (slot_of_lem ∙ e));
        has_slot = placed_at o.page i (suc k) (omega arith) here.1 here.0;
      }

-- what a call that 14 to 17 leave is known to satisfy
pub record LaterAccepted (s t : List ℕ) (i v : ℕ) : Type 0 where
  pub truth : Accepted t
  pub same_n : bidder_count t ≡ bidder_count s
  pub same_m : slot_count t ≡ slot_count s
  pub some : 0 < i
  pub within_range : i ≤ bidder_count s
  pub low : v ≤ 1_000_000_000

pub later-accepted : (s t : List ℕ) (i v : ℕ) → later_refusal s t i v ≡ 0 → LaterAccepted s t i v
unfolding later_refusal
later-accepted s t i v e =
    let fourteen = when_none 13 (not (eqb (refusal_of t) 0)) _ e in
    let fifteen = when_none 14 (not (eqb (bidder_count t) (bidder_count s)) || not (eqb (slot_count t) (slot_count s))) _ fourteen.1 in
    let both = or_none (not (eqb (bidder_count t) (bidder_count s))) (not (eqb (slot_count t) (slot_count s))) fifteen.0 in
    let sixteen = when_none 15 (eqb i 0 || ltb (bidder_count s) i) _ fifteen.1 in
    let bounds = or_none (eqb i 0) (ltb (bidder_count s) i) sixteen.0 in
    let seventeen = when_none 16 (ltb 1_000_000_000 v) 0 sixteen.1 in
    record {
      truth = eqb-true (refusal_of t) 0 (not-false (eqb (refusal_of t) 0) fourteen.0);
      same_n = eqb-true (bidder_count t) (bidder_count s) (not-false (eqb (bidder_count t) (bidder_count s)) both.0);
      same_m = eqb-true (slot_count t) (slot_count s) (not-false (eqb (slot_count t) (slot_count s)) both.1);
      some = (let h = eqb-false i 0 bounds.0 in omega arith);
      within_range = ltb-false (bidder_count s) i bounds.1;
      low = ltb-false 1_000_000_000 v seventeen.0;
    }
