use Prim.Native.Nat.{ℕ, zero, suc, ◌+◌, ◌*◌, ◌/◌, ◌%◌, ◌<◌, ◌≤◌}
use mathlib.Core.List.{List}
use mathlib.Core.Logic.{⊎_elim}
use mathlib.Core.Path.{◌≡◌, sym, ◌∙◌, ap, subst}
use native.Mathlib.Nat.{mul-le-mul, mod-lt, zero-lt-suc, div-add-mod'}
use native.Mathlib.Omega.{arith}
use lib.ListN.{length, get_or, replicate, length-replicate, length-take}
use Rattle.basis.proofs.NumberLaws.{below_or_not}
use Rattle.basis.proofs.RowLaws.{zeros}
use Rattle.choice.specs.EngineBids.{bid_in}
use Rattle.best_bound.specs.EngineBound.{nth, bid_at_rank, GainsOf, gain_in}
use Rattle.best_bound.proofs.BoundLaws.{bid_ranked, bid_past}
use Rattle.best_bound.proofs.gains_of.Invariants.{Filled}
use Rattle.best_bound.proofs.gains_of.Goals.{Start}
use Rattle.best_bound.proofs.gains_of.Goals as goal

product_fits : (b e : ℕ) → b ≤ 1000000000 → e ≤ 1000000 → b * e ≤ 1000000000000000
product_fits b e p q = mul-le-mul p q

-- the bid at a rank is as low as bids are
bid_low : (bids : List ℕ) (most b : ℕ) → ((i : ℕ) → get_or bids i 0 ≤ most) → bid_in bids b ≤ most
unfolding bid_in
bid_low bids most zero low = omega arith
bid_low bids most (suc i) low = low i

ranked_low : (ranked bids : List ℕ) (n i most : ℕ) → ((i : ℕ) → get_or bids i 0 ≤ most) → bid_at_rank ranked bids n i ≤ most
ranked_low ranked bids n i most low =
    ⊎_elim
    (λ (l : i < n). let e = bid_ranked ranked bids n i l in let b = bid_low bids most (get_or ranked i 0) low in omega arith)
    (λ (l : n ≤ i). let e = bid_past ranked bids n i l in omega arith)
    (below_or_not i n)

none_filled : (by_rank effects : List ℕ) → Filled by_rank effects (replicate 128 0) 0
none_filled by_rank effects =
    record { size = length-replicate {A = ℕ} 128 0; told = λ i k l m. absurd (omega arith); empty = λ x l. zeros 128 x }

-- what a call is given
record Given (bids effects : List ℕ) (slots : ℕ) : Type 0 where
  few : slots ≤ 8
  size : length effects ≡ 16
  none : (k : ℕ) → slots ≤ k → get_or effects k 0 ≡ 0
  bid : (i : ℕ) → get_or bids i 0 ≤ 1000000000
  effect : (i : ℕ) → get_or effects i 0 ≤ 1000000

all_filled : (ranked bids effects by_rank gains : List ℕ) (bidders slots passed : ℕ) → Given bids effects slots → slots ≤ passed →
    ((i : ℕ) → get_or by_rank i 0 ≡ bid_at_rank ranked bids bidders i) → Filled by_rank effects gains (8 * passed) →
    GainsOf (bid_at_rank ranked bids bidders) (nth effects) gains
unfolding gain_in nth
all_filled ranked bids effects by_rank gains bidders slots passed g l bid h i k low high =
    let this = ap (λ (b : ℕ). b * get_or effects k 0) (bid i) in
    ⊎_elim
    (λ (m : 8 * k + i < 8 * passed). h.told i k low m ∙ this)
    (λ (m : 8 * passed ≤ 8 * k + i).
    let none = g.none k (omega arith) in
    h.empty (8 * k + i) m ∙ sym (ap (λ (e : ℕ). bid_at_rank ranked bids bidders i * e) none ∙ omega arith))
    (below_or_not (8 * k + i) (8 * passed))

-- and no seat adds more than the highest bid at the largest effect
all_low : (ranked bids effects gains : List ℕ) (bidders slots : ℕ) → Given bids effects slots → GainsOf (bid_at_rank ranked bids bidders) (nth effects) gains →
    ((x : ℕ) → 128 ≤ x → get_or gains x 0 ≡ 0) → (x : ℕ) → get_or gains x 0 ≤ 1000000000000000
unfolding gain_in nth
all_low ranked bids effects gains bidders slots g h none x =
    ⊎_elim
    (λ (l : x < 128).
    let seat : 8 * (x / 8) + x % 8 ≡ x = (let parts = div-add-mod' x 8 in omega arith) in
    let rank : x % 8 < 8 = mod-lt x (zero-lt-suc 7) in
    let e = h (x % 8) (x / 8) rank (omega arith) in
    subst (λ (n : ℕ). get_or gains n 0 ≤ 1000000000000000) seat
    (let low = product_fits (bid_at_rank ranked bids bidders (x % 8)) (get_or effects (x / 8) 0) (ranked_low ranked bids bidders (x % 8) 1000000000 g.bid) (g.effect (x / 8)) in omega arith))
    (λ (l : 128 ≤ x). let e = none x l in omega arith)
    (below_or_not x 128)

given : (c : Start) → Given c.args.bids.now c.args.effects.now c.args.slots
given c = let p = c.requires in record { few = p.slots_bound.0; size = p.slots_bound.1; none = p.slots_bound.2; bid = p.by_index.0; effect = p.by_index.1 }

pub loop-k-init : goal.loop-k-init
loop-k-init c = none_filled _ _

pub returns : goal.returns
returns c =
    let g = given (goal.at.returns c).Start in
    let v = c.loop-k.invariant in
    let few = g.few in
    let told = all_filled _ _ _ _ _ _ _ _ g (omega (arith, length-take {A = ℕ})) c.bids_by_rank-by_rank.ensures v in
    (told, all_low _ _ _ _ _ _ g told (λ x l. v.empty x (omega (arith, length-take {A = ℕ}))))
