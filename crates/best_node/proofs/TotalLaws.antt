-- What a node's pages have: the page itself what is had; and every page that it can become at most what is had and what the slots left can add.
-- Assumes nothing.
use Prim.Native.Nat.{ℕ, zero, suc, ◌+◌, ◌*◌, ◌-◌, ◌<◌, ◌≤◌}
use mathlib.Core.Bool.{Bool}
use mathlib.Core.List.{List}
use mathlib.Core.Logic.{⊎_elim}
use mathlib.Core.Path.{◌≡◌, refl, sym, subst}
use native.Mathlib.Nat.{eq-or-lt_of_le, le_of_suc-le-suc}
use native.Mathlib.Omega.{arith}
use lib.ListN.{get_or}
use Rattle.sheet.specs.declared.Page.{Page}
use Rattle.sheet.specs.declared.Round.{Round}
use Rattle.sheet.specs.Proper.{ProperRound}
use Rattle.sheet.specs.Round.{bid_of, effect_of}
use Rattle.auction.specs.Allowed.{Allowed, total}
use Rattle.auction.specs.Page.{at}
use Rattle.best_page.specs.EngineSearch.{Agrees}
use Rattle.best_seats.specs.EngineSeats.{somewhere}
use Rattle.best_bound.specs.EngineBound.{sum_from, add_after, BoundHolds, gain_in}
use Rattle.best_bound.proofs.BoundLaws.{bound-holds, nobody_adds, added_same}
use Rattle.best_clash.specs.EngineClash.{FreeFor}
use Rattle.best_node.specs.EngineNode.{TablesOf, Node}
use Rattle.best_node.proofs.NodeLaws.{node_assigns, node_total}
use Rattle.best_node.proofs.FreeLaws.{somewhere-free}

-- more slots add no less
sum_longer : (bid effect f : ℕ → ℕ) (k left more : ℕ) → sum_from bid effect f k left ≤ sum_from bid effect f k (more + left)
unfolding sum_from
sum_longer bid effect f k left zero =
    subst (λ (n : ℕ). sum_from bid effect f k left ≤ sum_from bid effect f k n) (let e : left ≡ 0 + left = omega arith in e) (omega arith)
sum_longer bid effect f k left (suc more) =
    subst (λ (n : ℕ). sum_from bid effect f k left ≤ sum_from bid effect f k n) (let e : suc (more + left) ≡ suc more + left = omega arith in e)
    (let h = sum_longer bid effect f k left more in omega arith)

-- nor do more ranks
added_more : (eligible : ℕ → Bool) (gain : ℕ → ℕ → ℕ) (k m i more : ℕ) → add_after eligible gain k m i ≤ add_after eligible gain k m (more + i)
unfolding add_after
added_more eligible gain k m i zero =
    subst (λ (n : ℕ). add_after eligible gain k m i ≤ add_after eligible gain k m n) (let e : i ≡ 0 + i = omega arith in e) (omega arith)
added_more eligible gain k m i (suc more) =
    subst (λ (n : ℕ). add_after eligible gain k m i ≤ add_after eligible gain k m n) (let e : suc (more + i) ≡ suc more + i = omega arith in e)
    (let h = added_more eligible gain k m i more in omega arith)

-- effects do not rise from slot to slot
effects_fall : (r : Round) → ProperRound r → (i j : ℕ) → i ≤ j → effect_of r (suc j) ≤ effect_of r (suc i)
effects_fall r c i zero l = subst (λ (x : ℕ). effect_of r 1 ≤ effect_of r (suc x)) (let e : 0 ≡ i = omega arith in e) (omega arith)
effects_fall r c i (suc j) l =
    ⊎_elim
    (λ (e : i ≡ suc j). subst (λ (x : ℕ). effect_of r (suc (suc j)) ≤ effect_of r (suc x)) (sym e) (omega arith))
    (λ (lt : i < suc j).
    let h = effects_fall r c i j (le_of_suc-le-suc lt) in
    let g = c.no_rise (suc j) (omega arith) in
    omega arith)
    (eq-or-lt_of_le l)

nobody-bids : (r : Round) → bid_of r 0 ≡ 0
unfolding bid_of
nobody-bids r = refl

-- the page itself has what is had
pub had_total : (r : Round) (p : Page) (k had : ℕ) → Node r p k had → total r p ≡ had
had_total r p k had w =
    let left = r.slots - k in
    let room = w.room in
    let end : k + left ≡ r.slots = omega arith in
    let none = nobody_adds (bid_of r) (λ j. effect_of r (suc j)) (nobody-bids r) (λ j. at p (suc j)) k left (λ j l m. w.later (suc j) (omega arith)) in
    let split = node_total r p k had left w end p (λ j l. refl) in
    omega arith

-- and what it can become no more than the bound
pub most_left_lem : (r : Round) (ranked shut gains : List ℕ) → TablesOf r ranked shut gains → (p : Page) (k had : ℕ) → Node r p k had →
    (free : ℕ) → FreeFor r ranked p k free → (q : Page) → Agrees p k q → Allowed r q →
    total r q ≤ had + add_after (somewhere free) (gain_in gains) k 16 8
unfolding BoundHolds
most_left_lem r ranked shut gains v p k had w free f q a ok =
    let left = r.slots - k in
    let rest = 16 - k in
    let room = w.room in
    let short = v.few_slots in
    let n = r.bidders in
    let few = v.few_bidders in
    let end : k + left ≡ r.slots = omega arith in
    let whole-end : k + rest ≡ 16 = omega arith in
    let more : 16 - r.slots + left ≡ rest = omega arith in
    let assigns = node_assigns r p k had rest (λ i. get_or ranked i 0) (somewhere free) w v.ranking.everybody q a ok
    (λ j i l m s low e. somewhere-free r ranked shut gains v p k had w free f q a ok j i l s low e) in
    let most = bound-holds (somewhere free) (λ i. get_or ranked i 0) (bid_of r) (λ j. effect_of r (suc j)) n k rest (nobody-bids r)
    (λ i h z. absurd (let s = (v.ranking.some i h).0 in omega arith))
    v.ranking.once v.ranking.falls
    (λ i j h g. effects_fall r v.proper i j h)
    (λ j. at q (suc j)) assigns in
    let within = subst (λ (m : ℕ). sum_from (bid_of r) (λ j. effect_of r (suc j)) (λ j. at q (suc j)) k rest ≤ add_after (somewhere free) (λ i j. bid_of r (get_or ranked i 0) * effect_of r (suc j)) k m n) whole-end most in
    let by-gains = added_same (somewhere free) (gain_in gains) (λ i j. bid_of r (get_or ranked i 0) * effect_of r (suc j)) k 16 n (λ i s l m. v.gains_are i s l m) in
    let ranks : 8 - n + n ≡ 8 = omega arith in
    let to-eight = subst (λ (m : ℕ). add_after (somewhere free) (gain_in gains) k 16 n ≤ add_after (somewhere free) (gain_in gains) k 16 m) ranks (added_more (somewhere free) (gain_in gains) k 16 n (8 - n)) in
    let longer = subst (λ (m : ℕ). sum_from (bid_of r) (λ j. effect_of r (suc j)) (λ j. at q (suc j)) k left ≤ sum_from (bid_of r) (λ j. effect_of r (suc j)) (λ j. at q (suc j)) k m) more
    (sum_longer (bid_of r) (λ j. effect_of r (suc j)) (λ j. at q (suc j)) k left (16 - r.slots)) in
    let total-is = node_total r p k had left w end q a in
    omega arith
