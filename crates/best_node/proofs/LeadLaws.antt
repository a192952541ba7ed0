-- What a choice for the next slot leads to, as the search looks ahead: a node with its free seats, and no page above the most that it tells. Assumes nothing.
use Prim.Native.Nat.{ℕ, zero, suc, ◌+◌, ◌*◌, ◌-◌, ◌/◌, ◌^◌, ◌<◌, ◌≤◌}
use mathlib.Core.Bool.{Bool, true}
use mathlib.Core.List.{List}
use mathlib.Core.Path.{◌≡◌, refl, sym, subst}
use native.Mathlib.Omega.{arith}
use lib.ListN.{get_or}
use lib.Pow.{shr_lt}
use Rattle.basis.specs.Bits.{bit_of}
use Rattle.basis.proofs.BitLaws.{bit_shr}
use Rattle.sheet.specs.declared.Page.{Page}
use Rattle.sheet.specs.declared.Round.{Round}
use Rattle.auction.specs.Allowed.{Allowed, total}
use Rattle.auction.specs.Page.{at, put}
use Rattle.best_page.specs.EngineSearch.{Agrees}
use Rattle.best_bound.specs.EngineBound.{add_after, gain_in}
use Rattle.best_bound.proofs.BoundLaws.{added_low}
use Rattle.best_clash.specs.EngineClash.{FreeFor}
use Rattle.best_node.specs.declared.Ahead.{Ahead}
use Rattle.best_node.specs.EngineNode.{TablesOf, Node, Leads, Passes}
use Rattle.best_node.proofs.FreeLaws.{seat_free, passed_node, passed-free, led_node, led_free}
use Rattle.best_node.proofs.TotalLaws.{most_left_lem}

module _ (r : Round) (ranked shut gains : List ℕ) (v : TablesOf r ranked shut gains) (p : Page) (k had : ℕ) (w : Node r p k had)
    (free : ℕ) (f : FreeFor r ranked p k free) (inside : k < r.slots) where
  one_slot : 8 * (r.slots - k) ≡ 8 + 8 * (r.slots - suc k)
  one_slot = omega arith

  wide : free < 2 ^ (8 + 8 * (r.slots - suc k))
  wide = subst (λ (n : ℕ). free < 2 ^ n) one_slot f.low

  -- who stands at the next slot of a page that the node can become has a free seat there
  pub free-here : (q : Page) → Agrees p k q → Allowed r q → (i : ℕ) → i < r.bidders → get_or ranked i 0 ≡ at q (suc k) → bit_of free i ≡ true
  free-here q a ok i low e =
      let first : 8 * (k - k) + i ≡ i = omega arith in
      subst (λ (n : ℕ). bit_of free n ≡ true) first
      (seat_free r ranked shut gains v p k had w free f q a ok k i (omega arith)
      (λ z. absurd (let s = (v.ranking.some i low).0 in omega arith)) low e)

  -- a rank with a free seat
  module _ (i : ℕ) (i-low : i < 8) (i-free : bit_of free i ≡ true) (next : Ahead) (leads : Leads shut gains k free had i next) where
    pub lead_node : Node r (put p (suc k) (get_or ranked i 0)) (suc k) next.had
    lead_node =
        subst (λ (n : ℕ). Node r (put p (suc k) (get_or ranked i 0)) (suc k) n) (sym leads.had_is)
        (led_node r ranked shut gains v p k had w free f i i-low i-free inside)

    pub lead_free : FreeFor r ranked (put p (suc k) (get_or ranked i 0)) (suc k) next.free.0
    lead_free =
        led_free r ranked shut gains v p k had w free f i i-low i-free inside next.free.0 leads.free_is (leads.free_low _ wide)

    pub lead_most : (q : Page) → Agrees (put p (suc k) (get_or ranked i 0)) (suc k) q → Allowed r q → total r q ≤ next.most
    lead_most q a ok =
        subst (λ (n : ℕ). total r q ≤ n) (sym leads.most_is)
        (most_left_lem r ranked shut gains v (put p (suc k) (get_or ranked i 0)) (suc k) next.had lead_node next.free.0 lead_free q a ok)

  -- nobody
  module _ (next : Ahead) (passes : Passes gains k free had next) where
    pub pass_node : Node r p (suc k) next.had
    pass_node =
        subst (λ (n : ℕ). Node r p (suc k) n) (sym passes.had_is) (passed_node r ranked shut gains v p k had w free f inside)

    pub pass-free : FreeFor r ranked p (suc k) next.free.0
    pass-free = passed-free r ranked shut gains v p k had w free f next.free.0 passes.free_is (passes.free_low _ wide)

    pub pass-most : (q : Page) → Agrees p (suc k) q → Allowed r q → total r q ≤ next.most
    pass-most q a ok =
        subst (λ (n : ℕ). total r q ≤ n) (sym passes.most_is)
        (most_left_lem r ranked shut gains v p (suc k) next.had pass_node next.free.0 pass-free q a ok)

-- Two numbers of the search: where something is free one of the eight slots is left, and what is free after it lies in the slots after it.
pub slot_most : (slot free : ℕ) → slot ≤ 9 → free < 2 ^ (8 * (9 - slot)) → (free ≡ 0 → ⊥) → slot ≤ 8
slot_most slot free low wide some = by_slot (9 - slot) refl
  where
    by_slot : (n : ℕ) → 9 - slot ≡ n → slot ≤ 8
    by_slot zero e = absurd (some (let none = subst (λ (n : ℕ). free < 2 ^ (8 * n)) e wide in omega arith))
    by_slot (suc n) e = omega arith

pub slots_after : (slot free : ℕ) → slot ≤ 8 → free < 2 ^ (8 * (9 - slot)) → free < 2 ^ (8 + 8 * (9 - suc slot))
slots_after slot free low = subst (λ (n : ℕ). free < 2 ^ n) (let e : 8 * (9 - slot) ≡ 8 + 8 * (9 - suc slot) = omega arith in e)

-- The next slot's byte is dropped,
pub byte_dropped : (x z : ℕ) → bit_of (x / 256) z ≡ bit_of x (8 + z)
byte_dropped x z = bit_shr x 8 z

pub byte_low : (x w : ℕ) → x < 2 ^ (8 + w) → x / 256 < 2 ^ w
byte_low x w l = shr_lt w 8 (subst (λ (n : ℕ). x < 2 ^ n) (let e : 8 + w ≡ w + 8 = omega arith in e) l)

-- and what the slots left can add is small enough for 64 bits.
pub most_low : (gains : List ℕ) → ((x : ℕ) → get_or gains x 0 ≤ 1_000_000_000_000_000) → (eligible : ℕ → Bool) (k : ℕ) →
    add_after eligible (gain_in gains) k 16 8 ≤ 8 * 1_000_000_000_000_000
unfolding gain_in
most_low gains low eligible k = added_low eligible (gain_in gains) k 16 8 1_000_000_000_000_000 (λ i j. low (8 * j + i))

pub gain-low : (gains : List ℕ) → ((x : ℕ) → get_or gains x 0 ≤ 1_000_000_000_000_000) → (i k : ℕ) → gain_in gains i k ≤ 1_000_000_000_000_000
unfolding gain_in
gain-low gains low i k = low (8 * k + i)
