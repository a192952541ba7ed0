-- The engine's own: nothing here need be believed.
-- What the slots left can add at most: the eligible ranks, in falling order of their bids, against the effects in falling order.
-- Slots are counted by index here: index j is slot j + 1. A rank is an index in the order in which bidders win;
-- eligible is here who may still get one of those slots.
use Rattle.std.specs.Prelude.{ℕ, zero, suc, ◌+◌, ◌*◌, ◌<◌, ◌≤◌, Bool, true, cond, ◌&&◌, List, ◌⊎◌, ◌≡◌, ltb, get_or}
use Rattle.choice.specs.EngineBids.{bid_in}

-- the sum of bid × effect of an assignment f of bidders to the slot indices k, .., k + left - 1
unfoldable pub sum_from : (bid effect f : ℕ → ℕ) → ℕ → ℕ → ℕ
sum_from bid effect f k zero = 0
sum_from bid effect f k (suc left) = sum_from bid effect f k left + bid (f (k + left)) * effect (k + left)

-- the slot index that the next eligible rank gets, after the first i ranks, from index k and below m
unfoldable pub slot_after : (eligible : ℕ → Bool) (k m : ℕ) → ℕ → ℕ
slot_after eligible k m zero = k
slot_after eligible k m (suc i) =
    cond (eligible i && ltb (slot_after eligible k m i) m) (suc (slot_after eligible k m i)) (slot_after eligible k m i)

-- what those add, by what each rank adds at each slot
unfoldable pub add_after : (eligible : ℕ → Bool) (gain : ℕ → ℕ → ℕ) (k m : ℕ) → ℕ → ℕ
add_after eligible gain k m zero = 0
add_after eligible gain k m (suc i) =
    add_after eligible gain k m i + cond (eligible i && ltb (slot_after eligible k m i) m) (gain i (slot_after eligible k m i)) 0

-- the ranked bidders' bids fall
abbrev pub BidsFall : (rank bid : ℕ → ℕ) → ℕ → Type 0
BidsFall rank bid n = (i j : ℕ) → i ≤ j → j < n → bid (rank j) ≤ bid (rank i)

-- effects do not rise below index m
abbrev pub NoRise : (effect : ℕ → ℕ) → ℕ → Type 0
NoRise effect m = (i j : ℕ) → i ≤ j → j < m → effect j ≤ effect i

-- f gives each slot index from k to below m nobody, or the bidder of an eligible rank, and nobody two of them
pub record Assigns (eligible : ℕ → Bool) (rank : ℕ → ℕ) (n k m : ℕ) (f : ℕ → ℕ) : Type 0 where
  pub ranked : (j : ℕ) → k ≤ j → j < m → (f j ≡ 0) ⊎ ((i : ℕ) × (i < n) × (rank i ≡ f j) × (eligible i ≡ true))
  pub once : (i j : ℕ) → k ≤ i → i < m → k ≤ j → j < m → (f i ≡ 0 → ⊥) → f i ≡ f j → i ≡ j

-- The bound: no assignment of eligible bidders to the slots left adds more.
unfoldable pub BoundHolds : Type 0
BoundHolds =
    (eligible : ℕ → Bool) (rank bid effect : ℕ → ℕ) (n k left : ℕ) → bid 0 ≡ 0 →
    ((i : ℕ) → i < n → rank i ≡ 0 → ⊥) → ((i j : ℕ) → i < n → j < n → rank i ≡ rank j → i ≡ j) →
    BidsFall rank bid n → NoRise effect (k + left) →
    (f : ℕ → ℕ) → Assigns eligible rank n k (k + left) f →
    sum_from bid effect f k left ≤ add_after eligible (λ i j. bid (rank i) * effect j) k (k + left) n

-- lists as functions
unfoldable pub nth : List ℕ → ℕ → ℕ
nth l i = get_or l i 0

-- the bid at a rank, 0 after the last bidder
unfoldable pub bid_at_rank : (ranked bids : List ℕ) (n : ℕ) → ℕ → ℕ
bid_at_rank ranked bids n i = cond (ltb i n) (bid_in bids (get_or ranked i 0)) 0

-- what a rank adds at a slot index, in a table by seat
unfoldable pub gain_in : List ℕ → ℕ → ℕ → ℕ
gain_in gains i k = get_or gains (8 * k + i) 0

-- the table has, for each rank and slot, bid × effect
abbrev pub GainsOf : (bid effect : ℕ → ℕ) → List ℕ → Type 0
GainsOf bid effect gains = (i k : ℕ) → i < 8 → k < 16 → gain_in gains i k ≡ bid i * effect k
