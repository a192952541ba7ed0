-- The pairs of rivals in a list: how many they are, the bytes that are stored for them, and that the list of a set gives the pairs of the set. Assumes nothing.
use Prim.Native.Nat.{ℕ, zero, suc, ◌+◌, ◌-◌, ◌*◌, ◌/◌, ◌<◌, ◌≤◌}
use mathlib.Core.Bool.{Bool, true, false, cond}
use mathlib.Core.List.{List, [], ◌∷◌, ◌++◌, append-nil}
use mathlib.Core.Logic.{⊎_elim}
use mathlib.Core.Path.{◌≡◌, refl, sym, ◌∙◌, ap, ap₂}
use native.Mathlib.Nat.{eq-or-lt_of_le, le_of_suc-le-suc, mul-add, mul_comm, mul-le-mul, mul-suc, mul-zero, suc-mul}
use native.Mathlib.Numerals.{add-one}
use native.Mathlib.Omega.{arith}
use lib.ListN.{length, get_or, length-append, get_or-append}
use lib.Seq.{sets, get_or-append_seam}
use Rattle.basis.specs.Bytes.{bytes32}
use Rattle.basis.specs.Rows.{joined}
use Rattle.basis.proofs.RowLaws.{length-row, length-joined, joined_same}
use Rattle.basis.proofs.TestLaws.{holds_or_fails}
use Rattle.sheet.specs.Encoded.{on, quads}
use Rattle.slot_terms.specs.EngineTerms.{word_of}
use Rattle.slot_terms.proofs.WriteLaws.{others-words, quads-next}
use Rattle.bidder_sets.specs.BidderSets.{in_set, member_count}
use Rattle.bidder_sets.specs.EngineSets.{rising_members}
use Rattle.bidder_sets.proofs.MembersLaws.{members-many}
use Rattle.bidder_sets.proofs.SetLaws.{members-next, members-same}
use Rattle.above_terms.specs.AboveTerms.{pairs_at, above_terms_of}
use Rattle.above_terms.specs.EngineAbove.{slot_pairs, all_pairs, slots_above}

-- How many pairs of places there are: m × (m − 1) / 2, as the engine has it too.
slots_twice : (m : ℕ) → 2 * slots_above m ≡ m * (m - 1)
unfolding slots_above
slots_twice zero = refl
slots_twice (suc zero) = refl
slots_twice (suc (suc k)) =
    let before = slots_twice (suc k) in
    let less : suc (suc k) - 1 ≡ suc k = omega arith in
    let less' : suc k - 1 ≡ k = omega arith in
    let product = ap (λ (x : ℕ). suc (suc k) * x) less in
    let product' = ap (λ (x : ℕ). suc k * x) less' in
    let one = suc-mul (suc k) (suc k) in
    let other = mul-suc (suc k) k in
    omega arith

pub slots_half : (m : ℕ) → (m - 1) * (m + 1 - 1) / 2 ≡ slots_above m
slots_half m =
    let twice = slots_twice m in
    let turned = mul_comm m (m - 1) in
    let same = ap (λ (k : ℕ). (m - 1) * k) (let e : m + 1 - 1 ≡ m = omega arith in e) in
    omega arith

pub slots-most : (m : ℕ) → m < 17 → slots_above m ≤ 120
slots-most m few =
    let twice = slots_twice m in
    let most = mul-le-mul {n₁ = m} {m₁ = m - 1} {n₂ = 16} {m₂ = 15} (omega arith) (omega arith) in
    omega arith

-- How many conditions one rival gives with the owner at one place,
pairs_many : (owner own other : ℕ) → length (pairs_at owner own other) ≡ own - 1
unfolding pairs_at
pairs_many owner own other = length-row (λ l. on owner own other (suc l)) (own - 1)

-- a list of rivals,
slot_pairs-many : (owner own : ℕ) (others : List ℕ) (j : ℕ) → length (slot_pairs owner own others j) ≡ (own - 1) * j
unfolding slot_pairs
slot_pairs-many owner own others j =
    length-joined (λ i. pairs_at owner own (get_or others i 0)) (own - 1) (λ i. pairs_many owner own (get_or others i 0)) j

-- and that list with the owner at places 1 to m
pub all_pairs-many : (owner : ℕ) (others : List ℕ) (m : ℕ) → length (all_pairs owner others m) ≡ length others * slots_above m
unfolding all_pairs joined slots_above
all_pairs-many owner others zero = sym (mul-zero (length others))
all_pairs-many owner others (suc m) =
    length-append (all_pairs owner others m) (slot_pairs owner (suc m) others (length others))
    ∙ ap₂ ◌+◌ (all_pairs-many owner others m)
    (slot_pairs-many owner (suc m) others (length others)
    ∙ ap (λ (k : ℕ). k * length others) (let e : suc m - 1 ≡ m = omega arith in e)
    ∙ mul_comm m (length others))
    ∙ sym (mul-add (length others) (slots_above m) m)

-- Lists one after another: the next adds its own length, and those up to it are no longer than all.
module _ {A : Type 0} (f : ℕ → List A) where
  joined_more : (k : ℕ) → length (joined f (k + 1)) ≡ length (joined f k) + length (f k)
  unfolding joined
  joined_more k = ap (λ (n : ℕ). length (joined f n)) (add-one k) ∙ length-append (joined f k) (f k)

  joined-room : (k n : ℕ) → k < n → length (joined f k) + length (f k) ≤ length (joined f n)
  unfolding joined
  joined-room k zero l = absurd (omega arith)
  joined-room k (suc n) l =
      let last = length-append (joined f n) (f n) in
      ⊎_elim
      (λ (e : k ≡ n). let same = ap (λ (i : ℕ). length (joined f i) + length (f i)) e in omega arith)
      (λ (lt : k < n). let rest = joined-room k n lt in omega arith)
      (eq-or-lt_of_le (le_of_suc-le-suc l))

-- so one rival more
module _ (owner own : ℕ) (others : List ℕ) where
  pub slot_pairs_more : (j : ℕ) → length (slot_pairs owner own others (j + 1)) ≡ length (slot_pairs owner own others j) + (own - 1)
  unfolding slot_pairs
  slot_pairs_more j =
      joined_more (λ i. pairs_at owner own (get_or others i 0)) j
      ∙ ap (λ (k : ℕ). length (slot_pairs owner own others j) + k) (pairs_many owner own (get_or others j 0))

  pub slot_pairs-room : (j : ℕ) → j < length others → length (slot_pairs owner own others j) + (own - 1) ≤ length (slot_pairs owner own others (length others))
  unfolding slot_pairs
  slot_pairs-room j l =
      omega (arith, joined-room (λ i. pairs_at owner own (get_or others i 0)) j (length others) l, pairs_many owner own (get_or others j 0))

-- and one own place more
module _ (owner : ℕ) (others : List ℕ) where
  pub all_pairs_more : (k : ℕ) →
      length (all_pairs owner others (k + 1)) ≡ length (all_pairs owner others k) + length (slot_pairs owner (k + 1) others (length others))
  unfolding all_pairs
  all_pairs_more k =
      joined_more (λ i. slot_pairs owner (suc i) others (length others)) k
      ∙ ap (λ (i : ℕ). length (all_pairs owner others k) + length (slot_pairs owner i others (length others))) (sym (add-one k))

  pub all_pairs-room : (k m : ℕ) → k < m →
      length (all_pairs owner others k) + length (slot_pairs owner (k + 1) others (length others)) ≤ length (all_pairs owner others m)
  unfolding all_pairs
  all_pairs-room k m l =
      let same = ap (λ (i : ℕ). length (slot_pairs owner i others (length others))) (add-one k) in
      omega (arith, joined-room (λ i. slot_pairs owner (suc i) others (length others)) k m l)

-- The conditions of one rival are numbers, one after another,
pub pairs_words : (owner own other : ℕ) → owner ≤ 64 → own ≤ 16 → other ≤ 64 →
    joined (λ k. bytes32 (word_of owner own other 1 + 16777216 * k)) (own - 1) ≡ quads (pairs_at owner own other)
unfolding pairs_at
pairs_words owner own other ho hp hj = others-words owner own other (own - 1) ho hp hj (omega arith)

-- stored where those of the rivals before it end
pub slot_pairs-next : (owner own : ℕ) (others out : List ℕ) (start at j : ℕ) → at ≡ start + 4 * length (slot_pairs owner own others j) →
    sets (sets out start (quads (slot_pairs owner own others j))) at (quads (pairs_at owner own (get_or others j 0)))
    ≡ sets out start (quads (slot_pairs owner own others (j + 1)))
unfolding slot_pairs
slot_pairs-next owner own others out start at j e = quads-next (λ i. pairs_at owner own (get_or others i 0)) out start at j e

-- and those of one own place where those of the places before it end
pub all_pairs-next : (owner : ℕ) (others out : List ℕ) (at k : ℕ) → at ≡ 4 * length (all_pairs owner others k) →
    sets (sets out 0 (quads (all_pairs owner others k))) at (quads (slot_pairs owner (k + 1) others (length others)))
    ≡ sets out 0 (quads (all_pairs owner others (k + 1)))
unfolding all_pairs
all_pairs-next owner others out at k e =
    ap (λ (i : ℕ). sets (sets out 0 (quads (all_pairs owner others k))) at (quads (slot_pairs owner i others (length others)))) (add-one k)
    ∙ quads-next (λ i. slot_pairs owner (suc i) others (length others)) out 0 at k (omega arith)

-- The list of a set. Lists for each of its numbers, one after another: with one number more,
module _ {A : Type 0} (g : ℕ → List A) where
  abbrev for_each : List ℕ → List A
  for_each l = joined (λ i. g (get_or l i 0)) (length l)

  each_more : (l : List ℕ) (x : ℕ) → for_each (l ++ (x ∷ [])) ≡ for_each l ++ g x
  unfolding joined
  each_more l x =
      let more = l ++ (x ∷ []) in
      let size : length more ≡ suc (length l) = (let long = length-append l (x ∷ []) in omega arith) in
      ap (joined (λ i. g (get_or more i 0))) size
      ∙ ap₂ ◌++◌
      (joined_same (λ i. g (get_or more i 0)) (λ i. g (get_or l i 0)) (length l) (λ i h. ap g (get_or-append l (x ∷ []) 0 i h)))
      (ap g (get_or-append_seam l x [] 0))

  -- so they are lists for each of 1 to n, where a number that is no member has none
  each_member : (member : ℕ → Bool) (n : ℕ) → for_each (rising_members member n) ≡ joined (λ j. cond (member (suc j)) (g (suc j)) []) n
  unfolding joined rising_members
  each_member member zero = refl
  each_member member (suc n) =
      let before = joined (λ j. cond (member (suc j)) (g (suc j)) []) n in
      ⊎_elim
      (λ (e : member (suc n) ≡ true).
      ap for_each (members-next member n e)
      ∙ each_more (rising_members member n) (suc n)
      ∙ ap₂ (λ (l : List A) (t : Bool). l ++ cond t (g (suc n)) []) (each_member member n) (sym e))
      (λ (e : member (suc n) ≡ false).
      ap for_each (members-same member n e)
      ∙ each_member member n
      ∙ sym (append-nil before)
      ∙ ap (λ (t : Bool). before ++ cond t (g (suc n)) []) (sym e))
      (holds_or_fails (member (suc n)))

-- The conditions of the list of a set are those of the set,
pub set_pairs : (n m owner : ℕ) (member : ℕ → Bool) (rivals : List ℕ) → ((j : ℕ) → j < n → member (suc j) ≡ in_set rivals (suc j)) →
    all_pairs owner (rising_members member n) m ≡ above_terms_of n m owner rivals
unfolding all_pairs slot_pairs above_terms_of
set_pairs n m owner member rivals same =
    let others = rising_members member n in
    joined_same
    (λ k. slot_pairs owner (suc k) others (length others))
    (λ k. joined (λ j. cond (in_set rivals (suc j)) (pairs_at owner (suc k) (suc j)) []) n)
    m
    (λ k l.
    each_member (pairs_at owner (suc k)) member n
    ∙ joined_same
    (λ j. cond (member (suc j)) (pairs_at owner (suc k) (suc j)) [])
    (λ j. cond (in_set rivals (suc j)) (pairs_at owner (suc k) (suc j)) [])
    n
    (λ j h. ap (λ (t : Bool). cond t (pairs_at owner (suc k) (suc j)) []) (same j h)))

-- and so many: m × (m − 1) / 2 for each rival.
pub terms-many : (n m owner : ℕ) (rivals : List ℕ) → length (above_terms_of n m owner rivals) ≡ member_count n rivals * slots_above m
unfolding member_count
terms-many n m owner rivals =
    let others = rising_members (in_set rivals) n in
    ap length (sym (set_pairs n m owner (in_set rivals) rivals (λ j l. refl)))
    ∙ all_pairs-many owner others m
    ∙ ap (λ (k : ℕ). k * slots_above m) (members-many (in_set rivals) n)

pub terms_twice : (n m owner : ℕ) (rivals : List ℕ) → 2 * length (above_terms_of n m owner rivals) ≡ member_count n rivals * (m * (m - 1))
terms_twice n m owner rivals =
    let many = terms-many n m owner rivals in
    let both = mul-add (member_count n rivals) (slots_above m) (slots_above m) in
    let twice : slots_above m + slots_above m ≡ m * (m - 1) = (let h = slots_twice m in omega arith) in
    let same = ap (λ (k : ℕ). member_count n rivals * k) twice in
    omega arith
