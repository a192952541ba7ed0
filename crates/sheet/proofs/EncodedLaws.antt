-- The bytes of an encoded sheet: its numbers and its conditions stand one after another, four bytes each. So where each field stands is known, and what
-- is read there is what was encoded. Assumes nothing.
use Prim.Native.Nat.{ℕ, zero, suc, ◌+◌, ◌*◌, ◌^◌, ◌<◌}
use mathlib.Core.List.{List, [], ◌∷◌, ◌++◌, append_assoc, append-nil}
use mathlib.Core.Path.{◌≡◌, refl, sym, ◌∙◌, ap, ap₂}
use native.Mathlib.Nat.{add-zero, mod-add-div}
use native.Mathlib.Omega.{arith}
use lib.ListN.{length, get_or, length-append}
use lib.Seq.{get_or-append-add}
use Rattle.basis.specs.Bytes.{byte_at, word16_at, word32_at, bytes32}
use Rattle.basis.specs.Rows.{row, joined}
use Rattle.basis.proofs.BytesLaws.{length-bytes32, word_is, joined_byte}
use Rattle.basis.proofs.RowLaws.{length-row, get_d_row, length-joined, joined_same}
use Rattle.sheet.specs.Sheet.{
  version,
  bidder_count,
  slot_count,
  constraint_count,
  tick_field,
  constraints_start,
  effect_field,
  bid_field,
  owner_field,
  own_slot_field,
  other_field,
  other_slot_field,
}
use Rattle.sheet.specs.Encoded.{Condition, on, words, quads, count_bytes, body_bytes, sheet_in_ticks, condition_field, condition_in}
use Rattle.sheet.specs.Refusal.{Accepted}
use Rattle.sheet.specs.Round.{bidder, kind_of, constraint_field, written_own, written_other, written_others}
use Rattle.sheet.specs.declared.Constraint.{Constraint}
use Rattle.sheet.proofs.AcceptedLaws.{accepted-sheet}
use Rattle.sheet.proofs.RoundLaws.{written_fields}
use Rattle.sheet.proofs.HeaderLaws.{start_two, tick_two}

-- for an index past the end of a list of conditions
abbrev pub blank_condition : Condition
blank_condition = on 0 0 0 0

-- the first of lists one after another, and the others
joined_front : (f : ℕ → List ℕ) (k : ℕ) → joined f (suc k) ≡ f 0 ++ joined (λ i. f (suc i)) k
unfolding joined
joined_front f zero = sym (append-nil (f 0))
joined_front f (suc k) =
    ap (λ (l : List ℕ). l ++ f (suc k)) (joined_front f k) ∙ append_assoc (f 0) (joined (λ i. f (suc i)) k) (f (suc k))

-- what is made of a list element by element is what is made of each, one after another
module _ {A : Type 0} (each : A → List ℕ) (made : List A → List ℕ) (empty : made [] ≡ []) (more : (x : A) (xs : List A) → made (x ∷ xs) ≡ each x ++ made xs) where
  made_joined : (d : A) (xs : List A) → made xs ≡ joined (λ i. each (get_or xs i d)) (length xs)
  unfolding joined
  made_joined d [] = empty
  made_joined d (x ∷ xs) =
      more x xs
      ∙ ap (λ (l : List ℕ). each x ++ l) (made_joined d xs)
      ∙ sym (joined_front (λ i. each (get_or (x ∷ xs) i d)) (length xs))

  made_row : (f : ℕ → A) (k : ℕ) → made (row f k) ≡ joined (λ i. each (f i)) k
  made_row f k =
      made_joined (f 0) (row f k)
      ∙ ap (joined (λ i. each (get_or (row f k) i (f 0)))) (length-row f k)
      ∙ joined_same (λ i. each (get_or (row f k) i (f 0))) (λ i. each (f i)) k (λ i l. ap each (get_d_row f k (f 0) i l))

-- so numbers
pub words-joined : (xs : List ℕ) → words xs ≡ joined (λ i. bytes32 (get_or xs i 0)) (length xs)
unfolding words
words-joined xs = made_joined bytes32 words refl (λ x xs. refl) 0 xs

pub words_row : (f : ℕ → ℕ) (k : ℕ) → words (row f k) ≡ joined (λ i. bytes32 (f i)) k
unfolding words
words_row f k = made_row bytes32 words refl (λ x xs. refl) f k

-- and conditions
unfoldable pub quad_bytes : Condition → List ℕ
quad_bytes q = q.owner ∷ q.own ∷ q.other ∷ q.others ∷ []

pub quads-joined : (d : Condition) (qs : List Condition) → quads qs ≡ joined (λ i. quad_bytes (get_or qs i d)) (length qs)
unfolding quads quad_bytes
quads-joined d qs = made_joined quad_bytes quads refl (λ q qs. refl) d qs

pub quads-row : (f : ℕ → Condition) (k : ℕ) → quads (row f k) ≡ joined (λ i. quad_bytes (f i)) k
unfolding quads quad_bytes
quads-row f k = made_row quad_bytes quads refl (λ q qs. refl) f k

pub length-words : (xs : List ℕ) → length (words xs) ≡ 4 * length xs
length-words xs = ap length (words-joined xs) ∙ length-joined (λ i. bytes32 (get_or xs i 0)) 4 (λ i. length-bytes32 (get_or xs i 0)) (length xs)

length_quad : (q : Condition) → length (quad_bytes q) ≡ 4
unfolding quad_bytes
length_quad q = refl

pub length-quads : (qs : List Condition) → length (quads qs) ≡ 4 * length qs
length-quads qs = ap length (quads-joined blank_condition qs) ∙ length-joined (λ i. quad_bytes (get_or qs i blank_condition)) 4 (λ i. length_quad (get_or qs i blank_condition)) (length qs)

-- a byte of lists of four, one after another behind a front of a known length
byte_behind : (front : List ℕ) (f : ℕ → List ℕ) (rest : List ℕ) (at n k j : ℕ) → length front ≡ at → ((i : ℕ) → length (f i) ≡ 4) → k < n → j < 4 →
    byte_at (front ++ (joined f n ++ rest)) (at + 4 * k + j) ≡ byte_at (f k) j
byte_behind front f rest at n k j size each l b =
    ap (byte_at (front ++ (joined f n ++ rest))) (let place : at + 4 * k + j ≡ length front + (4 * k + j) = omega arith in place)
    ∙ get_or-append-add front (joined f n ++ rest) (4 * k + j) 0
    ∙ joined_byte f 4 each n k j rest l b

-- a number there
word_behind : (front xs rest : List ℕ) (at k : ℕ) → length front ≡ at → k < length xs → get_or xs k 0 < 2 ^ 32 →
    word32_at (front ++ (words xs ++ rest)) (at + 4 * k) ≡ get_or xs k 0
word_behind front xs rest at k size l low =
    word_is (front ++ (words xs ++ rest)) (at + 4 * k) (get_or xs k 0) low
    (λ j b.
    ap (λ (w : List ℕ). byte_at (front ++ (w ++ rest)) (at + 4 * k + j)) (words-joined xs)
    ∙ byte_behind front (λ i. bytes32 (get_or xs i 0)) rest at (length xs) k j size (λ i. length-bytes32 (get_or xs i 0)) l b)

-- What is read of an encoded sheet.
module _ (tick : ℕ) (bids effects : List ℕ) (qs : List Condition) where
  abbrev encoded : List ℕ
  encoded = sheet_in_ticks tick bids effects qs

  pub read-version : version encoded ≡ 2
  unfolding sheet_in_ticks word16_at
  read-version = refl

  pub read-bidders : bidder_count encoded ≡ length bids
  unfolding sheet_in_ticks count_bytes
  read-bidders = refl

  pub read-slots : slot_count encoded ≡ length effects
  unfolding sheet_in_ticks count_bytes
  read-slots = refl

  pub read-constraints : constraint_count encoded ≡ length qs
  unfolding sheet_in_ticks count_bytes word16_at
  read-constraints = mod-add-div (length qs) 256

  pub read_tick : tick < 2 ^ 32 → tick_field encoded ≡ tick
  unfolding sheet_in_ticks count_bytes words
  read_tick low =
      tick_two encoded read-version
      ∙ word_behind (0x50 ∷ 0x41 ∷ 0x53 ∷ 2 ∷ 0 ∷ count_bytes bids effects qs) (tick ∷ []) (body_bytes bids effects qs) 9 0 refl (omega arith) low

  -- up to the effects, the bids and the conditions
  header-bytes : List ℕ
  unfolding sheet_in_ticks count_bytes bytes32
  header-bytes = 0x50 ∷ 0x41 ∷ 0x53 ∷ 2 ∷ 0 ∷ (count_bytes bids effects qs ++ bytes32 tick)

  from_effects : encoded ≡ header-bytes ++ (words effects ++ (words bids ++ quads qs))
  unfolding header-bytes sheet_in_ticks count_bytes bytes32 body_bytes
  from_effects = refl

  header-size : length header-bytes ≡ 13
  unfolding header-bytes count_bytes bytes32
  header-size = refl

  from_bids : encoded ≡ (header-bytes ++ words effects) ++ (words bids ++ quads qs)
  from_bids = from_effects ∙ sym (append_assoc header-bytes (words effects) (words bids ++ quads qs))

  effects-size : length (header-bytes ++ words effects) ≡ 13 + 4 * length effects
  effects-size = length-append header-bytes (words effects) ∙ ap₂ ◌+◌ header-size (length-words effects)

  from_conditions : encoded ≡ ((header-bytes ++ words effects) ++ words bids) ++ quads qs
  from_conditions = from_bids ∙ sym (append_assoc (header-bytes ++ words effects) (words bids) (quads qs))

  bids-size : length ((header-bytes ++ words effects) ++ words bids) ≡ 13 + 4 * length effects + 4 * length bids
  bids-size = length-append (header-bytes ++ words effects) (words bids) ∙ ap₂ ◌+◌ effects-size (length-words bids)

  pub encoded_length : length encoded ≡ 13 + 4 * (length effects + length bids + length qs)
  encoded_length =
      ap length from_conditions
      ∙ length-append ((header-bytes ++ words effects) ++ words bids) (quads qs)
      ∙ (let front = bids-size in let rest = length-quads qs in omega arith)

  pub read_effect : (k : ℕ) → k < length effects → get_or effects k 0 < 2 ^ 32 → effect_field encoded (suc k) ≡ get_or effects k 0
  unfolding effect_field
  read_effect k l low =
      ap₂ (λ (t : List ℕ) (x : ℕ). word32_at t (x + 4 * k)) from_effects (start_two encoded read-version)
      ∙ word_behind header-bytes effects (words bids ++ quads qs) 13 k header-size l low

  pub read_bid : (i : ℕ) → i < length bids → get_or bids i 0 < 2 ^ 32 → bid_field encoded (suc i) ≡ get_or bids i 0
  unfolding bid_field
  read_bid i l low =
      ap₂ (λ (t : List ℕ) (x : ℕ). word32_at t (x + 4 * i)) from_bids
      (ap₂ (λ (x m : ℕ). x + 4 * m) (start_two encoded read-version) read-slots)
      ∙ word_behind (header-bytes ++ words effects) bids (quads qs) (13 + 4 * length effects) i effects-size l low

  conditions_start : constraints_start encoded ≡ 13 + 4 * length effects + 4 * length bids
  conditions_start = let start = start_two encoded read-version in let n = read-bidders in let m = read-slots in omega arith

  condition_byte : (k j : ℕ) → k < length qs → j < 4 → byte_at encoded (constraints_start encoded + 4 * k + j) ≡ byte_at (quad_bytes (get_or qs k blank_condition)) j
  condition_byte k j l b =
      ap₂ (λ (t : List ℕ) (x : ℕ). byte_at t (x + 4 * k + j))
      (from_conditions
      ∙ ap (λ (w : List ℕ). ((header-bytes ++ words effects) ++ words bids) ++ w) (quads-joined blank_condition qs ∙ sym (append-nil _)))
      conditions_start
      ∙ byte_behind ((header-bytes ++ words effects) ++ words bids) (λ i. quad_bytes (get_or qs i blank_condition)) []
      (13 + 4 * length effects + 4 * length bids) (length qs) k j bids-size (λ i. length_quad (get_or qs i blank_condition)) l b

  pub read_condition : (k : ℕ) → k < length qs → condition_field encoded k ≡ get_or qs k blank_condition
  unfolding condition_field owner_field own_slot_field other_field other_slot_field quad_bytes
  read_condition k l =
      let q = get_or qs k blank_condition in
      let start = constraints_start encoded + 4 * k in
      ap₂ (λ (a b : ℕ). on a b (byte_at encoded (start + 2)) (byte_at encoded (start + 3)))
      (ap (byte_at encoded) (sym (add-zero start)) ∙ condition_byte k 0 l (omega arith))
      (condition_byte k 1 l (omega arith))
      ∙ ap₂ (λ (c d : ℕ). on q.owner q.own c d) (condition_byte k 2 l (omega arith)) (condition_byte k 3 l (omega arith))

-- what is read of conditions alone, with anything after them
in_byte : (qs : List Condition) (rest : List ℕ) (k j : ℕ) → k < length qs → j < 4 →
    byte_at (quads qs ++ rest) (4 * k + j) ≡ byte_at (quad_bytes (get_or qs k blank_condition)) j
in_byte qs rest k j l b =
    ap (λ (w : List ℕ). byte_at (w ++ rest) (4 * k + j)) (quads-joined blank_condition qs)
    ∙ joined_byte (λ i. quad_bytes (get_or qs i blank_condition)) 4 (λ i. length_quad (get_or qs i blank_condition)) (length qs) k j rest l b

pub read_in : (qs : List Condition) (rest : List ℕ) (k : ℕ) → k < length qs → condition_in (quads qs ++ rest) k ≡ get_or qs k blank_condition
unfolding condition_in quad_bytes
read_in qs rest k l =
    let q = get_or qs k blank_condition in
    let out = quads qs ++ rest in
    ap₂ (λ (a b : ℕ). on a b (byte_at out (4 * k + 2)) (byte_at out (4 * k + 3)))
    (ap (byte_at out) (sym (add-zero (4 * k))) ∙ in_byte qs rest k 0 l (omega arith))
    (in_byte qs rest k 1 l (omega arith))
    ∙ ap₂ (λ (c d : ℕ). on q.owner q.own c d) (in_byte qs rest k 2 l (omega arith)) (in_byte qs rest k 3 l (omega arith))

-- a condition in the types of the source,
unfoldable pub as_constraint : Condition → Constraint
as_constraint q = record { owner = bidder q.owner; kind = kind_of q.own q.other q.others }

pub field_constraint : (s : List ℕ) (k : ℕ) → constraint_field s k ≡ as_constraint (condition_field s k)
unfolding constraint_field condition_field as_constraint
field_constraint s k = refl

-- from which, of an accepted sheet, its fields are read back
abbrev pub read_back : Constraint → Condition
read_back q = on q.owner.0 (written_own q.kind) (written_other q.kind) (written_others q.kind)

pub field-written : (s : List ℕ) → Accepted s → (k : ℕ) → k < constraint_count s → condition_field s k ≡ read_back (constraint_field s k)
unfolding constraint_field condition_field
field-written s ok k l =
    let fields =
    written_fields (bidder_count s) (slot_count s) (owner_field s k) (own_slot_field s k) (other_field s k) (other_slot_field s k)
    ((accepted-sheet s ok).constraints k l) in
    ap (λ (own : ℕ). on (owner_field s k) own (other_field s k) (other_slot_field s k)) (sym fields.0)
    ∙ ap₂ (λ (other others : ℕ). on (owner_field s k) (written_own (constraint_field s k).kind) other others) (sym fields.1.0) (sym fields.1.1)
