-- What stands where after the four bytes of a number are written: the number itself at their offset, and elsewhere what stood there.
-- A run of stores changes no index before or after it, and gives the j-th index of it its j-th value.
-- Last, a number by its four bytes, a byte in lists of one length one after another, and the bytes from a place within a list. Assumes nothing.
use Prim.Native.Nat.{ℕ, zero, suc, ◌+◌, ◌*◌, ◌/◌, ◌%◌, ◌^◌, ◌<◌, ◌≤◌}
use mathlib.Core.List.{List, [], ◌∷◌, ◌++◌, append_assoc}
use mathlib.Core.Logic.{◌⊎◌, inl, inr, ⊎_elim}
use mathlib.Core.Path.{◌≡◌, refl, sym, ◌∙◌, ap, ap₂}
use native.Mathlib.Nat.{add-zero, eq-or-lt_of_le, le_of_suc-le-suc, not-suc-le-zero, mod-eq_of_lt, mod-add-div, div-div-eq-div-mul}
use native.Mathlib.Omega.{arith}
use lib.ListN.{length, set, take, drop, length-set, length-drop, get_or-append}
use lib.Seq.{get_or-set_same, get_or-set_other, get_or-append-add, sets, take-suc, get_or-drop}
use Rattle.basis.specs.Bytes.{byte_at, word16_at, word32_at, bytes32}
use Rattle.basis.specs.Rows.{row, joined}
use Rattle.basis.proofs.RowLaws.{length-joined}

-- a run of stores leaves each index before it,
sets-before : (vs l : List ℕ) (at k : ℕ) → k < at → byte_at (sets l at vs) k ≡ byte_at l k
sets-before [] l at k h = refl
sets-before (v ∷ vs) l at k h =
    sets-before vs (set l at v) (suc at) k (omega arith) ∙ get_or-set_other l at k v 0 (omega arith)

-- each index after it,
sets_after : (vs l : List ℕ) (at k : ℕ) → at + length vs ≤ k → byte_at (sets l at vs) k ≡ byte_at l k
sets_after [] l at k h = refl
sets_after (v ∷ vs) l at k h =
    sets_after vs (set l at v) (suc at) k (omega arith) ∙ get_or-set_other l at k v 0 (omega arith)

-- and gives its j-th index its j-th value
sets-inside : (vs l : List ℕ) (at j : ℕ) → at + length vs ≤ length l → j < length vs → byte_at (sets l at vs) (at + j) ≡ byte_at vs j
sets-inside [] l at j h b = absurd (not-suc-le-zero b)
sets-inside (v ∷ vs) l at zero h b =
    ap (byte_at (sets (set l at v) (suc at) vs)) (add-zero at)
    ∙ sets-before vs (set l at v) (suc at) at (omega arith)
    ∙ get_or-set_same l at v 0 (omega arith)
sets-inside (v ∷ vs) l at (suc j) h b =
    let e : at + suc j ≡ suc at + j = omega arith in
    let size = length-set l at v in
    ap (byte_at (sets (set l at v) (suc at) vs)) e ∙ sets-inside vs (set l at v) (suc at) j (omega arith) (omega arith)

pub length-bytes32 : (x : ℕ) → length (bytes32 x) ≡ 4
unfolding bytes32
length-bytes32 x = refl

-- a number divided by 256 three times is the sum of the three remainders and the last quotient, each by its weight
remainders_sum : (x q r t a b c : ℕ) → a + 256 * q ≡ x → b + 256 * r ≡ q → c + 256 * t ≡ r →
    a + 256 * b + 65536 * c + 16777216 * t ≡ x
remainders_sum x q r t a b c e f g = omega arith

-- so one below 2 ^ 32 is the sum of its four bytes
four_bytes : (x : ℕ) → x < 2 ^ 32 →
    x % 256 + 256 * (x / 256 % 256) + 65536 * (x / 65536 % 256) + 16777216 * (x / 16777216 % 256) ≡ x
four_bytes x h =
    let second : x / 256 / 256 ≡ x / 65536 = div-div-eq-div-mul x 256 256 in
    let third : x / 65536 / 256 ≡ x / 16777216 = div-div-eq-div-mul x 65536 256 in
    let last : x / 16777216 % 256 ≡ x / 16777216 = mod-eq_of_lt (omega arith) in
    ap (λ (d : ℕ). x % 256 + 256 * (x / 256 % 256) + 65536 * (x / 65536 % 256) + 16777216 * d) last
    ∙ remainders_sum x (x / 256) (x / 65536) (x / 16777216) (x % 256) (x / 256 % 256) (x / 65536 % 256)
    (mod-add-div x 256)
    (ap (λ (q : ℕ). x / 256 % 256 + 256 * q) (sym second) ∙ mod-add-div (x / 256) 256)
    (ap (λ (q : ℕ). x / 65536 % 256 + 256 * q) (sym third) ∙ mod-add-div (x / 65536) 256)

-- The four bytes of x written at an offset.
module _ (s : List ℕ) (at x : ℕ) where
  -- a byte that is none of them is unchanged
  pub byte_elsewhere : (i : ℕ) → (i < at) ⊎ (at + 4 ≤ i) → byte_at (sets s at (bytes32 x)) i ≡ byte_at s i
  byte_elsewhere i =
      ⊎_elim
      (λ (h : i < at). sets-before (bytes32 x) s at i h)
      (λ (h : at + 4 ≤ i). let size = length-bytes32 x in sets_after (bytes32 x) s at i (omega arith))

  -- so is each byte k of a word of n bytes at i that holds none of them,
  word_byte : (i n : ℕ) → (i + n ≤ at) ⊎ (at + 4 ≤ i) → (k : ℕ) → i ≤ k → k < i + n → byte_at (sets s at (bytes32 x)) k ≡ byte_at s k
  word_byte i n apart k from to =
      byte_elsewhere k (⊎_elim (λ (h : i + n ≤ at). inl (omega arith)) (λ (h : at + 4 ≤ i). inr (omega arith)) apart)

  -- and the word itself
  pub word16_elsewhere : (i : ℕ) → (i + 2 ≤ at) ⊎ (at + 4 ≤ i) → word16_at (sets s at (bytes32 x)) i ≡ word16_at s i
  unfolding word16_at
  word16_elsewhere i apart =
      let same = word_byte i 2 apart in
      omega (arith, same i (omega arith) (omega arith), same (i + 1) (omega arith) (omega arith))

  pub word32_elsewhere : (i : ℕ) → (i + 4 ≤ at) ⊎ (at + 4 ≤ i) → word32_at (sets s at (bytes32 x)) i ≡ word32_at s i
  unfolding word32_at
  word32_elsewhere i apart =
      let same = word_byte i 4 apart in
      let a = same i (omega arith) (omega arith) in
      let b = same (i + 1) (omega arith) (omega arith) in
      let c = same (i + 2) (omega arith) (omega arith) in
      let d = same (i + 3) (omega arith) (omega arith) in
      omega arith

  -- the j-th byte from the offset is x's j-th,
  byte_inside : (j : ℕ) → at + 4 ≤ length s → j < 4 → byte_at (sets s at (bytes32 x)) (at + j) ≡ byte_at (bytes32 x) j
  byte_inside j h b = let size = length-bytes32 x in sets-inside (bytes32 x) s at j (omega arith) (omega arith)

  -- and the word there is x
  pub word_of-bytes : at + 4 ≤ length s → x < 2 ^ 32 → word32_at (sets s at (bytes32 x)) at ≡ x
  unfolding word32_at bytes32
  word_of-bytes fits low =
      let a : byte_at (sets s at (bytes32 x)) at ≡ x % 256
      = ap (byte_at (sets s at (bytes32 x))) (sym (add-zero at)) ∙ byte_inside 0 fits (omega arith) in
      let b : byte_at (sets s at (bytes32 x)) (at + 1) ≡ x / 256 % 256 = byte_inside 1 fits (omega arith) in
      let c : byte_at (sets s at (bytes32 x)) (at + 2) ≡ x / 65536 % 256 = byte_inside 2 fits (omega arith) in
      let d : byte_at (sets s at (bytes32 x)) (at + 3) ≡ x / 16777216 % 256 = byte_inside 3 fits (omega arith) in
      let sum = four_bytes x low in
      omega arith

-- the four bytes that make a number, low byte first, are what divisions leave of it
pub word_bytes : (a b c d : ℕ) → a < 256 → b < 256 → c < 256 → d < 256 →
    let w = a + 256 * b + 65536 * c + 16777216 * d in
    (w % 256 ≡ a) × ((w / 256 % 256 ≡ b) × ((w / 65536 % 256 ≡ c) × (w / 16777216 ≡ d)))
word_bytes a b c d ha hb hc hd = (omega arith, (omega arith, (omega arith, omega arith)))

-- four bytes that are x's say x
pub word_is : (result : List ℕ) (i x : ℕ) → x < 2 ^ 32 →
    ((j : ℕ) → j < 4 → byte_at result (i + j) ≡ byte_at (bytes32 x) j) → word32_at result i ≡ x
unfolding word32_at bytes32
word_is result i x low same =
    let whole = word_of-bytes (0 ∷ 0 ∷ 0 ∷ 0 ∷ []) 0 x (omega arith) low in
    let first : byte_at result i ≡ byte_at (bytes32 x) 0 = ap (byte_at result) (sym (add-zero i)) ∙ same 0 (omega arith) in
    let second = same 1 (omega arith) in
    let third = same 2 (omega arith) in
    let fourth = same 3 (omega arith) in
    omega arith

-- lists of one length c one after another, and any rest: byte j of the k-th
pub joined_byte : (f : ℕ → List ℕ) (c : ℕ) (each : (k : ℕ) → length (f k) ≡ c) (n k j : ℕ) (rest : List ℕ) → k < n → j < c →
    byte_at (joined f n ++ rest) (c * k + j) ≡ byte_at (f k) j
unfolding joined
joined_byte f c each zero k j rest l b = absurd (not-suc-le-zero l)
joined_byte f c each (suc n) k j rest l b =
    ap (λ (s : List ℕ). byte_at s (c * k + j)) (append_assoc (joined f n) (f n) rest)
    ∙ ⊎_elim
    (λ (q : k ≡ n).
    let front = length-joined f c each n in
    let size = each n in
    let e : c * k + j ≡ length (joined f n) + j = ap (λ (m : ℕ). c * m + j) q ∙ ap (λ (m : ℕ). m + j) (sym front) in
    ap (byte_at (joined f n ++ (f n ++ rest))) e
    ∙ get_or-append-add (joined f n) (f n ++ rest) j 0
    ∙ get_or-append (f n) rest 0 j (omega arith)
    ∙ ap (λ (m : ℕ). byte_at (f m) j) (sym q))
    (λ (lt : k < n). joined_byte f c each n k j (f n ++ rest) lt b)
    (eq-or-lt_of_le (le_of_suc-le-suc l))

-- the bytes from a place within a list
pub bytes_stand : (l : List ℕ) (at n : ℕ) → at + n ≤ length l → take n (drop at l) ≡ row (λ i. byte_at l (at + i)) n
unfolding row
bytes_stand l at zero room = refl
bytes_stand l at (suc n) room =
    let rest = length-drop at l in
    take-suc (drop at l) n 0 (omega arith)
    ∙ ap₂ (λ (r : List ℕ) (b : ℕ). r ++ (b ∷ [])) (bytes_stand l at n (omega arith)) (get_or-drop at l n 0)

-- so four of them
pub four_stand : (l : List ℕ) (at : ℕ) → at + 4 ≤ length l → take 4 (drop at l) ≡ byte_at l at ∷ byte_at l (at + 1) ∷ byte_at l (at + 2) ∷ byte_at l (at + 3) ∷ []
unfolding row
four_stand l at room =
    bytes_stand l at 4 room ∙ ap (λ (i : ℕ). byte_at l i ∷ byte_at l (at + 1) ∷ byte_at l (at + 2) ∷ byte_at l (at + 3) ∷ []) (add-zero at)
