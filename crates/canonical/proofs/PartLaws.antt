-- The parts of the written sheet: a condition's bytes are those of its number turned round, and each part is stored where the one before it ends.
-- Assumes nothing.
use Prim.Native.Nat.{ℕ, suc, ◌+◌, ◌-◌, ◌*◌, ◌/◌, ◌%◌, ◌^◌, ◌<◌, ◌≤◌}
use mathlib.Core.List.{List, ◌++◌, append_assoc}
use mathlib.Core.Logic.{⊎_elim}
use mathlib.Core.Path.{◌≡◌, refl, sym, ◌∙◌, ap, subst}
use borrow.Author.Tests.{lt-ltb, le-ltb}
use borrow.Rule.Slice.PartMut.{put_mid}
use native.Mathlib.Nat.{mod-eq_of_lt}
use native.Mathlib.Omega.{arith}
use lib.ListN.{length, get_or, take, drop, length-drop, length-append, get_or-append}
use lib.Seq.{sets, length-take-le, get_or-take}
use Rattle.std.proofs.lemmas.List.Edits.{sets-eq}
use Rattle.basis.specs.Bytes.{byte_at, bytes32}
use Rattle.basis.proofs.BytesLaws.{word_bytes}
use Rattle.basis.proofs.FirstLaws.{or_else_left, or_else_right, refused_leaves, answered-gives}
use Rattle.basis.proofs.SliceLaws.{put_mid-sets}
use Rattle.basis.specs.Rows.{joined}
use Rattle.basis.proofs.RowLaws.{joined_same, sets_then, joined_stored, sets_front}
use Rattle.sheet.specs.Sheet.{version, bidder_count, slot_count, constraint_count, constraints_start}
use Rattle.sheet.specs.Refusal.{refusal_of, Accepted}
use Rattle.sheet.specs.Accepted.{fields_number, order_number}
use Rattle.sheet.proofs.AcceptedLaws.{accepted-sheet}
use Rattle.sheet.proofs.HeaderLaws.{start_other}
use Rattle.canonical_sort.specs.EngineSort.{DigitsBelow, Sorted, EachOnce}
use Rattle.canonical.specs.Canonical.{canonical_sheet, canonical_refusal, canonical_buffer, CanonicalWritten}
use Rattle.canonical.specs.EngineParts.{header_of, number_bytes, numbers_bytes, InSheetOrder}
use Rattle.canonical.proofs.OrderedLaws.{digits_low, numbers_some, ordered_numbers}
use Rattle.canonical.proofs.WrittenLaws.{written-length, written-parts}

-- the number turned round has the number's bytes, the highest first
pub turned_bytes : (x : ℕ) → x < 2 ^ 32 → bytes32 (fields_number (x % 256) (x / 256 % 256) (x / 65536 % 256) (x / 16777216)) ≡ number_bytes x
unfolding bytes32 number_bytes
turned_bytes x low =
    let a = x / 16777216 in
    let b = x / 65536 % 256 in
    let c = x / 256 % 256 in
    let d = x % 256 in
    let e : fields_number d c b a ≡ a + 256 * b + 65536 * c + 16777216 * d = omega arith in
    let parts = word_bytes a b c d (omega arith) (omega arith) (omega arith) (omega arith) in
    let high : a % 256 ≡ a = mod-eq_of_lt (omega arith) in
    let first : d % 256 ≡ d = mod-eq_of_lt (omega arith) in
    rw (e, parts.0, parts.1.0, parts.1.1.0, parts.1.1.1, high, first)

length-number : (x : ℕ) → length (number_bytes x) ≡ 4
unfolding number_bytes
length-number x = refl

-- one number more is stored after the first k
pub numbers_next : (numbers out : List ℕ) (at k : ℕ) →
    sets (sets out at (numbers_bytes numbers k)) (at + 4 * k) (number_bytes (get_or numbers k 0)) ≡ sets out at (numbers_bytes numbers (suc k))
unfolding numbers_bytes
numbers_next numbers out at k = joined_stored (λ i. number_bytes (get_or numbers i 0)) 4 (λ i. length-number (get_or numbers i 0)) out at k

-- the first k numbers by themselves have the same bytes
pub numbers_front : (numbers : List ℕ) (k : ℕ) → k ≤ length numbers → numbers_bytes (take k numbers) (length (take k numbers)) ≡ numbers_bytes numbers k
unfolding numbers_bytes
numbers_front numbers k room =
    ap (joined (λ i. number_bytes (get_or (take k numbers) i 0))) (length-take-le k numbers room)
    ∙ joined_same (λ i. number_bytes (get_or (take k numbers) i 0)) (λ i. number_bytes (get_or numbers i 0)) k
    (λ i l. ap number_bytes (get_or-take k numbers i 0 l))

-- bytes copied to a part of a buffer are a run of stores
pub copied : (out bytes : List ℕ) (at end : ℕ) → end ≡ at + length bytes → end ≤ length out → take at out ++ (bytes ++ drop end out) ≡ sets out at bytes
copied out bytes at end e room = rw (e, ← append_assoc) (sym (sets-eq bytes out at (omega arith)))

pub copied_from : (out bytes s : List ℕ) (at from n : ℕ) → bytes ≡ take (from + n - from) (drop from s) → from + n ≤ length s → at + n ≤ length out →
    put_mid at (at + n - at) out bytes ≡ sets out at (take n (drop from s))
copied_from out bytes s at from n e there here =
    let front : from + n - from ≡ n = omega arith in
    let same : bytes ≡ take n (drop from s) = rw front at e in
    let left = length-drop from s in
    let size : length bytes ≡ n = ap length same ∙ length-take-le n (drop from s) (omega arith) in
    put_mid-sets out bytes at (at + n - at) (omega arith) (omega arith) ∙ ap (sets out at) same

-- Numbers are read to the front of a room for 1,024.
module _ (room : List ℕ) (count : ℕ) (sized : length room ≡ 1024) (few : count ≤ 1024) where
  pub front-size : length (take count room) ≡ count
  front-size = length-take-le count room (omega arith)

  pub front_within : (start end : ℕ) → start + 4 * count ≤ end → start + 4 * length (take count room) ≤ end
  front_within start end l = let size = front-size in omega arith

  module _ (front : List ℕ) (kept : length front ≡ length (take count room)) where
    pub read_sized : length (front ++ drop count room) ≡ 1024
    read_sized =
        let size = front-size in
        let rest = length-drop count room in
        length-append front (drop count room) ∙ (let e : length front + length (drop count room) ≡ 1024 = omega arith in e)

    pub read_front : (s : List ℕ) → ((k : ℕ) → k < length (take count room) → get_or front k 0 ≡ order_number s k) →
        (k : ℕ) → k < count → get_or (front ++ drop count room) k 0 ≡ order_number s k
    read_front s read k l =
        let size = front-size in
        get_or-append front (drop count room) 0 k (omega arith) ∙ read k (omega arith)

-- Numbers read from an accepted sheet, sorted, and each once, where the count is a number that the code has read:
module _ (s read : List ℕ) (count : ℕ) (ok : Accepted s) (many : count ≡ constraint_count s)
    (as_read : (i : ℕ) → i < count → get_or read i 0 ≡ order_number s i) where
  read-there : (i : ℕ) → i < constraint_count s → get_or read i 0 ≡ order_number s i
  read-there i l = as_read i (omega arith)

  pub read_low : DigitsBelow 0 count read (slot_count s + 1)
      × DigitsBelow 8 count read (bidder_count s + 1)
      × DigitsBelow 16 count read (slot_count s + 1)
      × DigitsBelow 24 count read (bidder_count s + 1)
  read_low =
      let low = digits_low s ok read read-there in
      (λ i l. low.0 i (omega arith), λ i l. low.1 i (omega arith), λ i l. low.2 i (omega arith), λ i l. low.3 i (omega arith))

  module _ (sorted : List ℕ) (same : Sorted count read sorted) where
    pub sorted_some : (i : ℕ) → i < count → 0 < get_or sorted i 0
    sorted_some i l = numbers_some s ok read read-there sorted (subst (λ (n : ℕ). Sorted n read sorted) many same) i (omega arith)

    pub sorted_order : (ordered : List ℕ) (k : ℕ) → EachOnce count sorted k ordered → InSheetOrder s ordered k
    sorted_order ordered k once =
        ordered_numbers s ok read read-there sorted (subst (λ (n : ℕ). Sorted n read sorted) many same) ordered k
        (subst (λ (n : ℕ). EachOnce n sorted k ordered) many once)

-- An accepted sheet that is not of version 2 is of version 1.
pub version_one : (s : List ℕ) → Accepted s → (version s ≡ 2 → ⊥) → version s ≡ 1
version_one s ok h = ⊎_elim (λ (e : version s ≡ 1). e) (λ (e : version s ≡ 2). absurd (h e)) (accepted-sheet s ok).form.known

-- Its effects and bids stand after 9 bytes, and its constraints after these.
module _ (s : List ℕ) (ok : Accepted s) (one : version s ≡ 1) where
  pub body_end : 9 + 4 * (bidder_count s + slot_count s) ≡ constraints_start s
  body_end = let start = start_other s (λ e. absurd (omega arith)) in omega arith

  pub body_room : 9 + 4 * (bidder_count s + slot_count s) ≤ length s
  body_room = let end = body_end in let whole = (accepted-sheet s ok).counts.whole in omega arith

-- How long the written sheet is, by the numbers that the code has.
pub ordered_size : (s numbers : List ℕ) (k : ℕ) → InSheetOrder s numbers k →
    13 + 4 * (bidder_count s + slot_count s) + 4 * k ≡ length (canonical_sheet s)
ordered_size s numbers k order = let size = written-length s in let many = order.as_many in omega arith

-- Three runs of stores, each where the one before ends, are one from index 0
three_runs : (out first middle last : List ℕ) (a b : ℕ) → length first ≡ a → a + length middle ≡ b →
    sets (sets (sets out 0 first) a middle) b last ≡ sets out 0 (first ++ (middle ++ last))
three_runs out first middle last a b e g =
    ap (λ (n : ℕ). sets (sets (sets out 0 first) a middle) n last) (sym g)
    ∙ sets_then middle last (sets out 0 first) a
    ∙ ap (λ (n : ℕ). sets (sets out 0 first) n (middle ++ last)) (let z : a ≡ 0 + length first = omega arith in z)
    ∙ sets_then first (middle ++ last) out 0

length-header : (tick n m c : ℕ) → length (header_of tick n m c) ≡ 13
unfolding header_of bytes32
length-header tick n m c = refl

-- and of the header, the effects and bids, and the numbers they are the written sheet.
pub ordered_written : (s out one two three numbers : List ℕ) (k : ℕ) → Accepted s → version s ≡ 1 → ((i : ℕ) → byte_at s i < 256) →
    InSheetOrder s numbers k →
    one ≡ sets out 0 (header_of 1 (bidder_count s) (slot_count s) k) →
    two ≡ sets one 13 (take (4 * (bidder_count s + slot_count s)) (drop 9 s)) →
    three ≡ sets two (13 + 4 * (bidder_count s + slot_count s)) (numbers_bytes numbers k) →
    three ≡ sets out 0 (canonical_sheet s)
ordered_written s out one two three numbers k ok first low order e f g =
    let body = 4 * (bidder_count s + slot_count s) in
    let header = header_of 1 (bidder_count s) (slot_count s) k in
    let middle = take body (drop 9 s) in
    let size : length middle ≡ body =
    length-take-le body (drop 9 s) (let left = length-drop 9 s in let room = body_room s ok first in omega arith) in
    g
    ∙ ap (λ (l : List ℕ). sets l (13 + body) (numbers_bytes numbers k)) (f ∙ ap (λ (l : List ℕ). sets l 13 middle) e)
    ∙ three_runs out header middle (numbers_bytes numbers k) 13 (13 + body) (length-header 1 (bidder_count s) (slot_count s) k) (omega arith)
    ∙ ap (sets out 0) (sym (written-parts s numbers k ok first low order))

-- The call's three ways out: a number of the check, 19, and the written sheet.
pub sheet-refused : (s out : List ℕ) (number : ℕ) → number ≡ refusal_of s → (number ≡ 0 → ⊥) →
    CanonicalWritten s out (record { refusal = number; length = 0 }) out
unfolding canonical_refusal
sheet-refused s out number e h =
    let same : number ≡ canonical_refusal s out = e ∙ sym (or_else_left (refusal_of s) _ (λ z. h (e ∙ z))) in
    record {
      number = same;
      size = refused_leaves (canonical_refusal s out) number (length (canonical_sheet s)) 0 same h;
      buffer = refused_leaves (canonical_refusal s out) number (canonical_buffer s out) out same h;
    }

pub buffer_short : (s out : List ℕ) → Accepted s → length out < length (canonical_sheet s) →
    CanonicalWritten s out (record { refusal = 19; length = 0 }) out
unfolding canonical_refusal
buffer_short s out ok less =
    let same : 19 ≡ canonical_refusal s out
    = sym (or_else_right (refusal_of s) _ ok ∙ simp (lt-ltb (length out) (length (canonical_sheet s)) less)) in
    record {
      number = same;
      size = refused_leaves (canonical_refusal s out) 19 (length (canonical_sheet s)) 0 same (λ z. absurd (omega arith));
      buffer = refused_leaves (canonical_refusal s out) 19 (canonical_buffer s out) out same (λ z. absurd (omega arith));
    }

pub sheet-written : (s out out' : List ℕ) (size : ℕ) → Accepted s → size ≡ length (canonical_sheet s) → size ≤ length out →
    out' ≡ sets out 0 (canonical_sheet s) → CanonicalWritten s out (record { refusal = 0; length = size }) out'
unfolding canonical_refusal canonical_buffer
sheet-written s out out' size ok e room stored =
    let same : canonical_refusal s out ≡ 0
    = or_else_right (refusal_of s) _ ok ∙ simp (le-ltb (length out) (length (canonical_sheet s)) (omega arith)) in
    record {
      number = sym same;
      size = e ∙ answered-gives (canonical_refusal s out) (length (canonical_sheet s)) 0 same;
      buffer =
          stored
          ∙ sets_front (canonical_sheet s) out (omega arith)
          ∙ answered-gives (canonical_refusal s out) (canonical_buffer s out) out same;
    }
