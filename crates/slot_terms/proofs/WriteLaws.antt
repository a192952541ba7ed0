-- How many conditions the limit and the bars give, what their bytes are, and what the call answers. Conditions are stored as numbers of four bytes, each
-- list of them where the one before it ends. Assumes nothing.
use Prim.Native.Nat.{ℕ, zero, suc, ◌+◌, ◌-◌, ◌*◌, ◌<◌, ◌≤◌}
use mathlib.Core.List.{List, [], ◌∷◌, ◌++◌}
use mathlib.Core.Logic.{⊎_elim}
use mathlib.Core.Path.{◌≡◌, refl, sym, ◌∙◌, ap, ap₂}
use native.Mathlib.Nat.{mod-eq_of_lt, eq-or-lt_of_le}
use native.Mathlib.Numerals.{add-one}
use native.Mathlib.Omega.{arith}
use lib.ListN.{length, get_or, take, drop, length-append}
use lib.Seq.{sets, take-length}
use Rattle.std.specs.List.{sum}
use Rattle.std.proofs.lemmas.List.Sums.{sum_by_more}
use Rattle.basis.specs.Bytes.{bytes32}
use Rattle.basis.specs.First.{unless_refused}
use Rattle.basis.specs.Rows.{row, joined}
use Rattle.basis.proofs.BytesLaws.{length-bytes32, word_bytes}
use Rattle.basis.proofs.FirstLaws.{refused_leaves, answered-gives}
use Rattle.basis.proofs.RowLaws.{length-row, joined_same, sets_then, joined_stored, sets_front}
use Rattle.sheet.specs.Encoded.{Condition, on, quads}
use Rattle.sheet.proofs.EncodedLaws.{quad_bytes, quads-row, length-quads}
use Rattle.slot_terms.specs.SlotTerms.{bar_for, barred, beyond, slot_terms_of, owner_refusal, profile_refusal, slot_terms_refusal, conditions_buffer, Written, SlotTermsWritten, OwnerFits, TermsFit}
use Rattle.slot_terms.proofs.RefusalLaws.{owner-first, profile_first, nineteen, answered}
use Rattle.slot_terms.specs.EngineTerms.{word_of, bars_to}

-- a bar of more bidders adds nothing below
pub bars-within : (bars : List ℕ) (i n : ℕ) → i ≤ n → bars_to bars i ≤ bars_to bars n
unfolding bars_to
bars-within bars zero zero l = omega arith
bars-within bars (suc i) zero l = absurd (omega arith)
bars-within bars i (suc n) l =
    ⊎_elim
    (λ (e : i ≡ suc n). let same = ap (bars_to bars) e in omega arith)
    (λ (lt : i < suc n). let less = bars-within bars i n (omega arith) in omega arith)
    (eq-or-lt_of_le l)

-- the bars that are written: one a bidder
pub bars-next : (bars : List ℕ) (i : ℕ) → bars_to bars (suc i) ≡ bars_to bars i + get_or bars i 0
unfolding bars_to bar_for
bars-next bars i = refl

-- all of them are the list's sum
sum-bars-to : (bars : List ℕ) (n : ℕ) → n ≤ length bars → sum (take n bars) ≡ bars_to bars n
unfolding bars_to
sum-bars-to bars zero l = refl
sum-bars-to bars (suc n) l =
    ap (λ (k : ℕ). sum (take k bars)) (sym (add-one n))
    ∙ sum_by_more (λ x. x) bars n 0 l
    ∙ ap (λ (k : ℕ). k + get_or bars n 0) (sum-bars-to bars n (omega arith))
    ∙ sym (bars-next bars n)

pub sum-bars : (bars : List ℕ) → sum bars ≡ bars_to bars (length bars)
sum-bars bars = ap sum (sym (take-length bars)) ∙ sum-bars-to bars (length bars) (omega arith)

-- bars of at most 16 each
pub bars-most : (bars : List ℕ) (n : ℕ) → ((i : ℕ) → i < n → get_or bars i 0 ≤ 16) → bars_to bars n ≤ 16 * n
unfolding bars_to bar_for
bars-most bars zero low = omega arith
bars-most bars (suc n) low = omega (arith, bars-most bars n (λ i l. low i (omega arith)), low n (omega arith))

-- the conditions of the bars for bidders 1 to n
abbrev pub all_barred : ℕ → List ℕ → ℕ → List Condition
all_barred owner bars n = joined (λ i. barred owner (suc i) (bar_for bars (suc i))) n

-- How many conditions there are
length-all-barred : (owner : ℕ) (bars : List ℕ) (n : ℕ) → length (all_barred owner bars n) ≡ bars_to bars n
unfolding joined barred bars_to
length-all-barred owner bars zero = refl
length-all-barred owner bars (suc n) =
    length-append (all_barred owner bars n) (barred owner (suc n) (bar_for bars (suc n)))
    ∙ ap₂ ◌+◌ (length-all-barred owner bars n) (length-row (λ k. on owner 0 (suc n) (suc k)) (bar_for bars (suc n)))

length-beyond : (m owner limit : ℕ) → length (beyond m owner limit) ≡ m - limit
unfolding beyond
length-beyond m owner limit = length-row (λ k. on owner (limit + 1 + k) 0 0) (m - limit)

pub terms-count : (n m owner limit : ℕ) (bars : List ℕ) → length (slot_terms_of n m owner limit bars) ≡ bars_to bars n + (m - limit)
unfolding slot_terms_of
terms-count n m owner limit bars =
    length-append (all_barred owner bars n) (beyond m owner limit)
    ∙ ap₂ ◌+◌ (length-all-barred owner bars n) (length-beyond m owner limit)

-- a condition's number has its four bytes
word_quad : (a b c d : ℕ) → a < 256 → b < 256 → c < 256 → d < 256 → bytes32 (word_of a b c d) ≡ quad_bytes (on a b c d)
unfolding bytes32 quad_bytes
word_quad a b c d ha hb hc hd =
    let parts = word_bytes a b c d ha hb hc hd in
    rw (parts.0, parts.1.0, parts.1.1.0, parts.1.1.1, mod-eq_of_lt hd)

-- so conditions of a row are numbers, one after another
words-quads : (word : ℕ → ℕ) (a b c d : ℕ → ℕ) (n : ℕ) →
    ((k : ℕ) → k < n → (a k < 256) × (b k < 256) × (c k < 256) × (d k < 256) × (word k ≡ word_of (a k) (b k) (c k) (d k))) →
    joined (λ k. bytes32 (word k)) n ≡ quads (row (λ k. on (a k) (b k) (c k) (d k)) n)
words-quads word a b c d n low =
    joined_same (λ k. bytes32 (word k)) (λ k. quad_bytes (on (a k) (b k) (c k) (d k))) n
    (λ k l. let here = low k l in ap bytes32 here.4 ∙ word_quad (a k) (b k) (c k) (d k) here.0 here.1 here.2 here.3)
    ∙ sym (quads-row (λ k. on (a k) (b k) (c k) (d k)) n)

-- those of one other bidder at places 1 to its last, with the owner at one place or any
pub others-words : (owner own other last : ℕ) → owner ≤ 64 → own ≤ 16 → other ≤ 64 → last ≤ 16 →
    joined (λ k. bytes32 (word_of owner own other 1 + 16777216 * k)) last ≡ quads (row (λ k. on owner own other (suc k)) last)
others-words owner own other last ho hp hj hl =
    words-quads (λ k. word_of owner own other 1 + 16777216 * k) (λ k. owner) (λ k. own) (λ k. other) (λ k. suc k) last
    (λ k l. (omega arith, omega arith, omega arith, omega arith, omega arith))

pub barred-words : (owner other bar : ℕ) → owner ≤ 64 → other ≤ 64 → bar ≤ 16 →
    joined (λ k. bytes32 (word_of owner 0 other 1 + 16777216 * k)) bar ≡ quads (barred owner other bar)
unfolding barred
barred-words owner other bar ho hj hb = others-words owner 0 other bar ho (omega arith) hj hb

beyond-words : (m owner limit : ℕ) → m ≤ 16 → owner ≤ 64 →
    joined (λ k. bytes32 (word_of owner (limit + 1) 0 0 + 256 * k)) (m - limit) ≡ quads (beyond m owner limit)
unfolding beyond
beyond-words m owner limit hm ho =
    words-quads (λ k. word_of owner (limit + 1) 0 0 + 256 * k) (λ k. owner) (λ k. limit + 1 + k) (λ k. 0) (λ k. 0) (m - limit)
    (λ k l. (omega arith, omega arith, omega arith, omega arith, omega arith))

-- One number more is stored where those before it end.
pub word_next : (word : ℕ → ℕ) (out : List ℕ) (at k : ℕ) →
    sets (sets out at (joined (λ i. bytes32 (word i)) k)) (at + 4 * k) (bytes32 (word k)) ≡ sets out at (joined (λ i. bytes32 (word i)) (k + 1))
word_next word out at k =
    joined_stored (λ i. bytes32 (word i)) 4 (λ i. length-bytes32 (word i)) out at k
    ∙ ap (λ (n : ℕ). sets out at (joined (λ i. bytes32 (word i)) n)) (sym (add-one k))

-- The bytes of conditions are stored where those before them end,
quads-append : (xs ys : List Condition) → quads (xs ++ ys) ≡ quads xs ++ quads ys
unfolding quads
quads-append [] ys = refl
quads-append (x ∷ xs) ys = ap (λ (l : List ℕ). x.owner ∷ x.own ∷ x.other ∷ x.others ∷ l) (quads-append xs ys)

quads_then : (xs ys : List Condition) (out : List ℕ) (start end : ℕ) → end ≡ start + 4 * length xs →
    sets (sets out start (quads xs)) end (quads ys) ≡ sets out start (quads (xs ++ ys))
quads_then xs ys out start end e =
    let place : end ≡ start + length (quads xs) = (let size = length-quads xs in omega arith) in
    ap (λ (n : ℕ). sets (sets out start (quads xs)) n (quads ys)) place
    ∙ sets_then (quads xs) (quads ys) out start
    ∙ ap (sets out start) (sym (quads-append xs ys))

-- those of lists one after another where the lists before them end,
pub quads-next : (f : ℕ → List Condition) (out : List ℕ) (start at k : ℕ) → at ≡ start + 4 * length (joined f k) →
    sets (sets out start (quads (joined f k))) at (quads (f k)) ≡ sets out start (quads (joined f (k + 1)))
unfolding joined
quads-next f out start at k e =
    quads_then (joined f k) (f k) out start at e ∙ ap (λ (n : ℕ). sets out start (quads (joined f n))) (sym (add-one k))

-- so those of one bar more
pub barred-next : (owner : ℕ) (bars out : List ℕ) (start at i : ℕ) → at ≡ start + 4 * bars_to bars i →
    sets (sets out start (quads (all_barred owner bars i))) at (quads (barred owner (i + 1) (get_or bars i 0)))
    ≡ sets out start (quads (all_barred owner bars (i + 1)))
unfolding bar_for
barred-next owner bars out start at i e =
    ap (λ (j : ℕ). sets (sets out start (quads (all_barred owner bars i))) at (quads (barred owner j (get_or bars i 0)))) (add-one i)
    ∙ quads-next (λ j. barred owner (suc j) (bar_for bars (suc j))) out start at i (let size = length-all-barred owner bars i in omega arith)

-- What a call that writes conditions leaves: nothing where it is refused, and else the conditions.
module _ (number : ℕ) (terms : List Condition) (out : List ℕ) where
  pub refused_left : (returned : Written) (k : ℕ) → returned ≡ record { refusal = k; count = 0 } → k ≡ number → (k ≡ 0 → ⊥) →
      (returned.refusal ≡ number)
      × (returned.count ≡ unless_refused number (length terms) 0)
      × (out ≡ unless_refused number (conditions_buffer terms out) out)
  refused_left returned k e same h = (
    ap (λ (t : Written). t.refusal) e ∙ same,
    ap (λ (t : Written). t.count) e ∙ refused_leaves number k (length terms) 0 same h,
    refused_leaves number k (conditions_buffer terms out) out same h,
  )

  pub terms_left : number ≡ 0 → 4 * length terms ≤ length out → sets out 0 (quads terms) ≡ unless_refused number (conditions_buffer terms out) out
  unfolding conditions_buffer
  terms_left none room =
      let long = length-quads terms in
      sets_front (quads terms) out (omega arith)
      ∙ ap (λ (k : ℕ). quads terms ++ drop k out) long
      ∙ answered-gives number (conditions_buffer terms out) out none

-- The call's ways out: a number, and the conditions.
module _ (n m owner limit : ℕ) (bars out : List ℕ) where
  abbrev number : ℕ
  number = slot_terms_refusal n m owner limit bars out

  abbrev terms : List Condition
  terms = slot_terms_of n m owner limit bars

  -- refused with a number
  abbrev Left : ℕ → Type 0
  Left k = SlotTermsWritten n m owner limit bars out (record { refusal = k; count = 0 }) out

  left : (k : ℕ) → k ≡ number → (k ≡ 0 → ⊥) → Left k
  left k same h =
      let parts = refused_left number terms out (record { refusal = k; count = 0 }) k refl same h in
      record { number = parts.0; count = parts.1; buffer = parts.2 }

  pub owner-refused : (k : ℕ) → k ≡ owner_refusal n m owner → (k ≡ 0 → ⊥) → Left k
  owner-refused zero same h = absurd (h refl)
  owner-refused (suc k) same h = left (suc k) (sym (owner-first n m owner limit bars out k (sym same))) h

  pub profile_refused : OwnerFits n m owner → (k : ℕ) → k ≡ profile_refusal n m owner limit bars → (k ≡ 0 → ⊥) → Left k
  profile_refused fits zero same h = absurd (h refl)
  profile_refused fits (suc k) same h = left (suc k) (sym (profile_first n m owner limit bars out k fits (sym same))) h

  module _ (fit : TermsFit n m owner limit bars) where
    many : bars_to bars (length bars) + (m - limit) ≡ length terms
    many = ap (λ (k : ℕ). bars_to bars k + (m - limit)) fit.as_many ∙ sym (terms-count n m owner limit bars)

    pub buffer_short : length out < 4 * (bars_to bars (length bars) + (m - limit)) → Left 19
    buffer_short less = let size = many in left 19 (sym (nineteen n m owner limit bars out fit (omega arith))) (λ z. absurd (omega arith))

    pub terms-written : (front whole : List ℕ) (at count word runs : ℕ) → count ≡ bars_to bars (length bars) + (m - limit) → 4 * count ≤ length out →
        at ≡ 4 * bars_to bars (length bars) → front ≡ sets out 0 (quads (all_barred owner bars (length bars))) →
        word ≡ word_of owner (limit + 1) 0 0 → runs ≡ m - limit → whole ≡ sets front at (joined (λ k. bytes32 (word + 256 * k)) runs) →
        SlotTermsWritten n m owner limit bars out (record { refusal = 0; count = count }) whole
    unfolding slot_terms_of
    terms-written front whole at count word runs e room place f g h w =
        let fits = fit.owner_fits in
        let size = many in
        let all = fit.as_many in
        let none = answered n m owner limit bars out fit (omega arith) in
        record {
          number = sym none;
          count = e ∙ size ∙ answered-gives number (length terms) 0 none;
          buffer =
              w
              ∙ ap₂ (λ (x k : ℕ). sets front at (joined (λ i. bytes32 (x + 256 * i)) k)) g h
              ∙ ap₂ (λ (l run : List ℕ). sets l at run) f
              (beyond-words m owner limit fits.most_slots (let most = fits.most_bidders in let own = fits.most_owner in omega arith))
              ∙ quads_then (all_barred owner bars (length bars)) (beyond m owner limit) out 0 at
              (let bars-many = length-all-barred owner bars (length bars) in omega arith)
              ∙ ap (λ (k : ℕ). sets out 0 (quads (all_barred owner bars k ++ beyond m owner limit))) all
              ∙ terms_left number terms out none (omega arith);
        }
