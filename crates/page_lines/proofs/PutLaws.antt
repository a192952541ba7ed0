-- Text that is written piece by piece: two pieces one after the other are one piece. Assumes nothing.
use Prim.Native.Nat.{ℕ, suc, ◌+◌, ◌≤◌}
use mathlib.Core.List.{List, [], ◌∷◌, ◌++◌}
use mathlib.Core.Path.{◌≡◌, refl, sym, ◌∙◌, ap, ap₂}
use native.Mathlib.Nat.{add-zero, zero-add}
use native.Mathlib.Omega.{arith}
use lib.ListN.{length, set, drop, length-append}
use lib.Seq.{sets, sets-eq}
use Rattle.page_lines.specs.Put.{Put, Written}

sets-append : (front back text : List ℕ) (at : ℕ) → sets text at (front ++ back) ≡ sets (sets text at front) (at + length front) back
sets-append [] back text at = ap (λ (n : ℕ). sets text n back) (sym (add-zero at))
sets-append (v ∷ front) back text at =
    sets-append front back (set text at v) (suc at)
    ∙ ap (λ (n : ℕ). sets (sets (set text at v) (suc at) front) n back)
    (let e : suc at + length front ≡ at + suc (length front) = omega arith in e)

pub put-nothing : (text : List ℕ) (at : ℕ) → Put text at [] (at + 0) text
put-nothing text at = record { next = refl; buffer = refl }

-- a piece that is copied to the front
pub front_put : (bytes front text : List ℕ) → front ≡ bytes → length bytes ≤ length text →
    Put text 0 bytes (length bytes) (front ++ drop (length bytes) text)
front_put bytes front text e room =
    let size = zero-add (length bytes) in
    record {
      next = sym size;
      buffer =
          ap (λ (l : List ℕ). l ++ drop (length bytes) text) e
          ∙ sym (sets-eq bytes text 0 (omega arith) ∙ ap (λ (n : ℕ). bytes ++ drop n text) size);
    }

-- a piece, and a second one where the first ends
pub put_after : (front back text text' text'' : List ℕ) (at middle end : ℕ) →
    Put text at front middle text' → Put text' middle back end text'' → Put text at (front ++ back) end text''
put_after front back text text' text'' at middle end p q =
    let size = length-append front back in
    record {
      next = (let m = p.next in let e = q.next in omega arith);
      buffer =
          q.buffer
          ∙ ap₂ (λ (t : List ℕ) (n : ℕ). sets t n back) p.buffer p.next
          ∙ sym (sets-append front back text at);
    }

-- three pieces, each where the one before it ends
pub put_third : (front middle back text text' text'' text''' : List ℕ) (at first second end : ℕ) →
    Put text at front first text' → Put text' first middle second text'' → Put text'' second back end text''' →
    Put text at (front ++ (middle ++ back)) end text'''
put_third front middle back text text' text'' text''' at first second end p q r =
    put_after front (middle ++ back) text text' text''' at first end p
    (put_after middle back text' text'' text''' first second end q r)

-- a piece, and one byte where it ends
pub put_byte_after : (front text text' : List ℕ) (at middle byte : ℕ) → Put text at front middle text' →
    Put text at (front ++ (byte ∷ [])) (middle + 1) (set text' middle byte)
put_byte_after front text text' at middle byte p =
    put_after front (byte ∷ []) text text' (set text' middle byte) at middle (middle + 1) p (record { next = refl; buffer = refl })

-- what is put at the front is written
pub put_in_front : (bytes text text' : List ℕ) (end : ℕ) → length bytes ≤ length text → Put text 0 bytes end text' →
    Written text bytes end text'
put_in_front bytes text text' end room p =
    let size = zero-add (length bytes) in
    record {
      count = p.next ∙ size;
      buffer = p.buffer ∙ sets-eq bytes text 0 (omega arith) ∙ ap (λ (n : ℕ). bytes ++ drop n text) size;
    }

-- what is written ends within the buffer
pub written-within : (text bytes text' : List ℕ) (n : ℕ) → Written text bytes n text' → n ≤ length text'
written-within text bytes text' n w =
    let size = ap length w.buffer ∙ length-append bytes (drop (length bytes) text) in
    let count = w.count in
    omega arith
