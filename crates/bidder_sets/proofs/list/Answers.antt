use Prim.Native.Nat.{ℕ, suc, ◌+◌}
use mathlib.Core.Bool.{true, false}
use mathlib.Core.List.{List, [], ◌∷◌}
use mathlib.Core.Path.{◌≡◌, refl, sym, ◌∙◌, ap, ap₂}
use native.Mathlib.Numerals.{add-one}
use native.Mathlib.Omega.{arith}
use lib.ListN.{length, set, length-append}
use lib.Seq.{sets}
use Rattle.basis.specs.Rows.{joined}
use Rattle.bidder_sets.specs.EngineSets.{in_word, rising_members}
use Rattle.bidder_sets.proofs.SetLaws.{members-next, members-same, stored_next}
use Rattle.bidder_sets.proofs.list.Invariants.{Put}
use Rattle.bidder_sets.proofs.list.Goals.{then-has, else-has}
use Rattle.bidder_sets.proofs.list.Goals as goal

module _ (word : ℕ) (space₀ space : List ℕ) (count i : ℕ) (v : Put word space₀ space count i) where
  -- the next bidder is a member,
  put_next : in_word word (i + 1) ≡ true → Put word space₀ (set space count (i + 1)) (count + 1) (i + 1)
  put_next e =
      let next = add-one i in
      let same = members-next (in_word word) i (ap (in_word word) (sym next) ∙ e) in
      let few = v.few in
      let size = v.size in
      record {
        few = omega arith;
        size =
            (let long = ap length same ∙ length-append (rising_members (in_word word) i) (suc i ∷ []) in
            let again = ap (λ (k : ℕ). length (rising_members (in_word word) k)) next in
            omega arith);
        front =
            ap₂ (λ (l : List ℕ) (x : ℕ). set l count x) v.front next
            ∙ stored_next space₀ (rising_members (in_word word) i) count (suc i) size
            ∙ ap (sets space₀ 0) (sym same ∙ ap (rising_members (in_word word)) (sym next));
      }

  -- or is not
  put_passed : in_word word (i + 1) ≡ false → Put word space₀ space count (i + 1)
  put_passed e =
      let next = add-one i in
      let few = v.few in
      let same : rising_members (in_word word) i ≡ rising_members (in_word word) (i + 1)
      = sym (ap (rising_members (in_word word)) next ∙ members-same (in_word word) i (ap (in_word word) (sym next) ∙ e)) in
      record { few = omega arith; size = v.size ∙ ap length same; front = v.front ∙ ap (sets space₀ 0) same }

pub loop-i-init : goal.loop-i-init
unfolding rising_members joined
loop-i-init c = record { few = omega arith; size = refl; front = refl }

pub loop-i-preserved : goal.loop-i-preserved
loop-i-preserved c =
    let turn = c.loop-i in
    elim c.if-has.branch [
      | then-has w ↦ rw (w.space-is, w.count-is) (put_next _ _ _ _ _ turn.invariant cc)
      | else-has w ↦ rw (w.space-is, w.count-is) (put_passed _ _ _ _ _ turn.invariant cc)
    ]
