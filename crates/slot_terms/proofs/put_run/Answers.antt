use Prim.Native.Nat.{ℕ, ◌+◌, ◌*◌}
use mathlib.Core.List.{List}
use mathlib.Core.Path.{◌≡◌, refl, sym, ◌∙◌, ap, ap₂}
use native.Mathlib.Nat.{mul-suc}
use native.Mathlib.Numerals.{add-one}
use native.Mathlib.Omega.{arith}
use lib.Seq.{sets}
use Rattle.basis.specs.Bytes.{bytes32}
use Rattle.basis.specs.Rows.{joined}
use Rattle.slot_terms.proofs.WriteLaws.{word_next}
use Rattle.slot_terms.proofs.put_run.Goals as goal

add_nothing : (first step : ℕ) → first + step * 0 ≡ first
add_nothing first step = omega arith

pub loop-k-init : goal.loop-k-init
unfolding joined
loop-k-init c = record { size = refl; next = sym (add_nothing c.args.first c.args.step); run = refl }

pub loop-k-preserved : goal.loop-k-preserved
loop-k-preserved c =
    let turn = c.loop-k in
    let a = c.args in
    let word : ℕ → ℕ = λ i. a.first + a.step * i in
    record {
      size = c.put_word32.auto.s ∙ turn.invariant.size;
      next =
          (let next = ap (λ (n : ℕ). a.step * n) (add-one turn.k) ∙ mul-suc a.step turn.k in
          omega arith);
      run =
          c.put_word32.ensures
          ∙ ap₂ (λ (l : List ℕ) (w : ℕ). sets l (a.at + 4 * turn.k) (bytes32 w)) turn.invariant.run turn.invariant.next
          ∙ word_next word a.res.now a.at turn.k;
    }
