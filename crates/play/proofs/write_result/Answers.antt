use Prim.Native.Nat.{ℕ, suc, ◌*◌, ◌≤◌}
use mathlib.Core.List.{List, ◌++◌}
use mathlib.Core.Path.{◌≡◌, refl, sym, ◌∙◌, ap}
use native.Mathlib.Nat.{mul-suc}
use native.Mathlib.Numerals.{add-one}
use native.Mathlib.Omega.{arith}
use lib.ListN.{length, get_or, set, drop, length-set}
use lib.Seq.{sets}
use Rattle.basis.specs.Bytes.{bytes32}
use Rattle.basis.specs.Rows.{joined}
use Rattle.basis.proofs.BytesLaws.{length-bytes32}
use Rattle.basis.proofs.RowLaws.{joined-none, joined-next}
use Rattle.sheet.specs.Round.{bidder}
use Rattle.auction.specs.Page.{at}
use Rattle.greedy.specs.declared.Outcome.{Outcome}
use Rattle.play.specs.EngineEntries.{entry_in}
use Rattle.play.proofs.write_result.Goals as goal

length_entry : (o : Outcome) (k : ℕ) → length (entry_in o k) ≡ 5
unfolding entry_in
length_entry o k = ap suc (length-bytes32 (get_or o.prices k 0))

pub loop-k-init : goal.loop-k-init
loop-k-init c = record { size = refl; front = joined-none (entry_in c.args.outcome) 5 (length_entry c.args.outcome) _ }

pub overflow_cast-res : goal.overflow_cast-res
unfolding at
overflow_cast-res c = let low = c.requires.bidders_len.2 (suc c.loop-k.k) in omega arith

pub loop-k-preserved : goal.loop-k-preserved
unfolding entry_in
loop-k-preserved c =
    let v = c.loop-k.invariant in
    let o = c.args.outcome in
    let k = c.loop-k.k in
    let room : 5 * suc k ≤ length c.args.res.now = omega (arith, mul-suc 5 k) in
    record {
      size = c.put_word32.auto.s ∙ length-set c.loop-k.res (5 * k) (get_or o.page.bidders k (bidder 0)).0 ∙ v.size;
      front =
          c.put_word32.ensures
          ∙ ap (λ (n : ℕ). sets (set c.loop-k.res (5 * k) (get_or o.page.bidders k (bidder 0)).0) n (bytes32 (get_or o.prices k 0))) (add-one (5 * k))
          ∙ ap (λ (l : List ℕ). sets l (5 * k) (entry_in o k)) v.front
          ∙ joined-next (entry_in o) 5 (length_entry o) k c.args.res.now room
          ∙ ap (λ (n : ℕ). joined (entry_in o) n ++ drop (5 * n) c.args.res.now) (sym (add-one k));
    }
