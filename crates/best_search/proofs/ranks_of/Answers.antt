use Prim.Native.Nat.{ℕ, ◌+◌, ◌<◌, ◌≤◌}
use mathlib.Core.List.{List}
use mathlib.Core.Logic.{⊎_elim}
use mathlib.Core.Path.{◌≡◌, sym, ◌∙◌, ap, subst}
use native.Mathlib.Omega.{arith}
use lib.ListN.{get_or, set, length-set}
use lib.Seq.{get_or-set_same, get_or-set_other}
use Rattle.basis.proofs.NumberLaws.{same_or_not}
use Rattle.choice.specs.EngineRanking.{InOrder}
use Rattle.choice.proofs.RankingLaws.{ranked-once}
use Rattle.best_clash.specs.EngineClash.{RanksOf}
use Rattle.best_search.proofs.ranks_of.Invariants.{Passed}
use Rattle.best_search.proofs.ranks_of.Goals as goal

one_passed : (bid : ℕ → ℕ) (ranked ranks : List ℕ) (bidders rank : ℕ) → InOrder bid bidders ranked → Passed ranked ranks rank → rank < bidders → bidders ≤ 8 →
    (b : ℕ) → b ≡ get_or ranked rank 0 → Passed ranked (set ranks b rank) (rank + 1)
one_passed bid ranked ranks bidders rank list h l few b e =
    let size = h.size in
    let low = (list.some rank l).1 in
    record {
      size = length-set ranks b rank ∙ size;
      small = λ x.
          ⊎_elim
          (λ (q : x ≡ b).
          let same : get_or (set ranks b rank) x 0 ≡ rank = ap (λ (y : ℕ). get_or (set ranks b rank) y 0) q ∙ get_or-set_same ranks b rank 0 (omega arith) in
          omega arith)
          (λ (d : x ≡ b → ⊥). subst (λ (y : ℕ). y < 8) (sym (get_or-set_other ranks b x rank 0 d)) (h.small x))
          (same_or_not x b);
      told = λ i m.
          ⊎_elim
          (λ (q : i ≡ rank).
          ap (λ (y : ℕ). get_or (set ranks b rank) y 0) (ap (λ (y : ℕ). get_or ranked y 0) q ∙ sym e) ∙ get_or-set_same ranks b rank 0 (omega arith) ∙ sym q)
          (λ (d : i ≡ rank → ⊥).
          get_or-set_other ranks b (get_or ranked i 0) rank 0 (λ z. d (ranked-once bid bidders ranked list i rank (omega arith) l (z ∙ e))) ∙ h.told i (omega arith))
          (same_or_not i rank);
    }

all_passed : (bid : ℕ → ℕ) (ranked ranks : List ℕ) (bidders rank : ℕ) → InOrder bid bidders ranked → Passed ranked ranks rank → bidders ≤ rank → RanksOf bidders ranked ranks
all_passed bid ranked ranks bidders rank list h past =
    record {
      named = list.some;
      back = λ i l. h.told i (omega arith);
      low = λ b s m. (let w = list.everybody b s m in subst (λ (x : ℕ). x < bidders) (sym (rank_is b s m)) w.1);
      there = λ b s m. (let w = list.everybody b s m in ap (λ (x : ℕ). get_or ranked x 0) (rank_is b s m) ∙ w.2);
    }
  where
    rank_is : (b : ℕ) (s : 0 < b) (m : b ≤ bidders) → get_or ranks b 0 ≡ (list.everybody b s m).0
    rank_is b s m =
        let w = list.everybody b s m in
        let low : w.0 < bidders = w.1 in
        ap (λ (x : ℕ). get_or ranks x 0) (sym w.2) ∙ h.told w.0 (omega arith)

pub loop-rank-preserved : goal.loop-rank-preserved
loop-rank-preserved c =
    let p = c.requires in
    one_passed p.1.0 _ _ _ _ p.1.1 c.loop-rank.invariant c.loop-rank-test.true p.0 _ c.ranked_at-bidder.ensures

pub returns : goal.returns
returns c =
    let p = c.requires in
    let v = c.loop-rank.invariant in
    (all_passed p.1.0 _ _ _ _ p.1.1 v c.loop-rank-test.false, v.small)
