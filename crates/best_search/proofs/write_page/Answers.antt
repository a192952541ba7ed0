use Prim.Native.Nat.{ℕ, suc, ◌<◌}
use mathlib.Core.List.{List, [], ◌∷◌, ◌++◌}
use mathlib.Core.Path.{◌≡◌, refl, sym, ◌∙◌, ap}
use native.Mathlib.Numerals.{add-one}
use native.Mathlib.Omega.{arith}
use lib.ListN.{length, get_or, set, drop}
use lib.Seq.{set_at, drop-cons}
use Rattle.best_seats.proofs.TakeLaws.{taken_below, taken_is}
use Rattle.basis.specs.Rows.{row}
use Rattle.basis.proofs.RowLaws.{length-row}
use Rattle.sheet.specs.Round.{bidder}
use Rattle.auction.specs.Page.{at}
use Rattle.best_search.proofs.write_page.Goals as goal

-- the next value of a row stored after it
row_stored : (f : ℕ → ℕ) (k : ℕ) (out : List ℕ) → k < length out → set (row f k ++ drop k out) k (f k) ≡ row f (suc k) ++ drop (suc k) out
unfolding row
row_stored f k out l =
    ap (λ (t : List ℕ). set (row f k ++ t) k (f k)) (drop-cons out k 0 l)
    ∙ set_at (row f k) (get_or out k 0) (drop (suc k) out) (f k) k (length-row f k)
    ∙ append_cons (row f k) (f k) (drop (suc k) out)
  where
    append_cons : (xs : List ℕ) (a : ℕ) (ys : List ℕ) → xs ++ a ∷ ys ≡ xs ++ (a ∷ []) ++ ys
    append_cons [] a ys = refl
    append_cons (x ∷ xs) a ys = ap (λ (t : List ℕ). x ∷ t) (append_cons xs a ys)

pub loop-k-init : goal.loop-k-init
unfolding row
loop-k-init c = refl

pub overflow_cast-res : goal.overflow_cast-res
unfolding at
overflow_cast-res c = rw (taken_is _ _ _ c.loop-k-test.true (bidder 0)) (omega (arith, c.requires.2 (suc c.loop-k.k)))

pub loop-k-preserved : goal.loop-k-preserved
unfolding row at
loop-k-preserved c =
    let k = c.loop-k.k in
    let p = c.args.page in
    let out = c.args.res.now in
    let inside = taken_below _ _ _ c.loop-k-test.true in
    rw (taken_is _ _ _ c.loop-k-test.true (bidder 0))
    (ap (λ (l : List ℕ). set l k (get_or p.bidders k (bidder 0)).0) c.loop-k.invariant
    ∙ row_stored (λ j. at p (suc j)) k out (omega arith)
    ∙ ap (λ (n : ℕ). row (λ j. at p (suc j)) n ++ drop n out) (sym (add-one k)))
