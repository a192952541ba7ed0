-- `slot_terms::bars_wrong` meets its contract: where the list is n long, its bars are tried one after another. Assumes nothing.
use Prim.Native.Nat.{ℕ}
use mathlib.Core.Bool.{Bool, not, ◌||◌}
use mathlib.Core.List.{List}
use mathlib.Core.Path.{◌≡◌, refl, sym, ◌∙◌, ap}
use borrow.Author.Tests.{eq-eqb}
use lib.Dec.{ltb}
use lib.ListN.{length, get_or}
use Rattle.std.proofs.Common.{rules, tests}
use Rattle.std.specs.List.{list_any}
use Rattle.std.proofs.lemmas.Iterator.{YieldsList-from_slice}
use Rattle.std.proofs.lemmas.Iterator.Search.{any_from_yields_List}
use Rattle.std.proofs.lemmas.List.Recursion.{or_is}
use Rattle.basis.specs.Tests.{any_below}
use Rattle.basis.proofs.TestLaws.{any_where, any_none}
use Rattle.slot_terms.specs.SlotTerms.{bar_for}
use Rattle.slot_terms.proofs.bars_wrong.Goals as goal

any-list : (test : ℕ → Bool) (list : List ℕ) → any_below (λ i. test (get_or list i 0)) (length list) ≡ list_any test list
any-list test list =
    let at : ℕ → Bool = λ i. test (get_or list i 0) in
    or_is (list_any test) test refl (λ _ _. refl) list 0 _ (any_where at (length list)) (any_none at (length list))

pub returns-else-bars-n : goal.returns-else-bars-n
unfolding bar_for
returns-else-bars-n c =
    let bars = c.args.bars.now in
    let at : ℕ → Bool = λ i. ltb c.args.m (get_or bars i 0) in
    any_from_yields_List (ltb c.args.m) _ _ _ c.any.ensures.ran (YieldsList-from_slice bars cc) (λ x b q k. search (rules, tests))
    ∙ sym (any-list (ltb c.args.m) bars)
    ∙ ap (any_below at) c.if-bars-n.false
    ∙ ap (λ (t : Bool). not t || any_below at c.args.n) (sym (eq-eqb (length bars) c.args.n c.if-bars-n.false))
