-- Why one chain is enough: a chain leaves out no link of its key, since nothing of the key lies between a link and the one before it.
-- Assumes nothing.
use Rattle.basis.proofs.RowLaws.{zeros}
use Prim.Native.Nat.{ℕ, zero, suc, ◌-◌, ◌<◌, ◌≤◌}
use borrow.Author.Tests.{eq-eqb, ne_eqb, eqb-true}
use mathlib.Core.Bool.{Bool, true, false, cond, not, ◌&&◌, ◌||◌, or-false, or-true, or_comm}
use mathlib.Core.List.{List}
use mathlib.Core.Logic.{⊎_elim}
use mathlib.Core.Path.{◌≡◌, refl, sym, ◌∙◌, ap, ap₂, subst}
use native.Mathlib.Omega.{arith}
use lib.Dec.{eqb}
use lib.ListN.{length, get_or, set, replicate, length-set}
use lib.Seq.{get_or-set_same, get_or-set_other}
use Rattle.basis.specs.Tests.{any_below}
use Rattle.basis.proofs.NumberLaws.{same_or_not}
use Rattle.sheet.specs.declared.Round.{Round}
use Rattle.sheet.specs.Sheet.{constraint_count}
use Rattle.sheet.specs.Round.{round_of}
use Rattle.greedy_links.specs.EngineKeys.{is_marked}
use Rattle.greedy_links.specs.EngineLinks.{link_key, link_owner, last_of, Linked, Kept, some_owner_of}

-- The last of the first n that passes.
module _ (f : ℕ → Bool) where
  last_below : (n : ℕ) → last_of f n ≤ n
  unfolding last_of
  last_below zero = omega arith
  last_below (suc n) = one_more (f n) (last_below n)
    where
      one_more : (t : Bool) → last_of f n ≤ n → cond t (suc n) (last_of f n) ≤ suc n
      one_more true h = omega arith
      one_more false h = omega arith

  last_passes : (n i : ℕ) → last_of f n ≡ suc i → f i ≡ true
  unfolding last_of
  last_passes zero i e = absurd (omega arith)
  last_passes (suc n) i e = one_more (f n) refl (last_passes n i) e
    where
      one_more : (t : Bool) → f n ≡ t → (last_of f n ≡ suc i → f i ≡ true) → cond t (suc n) (last_of f n) ≡ suc i → f i ≡ true
      one_more true p before q = let same : i ≡ n = omega arith in ap f same ∙ p
      one_more false p before q = before q

  -- none that passes comes after it
  any_last : (g : ℕ → Bool) (n : ℕ) → any_below (λ i. f i && g i) n ≡ any_below (λ i. f i && g i) (last_of f n)
  unfolding last_of any_below
  any_last g zero = refl
  any_last g (suc n) = one_more (f n) refl (any_last g n)
    where
      one_more : (t : Bool) → f n ≡ t → any_below (λ i. f i && g i) n ≡ any_below (λ i. f i && g i) (last_of f n) →
          (any_below (λ i. f i && g i) n || (f n && g n)) ≡ any_below (λ i. f i && g i) (cond t (suc n) (last_of f n))
      one_more true p before = refl
      one_more false p before =
          ap (λ (t : Bool). any_below (λ i. f i && g i) n || (t && g n)) p ∙ or-false (any_below (λ i. f i && g i) n) ∙ before

-- an element after a store: the stored one, or as it was
after_set : (P : ℕ → Type 0) (s : List ℕ) (i a j : ℕ) → i < length s → (j ≡ i → P a) → ((j ≡ i → ⊥) → P (get_or s j 0)) → P (get_or (set s i a) j 0)
after_set P s i a j inside here elsewhere =
    ⊎_elim
    (λ (e : j ≡ i). subst P (sym (ap (λ (z : ℕ). get_or (set s i a) z 0) e ∙ get_or-set_same s i a 0 inside)) (here e))
    (λ (d : j ≡ i → ⊥). subst P (sym (get_or-set_other s i j a 0 d)) (elsewhere d))
    (same_or_not j i)

-- one more mark
pub mark_more : (marks : List ℕ) (i x : ℕ) → i < length marks → is_marked (set marks i 1) x ≡ (is_marked marks x || eqb x i)
unfolding is_marked
mark_more marks i x inside =
    after_set (λ v. not (eqb v 0) ≡ (is_marked marks x || eqb x i)) marks i 1 x inside
    (λ e. sym (ap (λ (t : Bool). is_marked marks x || t) (eq-eqb x i e) ∙ or-true (is_marked marks x)))
    (λ d. sym (ap (λ (t : Bool). is_marked marks x || t) (ne_eqb x i d) ∙ or-false (is_marked marks x)))

-- no mark yet
pub no_mark : (n x : ℕ) → is_marked (replicate n 0) x ≡ false
unfolding is_marked
no_mark n x = ap (λ (v : ℕ). not (eqb v 0)) (zeros n x)

-- no link yet
pub linked-none : (r : Round) → Linked r 0 (replicate 1089 0) (replicate 1024 0)
unfolding last_of
linked-none r =
    record {
      sized_last = refl;
      sized_links = refl;
      few = omega arith;
      last_is = λ x most. zeros 1089 x;
      link_is = λ i below. absurd (omega arith);
    }

-- one link more, with the chain x
pub linked-next : (r : Round) (n x : ℕ) (last links : List ℕ) → x ≤ 1088 → n < 1024 → x ≡ link_key r n → Linked r n last links →
    Linked r (suc n) (set last x (suc n)) (set links n (get_or last x 0))
unfolding last_of
linked-next r n x last links x-most room key h =
    let in-last : x < length last = (let s = h.sized_last in omega arith) in
    let in-links : n < length links = (let s = h.sized_links in omega arith) in
    record {
      sized_last = length-set last x (suc n) ∙ h.sized_last;
      sized_links = length-set links n (get_or last x 0) ∙ h.sized_links;
      few = room;
      last_is = λ z most.
          after_set (λ v. v ≡ last_of (λ i. eqb (link_key r i) z) (suc n)) last x (suc n) z in-last
          (λ e. sym (ap (λ (t : Bool). cond t (suc n) (last_of (λ i. eqb (link_key r i) z) n)) (eq-eqb (link_key r n) z (sym key ∙ sym e))))
          (λ d.
          h.last_is z most
          ∙ sym (ap (λ (t : Bool). cond t (suc n) (last_of (λ i. eqb (link_key r i) z) n)) (ne_eqb (link_key r n) z (λ e. d (sym e ∙ sym key)))));
      link_is = λ i below.
          after_set (λ v. v ≡ last_of (λ j. eqb (link_key r j) (link_key r i)) i) links n (get_or last x 0) i in-links
          (λ e. h.last_is x x-most ∙ ap₂ (λ (z m : ℕ). last_of (λ j. eqb (link_key r j) z) m) (key ∙ sym (ap (link_key r) e)) (sym e))
          (λ d. h.link_is i (omega arith));
    }

-- On the way along the chain x: the next link, if any, is of that chain.
pub record Walking (r : Round) (x next : ℕ) : Type 0 where
  pub some : next ≤ r.used
  pub keyed : (i : ℕ) → next ≡ suc i → link_key r i ≡ x

module _ (r : Round) (x : ℕ) (last links : List ℕ) (most : x ≤ 1088) (h : Linked r r.used last links) where
  abbrev has_key : ℕ → Bool
  has_key i = eqb (link_key r i) x

  -- the links of x among the first n are those up to the last of them
  along_last : (test : ℕ → Bool) (n : ℕ) → some_owner_of r x test n ≡ some_owner_of r x test (last_of has_key n)
  unfolding some_owner_of
  along_last test n = any_last has_key (λ i. test (link_owner r i)) n

  pub walk_start : Walking r x (get_or last x 0)
  walk_start =
      let e = h.last_is x most in
      record {
        some = let w = last_below has_key r.used in omega arith;
        keyed = λ i q. eqb-true (link_key r i) x (last_passes has_key r.used i (sym e ∙ q));
      }

  -- what all the links of x say is what those from the last one on say
  pub all_from_last : (test : ℕ → Bool) → some_owner_of r x test r.used ≡ some_owner_of r x test (get_or last x 0)
  all_from_last test = along_last test r.used ∙ ap (some_owner_of r x test) (sym (h.last_is x most))

  module _ (next i : ℕ) (at : next ≡ suc i) (v : Walking r x next) where
    within : i < r.used
    within = let s = v.some in omega arith

    here : link_key r i ≡ x
    here = v.keyed i at

    before : get_or links i 0 ≡ last_of has_key i
    before = h.link_is i within ∙ ap (λ (y : ℕ). last_of (λ j. eqb (link_key r j) y) i) here

    -- the link is one of the round's, and the link before it has a lower number
    pub link_fits : (i < r.used) × (r.used ≤ 1024) × (get_or links i 0 ≤ i)
    link_fits =
        let e = before in
        let w = last_below has_key i in
        (within, h.few, omega arith)

    pub walk_next : Walking r x (get_or links i 0)
    walk_next =
        record {
          some = let w = link_fits.2 in let s = within in omega arith;
          keyed = λ j q. eqb-true (link_key r j) x (last_passes has_key i j (sym before ∙ q));
        }

    last_one : (test : ℕ → Bool) → some_owner_of r x test (suc i) ≡ (some_owner_of r x test i || test (link_owner r i))
    unfolding some_owner_of any_below
    last_one test = ap (λ (t : Bool). some_owner_of r x test i || (t && test (link_owner r i))) (eq-eqb (link_key r i) x here)

    -- one link, and those before it
    pub one_then_rest : (test : ℕ → Bool) → some_owner_of r x test next ≡ (test (link_owner r i) || some_owner_of r x test (get_or links i 0))
    one_then_rest test =
        ap (some_owner_of r x test) at
        ∙ last_one test
        ∙ or_comm (some_owner_of r x test i) (test (link_owner r i))
        ∙ ap (λ (t : Bool). test (link_owner r i) || t) (along_last test i ∙ ap (some_owner_of r x test) (sym before))

-- where a walk along a chain of a sheet stands: its link is one of the sheet's, and the one before it has a lower number
pub link_here : (s : List ℕ) (start : ℕ) (last links : List ℕ) (x next : ℕ) → x ≤ 1088 → Kept s start last links → (next ≡ 0 → ⊥) → Walking (round_of s) x next →
    (next - 1 < constraint_count s) × (constraint_count s ≤ 1024) × (get_or links (next - 1) 0 ≤ next - 1)
unfolding round_of
link_here s start last links x next most kept going v = link_fits (round_of s) x last links most kept.linked next (next - 1) (omega arith) v

-- at the end of the chain nothing is left
pub none_left : (r : Round) (x next : ℕ) (test : ℕ → Bool) → next ≡ 0 → some_owner_of r x test next ≡ false
unfolding some_owner_of any_below
none_left r x next test e = ap (some_owner_of r x test) e
