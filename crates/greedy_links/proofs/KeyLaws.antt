-- A constraint is broken exactly when both its keys are true of the page, and a bidder put at an empty slot makes two keys true and no other.
-- Assumes nothing.
use Prim.Native.Nat.{ℕ, zero, suc, ◌<◌, ◌≤◌}
use borrow.Author.Tests.{eq-eqb, ne_eqb, eqb-true}
use mathlib.Core.Bool.{Bool, true, false, ◌&&◌, ◌||◌, and-true, and-false}
use mathlib.Core.List.{List}
use mathlib.Core.Logic.{⊎_elim}
use mathlib.Core.Path.{◌≡◌, refl, sym, ◌∙◌, ap, ap₂}
use native.Mathlib.Nat.{not-suc-le-zero}
use native.Mathlib.Omega.{arith}
use lib.Dec.{eqb}
use Rattle.basis.proofs.NumberLaws.{same_or_not}
use Rattle.basis.proofs.TestLaws.{same_tests, or_left, or_right, or_parts, holds_or_fails}
use Rattle.sheet.specs.declared.Bidder.{Bidder}
use Rattle.sheet.specs.declared.Kind.{Kind}
use Rattle.sheet.specs.declared.Kind.TheVariants.{OwnSlot, OtherSlot, Pair}
use Rattle.sheet.specs.declared.Page.{Page}
use Rattle.sheet.specs.Sheet.{constraint_count}
use Rattle.sheet.specs.Refusal.{Accepted}
use Rattle.sheet.specs.Round.{constraint_at, round_of}
use Rattle.sheet.proofs.RoundLaws.{round_proper}
use Rattle.sheet.specs.Proper.{Proper}
use Rattle.auction.specs.Page.{at, put, empty_page, placed, Sized}
use Rattle.auction.specs.Broken.{own_holds, other_holds, broken}
use Rattle.auction.proofs.PageLaws.{at-put-same, at-put-other, at-empty, placed_at, placed-put, put-placed, put_keeps, keeps_placed, empty-placed}
use Rattle.greedy_links.specs.EngineKeys.{key, chain_bidder, chain_slot, owner_bidder, owner_slot, is_so, chain_so, owner_so, made_so}
use Rattle.greedy_links.specs.EngineLinks.{link_owner}

pub so_anywhere : (p : Page) (b : ℕ) → (b ≡ 0 → ⊥) → is_so p b 0 ≡ placed p b
unfolding is_so
so_anywhere p zero s = absurd (s refl)
so_anywhere p (suc b) s = refl

pub so_there : (p : Page) (b l : ℕ) → (b ≡ 0 → ⊥) → 0 < l → is_so p b l ≡ eqb (at p l) b
unfolding is_so
so_there p zero l s m = absurd (s refl)
so_there p (suc b) zero s m = absurd (not-suc-le-zero m)
so_there p (suc b) (suc l) s m = refl

-- whose key is true has a slot
pub so_placed : (p : Page) (b l : ℕ) → (b ≡ 0 → ⊥) → l ≤ 16 → is_so p b l ≡ true → placed p b ≡ true
unfolding is_so
so_placed p zero l s m e = absurd (s refl)
so_placed p (suc b) zero s m e = e
so_placed p (suc b) (suc l) s m e = placed_at p (suc b) (suc l) (omega arith) m (eqb-true (at p (suc l)) (suc b) e)

-- who stands at a slot has a slot
here-placed : (p : Page) (o k : ℕ) → 0 < k → k ≤ 16 → (x : Bool) → ((eqb (at p k) o && x) && placed p o) ≡ (x && eqb (at p k) o)
here-placed p o k s m x =
    ⊎_elim
    (λ (t : eqb (at p k) o ≡ true).
    ap₂ (λ (u v : Bool). (u && x) && v) t (placed_at p o k s m (eqb-true (at p k) o t)) ∙ sym (ap (λ (u : Bool). x && u) t))
    (λ (t : eqb (at p k) o ≡ false).
    ap (λ (u : Bool). (u && x) && placed p o) t ∙ sym (ap (λ (u : Bool). x && u) t ∙ and-false x))
    (holds_or_fails (eqb (at p k) o))

-- a constraint is broken exactly when both its keys are true
pub broken_keys : (p : Page) (owner : Bidder) (kind : Kind) → Proper (record { owner = owner; kind = kind }) →
    broken p (record { owner = owner; kind = kind }) ≡ (chain_so p (record { owner = owner; kind = kind }) && owner_so p (record { owner = owner; kind = kind }))
unfolding broken own_holds other_holds chain_bidder chain_slot owner_bidder owner_slot is_so
broken_keys p owner (OwnSlot k) c =
    here-placed p owner.0 k.0 c.parts.0 c.parts.1 true
    ∙ sym (ap (λ (t : Bool). t && true) (so_there p owner.0 k.0 c.owned c.parts.0) ∙ and-true (eqb (at p k.0) owner.0))
broken_keys p owner (OtherSlot j l) c =
    sym (ap₂ ◌&&◌ (so_there p j.0 l.0 c.parts.0 c.parts.3) (so_anywhere p owner.0 c.owned))
broken_keys p owner (Pair k j l) c =
    here-placed p owner.0 k.0 c.parts.5 c.parts.6 (eqb (at p l.0) j.0)
    ∙ sym (ap₂ ◌&&◌ (so_there p j.0 l.0 c.parts.0 c.parts.3) (so_there p owner.0 k.0 c.owned c.parts.5))

-- the numbers of a constraint's two keys
pub record Fits (owner : ℕ) (kind : Kind) : Type 0 where
  pub chain_some : 0 < chain_bidder owner kind
  pub chain_most : chain_bidder owner kind ≤ 64
  pub slot_some : 0 < chain_slot kind
  pub slot_most : chain_slot kind ≤ 16
  pub owner_most : owner_bidder owner kind ≤ 64
  pub own_most : owner_slot kind ≤ 16
  pub apart : owner_bidder owner kind ≡ chain_bidder owner kind → ⊥
  pub nobody : owner_bidder owner kind ≡ 0 → owner_slot kind ≡ 0
  -- a constraint whose owner's key is always so is in its owner's chain; any other has its owner in that key
  pub own_chain : owner_bidder owner kind ≡ 0 → chain_bidder owner kind ≡ owner
  pub own_key : (owner_bidder owner kind ≡ 0 → ⊥) → owner_bidder owner kind ≡ owner

pub keys_fit : (owner : Bidder) (kind : Kind) → Proper (record { owner = owner; kind = kind }) → Fits owner.0 kind
unfolding chain_bidder chain_slot owner_bidder owner_slot
keys_fit owner (OwnSlot k) c =
    let o = c.owned in
    record {
      chain_some = omega arith;
      chain_most = c.within_range;
      slot_some = c.parts.0;
      slot_most = c.parts.1;
      owner_most = omega arith;
      own_most = omega arith;
      apart = λ e. o (sym e);
      nobody = λ e. refl;
      own_chain = λ e. refl;
      own_key = λ d. absurd (d refl);
    }
keys_fit owner (OtherSlot j l) c =
    let j-some = c.parts.0 in
    record {
      chain_some = omega arith;
      chain_most = c.parts.2;
      slot_some = c.parts.3;
      slot_most = c.parts.4;
      owner_most = c.within_range;
      own_most = omega arith;
      apart = λ e. c.parts.1 (sym e);
      nobody = λ e. refl;
      own_chain = λ e. absurd (c.owned e);
      own_key = λ d. refl;
    }
keys_fit owner (Pair k j l) c =
    let j-some = c.parts.0 in
    record {
      chain_some = omega arith;
      chain_most = c.parts.2;
      slot_some = c.parts.3;
      slot_most = c.parts.4;
      owner_most = c.within_range;
      own_most = c.parts.6;
      apart = λ e. c.parts.1 (sym e);
      nobody = λ e. absurd (c.owned e);
      own_chain = λ e. absurd (c.owned e);
      own_key = λ d. refl;
    }

-- those of an accepted sheet's round
pub round_fits : (s : List ℕ) → Accepted s → (i : ℕ) → i < constraint_count s →
    Fits (constraint_at (round_of s) i).owner.0 (constraint_at (round_of s) i).kind
unfolding round_of
round_fits s ok i below =
    let q = constraint_at (round_of s) i in
    keys_fit q.owner q.kind ((round_proper s ok).proper q (i, below, refl))

-- an owner's key is one of those that are marked
pub owner-within : (s : List ℕ) → Accepted s → (i : ℕ) → i < constraint_count s → link_owner (round_of s) i ≤ 1088
owner-within s ok i below =
    let f = round_fits s ok i below in
    let o = f.owner_most in
    let k = f.own_most in
    omega arith

-- on an empty page no bidder is anywhere
pub so_empty : (b l : ℕ) → (b ≡ 0 → ⊥) → is_so empty_page b l ≡ false
so_empty b l some =
    ⊎_elim
    (λ (e : l ≡ 0). ap (is_so empty_page b) e ∙ so_anywhere empty_page b some ∙ empty-placed b some)
    (λ (d : l ≡ 0 → ⊥). so_there empty_page b l some (omega arith) ∙ ne_eqb (at empty_page l) b (λ e. some (sym e ∙ at-empty l)))
    (same_or_not l 0)

-- w put at the empty slot k makes two keys true, and no other
module _ (p : Page) (k w : ℕ) (s : Sized p) (k-some : 0 < k) (k-most : k ≤ 16) (k_empty : at p k ≡ 0) (w-some : 0 < w) (w-most : w ≤ 64) where
  put-anywhere : (b : ℕ) → (b ≡ 0 → ⊥) → b ≤ 64 → placed (put p k w) b ≡ (placed p b || made_so w k (key b 0))
  put-anywhere b some most =
      same_tests (placed (put p k w) b) (placed p b || made_so w k (key b 0))
      (λ t.
      ⊎_elim
      (λ (e : b ≡ w). or_right (placed p b) (or_left (eqb (key b 0) (key w k)) (eq-eqb (key b 0) w (omega arith))))
      (λ (e : placed p b ≡ true). or_left (made_so w k (key b 0)) e)
      (placed-put p k w b s k-some k-most t))
      (λ t.
      ⊎_elim
      (λ (e : placed p b ≡ true). keeps_placed p (put p k w) b some (put_keeps p k w k_empty) e)
      (λ (e : made_so w k (key b 0) ≡ true).
      ⊎_elim
      (λ (u : eqb (key b 0) w ≡ true).
      let same : b ≡ w = (let v = eqb-true (key b 0) w u in omega arith) in
      ap (placed (put p k w)) same ∙ put-placed p k w s k-some k-most)
      (λ (u : eqb (key b 0) (key w k) ≡ true). let v = eqb-true (key b 0) (key w k) u in absurd (omega arith))
      (or_parts (eqb (key b 0) w) (eqb (key b 0) (key w k)) e))
      (or_parts (placed p b) (made_so w k (key b 0)) t))

  put-there : (b l : ℕ) → (b ≡ 0 → ⊥) → b ≤ 64 → 0 < l → eqb (at (put p k w) l) b ≡ (eqb (at p l) b || made_so w k (key b l))
  put-there b l some most l-some =
      same_tests (eqb (at (put p k w) l) b) (eqb (at p l) b || made_so w k (key b l))
      (λ t.
      let here = eqb-true (at (put p k w) l) b t in
      ⊎_elim
      (λ (e : l ≡ k).
      let same : w ≡ b = sym (ap (at (put p k w)) e ∙ at-put-same p k w s k-some k-most) ∙ here in
      or_right (eqb (at p l) b) (or_right (eqb (key b l) w) (eq-eqb (key b l) (key w k) (omega arith))))
      (λ (d : l ≡ k → ⊥). or_left (made_so w k (key b l)) (eq-eqb (at p l) b (sym (at-put-other p k w l d) ∙ here)))
      (same_or_not l k))
      (λ t.
      ⊎_elim
      (λ (e : eqb (at p l) b ≡ true).
      let here = eqb-true (at p l) b e in
      eq-eqb (at (put p k w) l) b (put_keeps p k w k_empty l (λ z. some (sym here ∙ z)) ∙ here))
      (λ (e : made_so w k (key b l) ≡ true).
      ⊎_elim
      (λ (u : eqb (key b l) w ≡ true). let v = eqb-true (key b l) w u in absurd (omega arith))
      (λ (u : eqb (key b l) (key w k) ≡ true).
      let v = eqb-true (key b l) (key w k) u in
      let same-slot : l ≡ k = omega arith in
      let same : w ≡ b = omega arith in
      eq-eqb (at (put p k w) l) b (ap (at (put p k w)) same-slot ∙ at-put-same p k w s k-some k-most ∙ same))
      (or_parts (eqb (key b l) w) (eqb (key b l) (key w k)) e))
      (or_parts (eqb (at p l) b) (made_so w k (key b l)) t))

  pub so_put : (b l : ℕ) → b ≤ 64 → is_so (put p k w) b l ≡ (is_so p b l || made_so w k (key b l))
  unfolding is_so
  so_put zero l most = refl
  so_put (suc b) zero most = put-anywhere (suc b) (λ e. absurd (omega arith)) most
  so_put (suc b) (suc l) most = put-there (suc b) (suc l) (λ e. absurd (omega arith)) most (omega arith)
