-- What the marks know of a page, and that they say which test a candidate fails first. With a candidate on an unbroken page, a constraint is
-- broken exactly when one of its keys was true and the other is the candidate's. Its chain is the candidate's and its owner stands where it says: then
-- it is an earlier winner's. Or its chain is the candidate's and the owner's key is always so, or the owner's key is one of the candidate's and the
-- chain's was true: then it is the candidate's own. The floor is asked of the bid itself. Assumes nothing.
use Prim.Native.Nat.{ℕ, ◌<◌, ◌≤◌}
use borrow.Author.Tests.{eq-eqb, ne_eqb, eqb-true}
use mathlib.Core.Bool.{Bool, true, false, not, ◌&&◌, ◌||◌, and_comm, or-false, or_comm, false≢true, and-or_distrib_left, and-or_distrib_right}
use mathlib.Core.List.{List}
use mathlib.Core.Logic.{⊎_elim}
use mathlib.Core.Path.{◌≡◌, refl, sym, ◌∙◌, ap, ap₂}
use native.Mathlib.Omega.{arith}
use lib.Dec.{eqb, ltb}
use lib.ListN.{get_or, replicate}
use Rattle.basis.specs.First.{◌when◌otherwise◌}
use Rattle.basis.specs.Tests.{any_below}
use Rattle.basis.proofs.NumberLaws.{same_or_not}
use Rattle.basis.proofs.TestLaws.{not_both, fails, and_parts, or_parts, or_assoc, any_same, any_or, none_any}
use Rattle.sheet.specs.declared.Constraint.{Constraint}
use Rattle.sheet.specs.declared.Page.{Page}
use Rattle.sheet.specs.declared.Round.{Round}
use Rattle.sheet.specs.Round.{constraint_at, blank, bid_of, floor_of, Has, round_of}
use Rattle.choice.proofs.CriticalLaws.{asks_tells}
use Rattle.sheet.specs.Proper.{Proper, ProperRound}
use Rattle.choice.specs.EngineBids.{bid_in}
use Rattle.auction.specs.Page.{at, put, empty_page, placed, Sized}
use Rattle.auction.specs.Broken.{broken, breaks_own}
use Rattle.auction.specs.Eligible.{breaks_earlier, first_failed, eligible}
use Rattle.auction.proofs.BrokenLaws.{eligible-reaches}
use Rattle.auction.proofs.GreedyLaws.{bid_in_lem}
use Rattle.greedy_links.specs.declared.Named.{Named}
use Rattle.greedy_links.specs.EngineKeys.{key, chain_bidder, chain_slot, owner_bidder, owner_slot, is_so, chain_so, owner_so, made_so, is_marked}
use Rattle.greedy_links.specs.EngineLinks.{link_key, link_owner, some_owner_of, named_for}
use Rattle.greedy_links.proofs.LinkLaws.{no_mark}
use Rattle.greedy_links.proofs.KeyLaws.{broken_keys, Fits, keys_fit, so_anywhere, so_placed, so_empty, so_put}
use Rattle.greedy.specs.EngineEligible.{Known, SoFar}

module _ (r : Round) (c : ProperRound r) where
  proper-at : (i : ℕ) → i < r.used → Proper (constraint_at r i)
  proper-at i below = c.proper (constraint_at r i) (i, below, refl)

  fit : (i : ℕ) → i < r.used → Fits (constraint_at r i).owner.0 (constraint_at r i).kind
  fit i below = keys_fit (constraint_at r i).owner (constraint_at r i).kind (proper-at i below)

  -- nobody stands anywhere yet
  pub known_start : Known r empty_page (replicate 1089 0) (replicate 1089 0)
  known_start =
      record {
        stands = λ b l some most l_most. no_mark 1089 (key b l) ∙ sym (so_empty b l (λ e. absurd (omega arith)));
        nobody = no_mark 1089 0;
        bars = λ y.
            no_mark 1089 y
            ∙ sym
            (none_any (λ i. eqb (link_owner r i) y && chain_so empty_page (constraint_at r i)) r.used
            (λ i below.
            let some = (fit i below).chain_some in
            ap (λ (t : Bool). eqb (link_owner r i) y && t) (so_empty _ (chain_slot (constraint_at r i).kind) (λ e. absurd (omega arith)))
            ∙ and_comm (eqb (link_owner r i) y) false));
      }

  -- A bidder put at an empty slot.
  module _ (p : Page) (k w : ℕ) (s : Sized p) (k-some : 0 < k) (k-most : k ≤ 16) (k_empty : at p k ≡ 0) (w-some : 0 < w) (w-most : w ≤ 64) where
    -- a chain's key says at which slot its bidder stands, so of the bidder's two keys it can only be that one
    chain_made : (i : ℕ) → i < r.used → made_so w k (link_key r i) ≡ eqb (link_key r i) (key w k)
    chain_made i below =
        let f = fit i below in
        ap (λ (t : Bool). t || eqb (link_key r i) (key w k)) (ne_eqb (link_key r i) w (λ e. let some = f.slot_some in let more = f.chain_some in absurd (omega arith)))

    chain_put : (i : ℕ) → i < r.used → chain_so (put p k w) (constraint_at r i) ≡ (chain_so p (constraint_at r i) || eqb (link_key r i) (key w k))
    chain_put i below =
        so_put p k w s k-some k-most k_empty w-some w-most _ (chain_slot (constraint_at r i).kind) (fit i below).chain_most
        ∙ ap (λ (t : Bool). chain_so p (constraint_at r i) || t) (chain_made i below)

    -- what the marks know once it stands there
    pub known_next : (barred held barred' held' : List ℕ) → Known r p barred held →
        ((x : ℕ) → is_marked held' x ≡ (is_marked held x || made_so w k x)) →
        ((y : ℕ) → is_marked barred' y ≡ (is_marked barred y || some_owner_of r (key w k) (λ z. eqb z y) r.used)) → Known r (put p k w) barred' held'
    unfolding some_owner_of
    known_next barred held barred' held' known h g =
        record {
          stands = λ b l some most l_most.
              h (key b l)
              ∙ ap (λ (t : Bool). t || made_so w k (key b l)) (known.stands b l some most l_most)
              ∙ sym (so_put p k w s k-some k-most k_empty w-some w-most b l most);
          nobody =
              h 0
              ∙ ap₂ ◌||◌ known.nobody
              (ap₂ ◌||◌ (ne_eqb 0 w (λ e. absurd (omega arith))) (ne_eqb 0 (key w k) (λ e. absurd (omega arith))));
          bars = λ y.
              g y
              ∙ ap (λ (t : Bool). t || any_below (λ i. eqb (link_key r i) (key w k) && eqb (link_owner r i) y) r.used) (known.bars y)
              ∙ sym
              (any_or (λ i. eqb (link_owner r i) y && chain_so p (constraint_at r i)) (λ i. eqb (link_key r i) (key w k) && eqb (link_owner r i) y) r.used)
              ∙ any_same _ _ r.used
              (λ i below.
              ap (λ (t : Bool). (eqb (link_owner r i) y && chain_so p (constraint_at r i)) || t) (and_comm (eqb (link_key r i) (key w k)) (eqb (link_owner r i) y))
              ∙ sym (and-or_distrib_left (eqb (link_owner r i) y) (chain_so p (constraint_at r i)) (eqb (link_key r i) (key w k)))
              ∙ ap (λ (t : Bool). eqb (link_owner r i) y && t) (sym (chain_put i below)));
        }

  -- both keys true of the page with the candidate: one was true, and the other is the candidate's
  either_way_lem : (chain owner mine own : Bool) → (chain && owner) ≡ false → (mine && own) ≡ false →
      ((chain || mine) && (owner || own)) ≡ ((mine && owner) || (own && chain))
  either_way_lem true true mine own e f = absurd (false≢true (sym e))
  either_way_lem true false true true e f = absurd (false≢true (sym f))
  either_way_lem true false true false e f = refl
  either_way_lem true false false true e f = refl
  either_way_lem true false false false e f = refl
  either_way_lem false true true true e f = absurd (false≢true (sym f))
  either_way_lem false true true false e f = refl
  either_way_lem false true false true e f = refl
  either_way_lem false true false false e f = refl
  either_way_lem false false true true e f = absurd (false≢true (sym f))
  either_way_lem false false true false e f = refl
  either_way_lem false false false true e f = refl
  either_way_lem false false false false e f = refl

  -- A constraint breaks as an earlier winner's (t) or as the candidate's own (u), and its owner is never both.
  told_apart : (t u earlier own : Bool) → (t ≡ true → earlier ≡ true) → (u ≡ true → own ≡ true) → (earlier && own) ≡ false →
      ((earlier && (t || u)) ≡ t) × ((own && (t || u)) ≡ u)
  told_apart t u true true f g e = absurd (false≢true (sym e))
  told_apart t true true false f g e = absurd (false≢true (g refl))
  told_apart true false true false f g e = (refl, refl)
  told_apart false false true false f g e = (refl, refl)
  told_apart true u false own f g e = absurd (false≢true (f refl))
  told_apart false true false true f g e = (refl, refl)
  told_apart false false false true f g e = (refl, refl)
  told_apart false true false false f g e = absurd (false≢true (g refl))
  told_apart false false false false f g e = (refl, refl)

  -- A candidate b for an empty slot l of an unbroken page.
  module _ (p : Page) (l b : ℕ) (s : Sized p) (l-some : 0 < l) (l_most : l ≤ 16) (l-empty : at p l ≡ 0) (b_some : 0 < b) (b-most : b ≤ 64)
      (unbroken : (q : Constraint) → Has r q → broken p q ≡ false) (barred held : List ℕ) (known : Known r p barred held) where
    -- an owner's key is true where it is marked, and where it is always so
    owner-known : (i : ℕ) → i < r.used → owner_so p (constraint_at r i) ≡ (is_marked held (link_owner r i) || eqb (link_owner r i) 0)
    unfolding is_so
    owner-known i below =
        let f = fit i below in
        let o = owner_bidder (constraint_at r i).owner.0 (constraint_at r i).kind in
        let k = owner_slot (constraint_at r i).kind in
        ⊎_elim
        (λ (e : o ≡ 0).
        let none : key o k ≡ 0 = (let z = f.nobody e in omega arith) in
        ap (λ (x : ℕ). is_so p x k) e
        ∙ sym (ap (λ (t : Bool). is_marked held (key o k) || t) (eq-eqb (key o k) 0 none) ∙ or_comm (is_marked held (key o k)) true))
        (λ (d : o ≡ 0 → ⊥).
        sym
        (ap₂ ◌||◌ (known.stands o k (omega arith) f.owner_most f.own_most) (ne_eqb (key o k) 0 (λ e. absurd (omega arith)))
        ∙ or-false (is_so p o k)))
        (same_or_not o 0)

    -- the candidate is not both the chain's bidder and the owner of one constraint
    not_itself : (i : ℕ) → i < r.used → (eqb (link_key r i) (key b l) && made_so b l (link_owner r i)) ≡ false
    not_itself i below =
        let f = fit i below in
        let o = owner_bidder (constraint_at r i).owner.0 (constraint_at r i).kind in
        let j = chain_bidder (constraint_at r i).owner.0 (constraint_at r i).kind in
        fails (eqb (link_key r i) (key b l) && made_so b l (link_owner r i))
        (λ t.
        let both = and_parts (eqb (link_key r i) (key b l)) (made_so b l (link_owner r i)) t in
        let mine = eqb-true (link_key r i) (key b l) both.0 in
        let some = f.chain_some in
        let most = f.chain_most in
        let few = f.owner_most in
        let first : j ≡ b = omega arith in
        ⊎_elim
        (λ (e : o ≡ 0).
        let z = f.nobody e in
        ⊎_elim
        (λ (u : eqb (link_owner r i) b ≡ true). let v = eqb-true (link_owner r i) b u in absurd (omega arith))
        (λ (u : eqb (link_owner r i) (key b l) ≡ true). let v = eqb-true (link_owner r i) (key b l) u in absurd (omega arith))
        (or_parts (eqb (link_owner r i) b) (eqb (link_owner r i) (key b l)) both.1))
        (λ (d : o ≡ 0 → ⊥).
        ⊎_elim
        (λ (u : eqb (link_owner r i) b ≡ true). let v = eqb-true (link_owner r i) b u in f.apart (omega arith))
        (λ (u : eqb (link_owner r i) (key b l) ≡ true). let v = eqb-true (link_owner r i) (key b l) u in f.apart (omega arith))
        (or_parts (eqb (link_owner r i) b) (eqb (link_owner r i) (key b l)) both.1))
        (same_or_not o 0))

    -- a constraint that is broken with the candidate at the slot
    broken-with : (i : ℕ) → i < r.used → broken (put p l b) (constraint_at r i) ≡
        ((eqb (link_key r i) (key b l) && (is_marked held (link_owner r i) || eqb (link_owner r i) 0))
        || (made_so b l (link_owner r i) && chain_so p (constraint_at r i)))
    broken-with i below =
        let q = constraint_at r i in
        broken_keys (put p l b) q.owner q.kind (proper-at i below)
        ∙ ap₂ ◌&&◌ (chain_put p l b s l-some l_most l-empty b_some b-most i below)
        (so_put p l b s l-some l_most l-empty b_some b-most _ (owner_slot q.kind) (fit i below).owner_most)
        ∙ either_way_lem (chain_so p q) (owner_so p q) (eqb (link_key r i) (key b l)) (made_so b l (link_owner r i))
        (sym (broken_keys p q.owner q.kind (proper-at i below)) ∙ unbroken q (i, below, refl)) (not_itself i below)
        ∙ ap (λ (t : Bool). (eqb (link_key r i) (key b l) && t) || (made_so b l (link_owner r i) && chain_so p q)) (owner-known i below)

    -- as an earlier winner's: its chain is the candidate's, and its owner stands where it says
    abbrev by_earlier : ℕ → Bool
    by_earlier i = eqb (link_key r i) (key b l) && is_marked held (link_owner r i)

    -- as the candidate's own: its chain is the candidate's and the owner's key is always so, or the owner's key is one of the candidate's and the
    -- chain's was true
    abbrev by_itself : ℕ → Bool
    by_itself i = (eqb (link_key r i) (key b l) && eqb (link_owner r i) 0) || (made_so b l (link_owner r i) && chain_so p (constraint_at r i))

    either_breaks : (i : ℕ) → i < r.used → broken (put p l b) (constraint_at r i) ≡ (by_earlier i || by_itself i)
    either_breaks i below =
        let mine = eqb (link_key r i) (key b l) in
        let barring = made_so b l (link_owner r i) && chain_so p (constraint_at r i) in
        broken-with i below
        ∙ ap (λ (t : Bool). t || barring) (and-or_distrib_left mine (is_marked held (link_owner r i)) (eqb (link_owner r i) 0))
        ∙ or_assoc (by_earlier i) (mine && eqb (link_owner r i) 0) barring

    earlier_owner : (i : ℕ) → i < r.used → by_earlier i ≡ true → placed p (constraint_at r i).owner.0 ≡ true
    earlier_owner i below e =
        let f = fit i below in
        let o = owner_bidder (constraint_at r i).owner.0 (constraint_at r i).kind in
        let k = owner_slot (constraint_at r i).kind in
        let marked = (and_parts (eqb (link_key r i) (key b l)) (is_marked held (link_owner r i)) e).1 in
        ⊎_elim
        (λ (z : o ≡ 0).
        let slot = f.nobody z in
        let none : key o k ≡ 0 = omega arith in
        absurd (not_both marked (ap (is_marked held) none ∙ known.nobody)))
        (λ (d : o ≡ 0 → ⊥).
        ap (placed p) (sym (f.own_key d))
        ∙ so_placed p o k d f.own_most (sym (known.stands o k (omega arith) f.owner_most f.own_most) ∙ marked))
        (same_or_not o 0)

    own-owner : (i : ℕ) → i < r.used → by_itself i ≡ true → eqb (constraint_at r i).owner.0 b ≡ true
    own-owner i below e =
        let f = fit i below in
        let owner = (constraint_at r i).owner.0 in
        let o = owner_bidder owner (constraint_at r i).kind in
        let j = chain_bidder owner (constraint_at r i).kind in
        let few = f.owner_most in
        let some = f.chain_some in
        let most = f.chain_most in
        ⊎_elim
        (λ (t : (eqb (link_key r i) (key b l) && eqb (link_owner r i) 0) ≡ true).
        let both = and_parts (eqb (link_key r i) (key b l)) (eqb (link_owner r i) 0) t in
        let mine = eqb-true (link_key r i) (key b l) both.0 in
        let always = eqb-true (link_owner r i) 0 both.1 in
        let none : o ≡ 0 = omega arith in
        let first : j ≡ b = omega arith in
        eq-eqb owner b (sym (f.own_chain none) ∙ first))
        (λ (t : (made_so b l (link_owner r i) && chain_so p (constraint_at r i)) ≡ true).
        let made = or_parts (eqb (link_owner r i) b) (eqb (link_owner r i) (key b l))
        (and_parts (made_so b l (link_owner r i)) (chain_so p (constraint_at r i)) t).0 in
        ⊎_elim
        (λ (z : o ≡ 0).
        let slot = f.nobody z in
        ⊎_elim
        (λ (u : eqb (link_owner r i) b ≡ true). let v = eqb-true (link_owner r i) b u in absurd (omega arith))
        (λ (u : eqb (link_owner r i) (key b l) ≡ true). let v = eqb-true (link_owner r i) (key b l) u in absurd (omega arith))
        made)
        (λ (d : o ≡ 0 → ⊥).
        let same : o ≡ b
        = ⊎_elim
        (λ (u : eqb (link_owner r i) b ≡ true). let v = eqb-true (link_owner r i) b u in omega arith)
        (λ (u : eqb (link_owner r i) (key b l) ≡ true). let v = eqb-true (link_owner r i) (key b l) u in omega arith)
        made in
        eq-eqb owner b (sym (f.own_key d) ∙ same))
        (same_or_not o 0))
        (or_parts (eqb (link_key r i) (key b l) && eqb (link_owner r i) 0) (made_so b l (link_owner r i) && chain_so p (constraint_at r i)) e)

    pub placed-told : is_marked held b ≡ placed p b
    placed-told =
        let here : key b 0 ≡ b = omega arith in
        ap (is_marked held) (sym here) ∙ known.stands b 0 b_some b-most (omega arith) ∙ so_anywhere p b (λ e. absurd (omega arith))

    -- The two tests, of a candidate that has no slot.
    module _ (unplaced : placed p b ≡ false) where
      apart : (i : ℕ) → (placed p (constraint_at r i).owner.0 && eqb (constraint_at r i).owner.0 b) ≡ false
      apart i =
          let owner = (constraint_at r i).owner.0 in
          fails (placed p owner && eqb owner b)
          (λ t.
          let both = and_parts (placed p owner) (eqb owner b) t in
          not_both both.0 (ap (placed p) (eqb-true owner b both.1) ∙ unplaced))

      apart_at : (i : ℕ) → i < r.used →
          ((placed p (constraint_at r i).owner.0 && broken (put p l b) (constraint_at r i)) ≡ by_earlier i)
          × ((eqb (constraint_at r i).owner.0 b && broken (put p l b) (constraint_at r i)) ≡ by_itself i)
      apart_at i below =
          let owner = (constraint_at r i).owner.0 in
          let both = told_apart (by_earlier i) (by_itself i) (placed p owner) (eqb owner b) (earlier_owner i below) (own-owner i below) (apart i) in (
            ap (λ (t : Bool). placed p owner && t) (either_breaks i below) ∙ both.0,
            ap (λ (t : Bool). eqb owner b && t) (either_breaks i below) ∙ both.1,
          )

      pub earlier_told : some_owner_of r (key b l) (is_marked held) r.used ≡ breaks_earlier r p (put p l b)
      unfolding breaks_earlier some_owner_of
      earlier_told = sym (any_same _ _ r.used (λ i below. (apart_at i below).0))

      pub own-told : (some_owner_of r (key b l) (λ y. eqb y 0) r.used || (is_marked barred b || is_marked barred (key b l))) ≡ breaks_own r (put p l b) b
      unfolding breaks_own some_owner_of
      own-told =
          sym
          (any_same _ _ r.used (λ i below. (apart_at i below).1)
          ∙ any_or (λ i. eqb (link_key r i) (key b l) && eqb (link_owner r i) 0) barring r.used
          ∙ ap (λ (t : Bool). any_below (λ i. eqb (link_key r i) (key b l) && eqb (link_owner r i) 0) r.used || t)
          (any_same _ _ r.used (λ i below. and-or_distrib_right (eqb (link_owner r i) b) (eqb (link_owner r i) (key b l)) (chain_so p (constraint_at r i)))
          ∙ any_or (λ i. eqb (link_owner r i) b && chain_so p (constraint_at r i)) (λ i. eqb (link_owner r i) (key b l) && chain_so p (constraint_at r i)) r.used
          ∙ ap₂ ◌||◌ (sym (known.bars b)) (sym (known.bars (key b l)))))
        where
          barring : ℕ → Bool
          barring i = made_so b l (link_owner r i) && chain_so p (constraint_at r i)

-- A round with a sheet's constraints has its links.
pub some_same : (r : Round) (s : List ℕ) → r.constraints ≡ (round_of s).constraints → r.used ≡ (round_of s).used → (x : ℕ) (test : ℕ → Bool) →
    some_owner_of (round_of s) x test (round_of s).used ≡ some_owner_of r x test r.used
unfolding some_owner_of constraint_at
some_same r s same-constraints same_used x test =
    ap₂ (λ (cs : List Constraint) (n : ℕ). any_below (λ i. asks (get_or cs i blank)) n) (sym same-constraints) (sym same_used)
  where
    asks : Constraint → Bool
    asks q =
        eqb (key (chain_bidder q.owner.0 q.kind) (chain_slot q.kind)) x
        && test (key (owner_bidder q.owner.0 q.kind) (owner_slot q.kind))

-- A round's lent bids are its own,
pub lent_bid : (r : Round) (bids : List ℕ) → bids ≡ r.bids → (b : ℕ) → bid_in bids b ≡ bid_of r b
lent_bid r bids same b = ap (λ (bs : List ℕ). bid_in bs b) same ∙ bid_in_lem r b

-- and who is eligible bids at least the floor.
pub lent-reaches : (r : Round) (p : Page) (s barred held bids : List ℕ) (asks l : ℕ) → SoFar r p s barred held bids asks l →
    (b : ℕ) → eligible r p l b ≡ true → floor_of r l ≤ bid_in bids b
lent-reaches r p s barred held bids asks l h b e =
    let bid = lent_bid r bids h.bids_are b in
    let reaches = eligible-reaches r p l b e in
    omega arith

-- The step's answers, for the page so far.
module _ (r : Round) (p : Page) (s barred held bids : List ℕ) (asks l b : ℕ) (h : SoFar r p s barred held bids asks l)
    (b_some : 0 < b) (b-most : b ≤ 64) (l-some : 0 < l) (l_most : l ≤ 16) where
  held-placed : is_marked held b ≡ placed p b
  held-placed = placed-told r h.proper p l b h.sized l-some l_most h.vacant b_some b-most h.unbroken barred held h.known

  -- bids are in ticks, so who bids less than the floor asks is below the floor
  pub below-told : ltb (bid_in bids b) asks ≡ ltb (bid_of r b) (floor_of r l)
  below-told =
      ap₂ ltb (lent_bid r bids h.bids_are b) h.asks_is
      ∙ asks_tells r.tick (floor_of r l) (bid_of r b) h.proper.some_tick (h.proper.in_ticks b)

  -- the tests in their order, the first as it was answered
  in_order : (t : Bool) → placed p b ≡ t →
      first_failed r p l b
      ≡ (1 when t otherwise 2 when breaks_earlier r p (put p l b) otherwise 3 when breaks_own r (put p l b) b otherwise 4 when ltb (bid_of r b) (floor_of r l) otherwise 0)
  unfolding first_failed
  in_order t =
      ap
      (λ (t : Bool).
      1 when t otherwise
      2 when breaks_earlier r p (put p l b) otherwise
      3 when breaks_own r (put p l b) b otherwise
      4 when ltb (bid_of r b) (floor_of r l) otherwise
      0)

  pub first-placed : is_marked held b ≡ true → 1 ≡ first_failed r p l b
  first-placed e = sym (in_order true (sym held-placed ∙ e))

  -- where an earlier winner's constraint names the candidate, the rest does not count
  own_unasked : (earlier own bars : Bool) (rest : ℕ) →
      (2 when earlier otherwise 3 when (not earlier && own) || bars otherwise rest) ≡ (2 when earlier otherwise 3 when own || bars otherwise rest)
  own_unasked true own bars rest = refl
  own_unasked false own bars rest = refl

  pub first_unplaced : is_marked held b ≡ false → (named : Named) →
      named ≡ named_for (some_owner_of (round_of s) (key b l) (is_marked held) (round_of s).used) (some_owner_of (round_of s) (key b l) (λ y. eqb y 0) (round_of s).used) →
      (2 when named.earlier otherwise
      3 when named.itself || (is_marked barred b || is_marked barred (key b l)) otherwise
      4 when ltb (bid_in bids b) asks otherwise
      0)
      ≡ first_failed r p l b
  unfolding named_for
  first_unplaced e named told =
      let bars = is_marked barred b || is_marked barred (key b l) in
      let unplaced : placed p b ≡ false = sym held-placed ∙ e in
      let earlier = some_owner_of (round_of s) (key b l) (is_marked held) (round_of s).used in
      let own = some_owner_of (round_of s) (key b l) (λ y. eqb y 0) (round_of s).used in
      let same = some_same r s h.constraints_are h.used_are (key b l) in
      let last = 4 when ltb (bid_of r b) (floor_of r l) otherwise 0 in
      ap₂ (λ (n : Named) (t : Bool). 2 when n.earlier otherwise 3 when n.itself || bars otherwise 4 when t otherwise 0) told below-told
      ∙ own_unasked earlier own bars last
      ∙ ap₂ (λ (x y : Bool). 2 when x otherwise 3 when y otherwise last)
      (same (is_marked held)
      ∙ earlier_told r h.proper p l b h.sized l-some l_most h.vacant b_some b-most h.unbroken barred held h.known unplaced)
      (ap (λ (t : Bool). t || bars) (same (λ y. eqb y 0))
      ∙ own-told r h.proper p l b h.sized l-some l_most h.vacant b_some b-most h.unbroken barred held h.known unplaced)
      ∙ sym (in_order false unplaced)
