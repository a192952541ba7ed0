use Prim.Native.Nat.{ℕ, suc, ◌-◌, ◌<◌, ◌≤◌}
use mathlib.Core.Bool.{Bool, true, false}
use mathlib.Core.List.{List}
use borrow.Author.Tests.{eq-eqb, ne_eqb}
use lib.Dec.{eqb}
use mathlib.Core.Path.{◌≡◌, refl, sym, ◌∙◌, ap, subst}
use native.Mathlib.Nat.{not-suc-le-zero}
use native.Mathlib.Numerals.{add-one}
use native.Mathlib.Omega.{arith}
use lib.ListN.{get_or}
use Rattle.basis.specs.Bits.{bit_of}
use Rattle.basis.proofs.TestLaws.{not_both}
use Rattle.sheet.specs.declared.Page.{Page}
use Rattle.sheet.specs.declared.Round.{Round}
use Rattle.auction.specs.Allowed.{Allowed, total}
use Rattle.auction.specs.Page.{put}
use Rattle.auction.proofs.PageLaws.{put-nobody}
use Rattle.best_page.specs.EngineSearch.{Agrees}
use Rattle.best_clash.specs.EngineClash.{FreeFor, RanksOf}
use Rattle.best_node.specs.declared.Ahead.{Ahead}
use Rattle.best_node.specs.EngineNode.{TablesOf, Node, Leads, Passes}
use Rattle.best_search.specs.EngineFound.{FirstWith, Sought}
use Rattle.best_node.proofs.FreeLaws.{slot_left, agrees_before}
use Rattle.best_node.proofs.LeadLaws.{free-here, lead_node, lead_free, lead_most, pass_node, pass-free, pass-most, gain-low}
use Rattle.best_search.proofs.SeekLaws.{NoneBelow, leaf_first, none-next, found_next, none_found}
use Rattle.best_search.proofs.NextLaws.{next_fit}
use Rattle.best_search.proofs.+search.Invariants.{Seeking, ForAll}
use Rattle.best_search.proofs.+search.Goals.{then-total-passed+in_default, else-total-passed, then-is_free+then-total-ahead+in_default-search, then-is_free+else-total-ahead, else-is_free}
use Rattle.best_search.proofs.+search.Goals.{Then-free-eq0, Joined-is_free}
use Rattle.best_search.proofs.+search.Goals as goal

room : (r : Round) (ranked shut gains : List ℕ) → TablesOf r ranked shut gains → (p : Page) (k had : ℕ) → Node r p k had → (free : ℕ) → FreeFor r ranked p k free →
    (free ≡ 0 → ⊥) → suc k ≤ 16
room r ranked shut gains v p k had w free f some =
    (let inside = slot_left r ranked shut gains v p k had w free f some in let short = v.few_slots in omega arith)

module _ (shut gains ranks : List ℕ) (bidders slot : ℕ) (p : Page) (free had sum : ℕ) (some : free ≡ 0 → ⊥) where
  -- no page with nobody below the first
  none_first : (r : Round) (k : ℕ) → NoneBelow r p k 0 sum
  none_first r k q a ok l = absurd (not-suc-le-zero l)

  -- nobody at the next slot
  module _ (next : Ahead) (passes : (k : ℕ) → suc k ≡ slot → Passes gains k free had next) where
    module _ (below : ℕ) (at-below : below ≡ suc slot) (found : Bool) (page : Page) (deeper : Sought shut gains ranks bidders below p next.free.0 next.had sum found page) where
      nobody_searched : ForAll shut gains ranks bidders slot p free had (λ r k. FirstWith r (Agrees (put p (suc k) 0) (suc k)) sum found page)
      nobody_searched r ranked k at-k n v o w f =
          let inside = slot_left r ranked shut gains v p k had w free f some in
          subst (λ (x : Page). FirstWith r (Agrees x (suc k)) sum found page) (sym (put-nobody p (suc k) (w.later (suc k) (omega arith))))
          (deeper r ranked (suc k) (omega arith) n v o
          (pass_node r ranked shut gains v p k had w free f inside next (passes k at-k))
          (pass-free r ranked shut gains v p k had w free f inside next (passes k at-k)))

      nobody_found : found ≡ true → ForAll shut gains ranks bidders slot p free had (λ r k. FirstWith r (Agrees p k) sum found page)
      nobody_found yes' r ranked k at-k n v o w f =
          found_next r p k had sum w (room r ranked shut gains v p k had w free f some) 0 page (none_first r k) found yes' (nobody_searched r ranked k at-k n v o w f)

      nobody_none : found ≡ false → ForAll shut gains ranks bidders slot p free had (λ r k. NoneBelow r p k 1 sum)
      nobody_none no' r ranked k at-k n v o w f =
          none-next r p k had sum w (room r ranked shut gains v p k had w free f some) 0 (none_first r k) ((nobody_searched r ranked k at-k n v o w f).none no')

    nobody_small : next.most < sum → ForAll shut gains ranks bidders slot p free had (λ r k. NoneBelow r p k 1 sum)
    nobody_small small r ranked k at-k n v o w f =
        none-next r p k had sum w (room r ranked shut gains v p k had w free f some) 0 (none_first r k)
        (λ q a ok t.
        let inside = slot_left r ranked shut gains v p k had w free f some in
        let most = pass-most r ranked shut gains v p k had w free f inside next (passes k at-k) q
        (subst (λ (x : Page). Agrees x (suc k) q) (put-nobody p (suc k) (w.later (suc k) (omega arith))) a) ok in
        absurd (omega arith))

  -- bidder b there
  module _ (b : ℕ) (u : Seeking shut gains ranks bidders slot p free had sum b) (begun : 0 < b) (turn : b ≤ bidders) (i : ℕ) (i_is : i ≡ get_or ranks b 0) (i_low : i < 8) where
    named : (r : Round) (ranked : List ℕ) → r.bidders ≡ bidders → RanksOf r.bidders ranked ranks → get_or ranked i 0 ≡ b
    named r ranked n o = ap (λ (x : ℕ). get_or ranked x 0) i_is ∙ o.there b begun (omega arith)

    next_turn : ForAll shut gains ranks bidders slot p free had (λ r k. (q : Page) → Agrees (put p (suc k) b) (suc k) q → Allowed r q → total r q ≡ sum → ⊥) →
        Seeking shut gains ranks bidders slot p free had sum (suc b)
    next_turn here r ranked k at-k n v o w f =
        none-next r p k had sum w (room r ranked shut gains v p k had w free f some) b (u r ranked k at-k n v o w f) (here r ranked k at-k n v o w f)

    not_free : bit_of free i ≡ false → Seeking shut gains ranks bidders slot p free had sum (suc b)
    not_free no' =
        next_turn
        (λ r ranked k at-k n v o w f q a ok t.
        let inside = slot_left r ranked shut gains v p k had w free f some in
        let before = agrees_before p q k b w.page.sized (room r ranked shut gains v p k had w free f some) a in
        let low : i < r.bidders = subst (λ (x : ℕ). x < r.bidders) (sym i_is) (o.low b begun (omega arith)) in
        not_both (free-here r ranked shut gains v p k had w free f inside q before.0 ok i low (named r ranked n o ∙ sym before.1)) no')

    module _ (i-free : bit_of free i ≡ true) (next : Ahead) (leads : (k : ℕ) → suc k ≡ slot → Leads shut gains k free had i next) where
      too_small : next.most < sum → Seeking shut gains ranks bidders slot p free had sum (suc b)
      too_small small =
          next_turn
          (λ r ranked k at-k n v o w f q a ok t.
          let inside = slot_left r ranked shut gains v p k had w free f some in
          let most = lead_most r ranked shut gains v p k had w free f inside i i_low i-free next (leads k at-k) q
          (subst (λ (x : ℕ). Agrees (put p (suc k) x) (suc k) q) (sym (named r ranked n o)) a) ok in
          absurd (omega arith))

      module _ (below : ℕ) (at-below : below ≡ suc slot) (child : Page) (child-is : child ≡ put p slot b) (found : Bool) (page : Page)
          (deeper : Sought shut gains ranks bidders below child next.free.0 next.had sum found page) where
        searched : ForAll shut gains ranks bidders slot p free had (λ r k. FirstWith r (Agrees (put p (suc k) b) (suc k)) sum found page)
        searched r ranked k at-k n v o w f =
            let inside = slot_left r ranked shut gains v p k had w free f some in
            let same : child ≡ put p (suc k) b = child-is ∙ ap (λ (x : ℕ). put p x b) (sym at-k) in
            let there = named r ranked n o in
            subst (λ (x : Page). Sought shut gains ranks bidders below x next.free.0 next.had sum found page) same deeper
            r ranked (suc k) (omega arith) n v o
            (subst (λ (x : ℕ). Node r (put p (suc k) x) (suc k) next.had) there
            (lead_node r ranked shut gains v p k had w free f inside i i_low i-free next (leads k at-k)))
            (subst (λ (x : ℕ). FreeFor r ranked (put p (suc k) x) (suc k) next.free.0) there
            (lead_free r ranked shut gains v p k had w free f inside i i_low i-free next (leads k at-k)))

        is_first : found ≡ true → ForAll shut gains ranks bidders slot p free had (λ r k. FirstWith r (Agrees p k) sum found page)
        is_first yes' r ranked k at-k n v o w f =
            found_next r p k had sum w (room r ranked shut gains v p k had w free f some) b page (u r ranked k at-k n v o w f) found yes'
            (searched r ranked k at-k n v o w f)

        none_there : found ≡ false → Seeking shut gains ranks bidders slot p free had sum (suc b)
        none_there no' = next_turn (λ r ranked k at-k n v o w f. (searched r ranked k at-k n v o w f).none no')

-- where nothing is free
leaf : (t : ℕ) (c : Then-free-eq0 t) →
    ForAll c.args.shut.now c.args.gains.now c.args.ranks.now c.args.bidders c.args.slot.0 c.args.page c.args.free.0 c.args.had
    (λ r k. FirstWith r (Agrees c.args.page k) c.args.total (eqb c.args.had c.args.total) c.args.page)
leaf t c r ranked k e n v o w f =
    let a = c.args in
    leaf_first r ranked a.shut.now a.gains.now v a.page k a.had w a.free.0 f c.if-free-eq0.true a.total

pub returns-then-had-total : goal.returns-then-had-total
returns-then-had-total t c r ranked k e n v o w f =
    rw (eq-eqb c.args.had c.args.total c.if-had-total.true) at (leaf t (goal.at.returns-then-had-total t c).Then-free-eq0 r ranked k e n v o w f)

pub returns-else-had-total : goal.returns-else-had-total
returns-else-had-total t c r ranked k e n v o w f =
    rw (ne_eqb c.args.had c.args.total c.if-had-total.false) at (leaf t (goal.at.returns-else-had-total t c).Then-free-eq0 r ranked k e n v o w f)

pub search-requires : goal.search-requires
search-requires t c =
    let a = c.args in
    let q = c.requires in
    let passes = c.pass_over-passed.ensures (a.slot.0 - 1) (omega arith) in
    let e = passes.had_is in
    let fit = next_fit a.slot.0 a.free.0 a.had c.next_slot-next.result.0 c.pass_over-passed.result.free.0 c.pass_over-passed.result.had q.slot_nonzero
    c.if-free-eq0.false c.next_slot-next.ensures passes.free_low (omega arith) in
    (omega arith, (fit, q.by_index))

pub returns-in-Some : goal.returns-in-Some
returns-in-Some t c =
    let a = c.args in
    nobody_found a.shut.now a.gains.now a.ranks.now a.bidders a.slot.0 a.page a.free.0 a.had a.total c.if-free-eq0.false
    c.pass_over-passed.result c.pass_over-passed.ensures c.next_slot-next.result.0 c.next_slot-next.ensures _ _ c.in-Some.ensures refl

pub loop-bidder-init : goal.loop-bidder-init
loop-bidder-init t c =
    let a = c.args in
    let q = c.requires in
    let some = c.if-free-eq0.false in
    let next = c.pass_over-passed.result in
    let passes = c.pass_over-passed.ensures in
    elim c.if-total-passed.branch [
      | then-total-passed+in_default x ↦ nobody_none a.shut.now a.gains.now a.ranks.now a.bidders a.slot.0 a.page a.free.0 a.had a.total some next passes c.next_slot-next.result.0 c.next_slot-next.ensures _ _ x.in_default.ensures refl
      | else-total-passed x ↦ nobody_small a.shut.now a.gains.now a.ranks.now a.bidders a.slot.0 a.page a.free.0 a.had a.total some next passes x.if-total-passed.false
    ]

pub search-requires-then-total-ahead : goal.search-requires-then-total-ahead
search-requires-then-total-ahead t c =
    let a = c.args in
    let q = c.requires in
    let leads = c.look_ahead-ahead.ensures (a.slot.0 - 1) (omega arith) in
    let e = leads.had_is in
    let one = gain-low a.gains.now q.by_index.0 c.rank_of-rank.result.0 (a.slot.0 - 1) in
    let fit = next_fit a.slot.0 a.free.0 a.had c.next_slot-next.result.0 c.look_ahead-ahead.result.free.0 c.look_ahead-ahead.result.had q.slot_nonzero
    c.if-free-eq0.false c.next_slot-next.ensures leads.free_low (omega arith) in
    (omega arith, (fit, q.by_index))

pub returns-in-Some-search : goal.returns-in-Some-search
returns-in-Some-search t c =
    let a = c.args in
    let q = c.requires in
    let some = c.if-free-eq0.false in
    is_first a.shut.now a.gains.now a.ranks.now a.bidders a.slot.0 a.page a.free.0 a.had a.total some c.loop-bidder.bidder c.loop-bidder.invariant
    c.loop-bidder.auto.bidder (omega arith) c.rank_of-rank.result.0 c.rank_of-rank.ensures
    (subst (λ (n : ℕ). n < 8) (sym c.rank_of-rank.ensures) (q.by_index.2 _)) (sym c.is_free.ensures ∙ c.if-is_free.true)
    c.look_ahead-ahead.result c.look_ahead-ahead.ensures c.next_slot-next.result.0 c.next_slot-next.ensures
    c.with_bidder.result c.with_bidder.ensures _ _ c.in-Some-search.ensures refl

-- after the turn of a bidder
tried : (t : ℕ) (c : Joined-is_free t) →
    Seeking c.args.shut.now c.args.gains.now c.args.ranks.now c.args.bidders c.args.slot.0 c.args.page c.args.free.0 c.args.had c.args.total (suc c.loop-bidder.bidder)
tried t c =
    let a = c.args in
    let q = c.requires in
    let some = c.if-free-eq0.false in
    let b = c.loop-bidder.bidder in
    let begun = c.loop-bidder.auto.bidder in
    let inv = c.loop-bidder.invariant in
    let turn : b ≤ a.bidders = omega arith in
    let i = c.rank_of-rank.result.0 in
    let i_is = c.rank_of-rank.ensures in
    let i_low = subst (λ (n : ℕ). n < 8) (sym i_is) (q.by_index.2 _) in
    let told = c.is_free.ensures in
    elim c.if-is_free.branch [
      | then-is_free+then-total-ahead+in_default-search x ↦
          none_there a.shut.now a.gains.now a.ranks.now a.bidders a.slot.0 a.page a.free.0 a.had a.total some b inv begun turn i i_is i_low (sym told ∙ x.if-is_free.true) x.look_ahead-ahead.result x.look_ahead-ahead.ensures c.next_slot-next.result.0 c.next_slot-next.ensures
          x.with_bidder.result x.with_bidder.ensures _ _ x.in_default-search.ensures refl
      | then-is_free+else-total-ahead x ↦
          too_small a.shut.now a.gains.now a.ranks.now a.bidders a.slot.0 a.page a.free.0 a.had a.total some b inv begun turn i i_is i_low (sym told ∙ x.if-is_free.true) x.look_ahead-ahead.result x.look_ahead-ahead.ensures x.if-total-ahead.false
      | else-is_free x ↦ not_free a.shut.now a.gains.now a.ranks.now a.bidders a.slot.0 a.page a.free.0 a.had a.total some b inv begun turn i i_is i_low (sym told ∙ x.if-is_free.false)
    ]

pub loop-bidder-preserved : goal.loop-bidder-preserved
loop-bidder-preserved t c = rw (add-one c.loop-bidder.bidder) (tried t (goal.at.loop-bidder-preserved t c).Joined-is_free)

pub returns-after-is_free : goal.returns-after-is_free
returns-after-is_free t c r ranked k e n v o w f =
    let a = c.args in
    none_found r a.page k a.had a.total w (room r ranked a.shut.now a.gains.now v a.page k a.had w a.free.0 f c.if-free-eq0.false) (suc c.loop-bidder.bidder) a.page
    (omega arith)
    (tried t (goal.at.returns-after-is_free t c).Joined-is_free r ranked k e n v o w f)
