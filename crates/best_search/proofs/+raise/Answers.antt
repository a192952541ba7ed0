use Prim.Native.Nat.{ℕ, suc, ◌-◌, ◌<◌, ◌≤◌}
use mathlib.Core.Bool.{true, not, ◌&&◌}
use mathlib.Core.List.{List}
use mathlib.Core.Path.{◌≡◌, sym, subst}
use native.Mathlib.Omega.{arith}
use lib.Dec.{eqb}
use lib.ListN.{get_or}
use Rattle.basis.specs.Bits.{bit_of}
use Rattle.sheet.specs.declared.Page.{Page}
use Rattle.sheet.specs.declared.Round.{Round}
use Rattle.auction.specs.Page.{put}
use Rattle.best_page.specs.EngineSearch.{Agrees}
use Rattle.best_seats.specs.EngineSeats.{First}
use Rattle.best_seats.proofs.SeatLaws.{rest_start, rest_here, rest_next}
use Rattle.best_clash.specs.EngineClash.{FreeFor}
use Rattle.best_node.specs.declared.Ahead.{Ahead}
use Rattle.best_node.specs.EngineNode.{TablesOf, Node, Leads}
use Rattle.best_search.specs.EngineFound.{Largest, Raised}
use Rattle.best_node.proofs.FreeLaws.{slot_left}
use Rattle.best_node.proofs.LeadLaws.{lead_node, lead_free, lead_most, pass_node, pass-free, pass-most, gain-low}
use Rattle.best_search.proofs.RaiseLaws.{upto_none, upto_next, upto_done, none_larger, leaf_more, leaf_less}
use Rattle.best_search.proofs.NextLaws.{next_fit}
use Rattle.best_search.proofs.+raise.Invariants.{Rising}
use Rattle.best_search.proofs.+raise.Goals.{then-highest-ahead, else-highest-ahead}
use Rattle.best_search.proofs.+raise.Goals as goal

-- a turn: what lies below the rank's choice was searched, or left out
module _ (shut gains : List ℕ) (slot free had known highest left : ℕ) (v : Rising shut gains slot free had known highest left) (some : free ≡ 0 → ⊥)
    (t : ℕ) (first : First left t) (next : Ahead) (leads : (k : ℕ) → suc k ≡ slot → Leads shut gains k free had t next) where
  t_free : bit_of free t ≡ true
  t_free = (rest_here free left v.start t v.rest first).0

  abbrev Below : ℕ → Type 0
  Below found =
      (r : Round) (ranked : List ℕ) (p : Page) (k : ℕ) → suc k ≡ slot → TablesOf r ranked shut gains → Node r p k had → FreeFor r ranked p k free →
      Largest r (Agrees (put p (suc k) (get_or ranked t 0)) (suc k)) highest found

  searched : (below found : ℕ) → below ≡ suc slot → Raised shut gains below next.free.0 next.had highest found → Below found
  searched below found e deeper r ranked p k at-k tables w f =
      let inside = slot_left r ranked shut gains tables p k had w free f some in
      deeper r ranked (put p (suc k) (get_or ranked t 0)) (suc k) (omega arith) tables
      (lead_node r ranked shut gains tables p k had w free f inside t first.low t_free next (leads k at-k))
      (lead_free r ranked shut gains tables p k had w free f inside t first.low t_free next (leads k at-k))

  left_out : next.most ≤ highest → Below highest
  left_out less r ranked p k at-k tables w f =
      let inside = slot_left r ranked shut gains tables p k had w free f some in
      none_larger r (Agrees (put p (suc k) (get_or ranked t 0)) (suc k)) highest
      (λ q a ok. (let most = lead_most r ranked shut gains tables p k had w free f inside t first.low t_free next (leads k at-k) q a ok in omega arith))

  turned : (less found : ℕ) → less < left → ((i : ℕ) → bit_of less i ≡ (bit_of left i && not (eqb i t))) → Below found →
      Rising shut gains slot free had known found less
  turned less found fewer told below =
      record {
        start = suc t;
        rest = rest_next free left v.start t v.rest first less fewer told;
        so_far = λ r ranked p k at-k tables w f.
            upto_next r ranked shut gains tables p k had w free f (slot_left r ranked shut gains tables p k had w free f some) known highest left v.start t found
            v.rest first (v.so_far r ranked p k at-k tables w f) (below r ranked p k at-k tables w f);
      }

pub returns-then-known-had : goal.returns-then-known-had
returns-then-known-had t c =
    let a = c.args in
    let q = c.requires in
    λ r ranked p k e v w f.
    leaf_more r ranked a.shut.now a.gains.now v p k a.had w a.free.0 f c.if-free-eq0.true a.known c.if-known-had.true

pub returns-then-free-eq0 : goal.returns-then-free-eq0
returns-then-free-eq0 t c =
    let a = c.args in
    let q = c.requires in
    λ r ranked p k e v w f.
    leaf_less r ranked a.shut.now a.gains.now v p k a.had w a.free.0 f c.if-free-eq0.true a.known c.if-known-had.false

pub loop-left-init : goal.loop-left-init
loop-left-init t c =
    let a = c.args in
    let q = c.requires in
    record { start = 0; rest = rest_start a.free.0 c.here-left.result.0 c.here-left.ensures; so_far = λ r ranked p k e v w f. upto_none r ranked p k a.known }

pub raise-highest-requires : goal.raise-highest-requires
raise-highest-requires t c =
    let a = c.args in
    let q = c.requires in
    let leads = c.look_ahead-ahead.ensures (a.slot.0 - 1) (omega arith) in
    let e = leads.had_is in
    let one = gain-low a.gains.now q.by_index c.first_rank-rank.result.0 (a.slot.0 - 1) in
    let fit = next_fit a.slot.0 a.free.0 a.had c.next_slot-next.result.0 c.look_ahead-ahead.result.free.0 c.look_ahead-ahead.result.had q.slot_nonzero
    c.if-free-eq0.false c.next_slot-next.ensures leads.free_low (omega arith) in
    (omega arith, (fit, q.by_index))

pub loop-left-preserved : goal.loop-left-preserved
loop-left-preserved t c =
    let a = c.args in
    let some = c.if-free-eq0.false in
    let v = c.loop-left.invariant in
    let t' = c.first_rank-rank.result.0 in
    let first = c.first_rank-rank.ensures in
    let next = c.look_ahead-ahead.result in
    let leads = c.look_ahead-ahead.ensures in
    let told = c.after_first-left.ensures.1 t' first in
    elim c.if-highest-ahead.branch [
      | then-highest-ahead x ↦
          subst (λ (n : ℕ). Rising a.shut.now a.gains.now a.slot.0 a.free.0 a.had a.known n c.after_first-left.result.0) (sym x.highest-is)
          (turned a.shut.now a.gains.now a.slot.0 a.free.0 a.had a.known _ _ v some t' first next leads c.after_first-left.result.0 x.raise-highest.result c.after_first-left.ensures.0 told
          (searched a.shut.now a.gains.now a.slot.0 a.free.0 a.had a.known _ _ v some t' first next leads c.next_slot-next.result.0 x.raise-highest.result c.next_slot-next.ensures x.raise-highest.ensures))
      | else-highest-ahead x ↦
          subst (λ (n : ℕ). Rising a.shut.now a.gains.now a.slot.0 a.free.0 a.had a.known n c.after_first-left.result.0) (sym x.highest-is)
          (turned a.shut.now a.gains.now a.slot.0 a.free.0 a.had a.known _ _ v some t' first next leads c.after_first-left.result.0 _ c.after_first-left.ensures.0 told (left_out a.shut.now a.gains.now a.slot.0 a.free.0 a.had a.known _ _ v some t' first next leads x.if-highest-ahead.false))
    ]

pub raise-highest-requires-then-highest-passed : goal.raise-highest-requires-then-highest-passed
raise-highest-requires-then-highest-passed t c =
    let a = c.args in
    let q = c.requires in
    let passes = c.pass_over-passed.ensures (a.slot.0 - 1) (omega arith) in
    let e = passes.had_is in
    let fit = next_fit a.slot.0 a.free.0 a.had c.next_slot-next.result.0 c.pass_over-passed.result.free.0 c.pass_over-passed.result.had q.slot_nonzero
    c.if-free-eq0.false c.next_slot-next.ensures passes.free_low (omega arith) in
    (omega arith, (fit, q.by_index))

pub returns-then-highest-passed : goal.returns-then-highest-passed
returns-then-highest-passed t c =
    let a = c.args in
    let q = c.requires in
    let inv = c.loop-left.invariant in
    λ r ranked p k e v w f.
    let some = c.if-free-eq0.false in
    let inside = slot_left r ranked a.shut.now a.gains.now v p k a.had w a.free.0 f some in
    let passes = c.pass_over-passed.ensures k e in
    upto_done r ranked a.shut.now a.gains.now v p k a.had w a.free.0 f inside a.known _ _ _ _ inv.rest c.loop-left-test.false (inv.so_far r ranked p k e v w f)
    (c.raise-highest-then-highest-passed.ensures r ranked p (suc k) (let n = c.next_slot-next.ensures in omega arith) v
    (pass_node r ranked a.shut.now a.gains.now v p k a.had w a.free.0 f inside c.pass_over-passed.result passes)
    (pass-free r ranked a.shut.now a.gains.now v p k a.had w a.free.0 f inside c.pass_over-passed.result passes))

pub returns-else-highest-passed : goal.returns-else-highest-passed
returns-else-highest-passed t c =
    let a = c.args in
    let q = c.requires in
    let inv = c.loop-left.invariant in
    λ r ranked p k e v w f.
    let some = c.if-free-eq0.false in
    let inside = slot_left r ranked a.shut.now a.gains.now v p k a.had w a.free.0 f some in
    let passes = c.pass_over-passed.ensures k e in
    upto_done r ranked a.shut.now a.gains.now v p k a.had w a.free.0 f inside a.known _ _ _ _ inv.rest c.loop-left-test.false (inv.so_far r ranked p k e v w f)
    (none_larger r (Agrees p (suc k)) _
    (λ x y ok.
    let most = pass-most r ranked a.shut.now a.gains.now v p k a.had w a.free.0 f inside c.pass_over-passed.result passes x y ok in
    let less = c.if-highest-passed.false in
    omega arith))
