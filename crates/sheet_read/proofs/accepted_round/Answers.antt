use Prim.Native.Nat.{ℕ, suc, ◌+◌, ◌*◌, ◌<◌}
use mathlib.Core.List.{List}
use mathlib.Core.Path.{◌≡◌, sym, ◌∙◌, ap}
use native.Mathlib.Nat.{le_antisymm}
use native.Mathlib.Numerals.{add-one}
use native.Mathlib.Omega.{arith}
use lib.ListN.{replicate, set}
use Rattle.basis.specs.Bytes.{word32_at}
use Rattle.basis.specs.Rows.{padded}
use Rattle.basis.proofs.RowLaws.{padded-none, padded-next}
use Rattle.sheet.specs.declared.Constraint.{Constraint}
use Rattle.sheet.specs.Sheet.{bidder_count, slot_count, effect_field, bid_field}
use Rattle.sheet.specs.Round.{blank, constraint_field, round_of}
use Rattle.sheet_read.proofs.RoomLaws.{room}
use Rattle.sheet_read.proofs.WordLaws.{word_constraint}
use Rattle.sheet_read.proofs.accepted_round.Invariants.{read_to, round_with}
use Rattle.sheet_read.proofs.accepted_round.Goals as goal

-- one more constraint read and stored
one_more : (s : List ℕ) (k : ℕ) (q : Constraint) → k < 1024 → q ≡ constraint_field s k →
    round_with s (set (padded (constraint_field s) k 1024 blank) k q) ≡ read_to s (suc k)
one_more s k q l e =
    ap (λ (x : Constraint). round_with s (set (padded (constraint_field s) k 1024 blank) k x)) e
    ∙ ap (round_with s) (padded-next (constraint_field s) k 1024 blank l)

pub bounds-sheet-5 : goal.bounds-sheet-5
bounds-sheet-5 c = omega (arith, room _ c.requires)

pub bounds-sheet-6 : goal.bounds-sheet-6
bounds-sheet-6 c = omega (arith, room _ c.requires)

pub word16-used-requires : goal.word16-used-requires
word16-used-requires c = omega (arith, room _ c.requires)

pub effects_start-start-requires : goal.effects_start-start-requires
effects_start-start-requires c = omega (arith, room _ c.requires)

pub overflow_add-bids_start : goal.overflow_add-bids_start
overflow_add-bids_start c = omega (arith, room _ c.requires)

pub overflow_add-constraints_start : goal.overflow_add-constraints_start
overflow_add-constraints_start c = omega (arith, room _ c.requires)

pub tick_of-tick-requires : goal.tick_of-tick-requires
tick_of-tick-requires c = omega (arith, room _ c.requires)

pub read_words-effects-requires : goal.read_words-effects-requires
read_words-effects-requires c = omega (arith, room _ c.requires)

pub read_words-bids-requires : goal.read_words-bids-requires
read_words-bids-requires c = omega (arith, room _ c.requires)

pub word16-requires : goal.word16-requires
word16-requires c = omega (arith, room _ c.requires)

pub loop-k-init : goal.loop-k-init
unfolding effect_field bid_field
loop-k-init c =
    let s = c.args.sheet.now in
    let start = c.effects_start-start.ensures in
    let words = λ (start k n : ℕ). padded (λ i. word32_at s (start + 4 * i)) k n 0 in
    λ i. record {
      bidders = bidder_count s;
      slots = slot_count s;
      used = c.word16-used.ensures.0 i;
      tick = c.tick_of-tick.ensures i;
      version = c.word16.ensures.0 i;
      effects = (c.read_words-effects.ensures ∙ ap (λ (start : ℕ). words start (slot_count s) 16) start) i;
      floors = replicate 16 0;
      bids = (c.read_words-bids.ensures ∙ ap (λ (start : ℕ). words (start + 4 * slot_count s) (bidder_count s) 64) start) i;
      constraints = (ap (replicate 1024) c.blank_constraint.ensures ∙ sym (padded-none (constraint_field s) 1024 blank)) i;
    }

pub constraint_at-requires : goal.constraint_at-requires
constraint_at-requires c = omega (arith, room _ c.requires)

pub bounds-round-k : goal.bounds-round-k
bounds-round-k c = omega (arith, room _ c.requires)

pub loop-k-preserved : goal.loop-k-preserved
loop-k-preserved c =
    let s = c.args.sheet.now in
    let k = c.loop-k.k in
    let counts = room s c.requires in
    rw (c.loop-k.invariant, add-one k) (one_more s k _ (omega arith) c.constraint_at.ensures)

pub returns : goal.returns
unfolding round_of
returns c =
    let end : c.loop-k.k ≡ c.word16-used.result = omega arith in
    c.loop-k.invariant ∙ ap (read_to c.args.sheet.now) (end ∙ c.word16-used.ensures.0)
