-- `downward::list` meets its contract: one store enters the kind's own slot in the set of its other part. Assumes nothing.
use Prim.Native.Nat.{ℕ, suc}
use mathlib.Core.Bool.{◌&&◌, ◌||◌}
use mathlib.Core.Path.{◌∙◌, ap₂}
use native.Mathlib.Omega.{arith}
use lib.Dec.{eqb}
use lib.ListN.{get_or, length-set}
use Rattle.basis.specs.Bits.{bit_of}
use Rattle.downward.proofs.ListedLaws.{own-in_range, store_lists}
use Rattle.downward.proofs.list.Goals as goal

pub slot_set-own-requires : goal.slot_set-own-requires
slot_set-own-requires c = (let low = own-in_range c.args.kind c.requires.1 in omega arith)

pub returns : goal.returns
returns c =
    let listed = c.args.listed.now in
    let at = c.other_part-part.result.0 in
    let own = c.slot_set-own.result.0 in (
      simp length-set c.requires.0,
      λ part k l.
          store_lists listed at own c.own_slot.result.0
          (let size = c.requires.0 in omega (arith, c.other_part-part.ensures)) c.slot_set-own.ensures part k l
          ∙ ap₂ (λ (x y : ℕ). bit_of (get_or listed part 0) k || (eqb x part && eqb y (suc k))) c.other_part-part.ensures.0 c.own_slot.ensures,
    )
