use Prim.Native.Nat.{ℕ}
use mathlib.Core.List.{List}
use mathlib.Core.Path.{◌≡◌, sym, ◌∙◌, ap}
use native.Mathlib.Numerals.{add-one}
use native.Mathlib.Omega.{arith}
use lib.ListN.{length, get_or}
use Rattle.std.proofs.lemmas.List.{length-take-le, get_or-take}
use Rattle.basis.specs.Rows.{padded}
use Rattle.basis.proofs.RowLaws.{padded-none, padded-next, length-padded, get_d_padded}
use Rattle.floors.proofs.asked.Invariants.{asks_at}
use Rattle.floors.proofs.asked.Goals as goal

pub loop-k-init : goal.loop-k-init
loop-k-init c = sym (padded-none _ 16 0)

pub loop-k-preserved : goal.loop-k-preserved
loop-k-preserved c =
    let a = c.args in
    let v = c.loop-k in
    let size = length-take-le a.slots a.floors.now c.requires.1.enough in
    let floor = get_or-take a.slots a.floors.now v.k 0 (omega arith) in
    rw (v.invariant, c.floor_asks.ensures, floor, add-one) (padded-next (asks_at a.tick a.floors.now) v.k 16 0 (omega arith))

pub returns : goal.returns
returns c =
    let a = c.args in
    let p = c.requires in
    let size = length-take-le a.slots a.floors.now p.1.enough in
    let f = asks_at a.tick a.floors.now in
    let whole = c.loop-k.invariant ∙ ap (λ (n : ℕ). padded f n 16 0) (let e : c.loop-k.k ≡ a.slots = omega arith in e) in
    record {
      proper = p.1;
      enough = (let long = ap length whole ∙ length-padded f a.slots 16 0 p.0 in omega arith);
      asks_are = λ k l. ap (λ (list : List ℕ). get_or list k 0) whole ∙ get_d_padded f a.slots 16 0 0 k l;
    }
