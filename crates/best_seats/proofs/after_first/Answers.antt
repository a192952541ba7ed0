-- `best_seats::after_first` meets its contract: the word and one less have all bits in common but the first. Assumes nothing.
use Prim.Native.Nat.{ℕ, ◌-◌}
use mathlib.Core.Bool.{not, ◌&&◌}
use mathlib.Core.Path.{◌∙◌, ap}
use native.Mathlib.Nat.{lt_of_lt_of_le}
use native.Mathlib.Omega.{arith}
use lib.Bits.{and_le_r}
use lib.Dec.{eqb}
use Rattle.basis.specs.Bits.{bit_of}
use Rattle.basis.proofs.BitLaws.{lowest_dropped}
use Rattle.best_seats.proofs.SeatLaws.{first-here, first-same}
use Rattle.best_seats.proofs.after_first.Goals as goal

pub returns : goal.returns
returns c =
    let x = c.args.ranks.0 in
    let p = c.requires in (
      (let less = and_le_r x (x - 1) in let some = p.0 in omega arith),
      λ rank f i.
          lowest_dropped 64 x (lt_of_lt_of_le p.1 (omega arith)) p.0 i
          ∙ ap (λ (n : ℕ). bit_of x i && not (eqb i n)) (first-same x _ _ (first-here x p.0 p.1) f),
    )
