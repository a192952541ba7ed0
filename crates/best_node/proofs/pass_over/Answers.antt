-- `best_node::pass_over` meets its contract: each part is what its callee gives. Assumes nothing.
use Prim.Native.Nat.{ℕ, suc, ◌+◌, ◌-◌, ◌^◌, ◌<◌}
use mathlib.Core.Path.{◌≡◌, refl, sym, ◌∙◌, ap, subst}
use native.Mathlib.Omega.{arith}
use Rattle.basis.specs.Bits.{bit_of}
use Rattle.best_seats.specs.EngineSeats.{somewhere}
use Rattle.best_bound.specs.EngineBound.{add_after, gain_in}
use Rattle.best_node.proofs.LeadLaws.{byte_dropped, byte_low}
use Rattle.best_node.proofs.pass_over.Goals as goal

pub returns : goal.returns
returns c k at-k =
    let a = c.args in
    let rest = c.later-rest.ensures in
    record {
      free_is = λ z. ap (λ (x : ℕ). bit_of x z) rest ∙ byte_dropped a.free.0 z;
      free_low = λ w l. subst (λ (x : ℕ). x < 2 ^ w) (sym rest) (byte_low a.free.0 w l);
      had_is = refl;
      most_is =
          ap (λ (n : ℕ). a.had + n)
          (c.most_left.ensures
          ∙ ap (λ (n : ℕ). add_after (somewhere c.later-rest.result.0) (gain_in a.gains.now) n 16 8)
          (let e = c.next_slot.ensures in let n : c.next_slot.result.0 - 1 ≡ suc k = omega arith in n));
    }
