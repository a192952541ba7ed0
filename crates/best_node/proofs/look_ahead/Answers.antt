-- `best_node::look_ahead` meets its contract: each part is what its callee gives. Assumes nothing.
use Prim.Native.Nat.{ℕ, suc, ◌+◌, ◌-◌, ◌*◌, ◌^◌, ◌<◌}
use mathlib.Core.Path.{◌≡◌, sym, ◌∙◌, ap, subst}
use native.Mathlib.Omega.{arith}
use lib.ListN.{get_or}
use Rattle.basis.specs.Bits.{bit_of}
use Rattle.best_seats.specs.EngineSeats.{somewhere}
use Rattle.best_bound.specs.EngineBound.{add_after, gain_in}
use Rattle.best_node.proofs.LeadLaws.{byte_dropped, byte_low}
use mathlib.Core.Bool.{not, ◌&&◌}
use Rattle.best_node.proofs.look_ahead.Goals as goal

pub returns : goal.returns
unfolding gain_in
returns c k at-k =
    let a = c.args in
    let seat : c.seat_at-seat.result.0 ≡ 8 * k + a.rank.0 = (let e = c.seat_at-seat.ensures in omega arith) in
    let rest = c.later-rest.ensures in
    let open' = c.without.ensures in
    let shut = c.shut_by.ensures ∙ ap (λ (n : ℕ). get_or a.shut.now n 0) seat in
    record {
      free_is = λ z.
          ap (λ (x : ℕ). bit_of x z) rest
          ∙ byte_dropped c.without.result.0 z
          ∙ open'.0 (8 + z)
          ∙ ap (λ (x : ℕ). bit_of a.free.0 (8 + z) && not (bit_of x (8 + z))) shut;
      free_low = λ w l. subst (λ (x : ℕ). x < 2 ^ w) (sym rest) (byte_low c.without.result.0 w (open'.1 (8 + w) l));
      had_is = ap (λ (n : ℕ). a.had + n) (c.gain_at.ensures ∙ ap (λ (n : ℕ). get_or a.gains.now n 0) seat);
      most_is =
          ap (λ (n : ℕ). a.had + c.gain_at.result + n)
          (c.most_left.ensures
          ∙ ap (λ (n : ℕ). add_after (somewhere c.later-rest.result.0) (gain_in a.gains.now) n 16 8)
          (let e = c.next_slot.ensures in let n : c.next_slot.result.0 - 1 ≡ suc k = omega arith in n));
    }
