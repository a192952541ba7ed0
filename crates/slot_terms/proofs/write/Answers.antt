-- `slot_terms::write` meets its contract: each refusal comes before anything is written, and what is written are the conditions of the bars and, where they
-- end, those of the limit. Assumes nothing.
use Prim.Native.Nat.{◌+◌, ◌-◌, ◌*◌}
use mathlib.Core.Path.{◌≡◌}
use native.Mathlib.Omega.{arith}
use Rattle.std.proofs.lemmas.Result.{err_from_is_err_and}
use Rattle.refusal.proofs.NumberLaws.{number_of-ne0}
use Rattle.slot_terms.proofs.RefusalLaws.{fit_low}
use Rattle.slot_terms.proofs.WriteLaws.{owner-refused, profile_refused, buffer_short, terms-written}
use Rattle.slot_terms.proofs.write.Goals as goal

pub returns-in_err-check_owner : goal.returns-in_err-check_owner
returns-in_err-check_owner c =
    let a = c.args in
    let p = err_from_is_err_and c.from_residual.result c.from_residual.ensures.1 in
    rw (p.1, p.2) (owner-refused a.n a.m a.owner a.limit a.bars.now a.res.now _ c.in_err-check_owner.ensures.number (number_of-ne0 _))

pub returns-in_err-check_profile : goal.returns-in_err-check_profile
returns-in_err-check_profile c =
    let a = c.args in
    let p = err_from_is_err_and c.from_residual-in_err-check_profile.result c.from_residual-in_err-check_profile.ensures.1 in
    rw (p.1, p.2) (profile_refused a.n a.m a.owner a.limit a.bars.now a.res.now c.in_ok-check_owner.ensures.fits _ c.in_err-check_profile.ensures.number (number_of-ne0 _))

pub sum_bars-by_bars-requires-clause-low : goal.sum_bars-by_bars-requires-clause-low
sum_bars-by_bars-requires-clause-low c = fit_low c.in_ok-check_profile.ensures.fits

pub returns-then-res-bars_length : goal.returns-then-res-bars_length
returns-then-res-bars_length c =
    let a = c.args in
    buffer_short a.n a.m a.owner a.limit a.bars.now a.res.now c.in_ok-check_profile.ensures.fits (omega arith)

pub put_all_barred-requires-clause-low : goal.put_all_barred-requires-clause-low
put_all_barred-requires-clause-low c = fit_low c.in_ok-check_profile.ensures.fits

pub returns : goal.returns
returns c =
    let a = c.args in
    let as_many : a.m + 1 - (a.limit + 1) ≡ a.m - a.limit = omega arith in
    let at = 4 * c.sum_bars-by_bars.result in
    terms-written a.n a.m a.owner a.limit a.bars.now a.res.now c.in_ok-check_profile.ensures.fits _ _ at _ _ _
    (omega arith)
    (omega arith)
    (omega arith)
    c.put_all_barred.ensures
    c.word_of-below.ensures
    as_many
    c.put_run.ensures
