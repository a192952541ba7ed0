-- `slot_terms::check_profile` meets its contract: past its tests the limit and the bars fit. Assumes nothing.
use mathlib.Core.Path.{◌≡◌}
use native.Mathlib.Omega.{arith}
use Rattle.std.proofs.lemmas.Bool.Decides.{nat_tests}
use Rattle.slot_terms.specs.SlotTerms.{profile_refusal}
use Rattle.slot_terms.proofs.RefusalLaws.{bar_at, fits_terms}
use Rattle.slot_terms.proofs.check_profile.Goals as goal

pub returns-clause-fits : goal.returns-clause-fits
unfolding profile_refusal
returns-clause-fits c =
    let a = c.args in
    let none : profile_refusal a.n a.m a.owner a.limit a.bars.now ≡ 0 = grind (arith, nat_tests, bar_at) in
    fits_terms a.n a.m a.owner a.limit a.bars.now c.requires none
