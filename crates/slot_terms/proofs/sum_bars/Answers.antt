-- `slot_terms::sum_bars` meets its contract: the list's sum is the bars together, and bars of at most 16 are at most 1,024. Assumes nothing.
use mathlib.Core.Path.{◌≡◌, ◌∙◌}
use native.Mathlib.Omega.{arith}
use lib.ListN.{length}
use Rattle.std.proofs.Common.{rules, sum}
use Rattle.slot_terms.proofs.WriteLaws.{bars-most, sum-bars}
use Rattle.slot_terms.proofs.sum_bars.Goals as goal

pub returns : goal.returns
returns c =
    let bars = c.args.bars.now in
    let all : c.sum.result ≡ sum bars = search rules in
    let together = all ∙ sum-bars bars in
    let few = c.requires.few in
    record { together = together; most = omega (arith, bars-most bars (length bars) c.requires.low) }
