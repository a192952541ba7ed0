-- `floors::floor_asks` meets its contract: no floor asks nothing, and any other is divided as the definition says. Assumes nothing.
use mathlib.Core.Path.{refl, sym, ◌∙◌, ap}
use Rattle.choice.specs.Critical.{floor_asks}
use Rattle.choice.proofs.CriticalLaws.{zero_asks}
use Rattle.floors.proofs.floor_asks.Goals as goal

pub returns-then-floor-eq0 : goal.returns-then-floor-eq0
returns-then-floor-eq0 c =
    let a = c.args in
    sym (ap (floor_asks a.tick) c.if-floor-eq0.true ∙ zero_asks a.tick c.requires.0)

pub returns : goal.returns
unfolding floor_asks
returns c = refl
