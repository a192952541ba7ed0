-- `gain::gain_if` meets its contract, by the sign of the result; a product of an effect and a price is at most 10 to the 15th.
-- Assumes nothing.
use Rattle.std.proofs.Common.{ℕ, pos, neg_ℤ, to_z, of_z, w64, ◌*◌, ◌≤◌, ◌≡◌, ◌-ℤ◌, Bool}
use mathlib.Core.Path.{sym, ◌∙◌, ap, ap₂}
use native.Mathlib.Omega.{arith}
use Rattle.std.proofs.lemmas.Int.{ints}
use Rattle.gain.specs.Gain.{gain_if}
use Rattle.gain.proofs.SlotLaws.{gain_plus, gain_minus, product_fits}
use Rattle.gain.proofs.gain_if.Goals as goal

-- an effect times a price as a signed number, and taken from 0
plus : (a b : ℕ) → a ≤ 1_000_000 → b ≤ 1_000_000_000 → to_z w64 (a * b) ≡ pos (a * b)
plus a b l k = (let h : a * b ≤ 1_000_000_000_000_000 = product_fits a b 1_000_000 1_000_000_000 l k in omega (arith, ints))

minus : (a b : ℕ) → a ≤ 1_000_000 → b ≤ 1_000_000_000 → to_z w64 (of_z w64 (pos 0 -ℤ to_z w64 (a * b))) ≡ neg_ℤ (pos (a * b))
minus a b l k = (let h : a * b ≤ 1_000_000_000_000_000 = product_fits a b 1_000_000 1_000_000_000 l k in omega (arith, ints))

pub returns-then-broken : goal.returns-then-broken
unfolding gain_if
returns-then-broken c =
    minus c.from-clicks.result c.from.result (omega arith) (omega arith)
    ∙ ap₂ (λ (x y : ℕ). neg_ℤ (pos (x * y))) c.from-clicks.ensures c.from.ensures
    ∙ ap (λ (t : Bool). gain_if t c.args.effect c.args.worth c.args.paid) (sym c.if-broken.true)

pub returns-then-paid-worth : goal.returns-then-paid-worth
returns-then-paid-worth c =
    plus c.from-clicks.result c.from-then-paid-worth.result (omega arith) (omega arith)
    ∙ ap₂ (λ (x y : ℕ). pos (x * y)) c.from-clicks.ensures c.from-then-paid-worth.ensures
    ∙ sym (gain_plus c.args.effect c.args.worth c.args.paid c.if-paid-worth.true)
    ∙ ap (λ (t : Bool). gain_if t c.args.effect c.args.worth c.args.paid) (sym c.if-broken.false)

pub returns : goal.returns
returns c =
    minus c.from-clicks.result c.from-2.result (omega arith) (omega arith)
    ∙ ap₂ (λ (x y : ℕ). neg_ℤ (pos (x * y))) c.from-clicks.ensures c.from-2.ensures
    ∙ sym (gain_minus c.args.effect c.args.worth c.args.paid (omega arith))
    ∙ ap (λ (t : Bool). gain_if t c.args.effect c.args.worth c.args.paid) (sym c.if-broken.false)
