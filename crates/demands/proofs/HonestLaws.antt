-- Demand 3 over the calls, with floors and without: what the answers' memory holds is what the calls below return, of which `honesty` speaks. Assumes nothing.
use mathlib.Core.Bool.{Bool, true, false}
use mathlib.Core.List.{List}
use mathlib.Core.Path.{◌≡◌, refl, sym, ◌∙◌, ap, subst, subst₂}
use native.Mathlib.Omega.{arith}
use Prim.Native.Nat.{ℕ, ◌<◌, ◌≤◌}
use lib.IntN.{ℤ}
use lib.ListN.{replicate}
use lib.Signed.{◌≤ℤ◌}
use Rattle.basis.proofs.FirstLaws.{answered-gives}
use Rattle.sheet.specs.Sheet.{bidder_count, bid_field}
use Rattle.sheet.specs.Refusal.{Accepted}
use Rattle.sheet.specs.Round.{round_of, with_floors}
use Rattle.downward.specs.Downward.{downward}
use Rattle.downward.specs.Call.{test_refusal, tested_for, tested_of}
use Rattle.gain.specs.Gain.{gain_of}
use Rattle.gain.specs.Call.{gain_floors_refusal, gained_for, gained_floors_of}
use Rattle.downward.proofs.DownwardLaws.{tested-yes}
use Rattle.honesty.specs.Honesty.{DifferOnlyInList, Honesty}
use Rattle.honesty.proofs.Honesty.{honesty}
use Rattle.pas.specs.Calls.{yes_number, DownwardGiven, GainGiven, GainFloorsGiven}
use Rattle.pas.proofs.AnswerLaws.{gain-number, gain-answer}
use Rattle.demands.specs.Demands.{no_floors, Floored, DemandThree}
use Rattle.demands.proofs.FloorsLaws.{passed, none-floored, gain_without}

-- 1 is yes
one_yes : (t : Bool) → 1 ≡ yes_number t → t ≡ true
unfolding yes_number
one_yes true e = refl
one_yes false e = absurd (omega arith)

-- the test below answered yes
answered-yes : (s : List ℕ) (i before : ℕ) → DownwardGiven s i before 0 1 → tested_of s i ≡ record { refusal = 0; yes = true }
unfolding tested_of tested_for
answered-yes s i before given =
    let number = sym given.number in
    ap (λ (k : ℕ). tested_for k s i) number
    ∙ (λ j. record { refusal = 0; yes = one_yes (downward (round_of s) i) (given.written ∙ sym (answered-gives (test_refusal s i) (yes_number (downward (round_of s) i)) before number)) j })

-- the gain call below was not refused, so its gain is what was written
gain-given : (f s t : List ℕ) (i worth : ℕ) (before : ℤ) (answer : ℕ) (after : ℤ) → GainFloorsGiven f s t i worth before answer after →
    (gained_floors_of f s t i worth).refusal ≡ 0 → (answer ≡ 0) × ((gained_floors_of f s t i worth).gain ≡ after)
unfolding gained_floors_of
gain-given f s t i worth before answer after given none =
    let k = gain_floors_refusal f s t i worth in
    let r = with_floors (round_of s) f in
    let number : gain_floors_refusal f s t i worth ≡ 0 = sym (gain-number k r t i worth before (gained_for k r t i worth) refl) ∙ none in (
      given.number ∙ number,
      gain-answer k r t i worth before (gained_for k r t i worth) refl number
          ∙ sym (given.written ∙ sym (answered-gives k (gain_of r (round_of t) i worth) before number)),
    )

-- with floors, whether the list was tested or not
pub honest_list : (f honest other : List ℕ) (i worth : ℕ) → Floored f honest → Accepted other → DifferOnlyInList i honest other →
    0 < i → i ≤ bidder_count other → downward (round_of other) i ≡ true → bid_field honest i ≤ worth → worth ≤ 1_000_000_000 →
    (x y : ℤ) (n n' : ℕ) (g g' : ℤ) → GainFloorsGiven f honest honest i worth x n g → GainFloorsGiven f other honest i worth y n' g' →
    (n ≡ 0) × (n' ≡ 0) × (g' ≤ℤ g)
unfolding Honesty
honest_list f honest other i worth right ok' d some most list low high x y n n' g g' first second =
    let pays = honesty f honest other i worth right.accepted ok' (passed f honest right) d some most list low high in
    let one = gain-given f honest honest i worth x n g first pays.0 in
    let two = gain-given f other honest i worth y n' g' second pays.1 in
    (one.0, two.0, subst₂ (λ (v w : ℤ). v ≤ℤ w) two.1 one.1 pays.2)

-- where it was
pub honest-with : (f honest other : List ℕ) (i worth : ℕ) → Floored f honest → Accepted other → DifferOnlyInList i honest other →
    (before : ℕ) → DownwardGiven other i before 0 1 → bid_field honest i ≤ worth → worth ≤ 1_000_000_000 →
    (x y : ℤ) (n n' : ℕ) (g g' : ℤ) → GainFloorsGiven f honest honest i worth x n g → GainFloorsGiven f other honest i worth y n' g' →
    (n ≡ 0) × (n' ≡ 0) × (g' ≤ℤ g)
honest-with f honest other i worth right ok' d before test =
    let tested = tested-yes other i (answered-yes other i before test) in
    honest_list f honest other i worth right ok' d tested.0 tested.1.0 tested.1.1

-- without floors they are 0: so of every list
pub honest-without : (honest other : List ℕ) (i worth : ℕ) → Accepted honest → Accepted other → DifferOnlyInList i honest other →
    0 < i → i ≤ bidder_count other → downward (round_of other) i ≡ true → bid_field honest i ≤ worth → worth ≤ 1_000_000_000 →
    (x y : ℤ) (n n' : ℕ) (g g' : ℤ) → GainGiven honest honest i worth x n g → GainGiven other honest i worth y n' g' →
    (n ≡ 0) × (n' ≡ 0) × (g' ≤ℤ g)
honest-without honest other i worth ok ok' d some most list low high x y n n' g g' first second =
    honest_list (no_floors honest) honest other i worth (none-floored honest ok) ok' d some most list low high x y n n' g g'
    ((gain_without honest honest i worth x n g).0 first)
    (subst (λ (m : ℕ). GainFloorsGiven (replicate m 0) other honest i worth y n' g') (sym d.same_m) ((gain_without other honest i worth y n' g').0 second))

-- and of one that was tested
pub honest_demand : DemandThree
unfolding DemandThree
honest_demand honest other i worth ok ok' d before test =
    let tested = tested-yes other i (answered-yes other i before test) in
    honest-without honest other i worth ok ok' d tested.0 tested.1.0 tested.1.1
