-- The conditions that a limit and bars give: which they are, that they rise, pass 10 to 13 and are downward monotonic, and that they are few. Assumes nothing.
use Prim.Native.Nat.{ℕ, zero, suc, ◌+◌, ◌-◌, ◌*◌, ◌<◌, ◌≤◌}
use mathlib.Core.List.Memᴰ
use mathlib.Core.List.{List, Memᴰ}
use mathlib.Core.Logic.{◌⊎◌, inl, inr, ⊎_elim}
use mathlib.Core.Path.{◌≡◌, refl, sym, ap, subst}
use native.Mathlib.Nat.{eq-or-lt_of_le, le_of_suc-le-suc}
use native.Mathlib.Omega.{arith}
use lib.ListN.{length, get_or}
use Rattle.basis.specs.Rows.{row}
use Rattle.basis.specs.Rising.{Rising}
use Rattle.basis.proofs.RisingLaws.{mem-row, row-mem, mem-joined, joined-mem, rising-lower, rising_higher, rising-append, rising-joined, rising_steps, rising-at}
use Rattle.sheet.specs.Refusal.{fields_refusal}
use Rattle.sheet.specs.Accepted.{fields_number, number_of}
use Rattle.sheet.specs.Encoded.{Condition, on}
use Rattle.sheet.proofs.AcceptedLaws.{fields_back}
use Rattle.sheet.proofs.EncodedLaws.{blank_condition}
use Rattle.slot_terms.specs.SlotTerms.{bar_for, barred, beyond, ByLimit, ByBar, slot_terms_of}
use Rattle.slot_terms.specs.EngineTerms.{bars_to}
use Rattle.slot_terms.proofs.WriteLaws.{all_barred, bars-most}

-- the conditions of one own place and one other bidder, at places 1 to `count`, rise
pub places_rise : (owner own other count : ℕ) → count ≤ 16 →
    Rising number_of (fields_number owner own other 0) (fields_number owner own (suc other) 0) (row (λ k. on owner own other (suc k)) count)
unfolding number_of
places_rise owner own other count few =
    let list = row (λ k. on owner own other (suc k)) count in
    rising-lower number_of (fields_number owner own other 1) (fields_number owner own other 0) (fields_number owner own (suc other) 0) list (omega arith)
    (rising_higher number_of (fields_number owner own other 1) (fields_number owner own other (suc count)) (fields_number owner own (suc other) 0) list (omega arith)
    (rising_steps number_of (λ k. on owner own other (suc k)) (λ k. fields_number owner own other (suc k)) count (λ k b. (omega arith, omega arith))))

module _ (n m owner limit : ℕ) (bars : List ℕ) where
  -- a condition that the terms name
  abbrev pub GivenBy : Condition → Type 0
  GivenBy q = (q.owner ≡ owner) × (ByLimit m limit q ⊎ ByBar n bars q)

  -- the list has no others
  pub terms_where : (q : Condition) → Memᴰ q (slot_terms_of n m owner limit bars) → GivenBy q
  unfolding slot_terms_of barred beyond
  terms_where q at =
      ⊎_elim
      (λ (h : Memᴰ q (all_barred owner bars n)).
      let w = mem-joined (λ i. barred owner (suc i) (bar_for bars (suc i))) n q h in
      let v = mem-row (λ k. on owner 0 (suc w.0) (suc k)) (bar_for bars (suc w.0)) q w.2 in
      let inside = w.1 in
      let below = v.1 in
      subst GivenBy (sym v.2) (refl, inr (refl, omega arith, omega arith, omega arith, below)))
      (λ (h : Memᴰ q (beyond m owner limit)).
      let v = mem-row (λ k. on owner (limit + 1 + k) 0 0) (m - limit) q h in
      let below = v.1 in
      subst GivenBy (sym v.2) (refl, inl (omega arith, omega arith, refl, refl)))
      (Memᴰ.append_cases (all_barred owner bars n) at)

  -- and all of these
  barred-there : (other others : ℕ) → 0 < other → other ≤ n → 0 < others → others ≤ bar_for bars other →
      Memᴰ (on owner 0 other others) (slot_terms_of n m owner limit bars)
  unfolding slot_terms_of barred
  barred-there zero others a b c d = absurd (omega arith)
  barred-there (suc i) zero a b c d = absurd (omega arith)
  barred-there (suc i) (suc k) a b c d =
      Memᴰ.append_left (beyond m owner limit)
      (joined-mem (λ i. barred owner (suc i) (bar_for bars (suc i))) n i (on owner 0 (suc i) (suc k)) b
      (row-mem (λ k. on owner 0 (suc i) (suc k)) (bar_for bars (suc i)) k d))

  beyond-there : (own : ℕ) → limit < own → own ≤ m → Memᴰ (on owner own 0 0) (slot_terms_of n m owner limit bars)
  unfolding slot_terms_of beyond
  beyond-there own low high =
      let place : limit + 1 + (own - suc limit) ≡ own = omega arith in
      Memᴰ.append_right (all_barred owner bars n)
      (subst (λ (k : ℕ). Memᴰ (on owner k 0 0) (row (λ k. on owner (limit + 1 + k) 0 0) (m - limit))) place
      (row-mem (λ k. on owner (limit + 1 + k) 0 0) (m - limit) (own - suc limit) (omega arith)))

  pub terms-there : (q : Condition) → GivenBy q → Memᴰ q (slot_terms_of n m owner limit bars)
  terms-there q (mine, inl (low, high, none, nowhere)) =
      subst (λ (x : Condition). Memᴰ x (slot_terms_of n m owner limit bars)) (λ j. on (sym mine j) q.own (sym none j) (sym nowhere j)) (beyond-there q.own low high)
  terms-there q (mine, inr (any, some, within, place, bar)) =
      subst (λ (x : Condition). Memᴰ x (slot_terms_of n m owner limit bars)) (λ j. on (sym mine j) (sym any j) q.other q.others)
      (barred-there q.other q.others some within place bar)

  -- each own-place condition but the last place's has the one below it beside it
  pub terms-lower : (q : Condition) → Memᴰ q (slot_terms_of n m owner limit bars) → 0 < q.own → q.own < m →
      Memᴰ (on q.owner (suc q.own) q.other q.others) (slot_terms_of n m owner limit bars)
  terms-lower q at some less =
      let given = terms_where q at in
      ⊎_elim
      (λ (h : ByLimit m limit q).
      let low = h.0 in
      terms-there (on q.owner (suc q.own) q.other q.others) (given.0, inl (omega arith, less, h.2, h.3)))
      (λ (h : ByBar n bars q).
      absurd (let any = h.0 in omega arith))
      given.1

  -- where the numbers are small
  module _ (few : n ≤ 64) (short : m ≤ 16) (low : (j : ℕ) → 0 < j → j ≤ n → bar_for bars j ≤ m) where
    barred_rises : (i : ℕ) → i < n →
        Rising number_of (fields_number owner 0 (suc i) 0) (fields_number owner 0 (suc (suc i)) 0) (barred owner (suc i) (bar_for bars (suc i)))
    unfolding barred
    barred_rises i l = places_rise owner 0 (suc i) (bar_for bars (suc i)) (let most = low (suc i) (omega arith) l in omega arith)

    terms-rise : Rising number_of (fields_number owner 0 1 0) (fields_number owner (limit + 1 + (m - limit)) 0 0) (slot_terms_of n m owner limit bars)
    unfolding slot_terms_of beyond number_of
    terms-rise =
        let top = fields_number owner (limit + 1 + (m - limit)) 0 0 in
        rising-append number_of (fields_number owner 0 1 0) (fields_number owner 0 (suc n) 0) top (all_barred owner bars n) (beyond m owner limit)
        (rising-joined number_of (λ i. barred owner (suc i) (bar_for bars (suc i))) (λ i. fields_number owner 0 (suc i) 0) n barred_rises)
        (rising-lower number_of (fields_number owner (limit + 1 + 0) 0 0) (fields_number owner 0 (suc n) 0) top (beyond m owner limit) (omega arith)
        (rising_steps number_of (λ k. on owner (limit + 1 + k) 0 0) (λ k. fields_number owner (limit + 1 + k) 0 0) (m - limit) (λ k b. (omega arith, omega arith))))

    -- each is above every one before it
    pub terms-rising : (j k : ℕ) → j < k → k < length (slot_terms_of n m owner limit bars) →
        number_of (get_or (slot_terms_of n m owner limit bars) j blank_condition) < number_of (get_or (slot_terms_of n m owner limit bars) k blank_condition)
    terms-rising =
        rising-at number_of (fields_number owner 0 1 0) (fields_number owner (limit + 1 + (m - limit)) 0 0) (slot_terms_of n m owner limit bars) blank_condition
        terms-rise

    -- where the owner is one of the bidders, and nothing is barred against it
    module _ (some : 0 < owner) (within : owner ≤ n) (none : bar_for bars owner ≡ 0) where
      -- each passes 10 to 13
      pub terms-pass : (q : Condition) → GivenBy q → fields_refusal n m q.owner q.own q.other q.others ≡ 0
      terms-pass q (mine, inl (after, most, no_other, nowhere)) =
          fields_back n m q.owner q.own q.other q.others
          (record {
            some_owner = omega arith;
            most_owner = omega arith;
            most_other = omega arith;
            most_own = most;
            most_others = omega arith;
            different = λ e. absurd (omega arith);
            together = λ e. nowhere;
            together_back = λ e. no_other;
            not_empty = λ e f. absurd (omega arith);
          })
      terms-pass q (mine, inr (any, other, inside, place, bar)) =
          let most = low q.other other inside in
          fields_back n m q.owner q.own q.other q.others
          (record {
            some_owner = omega arith;
            most_owner = omega arith;
            most_other = inside;
            most_own = omega arith;
            most_others = omega arith;
            different = λ e. absurd (let same = ap (bar_for bars) (let p : q.other ≡ owner = omega arith in p) in omega arith);
            together = λ e. absurd (omega arith);
            together_back = λ e. absurd (omega arith);
            not_empty = λ e f. absurd (omega arith);
          })

      -- the bars of the first k bidders: 16 places each, and none for the owner
      small : (i : ℕ) → i < n → get_or bars i 0 ≤ 16
      unfolding bar_for
      small i l = let bar = low (suc i) (omega arith) l in omega arith

      bars-lower : (k : ℕ) → k ≤ n → owner ≤ k → bars_to bars k + 16 ≤ 16 * k
      unfolding bars_to
      bars-lower zero l h = absurd (omega arith)
      bars-lower (suc k) l h =
          ⊎_elim
          (λ (e : owner ≡ suc k). let rest = bars-most bars k (λ i b. small i (omega arith)) in let own : bar_for bars (suc k) ≡ 0 = subst (λ (j : ℕ). bar_for bars j ≡ 0) e none in omega arith)
          (λ (b : owner < suc k).
          let rest = bars-lower k (omega arith) (le_of_suc-le-suc b) in
          let bar = low (suc k) (omega arith) l in
          omega arith)
          (eq-or-lt_of_le h)

      pub bars-few : bars_to bars n + 16 ≤ 16 * n
      bars-few = bars-lower n (omega arith) within
