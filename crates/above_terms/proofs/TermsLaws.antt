-- The conditions that a set of rivals gives: which they are, that they rise, pass 10 to 13 and are downward monotonic. Assumes nothing.
use Prim.Native.Nat.{ℕ, zero, suc, ◌-◌, ◌<◌, ◌≤◌}
use mathlib.Core.Bool.{Bool, true, false, cond}
use mathlib.Core.List.{List, [], Memᴰ}
use mathlib.Core.Path.{◌≡◌, refl, sym, ◌∙◌, ap, subst}
use native.Mathlib.Omega.{arith}
use lib.ListN.{length, get_or}
use Rattle.basis.specs.Rising.{Rising}
use Rattle.basis.specs.Rows.{joined}
use Rattle.basis.proofs.RisingLaws.{mem-row, row-mem, mem-joined, joined-mem, mem_when, rising-lower, rising_higher, rising-joined, rising-at}
use Rattle.basis.proofs.TestLaws.{not_both}
use Rattle.sheet.specs.Refusal.{fields_refusal}
use Rattle.sheet.specs.Accepted.{fields_number, number_of}
use Rattle.sheet.specs.Encoded.{Condition, on}
use Rattle.sheet.proofs.AcceptedLaws.{fields_back}
use Rattle.sheet.proofs.EncodedLaws.{blank_condition}
use Rattle.slot_terms.proofs.TermsLaws.{places_rise}
use Rattle.bidder_sets.specs.BidderSets.{in_set}
use Rattle.above_terms.specs.AboveTerms.{RivalAbove, pairs_at, above_terms_of}

module _ (n m owner : ℕ) (rivals : List ℕ) where
  -- a condition that the set gives
  abbrev pub GivenBy : Condition → Type 0
  GivenBy q = (q.owner ≡ owner) × RivalAbove m rivals q

  -- those of one bidder at one own place, where it is a rival
  abbrev pairs_if : ℕ → ℕ → List Condition
  pairs_if k j = cond (in_set rivals (suc j)) (pairs_at owner (suc k) (suc j)) []

  -- the list has no others
  pub terms_where : (q : Condition) → Memᴰ q (above_terms_of n m owner rivals) → GivenBy q
  unfolding above_terms_of pairs_at
  terms_where q at =
      let a = mem-joined (λ k. joined (pairs_if k) n) m q at in
      let b = mem-joined (pairs_if a.0) n q a.2 in
      let c = mem_when (in_set rivals (suc b.0)) (pairs_at owner (suc a.0) (suc b.0)) q b.2 in
      let d = mem-row (λ l. on owner (suc a.0) (suc b.0) (suc l)) (suc a.0 - 1) q c.1 in
      let own = a.1 in
      let above = d.1 in
      subst GivenBy (sym d.2) (refl, (c.0, omega arith, omega arith, omega arith))

  -- and all of these, where the members of the set are bidders
  module _ (within : (b : ℕ) → in_set rivals b ≡ true → (0 < b) × (b ≤ n)) where
    pair_there : (own other others : ℕ) → in_set rivals other ≡ true → 0 < other → other ≤ n → 0 < others → others < own → own ≤ m →
        Memᴰ (on owner own other others) (above_terms_of n m owner rivals)
    unfolding above_terms_of pairs_at
    pair_there zero other others t a b c d e = absurd (omega arith)
    pair_there (suc k) zero others t a b c d e = absurd (omega arith)
    pair_there (suc k) (suc j) zero t a b c d e = absurd (omega arith)
    pair_there (suc k) (suc j) (suc l) t a b c d e =
        joined-mem (λ k. joined (pairs_if k) n) m k (on owner (suc k) (suc j) (suc l)) e
        (joined-mem (pairs_if k) n j (on owner (suc k) (suc j) (suc l)) b
        (subst (λ (s : Bool). Memᴰ (on owner (suc k) (suc j) (suc l)) (cond s (pairs_at owner (suc k) (suc j)) [])) (sym t)
        (row-mem (λ l. on owner (suc k) (suc j) (suc l)) (suc k - 1) l (omega arith))))

    pub terms-there : (q : Condition) → GivenBy q → Memᴰ q (above_terms_of n m owner rivals)
    terms-there q (mine, (rival, place, above, most)) =
        let bidder = within q.other rival in
        subst (λ (x : Condition). Memᴰ x (above_terms_of n m owner rivals)) (λ j. on (sym mine j) q.own q.other q.others)
        (pair_there q.own q.other q.others rival bidder.0 bidder.1 place above most)

    -- each but the last place's has the one below it beside it
    pub terms-lower : (q : Condition) → Memᴰ q (above_terms_of n m owner rivals) → 0 < q.own → q.own < m →
        Memᴰ (on q.owner (suc q.own) q.other q.others) (above_terms_of n m owner rivals)
    terms-lower q at some less =
        let given = terms_where q at in
        let pair = given.1 in
        let above = pair.2 in
        terms-there (on q.owner (suc q.own) q.other q.others) (given.0, (pair.0, pair.1, omega arith, less))

    -- each passes 10 to 13, where the owner is one of the bidders and not in its own set
    pub terms-pass : m ≤ 16 → 0 < owner → owner ≤ n → in_set rivals owner ≡ false → (q : Condition) → GivenBy q →
        fields_refusal n m q.owner q.own q.other q.others ≡ 0
    terms-pass short some most none q (mine, (rival, place, above, low)) =
        let bidder = within q.other rival in
        let first = bidder.0 in
        let last = bidder.1 in
        fields_back n m q.owner q.own q.other q.others
        (record {
          some_owner = omega arith;
          most_owner = omega arith;
          most_other = last;
          most_own = low;
          most_others = omega arith;
          different = λ e. absurd (not_both (ap (in_set rivals) (let p : owner ≡ q.other = omega arith in p) ∙ rival) none);
          together = λ e. absurd (omega arith);
          together_back = λ e. absurd (omega arith);
          not_empty = λ e f. absurd (omega arith);
        })

  -- They rise, where the numbers are small.
  module _ (few : n ≤ 64) (short : m ≤ 16) where
    pairs_rise : (k j : ℕ) → k < m → Rising number_of (fields_number owner (suc k) (suc j) 0) (fields_number owner (suc k) (suc (suc j)) 0) (pairs_if k j)
    unfolding pairs_at
    pairs_rise k j l = by_test (in_set rivals (suc j))
      where
        lo : ℕ
        lo = fields_number owner (suc k) (suc j) 0

        hi : ℕ
        hi = fields_number owner (suc k) (suc (suc j)) 0

        by_test : (t : Bool) → Rising number_of lo hi (cond t (pairs_at owner (suc k) (suc j)) [])
        by_test true = places_rise owner (suc k) (suc j) (suc k - 1) (omega arith)
        by_test false = omega arith

    place_rises : (k : ℕ) → k < m → Rising number_of (fields_number owner (suc k) 0 0) (fields_number owner (suc (suc k)) 0 0) (joined (pairs_if k) n)
    place_rises k l =
        let list = joined (pairs_if k) n in
        rising-lower number_of (fields_number owner (suc k) 1 0) (fields_number owner (suc k) 0 0) (fields_number owner (suc (suc k)) 0 0) list (omega arith)
        (rising_higher number_of (fields_number owner (suc k) 1 0) (fields_number owner (suc k) (suc n) 0) (fields_number owner (suc (suc k)) 0 0) list (omega arith)
        (rising-joined number_of (pairs_if k) (λ j. fields_number owner (suc k) (suc j) 0) n (λ j h. pairs_rise k j l)))

    pub terms-rise : Rising number_of (fields_number owner 1 0 0) (fields_number owner (suc m) 0 0) (above_terms_of n m owner rivals)
    unfolding above_terms_of
    terms-rise = rising-joined number_of (λ k. joined (pairs_if k) n) (λ k. fields_number owner (suc k) 0 0) m place_rises

    -- each is above every one before it
    pub terms-rising : (j k : ℕ) → j < k → k < length (above_terms_of n m owner rivals) →
        number_of (get_or (above_terms_of n m owner rivals) j blank_condition) < number_of (get_or (above_terms_of n m owner rivals) k blank_condition)
    terms-rising = rising-at number_of (fields_number owner 1 0 0) (fields_number owner (suc m) 0 0) (above_terms_of n m owner rivals) blank_condition terms-rise
