-- A call's answer is handed on through lent memory: its number says whether that is written. Assumes nothing.
use Prim.Native.Nat.{ℕ, zero, suc}
use mathlib.Core.Bool.{Bool, false}
use mathlib.Core.List.{List}
use mathlib.Core.Path.{◌≡◌, refl, sym, ◌∙◌, ap}
use lib.IntN.{ℤ}
use lib.ListN.{length}
use Rattle.std.specs.Prelude.{Result, Ok, Err}
use Rattle.refusal.specs.declared.Refusal.{Refusal}
use Rattle.refusal.specs.Numbers.{number_of, number_in}
use Rattle.basis.specs.First.{unless_refused}
use Rattle.basis.proofs.FirstLaws.{refused_leaves, answered-gives}
use Rattle.sheet.specs.declared.Round.{Round}
use Rattle.sheet.specs.Refusal.{refusal_of}
use Rattle.sheet.specs.Round.{round_of, with_floors}
use Rattle.downward.specs.Downward.{downward}
use Rattle.downward.specs.Call.{Tested, test_refusal, tested_for, tested_of}
use Rattle.gain.specs.Gain.{gain_of}
use Rattle.gain.specs.Call.{Gained, gain_refusal, gain_floors_refusal, gained_for, gained_of, gained_floors_of}
use Rattle.auction.specs.Allowed.{total}
use Rattle.best_page.specs.BestPage.{best_page_of}
use Rattle.best_search.specs.Call.{Chosen, best_refusal, best_floors_refusal, chosen_for, BestGiven, BestFloorsGiven}
use Rattle.owner_part.specs.OwnerPart.{Bounds, part_refusal, bytes_before, part_length, bounds_for, bounds_of}
use Rattle.owner_part.proofs.CallLaws.{given-bounds}
use Rattle.canonical.specs.Canonical.{Rewritten, canonical_sheet, canonical_refusal, CanonicalWritten}
use Rattle.slot_terms.specs.SlotTerms.{Written, slot_terms_of, slot_terms_refusal, SlotTermsWritten}
use Rattle.above_terms.specs.AboveTerms.{above_terms_of, above_terms_refusal, AboveTermsWritten}
use Rattle.share_page.specs.SharePage.{Shared, can_share, share_refusal, PageShared}
use Rattle.loss_bound.specs.LossBound.{Loss, loss_factor, LossBounded}
use Rattle.pas.specs.EngineTold.{answer_in, yes_in}
use Rattle.pas.specs.Calls.{
  yes_number,
  DownwardGiven,
  GainGiven,
  GainFloorsGiven,
  BestPageGiven,
  BestFloorsPageGiven,
  PartGiven,
  CanonicalGiven,
  SlotTermsGiven,
  AboveTermsGiven,
  SharePageGiven,
  LossBoundGiven,
}

-- what `tell` makes of a result, by its two cases
pub told : {A : Type 0} (r : Result A Refusal) (before : A) (P : ℕ → A → Type 0) → ((v : A) → r ≡ Ok v → P 0 v) → ((e : Refusal) → r ≡ Err e → P (number_of e) before) → P (number_in r) (answer_in r before)
told (Ok v) before P ok err = ok v refl
told (Err e) before P ok err = err e refl

-- and of a yes or no
pub told_yes : (r : Result Bool Refusal) (before : ℕ) (P : ℕ → ℕ → Type 0) → ((v : Bool) → r ≡ Ok v → P 0 (yes_number v)) → ((e : Refusal) → r ≡ Err e → P (number_of e) before) →
    P (number_in (yes_in r)) (answer_in (yes_in r) before)
told_yes (Ok v) before P ok err = ok v refl
told_yes (Err e) before P ok err = err e refl

-- an answered call's memory holds what is written there
answered : {A : Type 0} (k n : ℕ) (answer before written : A) → n ≡ k → n ≡ 0 → (k ≡ 0 → written ≡ answer) → written ≡ unless_refused k answer before
answered k n answer before written e z h = let none : k ≡ 0 = sym e ∙ z in h none ∙ answered-gives k answer before none

-- also a size that the call below gives, with 0 where it is refused
sized : (k n size before written : ℕ) → n ≡ k → n ≡ 0 → written ≡ unless_refused k size 0 → written ≡ unless_refused k size before
sized k n size before written e z h = answered k n size before written e z (λ none. h ∙ sym (answered-gives k size 0 none))

-- what each call below returns: its number, and where that is 0 its answer
tested-number : (k : ℕ) (s : List ℕ) (i : ℕ) → (tested_for k s i).refusal ≡ k
unfolding tested_for
tested-number zero s i = refl
tested-number (suc k) s i = refl

module _ (s : List ℕ) (i before : ℕ) (t : Tested) (e : t ≡ tested_of s i) where
  test-number : t.refusal ≡ test_refusal s i
  unfolding tested_of
  test-number = ap (λ (x : Tested). x.refusal) e ∙ tested-number (test_refusal s i) s i

  test-answer : test_refusal s i ≡ 0 → t.yes ≡ downward (round_of s) i
  unfolding tested_of tested_for
  test-answer z = ap (λ (x : Tested). x.yes) e ∙ ap (λ (n : ℕ). (tested_for n s i).yes) z

  pub test-refused : (t.refusal ≡ 0 → ⊥) → DownwardGiven s i before t.refusal before
  test-refused h = record { number = test-number; written = refused_leaves (test_refusal s i) t.refusal (yes_number (downward (round_of s) i)) before test-number h }

  pub test-answered : t.refusal ≡ 0 → (written : ℕ) → written ≡ yes_number t.yes → DownwardGiven s i before 0 written
  test-answered z written w =
      record {
        number = sym z ∙ test-number;
        written = answered (test_refusal s i) t.refusal (yes_number (downward (round_of s) i)) before written test-number z (λ k. w ∙ ap yes_number (test-answer k));
      }

-- the gain call's, with floors or without: k is its number, r the round that is played
gained_number : (k : ℕ) (r : Round) (t : List ℕ) (i worth : ℕ) → (gained_for k r t i worth).refusal ≡ k
unfolding gained_for
gained_number zero r t i worth = refl
gained_number (suc k) r t i worth = refl

module _ (k : ℕ) (r : Round) (t : List ℕ) (i worth : ℕ) (before : ℤ) (g : Gained) (e : g ≡ gained_for k r t i worth) where
  pub gain-number : g.refusal ≡ k
  gain-number = ap (λ (x : Gained). x.refusal) e ∙ gained_number k r t i worth

  pub gain-answer : k ≡ 0 → g.gain ≡ gain_of r (round_of t) i worth
  unfolding gained_for
  gain-answer z = ap (λ (x : Gained). x.gain) e ∙ ap (λ (n : ℕ). (gained_for n r t i worth).gain) z

  gain_left : (g.refusal ≡ 0 → ⊥) → before ≡ unless_refused k (gain_of r (round_of t) i worth) before
  gain_left h = refused_leaves k g.refusal (gain_of r (round_of t) i worth) before gain-number h

  gain-put : g.refusal ≡ 0 → (written : ℤ) → written ≡ g.gain → written ≡ unless_refused k (gain_of r (round_of t) i worth) before
  gain-put z written w = answered k g.refusal (gain_of r (round_of t) i worth) before written gain-number z (λ n. w ∙ gain-answer n)

module _ (s t : List ℕ) (i worth : ℕ) (before : ℤ) (g : Gained) (e : g ≡ gained_of s t i worth) where
  pub gain-refused : (g.refusal ≡ 0 → ⊥) → GainGiven s t i worth before g.refusal before
  unfolding gained_of
  gain-refused h =
      record {
        number = gain-number (gain_refusal s t i worth) (round_of s) t i worth before g e;
        written = gain_left (gain_refusal s t i worth) (round_of s) t i worth before g e h;
      }

  pub gain-answered : g.refusal ≡ 0 → (written : ℤ) → written ≡ g.gain → GainGiven s t i worth before 0 written
  unfolding gained_of
  gain-answered z written w =
      record {
        number = sym z ∙ gain-number (gain_refusal s t i worth) (round_of s) t i worth before g e;
        written = gain-put (gain_refusal s t i worth) (round_of s) t i worth before g e z written w;
      }

module _ (f s t : List ℕ) (i worth : ℕ) (before : ℤ) (g : Gained) (e : g ≡ gained_floors_of f s t i worth) where
  pub floors-gain-refused : (g.refusal ≡ 0 → ⊥) → GainFloorsGiven f s t i worth before g.refusal before
  unfolding gained_floors_of
  floors-gain-refused h =
      record {
        number = gain-number (gain_floors_refusal f s t i worth) (with_floors (round_of s) f) t i worth before g e;
        written = gain_left (gain_floors_refusal f s t i worth) (with_floors (round_of s) f) t i worth before g e h;
      }

  pub floors-gain-answered : g.refusal ≡ 0 → (written : ℤ) → written ≡ g.gain → GainFloorsGiven f s t i worth before 0 written
  unfolding gained_floors_of
  floors-gain-answered z written w =
      record {
        number = sym z ∙ gain-number (gain_floors_refusal f s t i worth) (with_floors (round_of s) f) t i worth before g e;
        written = gain-put (gain_floors_refusal f s t i worth) (with_floors (round_of s) f) t i worth before g e z written w;
      }

-- the best page's
chosen_number : (k : ℕ) (r : Round) → (chosen_for k r).refusal ≡ k
unfolding chosen_for
chosen_number zero r = refl
chosen_number (suc k) r = refl

module _ (k : ℕ) (r : Round) (before : ℕ) (c : Chosen) (e : c ≡ chosen_for k r) where
  best-number : c.refusal ≡ k
  best-number = ap (λ (x : Chosen). x.refusal) e ∙ chosen_number k r

  best-answer : k ≡ 0 → c.total ≡ total r (best_page_of r)
  unfolding chosen_for
  best-answer z = ap (λ (x : Chosen). x.total) e ∙ ap (λ (n : ℕ). (chosen_for n r).total) z

  best_left : (c.refusal ≡ 0 → ⊥) → before ≡ unless_refused k (total r (best_page_of r)) before
  best_left h = refused_leaves k c.refusal (total r (best_page_of r)) before best-number h

  best-put : c.refusal ≡ 0 → c.total ≡ unless_refused k (total r (best_page_of r)) before
  best-put z = answered k c.refusal (total r (best_page_of r)) before c.total best-number z best-answer

module _ (s out : List ℕ) (before : ℕ) (c : Chosen) (out' : List ℕ) (given : BestGiven s out c out') where
  pub best-refused : (c.refusal ≡ 0 → ⊥) → BestPageGiven s out before c.refusal out' before
  best-refused h =
      record {
        number = best-number (best_refusal s out) (round_of s) before c given.returned;
        buffer = given.buffer;
        written = best_left (best_refusal s out) (round_of s) before c given.returned h;
      }

  pub best-answered : c.refusal ≡ 0 → BestPageGiven s out before 0 out' c.total
  best-answered z =
      record {
        number = sym z ∙ best-number (best_refusal s out) (round_of s) before c given.returned;
        buffer = given.buffer;
        written = best-put (best_refusal s out) (round_of s) before c given.returned z;
      }

module _ (f s out : List ℕ) (before : ℕ) (c : Chosen) (out' : List ℕ) (given : BestFloorsGiven f s out c out') where
  pub floors-best-refused : (c.refusal ≡ 0 → ⊥) → BestFloorsPageGiven f s out before c.refusal out' before
  floors-best-refused h =
      record {
        number = best-number (best_floors_refusal f s out) (with_floors (round_of s) f) before c given.returned;
        buffer = given.buffer;
        written = best_left (best_floors_refusal f s out) (with_floors (round_of s) f) before c given.returned h;
      }

  pub floors-best-answered : c.refusal ≡ 0 → BestFloorsPageGiven f s out before 0 out' c.total
  floors-best-answered z =
      record {
        number = sym z ∙ best-number (best_floors_refusal f s out) (with_floors (round_of s) f) before c given.returned;
        buffer = given.buffer;
        written = best-put (best_floors_refusal f s out) (with_floors (round_of s) f) before c given.returned z;
      }

bounds-number : (k : ℕ) (s : List ℕ) (i : ℕ) → (bounds_for k s i).refusal ≡ k
unfolding bounds_for
bounds-number zero s i = refl
bounds-number (suc k) s i = refl

module _ (s : List ℕ) (i start size : ℕ) (b : Bounds) (e : b ≡ bounds_of s i) where
  part-number : b.refusal ≡ part_refusal s i
  unfolding bounds_of
  part-number = ap (λ (x : Bounds). x.refusal) e ∙ bounds-number (part_refusal s i) s i

  pub part-refused : (b.refusal ≡ 0 → ⊥) → PartGiven s i start size b.refusal start size
  part-refused h =
      record {
        number = part-number;
        starts = refused_leaves (part_refusal s i) b.refusal (bytes_before s i) start part-number h;
        sized = refused_leaves (part_refusal s i) b.refusal (part_length s i) size part-number h;
      }

  pub part-answered : b.refusal ≡ 0 → PartGiven s i start size 0 b.start b.length
  part-answered z =
      record {
        number = sym z ∙ part-number;
        starts = answered (part_refusal s i) b.refusal (bytes_before s i) start b.start part-number z (λ k. ap (λ (x : Bounds). x.start) (e ∙ given-bounds s i k));
        sized = answered (part_refusal s i) b.refusal (part_length s i) size b.length part-number z (λ k. ap (λ (x : Bounds). x.length) (e ∙ given-bounds s i k));
      }

module _ (s out : List ℕ) (before : ℕ) (w : Rewritten) (out' : List ℕ) (given : CanonicalWritten s out w out') where
  pub canonical-refused : (w.refusal ≡ 0 → ⊥) → CanonicalGiven s out before w.refusal out' before
  canonical-refused h =
      record {
        number = given.number;
        buffer = given.buffer;
        written = refused_leaves (canonical_refusal s out) w.refusal (length (canonical_sheet s)) before given.number h;
      }

  pub canonical-answered : w.refusal ≡ 0 → CanonicalGiven s out before 0 out' w.length
  canonical-answered z =
      record {
        number = sym z ∙ given.number;
        buffer = given.buffer;
        written = sized (canonical_refusal s out) w.refusal (length (canonical_sheet s)) before w.length given.number z given.size;
      }

module _ (n m owner limit : ℕ) (bars out : List ℕ) (before : ℕ) (t : Written) (out' : List ℕ) (given : SlotTermsWritten n m owner limit bars out t out') where
  pub slot_terms-refused : (t.refusal ≡ 0 → ⊥) → SlotTermsGiven n m owner limit bars out before t.refusal out' before
  slot_terms-refused h =
      record {
        number = given.number;
        buffer = given.buffer;
        written =
            refused_leaves (slot_terms_refusal n m owner limit bars out) t.refusal (length (slot_terms_of n m owner limit bars)) before given.number h;
      }

  pub slot_terms-answered : t.refusal ≡ 0 → SlotTermsGiven n m owner limit bars out before 0 out' t.count
  slot_terms-answered z =
      record {
        number = sym z ∙ given.number;
        buffer = given.buffer;
        written =
            sized (slot_terms_refusal n m owner limit bars out) t.refusal (length (slot_terms_of n m owner limit bars)) before t.count given.number z
            given.count;
      }

module _ (n m owner : ℕ) (rivals out : List ℕ) (before : ℕ) (t : Written) (out' : List ℕ) (given : AboveTermsWritten n m owner rivals out t out') where
  pub above_terms-refused : (t.refusal ≡ 0 → ⊥) → AboveTermsGiven n m owner rivals out before t.refusal out' before
  above_terms-refused h =
      record {
        number = given.number;
        buffer = given.buffer;
        written = refused_leaves (above_terms_refusal n m owner rivals out) t.refusal (length (above_terms_of n m owner rivals)) before given.number h;
      }

  pub above_terms-answered : t.refusal ≡ 0 → AboveTermsGiven n m owner rivals out before 0 out' t.count
  above_terms-answered z =
      record {
        number = sym z ∙ given.number;
        buffer = given.buffer;
        written = sized (above_terms_refusal n m owner rivals out) t.refusal (length (above_terms_of n m owner rivals)) before t.count given.number z given.count;
      }

module _ (n m : ℕ) (members sets out : List ℕ) (before : ℕ) (t : Shared) (out' : List ℕ) (given : PageShared n m members sets out t out') where
  pub share_refused : (t.refusal ≡ 0 → ⊥) → SharePageGiven n m members sets out before t.refusal out' before
  share_refused h =
      record {
        number = given.number;
        buffer = given.buffer;
        written = refused_leaves (share_refusal n m members sets out) t.refusal (yes_number (can_share n m members sets)) before given.number h;
      }

  pub share_answered : t.refusal ≡ 0 → (written : ℕ) → written ≡ yes_number t.yes → SharePageGiven n m members sets out before 0 out' written
  share_answered z written w =
      record {
        number = sym z ∙ given.number;
        buffer = given.buffer;
        written =
            answered (share_refusal n m members sets out) t.refusal (yes_number (can_share n m members sets)) before written given.number z
            (λ k. w ∙ ap yes_number (given.answer ∙ sym (answered-gives (share_refusal n m members sets out) (can_share n m members sets) false k)));
      }

module _ (s : List ℕ) (before : ℕ) (l : Loss) (given : LossBounded s l) where
  pub loss_refused : (l.refusal ≡ 0 → ⊥) → LossBoundGiven s before l.refusal before
  loss_refused h = record { number = given.number; written = refused_leaves (refusal_of s) l.refusal (loss_factor s) before given.number h }

  pub loss_answered : l.refusal ≡ 0 → LossBoundGiven s before 0 l.factor
  loss_answered z =
      record { number = sym z ∙ given.number; written = sized (refusal_of s) l.refusal (loss_factor s) before l.factor given.number z given.factor }
