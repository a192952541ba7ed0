-- How the table is filled: a store of an or adds bits to one word, each constraint adds what it shuts, and those of an accepted sheet speak of the
-- round's bidders and slots alone. Assumes nothing.
use Prim.Native.Nat.{ℕ, zero, suc, ◌+◌, ◌*◌, ◌%◌, ◌<◌, ◌≤◌}
use mathlib.Core.Bool.{◌||◌}
use mathlib.Core.List.{List}
use mathlib.Core.Path.{◌≡◌, refl, sym, ◌∙◌, ap, subst}
use native.Mathlib.Omega.{arith}
use lib.Dec.{eqb}
use lib.ListN.{length, get_or}
use Rattle.basis.specs.Bits.{bit_of}
use Rattle.basis.specs.Tests.{any_below}
use Rattle.basis.proofs.BitLaws.{bit_zero}
use Rattle.sheet.specs.declared.Kind.{Kind}
use Rattle.sheet.specs.declared.Kind.TheVariants.{OwnSlot, OtherSlot, Pair}
use Rattle.sheet.specs.declared.Constraint.{Constraint}
use Rattle.sheet.specs.declared.Round.{Round}
use Rattle.sheet.specs.Accepted.{ConstraintAccepted}
use Rattle.sheet.specs.Refusal.{Accepted}
use Rattle.sheet.specs.Round.{kind_of, constraint_field, constraint_at, round_of}
use Rattle.sheet.specs.Sheet.{bidder_count, slot_count, constraint_count, owner_field, own_slot_field, other_field, other_slot_field}
use Rattle.sheet.proofs.AcceptedLaws.{accepted-sheet}
use Rattle.sheet.proofs.RoundLaws.{round_constraint}
use Rattle.best_clash.specs.EngineMarks.{SmallKind, Small, shuts, some_shuts}

-- the word tells what a seat shuts, the slot's own byte first
abbrev pub ShutWord : (table : List ℕ) → (word k i : ℕ) → Type 0
ShutWord table word k i =
    (z : ℕ) → 8 * k + z < 64 →
    bit_of word z ≡ ((bit_of (get_or table (8 * k + i) 0) (8 * k + z) || bit_of (get_or table (65 + i) 0) (8 * k + z)) || eqb (z % 8) i)

-- so do the first n words
pub record WordsTo (table shut : List ℕ) (n : ℕ) : Type 0 where
  pub size : length shut ≡ 64
  pub told : (k i : ℕ) → i < 8 → 8 * k + i < n → ShutWord table (get_or shut (8 * k + i) 0) k i

-- no constraint shuts anything in a table of 0, and each adds what it shuts
module _ (ranks : List ℕ) (r : Round) where
  pub no_shuts : (table : List ℕ) (x y : ℕ) → ((i : ℕ) → get_or table i 0 ≡ 0) → bit_of (get_or table x 0) y ≡ some_shuts ranks r 0 x y
  unfolding some_shuts any_below
  no_shuts table x y blank = ap (λ (m : ℕ). bit_of m y) (blank x) ∙ bit_zero y

  pub shuts_more : (n x y : ℕ) →
      (some_shuts ranks r n x y || shuts ranks (constraint_at r n).kind (constraint_at r n).owner.0 x y) ≡ some_shuts ranks r (suc n) x y
  unfolding some_shuts any_below
  shuts_more n x y = refl

-- a constraint of a round of n bidders and m slots
abbrev pub WithinKind : (n m : ℕ) → Kind → Type 0
WithinKind n m (OwnSlot s) = (0 < s.0) × (s.0 ≤ m)
WithinKind n m (OtherSlot i t) = (0 < i.0) × (i.0 ≤ n) × (0 < t.0) × (t.0 ≤ m)
WithinKind n m (Pair s i t) = (0 < s.0) × (s.0 ≤ m) × (0 < i.0) × (i.0 ≤ n) × (0 < t.0) × (t.0 ≤ m)

pub record Within (n m : ℕ) (q : Constraint) : Type 0 where
  pub some_owner : 0 < q.owner.0
  pub most_owner : q.owner.0 ≤ n
  pub parts : WithinKind n m q.kind

kind_within : (n m owner own other others : ℕ) → ConstraintAccepted n m owner own other others → WithinKind n m (kind_of own other others)
unfolding kind_of
kind_within n m owner zero zero others a = absurd (a.not_empty refl refl)
kind_within n m owner (suc own) zero others a = (omega arith, a.most_own)
kind_within n m owner zero (suc other) zero a = absurd (let e = a.together_back refl in omega arith)
kind_within n m owner zero (suc other) (suc others) a = (omega arith, a.most_other, omega arith, a.most_others)
kind_within n m owner (suc own) (suc other) zero a = absurd (let e = a.together_back refl in omega arith)
kind_within n m owner (suc own) (suc other) (suc others) a = (omega arith, a.most_own, omega arith, a.most_other, omega arith, a.most_others)

-- as those of an accepted sheet are
pub within-at : (s : List ℕ) → Accepted s → (k : ℕ) → k < constraint_count s → Within (bidder_count s) (slot_count s) (constraint_at (round_of s) k)
unfolding constraint_field
within-at s ok k l =
    let a = (accepted-sheet s ok).constraints k l in
    subst (Within (bidder_count s) (slot_count s)) (sym (round_constraint s ok k l))
    (record {
      some_owner = a.some_owner;
      most_owner = a.most_owner;
      parts = kind_within (bidder_count s) (slot_count s) (owner_field s k) (own_slot_field s k) (other_field s k) (other_slot_field s k) a;
    })

small_kind : (n m : ℕ) → n ≤ 8 → m ≤ 8 → (kind : Kind) → WithinKind n m kind → SmallKind kind
small_kind n m n-most m-most (OwnSlot s) (some, most) = (some, omega arith)
small_kind n m n-most m-most (OtherSlot i t) (some-i, most-i, some-t, most-t) = (omega arith, some-t, omega arith)
small_kind n m n-most m-most (Pair s i t) (some-s, most-s, some-i, most-i, some-t, most-t) = (some-s, omega arith, omega arith, some-t, omega arith)

pub within-small : (n m : ℕ) (q : Constraint) → n ≤ 8 → m ≤ 8 → Within n m q → Small q
within-small n m q n-most m-most w =
    record {
      owner_low = (let most = w.most_owner in omega arith);
      parts = small_kind n m n-most m-most q.kind w.parts;
    }
