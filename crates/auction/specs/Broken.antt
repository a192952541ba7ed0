-- "When a condition is broken."
use Rattle.std.specs.Prelude.{ℕ, Bool, true, ◌&&◌, eqb}
use Rattle.basis.specs.Tests.{any_below}
use Rattle.sheet.specs.declared.Kind.{Kind}
use Rattle.sheet.specs.declared.Kind.TheVariants.{OwnSlot, OtherSlot, Pair}
use Rattle.sheet.specs.declared.Constraint.{Constraint}
use Rattle.sheet.specs.declared.Page.{Page}
use Rattle.sheet.specs.declared.Round.{Round}
use Rattle.sheet.specs.Round.{constraint_at}
use Rattle.auction.specs.Page.{at, placed}

-- "the owner is at the own place (or that is 0)"
unfoldable pub own_holds : Page → ℕ → Kind → Bool
own_holds p owner (OwnSlot k) = eqb (at p k.0) owner
own_holds p owner (OtherSlot j l) = true
own_holds p owner (Pair k j l) = eqb (at p k.0) owner

-- "the other bidder is at the other's place (or there is no other)"
unfoldable pub other_holds : Page → Kind → Bool
other_holds p (OwnSlot k) = true
other_holds p (OtherSlot j l) = eqb (at p l.0) j.0
other_holds p (Pair k j l) = eqb (at p l.0) j.0

-- "It is broken when both its parts are true." "A condition binds only if its owner has a place."
unfoldable pub broken : Page → Constraint → Bool
broken p q = (own_holds p q.owner.0 q.kind && other_holds p q.kind) && placed p q.owner.0

-- some constraint of the round is broken on the page
unfoldable pub breaks : Round → Page → Bool
breaks r p = any_below (λ i. broken p (constraint_at r i)) r.used

-- some constraint of bidder i's list is broken on the page
unfoldable pub breaks_own : Round → Page → ℕ → Bool
breaks_own r p i = any_below (λ a. eqb (constraint_at r a).owner.0 i && broken p (constraint_at r a)) r.used
