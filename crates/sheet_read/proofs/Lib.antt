-- The kinds of constraint by the source's tests, a constraint by the number that its four bytes make, and how far an accepted sheet reaches.
pub mod KindLaws
pub mod WordLaws
pub mod RoomLaws
