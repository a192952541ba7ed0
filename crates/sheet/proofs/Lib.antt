-- What acceptance means, both ways, what an accepted sheet's round has, floors under its slots, and the bytes of an encoded one.
pub mod HeaderLaws
pub mod OrderLaws
pub mod AcceptedLaws
pub mod RoundLaws
pub mod FloorLaws
pub mod EncodedLaws
