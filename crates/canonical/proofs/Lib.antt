-- The laws behind the functions of this crate.
pub mod OrderedLaws
pub mod WrittenLaws
pub mod PartLaws
