-- What the parts of the check say together, and what a sheet's first bytes say of its header.
pub mod PartLaws
