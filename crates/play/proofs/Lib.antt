-- The cases of a play call.
pub mod PlayLaws
pub mod SaidLaws
